use Rattle.std.proofs.Common.{◌≡◌, ℕ, true, false, Some, slice_get, subst, ◌∙◌, rules}
use Rattle.dy_modules.specs.declared.clause.ModuleForm.{ModuleForm}
use Rattle.std.proofs.Common.{List}
use Rattle.dy_modules.specs.Sees.{IsGrounded}
use Rattle.dy_modules.specs.Order.{is_made, AreRight}
use Rattle.dy_modules.specs.Builds.{all_clear}
use Rattle.dy_modules.proofs.Clear.{is_clear_then, not_clear}
use Rattle.dy_module_tables.proofs.module_table.ModuleTable.of_forms.Goals as goal

pub returns-then-not-all_clear-clause-none : goal.returns-then-not-all_clear-clause-none
returns-then-not-all_clear-clause-none c = λ _ clear.
    let ms = c.args.modules in
    let done = c.in_ok-tables.tables.items in
    let right = subst (λ (l : List ModuleForm). AreRight l done) c.as_slice.ensures c.in_ok-tables.ensures.right in
    let all = subst (λ (l : List ModuleForm). (m : ℕ) → IsGrounded l m → is_made (slice_get done m) ≡ true) c.as_slice.ensures c.in_ok-tables.ensures.all in
    let never : all_clear done ≡ false = search rules in
    not_clear ms done right all never clear

pub returns-clause-clear : goal.returns-clause-clear
returns-clause-clear c = λ t _.
    let ms = c.args.modules in
    let done = c.in_ok-tables.tables.items in
    let right = subst (λ (l : List ModuleForm). AreRight l done) c.as_slice.ensures c.in_ok-tables.ensures.right in
    let clear : all_clear done ≡ true = search rules in
    is_clear_then ms done right clear
