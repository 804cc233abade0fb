use Rattle.std.proofs.Common.{◌≡◌, ◌+◌, ◌++◌, ◌∷◌, length, map, drop, Some, slice_get, refl, sym, ap, ◌∙◌}
use Rattle.std.proofs.lemmas.Option.{slice_get_read}
use Rattle.dy_modules.proofs.Rows.{one_more, dropped}
use Rattle.dy_module_numbers.specs.Numbers.{outside_form, numbered_after, after_exported, library_numbers}
use Rattle.dy_module_numbers.proofs.Outsides.{turn_forms, turn_numbers}
use Rattle.dy_module_numbers.proofs.outside.add_exported.Goals as goal

pub loop-library-preserved : goal.loop-library-preserved
loop-library-preserved c =
    let used = c.args.used.now in
    let i = c.loop-library.library-index in
    let library = c.library-item.result in
    let old = c.loop-library.forms.items in
    let new = c.add_modules.new.forms.items in
    let lists = c.loop-library.libraries.items in
    let numbers = c.in_ok-add_modules.field-0 in
    let rest = drop (i + 1) used in
    let at : slice_get used i ≡ Some library = slice_get_read used (length used) i library refl c.loop-library-test.true c.library-item.is in
    let split : drop i used ≡ library ∷ rest = dropped used i library at ∙ ap (λ j. library ∷ drop j used) (one_more i) in
    let more : new ≡ old ++ map outside_form library.modules = c.in_ok-add_modules.ensures.forms ∙ ap (λ rows. old ++ map outside_form rows) c.as_slice.ensures in
    let are : numbers ≡ numbered_after _ (length old) library.modules = c.in_ok-add_modules.ensures.numbers ∙ ap (numbered_after _ (length old)) c.as_slice.ensures in
    record {
      forms = turn_forms old new library rest more ∙ ap (after_exported old) (sym split) ∙ c.loop-library.invariant.forms;
      numbers = ap (λ l. l ++ library_numbers (length new) rest) c.in_ok-push.ensures.items ∙ turn_numbers old new library rest more lists numbers are
          ∙ ap (λ l. lists ++ library_numbers (length old) l) (sym split) ∙ c.loop-library.invariant.numbers;
    }
