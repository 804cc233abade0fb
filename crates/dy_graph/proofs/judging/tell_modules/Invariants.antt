use Rattle.std.proofs.Common.{◌≡◌, ℕ, ◌<◌, true, [], slice_get}
use Rattle.dy_module_forms.specs.declared.written.Form.{Form}
use Rattle.dy_modules.specs.Order.{is_made}
use Rattle.dy_library_form.specs.declared.found.Found.{Found}
use Rattle.dy_graph.specs.Faults.{Adds, IsModuleFault, IsSingle}
use Rattle.dy_graph.proofs.Added.{Before}
use Rattle.dy_graph.proofs.judging.tell_modules.Given as goal

-- the faults of the modules so far are told
abbrev pub invariant-loop-number : goal.invariant-loop-number
invariant-loop-number l = record {
  adds : Adds l.fn.found l.found (Before l.forms (λ (j : ℕ) (form : Form) (f : Found). IsModuleFault l.naming.own l.naming.imported l.made.modules.now j form f) l.number);
  quiet : l.found ≡ [] → (m : ℕ) → m < l.number → is_made (slice_get l.made.tables.now m) ≡ true → IsSingle l.made.modules.now m;
}
