use Rattle.std.proofs.Common.{◌≡◌, length}
use Rattle.dy_tree.specs.Fragments.{seen_fragments}
use Rattle.dy_module_forms.specs.Forms.{forms_of, forms_before}
use Rattle.dy_module_forms.proofs.forms.read_forms.Given as goal

-- the forms that were read, and what the rest is read as
abbrev pub invariant-loop-rest : goal.invariant-loop-rest
invariant-loop-rest l = forms_before l.forms (forms_of (seen_fragments l.rest)) ≡ forms_of (seen_fragments l.fn.fragments)

abbrev pub decreases-loop-rest : goal.decreases-loop-rest
decreases-loop-rest l = length l.rest
