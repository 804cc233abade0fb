use Rattle.std.proofs.Common.{◌≡◌, codes, option_map}
use Rattle.dy_tree.specs.Fragments.{seen_fragments}
use Rattle.dy_module_forms.specs.Cuts.{left, seen_slice, parts_behind, ended, each, read_before}
use Rattle.dy_module_forms.specs.Clauses.{clause_of, clauses_of}
use Rattle.dy_module_forms.proofs.clauses.clauses_of.Given as goal

abbrev pub invariant-loop-next : goal.invariant-loop-next
invariant-loop-next l = read_before l.clauses (each (clause_of l.kind) (ended (parts_behind (codes ";") (option_map seen_slice l.next)))) ≡ clauses_of l.kind (seen_fragments l.fn.fragments)

abbrev pub decreases-loop-next : goal.decreases-loop-next
decreases-loop-next l = left l.next
