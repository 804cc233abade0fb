use Rattle.std.proofs.Common.{ℕ}
use Rattle.dy_module_forms.specs.declared.written.Placed.{Placed}
use Rattle.dy_library_form.specs.declared.found.Found.{Found}
use Rattle.dy_graph.specs.Faults.{Adds, IsClauseFault}
use Rattle.dy_graph.proofs.Added.{Before}
use Rattle.dy_graph.proofs.judging.tell_clauses.Given as goal

-- the faults of the clauses so far are told
abbrev pub invariant-loop-placed : goal.invariant-loop-placed
invariant-loop-placed l =
    Adds l.fn.found l.found (Before l.form.clauses (λ (j : ℕ) (p : Placed) (f : Found). IsClauseFault l.naming.own l.naming.imported l.made.modules.now l.number p.place p.clause f) l.placed-index)
