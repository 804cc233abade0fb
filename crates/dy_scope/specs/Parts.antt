-- Parts of a draft, one after the other, where the same locals are in force.
use Rattle.std.specs.Prelude.{◌≡◌, ◌++◌, ℕ, Bool, List, Option, Some}
use Rattle.dy_term.specs.declared.types.DyType.{DyType}
use Rattle.dy_term.specs.declared.term.Term.{Term, Call, Site, Next}
use Rattle.dy_term.specs.declared.term.ForClause.{ForClause}
use Rattle.dy_term.specs.declared.draft.DraftTerm.{DraftTerm}
use Rattle.dy_term.specs.Drafts.{Core, Choice, MaybeCore, CoreTest, CoreClauses, CoreCatches}
use Rattle.dy_term.specs.Drafts.{choice_of}
use Rattle.dy_names.specs.Outside.{Outside}
use Rattle.dy_binding.specs.declared.progress.Apart.{Apart}
use Rattle.dy_binding.specs.declared.names.Head.{Head}
use Rattle.dy_binding.specs.declared.names.Head.TheVariants as heads
use Rattle.dy_binding.specs.declared.progress.Progress.{Progress}
use Rattle.dy_binding.specs.Names.{head_of}
use Rattle.dy_binding.specs.Reads.{Reads}
use Rattle.dy_names.specs.Naming.{Locals}
use Rattle.dy_scope.specs.declared.made.Called.{Called}
use Rattle.dy_scope.specs.declared.made.Called.TheVariants as call
use Rattle.dy_resolution.specs.Terms.{core_term, core_choice, core_maybe, core_clauses, core_test}
use Rattle.dy_resolution.specs.Terms.{core_catches}

abbrev pub call_of : Called → List Term → Term
call_of (call.Generic generic) arguments = Site generic arguments
call_of call.NextMethod arguments = Next (Some arguments)
call_of (call.Value function) arguments = Call function arguments

abbrev pub called_by : Head → Reads Term → Reads Called
called_by (heads.Generic generic) function locals p = (call.Generic generic, p)
called_by heads.NextMethod function locals p = (call.NextMethod, p)
called_by heads.Value function locals p =
    let f = function locals p in
    (call.Value f.0, f.1)

module _ (out : Outside) where
  -- what a call calls
  abbrev pub core_called : Core → Reads Called
  core_called function locals p =
      called_by (head_of out function locals) (core_term out function) locals p

  -- The branches of a conditional are read as these, and what is behind them from there on.
  abbrev pub AreBranches : List (Core × Core) → Locals → Progress → List (Term × Term) → Progress
      → Type 0
  AreBranches branches locals before found after = (last : Core)
      → core_choice out (choice_of branches last) locals before
      ≡ (let l = core_term out last locals after in ((found, l.0), l.1))

  -- the clauses, the test and the body of a `for`, whose variables are in force
  abbrev pub core_turns : CoreClauses → CoreTest → Core → List Apart → ℕ
      → Reads (List ForClause × Option (Bool × Term) × Term)
  core_turns clauses test inner firsts n locals p =
      let c = core_clauses out clauses firsts n locals p in
      let t = core_test out test locals c.1 in
      let b = core_term out inner locals t.1 in
      ((c.0, t.0, b.0), b.1)

  -- the bodies and the clauses of a `block`, whose exit procedure is in force
  abbrev pub core_bodies : Core → MaybeCore → MaybeCore → CoreCatches → ℕ
      → Reads (Term × Option Term × Option Term × List (Option ℕ × DyType × Term))
  core_bodies inner afterwards cleanup clauses n locals p =
      let b = core_term out inner locals p in
      let a = core_maybe out afterwards locals b.1 in
      let c = core_maybe out cleanup locals a.1 in
      let e = core_catches out clauses n locals c.1 in
      ((b.0, a.0, c.0, e.0), e.1)
