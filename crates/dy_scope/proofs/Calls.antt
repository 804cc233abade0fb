-- Calls and conditionals, made of their parts.
use Rattle.std.proofs.Common.{◌≡◌, List, map, refl, sym, ap, ◌∙◌, OnOk}
use Rattle.std.specs.Prelude.{Result, Ok, Err}
use Rattle.std.specs.declared.vec.Vec.{Vec}
use Rattle.std.specs.declared.boxed.Box.{Box}
use Rattle.std.specs.declared.alloc.Global.{Global}
use Rattle.dy_term.specs.declared.draft.DraftTerm.{DraftTerm}
use Rattle.dy_term.specs.declared.draft.DraftTerm.TheVariants as terms
use Rattle.dy_term.specs.declared.term.Term.{Term, Cond as a_cond}
use Rattle.dy_term.specs.Drafts.{Core, Cores, cores_of, seen_term, seen_pair}
use Rattle.dy_names.specs.Naming.{Locals}
use Rattle.dy_names.specs.Outside.{Outside}
use Rattle.dy_binding.specs.declared.progress.Progress.{Progress}
use Rattle.dy_binding.specs.declared.names.Head.{Head}
use Rattle.dy_binding.specs.declared.names.Head.TheVariants as heads
use Rattle.dy_binding.specs.Names.{head_of, called}
use Rattle.dy_binding.specs.Reads.{Reads}
use Rattle.dy_resolution.specs.Terms.{core_term, core_terms}
use Rattle.dy_scope.specs.declared.made.Called.{Called}
use Rattle.dy_scope.specs.Parts.{AreBranches, call_of, called_by, core_called}
use Rattle.dy_scope.proofs.Arms.{call_is, cond_is}

-- What holds, holds where an answer is given.
pub on_ok : {A E : Type 0} (answer : Result A E) (P : Type 0) → P → OnOk answer P
on_ok (Ok _) P p = p
on_ok (Err _) P p = tt

called_parts : (h : Head) (function : Reads Term) (arguments : Reads (List Term))
    (locals : Locals) (p : Progress) → called h function arguments locals p
    ≡ (let c = called_by h function locals p in
    let a = arguments locals c.1 in
    (call_of c.0 a.0, a.1))
called_parts (heads.Generic generic) function arguments locals p = refl
called_parts heads.NextMethod function arguments locals p = refl
called_parts heads.Value function arguments locals p = refl

module _ (out : Outside) (d : DraftTerm) (locals now : Locals) (p q r : Progress) where
  pub call_made : (b : Box DraftTerm Global) (v : DraftTerm) (ts : Vec DraftTerm Global)
      (c : Called) (found : List Term)
      → d ≡ terms.Call b ts → v ≡ b.value
      → c ≡ (core_called out (seen_term v) locals p).0
      → q ≡ (core_called out (seen_term v) locals p).1 → now ≡ locals
      → found ≡ (core_terms out (cores_of (map seen_term ts.items)) now q).0
      → r ≡ (core_terms out (cores_of (map seen_term ts.items)) now q).1
      → (call_of c found ≡ (core_term out (seen_term d) locals p).0)
      × (r ≡ (core_term out (seen_term d) locals p).1)
  call_made b v ts c found de ve ce qe ne fe re =
      let function = core_term out (seen_term b.value) in
      let arguments = core_terms out (cores_of (map seen_term ts.items)) in
      let c0 = ce ∙ (λ j. (core_called out (seen_term (ve j)) locals p).0) in
      let c1 = qe ∙ (λ j. (core_called out (seen_term (ve j)) locals p).1) in
      let a0 = fe ∙ (λ j. (arguments (ne j) (c1 j)).0) in
      let a1 = re ∙ (λ j. (arguments (ne j) (c1 j)).1) in
      let parts = called_parts (head_of out (seen_term b.value) locals) function arguments locals p in
      let whole = ap (λ x. core_term out x locals p) (call_is d b ts de) in (
        (λ i. call_of (c0 i) (a0 i)) ∙ ap (λ x. x.0) (sym parts) ∙ ap (λ x. x.0) whole,
        a1 ∙ ap (λ x. x.1) (sym parts) ∙ ap (λ x. x.1) whole,
      )

  pub cond_made : (bs : Vec (DraftTerm × DraftTerm) Global) (b : Box DraftTerm Global)
      (v : DraftTerm) (found : List (Term × Term)) (l : Term)
      → d ≡ terms.Cond bs b → v ≡ b.value
      → AreBranches out (map seen_pair bs.items) locals p found q → now ≡ locals
      → l ≡ (core_term out (seen_term v) now q).0 → r ≡ (core_term out (seen_term v) now q).1
      → (a_cond found l ≡ (core_term out (seen_term d) locals p).0)
      × (r ≡ (core_term out (seen_term d) locals p).1)
  cond_made bs b v found l de ve branches ne le re =
      let read = sym (branches (seen_term b.value)) in
      let l0 = le ∙ (λ j. (core_term out (seen_term (ve j)) (ne j) q).0) in
      let l1 = re ∙ (λ j. (core_term out (seen_term (ve j)) (ne j) q).1) in
      let whole = ap (λ x. core_term out x locals p) (cond_is d bs b de) in (
        (λ i. a_cond found (l0 i)) ∙ (λ i. a_cond (read i).0.0 (read i).0.1)
            ∙ ap (λ x. x.0) whole,
        l1 ∙ ap (λ x. x.1) read ∙ ap (λ x. x.1) whole,
      )
