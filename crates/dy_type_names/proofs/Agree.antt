-- Two standings of one library agree.
use Rattle.std.proofs.Common.{◌≡◌, ℕ, zero, suc, ◌<◌, Bool, true, false, List, [], refl, sym, ap, ◌∙◌, arith}
use Rattle.std.specs.Prelude.{Option, Some, None, IsTrue, if◌then◌else◌}
use Rattle.std.specs.Option.{is_some}
use Rattle.std.proofs.Math.Path.{fun_ext}
use Rattle.std.proofs.lemmas.Bool.{false≢true}
use Rattle.dy_base.specs.declared.ids.BindingId.{BindingId}
use Rattle.dy_tree.specs.declared.token.Token.{Token}
use Rattle.dy_term.specs.Types.{CoreType}
use Rattle.dy_names.specs.Naming.{Table}
use Rattle.dy_rings.specs.Rings.{In}
use Rattle.dy_type_names.specs.declared.standing.Standing.{Standing}
use Rattle.dy_type_names.specs.declared.standing.Standing.TheVariants.{Faulty}
use Rattle.dy_type_names.specs.Members.{ReadType, read_members}
use Rattle.dy_type_names.specs.Constants.{Constant, names_in, written_as, Uses, ring_faults}
use Rattle.dy_type_names.specs.Standings.{standing_of, AreStanding, AreOne}
use Rattle.dy_type_names.proofs.ReadParts.{read_same}

same_truth : (p q : Bool) → (IsTrue p → IsTrue q) → (IsTrue q → IsTrue p) → p ≡ q
same_truth true true there back = refl
same_truth true false there back = sym (there refl)
same_truth false true there back = back refl
same_truth false false there back = refl

same_choice : (p q : Bool) (s t : Standing) → p ≡ q → (p ≡ false → s ≡ t) → (if p then Faulty else s) ≡ (if q then Faulty else t)
same_choice true true s t e h = refl
same_choice false false s t e h = h refl
same_choice true false s t e h = absurd (false≢true (sym e))
same_choice false true s t e h = absurd (false≢true e)

module _ (table : Table) (library : ℕ) (constants : List Constant) (others a b : BindingId → Standing)
    (A : AreStanding table library constants others a) (B : AreStanding table library constants others b) where
  pub rings_same : (x : BindingId) → A.on_ring x ≡ B.on_ring x
  rings_same x = same_truth (A.on_ring x) (B.on_ring x) (λ t. (B.rings x).1 ((A.rings x).0 t)) (λ t. (A.rings x).1 ((B.rings x).0 t))

  -- of what a constant uses, where those of a lower rank agree
  agree_used : (n : ℕ) → ((u : BindingId) → A.rank u < n → a u ≡ b u) → (x : BindingId) → A.rank x < suc n → (type : CoreType) → written_as table library constants x ≡ Some type → A.on_ring x ≡ false
      → (name : Token) (u : BindingId) → In name (names_in type) → table name ≡ Some u → (w : Option CoreType) → written_as table library constants u ≡ w → a u ≡ b u
  agree_used n below x l type e off name u i o None f = A.other u f ∙ sym (B.other u f)
  agree_used n below x l type e off name u i o (Some used) f =
      let uses : Uses table library constants x u = record { type = type; written = e; name = name; names = i; owner = o; is = ap is_some f } in
      let less : A.rank u < A.rank x = A.behind x u off uses in
      below u (omega (arith, less, l))

  agree_at : (n : ℕ) → ((u : BindingId) → A.rank u < n → a u ≡ b u) → (x : BindingId) → A.rank x < suc n → (w : Option CoreType) → written_as table library constants x ≡ w → a x ≡ b x
  agree_at n below x l None e = A.other x e ∙ sym (B.other x e)
  agree_at n below x l (Some type) e =
      A.constant x type e
      ∙ same_choice (A.on_ring x) (B.on_ring x) (standing_of (read_members a table [] type)) (standing_of (read_members b table [] type)) (rings_same x)
      (λ off. ap (λ (r : ReadType). standing_of r) (read_same table [] a b type (λ name u i o. agree_used n below x l type e off name u i o (written_as table library constants u) refl)))
      ∙ sym (B.constant x type e)

  agree_below : (n : ℕ) (x : BindingId) → A.rank x < n → a x ≡ b x
  agree_below zero x l = absurd (omega (arith, l))
  agree_below (suc n) x l = agree_at n (agree_below n) x l (written_as table library constants x) refl

  pub agree : (x : BindingId) → a x ≡ b x
  agree x = agree_below (suc (A.rank x)) x (omega arith)

pub are_one : AreOne
are_one = record {
  standing = λ table library constants others a b A B x. agree table library constants others a b A B x;
  faults = λ table library constants others a b told again A B.
      A.told ∙ ap (λ (on : BindingId → Bool). ring_faults table library on [] constants)
      (fun_ext (λ x. rings_same table library constants others a b A.are B.are x)) ∙ sym B.told;
}
