-- What the tests of methods decide.
use Rattle.std.proofs.Common.{◌≡◌, ◌↔◌, Bool, true, false, true≢false, IsTrue, List, All, Any, Option, Some, sym, ap, subst, ◌∙◌}
use Rattle.dy_base.specs.declared.ids.GenericId.{GenericId}
use Rattle.dy_base.specs.declared.ids.MethodId.{MethodId}
use Rattle.dy_term.specs.declared.types.DyType.{DyType}
use Rattle.dy_term.specs.declared.types.Shape1.{Shape1}
use Rattle.dy_term.specs.declared.rows.MethodRow.{MethodRow}
use Rattle.dy_term.specs.declared.rows.Program.{Program}
use Rattle.dy_order.specs.Methods.{method_at, specializers_of}
use Rattle.dy_order.specs.Precedence.{AreInstances, IsApplicable, IsAsSpecific, IsMoreSpecific, positions, Precedes}

module _ (program : Program) (args : List Shape1) where
  one_row : (o : Option MethodRow) (r s : MethodRow) → o ≡ Some r → o ≡ Some s → s ≡ r
  one_row o r s e f = cc

  pub applicable_by : (generic : GenericId) (method : MethodId) (row : MethodRow) (types : List DyType) (t : Bool) → types ≡ row.params.required → method_at program method ≡ Some row → row.generic ≡ generic
      → IsTrue t ↔ AreInstances program args types → IsTrue t ↔ IsApplicable program generic args method
  applicable_by generic method row types t same at own told = (
    λ h. (row, at, own, subst (λ (v : List DyType). AreInstances program args v) same (told.0 h)),
    λ a. (let (other, there, owned, holds) = a in
        told.1 (subst (λ (v : List DyType). AreInstances program args v) (ap (λ (v : MethodRow). v.params.required) (one_row (method_at program method) row other at there) ∙ sym same) holds)),
  )

  abbrev AllAsSpecific : List DyType → List DyType → Type 0
  AllAsSpecific types others = All (λ place. IsAsSpecific program place.0 place.1.0 place.1.1) (positions args types others)

  abbrev SomeMoreSpecific : List DyType → List DyType → Type 0
  SomeMoreSpecific types others = Any (λ place. IsMoreSpecific program place.0 place.1.0 place.1.1) (positions args types others)

  module _ (a b : MethodId) (types others : List DyType) (e : types ≡ specializers_of program a) (f : others ≡ specializers_of program b) where
    moved : (P : List DyType → List DyType → Type 0) → P types others → P (specializers_of program a) (specializers_of program b)
    moved P p = subst (λ (v : List DyType). P v (specializers_of program b)) e (subst (λ (v : List DyType). P types v) f p)

    pub precedes_then : (s t : Bool) → s ≡ true → IsTrue s ↔ AllAsSpecific types others → IsTrue t ↔ SomeMoreSpecific types others → IsTrue t ↔ Precedes program args a b
    precedes_then s t is all some =
        let all2 = moved (λ v w. IsTrue s ↔ AllAsSpecific v w) all in
        let some2 = moved (λ v w. IsTrue t ↔ SomeMoreSpecific v w) some in
        (λ h. (all2.0 is, some2.0 h), λ p. some2.1 p.1)

    pub precedes_else : (s : Bool) → s ≡ false → IsTrue s ↔ AllAsSpecific types others → IsTrue s ↔ Precedes program args a b
    precedes_else s is all =
        let all2 = moved (λ v w. IsTrue s ↔ AllAsSpecific v w) all in
        (λ h. absurd (true≢false (sym h ∙ is)), λ p. all2.1 p.0)
