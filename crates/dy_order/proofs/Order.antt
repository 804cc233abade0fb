-- Laws of precedence.
use Rattle.std.proofs.Common.{◌≡◌, ℕ, zero, suc, ◌<◌, List, [], ◌∷◌, length, get_or, Option, Some, position, inl, inr, refl, sym, ap, subst, ◌∙◌, arith}
use Rattle.dy_base.specs.declared.ids.ClassId.{ClassId}
use Rattle.dy_base.specs.declared.ids.MethodId.{MethodId}
use Rattle.dy_base.specs.Orders.{is_class}
use Rattle.dy_term.specs.declared.types.DyType.{DyType}
use Rattle.dy_term.specs.declared.types.Shape1.{Shape1}
use Rattle.dy_term.specs.declared.rows.Program.{Program}
use Rattle.dy_types.specs.Classes.{order_of}
use Rattle.dy_order.specs.Methods.{specializers_of}
use Rattle.dy_order.specs.Precedence.{one_class, IsBefore, IsEarlier, IsAsSpecific, IsMoreSpecific, positions, Precedes}

abbrev Position : Type 0
Position = Shape1 × (DyType × DyType)

abbrev swap : Position → Position
swap p = (p.0, (p.1.1, p.1.0))

-- the positions of two methods are those of the other way round
other_way : (args : List Shape1) (types others : List DyType) (k : ℕ) (d : Position) → k < length (positions args types others)
    → (k < length (positions args others types)) × (get_or (positions args others types) k (swap d) ≡ swap (get_or (positions args types others) k d))
other_way [] types others k d h = absurd (omega arith)
other_way (x ∷ args) [] others k d h = absurd (omega arith)
other_way (x ∷ args) (a ∷ types) [] k d h = absurd (omega arith)
other_way (x ∷ args) (a ∷ types) (b ∷ others) zero d h = (omega arith, refl)
other_way (x ∷ args) (a ∷ types) (b ∷ others) (suc k) d h = let (l, e) = other_way args types others k d (omega arith) in (omega (arith, l), e)

pub asymmetric : (program : Program) (args : List Shape1) (a b : MethodId) → Precedes program args a b → Precedes program args b a → ⊥
asymmetric program args a b before after =
    let (k, x, h, e, more) = before.1 in
    let (l, same) = other_way args (specializers_of program a) (specializers_of program b) k x h in
    let there : IsAsSpecific program x.0 x.1.1 x.1.0 = subst (λ (v : Position). IsAsSpecific program v.0 v.1.0 v.1.1) (same ∙ ap swap e) (after.0 k (swap x) l) in
    more.1 there

some_one : {A : Type 0} (o : Option A) (a b : A) → o ≡ Some a → o ≡ Some b → a ≡ b
some_one o a b e f = cc

-- by their first places no two classes stand before each other
places_asymmetric : (classes : List ClassId) (a b c d : ClassId) → a ≡ d → b ≡ c → IsBefore a b classes → IsBefore c d classes → ⊥
places_asymmetric classes a b c d e f (i, j, at, behind, less) (k, l, at2, behind2, less2) =
    let m = some_one (position (is_class a) classes) i l at (subst (λ (v : ClassId). position (is_class v) classes ≡ Some l) (sym e) behind2) in
    let n = some_one (position (is_class b) classes) j k behind (subst (λ (v : ClassId). position (is_class v) classes ≡ Some k) (sym f) at2) in
    omega (arith, m, n, less, less2)

no_way_back : (program : Program) (shape : Shape1) (type other : DyType) → IsEarlier program shape type other → IsAsSpecific program shape other type → ⊥
no_way_back program shape type other (a, b, one, two, unrelated, before) (inl below) = unrelated.1 below
no_way_back program shape type other (a, b, one, two, unrelated, before) (inr (c, d, three, four, apart, after)) =
    places_asymmetric (order_of program shape.class) a b c d (some_one (one_class type.members) a d one four) (some_one (one_class other.members) b c two three) before after

pub earlier : (program : Program) (shape : Shape1) (type other : DyType) → IsEarlier program shape type other → IsMoreSpecific program shape type other
earlier program shape type other e = (inr e, no_way_back program shape type other e)
