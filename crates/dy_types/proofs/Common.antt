-- Two members can meet exactly where something lies below both.
use Rattle.std.proofs.Common.{◌≡◌, ℕ, ℤ, ◌≤ℤ◌, ◌<◌, ◌⊎◌, inl, inr, List, Option, Some, length, get_or, slice_get, IsSome, Contains, refl, sym, ap, subst, ◌∙◌, arith}
use Rattle.std.specs.Option.{is_some}
use Rattle.std.proofs.lemmas.Int.{ints}
use Rattle.std.proofs.lemmas.Option.{slice_get-get_or}
use Rattle.dy_base.specs.declared.ids.ClassId.{ClassId}
use Rattle.dy_term.specs.declared.literal.Literal.{Literal}
use Rattle.dy_term.specs.declared.literal.Literal.TheVariants.{Int}
use Rattle.dy_term.specs.declared.types.Member.{Member}
use Rattle.dy_term.specs.declared.types.Member.TheVariants.{Class, Single, SingleClass, Range}
use Rattle.dy_term.specs.declared.rows.ClassRow.{ClassRow}
use Rattle.dy_term.specs.declared.rows.LibraryRow.{LibraryRow}
use Rattle.dy_term.specs.declared.rows.Program.{Program}
use Rattle.dy_types.specs.Classes.{order_in, row_in, order_of, IsAtOrBelow, integer, literal_class, class_of_classes}
use Rattle.dy_types.specs.Members.{IsBetween, IsBelow, CanMeet, HaveCommonClass}
use Rattle.dy_types.specs.Laws.{IsFilled}
use Rattle.dy_types.specs.Common.{IsThere, HaveCommon}
use Rattle.dy_types.proofs.Below.{two_ints, int_at, int_from, below_reflexive}
use Rattle.dy_types.proofs.Meeting.{classes_meet, meeting_turned}

-- below a class and a member that is no class
under_class : (p : Program) (c : ClassId) (n x : Member) → IsBelow p x (Class c) → IsBelow p x n → CanMeet p (Class c) n
under_class p c (Class d) (Class k) h g = classes_meet p k c d h g
under_class p c (Class d) (Single v) h g = classes_meet p (literal_class v) c d h g
under_class p c (Class d) (SingleClass k) h g = classes_meet p class_of_classes c d h g
under_class p c (Class d) (Range l u) h g = classes_meet p integer c d h g
under_class p c (Single w) (Class k) h g = absurd g
under_class p c (Single w) (Single v) h g = inr (subst (λ (x : Literal). IsAtOrBelow p (literal_class x) c) g h)
under_class p c (Single w) (SingleClass k) h g = absurd g
under_class p c (Single w) (Range l u) h g = inr (int_at p w l c g.0 h)
under_class p c (SingleClass d) (Class k) h g = absurd g
under_class p c (SingleClass d) (Single v) h g = absurd g
under_class p c (SingleClass d) (SingleClass k) h g = inr h
under_class p c (SingleClass d) (Range l u) h g = absurd g
under_class p c (Range a b) (Class k) h g = absurd g
under_class p c (Range a b) (Single v) h g = inr (int_from p v g.0 c g.1 h)
under_class p c (Range a b) (SingleClass k) h g = absurd g
under_class p c (Range a b) (Range l u) h g = inr h

-- below a single value
under_value : (p : Program) (v : Literal) (n x : Member) → IsBelow p x (Single v) → IsBelow p x n → CanMeet p (Single v) n
under_value p v (Class d) x h g = meeting_turned p (Class d) (Single v) (under_class p d (Single v) x g h)
under_value p v n (Class k) h g = absurd h
under_value p v n (SingleClass k) h g = absurd h
under_value p v (Single w) (Single u) h g = inl (sym h ∙ g)
under_value p v (Single w) (Range l u) h g = inl (h.0 ∙ sym g.0)
under_value p v (SingleClass d) (Single u) h g = absurd g
under_value p v (SingleClass d) (Range l u) h g = absurd g
under_value p v (Range a b) (Single u) h g = inl (g.0, sym h ∙ g.1, g.2)
under_value p v (Range a b) (Range l u) h g =
    let same : l ≡ u = two_ints v l u h.0 h.1 in
    inl (l, h.0, (g.0, subst (λ (n : ℤ). n ≤ℤ b) (sym same) g.1))

-- below a class itself
under_itself : (p : Program) (c : ClassId) (n x : Member) → IsBelow p x (SingleClass c) → IsBelow p x n → CanMeet p (SingleClass c) n
under_itself p c (Class d) x h g = meeting_turned p (Class d) (SingleClass c) (under_class p d (SingleClass c) x g h)
under_itself p c (Single w) x h g = meeting_turned p (Single w) (SingleClass c) (under_value p w (SingleClass c) x g h)
under_itself p c n (Class k) h g = absurd h
under_itself p c n (Single v) h g = absurd h
under_itself p c n (Range l u) h g = absurd h
under_itself p c (SingleClass d) (SingleClass k) h g = inl (sym h ∙ g)
under_itself p c (Range a b) (SingleClass k) h g = absurd g

-- below two ranges
under_ranges : (p : Program) (a b c d : ℤ) (x : Member) → IsFilled x → IsBelow p x (Range a b) → IsBelow p x (Range c d) → CanMeet p (Range a b) (Range c d)
under_ranges p a b c d (Class k) filled h g = absurd h
under_ranges p a b c d (Single v) filled h g =
    let same : g.0 ≡ h.0 = two_ints v g.0 h.0 g.1 h.1 in
    (h.0, h.2, subst (λ (n : ℤ). IsBetween c d n) same g.2)
under_ranges p a b c d (SingleClass k) filled h g = absurd h
under_ranges p a b c d (Range l u) filled h g = (l, (h.0, omega (arith, ints, filled, h.1)), (g.0, omega (arith, ints, filled, g.1)))

under_both : (p : Program) (m n x : Member) → IsFilled x → IsBelow p x m → IsBelow p x n → CanMeet p m n
under_both p (Class c) n x filled h g = under_class p c n x h g
under_both p (Single v) n x filled h g = under_value p v n x h g
under_both p (SingleClass c) n x filled h g = under_itself p c n x h g
under_both p (Range a b) (Class d) x filled h g = meeting_turned p (Class d) (Range a b) (under_class p d (Range a b) x g h)
under_both p (Range a b) (Single w) x filled h g = meeting_turned p (Single w) (Range a b) (under_value p w (Range a b) x g h)
under_both p (Range a b) (SingleClass d) x filled h g = meeting_turned p (SingleClass d) (Range a b) (under_itself p d (Range a b) x g h)
under_both p (Range a b) (Range c d) x filled h g = under_ranges p a b c d x filled h g

there_filled : (p : Program) (x : Member) → IsThere p x → IsFilled x
there_filled p (Class c) h = tt
there_filled p (Single v) h = tt
there_filled p (SingleClass c) h = tt
there_filled p (Range a b) h = absurd h

common_filled : (p : Program) (m n x : Member) → IsFilled m → IsFilled n → ((x ≡ m) ⊎ (x ≡ n)) ⊎ IsThere p x → IsFilled x
common_filled p m n x first second (inl (inl e)) = subst IsFilled (sym e) first
common_filled p m n x first second (inl (inr e)) = subst IsFilled (sym e) second
common_filled p m n x first second (inr there) = there_filled p x there

pub meets_by_common : (p : Program) (m n : Member) → IsFilled m → IsFilled n → HaveCommon p m n → CanMeet p m n
meets_by_common p m n first second h = under_both p m n h.0 (common_filled p m n h.0 first second h.1) h.2 h.3

-- the class at the place of a row
abbrev class_at : ℕ → ℕ → ClassId
class_at i j = record { 0 = record { library = i; row = j } }

found : {X : Type 0} (xs : List X) (k : ℕ) (x : X) → k < length xs → get_or xs k x ≡ x → slice_get xs k ≡ Some x
found xs k x within is = slice_get-get_or xs k x within ∙ ap Some is

row_found : (p : Program) (i j : ℕ) (library : LibraryRow) (row : ClassRow) → slice_get p.libraries i ≡ Some library → slice_get library.classes j ≡ Some row → row_in j (slice_get p.libraries i) ≡ Some row
row_found p i j library row at_library at_row = ap (row_in j) at_library ∙ at_row

has_row : (o : Option ClassRow) (row : ClassRow) → o ≡ Some row → IsSome o
has_row o row e = ap is_some e

common_class : (p : Program) (c d : ClassId) → HaveCommonClass p c d → HaveCommon p (Class c) (Class d)
common_class p c d h =
    let g = h.4 in
    let k = class_at h.0 g.0 in
    let is : row_in g.0 (slice_get p.libraries h.0) ≡ Some g.1 = row_found p h.0 g.0 h.1 g.1 (found p.libraries h.0 h.1 h.2 h.3) (found h.1.classes g.0 g.1 g.2 g.3) in
    let listed : (x : ClassId) → Contains g.1.order x → Contains (order_of p k) x = λ x l. subst (λ (o : Option ClassRow). Contains (order_in o) x) (sym is) l in
    (Class k, inr (has_row (row_in g.0 (slice_get p.libraries h.0)) g.1 is), inr (listed c g.4.0), inr (listed d g.4.1))

-- where one is below the other, that one is below both
one_below : (p : Program) (m n : Member) → IsBelow p m n ⊎ IsBelow p n m → HaveCommon p m n
one_below p m n (inl h) = (m, inl (inl refl), below_reflexive p m, h)
one_below p m n (inr h) = (n, inl (inr refl), h, below_reflexive p n)

classes_common : (p : Program) (c d : ClassId) → CanMeet p (Class c) (Class d) → HaveCommon p (Class c) (Class d)
classes_common p c d (inl one) = one_below p (Class c) (Class d) one
classes_common p c d (inr common) = common_class p c d common

pub common_by_meeting : (p : Program) (m n : Member) → CanMeet p m n → HaveCommon p m n
common_by_meeting p (Class c) (Class d) h = classes_common p c d h
common_by_meeting p (Class c) (Single w) h = one_below p (Class c) (Single w) h
common_by_meeting p (Class c) (SingleClass d) h = one_below p (Class c) (SingleClass d) h
common_by_meeting p (Class c) (Range l u) h = one_below p (Class c) (Range l u) h
common_by_meeting p (Single v) (Class d) h = one_below p (Single v) (Class d) h
common_by_meeting p (Single v) (Single w) h = one_below p (Single v) (Single w) h
common_by_meeting p (Single v) (SingleClass d) h = one_below p (Single v) (SingleClass d) h
common_by_meeting p (Single v) (Range l u) h = one_below p (Single v) (Range l u) h
common_by_meeting p (SingleClass c) (Class d) h = one_below p (SingleClass c) (Class d) h
common_by_meeting p (SingleClass c) (Single w) h = one_below p (SingleClass c) (Single w) h
common_by_meeting p (SingleClass c) (SingleClass d) h = one_below p (SingleClass c) (SingleClass d) h
common_by_meeting p (SingleClass c) (Range l u) h = one_below p (SingleClass c) (Range l u) h
common_by_meeting p (Range a b) (Class d) h = one_below p (Range a b) (Class d) h
common_by_meeting p (Range a b) (Single w) h = one_below p (Range a b) (Single w) h
common_by_meeting p (Range a b) (SingleClass d) h = one_below p (Range a b) (SingleClass d) h
common_by_meeting p (Range a b) (Range c d) h = (Single (Int h.0), inr tt, (h.0, refl, h.1), (h.0, refl, h.2))
