-- Members that can meet.
use Rattle.std.proofs.Common.{◌≡◌, ℤ, ◌⊎◌, inl, inr, Some, refl, sym, subst, ◌∙◌}
use Rattle.std.proofs.lemmas.Option.{same_Some}
use Rattle.dy_base.specs.declared.ids.ClassId.{ClassId}
use Rattle.dy_term.specs.declared.literal.Literal.{Literal}
use Rattle.dy_term.specs.declared.literal.Literal.TheVariants.{Int}
use Rattle.dy_term.specs.declared.types.Member.{Member}
use Rattle.dy_term.specs.declared.types.Member.TheVariants.{Class, Single, SingleClass, Range}
use Rattle.dy_term.specs.declared.types.Shape1.{Shape1}
use Rattle.dy_term.specs.declared.rows.Program.{Program}
use Rattle.dy_types.specs.Classes.{IsAtOrBelow, integer, literal_class, class_of_classes}
use Rattle.dy_types.specs.Members.{IsBetween, IsInstanceOf, CanMeet, HaveCommonClass}
use Rattle.dy_types.specs.Laws.{IsArgument}
use Rattle.dy_types.proofs.Listed.{listed_both}
use Rattle.dy_types.proofs.Below.{int_class}

-- a class that is at or below two others
pub classes_meet : (p : Program) (k c d : ClassId) → IsAtOrBelow p k c → IsAtOrBelow p k d → CanMeet p (Class c) (Class d)
classes_meet p k c d (inl e) below = inl (inl (subst (λ (x : ClassId). IsAtOrBelow p x d) e below))
classes_meet p k c d (inr listed) (inl e) = inl (inr (subst (λ (x : ClassId). IsAtOrBelow p x c) e (inr listed)))
classes_meet p k c d (inr listed) (inr further) = inr (listed_both p k c d listed further)

at_same : (p : Program) (a b d : ClassId) → a ≡ b → IsAtOrBelow p a d → IsAtOrBelow p b d
at_same p a b d e below = subst (λ (c : ClassId). IsAtOrBelow p c d) e below

same_single : (s : Shape1) (m n : Member) → s.single ≡ Some m → s.single ≡ Some n → m ≡ n
same_single s m n e f = same_Some m n (sym e ∙ f)

single_value : (v w : Literal) → Single v ≡ Single w → v ≡ w
single_value v w e = cc

single_class : (c d : ClassId) → SingleClass c ≡ SingleClass d → c ≡ d
single_class c d e = cc

not_both : (v : Literal) (c : ClassId) → Single v ≡ SingleClass c → ⊥
not_both v c e = cc

same_int : (a b : ℤ) → Single (Int a) ≡ Single (Int b) → a ≡ b
same_int a b e = cc

of_value : (p : Program) (s : Shape1) (v : Literal) (d : ClassId) → IsArgument s → s.single ≡ Some (Single v) → IsAtOrBelow p s.class d → IsAtOrBelow p (literal_class v) d
of_value p s v d argument is below = at_same p s.class (literal_class v) d (argument (Single v) is).1 below

of_class : (p : Program) (s : Shape1) (c d : ClassId) → IsArgument s → s.single ≡ Some (SingleClass c) → IsAtOrBelow p s.class d → IsAtOrBelow p class_of_classes d
of_class p s c d argument is below = at_same p s.class class_of_classes d (argument (SingleClass c) is) below

of_number : (p : Program) (s : Shape1) (n : ℤ) (d : ClassId) → IsArgument s → s.single ≡ Some (Single (Int n)) → IsAtOrBelow p s.class d → IsAtOrBelow p integer d
of_number p s n d argument is below =
    at_same p s.class integer d ((argument (Single (Int n)) is).1 ∙ int_class (Int n) n refl) below

-- members with a common instance can meet
pub instance_meets : (p : Program) (s : Shape1) → IsArgument s → (m n : Member) → IsInstanceOf p s m → IsInstanceOf p s n → CanMeet p m n
instance_meets p s argument (Class c) (Class d) h k = classes_meet p s.class c d h k
instance_meets p s argument (Class c) (Single w) h k = inr (of_value p s w c argument k h)
instance_meets p s argument (Class c) (SingleClass d) h k = inr (of_class p s d c argument k h)
instance_meets p s argument (Class c) (Range l u) h k = inr (of_number p s k.0 c argument k.1 h)
instance_meets p s argument (Single v) (Class d) h k = inl (of_value p s v d argument h k)
instance_meets p s argument (Single v) (Single w) h k = inl (single_value v w (same_single s (Single v) (Single w) h k))
instance_meets p s argument (Single v) (SingleClass d) h k = absurd (not_both v d (same_single s (Single v) (SingleClass d) h k))
instance_meets p s argument (Single v) (Range l u) h k = inl (k.0, single_value v (Int k.0) (same_single s (Single v) (Single (Int k.0)) h k.1), k.2)
instance_meets p s argument (SingleClass c) (Class d) h k = inl (of_class p s c d argument h k)
instance_meets p s argument (SingleClass c) (Single w) h k = absurd (not_both w c (same_single s (Single w) (SingleClass c) k h))
instance_meets p s argument (SingleClass c) (SingleClass d) h k = inl (single_class c d (same_single s (SingleClass c) (SingleClass d) h k))
instance_meets p s argument (SingleClass c) (Range l u) h k = absurd (not_both (Int k.0) c (same_single s (Single (Int k.0)) (SingleClass c) k.1 h))
instance_meets p s argument (Range a b) (Class d) h k = inl (of_number p s h.0 d argument h.1 k)
instance_meets p s argument (Range a b) (Single w) h k = inr (h.0, single_value w (Int h.0) (same_single s (Single w) (Single (Int h.0)) k h.1), h.2)
instance_meets p s argument (Range a b) (SingleClass d) h k = absurd (not_both (Int h.0) d (same_single s (Single (Int h.0)) (SingleClass d) h.1 k))
instance_meets p s argument (Range a b) (Range l u) h k =
    let same : h.0 ≡ k.0 = same_int h.0 k.0 (same_single s (Single (Int h.0)) (Single (Int k.0)) h.1 k.1) in
    (k.0, subst (λ (n : ℤ). IsBetween a b n) same h.2, k.2)

turned : {A B : Type 0} → A ⊎ B → B ⊎ A
turned (inl a) = inr a
turned (inr b) = inl b

turned_class : (p : Program) (c d : ClassId) → HaveCommonClass p c d → HaveCommonClass p d c
turned_class p c d h = (h.0, h.1, h.2, h.3, (h.4.0, h.4.1, h.4.2, h.4.3, (h.4.4.1, h.4.4.0)))

classes_turned : (p : Program) (c d : ClassId) → CanMeet p (Class c) (Class d) → CanMeet p (Class d) (Class c)
classes_turned p c d (inl one) = inl (turned one)
classes_turned p c d (inr common) = inr (turned_class p c d common)

pub meeting_turned : (p : Program) (m n : Member) → CanMeet p m n → CanMeet p n m
meeting_turned p (Class c) (Class d) h = classes_turned p c d h
meeting_turned p (Class c) (Single w) h = turned h
meeting_turned p (Class c) (SingleClass d) h = turned h
meeting_turned p (Class c) (Range l u) h = turned h
meeting_turned p (Single v) (Class d) h = turned h
meeting_turned p (Single v) (Single w) h = turned h
meeting_turned p (Single v) (SingleClass d) h = turned h
meeting_turned p (Single v) (Range l u) h = turned h
meeting_turned p (SingleClass c) (Class d) h = turned h
meeting_turned p (SingleClass c) (Single w) h = turned h
meeting_turned p (SingleClass c) (SingleClass d) h = turned h
meeting_turned p (SingleClass c) (Range l u) h = turned h
meeting_turned p (Range a b) (Class d) h = turned h
meeting_turned p (Range a b) (Single w) h = turned h
meeting_turned p (Range a b) (SingleClass d) h = turned h
meeting_turned p (Range a b) (Range l u) h = (h.0, h.2, h.1)
