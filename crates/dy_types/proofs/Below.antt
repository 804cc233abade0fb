-- What is below what, and what is an instance of what.
use Rattle.std.proofs.Common.{◌≡◌, ℤ, ◌≤ℤ◌, inl, Some, refl, sym, ap, subst, ◌∙◌, arith}
use Rattle.std.proofs.lemmas.Int.{ints}
use Rattle.dy_base.specs.declared.ids.ClassId.{ClassId}
use Rattle.dy_term.specs.declared.literal.Literal.{Literal}
use Rattle.dy_term.specs.declared.literal.Literal.TheVariants.{Int, outs-Int}
use Rattle.dy_term.specs.declared.types.Member.{Member}
use Rattle.dy_term.specs.declared.types.Member.TheVariants.{Class, Single, SingleClass, Range}
use Rattle.dy_term.specs.declared.types.Shape1.{Shape1}
use Rattle.dy_term.specs.declared.rows.Program.{Program}
use Rattle.dy_types.specs.Classes.{IsAtOrBelow, integer, literal_class, class_of_kind, class_of_classes}
use Rattle.dy_types.specs.Members.{IsBetween, IsBelow, IsInstanceOf}
use Rattle.dy_types.specs.Laws.{AreOrdersClosed, IsFilled, IsArgument, number_shape}
use Rattle.dy_types.proofs.Listed.{class_transitive}

pub int_same : (a b : ℤ) → Int a ≡ Int b → a ≡ b
int_same a b e = cc

pub int_class : (v : Literal) (n : ℤ) → v ≡ Int n → literal_class v ≡ integer
int_class v n e = ap literal_class e ∙ ap class_of_kind (outs-Int n)

pub int_at : (p : Program) (v : Literal) (n : ℤ) (d : ClassId) → v ≡ Int n → IsAtOrBelow p integer d → IsAtOrBelow p (literal_class v) d
int_at p v n d e below = subst (λ (c : ClassId). IsAtOrBelow p c d) (sym (int_class v n e)) below

pub int_from : (p : Program) (v : Literal) (n : ℤ) (d : ClassId) → v ≡ Int n → IsAtOrBelow p (literal_class v) d → IsAtOrBelow p integer d
int_from p v n d e below = subst (λ (c : ClassId). IsAtOrBelow p c d) (int_class v n e) below

pub two_ints : (v : Literal) (a b : ℤ) → v ≡ Int a → v ≡ Int b → a ≡ b
two_ints v a b e f = int_same a b (sym e ∙ f)

pub below_reflexive : (p : Program) (m : Member) → IsBelow p m m
below_reflexive p (Class c) = inl refl
below_reflexive p (Single v) = refl
below_reflexive p (SingleClass c) = refl
below_reflexive p (Range a b) = (omega (arith, ints), omega (arith, ints))

between_range : (a b c d n : ℤ) → IsBetween a b n → c ≤ℤ a → b ≤ℤ d → IsBetween c d n
between_range a b c d n within low high = (omega (arith, ints, within.0), omega (arith, ints, within.1))

-- the one number of a range
only_one : (a n : ℤ) → a ≤ℤ n → n ≤ℤ a → n ≡ a
only_one a n low high = omega (arith, ints)

alone : (w : Literal) (a b n : ℤ) → IsBetween a b n → w ≡ Int a → w ≡ Int b → w ≡ Int n
alone w a b n within first last =
    let same = two_ints w a b first last in
    let is : n ≡ a = only_one a n within.0 (subst (λ (x : ℤ). n ≤ℤ x) (sym same) within.1) in
    first ∙ ap Int (sym is)

pub below_transitive : (p : Program) → AreOrdersClosed p → (a b c : Member) → IsFilled a → IsBelow p a b → IsBelow p b c → IsBelow p a c
below_transitive p o (Class x) (Class y) (Class d) filled h k = class_transitive p o x y d h k
below_transitive p o (Single v) (Class y) (Class d) filled h k = class_transitive p o (literal_class v) y d h k
below_transitive p o (SingleClass x) (Class y) (Class d) filled h k = class_transitive p o class_of_classes y d h k
below_transitive p o (Range l u) (Class y) (Class d) filled h k = class_transitive p o integer y d h k
below_transitive p o (Class x) (Single w) (Class d) filled h k = absurd h
below_transitive p o (Single v) (Single w) (Class d) filled h k = subst (λ (x : Literal). IsAtOrBelow p (literal_class x) d) (sym h) k
below_transitive p o (SingleClass x) (Single w) (Class d) filled h k = absurd h
below_transitive p o (Range l u) (Single w) (Class d) filled h k = int_from p w l d h.0 k
below_transitive p o (Class x) (SingleClass y) (Class d) filled h k = absurd h
below_transitive p o (Single v) (SingleClass y) (Class d) filled h k = absurd h
below_transitive p o (SingleClass x) (SingleClass y) (Class d) filled h k = k
below_transitive p o (Range l u) (SingleClass y) (Class d) filled h k = absurd h
below_transitive p o (Class x) (Range a b) (Class d) filled h k = absurd h
below_transitive p o (Single v) (Range a b) (Class d) filled h k = int_at p v h.0 d h.1 k
below_transitive p o (SingleClass x) (Range a b) (Class d) filled h k = absurd h
below_transitive p o (Range l u) (Range a b) (Class d) filled h k = k
below_transitive p o x (Class y) (Single w) filled h k = absurd k
below_transitive p o (Class x) (Single v) (Single w) filled h k = absurd h
below_transitive p o (Single x) (Single v) (Single w) filled h k = h ∙ k
below_transitive p o (SingleClass x) (Single v) (Single w) filled h k = absurd h
below_transitive p o (Range l u) (Single v) (Single w) filled h k = (sym k ∙ h.0, sym k ∙ h.1)
below_transitive p o x (SingleClass y) (Single w) filled h k = absurd k
below_transitive p o (Class x) (Range a b) (Single w) filled h k = absurd h
below_transitive p o (Single v) (Range a b) (Single w) filled h k = h.1 ∙ sym (alone w a b h.0 h.2 k.0 k.1)
below_transitive p o (SingleClass x) (Range a b) (Single w) filled h k = absurd h
below_transitive p o (Range l u) (Range a b) (Single w) filled h k =
    let low : IsBetween a b l = (h.0, omega (arith, ints, filled, h.1)) in
    let high : IsBetween a b u = (omega (arith, ints, filled, h.0), h.1) in
    (alone w a b l low k.0 k.1, alone w a b u high k.0 k.1)
below_transitive p o x (Class y) (SingleClass d) filled h k = absurd k
below_transitive p o x (Single y) (SingleClass d) filled h k = absurd k
below_transitive p o x (Range l u) (SingleClass d) filled h k = absurd k
below_transitive p o (Class x) (SingleClass y) (SingleClass d) filled h k = absurd h
below_transitive p o (Single x) (SingleClass y) (SingleClass d) filled h k = absurd h
below_transitive p o (SingleClass x) (SingleClass y) (SingleClass d) filled h k = h ∙ k
below_transitive p o (Range l u) (SingleClass y) (SingleClass d) filled h k = absurd h
below_transitive p o x (Class y) (Range c d) filled h k = absurd k
below_transitive p o x (SingleClass y) (Range c d) filled h k = absurd k
below_transitive p o (Class x) (Single w) (Range c d) filled h k = absurd h
below_transitive p o (Single v) (Single w) (Range c d) filled h k = (k.0, h ∙ k.1, k.2)
below_transitive p o (SingleClass x) (Single w) (Range c d) filled h k = absurd h
below_transitive p o (Range l u) (Single w) (Range c d) filled h k =
    let first : k.0 ≡ l = two_ints w k.0 l k.1 h.0 in
    let last : k.0 ≡ u = two_ints w k.0 u k.1 h.1 in
    (subst (λ (x : ℤ). c ≤ℤ x) first k.2.0, subst (λ (x : ℤ). x ≤ℤ d) last k.2.1)
below_transitive p o (Class x) (Range a b) (Range c d) filled h k = absurd h
below_transitive p o (Single v) (Range a b) (Range c d) filled h k = (h.0, h.1, between_range a b c d h.0 h.2 k.0 k.1)
below_transitive p o (SingleClass x) (Range a b) (Range c d) filled h k = absurd h
below_transitive p o (Range l u) (Range a b) (Range c d) filled h k = (omega (arith, ints, h.0, k.0), omega (arith, ints, h.1, k.1))

-- the class of an argument that is a value
value_class : (s : Shape1) (v : Literal) → IsArgument s → s.single ≡ Some (Single v) → s.class ≡ literal_class v
value_class s v argument is = (argument (Single v) is).1

at_class : (p : Program) (a b d : ClassId) → a ≡ b → IsAtOrBelow p b d → IsAtOrBelow p a d
at_class p a b d e below = subst (λ (c : ClassId). IsAtOrBelow p c d) (sym e) below

pub instance_above : (p : Program) → AreOrdersClosed p → (s : Shape1) → IsArgument s → (m n : Member) → IsInstanceOf p s m → IsBelow p m n → IsInstanceOf p s n
instance_above p o s argument (Class c) (Class d) h k = class_transitive p o s.class c d h k
instance_above p o s argument (Single v) (Class d) h k = at_class p s.class (literal_class v) d (value_class s v argument h) k
instance_above p o s argument (SingleClass c) (Class d) h k = at_class p s.class class_of_classes d (argument (SingleClass c) h) k
instance_above p o s argument (Range a b) (Class d) h k =
    at_class p s.class integer d (value_class s (Int h.0) argument h.1 ∙ int_class (Int h.0) h.0 refl) k
instance_above p o s argument (Class c) (Single w) h k = absurd k
instance_above p o s argument (Single v) (Single w) h k = h ∙ ap (λ (x : Literal). Some (Single x)) k
instance_above p o s argument (SingleClass c) (Single w) h k = absurd k
instance_above p o s argument (Range a b) (Single w) h k = h.1 ∙ ap (λ (x : Literal). Some (Single x)) (sym (alone w a b h.0 h.2 k.0 k.1))
instance_above p o s argument (Class c) (SingleClass d) h k = absurd k
instance_above p o s argument (Single v) (SingleClass d) h k = absurd k
instance_above p o s argument (SingleClass c) (SingleClass d) h k = h ∙ ap (λ (x : ClassId). Some (SingleClass x)) k
instance_above p o s argument (Range a b) (SingleClass d) h k = absurd k
instance_above p o s argument (Class c) (Range l u) h k = absurd k
instance_above p o s argument (Single v) (Range l u) h k = (k.0, h ∙ ap (λ (x : Literal). Some (Single x)) k.1, k.2)
instance_above p o s argument (SingleClass c) (Range l u) h k = absurd k
instance_above p o s argument (Range a b) (Range l u) h k = (h.0, h.1, between_range a b l u h.0 h.2 k.0 k.1)

-- a number in a range is an instance of what is above the range
pub number_above : (p : Program) (n a b : ℤ) (m : Member) → IsBetween a b n → IsBelow p (Range a b) m → IsInstanceOf p (number_shape n) m
number_above p n a b (Class d) within k = k
number_above p n a b (Single w) within k = ap (λ (x : Literal). Some (Single x)) (sym (alone w a b n within k.0 k.1))
number_above p n a b (SingleClass d) within k = absurd k
number_above p n a b (Range l u) within k = (n, refl, between_range a b l u n within k.0 k.1)
