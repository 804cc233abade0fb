-- The laws of types.
use Rattle.std.proofs.Common.{ℕ, ℤ, List, slice_index_or, Any, Contains, subst}
use Rattle.std.proofs.lemmas.List.Elements.{Contains-get_or, All-contains}
use Rattle.dy_term.specs.declared.literal.Literal.TheVariants.{Str, outs-Str}
use Rattle.dy_term.specs.declared.types.DyType.{DyType}
use Rattle.dy_term.specs.declared.types.Member.{Member}
use Rattle.dy_term.specs.declared.types.Member.TheVariants.{Single, Range}
use Rattle.dy_term.specs.declared.types.Shape1.{Shape1}
use Rattle.dy_term.specs.declared.rows.Program.{Program}
use Rattle.dy_types.specs.Members.{IsBetween, IsBelow, IsInstanceOf, CanMeet}
use Rattle.dy_types.specs.Types.{IsInstance, IsSubtype, Meet}
use Rattle.dy_types.specs.Laws.{AreOrdersClosed, AreFilled, IsArgument, IsPlain, number_shape}
use Rattle.dy_types.proofs.Below.{below_reflexive, below_transitive, instance_above, number_above}
use Rattle.dy_types.proofs.Meeting.{instance_meets, meeting_turned}

-- some element, and that it stands there
any_of : {X : Type 0} (P : X → Type 0) (xs : List X) (x : X) → Contains xs x → P x → Any P xs
any_of P xs x stands holds = (stands.0, x, stands.1, stands.2, holds)

stands : {X : Type 0} (P : X → Type 0) (xs : List X) (h : Any P xs) → Contains xs h.1
stands P xs h = (h.0, h.2, h.3)

-- a member of a subtype is below some member of the other
upper : (p : Program) (a b : DyType) → IsSubtype p a b → (m : Member) → Contains a.members m → Any (IsBelow p m) b.members
upper p a b sub m in_a = All-contains (λ (x : Member). Any (IsBelow p x) b.members) a.members m sub in_a

pub reflexive : (p : Program) (t : DyType) → IsSubtype p t t
reflexive p t k d within =
    let m = slice_index_or t.members k d in
    any_of (IsBelow p m) t.members m (Contains-get_or t.members k d within) (below_reflexive p m)

pub transitive : (p : Program) (a b c : DyType) → AreOrdersClosed p → AreFilled a → IsSubtype p a b → IsSubtype p b c → IsSubtype p a c
transitive p a b c closed filled first second k d within =
    let m = slice_index_or a.members k d in
    let h = first k d within in
    let g = upper p b c second h.1 (stands (IsBelow p m) b.members h) in
    any_of (IsBelow p m) c.members g.1 (stands (IsBelow p h.1) c.members g) (below_transitive p closed m h.1 g.1 (filled k d within) h.4 g.4)

pub instances : (p : Program) (s : Shape1) (a b : DyType) → AreOrdersClosed p → IsArgument s → IsSubtype p a b → IsInstance p s a → IsInstance p s b
instances p s a b closed argument sub h =
    let g = upper p a b sub h.1 (stands (IsInstanceOf p s) a.members h) in
    any_of (IsInstanceOf p s) b.members g.1 (stands (IsBelow p h.1) b.members g) (instance_above p closed s argument h.1 g.1 h.4 g.4)

pub meets : (p : Program) (s : Shape1) (a b : DyType) → IsArgument s → IsInstance p s a → IsInstance p s b → Meet p a b
meets p s a b argument h g =
    any_of (λ (m : Member). Any (CanMeet p m) b.members) a.members h.1 (stands (IsInstanceOf p s) a.members h)
    (any_of (CanMeet p h.1) b.members g.1 (stands (IsInstanceOf p s) b.members g) (instance_meets p s argument h.1 g.1 h.4 g.4))

pub symmetric : (p : Program) (a b : DyType) → Meet p a b → Meet p b a
symmetric p a b h =
    let g = h.4 in
    any_of (λ (m : Member). Any (CanMeet p m) a.members) b.members g.1 (stands (CanMeet p h.1) b.members g)
    (any_of (CanMeet p g.1) a.members h.1 (stands (λ (m : Member). Any (CanMeet p m) b.members) a.members h) (meeting_turned p h.1 g.1 g.4))

-- a string is no argument itself
pub strings : (p : Program) (s : Shape1) (text : List ℕ) → IsArgument s → IsInstanceOf p s (Single (Str text)) → ⊥
strings p s text argument h = subst IsPlain (outs-Str text) (argument (Single (Str text)) h).0

-- no number lies in a range and outside of what is above the range
pub numbers : (p : Program) (n a b : ℤ) (t : DyType) → IsBetween a b n → Any (IsBelow p (Range a b)) t.members → IsInstance p (number_shape n) t
numbers p n a b t within h =
    any_of (IsInstanceOf p (number_shape n)) t.members h.1 (stands (IsBelow p (Range a b)) t.members h) (number_above p n a b h.1 within h.4)
