-- How a walk begins and ends, and how much is left to do on the way.
use Rattle.std.proofs.Common.{◌≡◌, ◌↔◌, inl, inr, ℕ, zero, suc, ◌+◌, ◌-◌, ◌<◌, ◌≤◌, true, false, List, [], ◌∷◌, ◌++◌, length, drop, replicate, All, get_or, Some, slice_get, refl, sym, ap, subst, ◌∙◌, arith}
use Rattle.std.proofs.lemmas.List.{length_push, length-append, length-replicate, length-take-le}
use Rattle.std.proofs.lemmas.Option.{slice_get_within, slice_get-get_or}
use Rattle.std.specs.List.{range_with_len}
use Rattle.dy_rings.specs.declared.ring.State.{State}
use Rattle.dy_rings.specs.declared.ring.State.TheVariants.{Unseen, Open, Closed}
use Rattle.dy_rings.specs.declared.ring.Group.{Group}
use Rattle.dy_rings.specs.Rings.{In, uses_at, Leads, IsBehindUsed}
use Rattle.dy_rings.specs.Walks.{Progress, at_start, opening, closing, Joins}
use Rattle.dy_rings.proofs.Lists.{at_within, ends, in_last, some_is, none_is}
use Rattle.dy_rings.proofs.Ways.{leads_from}
use Rattle.dy_rings.proofs.Weights.{less_unmet, none_more_unmet, size_at, work}
use Rattle.dy_rings.proofs.UnderWay.{IsOpen, IsClosed, IsUnderWay}
use Rattle.dy_rings.proofs.Popping.{IsOn}

-- ---- the start

all_same : {A : Type 0} (n i : ℕ) (x y : A) → slice_get (replicate n x) i ≡ Some y → x ≡ y
all_same zero i x y e = absurd (none_is y e)
all_same (suc n) zero x y e = some_is x y e
all_same (suc n) (suc i) x y e = all_same n i x y e

in_range : (n a i : ℕ) → i < n → In (i + a) (range_with_len a n)
in_range zero a i l = absurd (omega arith)
in_range (suc n) a zero l = inl (omega arith)
in_range (suc n) a (suc i) l = inr (subst (λ (k : ℕ). In k (range_with_len (a + 1) n)) same (in_range n (a + 1) i (omega arith)))
  where
    same : i + (a + 1) ≡ suc i + a
    same = omega arith

none_open : (n i p : ℕ) → IsOpen (replicate n Unseen) i p → ⊥
none_open n i p o = not_open (all_same n i Unseen (Open p) o)
  where
    not_open : Unseen ≡ Open p → ⊥
    not_open e = cc

none_closed : (n i : ℕ) → IsClosed (replicate n Unseen) i → ⊥
none_closed n i o = not_closed (all_same n i Unseen Closed o)
  where
    not_closed : Unseen ≡ Closed → ⊥
    not_closed e = cc

each_in : (n i : ℕ) → i < n → In i (range_with_len 0 n)
each_in n i l = subst (λ (k : ℕ). In k (range_with_len 0 n)) same (in_range n 0 i l)
  where
    same : i + 0 ≡ i
    same = omega arith

pub begins : (uses : List (List ℕ)) (n : ℕ) → n ≡ length uses → IsUnderWay uses (at_start n)
begins uses n e = record {
  kept = record {
    count_is = length-replicate n Unseen ∙ e;
    marks_are = length-replicate n false ∙ e;
    places = λ p i at. absurd (none_is i at);
    stands = λ i p o. absurd (none_open n i p o);
    ordered = λ i c. absurd (none_closed n i c);
    closed = λ i m. absurd m;
    once = tt;
  };
  path = record {
    ascends = tt;
    firsts = λ g i. absurd i;
    lefts = λ g i. absurd i;
    bottom = λ l. absurd (omega arith);
    leads = λ i p j q a b from. absurd (none_open n i p a);
    rings = λ g i m r o. absurd m;
  };
  left = record {
    sources = λ k y g at i l. absurd i;
    goes = λ i p j o u. absurd (none_open n i p o);
    unseen = λ i s. each_in n i (within i (slice_get_within (replicate n Unseen) i Unseen s));
  };
  shut = record {
    shut = λ i j c u. absurd (none_closed n i c);
    told = λ i c. absurd (none_closed n i c);
    behind = λ i j c u. absurd (none_closed n i c);
  };
}
  where
    within : (i : ℕ) → i < length (replicate n Unseen) → i < n
    within i l = let a = length-replicate n Unseen in omega (arith, a, l)

-- ---- the end

module _ (uses : List (List ℕ)) (walk : Progress) (way : IsUnderWay uses walk) (on : IsOn walk.groups (length walk.todo)) (none : walk.todo ≡ []) where
  no_group : (g : Group) → In g walk.groups → ⊥
  no_group g i =
      let (under, top, e) = ends g walk.groups i in
      let within = way.path.lefts top (subst (λ (gs : List Group). In top gs) (sym e) (in_last top under)) in
      let zero : length walk.todo ≡ 0 = ap length none in
      on under top e (omega (arith, within, zero))

  no_open : (i p : ℕ) → IsOpen walk.states i p → ⊥
  no_open i p o =
      let l = slice_get_within walk.opened p i (way.kept.stands i p o) in
      let (g, m, e) = way.path.bottom (omega (arith, l)) in
      no_group g m

  not_unseen : (i : ℕ) → slice_get walk.states i ≡ Some Unseen → ⊥
  not_unseen i s = subst (λ (xs : List ℕ). In i xs) none (way.left.unseen i s)

  is_closed : (i : ℕ) (s : State) → slice_get walk.states i ≡ Some s → IsClosed walk.states i
  is_closed i Unseen e = absurd (not_unseen i e)
  is_closed i (Open p) e = absurd (no_open i p e)
  is_closed i Closed e = e

  each_closed : (i : ℕ) → i < length uses → IsClosed walk.states i
  each_closed i l =
      let count = way.kept.count_is in
      let (s, e) = at_within walk.states i (omega (arith, count, l)) in
      is_closed i s e

  pub are_told : (i : ℕ) → (slice_get walk.on_ring i ≡ Some true) ↔ Leads uses i i
  are_told i = (
    (λ e. let l = slice_get_within walk.on_ring i true e in let count = way.kept.marks_are in (way.shut.told i (each_closed i (omega (arith, count, l)))).0 e),
    (λ leads. (way.shut.told i (each_closed i (leads_from uses i i leads))).1 leads),
  )

  pub is_behind : IsBehindUsed uses walk.order
  is_behind = record {
    nodes = λ i. ((λ m. within i (way.kept.closed i m)), (λ l. way.kept.ordered i (each_closed i l)));
    once = way.kept.once;
    behind = λ i j u. way.shut.behind i j (each_closed i u.user) u;
  }
    where
      within : (i : ℕ) → IsClosed walk.states i → i < length uses
      within i c = let l = slice_get_within walk.states i Closed c in let count = way.kept.count_is in omega (arith, count, l)

-- ---- what is left to do

pub less_passed : (uses : List (List ℕ)) (walk : Progress) (rest : List ℕ) (y : ℕ) → walk.todo ≡ rest ++ y ∷ [] → work uses (record { states = walk.states; opened = walk.opened; groups = walk.groups; todo = rest; on_ring = walk.on_ring; order = walk.order }) < work uses walk
less_passed uses walk rest y e = let long = ap length e ∙ length_push rest y in omega (arith, long)

pub less_opened : (uses : List (List ℕ)) (walk : Progress) (rest : List ℕ) (y : ℕ) → walk.todo ≡ rest ++ y ∷ [] → slice_get walk.states y ≡ Some Unseen
    → work uses (opening uses y (record { states = walk.states; opened = walk.opened; groups = walk.groups; todo = rest; on_ring = walk.on_ring; order = walk.order })) < work uses walk
less_opened uses walk rest y e new =
    let long = ap length e ∙ length_push rest y in
    let longer = length-append rest (uses_at uses y) in
    let one = length_push walk.groups (record { first = length walk.opened; left = length rest; ring = false }) in
    let less = less_unmet (size_at uses) walk.states y (length walk.opened) new in
    omega (arith, long, longer, one, less)

pub less_joined : (uses : List (List ℕ)) (walk : Progress) (rest : List ℕ) (y q : ℕ) (after : List Group) → walk.todo ≡ rest ++ y ∷ [] → Joins q walk.groups after
    → work uses (record { states = walk.states; opened = walk.opened; groups = after; todo = rest; on_ring = walk.on_ring; order = walk.order }) < work uses walk
less_joined uses walk rest y q after e joins =
    let long = ap length e ∙ length_push rest y in
    let old = ap length joins.parts ∙ length-append joins.under (joins.group ∷ joins.above) in
    let new = ap length joins.joined ∙ length_push joins.under (record { first = joins.group.first; left = joins.group.left; ring = true }) in
    let some : length (joins.group ∷ joins.above) ≡ suc (length joins.above) = refl in
    omega (arith, long, old, new, some)

pub less_closed : (uses : List (List ℕ)) (walk : Progress) (under : List Group) (group : Group) → walk.groups ≡ under ++ group ∷ [] → work uses (closing group walk) < work uses walk
less_closed uses walk under group parts =
    let old = ap length parts ∙ length_push under group in
    let new = length-take-le (length walk.groups - 1) walk.groups (omega arith) in
    let less = none_more_unmet (size_at uses) (drop group.first walk.opened) walk.states in
    omega (arith, old, new, less)

-- ---- what calls ask for

pub all_opened : (uses : List (List ℕ)) (walk : Progress) (n : ℕ) → n ≡ length uses → IsUnderWay uses walk → All (λ node. node < n) walk.opened
all_opened uses walk n e way k d within =
    let place = way.kept.places k (get_or walk.opened k d) (slice_get-get_or walk.opened k d within) in
    let l = slice_get_within walk.states (get_or walk.opened k d) (Open k) place in
    let count = way.kept.count_is in
    omega (arith, l, count, e)

-- the group of an open node
pub some_group : (uses : List (List ℕ)) (walk : Progress) (y q : ℕ) → IsUnderWay uses walk → IsOpen walk.states y q → (g : Group) × In g walk.groups × (g.first ≤ q)
some_group uses walk y q way o =
    let l = slice_get_within walk.opened q y (way.kept.stands y q o) in
    let (g, i, e) = way.path.bottom (omega (arith, l)) in
    (g, i, omega (arith, e))

pub last_begins : (uses : List (List ℕ)) (walk : Progress) (under : List Group) (group : Group) → walk.groups ≡ under ++ group ∷ [] → IsUnderWay uses walk → group.first ≤ length walk.opened
last_begins uses walk under group parts way =
    let l = way.path.firsts group (subst (λ (gs : List Group). In group gs) (sym parts) (in_last group under)) in
    omega (arith, l)
