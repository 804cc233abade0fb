-- The nodes of the last group are closed, when all that they use was looked at.
use Rattle.std.proofs.Common.{◌≡◌, ◌⊎◌, ◌↔◌, inl, inr, ℕ, ◌-◌, ◌<◌, ◌≤◌, Bool, true, List, [], ◌∷◌, ◌++◌, length, take, drop, Option, Some, slice_get, refl, sym, ap, subst, ◌∙◌, arith, take_at, length-take-le}
use Rattle.std.proofs.lemmas.Bool.{cases_lt}
use Rattle.std.proofs.lemmas.List.{length_push}
use Rattle.std.proofs.lemmas.Option.{slice_get_within}
use Rattle.dy_rings.specs.declared.ring.State.{State}
use Rattle.dy_rings.specs.declared.ring.State.TheVariants.{Unseen, Open, Closed}
use Rattle.dy_rings.specs.declared.ring.Group.{Group}
use Rattle.dy_rings.specs.Rings.{In, Before, Uses, Leads, straight, further}
use Rattle.dy_rings.specs.Walks.{Progress, closing}
use Rattle.dy_rings.proofs.Lists.{in_or_last, in_left, in_right, in_parts, in_last, in_or_not, in_dropped, dropped_in, dropped_once, taken_at, at_taken, at_within, once_append, before_left, before_across, set_all, length_set_all, set_all_here, set_all_there, some_is}
use Rattle.dy_rings.proofs.Groups.{Below, ascends_front, ascends_across}
use Rattle.dy_rings.proofs.Ways.{Comes, leads_first, on_same_ring}
use Rattle.dy_rings.proofs.UnderWay.{IsOpen, IsClosed, IsKept, IsFrom, IsPath, IsSource, IsInside, Goes, to_closed, to_open, to_left, IsLeft, IsShut, IsUnderWay}

module _ (uses : List (List ℕ)) (states : List State) (opened : List ℕ) (under : List Group) (group : Group) (todo : List ℕ) (on_ring : List Bool) (order : List ℕ)
    (kept : IsKept (length uses) states opened on_ring order)
    (path : IsPath uses states (under ++ group ∷ []) (length opened) (length todo))
    (left : IsLeft uses states (under ++ group ∷ []) todo)
    (shut : IsShut uses states on_ring order)
    (all : group.left ≡ length todo) where
  abbrev before : List Group
  before = under ++ group ∷ []

  abbrev out : List ℕ
  out = drop group.first opened

  abbrev after : List State
  after = set_all Closed states out

  abbrev marks : List Bool
  marks = set_all group.ring on_ring out

  was_under : (h : Group) → In h under → In h before
  was_under h i = in_left h under (group ∷ []) i

  was_group : In group before
  was_group = in_last group under

  below_group : (h : Group) → In h under → Below h group
  below_group h i = ascends_across under (group ∷ []) path.ascends h group i (inl refl)

  -- each group begins where the last one does, or in front of it
  in_front : (h : Group) → In h before → h.first ≤ group.first
  in_front h i = go (in_or_last h under group i)
    where
      go : In h under ⊎ (h ≡ group) → h.first ≤ group.first
      go (inl j) = let b = (below_group h j).first in omega (arith, b)
      go (inr e) = let a = ap (λ (x : Group). x.first) e in omega (arith, a)

  not_past : (h : Group) → In h before → group.first < h.first → ⊥
  not_past h i l = let a = in_front h i in omega (arith, a, l)

  -- ---- the nodes of the group

  in_out : (i p : ℕ) → IsOpen states i p → group.first ≤ p → In i out
  in_out i p o l = dropped_in group.first opened p i l (kept.stands i p o)

  out_open : (i : ℕ) → In i out → (p : ℕ) × (group.first ≤ p) × IsOpen states i p
  out_open i m = let (p, l, at) = in_dropped group.first opened i m in (p, l, kept.places p i at)

  open_within : (i p : ℕ) → IsOpen states i p → i < length states
  open_within i p o = slice_get_within states i (Open p) o

  open_not_closed : (i p : ℕ) → IsOpen states i p → IsClosed states i → ⊥
  open_not_closed i p a b = cc

  same_open : (i p q : ℕ) → IsOpen states i p → IsOpen states i q → p ≡ q
  same_open i p q a b = cc

  out_closed : (i : ℕ) → In i out → IsClosed after i
  out_closed i m = let (p, l, o) = out_open i m in set_all_here Closed out states i m (open_within i p o)

  there : (i : ℕ) → (In i out → ⊥) → slice_get after i ≡ slice_get states i
  there i other = set_all_there Closed out states i other

  closed_not_out : (i : ℕ) → IsClosed states i → In i out → ⊥
  closed_not_out i c m = let (p, l, o) = out_open i m in open_not_closed i p o c

  stays_closed : (i : ℕ) → IsClosed states i → IsClosed after i
  stays_closed i c = there i (closed_not_out i c) ∙ c

  was_closed : (i : ℕ) → IsClosed after i → IsClosed states i ⊎ In i out
  was_closed i c = elim (in_or_not i out) [ inl m ↦ inr m | inr other ↦ inl (sym (there i other) ∙ c) ]

  low_not_out : (i p : ℕ) → IsOpen states i p → p < group.first → In i out → ⊥
  low_not_out i p o l m = let (r, k, s) = out_open i m in let e = same_open i p r o s in omega (arith, l, k, e)

  stays_open : (i p : ℕ) → IsOpen states i p → p < group.first → IsOpen after i p
  stays_open i p o l = there i (low_not_out i p o l) ∙ o

  was_not_closed : (i : ℕ) (s : State) → slice_get after i ≡ Some s → (Some Closed ≡ Some s → ⊥) → slice_get states i ≡ Some s
  was_not_closed i s at other = go (in_or_not i out)
    where
      go : In i out ⊎ (In i out → ⊥) → slice_get states i ≡ Some s
      go (inl m) = absurd (other (sym (out_closed i m) ∙ at))
      go (inr not_there) = sym (there i not_there) ∙ at

  closed_open : (p : ℕ) → Some Closed ≡ Some (Open p) → ⊥
  closed_open p e = cc

  closed_unseen : Some Closed ≡ Some Unseen → ⊥
  closed_unseen e = cc

  was_open : (i p : ℕ) → IsOpen after i p → IsOpen states i p × (p < group.first)
  was_open i p o = (was, low (cases_lt p group.first))
    where
      was : IsOpen states i p
      was = was_not_closed i (Open p) o (closed_open p)

      low : (p < group.first) ⊎ (group.first ≤ p) → p < group.first
      low (inl l) = l
      low (inr l) = absurd (closed_open p (sym (out_closed i (in_out i p was l)) ∙ o))

  -- ---- the path

  from_before : (p q : ℕ) → p < group.first → IsFrom under p q → IsFrom before p q
  from_before p q l from h i m = go (in_or_last h under group i)
    where
      go : In h under ⊎ (h ≡ group) → h.first ≤ q
      go (inl j) = from h j m
      go (inr e) = let a = ap (λ (x : Group). x.first) e in absurd (omega (arith, a, l, m))

  group_within : group.first < length opened
  group_within = path.firsts group was_group

  long : length (take group.first opened) ≡ group.first
  long = let a = group_within in length-take-le group.first opened (omega (arith, a))

  first_taken : (g : Group) → In g under → g.first < length (take group.first opened)
  first_taken g i = let a = (below_group g i).first in let b = long in omega (arith, a, b)

  bottom : (g : Group) → In g under ⊎ (g ≡ group) → g.first ≡ 0 → 0 < length (take group.first opened) → (h : Group) × In h under × (h.first ≡ 0)
  bottom g (inl i) e l = (g, i, e)
  bottom g (inr s) e l = let a = ap (λ (x : Group). x.first) s in let b = long in absurd (omega (arith, a, b, e, l))

  path_after : IsPath uses after under (length (take group.first opened)) (length todo)
  path_after = record {
    ascends = ascends_front under (group ∷ []) path.ascends;
    firsts = first_taken;
    lefts = λ g i. path.lefts g (was_under g i);
    bottom = λ l. let (g, i, e) = path.bottom (let a = group_within in omega (arith, a)) in bottom g (in_or_last g under group i) e l;
    leads = λ i p j q a b from. path.leads i p j q (was_open i p a).0 (was_open j q b).0 (from_before p q (was_open i p a).1 from);
    rings = λ g i m r o. path.rings g i (was_under g m) r (was_open i g.first o).0;
  }

  -- ---- the states

  distinct : (p q x : ℕ) → slice_get opened p ≡ Some x → slice_get opened q ≡ Some x → p ≡ q
  distinct p q x a b = same_open x p q (kept.places p x a) (kept.places q x b)

  places : (p i : ℕ) → (p < group.first) × (slice_get opened p ≡ Some i) → IsOpen after i p
  places p i (l, at) = stays_open i p (kept.places p i at) l

  closed_there : (i : ℕ) → In i order ⊎ In i out → IsClosed after i
  closed_there i (inl m) = stays_closed i (kept.closed i m)
  closed_there i (inr m) = out_closed i m

  ordered_there : (i : ℕ) → IsClosed states i ⊎ In i out → In i (order ++ out)
  ordered_there i (inl c) = in_left i order out (kept.ordered i c)
  ordered_there i (inr m) = in_right i order out m

  kept_after : IsKept (length uses) after (take group.first opened) marks (order ++ out)
  kept_after = record {
    count_is = length_set_all Closed out states ∙ kept.count_is;
    marks_are = length_set_all group.ring out on_ring ∙ kept.marks_are;
    places = λ p i at. places p i (taken_at group.first opened p i at);
    stands = λ i p o. at_taken group.first opened p i (was_open i p o).1 (kept.stands i p (was_open i p o).0);
    ordered = λ i c. ordered_there i (was_closed i c);
    closed = λ i m. closed_there i (in_parts i order out m);
    once = once_append order out kept.once (dropped_once group.first opened distinct) (λ i a b. closed_not_out i (kept.closed i a) b);
  }

  -- ---- the uses that are left

  source_after : (e z : ℕ) (g : Group) → e < length todo → IsSource uses states before e z g → IsSource uses after under e z g
  source_after e z g l source = record {
    node = source.node;
    place = source.place;
    open_there = stays_open source.node source.place source.open_there (low (cases_lt source.place group.first));
    named = source.named;
    behind = source.behind;
    among = λ h i m. source.among h (was_under h i) m;
  }
    where
      low : (source.place < group.first) ⊎ (group.first ≤ source.place) → source.place < group.first
      low (inl k) = k
      low (inr k) = let a = source.among group was_group k in let b = all in absurd (omega (arith, a, b, l))

  inside_under : (h : Group) (q : ℕ) → q < group.first → IsInside before h q → IsInside under h q
  inside_under h q k (l, inl r) = (l, inl r)
  inside_under h q k (l, inr (g, i, a, b)) = go (in_or_last g under group i)
    where
      go : In g under ⊎ (g ≡ group) → IsInside under h q
      go (inl j) = (l, inr (g, j, a, b))
      go (inr e) = let s = ap (λ (x : Group). x.first) e in absurd (omega (arith, s, b, k))

  goes : (p j : ℕ) → Goes states before todo p j → Goes after under todo p j
  goes p j (to_closed c) = to_closed (stays_closed j c)
  goes p j (to_open q o inside) = go (cases_lt q group.first)
    where
      go : (q < group.first) ⊎ (group.first ≤ q) → Goes after under todo p j
      go (inl l) = to_open q (stays_open j q o l) (λ h i m. inside_under h q l (inside h (was_under h i) m))
      go (inr l) = to_closed (out_closed j (in_out j q o l))
  goes p j (to_left e at among) = to_left e at (λ h i m. among h (was_under h i) m)

  left_after : IsLeft uses after under todo
  left_after = record {
    sources = λ e z g at i l. source_after e z g (slice_get_within todo e z at) (left.sources e z g at (was_under g i) l);
    goes = λ i p j o u. goes p j (left.goes i p j (was_open i p o).0 u);
    unseen = λ i s. left.unseen i (was_not_closed i Unseen s closed_unseen);
  }

  -- ---- the closed nodes

  -- the nodes of the last group lead to each open node, and each open node leads to them
  each_leads : (i p j q : ℕ) → IsOpen states i p → IsOpen states j q → group.first ≤ q → Comes uses i j
  each_leads i p j q a b l = path.leads i p j q a b (λ h m k. let f = in_front h m in omega (arith, f, l))

  -- what a node of the group uses is closed, or in the group, which then is a ring
  abbrev OutGoes : ℕ → Type 0
  OutGoes j = IsClosed states j ⊎ ((group.ring ≡ true) × In j out)

  out_goes : (p j : ℕ) → group.first ≤ p → Goes states before todo p j → OutGoes j
  out_goes p j l (to_closed c) = inl c
  out_goes p j l (to_open q o inside) = go (inside group was_group l)
    where
      go : IsInside before group q → OutGoes j
      go (m, inl r) = inr (r, in_out j q o m)
      go (m, inr (g, i, a, b)) = absurd (not_past g i a)
  out_goes p j l (to_left e at among) =
      let a = among group was_group l in
      let b = all in
      let c = slice_get_within todo e j at in
      absurd (omega (arith, a, b, c))

  out_uses : (i j : ℕ) → In i out → Uses uses i j → OutGoes j
  out_uses i j m u = let (p, l, o) = out_open i m in out_goes p j l (left.goes i p j o u)

  ring_leads : group.ring ≡ true → (i : ℕ) → In i out → Leads uses i i
  ring_leads r i m =
      let (p, l, o) = out_open i m in
      let (f, at) = at_within opened group.first group_within in
      let first = kept.places group.first f at in
      on_same_ring uses i f (each_leads i p f group.first o first (omega arith)) (path.rings group f was_group r first) (each_leads f group.first i p first o l)

  both_leads : group.ring ≡ true → (i j : ℕ) → In i out → In j out → Leads uses j i
  both_leads r i j a b =
      let (p, l, o) = out_open i a in
      let (q, k, s) = out_open j b in
      go (each_leads j q i p s o l)
    where
      go : Comes uses j i → Leads uses j i
      go (inl e) = subst (λ (x : ℕ). Leads uses j x) e (ring_leads r j b)
      go (inr way) = way

  closed_comes : (i j : ℕ) → Leads uses i j → IsClosed states i → IsClosed states j
  closed_comes _ _ (straight i j u) c = shut.shut i j c u
  closed_comes _ _ (further i k j u rest) c = closed_comes k j rest (shut.shut i k c u)

  closed_on : (i j : ℕ) → Comes uses i j → IsClosed states i → IsClosed states j
  closed_on i j (inl e) c = subst (λ (x : ℕ). IsClosed states x) e c
  closed_on i j (inr way) c = closed_comes i j way c

  is_ring : (i : ℕ) → In i out → Leads uses i i → group.ring ≡ true
  is_ring i m way = let (k, u, on) = leads_first uses i i way in go k on (out_uses i k m u)
    where
      go : (k : ℕ) → Comes uses k i → OutGoes k → group.ring ≡ true
      go k on (inl c) = absurd (closed_not_out i (closed_on k i on c) m)
      go k on (inr (r, j)) = r

  shuts : (i j : ℕ) → IsClosed states i ⊎ In i out → Uses uses i j → IsClosed after j
  shuts i j (inl c) u = stays_closed j (shut.shut i j c u)
  shuts i j (inr m) u = go (out_uses i j m u)
    where
      go : OutGoes j → IsClosed after j
      go (inl c) = stays_closed j c
      go (inr (r, k)) = out_closed j k

  tells : (i : ℕ) → IsClosed states i ⊎ In i out → (slice_get marks i ≡ Some true) ↔ Leads uses i i
  tells i (inl c) = subst (λ (o : Option Bool). (o ≡ Some true) ↔ Leads uses i i) (sym (set_all_there group.ring out on_ring i (closed_not_out i c))) (shut.told i c)
  tells i (inr m) = (λ e. ring_leads (some_is group.ring true (sym here ∙ e)) i m, λ way. here ∙ ap Some (is_ring i m way))
    where
      within : i < length on_ring
      within = let (p, l, o) = out_open i m in let a = open_within i p o in let b = kept.count_is in let c = kept.marks_are in omega (arith, a, b, c)

      here : slice_get marks i ≡ Some group.ring
      here = set_all_here group.ring out on_ring i m within

  stands_behind : (i j : ℕ) → IsClosed states i ⊎ In i out → Uses uses i j → Before j i (order ++ out) ⊎ Leads uses j i
  stands_behind i j (inl c) u = elim (shut.behind i j c u) [ inl b ↦ inl (before_left j i order out b) | inr way ↦ inr way ]
  stands_behind i j (inr m) u = go (out_uses i j m u)
    where
      go : OutGoes j → Before j i (order ++ out) ⊎ Leads uses j i
      go (inl c) = inl (before_across j i order out (kept.ordered j c) m)
      go (inr (r, k)) = inr (both_leads r i j m k)

  shut_after : IsShut uses after marks (order ++ out)
  shut_after = record {
    shut = λ i j c u. shuts i j (was_closed i c) u;
    told = λ i c. tells i (was_closed i c);
    behind = λ i j c u. stands_behind i j (was_closed i c) u;
  }

closed_parts : (uses : List (List ℕ)) (walk : Progress) (under : List Group) (group : Group) → walk.groups ≡ under ++ group ∷ [] → group.left ≡ length walk.todo → IsUnderWay uses walk
    → IsUnderWay uses (record { states = set_all Closed walk.states (drop group.first walk.opened); opened = take group.first walk.opened; groups = under; todo = walk.todo; on_ring = set_all group.ring walk.on_ring (drop group.first walk.opened); order = walk.order ++ drop group.first walk.opened })
closed_parts uses walk under group parts all way =
    let path = subst (λ (gs : List Group). IsPath uses walk.states gs (length walk.opened) (length walk.todo)) parts way.path in
    let left = subst (λ (gs : List Group). IsLeft uses walk.states gs walk.todo) parts way.left in
    record {
      kept = kept_after uses walk.states walk.opened under group walk.todo walk.on_ring walk.order way.kept path left way.shut all;
      path = path_after uses walk.states walk.opened under group walk.todo walk.on_ring walk.order way.kept path left way.shut all;
      left = left_after uses walk.states walk.opened under group walk.todo walk.on_ring walk.order way.kept path left way.shut all;
      shut = shut_after uses walk.states walk.opened under group walk.todo walk.on_ring walk.order way.kept path left way.shut all;
    }

-- the groups but the last one
but_last : (groups under : List Group) (group : Group) → groups ≡ under ++ group ∷ [] → take (length groups - 1) groups ≡ under
but_last groups under group e =
    let long = ap length e ∙ length_push under group in
    ap (take (length groups - 1)) e ∙ take_at under (group ∷ []) (length groups - 1) (omega (arith, long))

pub closed_way : (uses : List (List ℕ)) (walk : Progress) (under : List Group) (group : Group) → walk.groups ≡ under ++ group ∷ [] → group.left ≡ length walk.todo → IsUnderWay uses walk
    → IsUnderWay uses (closing group walk)
closed_way uses walk under group parts all way =
    subst (λ (gs : List Group). IsUnderWay uses (record { states = set_all Closed walk.states (drop group.first walk.opened); opened = take group.first walk.opened; groups = gs; todo = walk.todo; on_ring = set_all group.ring walk.on_ring (drop group.first walk.opened); order = walk.order ++ drop group.first walk.opened }))
    (sym (but_last walk.groups under group parts)) (closed_parts uses walk under group parts all way)
