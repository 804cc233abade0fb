-- The last group leads to an open node: all groups from that node's on are one, which is a ring.
use Rattle.std.proofs.Common.{◌≡◌, ◌⊎◌, inl, inr, ℕ, ◌<◌, ◌≤◌, true, List, [], ◌∷◌, ◌++◌, length, Some, slice_get, refl, sym, ap, subst, ◌∙◌, arith}
use Rattle.std.proofs.lemmas.Bool.{cases_lt}
use Rattle.std.proofs.lemmas.Option.{slice_get_within}
use Rattle.dy_rings.specs.declared.ring.State.{State}
use Rattle.dy_rings.specs.declared.ring.State.TheVariants.{Unseen, Open}
use Rattle.dy_rings.specs.declared.ring.Group.{Group}
use Rattle.dy_rings.specs.Rings.{In, Uses, Leads}
use Rattle.dy_rings.specs.Walks.{Progress, Joins}
use Rattle.dy_rings.proofs.Lists.{in_or_last, in_left, in_last, in_right, in_parts}
use Rattle.dy_rings.proofs.Groups.{Below, ascends_front, ascends_back, ascends_across, ascends_push}
use Rattle.dy_rings.proofs.Ways.{Comes, by_use}
use Rattle.dy_rings.proofs.UnderWay.{IsOpen, IsFrom, IsPath, IsSource, IsInside, Goes, to_closed, to_open, to_left, IsLeft, IsUnderWay}
use Rattle.dy_rings.proofs.Popping.{IsUser, IsTaken, IsOn, path_taken, taken}

module _ (uses : List (List ℕ)) (states : List State) (opened : ℕ) (under above : List Group) (group : Group) (rest : List ℕ) (y q : ℕ)
    (count : length states ≡ length uses)
    (path : IsPath uses states (under ++ group ∷ above) opened (length rest))
    (out : IsTaken uses states (under ++ group ∷ above) rest y)
    (there : IsOpen states y q)
    (begins : group.first ≤ q)
    (others : (h : Group) → In h above → q < h.first) where
  abbrev before : List Group
  before = under ++ group ∷ above

  abbrev ring : Group
  ring = record { first = group.first; left = group.left; ring = true }

  abbrev after : List Group
  after = under ++ ring ∷ []

  was_under : (h : Group) → In h under → In h before
  was_under h i = in_left h under (group ∷ above) i

  was_group : In group before
  was_group = in_right group under (group ∷ above) (inl refl)

  was_above : (h : Group) → In h above → In h before
  was_above h i = in_right h under (group ∷ above) (inr i)

  is_under : (h : Group) → In h under → In h after
  is_under h i = in_left h under (ring ∷ []) i

  is_ring : In ring after
  is_ring = in_last ring under

  -- where a group was
  where_was : (h : Group) → In h before → In h under ⊎ ((h ≡ group) ⊎ In h above)
  where_was h i = elim (in_parts h under (group ∷ above) i) [ inl j ↦ inl j | inr j ↦ inr j ]

  below_group : (h : Group) → In h under → Below h group
  below_group h i = ascends_across under (group ∷ above) path.ascends h group i (inl refl)

  group_below : (h : Group) → In h above → Below group h
  group_below h i = (ascends_back under (group ∷ above) path.ascends).0 h i

  user : IsUser uses states before y
  user = out.user y q there

  used : Uses uses user.node y
  used = record {
    user = let a = slice_get_within states user.node (Open user.place) user.open_there in let b = count in omega (arith, a, b);
    used = let a = slice_get_within states y (Open q) there in let b = count in omega (arith, a, b);
    named = user.named;
  }

  -- the node that is used leads to all from its group on
  reaches : (j r : ℕ) → IsOpen states j r → group.first ≤ r → Comes uses y j
  reaches j r o l = path.leads y q j r there o (λ h i m. from h (where_was h i) m)
    where
      from : (h : Group) → In h under ⊎ ((h ≡ group) ⊎ In h above) → h.first ≤ q → h.first ≤ r
      from h (inl i) m = let b = (below_group h i).first in omega (arith, b, l)
      from h (inr (inl e)) m = let b = ap (λ (x : Group). x.first) e in omega (arith, b, l)
      from h (inr (inr i)) m = let b = others h i in absurd (omega (arith, b, m))

  -- so each open node leads to all from that group on
  round : (i p j r : ℕ) → IsOpen states i p → IsOpen states j r → group.first ≤ r → Leads uses i j
  round i p j r a b l = by_use uses i user.node y j (path.leads i p user.node user.place a user.open_there (λ h m k. user.last h m)) used (reaches j r b l)

  -- ---- the path

  below_ring : (h : Group) → In h under → Below h ring
  below_ring h i = let b = below_group h i in record { first = b.first; left = b.left }

  firsts : (g : Group) → In g under ⊎ (g ≡ ring) → g.first < opened
  firsts g (inl i) = path.firsts g (was_under g i)
  firsts g (inr e) = let a = ap (λ (x : Group). x.first) e in let b = path.firsts group was_group in omega (arith, a, b)

  lefts : (g : Group) → In g under ⊎ (g ≡ ring) → g.left ≤ length rest
  lefts g (inl i) = path.lefts g (was_under g i)
  lefts g (inr e) = let a = ap (λ (x : Group). x.left) e in let b = path.lefts group was_group in omega (arith, a, b)

  bottom : (g : Group) → In g under ⊎ ((g ≡ group) ⊎ In g above) → g.first ≡ 0 → (h : Group) × In h after × (h.first ≡ 0)
  bottom g (inl i) e = (g, is_under g i, e)
  bottom g (inr (inl s)) e = (ring, is_ring, ap (λ (x : Group). x.first) (sym s) ∙ e)
  bottom g (inr (inr i)) e = let b = others g i in absurd (omega (arith, b, e))

  -- in front of the ring nothing has changed
  from_before : (p r : ℕ) → p < group.first → IsFrom after p r → IsFrom before p r
  from_before p r l from h i m = go (where_was h i)
    where
      go : In h under ⊎ ((h ≡ group) ⊎ In h above) → h.first ≤ r
      go (inl j) = from h (is_under h j) m
      go (inr (inl e)) = let b = ap (λ (x : Group). x.first) e in absurd (omega (arith, b, l, m))
      go (inr (inr j)) = let b = others h j in absurd (omega (arith, b, l, m, begins))

  leads : (i p j r : ℕ) → IsOpen states i p → IsOpen states j r → IsFrom after p r → (p < group.first) ⊎ (group.first ≤ p) → Comes uses i j
  leads i p j r a b from (inl l) = path.leads i p j r a b (from_before p r l from)
  leads i p j r a b from (inr l) = inr (round i p j r a b (from ring is_ring l))

  rings : (g : Group) (i : ℕ) → In g under ⊎ (g ≡ ring) → g.ring ≡ true → IsOpen states i g.first → Leads uses i i
  rings g i (inl m) r o = path.rings g i (was_under g m) r o
  rings g i (inr e) r o = let a = ap (λ (x : Group). x.first) e in round i g.first i g.first o o (omega (arith, a))

  path_after : IsPath uses states after opened (length rest)
  path_after = record {
    ascends = ascends_push under ring (ascends_front under (group ∷ above) path.ascends) below_ring;
    firsts = λ g i. firsts g (in_or_last g under ring i);
    lefts = λ g i. lefts g (in_or_last g under ring i);
    bottom = λ l. let (g, i, e) = path.bottom l in bottom g (where_was g i) e;
    leads = λ i p j r a b from. leads i p j r a b from (cases_lt p group.first);
    rings = λ g i m r o. rings g i (in_or_last g under ring m) r o;
  }

  -- ---- the uses that are left

  -- what is true of each group that was there, and goes by where it begins, is true of each that is there
  each_after : (P : ℕ → ℕ → Type 0) → ((h : Group) → In h before → P h.first h.left) → (h : Group) → In h after → P h.first h.left
  each_after P each h i = go (in_or_last h under ring i)
    where
      go : In h under ⊎ (h ≡ ring) → P h.first h.left
      go (inl j) = each h (was_under h j)
      go (inr e) = subst (λ (x : Group). P x.first x.left) (sym e) (each group was_group)

  source_after : (e z : ℕ) (g : Group) → IsSource uses states before e z g → (k : Group) → k.first ≡ g.first → IsSource uses states after e z k
  source_after e z g source k same = record {
    node = source.node;
    place = source.place;
    open_there = source.open_there;
    named = source.named;
    behind = let a = source.behind in omega (arith, a, same);
    among = λ h i l. each_after (λ f m. f ≤ source.place → m ≤ e) (λ x j. source.among x j) h i l;
  }

  sources : (e z : ℕ) (g : Group) → slice_get rest e ≡ Some z → In g under ⊎ (g ≡ ring) → g.left ≤ e → IsSource uses states after e z g
  sources e z g at (inl i) l = source_after e z g (out.sources e z g at (was_under g i) l) g refl
  sources e z g at (inr s) l =
      let a = ap (λ (x : Group). x.left) s in
      source_after e z group (out.sources e z group at was_group (omega (arith, a, l))) g (ap (λ (x : Group). x.first) s)

  behind_some : (h : Group) (r : ℕ) → In h under → (g : Group) → In g under ⊎ ((g ≡ group) ⊎ In g above) → h.first < g.first → g.first ≤ r
      → (k : Group) × In k after × (h.first < k.first) × (k.first ≤ r)
  behind_some h r m g (inl i) a b = (g, is_under g i, a, b)
  behind_some h r m g (inr (inl e)) a b = let s = ap (λ (x : Group). x.first) e in (ring, is_ring, (below_group h m).first, omega (arith, s, b))
  behind_some h r m g (inr (inr i)) a b = let s = (group_below g i).first in (ring, is_ring, (below_group h m).first, omega (arith, s, b))

  inside_under : (h : Group) (r : ℕ) → In h under → IsInside before h r → IsInside after h r
  inside_under h r m (l, inl s) = (l, inl s)
  inside_under h r m (l, inr (g, i, a, b)) = (l, inr (behind_some h r m g (where_was g i) a b))

  inside_after : (p r : ℕ) → ((h : Group) → In h before → h.first ≤ p → IsInside before h r) → (h : Group) → In h after → h.first ≤ p → IsInside after h r
  inside_after p r inside h i l = go (in_or_last h under ring i)
    where
      go : In h under ⊎ (h ≡ ring) → IsInside after h r
      go (inl j) = inside_under h r j (inside h (was_under h j) l)
      go (inr e) =
          let a = ap (λ (x : Group). x.first) e in
          let b = (inside group was_group (omega (arith, a, l))).0 in
          (omega (arith, a, b), inl (ap (λ (x : Group). x.ring) e))

  -- the node that is used now
  inside_now : (p : ℕ) (h : Group) → In h after → h.first ≤ p → IsInside after h q
  inside_now p h i l = go (in_or_last h under ring i)
    where
      go : In h under ⊎ (h ≡ ring) → IsInside after h q
      go (inl j) = let b = (below_group h j).first in (omega (arith, b, begins), inr (ring, is_ring, b, begins))
      go (inr e) = let a = ap (λ (x : Group). x.first) e in (omega (arith, a, begins), inl (ap (λ (x : Group). x.ring) e))

  goes : (i p j : ℕ) → Goes states before rest p j ⊎ (j ≡ y) → Goes states after rest p j
  goes i p j (inl (to_closed c)) = to_closed c
  goes i p j (inl (to_open r o inside)) = to_open r o (inside_after p r inside)
  goes i p j (inl (to_left e at among)) = to_left e at (λ h m l. each_after (λ f k. f ≤ p → k ≤ e) (λ x n. among x n) h m l)
  goes i p j (inr s) = to_open q (subst (λ (x : ℕ). IsOpen states x q) (sym s) there) (inside_now p)

  not_both : (i : ℕ) → slice_get states i ≡ Some Unseen → IsOpen states i q → ⊥
  not_both i a b = cc

  unseen : (i : ℕ) → slice_get states i ≡ Some Unseen → In i rest ⊎ (i ≡ y) → In i rest
  unseen i s (inl m) = m
  unseen i s (inr e) = absurd (not_both i s (subst (λ (x : ℕ). IsOpen states x q) (sym e) there))

  left_after : IsLeft uses states after rest
  left_after = record {
    sources = λ e z g at i l. sources e z g at (in_or_last g under ring i) l;
    goes = λ i p j o u. goes i p j (out.goes i p j o u);
    unseen = λ i s. unseen i s (out.unseen i s);
  }

joined_parts : (uses : List (List ℕ)) (walk : Progress) (rest : List ℕ) (y q : ℕ) (under above : List Group) (group : Group) → walk.todo ≡ rest ++ y ∷ [] → IsUnderWay uses walk → IsOn walk.groups (length walk.todo)
    → IsOpen walk.states y q → walk.groups ≡ under ++ group ∷ above → group.first ≤ q → ((h : Group) → In h above → q < h.first)
    → IsUnderWay uses (record { states = walk.states; opened = walk.opened; groups = under ++ record { first = group.first; left = group.left; ring = true } ∷ []; todo = rest; on_ring = walk.on_ring; order = walk.order })
joined_parts uses walk rest y q under above group e way on there parts begins others =
    let path = path_taken uses walk.states walk.groups (length walk.opened) walk.todo rest y e way.path on in
    let out = taken uses walk.states walk.groups walk.opened walk.todo rest y e way.path on way.kept.stands way.left in
    let path_before = subst (λ (gs : List Group). IsPath uses walk.states gs (length walk.opened) (length rest)) parts path in
    let out_before = subst (λ (gs : List Group). IsTaken uses walk.states gs rest y) parts out in
    record {
      kept = way.kept;
      path = path_after uses walk.states (length walk.opened) under above group rest y q way.kept.count_is path_before out_before there begins others;
      left = left_after uses walk.states (length walk.opened) under above group rest y q way.kept.count_is path_before out_before there begins others;
      shut = way.shut;
    }

pub joined_way : (uses : List (List ℕ)) (walk : Progress) (rest : List ℕ) (y q : ℕ) (after : List Group) → walk.todo ≡ rest ++ y ∷ [] → IsUnderWay uses walk → IsOn walk.groups (length walk.todo)
    → IsOpen walk.states y q → Joins q walk.groups after
    → IsUnderWay uses (record { states = walk.states; opened = walk.opened; groups = after; todo = rest; on_ring = walk.on_ring; order = walk.order })
joined_way uses walk rest y q groups e way on there joins =
    subst (λ (gs : List Group). IsUnderWay uses (record { states = walk.states; opened = walk.opened; groups = gs; todo = rest; on_ring = walk.on_ring; order = walk.order }))
    (sym joins.joined) (joined_parts uses walk rest y q joins.under joins.above joins.group e way on there joins.parts joins.begins joins.others)
