-- A node that was not met is opened, and is a group by itself.
use Rattle.std.proofs.Common.{◌≡◌, ◌⊎◌, inl, inr, ℕ, ◌+◌, ◌<◌, ◌≤◌, Bool, true, false, List, [], ◌∷◌, ◌++◌, length, Some, slice_get, slice_set, refl, sym, ap, subst, ◌∙◌, arith}
use Rattle.std.proofs.lemmas.Bool.{cases_eq, cases_lt}
use Rattle.std.proofs.lemmas.List.{length_push, length-append}
use Rattle.std.proofs.lemmas.Option.{slice_get_within}
use Rattle.dy_rings.specs.declared.ring.State.{State}
use Rattle.dy_rings.specs.declared.ring.State.TheVariants.{Unseen, Open, Closed}
use Rattle.dy_rings.specs.declared.ring.Group.{Group}
use Rattle.dy_rings.specs.Rings.{In, uses_at, Uses, Leads}
use Rattle.dy_rings.specs.Walks.{Progress, opening}
use Rattle.dy_rings.proofs.Lists.{in_or_last, in_left, in_last, in_at, at_in, at_parts, at_or_last, at_front, at_end, at_back, set_here, set_there, length_set}
use Rattle.dy_rings.proofs.Groups.{Below, ascends_push}
use Rattle.dy_rings.proofs.Ways.{Comes, by_use}
use Rattle.dy_rings.proofs.UnderWay.{IsOpen, IsClosed, IsKept, IsFrom, IsPath, IsSource, IsInside, Goes, to_closed, to_open, to_left, IsLeft, IsShut, IsUnderWay}
use Rattle.dy_rings.proofs.Popping.{IsUser, IsTaken, IsOn, path_taken, taken}

module _ (uses : List (List ℕ)) (states : List State) (opened : List ℕ) (groups : List Group) (rest : List ℕ) (on_ring : List Bool) (order : List ℕ) (y : ℕ)
    (kept : IsKept (length uses) states opened on_ring order)
    (path : IsPath uses states groups (length opened) (length rest))
    (out : IsTaken uses states groups rest y)
    (new : slice_get states y ≡ Some Unseen) where
  abbrev after : List State
  after = slice_set states y (Open (length opened))

  abbrev group : Group
  group = record { first = length opened; left = length rest; ring = false }

  within : y < length states
  within = slice_get_within states y Unseen new

  here : IsOpen after y (length opened)
  here = set_here states y (Open (length opened)) within

  there : (i : ℕ) → (y ≡ i → ⊥) → slice_get after i ≡ slice_get states i
  there i other = set_there states y i (Open (length opened)) other

  -- a node that was met is another one
  other_than : (i : ℕ) (s : State) → slice_get states i ≡ Some s → (Some Unseen ≡ Some s → ⊥) → y ≡ i → ⊥
  other_than i s at not_new e = not_new (sym new ∙ ap (slice_get states) e ∙ at)

  not_open : (p : ℕ) → Some Unseen ≡ Some (Open p) → ⊥
  not_open p e = cc

  not_closed : Some Unseen ≡ Some Closed → ⊥
  not_closed e = cc

  open_not_closed : (p : ℕ) → Some (Open p) ≡ Some Closed → ⊥
  open_not_closed p e = cc

  open_not_unseen : (p : ℕ) → Some (Open p) ≡ Some Unseen → ⊥
  open_not_unseen p e = cc

  same_open : (p q : ℕ) → Some (Open p) ≡ Some (Open q) → p ≡ q
  same_open p q e = cc

  stays_open : (i p : ℕ) → IsOpen states i p → IsOpen after i p
  stays_open i p o = there i (other_than i (Open p) o (not_open p)) ∙ o

  stays_closed : (i : ℕ) → IsClosed states i → IsClosed after i
  stays_closed i c = there i (other_than i Closed c not_closed) ∙ c

  was_open : (i p : ℕ) → IsOpen after i p → ((i ≡ y) × (p ≡ length opened)) ⊎ IsOpen states i p
  was_open i p o = go (cases_eq y i)
    where
      go : (y ≡ i) ⊎ (y ≡ i → ⊥) → ((i ≡ y) × (p ≡ length opened)) ⊎ IsOpen states i p
      go (inl e) = inl (sym e, same_open p (length opened) (sym o ∙ ap (slice_get after) (sym e) ∙ here))
      go (inr d) = inr (sym (there i d) ∙ o)

  was_closed : (i : ℕ) → IsClosed after i → IsClosed states i
  was_closed i c = go (cases_eq y i)
    where
      go : (y ≡ i) ⊎ (y ≡ i → ⊥) → IsClosed states i
      go (inl e) = absurd (open_not_closed (length opened) (sym here ∙ ap (slice_get after) e ∙ c))
      go (inr d) = sym (there i d) ∙ c

  was_unseen : (i : ℕ) → slice_get after i ≡ Some Unseen → (slice_get states i ≡ Some Unseen) × (y ≡ i → ⊥)
  was_unseen i c = go (cases_eq y i)
    where
      go : (y ≡ i) ⊎ (y ≡ i → ⊥) → (slice_get states i ≡ Some Unseen) × (y ≡ i → ⊥)
      go (inl e) = absurd (open_not_unseen (length opened) (sym here ∙ ap (slice_get after) e ∙ c))
      go (inr d) = (sym (there i d) ∙ c, d)

  place_within : (i p : ℕ) → IsOpen states i p → p < length opened
  place_within i p o = slice_get_within opened p i (kept.stands i p o)

  long : length (opened ++ y ∷ []) ≡ length opened + 1
  long = length_push opened y

  longer : length (rest ++ uses_at uses y) ≡ length rest + length (uses_at uses y)
  longer = length-append rest (uses_at uses y)

  is_used : (u pu : ℕ) → IsOpen states u pu → In y (uses_at uses u) → Uses uses u y
  is_used u pu o i = record {
    user = let a = slice_get_within states u (Open pu) o in let b = kept.count_is in omega (arith, a, b);
    used = let a = within in let b = kept.count_is in omega (arith, a, b);
    named = i;
  }

  -- ---- the path

  below : (h : Group) → In h groups → Below h group
  below h i = record { first = path.firsts h i; left = path.lefts h i }

  firsts : (g : Group) → In g groups ⊎ (g ≡ group) → g.first < length (opened ++ y ∷ [])
  firsts g (inl i) = let a = path.firsts g i in let b = long in omega (arith, a, b)
  firsts g (inr e) = let a = ap (λ (x : Group). x.first) e in let b = long in omega (arith, a, b)

  lefts : (g : Group) → In g groups ⊎ (g ≡ group) → g.left ≤ length (rest ++ uses_at uses y)
  lefts g (inl i) = let a = path.lefts g i in let b = longer in omega (arith, a, b)
  lefts g (inr e) = let a = ap (λ (x : Group). x.left) e in let b = longer in omega (arith, a, b)

  bottom : (0 < length opened) ⊎ (length opened ≤ 0) → (g : Group) × In g (groups ++ group ∷ []) × (g.first ≡ 0)
  bottom (inl l) = let (g, i, e) = path.bottom l in (g, in_left g groups (group ∷ []) i, e)
  bottom (inr l) = (group, in_last group groups, omega arith)

  old_from : (p q : ℕ) → IsFrom (groups ++ group ∷ []) p q → IsFrom groups p q
  old_from p q from g i = from g (in_left g groups (group ∷ []) i)

  leads_new : (i p : ℕ) → IsOpen states i p → IsUser uses states groups y → Leads uses i y
  leads_new i p o user = by_use uses i user.node y y (path.leads i p user.node user.place o user.open_there (λ h m l. user.last h m)) (is_used user.node user.place user.open_there user.named) (inl refl)

  leads : (i p j q : ℕ) → ((i ≡ y) × (p ≡ length opened)) ⊎ IsOpen states i p → ((j ≡ y) × (q ≡ length opened)) ⊎ IsOpen states j q → IsFrom (groups ++ group ∷ []) p q → Comes uses i j
  leads i p j q (inl a) (inl b) from = inl (a.0 ∙ sym b.0)
  leads i p j q (inl a) (inr o) from =
      let l = place_within j q o in
      let at = a.1 in
      let past : length opened ≤ q = from group (in_last group groups) (omega (arith, at)) in
      absurd (omega (arith, l, past))
  leads i p j q (inr o) (inl b) from = inr (subst (λ (x : ℕ). Leads uses i x) (sym b.0) (leads_new i p o (out.user i p o)))
  leads i p j q (inr o) (inr r) from = path.leads i p j q o r (old_from p q from)

  rings : (g : Group) (i : ℕ) → In g groups ⊎ (g ≡ group) → g.ring ≡ true → IsOpen after i g.first → Leads uses i i
  rings g i (inl m) r o = old (was_open i g.first o)
    where
      old : ((i ≡ y) × (g.first ≡ length opened)) ⊎ IsOpen states i g.first → Leads uses i i
      old (inl a) = let l = path.firsts g m in let e = a.1 in absurd (omega (arith, l, e))
      old (inr b) = path.rings g i m r b
  rings g i (inr e) r o = absurd (not_ring (sym (ap (λ (x : Group). x.ring) e) ∙ r))
    where
      not_ring : false ≡ true → ⊥
      not_ring f = cc

  path_after : IsPath uses after (groups ++ group ∷ []) (length (opened ++ y ∷ [])) (length (rest ++ uses_at uses y))
  path_after = record {
    ascends = ascends_push groups group path.ascends below;
    firsts = λ g i. firsts g (in_or_last g groups group i);
    lefts = λ g i. lefts g (in_or_last g groups group i);
    bottom = λ l. bottom (cases_lt 0 (length opened));
    leads = λ i p j q o r from. leads i p j q (was_open i p o) (was_open j q r) from;
    rings = λ g i m r o. rings g i (in_or_last g groups group m) r o;
  }

  -- ---- the states

  places : (p i : ℕ) → (slice_get opened p ≡ Some i) ⊎ ((p ≡ length opened) × (i ≡ y)) → IsOpen after i p
  places p i (inl at) = stays_open i p (kept.places p i at)
  places p i (inr e) = subst (λ (x : ℕ). IsOpen after x p) (sym e.1) (subst (λ (k : ℕ). IsOpen after y k) (sym e.0) here)

  stands : (i p : ℕ) → ((i ≡ y) × (p ≡ length opened)) ⊎ IsOpen states i p → slice_get (opened ++ y ∷ []) p ≡ Some i
  stands i p (inl e) = ap (slice_get (opened ++ y ∷ [])) e.1 ∙ at_end opened y [] ∙ ap Some (sym e.0)
  stands i p (inr o) = at_front opened (y ∷ []) p i (kept.stands i p o)

  kept_after : IsKept (length uses) after (opened ++ y ∷ []) on_ring order
  kept_after = record {
    count_is = length_set states y (Open (length opened)) ∙ kept.count_is;
    marks_are = kept.marks_are;
    places = λ p i at. places p i (at_or_last opened y p i at);
    stands = λ i p o. stands i p (was_open i p o);
    ordered = λ i c. kept.ordered i (was_closed i c);
    closed = λ i m. stays_closed i (kept.closed i m);
    once = kept.once;
  }

  -- ---- the uses that are left

  old_source : (e z : ℕ) (g : Group) → IsSource uses states groups e z g → IsSource uses after (groups ++ group ∷ []) e z g
  old_source e z g source = record {
    node = source.node;
    place = source.place;
    open_there = stays_open source.node source.place source.open_there;
    named = source.named;
    behind = source.behind;
    among = λ h i l. among h (in_or_last h groups group i) l;
  }
    where
      among : (h : Group) → In h groups ⊎ (h ≡ group) → h.first ≤ source.place → h.left ≤ e
      among h (inl i) l = source.among h i l
      among h (inr s) l =
          let a = place_within source.node source.place source.open_there in
          let b = ap (λ (x : Group). x.first) s in
          absurd (omega (arith, a, b, l))

  new_source : (e z m : ℕ) (g : Group) → e ≡ m + length rest → slice_get (uses_at uses y) m ≡ Some z → In g groups ⊎ (g ≡ group) → IsSource uses after (groups ++ group ∷ []) e z g
  new_source e z m g is at i = record {
    node = y;
    place = length opened;
    open_there = here;
    named = at_in (uses_at uses y) m z at;
    behind = first g i;
    among = λ h j l. among h (in_or_last h groups group j);
  }
    where
      first : (g : Group) → In g groups ⊎ (g ≡ group) → g.first ≤ length opened
      first g (inl i) = let a = path.firsts g i in omega (arith, a)
      first g (inr s) = let b = ap (λ (x : Group). x.first) s in omega (arith, b)

      among : (h : Group) → In h groups ⊎ (h ≡ group) → h.left ≤ e
      among h (inl i) = let a = path.lefts h i in omega (arith, a, is)
      among h (inr s) = let b = ap (λ (x : Group). x.left) s in omega (arith, b, is)

  sources : (e z : ℕ) (g : Group) → (slice_get rest e ≡ Some z) ⊎ ((m : ℕ) × (e ≡ m + length rest) × (slice_get (uses_at uses y) m ≡ Some z)) → In g groups ⊎ (g ≡ group) → g.left ≤ e
      → IsSource uses after (groups ++ group ∷ []) e z g
  sources e z g (inl at) (inl i) l = old_source e z g (out.sources e z g at i l)
  sources e z g (inl at) (inr s) l =
      let a = slice_get_within rest e z at in
      let b = ap (λ (x : Group). x.left) s in
      absurd (omega (arith, a, b, l))
  sources e z g (inr (m, is, at)) i l = new_source e z m g is at i

  -- what is true of each group that begins at p or in front of it is true of each of those that were there
  old_only : (P : Group → Type 0) (i p : ℕ) → IsOpen states i p → ((h : Group) → In h groups → h.first ≤ p → P h) → (h : Group) → In h (groups ++ group ∷ []) → h.first ≤ p → P h
  old_only P i p o each h m l = go (in_or_last h groups group m)
    where
      go : In h groups ⊎ (h ≡ group) → P h
      go (inl j) = each h j l
      go (inr s) =
          let a = place_within i p o in
          let b = ap (λ (x : Group). x.first) s in
          absurd (omega (arith, a, b, l))

  inside_more : (h : Group) (q : ℕ) → IsInside groups h q → IsInside (groups ++ group ∷ []) h q
  inside_more h q (l, inl r) = (l, inl r)
  inside_more h q (l, inr (g, i, a, b)) = (l, inr (g, in_left g groups (group ∷ []) i, a, b))

  goes_old : (i p j : ℕ) → IsOpen states i p → Goes states groups rest p j ⊎ (j ≡ y) → Goes after (groups ++ group ∷ []) (rest ++ uses_at uses y) p j
  goes_old i p j o (inl (to_closed c)) = to_closed (stays_closed j c)
  goes_old i p j o (inl (to_open q r inside)) = to_open q (stays_open j q r) (old_only (λ (h : Group). IsInside (groups ++ group ∷ []) h q) i p o (λ h m l. inside_more h q (inside h m l)))
  goes_old i p j o (inl (to_left e at among)) = to_left e (at_front rest (uses_at uses y) e j at) (old_only (λ (h : Group). h.left ≤ e) i p o among)
  goes_old i p j o (inr s) = to_open (length opened) (subst (λ (x : ℕ). IsOpen after x (length opened)) (sym s) here)
      (old_only (λ (h : Group). IsInside (groups ++ group ∷ []) h (length opened)) i p o (λ h m l. let a = path.firsts h m in (omega (arith, a), inr (group, in_last group groups, a, omega arith))))

  goes_new : (j : ℕ) → In j (uses_at uses y) → (p : ℕ) → Goes after (groups ++ group ∷ []) (rest ++ uses_at uses y) p j
  goes_new j i p = let (m, at) = in_at j (uses_at uses y) i in
      to_left (m + length rest) (at_back rest (uses_at uses y) m ∙ at) (λ h k l. among m h (in_or_last h groups group k))
    where
      among : (m : ℕ) (h : Group) → In h groups ⊎ (h ≡ group) → h.left ≤ m + length rest
      among m h (inl i) = let a = path.lefts h i in omega (arith, a)
      among m h (inr s) = let b = ap (λ (x : Group). x.left) s in omega (arith, b)

  goes : (i p j : ℕ) → ((i ≡ y) × (p ≡ length opened)) ⊎ IsOpen states i p → Uses uses i j → Goes after (groups ++ group ∷ []) (rest ++ uses_at uses y) p j
  goes i p j (inl e) u = goes_new j (subst (λ (x : ℕ). In j (uses_at uses x)) e.0 u.named) p
  goes i p j (inr o) u = goes_old i p j o (out.goes i p j o u)

  unseen : (i : ℕ) → (slice_get states i ≡ Some Unseen) × (y ≡ i → ⊥) → In i (rest ++ uses_at uses y)
  unseen i (s, d) = elim (out.unseen i s) [ inl m ↦ in_left i rest (uses_at uses y) m | inr e ↦ absurd (d (sym e)) ]

  left_after : IsLeft uses after (groups ++ group ∷ []) (rest ++ uses_at uses y)
  left_after = record {
    sources = λ e z g at i l. sources e z g (at_parts rest (uses_at uses y) e z at) (in_or_last g groups group i) l;
    goes = λ i p j o u. goes i p j (was_open i p o) u;
    unseen = λ i s. unseen i (was_unseen i s);
  }

  shut_after : IsShut uses states on_ring order → IsShut uses after on_ring order
  shut_after shut = record {
    shut = λ i j c u. stays_closed j (shut.shut i j (was_closed i c) u);
    told = λ i c. shut.told i (was_closed i c);
    behind = λ i j c u. shut.behind i j (was_closed i c) u;
  }

pub opened_way : (uses : List (List ℕ)) (walk : Progress) (rest : List ℕ) (y : ℕ) → walk.todo ≡ rest ++ y ∷ [] → IsUnderWay uses walk → IsOn walk.groups (length walk.todo)
    → slice_get walk.states y ≡ Some Unseen
    → IsUnderWay uses (opening uses y (record { states = walk.states; opened = walk.opened; groups = walk.groups; todo = rest; on_ring = walk.on_ring; order = walk.order }))
opened_way uses walk rest y e way on new =
    let path = path_taken uses walk.states walk.groups (length walk.opened) walk.todo rest y e way.path on in
    let out = taken uses walk.states walk.groups walk.opened walk.todo rest y e way.path on way.kept.stands way.left in
    record {
      kept = kept_after uses walk.states walk.opened walk.groups rest walk.on_ring walk.order y way.kept path out new;
      path = path_after uses walk.states walk.opened walk.groups rest walk.on_ring walk.order y way.kept path out new;
      left = left_after uses walk.states walk.opened walk.groups rest walk.on_ring walk.order y way.kept path out new;
      shut = shut_after uses walk.states walk.opened walk.groups rest walk.on_ring walk.order y way.kept path out new way.shut;
    }
