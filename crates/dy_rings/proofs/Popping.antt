-- The last use that is left is taken out.
use Rattle.std.proofs.Common.{◌≡◌, ◌≢◌, ◌⊎◌, inl, inr, ℕ, ◌+◌, ◌<◌, ◌≤◌, List, [], ◌∷◌, ◌++◌, length, Some, slice_get, refl, sym, ap, subst, ◌∙◌, arith}
use Rattle.std.proofs.lemmas.List.{length_push}
use Rattle.std.proofs.lemmas.Option.{slice_get_within}
use Rattle.dy_rings.specs.declared.ring.State.{State}
use Rattle.dy_rings.specs.declared.ring.State.TheVariants.{Unseen}
use Rattle.dy_rings.specs.declared.ring.Group.{Group}
use Rattle.dy_rings.specs.Rings.{In, uses_at, Uses}
use Rattle.dy_rings.specs.Walks.{Progress}
use Rattle.dy_rings.proofs.Lists.{ends, in_or_last, in_last, at_or_last, at_front, at_end}
use Rattle.dy_rings.proofs.Groups.{Below, Ascends, ascends_across}
use Rattle.dy_rings.proofs.UnderWay.{IsOpen, IsClosed, IsPath, IsSource, Goes, to_closed, to_open, to_left, IsLeft, IsUnderWay}

-- the node that a use comes from which was just taken out: it is in the last group
pub record IsUser (uses : List (List ℕ)) (states : List State) (groups : List Group) (y : ℕ) : Type 0 where
  pub node : ℕ
  pub place : ℕ
  pub open_there : IsOpen states node place
  pub named : In y (uses_at uses node)
  pub last : (h : Group) → In h groups → h.first ≤ place

-- what holds when y was taken out
pub record IsTaken (uses : List (List ℕ)) (states : List State) (groups : List Group) (rest : List ℕ) (y : ℕ) : Type 0 where
  pub sources : (e z : ℕ) (g : Group) → slice_get rest e ≡ Some z → In g groups → g.left ≤ e → IsSource uses states groups e z g
  pub goes : (i p j : ℕ) → IsOpen states i p → Uses uses i j → Goes states groups rest p j ⊎ (j ≡ y)
  pub unseen : (i : ℕ) → slice_get states i ≡ Some Unseen → In i rest ⊎ (i ≡ y)
  pub user : (i p : ℕ) → IsOpen states i p → IsUser uses states groups y

-- the uses of the last group are not all followed
abbrev pub IsOn : List Group → ℕ → Type 0
IsOn groups todo = (under : List Group) (g : Group) → groups ≡ under ++ g ∷ [] → g.left ≢ todo

-- what may be said of the last group may be said of each
last_most : (uses : List (List ℕ)) (states : List State) (groups : List Group) (opened todo : ℕ) → IsPath uses states groups opened todo → (under : List Group) (top : Group) → groups ≡ under ++ top ∷ []
    → (h : Group) → In h groups → (h.first ≤ top.first) × (h.left ≤ top.left)
last_most uses states groups opened todo path under top e h i = go (in_or_last h under top (subst (λ (gs : List Group). In h gs) e i))
  where
    lower : Below h top → (h.first ≤ top.first) × (h.left ≤ top.left)
    lower b = (let f = b.first in omega arith, b.left)

    go : In h under ⊎ (h ≡ top) → (h.first ≤ top.first) × (h.left ≤ top.left)
    go (inl j) = lower (ascends_across under (top ∷ []) (subst (λ (gs : List Group). Ascends gs) e path.ascends) h top j (inl refl))
    go (inr s) = subst (λ (x : Group). (x.first ≤ top.first) × (x.left ≤ top.left)) (sym s) (omega arith, omega arith)

pub lefts_on : (uses : List (List ℕ)) (states : List State) (groups : List Group) (opened todo : ℕ) → IsPath uses states groups opened todo → IsOn groups todo → (g : Group) → In g groups → g.left < todo
lefts_on uses states groups opened todo path on g i =
    let (under, top, e) = ends g groups i in
    let most = (last_most uses states groups opened todo path under top e g i).1 in
    let within = path.lefts top (subst (λ (gs : List Group). In top gs) (sym e) (in_last top under)) in
    let not_all = on under top e in
    omega (arith, most, within, not_all)

pub path_taken : (uses : List (List ℕ)) (states : List State) (groups : List Group) (opened : ℕ) (todo rest : List ℕ) (y : ℕ) → todo ≡ rest ++ y ∷ [] → IsPath uses states groups opened (length todo) → IsOn groups (length todo)
    → IsPath uses states groups opened (length rest)
path_taken uses states groups opened todo rest y e path on = record {
  ascends = path.ascends;
  firsts = path.firsts;
  lefts = λ g i. less g (lefts_on uses states groups opened (length todo) path on g i);
  bottom = path.bottom;
  leads = path.leads;
  rings = path.rings;
}
  where
    long : length todo ≡ length rest + 1
    long = ap length e ∙ length_push rest y

    less : (g : Group) → g.left < length todo → g.left ≤ length rest
    less g l = omega (arith, long, l)

user_of : (uses : List (List ℕ)) (states : List State) (groups : List Group) (e y : ℕ) (top : Group) → ((h : Group) → In h groups → h.first ≤ top.first) → IsSource uses states groups e y top → IsUser uses states groups y
user_of uses states groups e y top most source = record {
  node = source.node;
  place = source.place;
  open_there = source.open_there;
  named = source.named;
  last = λ h i. less h (most h i) source.behind;
}
  where
    less : (h : Group) → h.first ≤ top.first → top.first ≤ source.place → h.first ≤ source.place
    less h a b = omega (arith, a, b)

pub taken : (uses : List (List ℕ)) (states : List State) (groups : List Group) (opened : List ℕ) (todo rest : List ℕ) (y : ℕ) → todo ≡ rest ++ y ∷ [] → IsPath uses states groups (length opened) (length todo) → IsOn groups (length todo)
    → ((i p : ℕ) → IsOpen states i p → slice_get opened p ≡ Some i) → IsLeft uses states groups todo → IsTaken uses states groups rest y
taken uses states groups opened todo rest y e path on stands left = record {
  sources = λ k z g at i l. left.sources k z g (front k z at) i l;
  goes = λ i p j o u. went p j (left.goes i p j o u);
  unseen = λ i s. in_or_last i rest y (subst (λ (xs : List ℕ). In i xs) e (left.unseen i s));
  user = λ i p o. user_at p (slice_get_within opened p i (stands i p o));
}
  where
    front : (k z : ℕ) → slice_get rest k ≡ Some z → slice_get todo k ≡ Some z
    front k z at = subst (λ (xs : List ℕ). slice_get xs k ≡ Some z) (sym e) (at_front rest (y ∷ []) k z at)

    at_last : slice_get todo (length rest) ≡ Some y
    at_last = subst (λ (xs : List ℕ). slice_get xs (length rest) ≡ Some y) (sym e) (at_end rest y [])

    left_there : (p j k : ℕ) → ((h : Group) → In h groups → h.first ≤ p → h.left ≤ k) → (slice_get rest k ≡ Some j) ⊎ ((k ≡ length rest) × (j ≡ y)) → Goes states groups rest p j ⊎ (j ≡ y)
    left_there p j k among (inl at) = inl (to_left k at among)
    left_there p j k among (inr s) = inr s.1

    went : (p j : ℕ) → Goes states groups todo p j → Goes states groups rest p j ⊎ (j ≡ y)
    went p j (to_closed c) = inl (to_closed c)
    went p j (to_open q o inside) = inl (to_open q o inside)
    went p j (to_left k at among) = left_there p j k among (at_or_last rest y k j (subst (λ (xs : List ℕ). slice_get xs k ≡ Some j) e at))

    user_at : (p : ℕ) → p < length opened → IsUser uses states groups y
    user_at p l =
        let (g, i, low) = path.bottom (omega arith) in
        let (under, top, is) = ends g groups i in
        let there = subst (λ (gs : List Group). In top gs) (sym is) (in_last top under) in
        let within = (path_taken uses states groups (length opened) todo rest y e path on).lefts top there in
        user_of uses states groups (length rest) y top (λ h j. (last_most uses states groups (length opened) (length todo) path under top is h j).0)
        (left.sources (length rest) y top at_last there within)

-- ---- a number that names no node, or one that is closed, is passed over

pub passed : (uses : List (List ℕ)) (walk : Progress) (rest : List ℕ) (y : ℕ) → walk.todo ≡ rest ++ y ∷ [] → IsUnderWay uses walk → IsOn walk.groups (length walk.todo)
    → (y < length uses → IsClosed walk.states y)
    → IsUnderWay uses (record { states = walk.states; opened = walk.opened; groups = walk.groups; todo = rest; on_ring = walk.on_ring; order = walk.order })
passed uses walk rest y e way on is_closed = record {
  kept = way.kept;
  path = path_taken uses walk.states walk.groups (length walk.opened) walk.todo rest y e way.path on;
  left = record {
    sources = out.sources;
    goes = λ i p j o u. went p j u.used (out.goes i p j o u);
    unseen = λ i s. still i s (out.unseen i s);
  };
  shut = way.shut;
}
  where
    out : IsTaken uses walk.states walk.groups rest y
    out = taken uses walk.states walk.groups walk.opened walk.todo rest y e way.path on way.kept.stands way.left

    went : (p j : ℕ) → j < length uses → Goes walk.states walk.groups rest p j ⊎ (j ≡ y) → Goes walk.states walk.groups rest p j
    went p j l (inl g) = g
    went p j l (inr s) = to_closed (subst (λ (x : ℕ). IsClosed walk.states x) (sym s) (is_closed (subst (λ (x : ℕ). x < length uses) s l)))

    not_both : (i : ℕ) → slice_get walk.states i ≡ Some Unseen → IsClosed walk.states i → ⊥
    not_both i a b = cc

    still : (i : ℕ) → slice_get walk.states i ≡ Some Unseen → In i rest ⊎ (i ≡ y) → In i rest
    still i s (inl j) = j
    still i s (inr same) =
        let count = way.kept.count_is in
        let within = slice_get_within walk.states i Unseen s in
        absurd (not_both i s (subst (λ (x : ℕ). IsClosed walk.states x) (sym same) (is_closed (subst (λ (x : ℕ). x < length uses) same (omega (arith, count, within))))))
