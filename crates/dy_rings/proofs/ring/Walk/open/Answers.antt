use Rattle.std.proofs.Common.{◌≡◌, ◌≤◌, ◌++◌, ◌∷◌, [], ℕ, false, List, length, slice_set, sym, ap, ◌∙◌, arith, append-nil}
use Rattle.std.proofs.lemmas.Option.{slice_get_past}
use Rattle.dy_rings.specs.declared.ring.State.{State}
use Rattle.dy_rings.specs.declared.ring.State.TheVariants.{Open}
use Rattle.dy_rings.specs.declared.ring.Group.{Group}
use Rattle.dy_rings.specs.Rings.{uses_at, listed}
use Rattle.dy_rings.specs.Walks.{Progress, progress}
use Rattle.dy_rings.proofs.ring.Walk.open.Goals as goal

nothing_used : (uses : List (List ℕ)) (node : ℕ) (todo : List ℕ) → length uses ≤ node → todo ≡ todo ++ uses_at uses node
nothing_used uses node todo past = sym (ap (λ (xs : List ℕ). todo ++ xs) (ap listed (slice_get_past uses node past)) ∙ append-nil todo)

abbrev put : Progress → List State → List ℕ → List Group → List ℕ → Progress
put walk states opened groups todo = record { states = states; opened = opened; groups = groups; todo = todo; on_ring = walk.on_ring; order = walk.order }

all_put : (walk : Progress) (s t : List State) (o p : List ℕ) (g h : List Group) (x y : List ℕ) → s ≡ t → o ≡ p → g ≡ h → x ≡ y → put walk s o g x ≡ put walk t p h y
all_put walk s t o p g h x y a b c d =
    ap (λ (z : List State). put walk z o g x) a ∙ ap (λ (z : List ℕ). put walk t z g x) b ∙ ap (λ (z : List Group). put walk t p z x) c ∙ ap (λ (z : List ℕ). put walk t p h z) d

group_from : (m n k l : ℕ) → m ≡ n → k ≡ l → (gs : List Group) → gs ++ record { first = m; left = k; ring = false } ∷ [] ≡ gs ++ record { first = n; left = l; ring = false } ∷ []
group_from m n k l e f gs = ap (λ (x : ℕ). gs ++ record { first = x; left = k; ring = false } ∷ []) e ∙ ap (λ (x : ℕ). gs ++ record { first = n; left = x; ring = false } ∷ []) f

pub returns-in_default : goal.returns-in_default
returns-in_default c =
    let uses = c.args.uses.now in
    let walk = progress c.args.self.now in
    let node = c.args.node in
    let place : c.len-place.result ≡ length c.args.self.now.opened.items = omega (arith, c.len-place.ensures, c.args.self.now.opened.ok.0) in
    let left : c.len.result ≡ length c.args.self.now.todo.items = omega (arith, c.len.ensures, c.args.self.now.todo.ok.0) in
    all_put walk
    (slice_set walk.states node (Open c.len-place.result)) (slice_set walk.states node (Open (length walk.opened)))
    c.push.new.self.items (walk.opened ++ node ∷ [])
    c.push-2.new.self.items (walk.groups ++ record { first = length walk.opened; left = length walk.todo; ring = false } ∷ [])
    walk.todo (walk.todo ++ uses_at uses node)
    (ap (λ (p : ℕ). slice_set walk.states node (Open p)) place)
    c.in_ok-push.ensures.items
    (c.in_ok-push-2.ensures.items ∙ group_from c.len-place.result (length walk.opened) c.len.result (length walk.todo) place left walk.groups)
    (nothing_used uses node walk.todo (omega (arith, c.in_default.ensures.lookup)))
