-- What holds while a walk is under way.
use Rattle.std.proofs.Common.{◌≡◌, ◌⊎◌, ◌↔◌, ℕ, ◌<◌, ◌≤◌, Bool, true, List, length, Some, slice_get}
use Rattle.dy_rings.specs.declared.ring.State.{State}
use Rattle.dy_rings.specs.declared.ring.State.TheVariants.{Unseen, Open, Closed}
use Rattle.dy_rings.specs.declared.ring.Group.{Group}
use Rattle.dy_rings.specs.Rings.{In, Once, Before, uses_at, Uses, Leads}
use Rattle.dy_rings.specs.Walks.{Progress}
use Rattle.dy_rings.proofs.Groups.{Ascends}
use Rattle.dy_rings.proofs.Ways.{Comes}

abbrev pub IsOpen : List State → ℕ → ℕ → Type 0
IsOpen states i p = slice_get states i ≡ Some (Open p)

abbrev pub IsClosed : List State → ℕ → Type 0
IsClosed states i = slice_get states i ≡ Some Closed

-- what the states and the lists say of each other
pub record IsKept (count : ℕ) (states : List State) (opened : List ℕ) (on_ring : List Bool) (order : List ℕ) : Type 0 where
  pub count_is : length states ≡ count
  pub marks_are : length on_ring ≡ count
  pub places : (p i : ℕ) → slice_get opened p ≡ Some i → IsOpen states i p
  pub stands : (i p : ℕ) → IsOpen states i p → slice_get opened p ≡ Some i
  pub ordered : (i : ℕ) → IsClosed states i → In i order
  pub closed : (i : ℕ) → In i order → IsClosed states i
  pub once : Once order

-- each group that begins at p or in front of it begins at q or in front of it
abbrev pub IsFrom : List Group → ℕ → ℕ → Type 0
IsFrom groups p q = (g : Group) → In g groups → g.first ≤ p → g.first ≤ q

-- the groups of so many open nodes; each leads to itself and to the later ones
pub record IsPath (uses : List (List ℕ)) (states : List State) (groups : List Group) (opened todo : ℕ) : Type 0 where
  pub ascends : Ascends groups
  pub firsts : (g : Group) → In g groups → g.first < opened
  pub lefts : (g : Group) → In g groups → g.left ≤ todo
  pub bottom : 0 < opened → (g : Group) × In g groups × (g.first ≡ 0)
  pub leads : (i p j q : ℕ) → IsOpen states i p → IsOpen states j q → IsFrom groups p q → Comes uses i j
  pub rings : (g : Group) (i : ℕ) → In g groups → g.ring ≡ true → IsOpen states i g.first → Leads uses i i

-- the node that a use at place e of those that are left comes from
pub record IsSource (uses : List (List ℕ)) (states : List State) (groups : List Group) (e y : ℕ) (g : Group) : Type 0 where
  pub node : ℕ
  pub place : ℕ
  pub open_there : IsOpen states node place
  pub named : In y (uses_at uses node)
  pub behind : g.first ≤ place
  pub among : (h : Group) → In h groups → h.first ≤ place → h.left ≤ e

-- place q is in a group that is a ring, or behind that group
abbrev pub IsInside : List Group → Group → ℕ → Type 0
IsInside groups h q = (h.first ≤ q) × ((h.ring ≡ true) ⊎ ((g : Group) × In g groups × (h.first < g.first) × (g.first ≤ q)))

-- where a node is that is used from place p
pub data Goes (states : List State) (groups : List Group) (todo : List ℕ) (p j : ℕ) : Type 0 where
  to_closed : IsClosed states j → Goes states groups todo p j
  to_open : (q : ℕ) → IsOpen states j q → ((h : Group) → In h groups → h.first ≤ p → IsInside groups h q) → Goes states groups todo p j
  to_left : (e : ℕ) → slice_get todo e ≡ Some j → ((h : Group) → In h groups → h.first ≤ p → h.left ≤ e) → Goes states groups todo p j

-- the uses that are left, and where those go that are not
pub record IsLeft (uses : List (List ℕ)) (states : List State) (groups : List Group) (todo : List ℕ) : Type 0 where
  pub sources : (e y : ℕ) (g : Group) → slice_get todo e ≡ Some y → In g groups → g.left ≤ e → IsSource uses states groups e y g
  pub goes : (i p j : ℕ) → IsOpen states i p → Uses uses i j → Goes states groups todo p j
  pub unseen : (i : ℕ) → slice_get states i ≡ Some Unseen → In i todo

-- what holds of closed nodes
pub record IsShut (uses : List (List ℕ)) (states : List State) (on_ring : List Bool) (order : List ℕ) : Type 0 where
  pub shut : (i j : ℕ) → IsClosed states i → Uses uses i j → IsClosed states j
  pub told : (i : ℕ) → IsClosed states i → (slice_get on_ring i ≡ Some true) ↔ Leads uses i i
  pub behind : (i j : ℕ) → IsClosed states i → Uses uses i j → Before j i order ⊎ Leads uses j i

pub record IsUnderWay (uses : List (List ℕ)) (walk : Progress) : Type 0 where
  pub kept : IsKept (length uses) walk.states walk.opened walk.on_ring walk.order
  pub path : IsPath uses walk.states walk.groups (length walk.opened) (length walk.todo)
  pub left : IsLeft uses walk.states walk.groups walk.todo
  pub shut : IsShut uses walk.states walk.on_ring walk.order
