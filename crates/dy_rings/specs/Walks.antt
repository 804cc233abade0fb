-- A walk through a graph. It keeps a path of groups of open nodes: all nodes of a group lead to
-- each other, and each group leads to the next one.
use Rattle.std.specs.Prelude.{◌≡◌, ◌<◌, ◌≤◌, ◌-◌, ℕ, Bool, true, false, List, [], ◌∷◌, ◌++◌, length}
use Rattle.std.specs.Prelude.{fold, take, drop, replicate, slice_set}
use Rattle.std.specs.List.{range_with_len}
use Rattle.dy_rings.specs.declared.ring.State.{State}
use Rattle.dy_rings.specs.declared.ring.State.TheVariants.{Unseen, Open, Closed}
use Rattle.dy_rings.specs.declared.ring.Group.{Group}
use Rattle.dy_rings.specs.declared.ring.Walk.{Walk}
use Rattle.dy_rings.specs.Rings.{In, uses_at}

-- what a walk has come to
pub record Progress : Type 0 where
  pub states : List State
  pub opened : List ℕ
  pub groups : List Group
  pub todo : List ℕ
  pub on_ring : List Bool
  pub order : List ℕ

abbrev pub progress : Walk → Progress
progress walk = record {
  states = walk.states.items;
  opened = walk.opened.items;
  groups = walk.groups.items;
  todo = walk.todo.items;
  on_ring = walk.on_ring.items;
  order = walk.order.items;
}

-- before a walk no node was met, and each is to be looked at
abbrev pub at_start : ℕ → Progress
at_start count = record {
  states = replicate count Unseen;
  opened = [];
  groups = [];
  todo = range_with_len 0 count;
  on_ring = replicate count false;
  order = [];
}

-- a node that was not met is open, and a group by itself; what it uses is to be looked at
abbrev pub opening : List (List ℕ) → ℕ → Progress → Progress
opening uses node walk = record {
  states = slice_set walk.states node (Open (length walk.opened));
  opened = walk.opened ++ node ∷ [];
  groups = walk.groups ++ record {
    first = length walk.opened;
    left = length walk.todo;
    ring = false;
  } ∷ [];
  todo = walk.todo ++ uses_at uses node;
  on_ring = walk.on_ring;
  order = walk.order;
}

-- all groups from that of a place on are one group, whose nodes stand on a ring
pub record Joins (place : ℕ) (before after : List Group) : Type 0 where
  pub under : List Group
  pub group : Group
  pub above : List Group
  pub parts : before ≡ under ++ group ∷ above
  pub begins : group.first ≤ place
  pub others : (other : Group) → In other above → place < other.first
  pub joined : after ≡ under ++ record {
    first = group.first;
    left = group.left;
    ring = true;
  } ∷ []

-- the nodes of the last group are closed
abbrev pub closing : Group → Progress → Progress
closing group walk = record {
  states = fold (λ states node. slice_set states node Closed) walk.states
      (drop group.first walk.opened);
  opened = take group.first walk.opened;
  groups = take (length walk.groups - 1) walk.groups;
  todo = walk.todo;
  on_ring = fold (λ marks node. slice_set marks node group.ring) walk.on_ring
      (drop group.first walk.opened);
  order = walk.order ++ drop group.first walk.opened;
}
