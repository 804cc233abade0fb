use Rattle.std.proofs.Common.{◌≡◌, take}
use Rattle.dy_views.specs.Views.{linked_names, new_place}
use Rattle.dy_views.proofs.linked.link_names.Given as goal

abbrev pub invariant-loop-name : goal.invariant-loop-name
invariant-loop-name l = l.linked ≡ linked_names (new_place l.places) (take l.name-index l.names)
