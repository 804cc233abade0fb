use Rattle.std.proofs.Common.{◌≡◌, take}
use Rattle.dy_rings.specs.declared.ring.State.TheVariants.{Closed}
use Rattle.dy_rings.proofs.Lists.{set_all}
use Rattle.dy_rings.proofs.ring.close_nodes.Given as goal

-- the nodes are closed as far as the loop has come
abbrev pub invariant-loop-node : goal.invariant-loop-node
invariant-loop-node l = record {
  states : l.states.items ≡ set_all Closed l.fn.states.items (take l.node-index l.nodes);
  marks : l.on_ring.items ≡ set_all l.ring l.fn.on_ring.items (take l.node-index l.nodes);
}
