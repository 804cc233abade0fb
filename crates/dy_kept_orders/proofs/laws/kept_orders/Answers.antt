use Rattle.dy_kept_orders.proofs.Kept.{above_kept, orders_kept, ring_kept}
use Rattle.dy_kept_orders.proofs.laws.kept_orders.Goals as goal

pub returns : goal.returns
returns c = record { above = above_kept; orders = orders_kept; rings = ring_kept }
