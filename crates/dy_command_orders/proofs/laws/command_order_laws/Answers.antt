use Rattle.dy_command_orders.proofs.Alike.{builds_are_alike, checks_are_alike}
use Rattle.dy_command_orders.proofs.laws.command_order_laws.Goals as goal

pub returns : goal.returns
returns c = record { builds = builds_are_alike; checks = checks_are_alike }
