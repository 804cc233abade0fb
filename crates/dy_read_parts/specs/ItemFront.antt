-- How items begin, as the definitions see it.
use Rattle.dy_rules.specs.Bodies as spec
use Rattle.dy_read_parts.specs.declared.item_front.ItemFront.{ItemFront}
use Rattle.dy_read_parts.specs.declared.item_front.ItemFront.TheVariants as fronts

abbrev pub seen_item_front : ItemFront → spec.ItemFront
seen_item_front (fronts.Let word) = spec.let_front word.now
seen_item_front (fronts.Local word) = spec.local_front word.now
seen_item_front fronts.Other = spec.other_front
