use Rattle.dy_join.specs.Numbering.{placed}
use Rattle.dy_join.proofs.rows.link_slot.Goals as goal

pub returns : goal.returns
returns c = λ i. record {
  getter = c.link_generic.ensures i;
  setter = c.link_setter.ensures i;
  kind = c.args.slot.kind;
  slot_type = c.in_ok-link_type.ensures i;
  keyword = c.args.slot.keyword;
  required = c.args.slot.required;
  init = c.link_filling.ensures (placed c.args.places.now) i;
}
