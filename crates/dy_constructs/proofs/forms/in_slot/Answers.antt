use Rattle.std.proofs.Common.{map, flat_map, option_map}
use Rattle.dy_construct_parts.specs.declared.construct.Construct.TheVariants as constructs
use Rattle.dy_rules.specs.SeenTypes.{seen_type}
use Rattle.dy_rules.specs.SeenForms.{seen_initial, seen_option}
use Rattle.dy_construct_parts.specs.Words.{slot_adjective}
use Rattle.dy_construct_parts.specs.Parts.{in_declared}
use Rattle.dy_constructs.specs.Bodies.{in_maybe}
use Rattle.dy_constructs.specs.Forms.{in_option}
use Rattle.dy_construct_parts.proofs.Firsts.{parts_4}
use Rattle.dy_constructs.proofs.forms.in_slot.Goals as goal

pub returns : goal.returns
returns c =
    let slot = c.args.slot.now in
    parts_4 _ _ _ _ _ _ _ _ _ constructs.Slot (map slot_adjective slot.adjectives.items) (in_declared constructs.TypedSlot (option_map seen_type slot.declared)) (in_maybe constructs.InitialValue (seen_initial slot.value)) (flat_map in_option (map seen_option slot.options.items))
    c.absent.ensures c.in_slot_adjectives.ensures c.or.ensures c.in_declared.ensures c.or-2.ensures c.in_maybe.ensures c.or-3.ensures c.in_options.ensures c.or-4.ensures
