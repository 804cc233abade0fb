-- Slots and forms, as the reader gives them.
use Rattle.std.specs.Prelude.{◌≡◌, ℕ, false, max, ⊤, List, map, Option, Some, None}
use Rattle.std.specs.Global.{Vec}
use Rattle.dy_tree.specs.declared.expression.Expression.{Expression}
use Rattle.dy_tree.specs.declared.form.Form.{Form}
use Rattle.dy_tree.specs.declared.form.Slot.{Slot}
use Rattle.dy_tree.specs.declared.form.SlotOption.{SlotOption}
use Rattle.dy_tree.specs.Fragments.{SeenFragment}
use Rattle.dy_rules.specs.Trees.{MaybeTree}
use Rattle.dy_rules.specs.Arguments.{is_comma_fragment}
use Rattle.dy_rules.specs.Cutting.{cut}
use Rattle.dy_rules.specs.Fragments.{items_of}
use Rattle.dy_rules.specs.FormReading.{slot_pieces}
use Rattle.dy_rules.specs.Forms as written
use Rattle.dy_rules.specs.Depth.{variable_depth, maybe_depth}
use Rattle.dy_rules.specs.FormDepth.{option_depth, options_depth, slots_depth}
use Rattle.dy_rules.specs.SeenForms.{seen_initial, seen_option, seen_slot, seen_form}
use Rattle.dy_rules_depth.specs.Changes.{changed_maybe, changed_option, changed_slot, changed_form}
use Rattle.dy_rules_depth.specs.Capping.{capping, filling}

abbrev pub read_initial : Option Expression → MaybeTree
read_initial form = changed_maybe filling (seen_initial form)

abbrev pub read_option : SlotOption → written.SlotOption
read_option form = changed_option filling (seen_option form)

abbrev pub read_options : List SlotOption → List written.SlotOption
read_options forms = map (changed_option filling) (map seen_option forms)

abbrev pub options_in : Vec SlotOption → List written.SlotOption
options_in forms = read_options forms.items

abbrev pub read_slot : Slot → written.SlotTree
read_slot form = changed_slot filling (seen_slot form)

abbrev pub read_slots : List Slot → List written.SlotTree
read_slots forms = map (changed_slot filling) (map seen_slot forms)

abbrev pub slots_in : Vec Slot → List written.SlotTree
slots_in forms = read_slots forms.items

abbrev pub read_form : Form → written.FormTree
read_form form = changed_form filling (seen_form form)

abbrev pub capped_option : written.SlotOption → written.SlotOption
capped_option option = changed_option capping option

abbrev pub capped_slot : written.SlotTree → written.SlotTree
capped_slot slot = changed_slot capping slot

abbrev pub capped_form : written.FormTree → written.FormTree
capped_form form = changed_form capping form

-- the slot that fragments stand for, whose parts need not fit together
abbrev pub written_slot : List SeenFragment → Option written.SlotTree
written_slot fragments = slot_pieces (cut is_comma_fragment false (items_of fragments))

-- how deep they are with what was read before

abbrev pub slot_depth : written.SlotTree → ℕ
slot_depth slot = max (variable_depth slot.variable)
    (max (maybe_depth slot.default) (options_depth slot.options))

abbrev pub InitialDepth : ℕ → ℕ → Option (Option Expression) → Type 0
InitialDepth old new None = ⊤
InitialDepth old new (Some form) = new ≡ max old (maybe_depth (read_initial form))

abbrev pub OptionDepth : ℕ → ℕ → Option SlotOption → Type 0
OptionDepth old new None = ⊤
OptionDepth old new (Some form) = new ≡ max old (option_depth (read_option form))

abbrev pub OptionsDepth : ℕ → ℕ → Option (Vec SlotOption) → Type 0
OptionsDepth old new None = ⊤
OptionsDepth old new (Some forms) = new ≡ max old (options_depth (options_in forms))

abbrev pub SlotDepth : ℕ → ℕ → Option Slot → Type 0
SlotDepth old new None = ⊤
SlotDepth old new (Some form) = new ≡ max old (slot_depth (read_slot form))

abbrev pub SlotsDepth : ℕ → ℕ → Option (Vec Slot) → Type 0
SlotsDepth old new None = ⊤
SlotsDepth old new (Some forms) = new ≡ max old (slots_depth (slots_in forms))
