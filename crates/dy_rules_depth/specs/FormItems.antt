-- The form that items stand for, with how it begins.
use Rattle.std.specs.Prelude.{List, Option, option_map, option_and_then}
use Rattle.dy_tree.specs.Fragments.{SeenFragment}
use Rattle.dy_tree.specs.declared.splitters.Splitting.TheVariants as splittings
use Rattle.dy_rules.specs.Cutting.{Item}
use Rattle.dy_rules.specs.Reading.{expression_items}
use Rattle.dy_rules.specs.Fragments.{items_in, items_of}
use Rattle.dy_rules.specs.Definitions.{is_definition_word}
use Rattle.dy_rules.specs.Forms.{FormTree}
use Rattle.dy_rules.specs.FormReading.{words_front, ended_definition, flat_definition, FormFront}
use Rattle.dy_rules.specs.FormReading.{expression_front, group_front, flat_front}
use Rattle.dy_rules.specs.FormReading.{expression_of_form}

-- the items that make up the form
abbrev pub items_at : FormFront → List SeenFragment → List Item
items_at expression_front fragments = items_of fragments
items_at (group_front define inner) fragments = items_in inner
items_at (flat_front define rest) fragments = items_of rest

abbrev pub form_items : FormFront → List Item → Option FormTree
form_items expression_front items =
    option_map expression_of_form (expression_items splittings.Nothing items)
form_items (group_front define inner) items =
    option_and_then (ended_definition define) (words_front is_definition_word items)
form_items (flat_front define rest) items =
    option_and_then (flat_definition define) (words_front is_definition_word items)
