-- The arms of a `case` or a `select`, as the reader holds them.
use Rattle.dy_rules.specs.Choices.{Choices}
use Rattle.dy_read_arms.specs.ReadArms.{choices_behind, choices_in}
use Rattle.dy_read_arms.specs.declared.choices.Choices.{Choices as Found}
use Rattle.dy_read_arms.specs.declared.choices.ChoicesBehind.{ChoicesBehind}

abbrev pub read_behind : ChoicesBehind → Choices
read_behind behind = choices_behind behind.lead.items behind.arms.items behind.last

abbrev pub read_choices : Found → Choices
read_choices found = choices_in found.arms.items found.last
