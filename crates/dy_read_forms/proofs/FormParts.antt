-- Expressions as forms, with what stands in the place of trees that are too deep.
use Rattle.std.proofs.Common.{◌≡◌, Option, Some, None, option_map, refl}
use Rattle.dy_rules.specs.Trees.{Tree}
use Rattle.dy_rules.specs.FormReading.{expression_of_form}
use Rattle.dy_rules_depth.specs.Capping.{capped}
use Rattle.dy_read_forms.specs.ReadForms.{capped_form}

pub expression_through : (found : Option Tree) → option_map expression_of_form (option_map capped found) ≡ option_map capped_form (option_map expression_of_form found)
expression_through None = refl
expression_through (Some tree) = refl
