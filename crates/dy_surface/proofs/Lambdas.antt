-- What a parameter list and a body in memory of their own are in the core.
use Rattle.std.proofs.Common.{◌≡◌, List, [], ◌∷◌, map, refl, ap, ◌∙◌}
use Rattle.dy_tree.specs.declared.expression.Item.{Item}
use Rattle.dy_tree.specs.declared.expression.Parameters.{Parameters, Parameters', out-Parameters}
use Rattle.dy_rules.specs.Trees.{body_of}
use Rattle.dy_rules.specs.SeenForms.{seen_items, seen_parameters}
use Rattle.dy_term.specs.Drafts.{Core, CoreItem}
use Rattle.dy_drafts.specs.Parts.{bodied}
use Rattle.dy_desugar.specs.Table as table
use Rattle.dy_desugar.specs.Lists.{item_core, body_core, lambda_core, parameter_defaults}
use Rattle.dy_desugar.proofs.Rows.{defaults_same}
use Rattle.dy_surface.specs.Forms.{next_in}

items_listed : (items : List Item) → table.items_in (body_of (seen_items items)) ≡ map item_core items
items_listed [] = refl
items_listed (first ∷ rest) = ap (λ (others : List CoreItem). item_core first ∷ others) (items_listed rest)

pub lambda_is : (row : Parameters) (items : List Item) → table.lambda_of (seen_parameters row) (body_of (seen_items items)) ≡ lambda_core row items
lambda_is row items =
    ap (λ (defaults : List Core). table.lambda_from (seen_parameters row) defaults (table.body_of (body_of (seen_items items)))) (defaults_same row)
    ∙ ap (λ (found : List CoreItem). table.lambda_from (seen_parameters row) (parameter_defaults row) (bodied found)) (items_listed items)

pub next_is : (row : Parameters) → next_in (seen_parameters row) ≡ (out-Parameters row).next
unfolding out-Parameters denote.Hole.Carrier.out
next_is (Parameters' required next rest keys results) = refl
