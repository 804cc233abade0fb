-- Types that are written as calls, in terms of the lists that these hold.
use Rattle.std.proofs.Common.{◌≡◌, ◌∷◌, ◌∙◌, List, [], map, refl, ap, rules}
use Rattle.std.specs.Prelude.{Some, None}
use Rattle.std.specs.Global.{Vec, Box}
use Rattle.dy_tree.specs.declared.token.Token.{Token}
use Rattle.dy_tree.specs.declared.expression.Argument.{Argument}
use Rattle.dy_tree.specs.declared.expression.Argument.TheViews.{the_lemmas}
use Rattle.dy_tree.specs.declared.expression.Expression.{Expression}
use Rattle.dy_tree.specs.declared.expression.Expression.TheVariants.{Call}
use Rattle.dy_rules.specs.Trees as source
use Rattle.dy_rules.specs.Trees.{Tree, Arguments, arguments_of}
use Rattle.dy_rules.specs.SeenForms.{seen_tree, seen_argument}
use Rattle.dy_rules.proofs.Held.{inner_arguments}
use Rattle.dy_desugar.specs.Table.{name_in}
use Rattle.dy_surface.specs.TypeConstants.{form_type, listed, type_in, types_in}

seen_call : (function : Box Expression) (arguments : Vec Argument) → seen_tree (Call function arguments) ≡ source.call (seen_tree function.value) (arguments_of (map seen_argument arguments.items))
seen_call function arguments = search (rules, the_lemmas, inner_arguments)

listed_in : (arguments : List source.Argument) → listed (arguments_of arguments) ≡ arguments
listed_in [] = refl
listed_in (first ∷ rest) = ap (λ (others : List source.Argument). first ∷ others) (listed_in rest)

named_type : (function : Tree) (arguments : Arguments) (token : Token) → name_in function ≡ Some token → type_in (source.call function arguments) ≡ form_type token (listed arguments) (types_in arguments)
named_type (source.name found) arguments token named =
    let same : found ≡ token = cc in
    ap (λ (word : Token). form_type word (listed arguments) (types_in arguments)) same
named_type _ arguments token named = absurd cc

unnamed_type : (function : Tree) (arguments : Arguments) → name_in function ≡ None → type_in (source.call function arguments) ≡ None
unnamed_type (source.name found) arguments none = absurd cc
unnamed_type _ arguments none = refl

-- a call of a name, and of something else
pub at_named : (function : Box Expression) (arguments : Vec Argument) (token : Token) → name_in (seen_tree function.value) ≡ Some token
    → type_in (seen_tree (Call function arguments)) ≡ form_type token (map seen_argument arguments.items) (types_in (arguments_of (map seen_argument arguments.items)))
at_named function arguments token named =
    let passed = map seen_argument arguments.items in
    ap type_in (seen_call function arguments)
    ∙ named_type (seen_tree function.value) (arguments_of passed) token named
    ∙ ap (λ (list : List source.Argument). form_type token list (types_in (arguments_of passed))) (listed_in passed)

pub at_unnamed : (function : Box Expression) (arguments : Vec Argument) → name_in (seen_tree function.value) ≡ None → type_in (seen_tree (Call function arguments)) ≡ None
at_unnamed function arguments none =
    ap type_in (seen_call function arguments) ∙ unnamed_type (seen_tree function.value) (arguments_of (map seen_argument arguments.items)) none
