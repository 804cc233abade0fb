-- Targets of bindings, as the reader gives them.
use Rattle.std.specs.Prelude.{◌≡◌, ℕ, max, ⊤, List, Option, Some, None, option_map}
use Rattle.std.specs.Borrow.{Bor}
use Rattle.dy_tree.specs.declared.fragment.Fragment.{Fragment}
use Rattle.dy_tree.specs.Fragments.{pack, seen_fragments}
use Rattle.dy_rules.specs.Fragments.{items_of}
use Rattle.dy_rules.specs.TypeReading.{variable_items, bind_items, target_in}
use Rattle.dy_tree.specs.declared.token.Token.{Token}
use Rattle.dy_tree.specs.declared.variables.Target.{Target}
use Rattle.dy_tree.specs.declared.variables.Variables.{Variables}
use Rattle.dy_tree.specs.declared.brackets.Bracket.TheVariants as brackets
use Rattle.dy_rules.specs.SeenTypes.{seen_target}
use Rattle.dy_rules.specs.Types.{VariableTree, TargetTree, one_target}
use Rattle.dy_rules.specs.Cutting.{Ending, Item}
use Rattle.dy_rules.specs.Depth.{variables_depth, target_depth}
use Rattle.dy_rules_depth.specs.Changes.{changed_target}
use Rattle.dy_rules_depth.specs.ReaderChanges.{changed_ending}
use Rattle.dy_rules_depth.specs.Capping.{capping, filling}
use Rattle.dy_read_types.specs.VariableFronts.{read_variables, capped_variable}

abbrev pub read_bound : Variables → Ending VariableTree Token
read_bound bound = record { parts = read_variables bound.variables.items; last = bound.rest }

abbrev pub read_target : Target → TargetTree
read_target form = changed_target filling (seen_target form)

-- the name at the end stays as it is
abbrev pub capped_bound : Ending VariableTree Token → Ending VariableTree Token
capped_bound bound = changed_ending capped_variable (λ (token : Token). token) bound

abbrev pub capped_target : TargetTree → TargetTree
capped_target target = changed_target capping target

-- how deep they are with what was read before
abbrev pub BoundDepth : ℕ → ℕ → Option Variables → Type 0
BoundDepth old new None = ⊤
BoundDepth old new (Some bound) =
    new ≡ max old (variables_depth (read_variables bound.variables.items))

abbrev pub TargetDepth : ℕ → ℕ → Option Target → Type 0
TargetDepth old new None = ⊤
TargetDepth old new (Some target) = new ≡ max old (target_depth (read_target target))

-- the target that round brackets are, with what stands between them, or a variable
abbrev pub target_read : List Item → Option (Bor (List Fragment)) → Option TargetTree
target_read items None = option_map one_target (variable_items items)
target_read items (Some inner) =
    target_in brackets.Round (pack (seen_fragments inner.now))
    (bind_items (items_of (seen_fragments inner.now)))
