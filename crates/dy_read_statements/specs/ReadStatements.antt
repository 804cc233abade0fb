-- Statements as they are put together from parts that were read.
use Rattle.std.specs.Prelude.{Option, Some, None, List, option_map}
use Rattle.dy_tree.specs.declared.token.Token.{Token}
use Rattle.dy_tree.specs.Fragments.{seen_fragments}
use Rattle.dy_tree.specs.declared.brackets.Guard.{Guard}
use Rattle.dy_tree.specs.declared.splitters.Splitting.TheVariants as splittings
use Rattle.dy_rules.specs.Fragments.{items_of}
use Rattle.dy_rules.specs.Reading.{expression_items}
use Rattle.dy_rules.specs.StatementReading.{Tested, tested_by, begin_of, guarded_of}
use Rattle.dy_rules.specs.Trees.{Tree, ItemTree, method_tree, body_of}
use Rattle.dy_rules_depth.specs.Capping.{capped}
use Rattle.dy_read_statements.specs.ReadMethods.{MethodParts}
use Rattle.dy_read_parts.specs.declared.front.Front.{Front}

-- brackets with an expression inside, and what stands behind them
abbrev pub front_tested : Option Front → Option Tested
front_tested None = None
front_tested (Some front) =
    option_map (tested_by (items_of (seen_fragments front.rest.now)))
    (expression_items splittings.Nothing (items_of (seen_fragments front.inner.now)))

-- what is made of two parts, where both are there
abbrev pub both : {A B C : Type 0} → (A → B → C) → Option A → Option B → Option C
both make None second = None
both make (Some first) None = None
both make (Some first) (Some second) = Some (make first second)

abbrev pub all_three : {A B C D : Type 0} → (A → B → C → D) → Option A → Option B → Option C
    → Option D
all_three make None second third = None
all_three make (Some first) None third = None
all_three make (Some first) (Some second) None = None
all_three make (Some first) (Some second) (Some third) = Some (make first second third)

abbrev pub capped_begin : Token → List ItemTree → Tree
capped_begin word trees = capped (begin_of word trees)

abbrev pub capped_guarded : Guard → Token → Tree → List ItemTree → Tree
capped_guarded guard word test trees = capped (guarded_of guard word test trees)

abbrev pub method_of : Token → MethodParts → Tree
method_of word method = method_tree word method.signature (body_of method.trees)

abbrev pub capped_method_tree : Token → MethodParts → Tree
capped_method_tree word method = capped (method_of word method)
