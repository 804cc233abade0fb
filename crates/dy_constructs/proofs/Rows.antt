-- The constructs of lists of parts, as those of each part.
use Rattle.std.proofs.Common.{◌≡◌, ℕ, suc, ◌+◌, ◌==◌, Bool, true, false, if◌then◌else◌, List, [], ◌∷◌, ◌++◌, length, map, flat_map, add-one, arith, refl, sym, ap, ◌∙◌}
use Rattle.std.proofs.lemmas.Bool.{eqb-true}
use Rattle.dy_tree.specs.declared.expression.Expression.{Expression}
use Rattle.dy_tree.specs.declared.expression.Argument.{Argument}
use Rattle.dy_tree.specs.declared.expression.Item.{Item}
use Rattle.dy_tree.specs.declared.expression.LocalMethod.{LocalMethod}
use Rattle.dy_tree.specs.declared.expression.Alternative.{Alternative}
use Rattle.dy_tree.specs.declared.expression.Arm.{Arm}
use Rattle.dy_tree.specs.declared.expression.BlockClause.{BlockClause}
use Rattle.dy_tree.specs.declared.expression.ForClause.{ForClause}
use Rattle.dy_tree.specs.declared.expression.Key.{Key}
use Rattle.dy_rules.specs.Trees as source
use Rattle.dy_rules.specs.SeenForms.{seen_tree, seen_argument, seen_item, seen_method, seen_clause, seen_for_clause}
use Rattle.dy_rules.specs.Held.{held_alternative as alternative_tree, held_arm as arm_tree, held_key as key_tree}
use Rattle.dy_rules.specs.Trees.{arguments_of, body_of, methods_of, alternatives_of, arms_of, tests_of, block_clauses_of, for_clauses_of, keys_of}
use Rattle.dy_construct_parts.specs.declared.construct.Construct.{Construct}
use Rattle.dy_construct_parts.specs.declared.construct.Construct.TheVariants as constructs
use Rattle.dy_construct_parts.specs.Table.{by_count}
use Rattle.dy_constructs.specs.Bodies.{in_argument, in_arguments, in_each_argument, in_body, in_items, in_methods, in_alternatives, in_arms, in_tests, in_clauses, in_loop, in_key_row}
use Rattle.dy_constructs.specs.Forms.{count_arguments}
use Rattle.dy_constructs.specs.Held.{held_value, held_argument, held_item, held_method, held_alternative, held_arm, held_clause, held_loop_clause, held_key}

pub arguments_flat : (parts : List Argument) → in_each_argument (arguments_of (map seen_argument parts)) ≡ flat_map held_argument parts
arguments_flat [] = refl
arguments_flat (first ∷ rest) = ap (λ (others : List Construct). held_argument first ++ others) (arguments_flat rest)

pub items_flat : (parts : List Item) → in_items (body_of (map seen_item parts)) ≡ flat_map held_item parts
items_flat [] = refl
items_flat (first ∷ rest) = ap (λ (others : List Construct). held_item first ++ others) (items_flat rest)

pub methods_flat : (parts : List LocalMethod) → in_methods (methods_of (map seen_method parts)) ≡ flat_map held_method parts
methods_flat [] = refl
methods_flat (first ∷ rest) = ap (λ (others : List Construct). held_method first ++ others) (methods_flat rest)

pub alternatives_flat : (parts : List Alternative) → in_alternatives (alternatives_of (map alternative_tree parts)) ≡ flat_map held_alternative parts
alternatives_flat [] = refl
alternatives_flat (first ∷ rest) = ap (λ (others : List Construct). held_alternative first ++ others) (alternatives_flat rest)

pub arms_flat : (parts : List Arm) → in_arms (arms_of (map arm_tree parts)) ≡ flat_map held_arm parts
arms_flat [] = refl
arms_flat (first ∷ rest) = ap (λ (others : List Construct). held_arm first ++ others) (arms_flat rest)

pub tests_flat : (parts : List Expression) → in_tests (tests_of (map seen_tree parts)) ≡ flat_map held_value parts
tests_flat [] = refl
tests_flat (first ∷ rest) = ap (λ (others : List Construct). held_value first ++ others) (tests_flat rest)

pub clauses_flat : (parts : List BlockClause) → in_clauses (block_clauses_of (map seen_clause parts)) ≡ flat_map held_clause parts
clauses_flat [] = refl
clauses_flat (first ∷ rest) = ap (λ (others : List Construct). held_clause first ++ others) (clauses_flat rest)

pub loop_flat : (parts : List ForClause) → in_loop (for_clauses_of (map seen_for_clause parts)) ≡ flat_map held_loop_clause parts
loop_flat [] = refl
loop_flat (first ∷ rest) = ap (λ (others : List Construct). held_loop_clause first ++ others) (loop_flat rest)

pub keys_flat : (parts : List Key) → in_key_row (keys_of (map key_tree parts)) ≡ flat_map held_key parts
keys_flat [] = refl
keys_flat (first ∷ rest) = ap (λ (others : List Construct). held_key first ++ others) (keys_flat rest)

pub each_argument_flat : (parts : List source.Argument) → in_each_argument (arguments_of parts) ≡ flat_map in_argument parts
each_argument_flat [] = refl
each_argument_flat (first ∷ rest) = ap (λ (others : List Construct). in_argument first ++ others) (each_argument_flat rest)

pub arguments_count : (parts : List Argument) → count_arguments (arguments_of (map seen_argument parts)) ≡ length parts
arguments_count [] = refl
arguments_count (first ∷ rest) = ap (λ (n : ℕ). n + 1) (arguments_count rest) ∙ add-one (length rest)

several_one : (none several : Construct) (n : ℕ) (b : Bool) → (suc (suc n) == 1) ≡ b → (if b then [] else several ∷ []) ≡ several ∷ []
several_one none several n false e = refl
several_one none several n true e = absurd (omega (arith, eqb-true (suc (suc n)) 1 e))

several_zero : (none several : Construct) (n : ℕ) (b : Bool) → (suc (suc n) == 0) ≡ b → (if b then none ∷ [] else if suc (suc n) == 1 then [] else several ∷ []) ≡ several ∷ []
several_zero none several n false e = several_one none several n (suc (suc n) == 1) refl
several_zero none several n true e = absurd (omega (arith, eqb-true (suc (suc n)) 0 e))

several : (none several : Construct) (n : ℕ) → by_count none several (suc (suc n)) ≡ several ∷ []
several none one n = several_zero none one n (suc (suc n) == 0) refl

pub arguments_counted : (parts : List Argument) → in_arguments (arguments_of (map seen_argument parts)) ≡ by_count constructs.NoArgument constructs.SeveralArguments (length parts) ++ flat_map held_argument parts
arguments_counted [] = refl
arguments_counted (first ∷ []) = refl
arguments_counted (first ∷ second ∷ rest) =
    let all = flat_map held_argument (first ∷ second ∷ rest) in
    let parts : in_arguments (arguments_of (map seen_argument (first ∷ second ∷ rest))) ≡ constructs.SeveralArguments ∷ all =
    ap (λ (others : List Construct). constructs.SeveralArguments ∷ (held_argument first ++ others)) (arguments_flat (second ∷ rest)) in
    parts ∙ sym (ap (λ (count : List Construct). count ++ all) (several constructs.NoArgument constructs.SeveralArguments (length rest)))

pub body_counted : (parts : List Item) → in_body (body_of (map seen_item parts)) ≡ by_count constructs.EmptyBody constructs.SeveralItems (length parts) ++ flat_map held_item parts
body_counted [] = refl
body_counted (first ∷ []) = refl
body_counted (first ∷ second ∷ rest) =
    let all = flat_map held_item (first ∷ second ∷ rest) in
    let parts : in_body (body_of (map seen_item (first ∷ second ∷ rest))) ≡ constructs.SeveralItems ∷ all =
    ap (λ (others : List Construct). constructs.SeveralItems ∷ (held_item first ++ others)) (items_flat (second ∷ rest)) in
    parts ∙ sym (ap (λ (count : List Construct). count ++ all) (several constructs.EmptyBody constructs.SeveralItems (length rest)))
