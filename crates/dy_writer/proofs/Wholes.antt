-- Lists of parts of trees, as they are written.
use Rattle.std.proofs.Common.{◌≡◌, List, [], ◌∷◌, ◌++◌, codes, map, refl, ap}
use Rattle.std.specs.List.{flat_map}
use Rattle.dy_tree.specs.Fragments.{SeenFragment}
use Rattle.dy_rules.specs.Marks.{comma_mark, semicolon_mark}
use Rattle.dy_rules.specs.Trees.{Argument, arguments_of, ItemTree, body_of, LocalMethod, methods_of, Alternative, alternatives_of, Arm, arms_of, Tree, tests_of, BlockClause, block_clauses_of, ForClause, for_clauses_of, Key, keys_of}
use Rattle.dy_rules.specs.Writing.{written, written_argument, written_arguments, written_rest, written_item, written_body, items_behind, written_method, written_methods, methods_behind, written_alternative, written_alternatives, written_arm, written_arms, arms_behind, written_tests, tests_behind, written_clause, written_clauses, written_for_clause, written_for, for_behind, written_key, first_keys, keys_behind}
use Rattle.dy_write_parts.specs.Joined.{behind_mark, joined}

abbrev Fragments : Type 0
Fragments = List SeenFragment

arguments_rest : (arguments : List Argument) → written_rest (arguments_of arguments) ≡ behind_mark (codes ",") (map written_argument arguments)
arguments_rest [] = refl
arguments_rest (first ∷ rest) = ap (λ (fs : Fragments). comma_mark ∷ (written_argument first ++ fs)) (arguments_rest rest)

pub arguments_joined : (arguments : List Argument) → written_arguments (arguments_of arguments) ≡ joined (codes ",") (map written_argument arguments)
arguments_joined [] = refl
arguments_joined (first ∷ rest) = ap (λ (fs : Fragments). written_argument first ++ fs) (arguments_rest rest)

body_rest : (items : List ItemTree) → items_behind (body_of items) ≡ behind_mark (codes ";") (map written_item items)
body_rest [] = refl
body_rest (first ∷ rest) = ap (λ (fs : Fragments). semicolon_mark ∷ (written_item first ++ fs)) (body_rest rest)

pub body_joined : (items : List ItemTree) → written_body (body_of items) ≡ joined (codes ";") (map written_item items)
body_joined [] = refl
body_joined (first ∷ rest) = ap (λ (fs : Fragments). written_item first ++ fs) (body_rest rest)

methods_rest : (methods : List LocalMethod) → methods_behind (methods_of methods) ≡ behind_mark (codes ",") (map (λ method. written_method method ∷ []) methods)
methods_rest [] = refl
methods_rest (first ∷ rest) = ap (λ (fs : Fragments). comma_mark ∷ written_method first ∷ fs) (methods_rest rest)

pub methods_joined : (methods : List LocalMethod) → written_methods (methods_of methods) ≡ joined (codes ",") (map (λ method. written_method method ∷ []) methods)
methods_joined [] = refl
methods_joined (first ∷ rest) = ap (λ (fs : Fragments). written_method first ∷ fs) (methods_rest rest)

arms_rest : (arms : List Arm) → arms_behind (arms_of arms) ≡ behind_mark (codes ";") (map written_arm arms)
arms_rest [] = refl
arms_rest (first ∷ rest) = ap (λ (fs : Fragments). semicolon_mark ∷ (written_arm first ++ fs)) (arms_rest rest)

pub arms_joined : (arms : List Arm) → written_arms (arms_of arms) ≡ joined (codes ";") (map written_arm arms)
arms_joined [] = refl
arms_joined (first ∷ rest) = ap (λ (fs : Fragments). written_arm first ++ fs) (arms_rest rest)

tests_rest : (tests : List Tree) → tests_behind (tests_of tests) ≡ behind_mark (codes ",") (map written tests)
tests_rest [] = refl
tests_rest (first ∷ rest) = ap (λ (fs : Fragments). comma_mark ∷ (written first ++ fs)) (tests_rest rest)

pub tests_joined : (tests : List Tree) → written_tests (tests_of tests) ≡ joined (codes ",") (map written tests)
tests_joined [] = refl
tests_joined (first ∷ rest) = ap (λ (fs : Fragments). written first ++ fs) (tests_rest rest)

loop_rest : (clauses : List ForClause) → for_behind (for_clauses_of clauses) ≡ behind_mark (codes ",") (map written_for_clause clauses)
loop_rest [] = refl
loop_rest (first ∷ rest) = ap (λ (fs : Fragments). comma_mark ∷ (written_for_clause first ++ fs)) (loop_rest rest)

pub loop_joined : (clauses : List ForClause) → written_for (for_clauses_of clauses) ≡ joined (codes ",") (map written_for_clause clauses)
loop_joined [] = refl
loop_joined (first ∷ rest) = ap (λ (fs : Fragments). written_for_clause first ++ fs) (loop_rest rest)

keys_rest : (keys : List Key) → keys_behind (keys_of keys) ≡ behind_mark (codes ",") (map written_key keys)
keys_rest [] = refl
keys_rest (first ∷ rest) = ap (λ (fs : Fragments). comma_mark ∷ (written_key first ++ fs)) (keys_rest rest)

pub keys_joined : (keys : List Key) → first_keys (keys_of keys) ≡ joined (codes ",") (map written_key keys)
keys_joined [] = refl
keys_joined (first ∷ rest) = ap (λ (fs : Fragments). written_key first ++ fs) (keys_rest rest)

pub alternatives_flat : (alternatives : List Alternative) → written_alternatives (alternatives_of alternatives) ≡ flat_map written_alternative alternatives
alternatives_flat [] = refl
alternatives_flat (first ∷ rest) = ap (λ (fs : Fragments). written_alternative first ++ fs) (alternatives_flat rest)

pub clauses_flat : (clauses : List BlockClause) → written_clauses (block_clauses_of clauses) ≡ flat_map written_clause clauses
clauses_flat [] = refl
clauses_flat (first ∷ rest) = ap (λ (fs : Fragments). written_clause first ++ fs) (clauses_flat rest)
