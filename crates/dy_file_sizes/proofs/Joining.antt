-- How large drafts are that are put together from others.
use Rattle.std.proofs.Common.{◌≡◌, ℕ, zero, suc, ◌+◌, ◌≤◌, Bool, true, false, List, [], ◌∷◌, ◌++◌, length, codes, Option, Some, None, refl, arith, length-append}
use Rattle.std.specs.Prelude.{if◌then◌else◌}
use Rattle.std.proofs.lemmas.List.{length-map}
use Rattle.dy_tree.specs.declared.token.Token.{Token}
use Rattle.dy_tree.specs.declared.roles.Precedence.{Precedence}
use Rattle.dy_tree.specs.declared.roles.Precedence.TheVariants as precedences
use Rattle.dy_tree.specs.declared.brackets.Guard.{Guard}
use Rattle.dy_tree.specs.declared.brackets.Guard.TheVariants as guards
use Rattle.dy_tree.specs.Spelling.{is_spelled}
use Rattle.dy_rules.specs.Types.{ResultTree, TargetTree, one_target, several}
use Rattle.dy_rules.specs.Trees.{ItemTree, body_of, Arm, arm, Otherwise, no_otherwise, otherwise, Listed, parameters_of, maybe_keys}
use Rattle.dy_rules.specs.Trees as source
use Rattle.dy_term.specs.Drafts.{Core, and, or, hidden, run, CoreItem, cores_of, choice_of, items_of}
use Rattle.dy_term.specs.Drafts as drafts
use Rattle.dy_term.specs.Types.{object}
use Rattle.dy_term.specs.declared.draft.Local.TheVariants.{Hidden}
use Rattle.dy_drafts.specs.Shapes.{required_of, local_of, locals_of, rest_of}
use Rattle.dy_drafts.specs.Parts.{bodied, hidden_terms, hidden_locals, hide, hide_from, setting, first_or_false, call_named, with_rest}
use Rattle.dy_desugar.specs.Table.{operation_core, guarded_core, tests_of, cases_of, select_arms, or_false, items_in, lambda_from, defaults_of, key_defaults}
use Rattle.dy_desugar.specs.Table as table
use Rattle.dy_binding.specs.Bound.{count}
use Rattle.dy_file_sizes.specs.Drafts.{size, terms_size, maybe_size, choice_size, arms_size, items_size, lambda_size, defaults_size}
use Rattle.dy_file_sizes.proofs.Types.{target_size}

-- lists
abbrev pub all_size : List Core → ℕ
all_size terms = terms_size (cores_of terms)

pub join_terms : (xs ys : List Core) → all_size (xs ++ ys) ≡ all_size xs + all_size ys
join_terms [] ys = omega arith
join_terms (x ∷ xs) ys = omega (arith, join_terms xs ys)

join_items : (xs ys : List CoreItem) → items_size (items_of (xs ++ ys)) ≡ items_size (items_of xs) + items_size (items_of ys)
join_items [] ys = omega arith
join_items (x ∷ xs) ys = omega (arith, join_items xs ys)

abbrev pub pairs_size : List (Core × Core) → ℕ
pairs_size [] = 0
pairs_size (pair ∷ pairs) = size pair.0 + (size pair.1 + pairs_size pairs)

pub choice_is : (pairs : List (Core × Core)) (last : Core) → choice_size (choice_of pairs last) ≡ pairs_size pairs + size last
choice_is [] last = omega arith
choice_is (pair ∷ pairs) last = omega (arith, choice_is pairs last)

-- terms, each with what an assignment needs to hand it on
abbrev pub handed_size : List Core → ℕ
handed_size [] = 0
handed_size (term ∷ terms) = 3 + (size term + handed_size terms)

pub join_handed : (xs ys : List Core) → handed_size (xs ++ ys) ≡ handed_size xs + handed_size ys
join_handed [] ys = omega arith
join_handed (x ∷ xs) ys = omega (arith, join_handed xs ys)

pub handed_more : (terms : List Core) → all_size terms ≤ handed_size terms
handed_more [] = omega arith
handed_more (term ∷ terms) = omega (arith, handed_more terms)

hidden_is : (many : ℕ) → all_size (hidden_terms many) ≡ many
hidden_is zero = refl
hidden_is (suc many) = omega (arith, hidden_is many, join_terms (hidden_terms many) (hidden many ∷ []))

hide_is : (number : ℕ) (terms : List Core) → items_size (items_of (hide_from number terms)) + length terms ≡ handed_size terms
hide_is number [] = omega arith
hide_is number (term ∷ terms) = omega (arith, hide_is (suc number) terms)

pub setting_size : (setter : Token) (operands : List Core) (value : Core) → size (setting setter operands value) ≡ 9 + (handed_size operands + size value)
setting_size setter operands value =
    let last = length operands in
    let rest = hide last value ∷ run (call_named setter (hidden last ∷ hidden_terms last)) ∷ run (hidden last) ∷ [] in
    omega (arith, join_items (hide_from 0 operands) rest, hide_is 0 operands, hidden_is last)

locals_is : (many : ℕ) → length (hidden_locals many) ≡ many
locals_is zero = refl
locals_is (suc many) = omega (arith, locals_is many, length-append (hidden_locals many) ((Hidden many, object) ∷ []))

pub rest_size : (many : ℕ) (term : Core) → size (with_rest many term) ≡ 6 + (many + (many + size term))
rest_size many term = omega (arith, locals_is many, hidden_is (suc many))

-- operators and statements
logical_size : (b : Bool) (left right : Core) → size (if b then and left right else or left right) ≡ 1 + (size left + size right)
logical_size true left right = refl
logical_size false left right = refl

pub operation_size : (precedence : Precedence) (operator : Token) (left right : Core) → size (operation_core precedence operator left right) ≤ 2 + (size left + size right)
operation_size precedences.Logical operator left right = omega (arith, logical_size (is_spelled (codes "&") operator) left right)
operation_size precedences.Power operator left right = omega arith
operation_size precedences.Product operator left right = omega arith
operation_size precedences.Sum operator left right = omega arith
operation_size precedences.Comparison operator left right = omega arith

pub guarded_size : (guard : Guard) (test inner : Core) → size (guarded_core guard test inner) ≤ 4 + (size test + size inner)
guarded_size guards.Unless test inner = omega arith
guarded_size guards.While test inner = omega arith
guarded_size guards.Until test inner = omega arith

-- bodies
abbrev pub body_size : List ItemTree → ℕ
body_size trees = items_size (items_of (items_in (body_of trees)))

abbrev pub listed_size : Listed → ℕ
listed_size found = length found.required + (count found.rest + defaults_size (cores_of (key_defaults (maybe_keys found.keys))))

pub lambda_is : (found : Listed) (results : Option ResultTree) (trees : List ItemTree)
    → lambda_size (lambda_from (parameters_of found results) (defaults_of (parameters_of found results)) (bodied (items_in (body_of trees)))) ≡ 2 + (listed_size found + body_size trees)
lambda_is found results trees = omega (arith, length-map found.required required_of)

-- arms
abbrev pub arm_trees_size : List Arm → ℕ
arm_trees_size [] = 0
arm_trees_size (arm tests body ∷ arms) = 2 + (all_size (tests_of tests) + (items_size (items_of (items_in body)) + arm_trees_size arms))

first_small : (tests : List Core) → size (first_or_false tests) ≤ 1 + all_size tests
first_small [] = omega arith
first_small (test ∷ tests) = omega arith

pub cases_small : (trees : List Arm) → pairs_size (cases_of (source.arms_of trees)) ≤ arm_trees_size trees
cases_small [] = omega arith
cases_small (arm tests body ∷ trees) = omega (arith, first_small (tests_of tests), cases_small trees)

pub selects_small : (trees : List Arm) → arms_size (drafts.arms_of (select_arms (source.arms_of trees))) ≤ arm_trees_size trees
selects_small [] = omega arith
selects_small (arm tests body ∷ trees) = omega (arith, selects_small trees)

pub maybe_small : (last : Otherwise) → maybe_size (table.maybe_body last) ≤ size (or_false last)
maybe_small no_otherwise = omega arith
maybe_small (otherwise body) = omega arith

-- what a `let` binds
named_count : (rest : Option Token) → count (rest_of (several [] rest)) ≡ count rest
named_count None = refl
named_count (Some token) = refl

pub target_is : (target : TargetTree) → length (locals_of target) + count (rest_of target) ≡ target_size target
target_is (one_target variable) = refl
target_is (several variables rest) = omega (arith, length-map variables local_of, named_count rest)
