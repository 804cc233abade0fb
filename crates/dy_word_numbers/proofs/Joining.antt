-- The wide integers of drafts that are put together from others.
use Rattle.std.proofs.Common.{◌≡◌, ℕ, zero, suc, ◌+◌, ◌≤◌, Bool, true, false, List, [], ◌∷◌, ◌++◌, length, codes, Option, Some, None, refl, arith, length-append}
use Rattle.std.specs.Prelude.{if◌then◌else◌}
use Rattle.std.proofs.lemmas.List.{length-map}
use Rattle.dy_tree.specs.declared.token.Token.{Token}
use Rattle.dy_tree.specs.declared.roles.Precedence.{Precedence}
use Rattle.dy_tree.specs.declared.roles.Precedence.TheVariants as precedences
use Rattle.dy_tree.specs.declared.brackets.Guard.{Guard}
use Rattle.dy_tree.specs.declared.brackets.Guard.TheVariants as guards
use Rattle.dy_tree.specs.Spelling.{is_spelled}
use Rattle.dy_rules.specs.Types.{ResultTree, TargetTree, one_target, several}
use Rattle.dy_rules.specs.Trees.{ItemTree, body_of, Arm, arm, Otherwise, no_otherwise, otherwise, Listed, parameters_of, maybe_keys}
use Rattle.dy_rules.specs.Trees as source
use Rattle.dy_term.specs.Drafts.{Core, and, or, hidden, run, CoreItem, cores_of, choice_of, items_of}
use Rattle.dy_term.specs.Drafts as drafts
use Rattle.dy_term.specs.Types.{object}
use Rattle.dy_term.specs.declared.draft.Local.TheVariants.{Hidden}
use Rattle.dy_drafts.specs.Shapes.{required_of, local_of, locals_of, rest_of}
use Rattle.dy_drafts.specs.Parts.{bodied, hidden_terms, hidden_locals, hide, hide_from, setting, first_or_false, call_named, with_rest}
use Rattle.dy_desugar.specs.Table.{operation_core, guarded_core, tests_of, cases_of, select_arms, or_false, items_in, lambda_from, defaults_of, key_defaults}
use Rattle.dy_desugar.specs.Table as table
use Rattle.dy_word_numbers.specs.Drafts.{wide, terms_wide, maybe_wide, choice_wide, arms_wide, items_wide, lambda_wide, defaults_wide}
use Rattle.dy_word_numbers.proofs.Numbers.{truth_narrow}

-- lists
abbrev pub all_wide : List Core → ℕ
all_wide terms = terms_wide (cores_of terms)

pub join_terms : (xs ys : List Core) → all_wide (xs ++ ys) ≡ all_wide xs + all_wide ys
join_terms [] ys = omega arith
join_terms (x ∷ xs) ys = omega (arith, join_terms xs ys)

join_items : (xs ys : List CoreItem) → items_wide (items_of (xs ++ ys)) ≡ items_wide (items_of xs) + items_wide (items_of ys)
join_items [] ys = omega arith
join_items (x ∷ xs) ys = omega (arith, join_items xs ys)

abbrev pub pairs_wide : List (Core × Core) → ℕ
pairs_wide [] = 0
pairs_wide (pair ∷ pairs) = wide pair.0 + (wide pair.1 + pairs_wide pairs)

pub choice_is : (pairs : List (Core × Core)) (last : Core) → choice_wide (choice_of pairs last) ≡ pairs_wide pairs + wide last
choice_is [] last = omega arith
choice_is (pair ∷ pairs) last = omega (arith, choice_is pairs last)

-- terms, each with what an assignment needs to hand it on
abbrev pub handed_wide : List Core → ℕ
handed_wide [] = 0
handed_wide (term ∷ terms) = wide term + handed_wide terms

pub join_handed : (xs ys : List Core) → handed_wide (xs ++ ys) ≡ handed_wide xs + handed_wide ys
join_handed [] ys = omega arith
join_handed (x ∷ xs) ys = omega (arith, join_handed xs ys)

pub handed_more : (terms : List Core) → all_wide terms ≤ handed_wide terms
handed_more [] = omega arith
handed_more (term ∷ terms) = omega (arith, handed_more terms)

hidden_is : (many : ℕ) → all_wide (hidden_terms many) ≡ 0
hidden_is zero = refl
hidden_is (suc many) = omega (arith, hidden_is many, join_terms (hidden_terms many) (hidden many ∷ []))

hide_is : (number : ℕ) (terms : List Core) → items_wide (items_of (hide_from number terms)) ≡ handed_wide terms
hide_is number [] = omega arith
hide_is number (term ∷ terms) = omega (arith, hide_is (suc number) terms)

pub setting_wide : (setter : Token) (operands : List Core) (value : Core) → wide (setting setter operands value) ≡ handed_wide operands + wide value
setting_wide setter operands value =
    let last = length operands in
    let rest = hide last value ∷ run (call_named setter (hidden last ∷ hidden_terms last)) ∷ run (hidden last) ∷ [] in
    omega (arith, join_items (hide_from 0 operands) rest, hide_is 0 operands, hidden_is last)

pub rest_wide : (many : ℕ) (term : Core) → wide (with_rest many term) ≡ wide term
rest_wide many term = omega (arith, hidden_is (suc many))

-- operators and statements
logical_wide : (b : Bool) (left right : Core) → wide (if b then and left right else or left right) ≡ wide left + wide right
logical_wide true left right = refl
logical_wide false left right = refl

pub operation_wide : (precedence : Precedence) (operator : Token) (left right : Core) → wide (operation_core precedence operator left right) ≤ wide left + wide right
operation_wide precedences.Logical operator left right = omega (arith, logical_wide (is_spelled (codes "&") operator) left right)
operation_wide precedences.Power operator left right = omega arith
operation_wide precedences.Product operator left right = omega arith
operation_wide precedences.Sum operator left right = omega arith
operation_wide precedences.Comparison operator left right = omega arith

pub guarded_wide : (guard : Guard) (test inner : Core) → wide (guarded_core guard test inner) ≤ wide test + wide inner
guarded_wide guards.Unless test inner = omega (arith, truth_narrow false)
guarded_wide guards.While test inner = omega arith
guarded_wide guards.Until test inner = omega (arith, truth_narrow false, truth_narrow true)

-- bodies
abbrev pub body_wide : List ItemTree → ℕ
body_wide trees = items_wide (items_of (items_in (body_of trees)))

abbrev pub listed_wide : Listed → ℕ
listed_wide found = defaults_wide (cores_of (key_defaults (maybe_keys found.keys)))

pub lambda_is : (found : Listed) (results : Option ResultTree) (trees : List ItemTree)
    → lambda_wide (lambda_from (parameters_of found results) (defaults_of (parameters_of found results)) (bodied (items_in (body_of trees)))) ≡ listed_wide found + body_wide trees
lambda_is found results trees = omega arith

-- arms
abbrev pub arm_trees_wide : List Arm → ℕ
arm_trees_wide [] = 0
arm_trees_wide (arm tests body ∷ arms) = all_wide (tests_of tests) + (items_wide (items_of (items_in body)) + arm_trees_wide arms)

first_small : (tests : List Core) → wide (first_or_false tests) ≤ all_wide tests
first_small [] = omega (arith, truth_narrow false)
first_small (test ∷ tests) = omega arith

pub cases_small : (trees : List Arm) → pairs_wide (cases_of (source.arms_of trees)) ≤ arm_trees_wide trees
cases_small [] = omega arith
cases_small (arm tests body ∷ trees) = omega (arith, first_small (tests_of tests), cases_small trees)

pub selects_small : (trees : List Arm) → arms_wide (drafts.arms_of (select_arms (source.arms_of trees))) ≤ arm_trees_wide trees
selects_small [] = omega arith
selects_small (arm tests body ∷ trees) = omega (arith, selects_small trees)

pub maybe_small : (last : Otherwise) → maybe_wide (table.maybe_body last) ≤ wide (or_false last)
maybe_small no_otherwise = omega arith
maybe_small (otherwise body) = omega arith
