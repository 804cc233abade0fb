-- Some statements and definitions, as they are read.
use Rattle.std.proofs.Common.{◌≡◌, ℕ, true, false, List, [], ◌∷◌, ◌++◌, Some, None, codes, refl}
use Rattle.dy_tree.specs.declared.token.TokenKind.TheVariants as kinds
use Rattle.dy_tree.specs.declared.token.Token.{Token}
use Rattle.dy_tree.specs.Fragments.{SeenFragment, one, group, pack}
use Rattle.dy_tree.specs.declared.roles.Precedence.TheVariants as precedences
use Rattle.dy_tree.specs.declared.brackets.Guard.TheVariants as guards
use Rattle.dy_tree.specs.declared.splitters.Splitting.TheVariants as splittings
use Rattle.dy_rules.specs.Types.{one_target}
use Rattle.dy_rules.specs.Trees.{Tree, operation, name, begin_tree, if_tree, guarded, case_tree, method_tree, let_item, expression_item, body_of, alternatives_of, no_otherwise, otherwise, arm, arms_of, tests_of, parameters, no_keys, Body}
use Rattle.dy_rules.specs.Fragments.{expression_of}
use Rattle.dy_rules.specs.Forms.{constant_form, method_form}
use Rattle.dy_rules.specs.FormReading.{form_of}
use Rattle.dy_rules.specs.Marks.{made, mark, in_round}

abbrev named_token : List ℕ → Token
named_token text = made kinds.Name text

abbrev word : List ℕ → SeenFragment
word text = one (named_token text)

abbrev a : SeenFragment
a = word (codes "a")

abbrev b : SeenFragment
b = word (codes "b")

abbrev semicolon_sign : SeenFragment
semicolon_sign = one (mark (codes ";"))

abbrev arrow_sign : SeenFragment
arrow_sign = one (mark (codes "=>"))

abbrev equals_sign : SeenFragment
equals_sign = one (made kinds.Operator (codes "="))

abbrev statement_of : List ℕ → List SeenFragment → SeenFragment
statement_of text inner = group (named_token text) (pack inner) (named_token (codes "end"))

abbrev tree_a : Tree
tree_a = name (named_token (codes "a"))

abbrev tree_b : Tree
tree_b = name (named_token (codes "b"))

abbrev alone : Tree → Body
alone tree = body_of (expression_item tree ∷ [])

-- begin a; b; end
begins : expression_of splittings.Nothing (statement_of (codes "begin") (a ∷ semicolon_sign ∷ b ∷ semicolon_sign ∷ []) ∷ []) ≡ Some (begin_tree (named_token (codes "begin")) (body_of (expression_item tree_a ∷ expression_item tree_b ∷ [])))
begins = refl

-- begin ; end, and begin ;; end
empty_body : expression_of splittings.Nothing (statement_of (codes "begin") (semicolon_sign ∷ []) ∷ []) ≡ Some (begin_tree (named_token (codes "begin")) (body_of []))
empty_body = refl

two_semicolons : expression_of splittings.Nothing (statement_of (codes "begin") (semicolon_sign ∷ semicolon_sign ∷ []) ∷ []) ≡ None
two_semicolons = refl

-- if (a) b else a end + b
statement_operand : expression_of splittings.Nothing (statement_of (codes "if") (in_round (a ∷ []) ∷ b ∷ word (codes "else") ∷ a ∷ []) ∷ one (made kinds.Operator (codes "+")) ∷ b ∷ [])
    ≡ Some (operation precedences.Sum (if_tree (named_token (codes "if")) tree_a (alone tree_b) (alternatives_of []) (otherwise (alone tree_a))) (made kinds.Operator (codes "+")) tree_b)
statement_operand = refl

-- if (a) let else = b; a end, where a name is bound that would split the statement
bound_word : expression_of splittings.Nothing (statement_of (codes "if") (in_round (a ∷ []) ∷ word (codes "let") ∷ word (codes "else") ∷ equals_sign ∷ b ∷ semicolon_sign ∷ a ∷ []) ∷ [])
    ≡ Some (if_tree (named_token (codes "if")) tree_a
    (body_of (let_item (named_token (codes "let")) (one_target (record { variable = named_token (codes "else"); declared = None })) tree_b ∷ expression_item tree_a ∷ [])) (alternatives_of []) no_otherwise)
bound_word = refl

-- while (a) b end
while_read : expression_of splittings.Nothing (statement_of (codes "while") (in_round (a ∷ []) ∷ b ∷ []) ∷ []) ≡ Some (guarded guards.While (named_token (codes "while")) tree_a (alone tree_b))
while_read = refl

-- case a => b; a; otherwise b end
case_read : expression_of splittings.Nothing (statement_of (codes "case") (a ∷ arrow_sign ∷ b ∷ semicolon_sign ∷ a ∷ semicolon_sign ∷ word (codes "otherwise") ∷ b ∷ []) ∷ [])
    ≡ Some (case_tree (named_token (codes "case")) (arms_of (arm (tests_of (tree_a ∷ [])) (body_of (expression_item tree_b ∷ expression_item tree_a ∷ [])) ∷ [])) (otherwise (alone tree_b)))
case_read = refl

-- case a, b => a end: an arm of a case has one test
two_tests : expression_of splittings.Nothing (statement_of (codes "case") (a ∷ one (mark (codes ",")) ∷ b ∷ arrow_sign ∷ a ∷ []) ∷ []) ≡ None
two_tests = refl

-- block () a cleanup b cleanup a end: one cleanup at most
two_cleanups : expression_of splittings.Nothing (statement_of (codes "block") (in_round [] ∷ a ∷ word (codes "cleanup") ∷ b ∷ word (codes "cleanup") ∷ a ∷ []) ∷ []) ≡ None
two_cleanups = refl

-- method () a end
method_read : expression_of splittings.Nothing (statement_of (codes "method") (in_round [] ∷ a ∷ []) ∷ []) ≡ Some (method_tree (named_token (codes "method")) (parameters [] None None no_keys None) (alone tree_a))
method_read = refl

-- define constant a = b
constant_read : form_of (word (codes "define") ∷ word (codes "constant") ∷ a ∷ equals_sign ∷ b ∷ []) ≡ Some (constant_form (named_token (codes "define")) (one_target (record { variable = named_token (codes "a"); declared = None })) tree_b)
constant_read = refl

-- define method a () b end, and with `open`
method_form_read : form_of (statement_of (codes "define") (word (codes "method") ∷ a ∷ in_round [] ∷ b ∷ []) ∷ []) ≡ Some (method_form (named_token (codes "define")) [] (named_token (codes "method")) (named_token (codes "a")) (parameters [] None None no_keys None) (alone tree_b))
method_form_read = refl

open_method : form_of (statement_of (codes "define") (word (codes "open") ∷ word (codes "method") ∷ a ∷ in_round [] ∷ b ∷ []) ∷ []) ≡ None
open_method = refl
