-- Some expressions, as they are read.
use Rattle.std.proofs.Common.{◌≡◌, ℕ, List, [], ◌∷◌, Some, None, codes, refl}
use Rattle.dy_tree.specs.declared.token.TokenKind.TheVariants as kinds
use Rattle.dy_tree.specs.declared.token.Token.{Token}
use Rattle.dy_tree.specs.declared.types.LiteralForm.TheVariants as literals
use Rattle.dy_tree.specs.Fragments.{one, group, pack}
use Rattle.dy_tree.specs.declared.roles.Precedence.TheVariants as precedences
use Rattle.dy_tree.specs.declared.splitters.Splitting.TheVariants as splittings
use Rattle.dy_rules.specs.ConstantTrees.{literal_item, constants_of, tail_of}
use Rattle.dy_rules.specs.Trees.{assignment, operation, unary, call, element, member, literal, name, list, no_argument, argument_and, keyword, value}
use Rattle.dy_rules.specs.Roles.{positive, negative}
use Rattle.dy_rules.specs.Fragments.{expression_of}
use Rattle.dy_rules.specs.Marks.{made, mark, in_round, square_group, comma_mark, dot_mark}
use Rattle.dy_rules.specs.Writing.{written}

abbrev named_token : List ℕ → Token
named_token text = made kinds.Name text

abbrev sign : List ℕ → Token
sign text = made kinds.Operator text

abbrev digits : List ℕ → Token
digits text = made kinds.Int text

abbrev key : List ℕ → Token
key text = made kinds.Symbol text

abbrev a : Token
a = named_token (codes "a")

abbrev b : Token
b = named_token (codes "b")

abbrev c : Token
c = named_token (codes "c")

abbrev plus : Token
plus = sign (codes "+")

abbrev hyphen : Token
hyphen = sign (codes "-")

abbrev times : Token
times = sign (codes "*")

-- a + b * c
binds_tighter : expression_of splittings.Nothing (one a ∷ one plus ∷ one b ∷ one times ∷ one c ∷ []) ≡ Some (operation precedences.Sum (name a) plus (operation precedences.Product (name b) times (name c)))
binds_tighter = refl

-- a - b - c
to_the_left : expression_of splittings.Nothing (one a ∷ one hyphen ∷ one b ∷ one hyphen ∷ one c ∷ []) ≡ Some (operation precedences.Sum (operation precedences.Sum (name a) hyphen (name b)) hyphen (name c))
to_the_left = refl

-- a := b := c
to_the_right : expression_of splittings.Nothing (one a ∷ one (sign (codes ":=")) ∷ one b ∷ one (sign (codes ":=")) ∷ one c ∷ []) ≡ Some (assignment (name a) (assignment (name b) (name c)))
to_the_right = refl

-- - 1, and - (1), and - a ^ b
negative_literal : expression_of splittings.Nothing (one hyphen ∷ one (digits (codes "1")) ∷ []) ≡ Some (literal (negative hyphen (digits (codes "1"))))
negative_literal = refl

minus_of_brackets : expression_of splittings.Nothing (one hyphen ∷ in_round (one (digits (codes "1")) ∷ []) ∷ []) ≡ Some (unary hyphen (literal (positive (digits (codes "1")))))
minus_of_brackets = refl

minus_first : expression_of splittings.Nothing (one hyphen ∷ one a ∷ one (sign (codes "^")) ∷ one b ∷ []) ≡ Some (operation precedences.Power (unary hyphen (name a)) (sign (codes "^")) (name b))
minus_first = refl

-- a(k: (b), c), where the brackets are the value of the keyword
keyword_and_value : expression_of splittings.Nothing (one a ∷ in_round (one (key (codes "k")) ∷ in_round (one b ∷ []) ∷ comma_mark ∷ one c ∷ []) ∷ [])
    ≡ Some (call (name a) (argument_and (keyword (key (codes "k")) (name b)) (argument_and (value (name c)) no_argument)))
keyword_and_value = refl

-- a(k: (b, c)), where the symbol is called
symbol_called : expression_of splittings.Nothing (one a ∷ in_round (one (key (codes "k")) ∷ in_round (one b ∷ comma_mark ∷ one c ∷ []) ∷ []) ∷ [])
    ≡ Some (call (name a) (argument_and (value (call (literal (literals.Symbol (key (codes "k")))) (argument_and (value (name b)) (argument_and (value (name c)) no_argument)))) no_argument))
symbol_called = refl

-- a.b[c]
members : expression_of splittings.Nothing (one a ∷ dot_mark ∷ one b ∷ square_group (mark (codes "[")) (one c ∷ []) ∷ []) ≡ Some (element (member (name a) b) (mark (codes "[")) (name c))
members = refl

-- `else` at the top level of an `if`, and elsewhere
no_operand : expression_of splittings.Branches (one (named_token (codes "else")) ∷ []) ≡ None
no_operand = refl

a_name : expression_of splittings.Nothing (one (named_token (codes "else")) ∷ []) ≡ Some (name (named_token (codes "else")))
a_name = refl

in_brackets_again : written (name (named_token (codes "else"))) ≡ in_round (one (named_token (codes "else")) ∷ []) ∷ []
in_brackets_again = refl

-- let
no_name : expression_of splittings.Nothing (one (named_token (codes "let")) ∷ []) ≡ None
no_name = refl

-- #(- 1 . a:)
improper : expression_of splittings.Nothing (group (mark (codes "#(")) (pack (one hyphen ∷ one (digits (codes "1")) ∷ dot_mark ∷ one (key (codes "a")) ∷ [])) (mark (codes ")")) ∷ [])
    ≡ Some (list (mark (codes "#(")) (constants_of (literal_item (negative hyphen (digits (codes "1"))) ∷ [])) (tail_of (Some (literal_item (literals.Symbol (key (codes "a")))))))
improper = refl

-- a b, and ()
two_names : expression_of splittings.Nothing (one a ∷ one b ∷ []) ≡ None
two_names = refl

empty_brackets : expression_of splittings.Nothing (in_round [] ∷ []) ≡ None
empty_brackets = refl
