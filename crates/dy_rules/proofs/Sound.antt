-- What is read is derived.
use Rattle.std.proofs.Common.{◌≡◌, nat_lt, ℕ, zero, suc, ◌+◌, ◌-◌, ◌≤◌, Bool, true, false, ◌&&◌, List, [], ◌∷◌, ◌++◌, Option, Some, None, option_map, option_and_then, refl, sym, ap, subst, ◌∙◌, append_assoc, codes, arith}
use Rattle.std.proofs.lemmas.List.{append-nil}
use Rattle.std.proofs.lemmas.Bool.{cond_both, ltb-true, ltb-false}
use Rattle.dy_tree.specs.declared.token.Token.{Token}
use Rattle.dy_tree.specs.declared.types.LiteralForm.TheVariants as literals
use Rattle.dy_tree.specs.Fragments.{SeenFragment, one, group, SeenFragments, row}
use Rattle.dy_tree.specs.declared.roles.Role.{Role}
use Rattle.dy_tree.specs.declared.roles.Role.TheVariants as roles
use Rattle.dy_tree.specs.declared.roles.Precedence.{Precedence}
use Rattle.dy_tree.specs.declared.roles.Precedence.TheVariants as precedences
use Rattle.dy_tree.specs.declared.brackets.Bracket.{Bracket}
use Rattle.dy_tree.specs.declared.brackets.Bracket.TheVariants as enclosures
use Rattle.dy_tree.specs.declared.splitters.Splitting.{Splitting}
use Rattle.dy_tree.specs.declared.splitters.Splitting.TheVariants as splittings
use Rattle.dy_tree.specs.Spelling.{is_spelled}
use Rattle.dy_rules.specs.Operators.{below}
use Rattle.dy_rules.specs.Trees.{Tree, assignment, operation, unary, literal, name, Argument, value, ForClause, StopTree, Listed}
use Rattle.dy_rules.specs.Types.{TypeTree, VariableTree, AreBounds, each_once, some_types, IsType, Bind, Give}
use Rattle.dy_rules.specs.Cutting.{Limits, Ending, Found, Item, fragments_in, Head, Caught, MethodFound, NamedFound}
use Rattle.dy_rules.specs.Roles.{role_of, precedence_of, splits, bracket_of, positive}
use Rattle.dy_rules.specs.Arguments.{begins_value, passes_two, is_symbol}
use Rattle.dy_rules.specs.Productions.{is_integer_role, is_integer, Sort, leaf, operand, signed, level, expression, argument, some_arguments, arguments, Derives, integer_leaf, character_leaf, string_leaf, boolean_leaf, symbol_leaf, name_leaf, bracket_leaf, leaf_operand, call_operand, element_operand, member_operand, operand_signed, negative_signed, minus_signed, tilde_signed, signed_level, up_level, operation_level, level_expression, assignment_expression, keyword_argument, value_argument, one_argument, more_arguments, no_arguments, all_arguments, head, Catches, for_head, brackets, signature}
use Rattle.dy_rules.specs.Reading.{Outer, whole, operated, under, assigned, Part, State, wants, counted, has, dotted, reduced, finished, under_sign, integer_part, name_if, at_operand, operates, assigns_to, behind, member_if, behind_dot, at_token, in_brackets, indexed, called, group_behind, group_at_operand, at_group, finished_part, tree_of, Passing, nothing_passed, passes_next, symbol_first, passing, argument_of, with_last, arguments_in, arguments_at_end, fresh_role, fresh, at_comma, at_separator, or_else, after_item, in_value, by_symbol, after_argument, after_all, after_passing, expression_items, passed_items}
use Rattle.dy_rules.proofs.Outers.{Fits, Ends, NoNegative, finished_reduced}
use Rattle.dy_rules.proofs.Lists.{some_one}

abbrev Fragments : Type 0
Fragments = List SeenFragment

abbrev pub IsSign : Role → Type 0
IsSign roles.Minus = Unit {0}
IsSign roles.Tilde = Unit {0}
IsSign _ = ⊥

-- these fragments stand in front of what will be a part of it
abbrev pub Stands : Splitting → Outer → Fragments → Type 0
Stands words whole before = before ≡ []
Stands words (operated precedence left sign outer) before =
    (first : Fragments) × (middle : Fragments) × (before ≡ first ++ (middle ++ one sign ∷ [])) × (precedence_of (role_of sign) ≡ Some precedence)
    × Derives words (level (suc (below precedence)) left) middle × Fits (suc (below precedence)) outer × Stands words outer first
Stands words (under sign outer) before = (first : Fragments) × (before ≡ first ++ one sign ∷ []) × IsSign (role_of sign) × Stands words outer first
Stands words (assigned place outer) before =
    (first : Fragments) × (middle : Fragments) × (sign : Token) × (before ≡ first ++ (middle ++ one sign ∷ [])) × (role_of sign ≡ roles.Assigns)
    × Derives words (level 5 place) middle × Ends outer × Stands words outer first

-- a part of this sort ends here
abbrev pub Stops : Splitting → (Tree → Sort) → Part → (Fragments → Type 0) → Fragments → Type 0
Stops words sort part Also all = (first : Fragments) × (middle : Fragments) × (all ≡ first ++ middle) × Derives words (sort part.0) middle × Also middle × Stands words part.1 first

abbrev pub Began : Splitting → State → Fragments → Type 0
Began words (wants outer) all = Stands words outer all
Began words (counted digits outer) all = (first : Fragments) × (all ≡ first ++ one digits ∷ []) × (role_of digits ≡ roles.Integer) × Stands words outer first
Began words (has tree outer) all = Stops words operand (tree, outer) (λ middle. is_integer middle ≡ false) all
Began words (dotted tree outer) all = (first : Fragments) × (middle : Fragments) × (point : Token) × (all ≡ first ++ (middle ++ one point ∷ [])) × (role_of point ≡ roles.Dot) × Derives words (operand tree) middle × Stands words outer first

abbrev pub BeganIf : Splitting → Option State → Fragments → Type 0
BeganIf words None all = Unit {0}
BeganIf words (Some state) all = Began words state all

-- a level holds of each looser one
abbrev higher : ℕ → ℕ → ℕ
higher zero low = low
higher (suc more) low = suc (higher more low)

higher_is : (more low : ℕ) → higher more low ≡ more + low
higher_is zero low = omega arith
higher_is (suc more) low = let e = higher_is more low in omega arith

lifted : (words : Splitting) (more low : ℕ) (tree : Tree) (fragments : Fragments) → Derives words (level low tree) fragments → Derives words (level (higher more low) tree) fragments
lifted words zero low tree fragments h = h
lifted words (suc more) low tree fragments h = up_level words (higher more low) tree fragments (lifted words more low tree fragments h)

pub raised : (words : Splitting) (low height : ℕ) (tree : Tree) (fragments : Fragments) → low ≤ height → Derives words (level low tree) fragments → Derives words (level height tree) fragments
raised words low height tree fragments le h =
    let same : higher (height - low) low ≡ height = let e = higher_is (height - low) low in omega arith in
    subst (λ (n : ℕ). Derives words (level n tree) fragments) same (lifted words (height - low) low tree fragments h)

reduce_level : (words : Splitting) (height : ℕ) (tree : Tree) (outer : Outer) (low : ℕ) (before middle : Fragments) → Derives words (level low tree) middle → low ≤ height → Fits low outer → Stands words outer before
    → Stops words (level height) (reduced height tree outer) (λ m. Fits height (reduced height tree outer).1) (before ++ middle)
reduce_level words height tree whole low before middle h le fits s = (before, middle, refl, raised words low height tree middle le h, tt, s)
reduce_level words height tree (under sign outer) low before middle h le fits s = absurd fits
reduce_level words height tree (assigned place outer) low before middle h le fits s = (before, middle, refl, raised words low height tree middle le h, tt, s)
reduce_level words height tree (operated precedence left sign outer) low before middle h le fits s =
    let (first, front, parts, is, k, looser, rest) = s in
    let whole_level = operation_level words precedence left tree sign front middle (front ++ one sign ∷ middle) refl is k (raised words low (below precedence) tree middle fits h) in
    let joined : first ++ (front ++ one sign ∷ middle) ≡ before ++ middle = rw parts (simp append_assoc) in
    cond_both (nat_lt (below precedence) height) (reduced height (operation precedence left sign tree) outer) (tree, operated precedence left sign outer)
    (λ (part : Part). Stops words (level height) part (λ m. Fits height part.1) (before ++ middle))
    (λ e. subst (Stops words (level height) (reduced height (operation precedence left sign tree) outer) (λ m. Fits height (reduced height (operation precedence left sign tree) outer).1)) joined
    (reduce_level words height (operation precedence left sign tree) outer (suc (below precedence)) first (front ++ one sign ∷ middle) whole_level (ltb-true (below precedence) height e) looser rest))
    (λ e. (before, middle, refl, raised words low height tree middle le h, ltb-false (below precedence) height e, s))

sign_is : (words : Splitting) (role : Role) (sign : Token) (tree : Tree) (middle : Fragments) → role_of sign ≡ role → IsSign role → (role ≡ roles.Minus → is_integer middle ≡ false) → Derives words (signed tree) middle → Derives words (signed (unary sign tree)) (one sign ∷ middle)
sign_is words roles.Minus sign tree middle e is alone h = minus_signed words sign tree middle e (alone refl) h
sign_is words roles.Tilde sign tree middle e is alone h = tilde_signed words sign tree middle e h
sign_is words role sign tree middle e is alone h = absurd is

sign_no_integer : (role : Role) → IsSign role → is_integer_role role ≡ false
sign_no_integer roles.Minus is = refl
sign_no_integer roles.Tilde is = refl
sign_no_integer role is = absurd is

under_no_integer : (sign : Token) (middle : Fragments) → IsSign (role_of sign) → is_integer (one sign ∷ middle) ≡ false
under_no_integer sign [] is = sign_no_integer (role_of sign) is
under_no_integer sign (first ∷ rest) is = refl

no_negative : (outer : Outer) (middle : Fragments) → is_integer middle ≡ false → NoNegative outer middle
no_negative whole middle e = tt
no_negative (operated precedence left sign outer) middle e = tt
no_negative (under sign outer) middle e = λ is. e
no_negative (assigned place outer) middle e = tt

reduce_signed : (words : Splitting) (height : ℕ) (tree : Tree) (outer : Outer) (before middle : Fragments) → Derives words (signed tree) middle → NoNegative outer middle → Stands words outer before
    → Stops words (level height) (reduced height tree outer) (λ m. Fits height (reduced height tree outer).1) (before ++ middle)
reduce_signed words height tree whole before middle h alone s = reduce_level words height tree whole 0 before middle (signed_level words tree middle h) (omega arith) tt s
reduce_signed words height tree (operated precedence left sign outer) before middle h alone s = reduce_level words height tree (operated precedence left sign outer) 0 before middle (signed_level words tree middle h) (omega arith) (omega arith) s
reduce_signed words height tree (assigned place outer) before middle h alone s = reduce_level words height tree (assigned place outer) 0 before middle (signed_level words tree middle h) (omega arith) tt s
reduce_signed words height tree (under sign outer) before middle h alone s =
    let (first, parts, is, rest) = s in
    let joined : first ++ (one sign ∷ middle) ≡ before ++ middle = rw parts (simp append_assoc) in
    subst (Stops words (level height) (reduced height (unary sign tree) outer) (λ m. Fits height (reduced height (unary sign tree) outer).1)) joined
    (reduce_signed words height (unary sign tree) outer first (one sign ∷ middle) (sign_is words (role_of sign) sign tree middle refl is alone h) (no_negative outer (one sign ∷ middle) (under_no_integer sign middle is)) rest)

reduce_part : (words : Splitting) (height : ℕ) (part : Part) (all : Fragments) → Stops words signed part (λ middle. NoNegative part.1 middle) all
    → Stops words (level height) (reduced height part.0 part.1) (λ m. Fits height (reduced height part.0 part.1).1) all
reduce_part words height part all (first, middle, parts, h, alone, s) =
    subst (Stops words (level height) (reduced height part.0 part.1) (λ m. Fits height (reduced height part.0 part.1).1)) (sym parts) (reduce_signed words height part.0 part.1 first middle h alone s)

fits_ends : (outer : Outer) → Fits 5 outer → Ends outer
fits_ends whole h = tt
fits_ends (operated precedences.Power left sign outer) h = absurd (omega arith)
fits_ends (operated precedences.Product left sign outer) h = absurd (omega arith)
fits_ends (operated precedences.Sum left sign outer) h = absurd (omega arith)
fits_ends (operated precedences.Comparison left sign outer) h = absurd (omega arith)
fits_ends (operated precedences.Logical left sign outer) h = absurd (omega arith)
fits_ends (under sign outer) h = absurd h
fits_ends (assigned place outer) h = tt

finish_sound : (words : Splitting) (tree : Tree) (outer : Outer) (before middle : Fragments) → Derives words (expression tree) middle → Ends outer → Stands words outer before → Derives words (expression (finished tree outer)) (before ++ middle)
finish_sound words tree whole before middle h ends s = rw s h
finish_sound words tree (operated precedence left sign outer) before middle h ends s = absurd ends
finish_sound words tree (under sign outer) before middle h ends s = absurd ends
finish_sound words tree (assigned place outer) before middle h ends s =
    let (first, front, sign, parts, is, k, more, rest) = s in
    let joined : first ++ (front ++ one sign ∷ middle) ≡ before ++ middle = rw parts (simp append_assoc) in
    subst (Derives words (expression (finished (assignment place tree) outer))) joined
    (finish_sound words (assignment place tree) outer first (front ++ one sign ∷ middle) (assignment_expression words place tree sign front middle (front ++ one sign ∷ middle) refl is k h) more rest)

finish_part : (words : Splitting) (part : Part) (all : Fragments) → Stops words signed part (λ middle. NoNegative part.1 middle) all → Derives words (expression (finished_part part)) all
finish_part words part all s =
    let (first, middle, parts, h, fits, rest) = reduce_part words 5 part all s in
    let next : Part = reduced 5 part.0 part.1 in
    let whole_tree = finish_sound words next.0 next.1 first middle (level_expression words next.0 middle h) (fits_ends next.1 fits) rest in
    subst (λ (tree : Tree). Derives words (expression tree) all) (finished_reduced 5 part.0 part.1) (subst (Derives words (expression (finished_part next))) (sym parts) whole_tree)

abbrev SignedEnds : Splitting → Part → Fragments → Type 0
SignedEnds words part all = Stops words signed part (λ middle. NoNegative part.1 middle) all

abbrev OperandEnds : Splitting → Part → Fragments → Type 0
OperandEnds words part all = Stops words operand part (λ middle. Unit {0}) all

integer_signed : (words : Splitting) (digits : Token) → role_of digits ≡ roles.Integer → Derives words (signed (literal (positive digits))) (one digits ∷ [])
integer_signed words digits is = operand_signed words (literal (positive digits)) (one digits ∷ []) (leaf_operand words (literal (positive digits)) (one digits ∷ []) (integer_leaf words digits is))

under_part : (words : Splitting) (role : Role) (sign digits : Token) (outer : Outer) (before : Fragments) → role_of sign ≡ role → role_of digits ≡ roles.Integer → Stands words (under sign outer) before → SignedEnds words (under_sign role sign digits outer) (before ++ one digits ∷ [])
under_part words roles.Minus sign digits outer before e is s =
    let (first, parts, signs, rest) = s in
    (first, one sign ∷ one digits ∷ [], rw parts (simp append_assoc), negative_signed words sign digits e is, no_negative outer (one sign ∷ one digits ∷ []) refl, rest)
under_part words roles.Tilde sign digits outer before e is s = (before, one digits ∷ [], refl, integer_signed words digits is, (λ f. let g = sym e ∙ f in absurd cc), s)
under_part words role sign digits outer before e is s =
    let (first, parts, signs, rest) = s in absurd (subst IsSign e signs)

counted_part : (words : Splitting) (digits : Token) (outer : Outer) (before : Fragments) → role_of digits ≡ roles.Integer → Stands words outer before → SignedEnds words (integer_part digits outer) (before ++ one digits ∷ [])
counted_part words digits whole before is s = (before, one digits ∷ [], refl, integer_signed words digits is, tt, s)
counted_part words digits (operated precedence left sign outer) before is s = (before, one digits ∷ [], refl, integer_signed words digits is, tt, s)
counted_part words digits (assigned place outer) before is s = (before, one digits ∷ [], refl, integer_signed words digits is, tt, s)
counted_part words digits (under sign outer) before is s = under_part words (role_of sign) sign digits outer before refl is s

counted_signed : (words : Splitting) (digits : Token) (outer : Outer) (all : Fragments) → Began words (counted digits outer) all → SignedEnds words (integer_part digits outer) all
counted_signed words digits outer all (first, parts, is, s) = subst (SignedEnds words (integer_part digits outer)) (sym parts) (counted_part words digits outer first is s)

has_signed : (words : Splitting) (tree : Tree) (outer : Outer) (all : Fragments) → Began words (has tree outer) all → SignedEnds words (tree, outer) all
has_signed words tree outer all (first, middle, parts, h, alone, s) = (first, middle, parts, operand_signed words tree middle h, no_negative outer middle alone, s)

counted_operand : (words : Splitting) (digits : Token) (outer : Outer) (all : Fragments) → Began words (counted digits outer) all → OperandEnds words (literal (positive digits), outer) all
counted_operand words digits outer all (first, parts, is, s) = (first, one digits ∷ [], parts, leaf_operand words (literal (positive digits)) (one digits ∷ []) (integer_leaf words digits is), tt, s)

has_operand : (words : Splitting) (tree : Tree) (outer : Outer) (all : Fragments) → Began words (has tree outer) all → OperandEnds words (tree, outer) all
has_operand words tree outer all (first, middle, parts, h, alone, s) = (first, middle, parts, h, tt, s)

pub tree_sound : (words : Splitting) (state : State) (tree : Tree) (all : Fragments) → Began words state all → tree_of state ≡ Some tree → Derives words (expression tree) all
tree_sound words (wants outer) tree all s e = absurd cc
tree_sound words (counted digits outer) tree all s e = let same = some_one _ _ e in subst (λ (t : Tree). Derives words (expression t) all) same (finish_part words (integer_part digits outer) all (counted_signed words digits outer all s))
tree_sound words (has read outer) tree all s e = let same = some_one _ _ e in subst (λ (t : Tree). Derives words (expression t) all) same (finish_part words (read, outer) all (has_signed words read outer all s))
tree_sound words (dotted read outer) tree all s e = absurd cc

-- a leaf, where an operand begins
leaf_sound : (words : Splitting) (tree : Tree) (outer : Outer) (fragment : SeenFragment) (before : Fragments) → Derives words (leaf tree) (fragment ∷ []) → is_integer (fragment ∷ []) ≡ false → Stands words outer before → Began words (has tree outer) (before ++ fragment ∷ [])
leaf_sound words tree outer fragment before h alone s = (before, fragment ∷ [], refl, leaf_operand words tree (fragment ∷ []) h, alone, s)

name_sound : (words : Splitting) (splitting : Bool) (outer : Outer) (token : Token) (before : Fragments) → splits words token ≡ splitting → role_of token ≡ roles.Named → Stands words outer before → BeganIf words (name_if splitting token outer) (before ++ one token ∷ [])
name_sound words true outer token before plain is s = tt
name_sound words false outer token before plain is s = leaf_sound words (name token) outer (one token) before (name_leaf words token is plain) (rw is refl) s

at_operand_sound : (words : Splitting) (role : Role) (outer : Outer) (token : Token) (before : Fragments) → role_of token ≡ role → Stands words outer before → BeganIf words (at_operand words outer token role) (before ++ one token ∷ [])
at_operand_sound words roles.Integer outer token before is s = (before, refl, is, s)
at_operand_sound words roles.Character outer token before is s = leaf_sound words (literal (literals.Char token)) outer (one token) before (character_leaf words token is) (rw is refl) s
at_operand_sound words roles.Text outer token before is s = leaf_sound words (literal (literals.Str token)) outer (one token) before (string_leaf words token is) (rw is refl) s
at_operand_sound words roles.Boolean outer token before is s = leaf_sound words (literal (literals.Bool token)) outer (one token) before (boolean_leaf words token is) (rw is refl) s
at_operand_sound words roles.Symbol outer token before is s = leaf_sound words (literal (literals.Symbol token)) outer (one token) before (symbol_leaf words token is) (rw is refl) s
at_operand_sound words roles.Named outer token before is s = name_sound words (splits words token) outer token before refl is s
at_operand_sound words roles.Minus outer token before is s = (before, refl, rw is tt, s)
at_operand_sound words roles.Tilde outer token before is s = (before, refl, rw is tt, s)
at_operand_sound words role outer token before is s = tt

ends_with : (all first middle : Fragments) (last : SeenFragment) → all ≡ first ++ middle → all ++ last ∷ [] ≡ first ++ (middle ++ last ∷ [])
ends_with all first middle last parts = rw parts (simp append_assoc)

operates_sound : (words : Splitting) (precedence : Precedence) (token : Token) (part : Part) (all : Fragments) → precedence_of (role_of token) ≡ Some precedence → SignedEnds words part all
    → Began words (operates precedence token (reduced (suc (below precedence)) part.0 part.1)) (all ++ one token ∷ [])
operates_sound words precedence token part all is s =
    let (first, middle, parts, h, fits, rest) = reduce_part words (suc (below precedence)) part all s in
    (first, middle, ends_with all first middle (one token) parts, is, h, fits, rest)

assigns_sound : (words : Splitting) (token : Token) (part : Part) (all : Fragments) → role_of token ≡ roles.Assigns → SignedEnds words part all → Began words (assigns_to (reduced 5 part.0 part.1)) (all ++ one token ∷ [])
assigns_sound words token part all is s =
    let (first, middle, parts, h, fits, rest) = reduce_part words 5 part all s in
    (first, middle, token, ends_with all first middle (one token) parts, is, h, fits_ends (reduced 5 part.0 part.1).1 fits, rest)

behind_sound : (words : Splitting) (role : Role) (alone part : Part) (token : Token) (all : Fragments) → role_of token ≡ role → OperandEnds words alone all → SignedEnds words part all → BeganIf words (behind alone part token role) (all ++ one token ∷ [])
behind_sound words (roles.Operator precedence) alone part token all is o s = operates_sound words precedence token part all (rw is refl) s
behind_sound words roles.Minus alone part token all is o s = operates_sound words precedences.Sum token part all (rw is refl) s
behind_sound words roles.Assigns alone part token all is o s = assigns_sound words token part all is s
behind_sound words roles.Dot alone part token all is (first, middle, parts, h, x, rest) s = (first, middle, token, rw parts (simp append_assoc), is, h, rest)
behind_sound words role alone part token all is o s = tt

two_fragments : (first second : SeenFragment) (rest : Fragments) → is_integer (first ∷ second ∷ rest) ≡ false
two_fragments (one token) second rest = refl
two_fragments (group opener inner closer) second rest = refl

longer : (front : Fragments) (first last : SeenFragment) → is_integer (front ++ first ∷ last ∷ []) ≡ false
longer [] first last = two_fragments first last []
longer (x ∷ []) first last = two_fragments x first (last ∷ [])
longer (x ∷ y ∷ front) first last = two_fragments x y (front ++ first ∷ last ∷ [])

member_sound : (words : Splitting) (splitting : Bool) (tree : Tree) (outer : Outer) (token : Token) (all : Fragments) → splits words token ≡ splitting → role_of token ≡ roles.Named → Began words (dotted tree outer) all → BeganIf words (member_if splitting tree outer token) (all ++ one token ∷ [])
member_sound words true tree outer token all plain is s = tt
member_sound words false tree outer token all plain is (first, middle, point, parts, is_dot, h, rest) =
    (first, middle ++ one point ∷ one token ∷ [], rw parts (simp append_assoc), member_operand words tree point token middle (middle ++ one point ∷ one token ∷ []) refl is_dot is plain h, longer middle (one point) (one token), rest)

behind_dot_sound : (words : Splitting) (role : Role) (tree : Tree) (outer : Outer) (token : Token) (all : Fragments) → role_of token ≡ role → Began words (dotted tree outer) all → BeganIf words (behind_dot words tree outer token role) (all ++ one token ∷ [])
behind_dot_sound words roles.Named tree outer token all is s = member_sound words (splits words token) tree outer token all refl is s
behind_dot_sound words role tree outer token all is s = tt

pub token_sound : (words : Splitting) (state : State) (token : Token) (all : Fragments) → Began words state all → BeganIf words (at_token words state token) (all ++ one token ∷ [])
token_sound words (wants outer) token all s = at_operand_sound words (role_of token) outer token all refl s
token_sound words (counted digits outer) token all s = behind_sound words (role_of token) (literal (positive digits), outer) (integer_part digits outer) token all refl (counted_operand words digits outer all s) (counted_signed words digits outer all s)
token_sound words (has tree outer) token all s = behind_sound words (role_of token) (tree, outer) (tree, outer) token all refl (has_operand words tree outer all s) (has_signed words tree outer all s)
token_sound words (dotted tree outer) token all s = behind_dot_sound words (role_of token) tree outer token all refl s

-- the arguments that were read inside of a group
abbrev pub InnerArguments : Option (List Argument) → Fragments → Type 0
InnerArguments None inner = Unit {0}
InnerArguments (Some passed) inner = Derives splittings.Nothing (arguments passed) inner

-- what the tree of a group is
abbrev pub Holds : Bracket → Tree → Token → SeenFragments → Token → Type 0
Holds enclosures.Round tree opener inner closer = Derives splittings.Nothing (expression tree) (row inner)
Holds enclosures.Square tree opener inner closer = Derives splittings.Nothing (expression tree) (row inner)
Holds enclosures.Hidden tree opener inner closer = Derives splittings.Nothing (expression tree) (row inner)
Holds enclosures.Special tree opener inner closer = Unit {0}
Holds _ tree opener inner closer = (words : Splitting) → Derives words (leaf tree) (group opener inner closer ∷ [])

abbrev pub HoldsIf : Bracket → Option Tree → Token → SeenFragments → Token → Type 0
HoldsIf bracket None opener inner closer = Unit {0}
HoldsIf bracket (Some tree) opener inner closer = Holds bracket tree opener inner closer

group_leaf_sound : (words : Splitting) (outer : Outer) (found : Option Tree) (fragment : SeenFragment) (before : Fragments) → is_integer (fragment ∷ []) ≡ false → ((tree : Tree) → found ≡ Some tree → Derives words (leaf tree) (fragment ∷ [])) → Stands words outer before
    → BeganIf words (option_map (in_brackets outer) found) (before ++ fragment ∷ [])
group_leaf_sound words outer None fragment before alone h s = tt
group_leaf_sound words outer (Some tree) fragment before alone h s = leaf_sound words tree outer fragment before (h tree refl) alone s

holds_some : (bracket : Bracket) (found : Option Tree) (opener : Token) (inner : SeenFragments) (closer : Token) → HoldsIf bracket found opener inner closer → (tree : Tree) → found ≡ Some tree → Holds bracket tree opener inner closer
holds_some bracket found opener inner closer h tree e = subst (λ (o : Option Tree). HoldsIf bracket o opener inner closer) e h

group_at_operand_sound : (words : Splitting) (bracket : Bracket) (outer : Outer) (found : Option Tree) (opener : Token) (inner : SeenFragments) (closer : Token) (before : Fragments) → bracket_of opener closer ≡ bracket → HoldsIf bracket found opener inner closer → Stands words outer before
    → BeganIf words (group_at_operand outer bracket found) (before ++ group opener inner closer ∷ [])
group_at_operand_sound words enclosures.Round outer found opener inner closer before is h s =
    group_leaf_sound words outer found (group opener inner closer) before refl (λ tree e. bracket_leaf words tree opener inner closer (rw is tt) (holds_some enclosures.Round found opener inner closer h tree e)) s
group_at_operand_sound words enclosures.Hidden outer found opener inner closer before is h s =
    group_leaf_sound words outer found (group opener inner closer) before refl (λ tree e. bracket_leaf words tree opener inner closer (rw is tt) (holds_some enclosures.Hidden found opener inner closer h tree e)) s
group_at_operand_sound words enclosures.SharpRound outer found opener inner closer before is h s =
    group_leaf_sound words outer found (group opener inner closer) before refl (λ tree e. holds_some enclosures.SharpRound found opener inner closer h tree e words) s
group_at_operand_sound words enclosures.SharpSquare outer found opener inner closer before is h s =
    group_leaf_sound words outer found (group opener inner closer) before refl (λ tree e. holds_some enclosures.SharpSquare found opener inner closer h tree e words) s
group_at_operand_sound words (enclosures.Statement kind) outer found opener inner closer before is h s =
    group_leaf_sound words outer found (group opener inner closer) before refl (λ tree e. holds_some (enclosures.Statement kind) found opener inner closer h tree e words) s
group_at_operand_sound words bracket outer found opener inner closer before is h s = tt

longer_group : (front : Fragments) (opener : Token) (inner : SeenFragments) (closer : Token) → is_integer (front ++ group opener inner closer ∷ []) ≡ false
longer_group [] opener inner closer = refl
longer_group (x ∷ []) opener inner closer = two_fragments x (group opener inner closer) []
longer_group (x ∷ y ∷ front) opener inner closer = two_fragments x y (front ++ group opener inner closer ∷ [])

called_sound : (words : Splitting) (part : Part) (passed : Option (List Argument)) (opener : Token) (inner : SeenFragments) (closer : Token) (all : Fragments) → bracket_of opener closer ≡ enclosures.Round → InnerArguments passed (row inner) → OperandEnds words part all
    → BeganIf words (option_map (called part) passed) (all ++ group opener inner closer ∷ [])
called_sound words part None opener inner closer all is h s = tt
called_sound words part (Some passed) opener inner closer all is h (first, middle, parts, k, x, rest) =
    (first, middle ++ group opener inner closer ∷ [], rw parts (simp append_assoc), call_operand words part.0 passed middle (middle ++ group opener inner closer ∷ []) opener inner closer refl is k h, longer_group middle opener inner closer, rest)

indexed_sound : (words : Splitting) (part : Part) (found : Option Tree) (opener : Token) (inner : SeenFragments) (closer : Token) (all : Fragments) → bracket_of opener closer ≡ enclosures.Square → HoldsIf enclosures.Square found opener inner closer → OperandEnds words part all
    → BeganIf words (option_map (indexed part opener) found) (all ++ group opener inner closer ∷ [])
indexed_sound words part None opener inner closer all is h s = tt
indexed_sound words part (Some index) opener inner closer all is h (first, middle, parts, k, x, rest) =
    (first, middle ++ group opener inner closer ∷ [], rw parts (simp append_assoc), element_operand words part.0 index middle (middle ++ group opener inner closer ∷ []) opener inner closer refl is k h, longer_group middle opener inner closer, rest)

group_behind_sound : (words : Splitting) (bracket : Bracket) (part : Part) (found : Option Tree) (passed : Option (List Argument)) (opener : Token) (inner : SeenFragments) (closer : Token) (all : Fragments)
    → bracket_of opener closer ≡ bracket → HoldsIf bracket found opener inner closer → InnerArguments passed (row inner) → OperandEnds words part all → BeganIf words (group_behind part opener bracket found passed) (all ++ group opener inner closer ∷ [])
group_behind_sound words enclosures.Round part found passed opener inner closer all is h k s = called_sound words part passed opener inner closer all is k s
group_behind_sound words enclosures.Square part found passed opener inner closer all is h k s = indexed_sound words part found opener inner closer all is h s
group_behind_sound words bracket part found passed opener inner closer all is h k s = tt

pub group_sound : (words : Splitting) (state : State) (found : Option Tree) (passed : Option (List Argument)) (opener : Token) (inner : SeenFragments) (closer : Token) (all : Fragments)
    → HoldsIf (bracket_of opener closer) found opener inner closer → InnerArguments passed (row inner) → Began words state all → BeganIf words (at_group state opener (bracket_of opener closer) found passed) (all ++ group opener inner closer ∷ [])
group_sound words (wants outer) found passed opener inner closer all h k s = group_at_operand_sound words (bracket_of opener closer) outer found opener inner closer all refl h s
group_sound words (counted digits outer) found passed opener inner closer all h k s = group_behind_sound words (bracket_of opener closer) (literal (positive digits), outer) found passed opener inner closer all refl h k (counted_operand words digits outer all s)
group_sound words (has tree outer) found passed opener inner closer all h k s = group_behind_sound words (bracket_of opener closer) (tree, outer) found passed opener inner closer all refl h k (has_operand words tree outer all s)
group_sound words (dotted tree outer) found passed opener inner closer all h k s = tt

-- what stands in front of an argument
pub data Front : List Argument → List SeenFragment → Type 0 where
  front_first : Front [] []
  front_next : (passed : List Argument) (before all : List SeenFragment) (separator : Token) → all ≡ before ++ one separator ∷ [] → role_of separator ≡ roles.Comma → Derives splittings.Nothing (some_arguments passed) before → Front passed all

-- what was read of an argument, whatever follows
abbrev pub Partial : Option Token → State → Fragments → Type 0
Partial None state middle = Began splittings.Nothing state middle × ((rest : Fragments) → passes_two (middle ++ rest) ≡ false)
Partial (Some token) state middle =
    (first : SeenFragment) × (more : Fragments) × (middle ≡ one token ∷ first ∷ more) × (role_of token ≡ roles.Symbol) × (begins_value first ≡ true) × Began splittings.Nothing state (first ∷ more)

abbrev pub Passed : Passing → Fragments → Type 0
Passed nothing_passed all = all ≡ []
Passed (passes_next passed) all = Front passed all
Passed (symbol_first passed token) all = (before : Fragments) × (all ≡ before ++ one token ∷ []) × (role_of token ≡ roles.Symbol) × Front passed before
Passed (passing passed token state) all = (before : Fragments) × (middle : Fragments) × (all ≡ before ++ middle) × Partial token state middle × Front passed before

abbrev pub PassedIf : Option Passing → Fragments → Type 0
PassedIf None all = Unit {0}
PassedIf (Some reader) all = Passed reader all

argument_ends : (passed : List Argument) (last : Argument) (before middle : Fragments) → Front passed before → Derives splittings.Nothing (argument last) middle → Derives splittings.Nothing (some_arguments (passed ++ last ∷ [])) (before ++ middle)
argument_ends passed last before middle front_first h = one_argument last middle h
argument_ends passed last before middle (front_next others first all separator parts is k) h = more_arguments passed last separator first middle (before ++ middle) (rw parts (simp append_assoc)) is k h

leaf_expression : (tree : Tree) (fragments : Fragments) → Derives splittings.Nothing (leaf tree) fragments → Derives splittings.Nothing (expression tree) fragments
leaf_expression tree fragments h = level_expression splittings.Nothing tree fragments (raised splittings.Nothing 0 5 tree fragments (omega arith) (signed_level splittings.Nothing tree fragments (operand_signed splittings.Nothing tree fragments (leaf_operand splittings.Nothing tree fragments h))))

partial_ends : (token : Option Token) (state : State) (tree : Tree) (middle : Fragments) → Partial token state middle → tree_of state ≡ Some tree → Derives splittings.Nothing (argument (argument_of token tree)) middle
partial_ends None state tree middle (s, alone) e = value_argument tree middle (subst (λ (fs : Fragments). passes_two fs ≡ false) (append-nil middle) (alone [])) (tree_sound splittings.Nothing state tree middle s e)
partial_ends (Some token) state tree middle (first, more, parts, is, begins, s) e = rw parts (keyword_argument token tree (first ∷ more) is (tree_sound splittings.Nothing state tree (first ∷ more) s e))

tree_or : (state : State) (P : Option Tree → Type 0) → P None → ((tree : Tree) → tree_of state ≡ Some tree → P (Some tree)) → P (tree_of state)
tree_or state P none some = go (tree_of state) refl
  where
    go : (found : Option Tree) → tree_of state ≡ found → P found
    go None e = none
    go (Some tree) e = some tree e

abbrev SomeArguments : Option (List Argument) → Fragments → Type 0
SomeArguments None all = Unit {0}
SomeArguments (Some passed) all = Derives splittings.Nothing (some_arguments passed) all

arguments_in_sound : (reader : Passing) (all : Fragments) → Passed reader all → SomeArguments (arguments_in reader) all
arguments_in_sound nothing_passed all s = tt
arguments_in_sound (passes_next passed) all s = tt
arguments_in_sound (symbol_first passed token) all (before, parts, is, front) =
    rw parts (argument_ends passed (value (literal (literals.Symbol token))) before (one token ∷ []) front
    (value_argument (literal (literals.Symbol token)) (one token ∷ []) refl (leaf_expression (literal (literals.Symbol token)) (one token ∷ []) (symbol_leaf splittings.Nothing token is))))
arguments_in_sound (passing passed token state) all (before, middle, parts, s, front) =
    tree_or state (λ found. SomeArguments (option_map (with_last passed token) found) all) tt
    (λ tree e. rw parts (argument_ends passed (argument_of token tree) before middle front (partial_ends token state tree middle s e)))

some_to_all : (found : Option (List Argument)) (all : Fragments) → SomeArguments found all → InnerArguments found all
some_to_all None all h = tt
some_to_all (Some passed) all h = all_arguments passed all h

arguments_end_sound : (reader : Passing) (all : Fragments) → Passed reader all → InnerArguments (arguments_at_end reader) all
arguments_end_sound nothing_passed all s = rw s no_arguments
arguments_end_sound (passes_next passed) all s = tt
arguments_end_sound (symbol_first passed token) all s = some_to_all (arguments_in (symbol_first passed token)) all (arguments_in_sound (symbol_first passed token) all s)
arguments_end_sound (passing passed token state) all s = some_to_all (arguments_in (passing passed token state)) all (arguments_in_sound (passing passed token state) all s)

-- what follows of the fragment, by itself
abbrev pub Steps : SeenFragment → Item → Type 0
Steps fragment item = (words : Splitting) (state : State) (all : Fragments) → Began words state all → BeganIf words (after_item words state item) (all ++ fragment ∷ [])

passing_some : (passed : List Argument) (token : Option Token) (found : Option State) (before middle : Fragments) → Front passed before → ((state : State) → found ≡ Some state → Partial token state middle) → PassedIf (option_map (passing passed token) found) (before ++ middle)
passing_some passed token None before middle front h = tt
passing_some passed token (Some state) before middle front h = (before, middle, refl, h state refl, front)

began_some : (words : Splitting) (found : Option State) (all : Fragments) → BeganIf words found all → (state : State) → found ≡ Some state → Began words state all
began_some words found all h state e = subst (λ (o : Option State). BeganIf words o all) e h

or_else_is : {A : Type 0} (P : Option A → Type 0) (found others : Option A) → P found → P others → P (or_else found others)
or_else_is P None others h k = k
or_else_is P (Some x) others h k = h

comma_sound : (role : Role) (reader : Passing) (token : Token) (all : Fragments) → role_of token ≡ role → Passed reader all → PassedIf (at_comma role reader) (all ++ one token ∷ [])
comma_sound roles.Comma reader token all is s = go (arguments_in reader) (arguments_in_sound reader all s)
  where
    go : (found : Option (List Argument)) → SomeArguments found all → PassedIf (option_map passes_next found) (all ++ one token ∷ [])
    go None h = tt
    go (Some passed) h = front_next passed all (all ++ one token ∷ []) token refl is h
comma_sound role reader token all is s = tt

separator_sound : (reader : Passing) (fragment : SeenFragment) (all : Fragments) → Passed reader all → PassedIf (at_separator reader fragment) (all ++ fragment ∷ [])
separator_sound reader (one token) all s = comma_sound (role_of token) reader token all refl s
separator_sound reader (group opener inner closer) all s = tt

fresh_sound : (passed : List Argument) (fragment : SeenFragment) (before : Fragments) → Front passed before → PassedIf (fresh passed fragment) (before ++ fragment ∷ [])
fresh_sound passed (group opener inner closer) before front = tt
fresh_sound passed (one token) before front = go (role_of token) refl
  where
    go : (role : Role) → role_of token ≡ role → PassedIf (fresh_role role passed token) (before ++ one token ∷ [])
    go roles.Symbol is = (before, refl, is, front)
    go role is = tt

-- what is no symbol at the front is passed with nothing
no_two : (passed : List Argument) (fragment : SeenFragment) (rest : Fragments) → fresh passed fragment ≡ None → passes_two (fragment ∷ rest) ≡ false
no_two passed (group opener inner closer) rest e = refl
no_two passed (one token) [] e = refl
no_two passed (one token) (second ∷ rest) e = go (role_of token) e
  where
    go : (role : Role) → fresh_role role passed token ≡ None → (is_symbol role && begins_value second) ≡ false
    go roles.Symbol f = absurd cc
    go role f = refl

fresh_step : (passed : List Argument) (fragment : SeenFragment) (item : Item) (before : Fragments) → Front passed before → Steps fragment item → PassedIf (or_else (fresh passed fragment) (in_value passed None (wants whole) item)) (before ++ fragment ∷ [])
fresh_step passed fragment item before front going = go (fresh passed fragment) refl (fresh_sound passed fragment before front)
  where
    go : (found : Option Passing) → fresh passed fragment ≡ found → PassedIf found (before ++ fragment ∷ []) → PassedIf (or_else found (in_value passed None (wants whole) item)) (before ++ fragment ∷ [])
    go (Some reader) e h = h
    go None e h =
        passing_some passed None (after_item splittings.Nothing (wants whole) item) before (fragment ∷ []) front
        (λ state f. (began_some splittings.Nothing (after_item splittings.Nothing (wants whole) item) (fragment ∷ []) (going splittings.Nothing (wants whole) [] refl) state f, (λ rest. no_two passed fragment rest e)))

symbol_step : (begins : Bool) (passed : List Argument) (token : Token) (fragment : SeenFragment) (item : Item) (all : Fragments) → begins_value fragment ≡ begins → Passed (symbol_first passed token) all → Steps fragment item
    → PassedIf (by_symbol begins passed token fragment item) (all ++ fragment ∷ [])
symbol_step true passed token fragment item all e (before, parts, is, front) going =
    subst (PassedIf (in_value passed (Some token) (wants whole) item)) (joined before all token fragment parts)
    (passing_some passed (Some token) (after_item splittings.Nothing (wants whole) item) before (one token ∷ fragment ∷ []) front
    (λ state f. (fragment, [], refl, is, e, began_some splittings.Nothing (after_item splittings.Nothing (wants whole) item) (fragment ∷ []) (going splittings.Nothing (wants whole) [] refl) state f)))
  where
    joined : (before all : Fragments) (token : Token) (fragment : SeenFragment) → all ≡ before ++ one token ∷ [] → before ++ one token ∷ fragment ∷ [] ≡ all ++ fragment ∷ []
    joined before all token fragment parts = rw parts (simp append_assoc)
symbol_step false passed token fragment item all e (before, parts, is, front) going =
    or_else_is (λ found. PassedIf found (all ++ fragment ∷ [])) (in_value passed None (has (literal (literals.Symbol token)) whole) item) (at_separator (symbol_first passed token) fragment)
    (subst (PassedIf (in_value passed None (has (literal (literals.Symbol token)) whole) item)) (joined before all token fragment parts)
    (passing_some passed None (after_item splittings.Nothing (has (literal (literals.Symbol token)) whole) item) before (one token ∷ fragment ∷ []) front
    (λ state f. (began_some splittings.Nothing (after_item splittings.Nothing (has (literal (literals.Symbol token)) whole) item) (one token ∷ fragment ∷ []) (going splittings.Nothing (has (literal (literals.Symbol token)) whole) (one token ∷ []) (symbol_begins token is)) state f, (λ rest. two token is rest)))))
    (separator_sound (symbol_first passed token) fragment all (before, parts, is, front))
  where
    joined : (before all : Fragments) (token : Token) (fragment : SeenFragment) → all ≡ before ++ one token ∷ [] → before ++ one token ∷ fragment ∷ [] ≡ all ++ fragment ∷ []
    joined before all token fragment parts = rw parts (simp append_assoc)

    symbol_begins : (token : Token) → role_of token ≡ roles.Symbol → Began splittings.Nothing (has (literal (literals.Symbol token)) whole) (one token ∷ [])
    symbol_begins token is = leaf_sound splittings.Nothing (literal (literals.Symbol token)) whole (one token) [] (symbol_leaf splittings.Nothing token is) (rw is refl) refl

    two : (token : Token) → role_of token ≡ roles.Symbol → (rest : Fragments) → passes_two (one token ∷ fragment ∷ rest) ≡ false
    two token is rest = rw (is, e) refl

value_step : (passed : List Argument) (token : Option Token) (state : State) (fragment : SeenFragment) (item : Item) (before middle : Fragments) → Front passed before → Partial token state middle → Steps fragment item
    → PassedIf (in_value passed token state item) (before ++ (middle ++ fragment ∷ []))
value_step passed None state fragment item before middle front (s, alone) going =
    passing_some passed None (after_item splittings.Nothing state item) before (middle ++ fragment ∷ []) front
    (λ next f. (began_some splittings.Nothing (after_item splittings.Nothing state item) (middle ++ fragment ∷ []) (going splittings.Nothing state middle s) next f, (λ rest. ap passes_two (append_assoc middle (fragment ∷ []) rest) ∙ alone (fragment ∷ rest))))
value_step passed (Some token) state fragment item before middle front (first, more, parts, is, begins, s) going =
    passing_some passed (Some token) (after_item splittings.Nothing state item) before (middle ++ fragment ∷ []) front
    (λ next f. (first, more ++ fragment ∷ [], rw parts refl, is, begins, began_some splittings.Nothing (after_item splittings.Nothing state item) (first ∷ more ++ fragment ∷ []) (going splittings.Nothing state (first ∷ more) s) next f))

argument_step : (reader : Passing) (fragment : SeenFragment) (item : Item) (all : Fragments) → Passed reader all → Steps fragment item → PassedIf (after_argument reader fragment item) (all ++ fragment ∷ [])
argument_step nothing_passed fragment item all s going = rw s (fresh_step [] fragment item [] front_first going)
argument_step (passes_next passed) fragment item all s going = fresh_step passed fragment item all s going
argument_step (symbol_first passed token) fragment item all s going = symbol_step (begins_value fragment) passed token fragment item all refl s going
argument_step (passing passed token state) fragment item all (before, middle, parts, s, front) going =
    or_else_is (λ found. PassedIf found (all ++ fragment ∷ [])) (in_value passed token state item) (at_separator (passing passed token state) fragment)
    (subst (PassedIf (in_value passed token state item)) (joined before middle all fragment parts) (value_step passed token state fragment item before middle front s going))
    (separator_sound (passing passed token state) fragment all (before, middle, parts, s, front))
  where
    joined : (before middle all : Fragments) (fragment : SeenFragment) → all ≡ before ++ middle → before ++ (middle ++ fragment ∷ []) ≡ all ++ fragment ∷ []
    joined before middle all fragment parts = rw parts (simp append_assoc)

-- the class and the bounds of a limited type
abbrev pub LimitsAre : Limits → Fragments → Type 0
LimitsAre limits fragments = (after : Fragments) × (fragments ≡ one limits.class ∷ after) × (role_of limits.class ≡ roles.Named) × (is_spelled (codes "<integer>") limits.class ≡ true) × AreBounds limits.bounds after × (each_once limits.bounds ≡ true)

-- a name, and behind it a method
abbrev pub NamedIs : NamedFound → Fragments → Type 0
NamedIs named_method fragments = (after : Fragments) × (fragments ≡ one named_method.token ∷ after) × (role_of named_method.token ≡ roles.Named) × Derives splittings.Nothing (signature named_method.method.found named_method.method.results named_method.method.trees) after

-- what was read inside of a group, in each way
pub record InsideSound (inner : List SeenFragment) (found : Found) : Type 0 where
  pub types_are : (types : List TypeTree) → found.types ≡ Some types → IsType (some_types types) inner
  pub limits_are : (limits : Limits) → found.limits ≡ Some limits → LimitsAre limits inner
  pub bound_are : (bound : Ending VariableTree Token) → found.bound ≡ Some bound → Bind bound.parts bound.last inner
  pub given_are : (given : Ending VariableTree VariableTree) → found.given ≡ Some given → Give given.parts given.last inner
  pub listed_is : (entries : Listed) → found.listed ≡ Some entries → Derives splittings.Nothing (brackets entries) inner
  pub method_is : (method : MethodFound) → found.method ≡ Some method → Derives splittings.Nothing (signature method.found method.results method.trees) inner
  pub named_is : (method : NamedFound) → found.named_method ≡ Some method → NamedIs method inner
  pub caught_is : (caught : Caught) → found.caught ≡ Some caught → Catches caught.variable caught.condition inner
  pub clauses_are : (clauses : Ending ForClause StopTree) → found.clauses ≡ Some clauses → Derives splittings.Steps (for_head clauses.parts clauses.last) inner
  pub head_is : (found_head : Head) → found.head ≡ Some found_head → Derives splittings.Tests (head found_head.selected found_head.test) inner

abbrev pub GroupSound : SeenFragment → Found → Type 0
GroupSound (one token) found = Unit {0}
GroupSound (group opener inner closer) found = HoldsIf (bracket_of opener closer) found.tree opener inner closer × InsideSound (row inner) found

pub record ItemSound (item : Item) : Type 0 where
  pub steps : Steps item.fragment item
  pub group_is : GroupSound item.fragment item.found

abbrev pub ItemsSound : List Item → Type 0
ItemsSound [] = Unit {0}
ItemsSound (item ∷ rest) = ItemSound item × ItemsSound rest

state_goes : (words : Splitting) (found : Option State) (first : SeenFragment) (rest : List Item) (all : Fragments) → BeganIf words found (all ++ first ∷ [])
    → ((state : State) (front : Fragments) → Began words state front → BeganIf words (after_all words state rest) (front ++ fragments_in rest))
    → BeganIf words (option_and_then (λ (s : State). after_all words s rest) found) (all ++ first ∷ fragments_in rest)
state_goes words None first rest all h more = tt
state_goes words (Some state) first rest all h more = subst (BeganIf words (after_all words state rest)) (append_assoc all (first ∷ []) (fragments_in rest)) (more state (all ++ first ∷ []) h)

passing_goes : (found : Option Passing) (first : SeenFragment) (rest : List Item) (all : Fragments) → PassedIf found (all ++ first ∷ [])
    → ((reader : Passing) (front : Fragments) → Passed reader front → PassedIf (after_passing reader rest) (front ++ fragments_in rest))
    → PassedIf (option_and_then (λ (r : Passing). after_passing r rest) found) (all ++ first ∷ fragments_in rest)
passing_goes None first rest all h more = tt
passing_goes (Some reader) first rest all h more = subst (PassedIf (after_passing reader rest)) (append_assoc all (first ∷ []) (fragments_in rest)) (more reader (all ++ first ∷ []) h)

all_sound : (items : List Item) → ItemsSound items → (words : Splitting) (state : State) (all : Fragments) → Began words state all → BeganIf words (after_all words state items) (all ++ fragments_in items)
all_sound [] h words state all s = rw append-nil s
all_sound (item ∷ rest) h words state all s = state_goes words (after_item words state item) item.fragment rest all (h.0.steps words state all s) (λ next front. all_sound rest h.1 words next front)

passing_sound : (items : List Item) → ItemsSound items → (reader : Passing) (all : Fragments) → Passed reader all → PassedIf (after_passing reader items) (all ++ fragments_in items)
passing_sound [] h reader all s = rw append-nil s
passing_sound (item ∷ rest) h reader all s = passing_goes (after_argument reader item.fragment item) item.fragment rest all (argument_step reader item.fragment item all s h.0.steps) (λ next front. passing_sound rest h.1 next front)

tree_derived : (words : Splitting) (found : Option State) (tree : Tree) (fragments : Fragments) → BeganIf words found fragments → option_and_then tree_of found ≡ Some tree → Derives words (expression tree) fragments
tree_derived words None tree fragments h e = absurd cc
tree_derived words (Some state) tree fragments h e = tree_sound words state tree fragments h e

pub expression_sound : (words : Splitting) (items : List Item) (tree : Tree) → ItemsSound items → expression_items words items ≡ Some tree → Derives words (expression tree) (fragments_in items)
expression_sound words items tree h e = tree_derived words (after_all words (wants whole) items) tree (fragments_in items) (all_sound items h words (wants whole) [] refl) e

found_arguments : (found : Option Passing) (inner : Fragments) → PassedIf found inner → InnerArguments (option_and_then arguments_at_end found) inner
found_arguments None inner h = tt
found_arguments (Some reader) inner h = arguments_end_sound reader inner h

pub passed_sound : (items : List Item) → ItemsSound items → InnerArguments (passed_items items) (fragments_in items)
passed_sound items h = found_arguments (after_passing nothing_passed items) (fragments_in items) (passing_sound items h nothing_passed [] refl)
