-- Which expressions, statements and bodies fragments stand for (DRM, appendix A): one case for each
-- production. expression = level5 [ ":=" expression ]
--     level5     = level4 { ("&" | "|") level4 }
--     level4     = level3 { ("=" | "==" | "<" | ">" | "<=" | ">=" | "~=" | "~==") level3 }
--     level3     = level2 { ("+" | "-") level2 }
--     level2     = level1 { ("*" | "/") level1 }
--     level1     = unary { "^" unary }
--     unary      = { "-" | "~" } operand
--     operand    = leaf { "(" arguments ")" | "[" expression "]" | "." NAME }
--     arguments  = [ argument { "," argument } ]
--     argument   = SYMBOL expression | expression       (the first where all behind the SYMBOL is
--     an expression) leaf       = INT | CHAR | STRING | BOOL | SYMBOL | NAME | list | vector | "("
--     expression ")" | statement statement  = "begin" body "end" | ("unless" | "while" | "until")
--     "(" expression ")" body "end" | "if" "(" expression ")" body { "elseif" "(" expression ")"
--     body } [ "else" body ] "end" | "case" arms "end" | "select" "(" expression [ "by" expression
--     ] ")" arms "end" | "block" "(" [ NAME ] ")" body { ("afterwards" | "cleanup" | "exception"
--     "(" [ NAME "::" ] type ")") body } "end" | "for" "(" [ clauses ] ")" body [ "finally" body ]
--     "end" | "method" signature "end" clauses    = clause [ "," clauses ] | (while: | until:)
--     expression clause     = var "=" expression "then" expression | var "in" expression
--                | var "from" expression [ ("to" | "above" | "below") expression ] [ "by"
--                expression ] signature  = "(" [ listed ] ")" [ "=>" results ] [ ";" ] body
--     listed     = required [ "," listed ] | "#next" NAME [ "," listed ] | "#rest" NAME [ ","
--     listed ] | "#key" [ key { "," key } ] [ "," "#all-keys" ]      (each part once at most, and
--     in this order) key        = [ SYMBOL ] var [ "=" expression ]
--     lmethod    = "method" NAME signature "end"
--     arms       = [ choices [ ";" ] ]
--     choices    = expression { "," expression } "=>" items [ ";" choices ] | "otherwise" [ "=>" ]
--     items      (in a case one expression) items      = [ item { ";" item } ]
--     body       = [ item { ";" item } ] [ ";" ]
--     item       = "let" target "=" expression | "let" "handler" type "=" expression | "local"
--     lmethod { "," lmethod } | expression All levels are left associative. A minus whose operand
--     is one INT token gives a negative literal. An expression that a macro put in stands in hidden
--     brackets.
use Rattle.std.specs.Prelude.{◌≡◌, ℕ, suc, Bool, true, false, List, [], ◌∷◌, ◌++◌, Some, None}
use Rattle.std.specs.Prelude.{Option, not, ◌&&◌, ◌||◌, codes}
use Rattle.dy_tree.specs.declared.token.Token.{Token}
use Rattle.dy_tree.specs.declared.types.LiteralForm.TheVariants as literals
use Rattle.dy_tree.specs.Fragments.{SeenFragment, one, group, SeenFragments, row}
use Rattle.dy_rules.specs.Operators.{below}
use Rattle.dy_rules.specs.ConstantTrees.{Constant, constants_of, tail_of}
use Rattle.dy_rules.specs.Trees.{Tree, assignment, operation, unary, call, element, member, literal}
use Rattle.dy_rules.specs.Trees.{name, Argument, keyword, value, arguments_of, list, vector}
use Rattle.dy_rules.specs.Trees.{begin_tree, if_tree, guarded, ItemTree, let_item, handler_item}
use Rattle.dy_rules.specs.Trees.{expression_item, body_of, Alternative, alternative}
use Rattle.dy_rules.specs.Trees.{alternatives_of, Otherwise, no_otherwise, otherwise, case_tree}
use Rattle.dy_rules.specs.Trees.{select_tree, maybe_of, Arm, arm, arms_of, tests_of, block_tree}
use Rattle.dy_rules.specs.Trees.{for_tree, BlockClause, afterwards_clause, cleanup_clause}
use Rattle.dy_rules.specs.Trees.{exception_clause, block_clauses_of, ForClause, then_clause}
use Rattle.dy_rules.specs.Trees.{in_clause, from_clause, for_clauses_of, MaybeLimit, no_limit}
use Rattle.dy_rules.specs.Trees.{a_limit, MaybeTree, no_tree, some_tree, StopTree, stop_of}
use Rattle.dy_rules.specs.Trees.{method_tree, Key, a_key, KeysTree, Listed, parameters_of}
use Rattle.dy_rules.specs.Trees.{LocalMethod, local_method, methods_of, local_item}
use Rattle.dy_rules.specs.Constants.{IsConstant, in_list, in_vector}
use Rattle.dy_rules.specs.Roles.{role_of, precedence_of, splits, bracket_of, positive, negative}
use Rattle.dy_rules.specs.Roles.{splitter_of}
use Rattle.dy_rules.specs.Types.{is_equals, TypeTree, a_type, IsType, binds_plainly, TargetTree}
use Rattle.dy_rules.specs.Types.{IsTarget, VariableTree, IsVariable, RequiredTree, IsRequired}
use Rattle.dy_rules.specs.Types.{ResultTree, apart, ResultsPart, EndPart, part_word}
use Rattle.dy_rules.specs.Arguments.{passes_two}
use Rattle.std.specs.List.{list_any}
use Rattle.dy_tree.specs.declared.roles.Role.{Role}
use Rattle.dy_tree.specs.declared.roles.Role.TheVariants as roles
use Rattle.dy_tree.specs.declared.roles.Precedence.{Precedence}
use Rattle.dy_tree.specs.declared.brackets.Guard.{Guard}
use Rattle.dy_tree.specs.declared.brackets.Keyword.TheVariants as keywords
use Rattle.dy_tree.specs.declared.brackets.Bracket.{Bracket}
use Rattle.dy_tree.specs.declared.brackets.Bracket.TheVariants as enclosures
use Rattle.dy_tree.specs.declared.splitters.Splitting.{Splitting}
use Rattle.dy_tree.specs.declared.splitters.Splitting.TheVariants as splittings
use Rattle.dy_tree.specs.declared.splitters.Splitter.{Splitter}
use Rattle.dy_tree.specs.declared.splitters.Splitter.TheVariants as splitters
use Rattle.dy_tree.specs.declared.type_words.PartWord.TheVariants as part_words
use Rattle.dy_tree.specs.Spelling.{is_spelled}

-- brackets round an expression
abbrev pub Brackets : Bracket → Type 0
Brackets enclosures.Round = Unit {0}
Brackets enclosures.Hidden = Unit {0}
Brackets _ = ⊥

abbrev pub is_integer_role : Role → Bool
is_integer_role roles.Integer = true
is_integer_role _ = false

-- one INT token
abbrev pub is_integer : List SeenFragment → Bool
is_integer (one token ∷ []) = is_integer_role (role_of token)
is_integer _ = false

-- the nonterminals, each with what it stands for
pub data Sort : Type 0 where
  leaf : (tree : Tree) → Sort
  operand : (tree : Tree) → Sort
  signed : (tree : Tree) → Sort
  level : (height : ℕ) (tree : Tree) → Sort
  expression : (tree : Tree) → Sort
  argument : (passed : Argument) → Sort
  some_arguments : (passed : List Argument) → Sort
  arguments : (passed : List Argument) → Sort
  an_item : (tree : ItemTree) → Sort
  some_items : (trees : List ItemTree) → Sort
  a_body : (trees : List ItemTree) → Sort
  alternatives : (trees : List Alternative) (last : Otherwise) → Sort
  some_tests : (trees : List Tree) → Sort
  -- items, or none
  open_body : (trees : List ItemTree) → Sort
  choices : (single : Bool) (trees : List Arm) (last : Otherwise) → Sort
  arms : (single : Bool) (trees : List Arm) (last : Otherwise) → Sort
  head : (selected : Tree) (test : Option Tree) → Sort
  initial : (tree : MaybeTree) → Sort
  key : (tree : Key) → Sort
  -- what follows `#key` or a key
  more_keys : (trees : List Key) (takes_all : Bool) → Sort
  listed : (found : Listed) → Sort
  brackets : (found : Listed) → Sort
  signature : (found : Listed) (results : Option ResultTree) (trees : List ItemTree) → Sort
  local_methods : (trees : List LocalMethod) → Sort
  block_clauses : (trees : List BlockClause) → Sort
  for_clause : (tree : ForClause) → Sort
  -- what follows the start of a clause with `from`
  range : (limit : MaybeLimit) (step : MaybeTree) → Sort
  for_clauses : (trees : List ForClause) (stop : Option StopTree) → Sort
  for_head : (trees : List ForClause) (stop : Option StopTree) → Sort
  ending_part : (last : Otherwise) → Sort

-- An arm of a case has one test.
abbrev pub suits : Bool → List Tree → Bool
suits true (tree ∷ []) = true
suits true _ = false
suits false trees = true

abbrev pub list_of : List RequiredTree → Option Token → Option Token → Option KeysTree → Listed
list_of required next rest keys =
    record { required = required; next = next; rest = rest; keys = keys }

abbrev pub keys_found : List Key → Bool → Option KeysTree
keys_found keys takes_all = Some (record { keys = keys; takes_all = takes_all })

-- the name of an exit procedure, or nothing
pub data IsExit : Option Token → List SeenFragment → Type 0 where
  no_exit : IsExit None []
  an_exit : (token : Token) → role_of token ≡ roles.Named → IsExit (Some token) (one token ∷ [])

-- the condition that a clause catches
pub data Catches : Option Token → TypeTree → List SeenFragment → Type 0 where
  without_variable : (condition : TypeTree) (fragments : List SeenFragment)
      → IsType (a_type condition) fragments → Catches None condition fragments
  with_variable : (token sign : Token) (condition : TypeTree) (after : List SeenFragment)
      → role_of token ≡ roles.Named → role_of sign ≡ roles.Colons
      → IsType (a_type condition) after
      → Catches (Some token) condition (one token ∷ one sign ∷ after)

abbrev pub is_afterwards : BlockClause → Bool
is_afterwards (afterwards_clause trees) = true
is_afterwards _ = false

abbrev pub is_cleanup : BlockClause → Bool
is_cleanup (cleanup_clause trees) = true
is_cleanup _ = false

-- A block has one `afterwards` and one `cleanup` at most.
abbrev pub suit_block : List BlockClause → Bool
suit_block [] = true
suit_block (afterwards_clause trees ∷ rest) = not (list_any is_afterwards rest) && suit_block rest
suit_block (cleanup_clause trees ∷ rest) = not (list_any is_cleanup rest) && suit_block rest
suit_block (exception_clause variable condition trees ∷ rest) = suit_block rest

abbrev pub is_symbol_role : Role → Bool
is_symbol_role roles.Symbol = true
is_symbol_role _ = false

-- `while:` or `until:`
abbrev pub is_stop_word : Token → Bool
is_stop_word token = is_symbol_role (role_of token)
    && (is_spelled (codes "while") token || is_spelled (codes "until") token)

abbrev pub is_limit_word : Splitter → Bool
is_limit_word splitters.To = true
is_limit_word splitters.Above = true
is_limit_word splitters.Below = true
is_limit_word _ = false

-- The fragments, in which these words split, are derived from the nonterminal.
pub data Derives : Splitting → Sort → List SeenFragment → Type 0 where
  integer_leaf : (words : Splitting) (token : Token) → role_of token ≡ roles.Integer
      → Derives words (leaf (literal (positive token))) (one token ∷ [])
  character_leaf : (words : Splitting) (token : Token) → role_of token ≡ roles.Character
      → Derives words (leaf (literal (literals.Char token))) (one token ∷ [])
  string_leaf : (words : Splitting) (token : Token) → role_of token ≡ roles.Text
      → Derives words (leaf (literal (literals.Str token))) (one token ∷ [])
  boolean_leaf : (words : Splitting) (token : Token) → role_of token ≡ roles.Boolean
      → Derives words (leaf (literal (literals.Bool token))) (one token ∷ [])
  symbol_leaf : (words : Splitting) (token : Token) → role_of token ≡ roles.Symbol
      → Derives words (leaf (literal (literals.Symbol token))) (one token ∷ [])
  name_leaf : (words : Splitting) (token : Token) → role_of token ≡ roles.Named
      → splits words token ≡ false → Derives words (leaf (name token)) (one token ∷ [])
  list_leaf : (words : Splitting) (items : List Constant) (last : Option Constant) (opener : Token)
      (inner : SeenFragments) (closer : Token) → bracket_of opener closer ≡ enclosures.SharpRound
      → IsConstant (in_list items last) (row inner)
      → Derives words (leaf (list opener (constants_of items) (tail_of last)))
      (group opener inner closer ∷ [])
  vector_leaf : (words : Splitting) (items : List Constant) (opener : Token) (inner : SeenFragments)
      (closer : Token) → bracket_of opener closer ≡ enclosures.SharpSquare
      → IsConstant (in_vector items) (row inner)
      → Derives words (leaf (vector opener (constants_of items)))
      (group opener inner closer ∷ [])
  bracket_leaf : (words : Splitting) (tree : Tree) (opener : Token) (inner : SeenFragments)
      (closer : Token) → Brackets (bracket_of opener closer)
      → Derives splittings.Nothing (expression tree) (row inner)
      → Derives words (leaf tree) (group opener inner closer ∷ [])
  begin_leaf : (words : Splitting) (trees : List ItemTree) (opener : Token) (inner : SeenFragments)
      (closer : Token) → bracket_of opener closer ≡ enclosures.Statement keywords.Begin
      → Derives splittings.Nothing (a_body trees) (row inner)
      → Derives words (leaf (begin_tree opener (body_of trees)))
      (group opener inner closer ∷ [])
  guarded_leaf : (words : Splitting) (guard : Guard) (test : Tree) (trees : List ItemTree)
      (opener : Token) (inner : SeenFragments) (closer left : Token) (tested : SeenFragments)
      (right : Token) (after : List SeenFragment)
      → bracket_of opener closer ≡ enclosures.Statement (keywords.Guard guard)
      → row inner ≡ group left tested right ∷ after → bracket_of left right ≡ enclosures.Round
      → Derives splittings.Nothing (expression test) (row tested)
      → Derives splittings.Nothing (a_body trees) after
      → Derives words (leaf (guarded guard opener test (body_of trees)))
      (group opener inner closer ∷ [])
  if_leaf : (words : Splitting) (test : Tree) (trees : List ItemTree) (others : List Alternative)
      (last : Otherwise) (opener : Token) (inner : SeenFragments) (closer left : Token)
      (tested : SeenFragments) (right : Token) (first second : List SeenFragment)
      → bracket_of opener closer ≡ enclosures.Statement keywords.If
      → row inner ≡ group left tested right ∷ (first ++ second)
      → bracket_of left right ≡ enclosures.Round
      → Derives splittings.Nothing (expression test) (row tested)
      → Derives splittings.Branches (a_body trees) first
      → Derives splittings.Branches (alternatives others last) second
      → Derives words (leaf (if_tree opener test (body_of trees) (alternatives_of others) last))
      (group opener inner closer ∷ [])
  case_leaf : (words : Splitting) (trees : List Arm) (last : Otherwise) (opener : Token)
      (inner : SeenFragments) (closer : Token)
      → bracket_of opener closer ≡ enclosures.Statement keywords.Case
      → Derives splittings.Nothing (arms true trees last) (row inner)
      → Derives words (leaf (case_tree opener (arms_of trees) last))
      (group opener inner closer ∷ [])
  select_leaf : (words : Splitting) (selected : Tree) (test : Option Tree) (trees : List Arm)
      (last : Otherwise) (opener : Token) (inner : SeenFragments) (closer left : Token)
      (within : SeenFragments) (right : Token) (after : List SeenFragment)
      → bracket_of opener closer ≡ enclosures.Statement keywords.Select
      → row inner ≡ group left within right ∷ after → bracket_of left right ≡ enclosures.Round
      → Derives splittings.Tests (head selected test) (row within)
      → Derives splittings.Nothing (arms false trees last) after
      → Derives words (leaf (select_tree opener selected (maybe_of test) (arms_of trees) last))
      (group opener inner closer ∷ [])
  block_leaf : (words : Splitting) (exit : Option Token) (trees : List ItemTree)
      (clauses : List BlockClause) (opener : Token) (inner : SeenFragments) (closer left : Token)
      (within : SeenFragments) (right : Token) (first second : List SeenFragment)
      → bracket_of opener closer ≡ enclosures.Statement keywords.Block
      → row inner ≡ group left within right ∷ (first ++ second)
      → bracket_of left right ≡ enclosures.Round → IsExit exit (row within)
      → suit_block clauses ≡ true
      → Derives splittings.Endings (a_body trees) first
      → Derives splittings.Endings (block_clauses clauses) second
      → Derives words (leaf (block_tree opener exit (body_of trees) (block_clauses_of clauses)))
      (group opener inner closer ∷ [])
  for_leaf : (words : Splitting) (clauses : List ForClause) (stop : Option StopTree)
      (trees : List ItemTree) (last : Otherwise) (opener : Token) (inner : SeenFragments)
      (closer left : Token) (within : SeenFragments) (right : Token)
      (first second : List SeenFragment)
      → bracket_of opener closer ≡ enclosures.Statement keywords.For
      → row inner ≡ group left within right ∷ (first ++ second)
      → bracket_of left right ≡ enclosures.Round
      → Derives splittings.Steps (for_head clauses stop) (row within)
      → Derives splittings.LastPart (a_body trees) first
      → Derives splittings.LastPart (ending_part last) second
      → Derives words (leaf (for_tree opener (for_clauses_of clauses) (stop_of stop)
      (body_of trees) last)) (group opener inner closer ∷ [])
  method_leaf : (words : Splitting) (found : Listed) (results : Option ResultTree)
      (trees : List ItemTree) (opener : Token) (inner : SeenFragments) (closer : Token)
      → bracket_of opener closer ≡ enclosures.Statement keywords.Method
      → Derives splittings.Nothing (signature found results trees) (row inner)
      → Derives words (leaf (method_tree opener (parameters_of found results) (body_of trees)))
      (group opener inner closer ∷ [])
  leaf_operand : (words : Splitting) (tree : Tree) (fragments : List SeenFragment)
      → Derives words (leaf tree) fragments → Derives words (operand tree) fragments
  call_operand : (words : Splitting) (function : Tree) (passed : List Argument)
      (before all : List SeenFragment) (opener : Token) (inner : SeenFragments) (closer : Token)
      → all ≡ before ++ group opener inner closer ∷ [] → bracket_of opener closer ≡ enclosures.Round
      → Derives words (operand function) before
      → Derives splittings.Nothing (arguments passed) (row inner)
      → Derives words (operand (call function (arguments_of passed))) all
  element_operand : (words : Splitting) (object index : Tree) (before all : List SeenFragment)
      (opener : Token) (inner : SeenFragments) (closer : Token)
      → all ≡ before ++ group opener inner closer ∷ []
      → bracket_of opener closer ≡ enclosures.Square
      → Derives words (operand object) before
      → Derives splittings.Nothing (expression index) (row inner)
      → Derives words (operand (element object opener index)) all
  member_operand : (words : Splitting) (object : Tree) (point token : Token)
      (before all : List SeenFragment)
      → all ≡ before ++ one point ∷ one token ∷ [] → role_of point ≡ roles.Dot
      → role_of token ≡ roles.Named → splits words token ≡ false
      → Derives words (operand object) before → Derives words (operand (member object token)) all
  operand_signed : (words : Splitting) (tree : Tree) (fragments : List SeenFragment)
      → Derives words (operand tree) fragments → Derives words (signed tree) fragments
  negative_signed : (words : Splitting) (sign digits : Token) → role_of sign ≡ roles.Minus
      → role_of digits ≡ roles.Integer
      → Derives words (signed (literal (negative sign digits))) (one sign ∷ one digits ∷ [])
  minus_signed : (words : Splitting) (sign : Token) (tree : Tree) (after : List SeenFragment)
      → role_of sign ≡ roles.Minus → is_integer after ≡ false
      → Derives words (signed tree) after
      → Derives words (signed (unary sign tree)) (one sign ∷ after)
  tilde_signed : (words : Splitting) (sign : Token) (tree : Tree) (after : List SeenFragment)
      → role_of sign ≡ roles.Tilde
      → Derives words (signed tree) after
      → Derives words (signed (unary sign tree)) (one sign ∷ after)
  signed_level : (words : Splitting) (tree : Tree) (fragments : List SeenFragment)
      → Derives words (signed tree) fragments → Derives words (level 0 tree) fragments
  up_level : (words : Splitting) (height : ℕ) (tree : Tree) (fragments : List SeenFragment)
      → Derives words (level height tree) fragments
      → Derives words (level (suc height) tree) fragments
  operation_level : (words : Splitting) (precedence : Precedence) (left right : Tree) (sign : Token)
      (before after all : List SeenFragment)
      → all ≡ before ++ one sign ∷ after → precedence_of (role_of sign) ≡ Some precedence
      → Derives words (level (suc (below precedence)) left) before
      → Derives words (level (below precedence) right) after
      → Derives words (level (suc (below precedence)) (operation precedence left sign right)) all
  level_expression : (words : Splitting) (tree : Tree) (fragments : List SeenFragment)
      → Derives words (level 5 tree) fragments → Derives words (expression tree) fragments
  assignment_expression : (words : Splitting) (place assigned : Tree) (sign : Token)
      (before after all : List SeenFragment) → all ≡ before ++ one sign ∷ after
      → role_of sign ≡ roles.Assigns
      → Derives words (level 5 place) before → Derives words (expression assigned) after
      → Derives words (expression (assignment place assigned)) all
  keyword_argument : (token : Token) (tree : Tree) (after : List SeenFragment)
      → role_of token ≡ roles.Symbol → Derives splittings.Nothing (expression tree) after
      → Derives splittings.Nothing (argument (keyword token tree)) (one token ∷ after)
  value_argument : (tree : Tree) (fragments : List SeenFragment) → passes_two fragments ≡ false
      → Derives splittings.Nothing (expression tree) fragments
      → Derives splittings.Nothing (argument (value tree)) fragments
  one_argument : (passed : Argument) (fragments : List SeenFragment)
      → Derives splittings.Nothing (argument passed) fragments
      → Derives splittings.Nothing (some_arguments (passed ∷ [])) fragments
  more_arguments : (passed : List Argument) (last : Argument) (separator : Token)
      (before after all : List SeenFragment)
      → all ≡ before ++ one separator ∷ after → role_of separator ≡ roles.Comma
      → Derives splittings.Nothing (some_arguments passed) before
      → Derives splittings.Nothing (argument last) after
      → Derives splittings.Nothing (some_arguments (passed ++ last ∷ [])) all
  no_arguments : Derives splittings.Nothing (arguments []) []
  all_arguments : (passed : List Argument) (fragments : List SeenFragment)
      → Derives splittings.Nothing (some_arguments passed) fragments
      → Derives splittings.Nothing (arguments passed) fragments
  by_expression : (words : Splitting) (tree : Tree) (fragments : List SeenFragment)
      → Derives words (expression tree) fragments
      → Derives words (an_item (expression_item tree)) fragments
  by_let : (words : Splitting) (word equals : Token) (target : TargetTree) (assigned : Tree)
      (before after all : List SeenFragment) → all ≡ one word ∷ (before ++ one equals ∷ after)
      → role_of word ≡ roles.Lets → is_equals equals ≡ true
      → IsTarget target before → binds_plainly words before ≡ true
      → Derives words (expression assigned) after
      → Derives words (an_item (let_item word target assigned)) all
  by_handler : (words : Splitting) (word second equals : Token) (condition : TypeTree)
      (handler : Tree) (before after all : List SeenFragment)
      → all ≡ one word ∷ one second ∷ (before ++ one equals ∷ after) → role_of word ≡ roles.Lets
      → role_of second ≡ roles.Handlers → is_equals equals ≡ true
      → IsType (a_type condition) before → binds_plainly words (one second ∷ before) ≡ true
      → Derives words (expression handler) after
      → Derives words (an_item (handler_item word condition handler)) all
  by_local : (words : Splitting) (trees : List LocalMethod) (word : Token)
      (after : List SeenFragment) → role_of word ≡ roles.Locals
      → Derives splittings.Nothing (local_methods trees) after
      → Derives words (an_item (local_item word (methods_of trees))) (one word ∷ after)
  last_item : (words : Splitting) (tree : ItemTree) (fragments : List SeenFragment)
      → Derives words (an_item tree) fragments → Derives words (some_items (tree ∷ [])) fragments
  more_items : (words : Splitting) (tree : ItemTree) (others : List ItemTree) (separator : Token)
      (before after all : List SeenFragment) → all ≡ before ++ one separator ∷ after
      → role_of separator ≡ roles.Semicolon
      → Derives words (an_item tree) before → Derives words (some_items others) after
      → Derives words (some_items (tree ∷ others)) all
  empty_body : (words : Splitting) → Derives words (a_body []) []
  separator_body : (words : Splitting) (separator : Token) → role_of separator ≡ roles.Semicolon
      → Derives words (a_body []) (one separator ∷ [])
  items_body : (words : Splitting) (trees : List ItemTree) (fragments : List SeenFragment)
      → Derives words (some_items trees) fragments → Derives words (a_body trees) fragments
  ended_body : (words : Splitting) (trees : List ItemTree) (separator : Token)
      (before all : List SeenFragment) → all ≡ before ++ one separator ∷ []
      → role_of separator ≡ roles.Semicolon
      → Derives words (some_items trees) before → Derives words (a_body trees) all
  no_alternatives : Derives splittings.Branches (alternatives [] no_otherwise) []
  by_else : (trees : List ItemTree) (word : Token) (after : List SeenFragment)
      → splitter_of word ≡ splitters.Else
      → Derives splittings.Branches (a_body trees) after
      → Derives splittings.Branches (alternatives [] (otherwise (body_of trees)))
      (one word ∷ after)
  more_alternatives : (test : Tree) (trees : List ItemTree) (others : List Alternative)
      (last : Otherwise) (word left : Token) (tested : SeenFragments) (right : Token)
      (first second all : List SeenFragment)
      → all ≡ one word ∷ group left tested right ∷ (first ++ second)
      → splitter_of word ≡ splitters.Elseif → bracket_of left right ≡ enclosures.Round
      → Derives splittings.Nothing (expression test) (row tested)
      → Derives splittings.Branches (a_body trees) first
      → Derives splittings.Branches (alternatives others last) second
      → Derives splittings.Branches
      (alternatives (alternative test (body_of trees) ∷ others) last) all
  one_test : (tree : Tree) (fragments : List SeenFragment)
      → Derives splittings.Nothing (expression tree) fragments
      → Derives splittings.Nothing (some_tests (tree ∷ [])) fragments
  more_tests : (tree : Tree) (others : List Tree) (separator : Token)
      (before after all : List SeenFragment) → all ≡ before ++ one separator ∷ after
      → role_of separator ≡ roles.Comma
      → Derives splittings.Nothing (expression tree) before
      → Derives splittings.Nothing (some_tests others) after
      → Derives splittings.Nothing (some_tests (tree ∷ others)) all
  empty_open : Derives splittings.Nothing (open_body []) []
  items_open : (trees : List ItemTree) (fragments : List SeenFragment)
      → Derives splittings.Nothing (some_items trees) fragments
      → Derives splittings.Nothing (open_body trees) fragments
  last_arm : (single : Bool) (trees : List Tree) (items : List ItemTree) (sign : Token)
      (before after all : List SeenFragment) → all ≡ before ++ one sign ∷ after
      → role_of sign ≡ roles.Arrow → suits single trees ≡ true
      → Derives splittings.Nothing (some_tests trees) before
      → Derives splittings.Nothing (open_body items) after
      → Derives splittings.Nothing
      (choices single (arm (tests_of trees) (body_of items) ∷ []) no_otherwise) all
  more_arms : (single : Bool) (trees : List Tree) (items : List ItemTree) (others : List Arm)
      (last : Otherwise) (sign separator : Token) (before middle after all : List SeenFragment)
      → all ≡ before ++ one sign ∷ (middle ++ one separator ∷ after) → role_of sign ≡ roles.Arrow
      → role_of separator ≡ roles.Semicolon → suits single trees ≡ true
      → Derives splittings.Nothing (some_tests trees) before
      → Derives splittings.Nothing (open_body items) middle
      → Derives splittings.Nothing (choices single others last) after
      → Derives splittings.Nothing
      (choices single (arm (tests_of trees) (body_of items) ∷ others) last) all
  last_choice : (single : Bool) (items : List ItemTree) (word : Token) (after : List SeenFragment)
      → role_of word ≡ roles.Remains
      → Derives splittings.Nothing (open_body items) after
      → Derives splittings.Nothing (choices single [] (otherwise (body_of items)))
      (one word ∷ after)
  last_choice_arrow : (single : Bool) (items : List ItemTree) (word sign : Token)
      (after : List SeenFragment) → role_of word ≡ roles.Remains → role_of sign ≡ roles.Arrow
      → Derives splittings.Nothing (open_body items) after
      → Derives splittings.Nothing (choices single [] (otherwise (body_of items)))
      (one word ∷ one sign ∷ after)
  no_arms : (single : Bool) → Derives splittings.Nothing (arms single [] no_otherwise) []
  some_arms : (single : Bool) (trees : List Arm) (last : Otherwise) (fragments : List SeenFragment)
      → Derives splittings.Nothing (choices single trees last) fragments
      → Derives splittings.Nothing (arms single trees last) fragments
  ended_arms : (single : Bool) (trees : List Arm) (last : Otherwise) (separator : Token)
      (before all : List SeenFragment) → all ≡ before ++ one separator ∷ []
      → role_of separator ≡ roles.Semicolon
      → Derives splittings.Nothing (choices single trees last) before
      → Derives splittings.Nothing (arms single trees last) all
  by_identity : (selected : Tree) (fragments : List SeenFragment)
      → Derives splittings.Tests (expression selected) fragments
      → Derives splittings.Tests (head selected None) fragments
  by_test : (selected test : Tree) (word : Token) (before after all : List SeenFragment)
      → all ≡ before ++ one word ∷ after → splitter_of word ≡ splitters.By
      → Derives splittings.Tests (expression selected) before
      → Derives splittings.Tests (expression test) after
      → Derives splittings.Tests (head selected (Some test)) all
  no_block_clause : Derives splittings.Endings (block_clauses []) []
  by_afterwards : (trees : List ItemTree) (others : List BlockClause) (word : Token)
      (first second all : List SeenFragment) → all ≡ one word ∷ (first ++ second)
      → splitter_of word ≡ splitters.Afterwards
      → Derives splittings.Endings (a_body trees) first
      → Derives splittings.Endings (block_clauses others) second
      → Derives splittings.Endings
      (block_clauses (afterwards_clause (body_of trees) ∷ others)) all
  by_cleanup : (trees : List ItemTree) (others : List BlockClause) (word : Token)
      (first second all : List SeenFragment) → all ≡ one word ∷ (first ++ second)
      → splitter_of word ≡ splitters.Cleanup
      → Derives splittings.Endings (a_body trees) first
      → Derives splittings.Endings (block_clauses others) second
      → Derives splittings.Endings (block_clauses (cleanup_clause (body_of trees) ∷ others)) all
  by_exception : (variable : Option Token) (condition : TypeTree) (trees : List ItemTree)
      (others : List BlockClause) (word left : Token) (within : SeenFragments) (right : Token)
      (first second all : List SeenFragment)
      → all ≡ one word ∷ group left within right ∷ (first ++ second)
      → splitter_of word ≡ splitters.Exception → bracket_of left right ≡ enclosures.Round
      → Catches variable condition (row within)
      → Derives splittings.Endings (a_body trees) first
      → Derives splittings.Endings (block_clauses others) second
      → Derives splittings.Endings
      (block_clauses (exception_clause variable condition (body_of trees) ∷ others)) all
  by_then : (variable : VariableTree) (first next : Tree) (equals word : Token)
      (before middle after all : List SeenFragment)
      → all ≡ (before ++ one equals ∷ middle) ++ one word ∷ after → is_equals equals ≡ true
      → splitter_of word ≡ splitters.Then
      → IsVariable variable before → binds_plainly splittings.Steps before ≡ true
      → Derives splittings.Steps (expression first) middle
      → Derives splittings.Steps (expression next) after
      → Derives splittings.Steps (for_clause (then_clause variable first next)) all
  by_in : (variable : VariableTree) (collection : Tree) (word : Token)
      (before after all : List SeenFragment) → all ≡ before ++ one word ∷ after
      → splitter_of word ≡ splitters.In
      → IsVariable variable before → binds_plainly splittings.Steps before ≡ true
      → Derives splittings.Steps (expression collection) after
      → Derives splittings.Steps (for_clause (in_clause variable collection)) all
  by_from : (variable : VariableTree) (start : Tree) (limit : MaybeLimit) (step : MaybeTree)
      (word : Token) (before middle after all : List SeenFragment)
      → all ≡ before ++ one word ∷ (middle ++ after) → splitter_of word ≡ splitters.From
      → IsVariable variable before → binds_plainly splittings.Steps before ≡ true
      → Derives splittings.Steps (expression start) middle
      → Derives splittings.Steps (range limit step) after
      → Derives splittings.Steps (for_clause (from_clause variable start limit step)) all
  no_range : Derives splittings.Steps (range no_limit no_tree) []
  step_range : (tree : Tree) (word : Token) (after : List SeenFragment)
      → splitter_of word ≡ splitters.By → Derives splittings.Steps (expression tree) after
      → Derives splittings.Steps (range no_limit (some_tree tree)) (one word ∷ after)
  limit_range : (bound : Tree) (step : MaybeTree) (word : Token)
      (first second all : List SeenFragment) → all ≡ one word ∷ (first ++ second)
      → is_limit_word (splitter_of word) ≡ true
      → Derives splittings.Steps (expression bound) first
      → Derives splittings.Steps (range no_limit step) second
      → Derives splittings.Steps (range (a_limit word bound) step) all
  last_clause : (tree : ForClause) (fragments : List SeenFragment)
      → Derives splittings.Steps (for_clause tree) fragments
      → Derives splittings.Steps (for_clauses (tree ∷ []) None) fragments
  only_stop : (keyword : Token) (test : Tree) (after : List SeenFragment)
      → is_stop_word keyword ≡ true → Derives splittings.Steps (expression test) after
      → Derives splittings.Steps (for_clauses [] (Some (record { keyword = keyword; test = test })))
      (one keyword ∷ after)
  more_clauses : (tree : ForClause) (others : List ForClause) (stop : Option StopTree)
      (separator : Token) (before after all : List SeenFragment)
      → all ≡ before ++ one separator ∷ after → role_of separator ≡ roles.Comma
      → Derives splittings.Steps (for_clause tree) before
      → Derives splittings.Steps (for_clauses others stop) after
      → Derives splittings.Steps (for_clauses (tree ∷ others) stop) all
  empty_head : Derives splittings.Steps (for_head [] None) []
  some_clauses : (trees : List ForClause) (stop : Option StopTree) (fragments : List SeenFragment)
      → Derives splittings.Steps (for_clauses trees stop) fragments
      → Derives splittings.Steps (for_head trees stop) fragments
  no_finally : Derives splittings.LastPart (ending_part no_otherwise) []
  by_finally : (trees : List ItemTree) (word : Token) (after : List SeenFragment)
      → splitter_of word ≡ splitters.Finally → Derives splittings.LastPart (a_body trees) after
      → Derives splittings.LastPart (ending_part (otherwise (body_of trees))) (one word ∷ after)
  no_initial : Derives splittings.Nothing (initial no_tree) []
  by_initial : (tree : Tree) (equals : Token) (after : List SeenFragment) → is_equals equals ≡ true
      → Derives splittings.Nothing (expression tree) after
      → Derives splittings.Nothing (initial (some_tree tree)) (one equals ∷ after)
  plain_key : (variable : VariableTree) (default : MaybeTree) (before after all : List SeenFragment)
      → all ≡ before ++ after → IsVariable variable before
      → Derives splittings.Nothing (initial default) after
      → Derives splittings.Nothing (key (a_key None variable default)) all
  named_key : (token : Token) (variable : VariableTree) (default : MaybeTree)
      (before after all : List SeenFragment) → all ≡ one token ∷ (before ++ after)
      → role_of token ≡ roles.Symbol → IsVariable variable before
      → Derives splittings.Nothing (initial default) after
      → Derives splittings.Nothing (key (a_key (Some token) variable default)) all
  no_more_keys : Derives splittings.Nothing (more_keys [] false) []
  all_keys : (separator mark : Token) → role_of separator ≡ roles.Comma
      → part_word mark ≡ part_words.AllKeys
      → Derives splittings.Nothing (more_keys [] true) (one separator ∷ one mark ∷ [])
  key_and_more : (tree : Key) (others : List Key) (takes_all : Bool) (separator : Token)
      (first second all : List SeenFragment) → all ≡ one separator ∷ (first ++ second)
      → role_of separator ≡ roles.Comma
      → Derives splittings.Nothing (key tree) first
      → Derives splittings.Nothing (more_keys others takes_all) second
      → Derives splittings.Nothing (more_keys (tree ∷ others) takes_all) all
  last_required : (required : RequiredTree) (fragments : List SeenFragment)
      → IsRequired required fragments
      → Derives splittings.Nothing (listed (list_of (required ∷ []) None None None)) fragments
  more_required : (required : RequiredTree) (found : Listed) (separator : Token)
      (before after all : List SeenFragment) → all ≡ before ++ one separator ∷ after
      → role_of separator ≡ roles.Comma → IsRequired required before
      → Derives splittings.Nothing (listed found) after
      → Derives splittings.Nothing
      (listed (list_of (required ∷ found.required) found.next found.rest found.keys)) all
  last_next : (mark token : Token) → part_word mark ≡ part_words.Next → role_of token ≡ roles.Named
      → Derives splittings.Nothing (listed (list_of [] (Some token) None None))
      (one mark ∷ one token ∷ [])
  more_next : (mark token separator : Token) (rest : Option Token) (keys : Option KeysTree)
      (after : List SeenFragment) → part_word mark ≡ part_words.Next → role_of token ≡ roles.Named
      → role_of separator ≡ roles.Comma
      → Derives splittings.Nothing (listed (list_of [] None rest keys)) after
      → Derives splittings.Nothing (listed (list_of [] (Some token) rest keys))
      (one mark ∷ one token ∷ one separator ∷ after)
  last_rest : (mark token : Token) → part_word mark ≡ part_words.Rest → role_of token ≡ roles.Named
      → Derives splittings.Nothing (listed (list_of [] None (Some token) None))
      (one mark ∷ one token ∷ [])
  more_rest : (mark token separator : Token) (keys : Option KeysTree) (after : List SeenFragment)
      → part_word mark ≡ part_words.Rest → role_of token ≡ roles.Named
      → role_of separator ≡ roles.Comma
      → Derives splittings.Nothing (listed (list_of [] None None keys)) after
      → Derives splittings.Nothing (listed (list_of [] None (Some token) keys))
      (one mark ∷ one token ∷ one separator ∷ after)
  bare_keys : (mark : Token) (takes_all : Bool) (after : List SeenFragment)
      → part_word mark ≡ part_words.Key → Derives splittings.Nothing (more_keys [] takes_all) after
      → Derives splittings.Nothing (listed (list_of [] None None (keys_found [] takes_all)))
      (one mark ∷ after)
  first_key : (mark : Token) (tree : Key) (others : List Key) (takes_all : Bool)
      (first second all : List SeenFragment) → all ≡ one mark ∷ (first ++ second)
      → part_word mark ≡ part_words.Key
      → Derives splittings.Nothing (key tree) first
      → Derives splittings.Nothing (more_keys others takes_all) second
      → Derives splittings.Nothing
      (listed (list_of [] None None (keys_found (tree ∷ others) takes_all))) all
  empty_brackets : Derives splittings.Nothing (brackets (list_of [] None None None)) []
  some_listed : (found : Listed) (fragments : List SeenFragment)
      → Derives splittings.Nothing (listed found) fragments
      → Derives splittings.Nothing (brackets found) fragments
  by_signature : (found : Listed) (results : Option ResultTree) (trees : List ItemTree)
      (left : Token) (within : SeenFragments) (right : Token)
      (given end after all : List SeenFragment)
      → all ≡ group left within right ∷ (given ++ (end ++ after))
      → bracket_of left right ≡ enclosures.Round
      → ResultsPart results given → EndPart end → apart results (end ++ after) ≡ true
      → Derives splittings.Nothing (brackets found) (row within)
      → Derives splittings.Nothing (a_body trees) after
      → Derives splittings.Nothing (signature found results trees) all
  last_method : (found : Listed) (results : Option ResultTree) (trees : List ItemTree)
      (opener token : Token) (inner : SeenFragments) (closer : Token) (after : List SeenFragment)
      → bracket_of opener closer ≡ enclosures.Statement keywords.Method
      → row inner ≡ one token ∷ after → role_of token ≡ roles.Named
      → Derives splittings.Nothing (signature found results trees) after
      → Derives splittings.Nothing
      (local_methods (local_method opener token (parameters_of found results) (body_of trees)
      ∷ [])) (group opener inner closer ∷ [])
  more_methods : (found : Listed) (results : Option ResultTree) (trees : List ItemTree)
      (others : List LocalMethod) (opener token : Token) (inner : SeenFragments)
      (closer separator : Token) (after behind : List SeenFragment)
      → bracket_of opener closer ≡ enclosures.Statement keywords.Method
      → row inner ≡ one token ∷ after
      → role_of token ≡ roles.Named → role_of separator ≡ roles.Comma
      → Derives splittings.Nothing (signature found results trees) after
      → Derives splittings.Nothing (local_methods others) behind
      → Derives splittings.Nothing
      (local_methods (local_method opener token (parameters_of found results) (body_of trees)
      ∷ others)) (group opener inner closer ∷ one separator ∷ behind)
