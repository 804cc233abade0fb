-- What is made of the parts of a block that were read is to the limit what is made of the parts.
use Rattle.std.proofs.Common.{◌≡◌, ℕ, max, Bool, true, false, List, [], ◌∷◌, ◌++◌, map, Option, Some, None, option_map, option_and_then, refl, sym, ap, ◌∙◌, arith}
use Rattle.std.specs.List.{list_any}
use Rattle.dy_tree.specs.declared.token.Token.{Token}
use Rattle.dy_tree.specs.Fragments.{SeenFragment, one, group}
use Rattle.dy_rules.specs.Blocks.{afterwards_of, cleanup_of, exception_of, block_of, block_if, block_suits, block_pieces, block_items, caught_of, caught_named, caught_with, exit_inside, block_clause_at, block_clauses_in}
use Rattle.dy_rules.specs.Bodies.{body_items}
use Rattle.dy_rules.specs.Cutting.{Caught, Front, Item, Pieces, is_splitter, cut, with_others, word_of}
use Rattle.dy_rules.specs.Depth.{block_clause_depth, block_clauses_depth, type_depth}
use Rattle.dy_rules.specs.Fragments.{items_of}
use Rattle.dy_rules.specs.Productions.{is_afterwards, is_cleanup, suit_block}
use Rattle.dy_rules.specs.Roles.{role_of}
use Rattle.dy_rules.specs.Trees.{Tree, Body, ItemTree, BlockClause, afterwards_clause, cleanup_clause, exception_clause, body_of, block_tree, block_clauses_of}
use Rattle.dy_rules.specs.Types.{TypeTree}
use Rattle.dy_rules.specs.TypeReading.{named_token}
use Rattle.dy_rules_depth.specs.Changes.{Change, changed_item, changed_clause}
use Rattle.dy_rules_depth.specs.ReaderChanges.{changed_caught}
use Rattle.dy_rules_depth.specs.Capping.{capped, capped_type, capping, filling}
use Rattle.dy_rules_depth.proofs.BlocksSame.{block_suits_same}
use Rattle.dy_rules_depth.proofs.Options.{map_twice}
use Rattle.dy_rules_depth.proofs.Rows.{row_body, row_clauses}
use Rattle.dy_rules_depth.proofs.Twice.{type_twice, body_twice, item_twice}
use Rattle.dy_read_arms.specs.BodyDepths.{BodyDepth, ClauseDepth}
use Rattle.dy_read_statements.specs.CaughtShapes.{block_read, clause_read, read_caught, CaughtDepth}
use Rattle.dy_read_arms.specs.ReadBodies.{read_clause, read_items}
use Rattle.dy_read_types.specs.TypeCaps.{read_type}
use Rattle.dy_read_types.specs.TypeFronts.{TypeDepth}
use Rattle.dy_read_statements.specs.declared.caught.Caught.{Caught as CaughtForm}
use Rattle.dy_tree.specs.declared.expression.Item.{Item as ItemForm}
use Rattle.dy_tree.specs.declared.expression.BlockClause.{BlockClause as ClauseForm}
use Rattle.dy_tree.specs.declared.types.TypeForm.{TypeForm}
use Rattle.std.specs.Global.{Vec}
use Rattle.dy_tree.specs.declared.roles.Role.{Role}
use Rattle.dy_tree.specs.declared.roles.Role.TheVariants as roles
use Rattle.dy_tree.specs.declared.splitters.Splitting.TheVariants as splittings
use Rattle.dy_read_statements.specs.FilledInside.{filled_inside}
use Rattle.dy_read_parts.specs.Names.{name_at}
use Rattle.dy_read_parts.specs.Pieces.{others_in, pieces_behind, read_before}
use Rattle.dy_read_parts.proofs.PieceRows.{change_with, read_one_more}

-- clauses

pub afterwards_filled : (list : List ItemTree) (made : BlockClause) → made ≡ afterwards_clause (body_of list) → changed_clause filling made ≡ afterwards_of (map (changed_item filling) list)
afterwards_filled list made e = ap (changed_clause filling) e ∙ ap afterwards_clause (row_body filling list)

pub cleanup_filled : (list : List ItemTree) (made : BlockClause) → made ≡ cleanup_clause (body_of list) → changed_clause filling made ≡ cleanup_of (map (changed_item filling) list)
cleanup_filled list made e = ap (changed_clause filling) e ∙ ap cleanup_clause (row_body filling list)

pub exception_filled : (variable : Option Token) (condition : TypeTree) (list : List ItemTree) (made : BlockClause) → made ≡ exception_clause variable condition (body_of list)
    → changed_clause filling made ≡ exception_of (record { variable = variable; condition = filling.on_type condition }) (map (changed_item filling) list)
exception_filled variable condition list made e = ap (changed_clause filling) e ∙ ap (exception_clause variable (filling.on_type condition)) (row_body filling list)

pub afterwards_through : (trees : Option (List ItemTree)) → option_map afterwards_of (option_map (map (changed_item capping)) trees) ≡ option_map (changed_clause capping) (option_map afterwards_of trees)
afterwards_through None = refl
afterwards_through (Some trees) = ap (λ (body : Body). Some (afterwards_clause body)) (sym (row_body capping trees))

pub cleanup_through : (trees : Option (List ItemTree)) → option_map cleanup_of (option_map (map (changed_item capping)) trees) ≡ option_map (changed_clause capping) (option_map cleanup_of trees)
cleanup_through None = refl
cleanup_through (Some trees) = ap (λ (body : Body). Some (cleanup_clause body)) (sym (row_body capping trees))

clause_through : (caught : Option Caught) (trees : Option (List ItemTree)) → clause_read (option_map (changed_caught capping) caught) (option_map (map (changed_item capping)) trees) ≡ option_map (changed_clause capping) (clause_read caught trees)
clause_through None trees = refl
clause_through (Some caught) None = refl
clause_through (Some caught) (Some trees) = ap (λ (body : Body). Some (exception_clause caught.variable (capped_type caught.condition) body)) (sym (row_body capping trees))

pub clause_found : (caught first : Option Caught) (trees second : Option (List ItemTree)) → first ≡ option_map (changed_caught capping) caught → second ≡ option_map (map (changed_item capping)) trees → clause_read first second ≡ option_map (changed_clause capping) (clause_read caught trees)
clause_found caught first trees second e f = ap (λ (c : Option Caught). clause_read c second) e ∙ ap (clause_read (option_map (changed_caught capping) caught)) f ∙ clause_through caught trees

pub caught_through : (variable : Option Token) (type : Option TypeTree) → option_map (caught_of variable) (option_map capped_type type) ≡ option_map (changed_caught capping) (option_map (caught_of variable) type)
caught_through variable None = refl
caught_through variable (Some type) = refl

pub caught_depth : (variable : Option Token) (old new : ℕ) (condition : Option TypeForm) (found : Option CaughtForm) → option_map read_caught found ≡ option_map (caught_of variable) (option_map read_type condition) → TypeDepth old new condition → CaughtDepth old new found
caught_depth variable old new condition None e h = tt
caught_depth variable old new None (Some caught) e h = absurd cc
caught_depth variable old new (Some condition) (Some caught) e h = let same : read_caught caught ≡ caught_of variable (read_type condition) = cc in h ∙ ap (λ (c : Caught). max old (type_depth c.condition)) (sym same)

pub afterwards_depth : (old new : ℕ) (body : Option (Vec ItemForm)) (found : Option ClauseForm) → option_map read_clause found ≡ option_map afterwards_of (option_map read_items body) → BodyDepth old new body → ClauseDepth old new found
afterwards_depth old new body None e h = tt
afterwards_depth old new None (Some clause) e h = absurd cc
afterwards_depth old new (Some body) (Some clause) e h = let same : read_clause clause ≡ afterwards_of (read_items body) = cc in h ∙ ap (λ (c : BlockClause). max old (block_clause_depth c)) (sym same)

pub cleanup_depth : (old new : ℕ) (body : Option (Vec ItemForm)) (found : Option ClauseForm) → option_map read_clause found ≡ option_map cleanup_of (option_map read_items body) → BodyDepth old new body → ClauseDepth old new found
cleanup_depth old new body None e h = tt
cleanup_depth old new None (Some clause) e h = absurd cc
cleanup_depth old new (Some body) (Some clause) e h = let same : read_clause clause ≡ cleanup_of (read_items body) = cc in h ∙ ap (λ (c : BlockClause). max old (block_clause_depth c)) (sym same)

pub exception_depth : (old middle new : ℕ) (caught : Option CaughtForm) (body : Option (Vec ItemForm)) (found : Option ClauseForm) → option_map read_clause found ≡ clause_read (option_map read_caught caught) (option_map read_items body) → CaughtDepth old middle caught → BodyDepth middle new body
    → ClauseDepth old new found
exception_depth old middle new caught body None e h i = tt
exception_depth old middle new None body (Some clause) e h i = absurd cc
exception_depth old middle new (Some caught) None (Some clause) e h i = absurd cc
exception_depth old middle new (Some caught) (Some body) (Some clause) e h i =
    let same : read_clause clause ≡ exception_of (read_caught caught) (read_items body) = cc in
    let deep = ap block_clause_depth same in
    omega arith

pub clauses_deeper : (list : List BlockClause) (clause : BlockClause) → block_clauses_depth (block_clauses_of (list ++ clause ∷ [])) ≡ max (block_clauses_depth (block_clauses_of list)) (block_clause_depth clause)
clauses_deeper [] clause = omega arith
clauses_deeper (first ∷ rest) clause = let more = clauses_deeper rest clause in omega arith

-- the clauses behind separators
module _ (separator : SeenFragment) (behind : List SeenFragment) (first : List Item) (rest : List SeenFragment) (cuts : cut (is_splitter splittings.Endings) false (items_of behind) ≡ pieces_behind (is_splitter splittings.Endings) first rest) where
  clauses_are : (found : Option BlockClause) → found ≡ option_map (changed_clause capping) (block_clause_at (word_of separator) first)
      → option_map (map (changed_clause capping)) (block_clauses_in (others_in (is_splitter splittings.Endings) (separator ∷ behind))) ≡ with_others found (option_map (map (changed_clause capping)) (block_clauses_in (others_in (is_splitter splittings.Endings) rest)))
  clauses_are found e =
      ap (λ (pieces : Pieces). option_map (map (changed_clause capping)) (with_others (block_clause_at (word_of separator) pieces.first) (block_clauses_in pieces.others))) cuts
      ∙ change_with (changed_clause capping) (block_clause_at (word_of separator) first) (block_clauses_in (others_in (is_splitter splittings.Endings) rest))
      ∙ ap (λ (it : Option BlockClause). with_others it (option_map (map (changed_clause capping)) (block_clauses_in (others_in (is_splitter splittings.Endings) rest)))) (sym e)

  pub clause_more : (before after : List BlockClause) (next : BlockClause) → Some next ≡ option_map (changed_clause capping) (block_clause_at (word_of separator) first) → after ≡ before ++ next ∷ []
      → read_before before (option_map (map (changed_clause capping)) (block_clauses_in (others_in (is_splitter splittings.Endings) (separator ∷ behind)))) ≡ read_before after (option_map (map (changed_clause capping)) (block_clauses_in (others_in (is_splitter splittings.Endings) rest)))
  clause_more before after next e more =
      ap (read_before before) (clauses_are (Some next) e) ∙ read_one_more before next (option_map (map (changed_clause capping)) (block_clauses_in (others_in (is_splitter splittings.Endings) rest)))
      ∙ ap (λ (all : List BlockClause). read_before all (option_map (map (changed_clause capping)) (block_clauses_in (others_in (is_splitter splittings.Endings) rest)))) (sym more)

  pub clause_missing : (before : List BlockClause) → None ≡ option_map (changed_clause capping) (block_clause_at (word_of separator) first) → None ≡ read_before before (option_map (map (changed_clause capping)) (block_clauses_in (others_in (is_splitter splittings.Endings) (separator ∷ behind))))
  clause_missing before e = sym (ap (read_before before) (clauses_are None e))

-- What suits depends on no tree.
module _ (change : Change) where
  any_afterwards : (clauses : List BlockClause) → list_any is_afterwards (map (changed_clause change) clauses) ≡ list_any is_afterwards clauses
  any_afterwards [] = refl
  any_afterwards (afterwards_clause body ∷ rest) = refl
  any_afterwards (cleanup_clause body ∷ rest) = rw (any_afterwards rest) refl
  any_afterwards (exception_clause variable condition body ∷ rest) = rw (any_afterwards rest) refl

  any_cleanup : (clauses : List BlockClause) → list_any is_cleanup (map (changed_clause change) clauses) ≡ list_any is_cleanup clauses
  any_cleanup [] = refl
  any_cleanup (afterwards_clause body ∷ rest) = rw (any_cleanup rest) refl
  any_cleanup (cleanup_clause body ∷ rest) = refl
  any_cleanup (exception_clause variable condition body ∷ rest) = rw (any_cleanup rest) refl

  pub suit_changed : (clauses : List BlockClause) → suit_block (map (changed_clause change) clauses) ≡ suit_block clauses
  suit_changed [] = refl
  suit_changed (afterwards_clause body ∷ rest) = rw (any_afterwards rest, suit_changed rest) refl
  suit_changed (cleanup_clause body ∷ rest) = rw (any_cleanup rest, suit_changed rest) refl
  suit_changed (exception_clause variable condition body ∷ rest) = suit_changed rest

-- blocks

pub block_filled : (word copy : Token) (exit : Option Token) (list : List ItemTree) (clauses : List BlockClause) (made : Tree) → made ≡ block_tree copy exit (body_of list) (block_clauses_of clauses) → copy ≡ word
    → filled_inside made ≡ block_of word exit (map (changed_item filling) list) (map (changed_clause filling) clauses)
block_filled word copy exit list clauses made e same = ap filled_inside e ∙ cc (row_body filling list, row_clauses filling clauses, same)

clause_twice : (clause : BlockClause) → changed_clause capping (changed_clause capping clause) ≡ changed_clause capping clause
clause_twice (afterwards_clause body) = ap afterwards_clause (body_twice body)
clause_twice (cleanup_clause body) = ap cleanup_clause (body_twice body)
clause_twice (exception_clause variable condition body) = cc (type_twice condition, body_twice body)

pub block_through : (word : Token) (exit : Option (Option Token)) (trees : Option (List ItemTree)) (clauses : Option (List BlockClause))
    → option_map capped (block_read word exit (option_map (map (changed_item capping)) trees) (option_map (map (changed_clause capping)) clauses)) ≡ option_map capped (block_read word exit trees clauses)
block_through word None trees clauses = refl
block_through word (Some exit) None clauses = refl
block_through word (Some exit) (Some trees) None = refl
block_through word (Some exit) (Some trees) (Some clauses) =
    block_suits_same word exit (map (changed_item capping) trees) trees (map_twice (changed_item capping) item_twice trees) (map (changed_clause capping) clauses) clauses (map_twice (changed_clause capping) clause_twice clauses)

module _ (word : Token) (exit : Option Token) (trees : List ItemTree) (clauses : List BlockClause) where
  abbrev filled_clauses : List BlockClause
  filled_clauses = map (changed_clause filling) clauses

  pub suits : suit_block clauses ≡ true → block_suits word exit trees filled_clauses ≡ Some (block_of word exit trees filled_clauses)
  suits e = ap (λ (suits : Bool). block_if suits word exit trees filled_clauses) (suit_changed filling clauses ∙ e)

  pub unsuited : suit_block clauses ≡ false → block_suits word exit trees filled_clauses ≡ None
  unsuited e = ap (λ (suits : Bool). block_if suits word exit trees filled_clauses) (suit_changed filling clauses ∙ e)

-- a block of what stands between its words
pub block_found : (word : Token) (front : Front) (first : List Item) (others : List SeenFragment) (exit : Option (Option Token)) (trees : Option (List ItemTree)) (clauses : Option (List BlockClause))
    → cut (is_splitter splittings.Endings) false front.rest ≡ pieces_behind (is_splitter splittings.Endings) first others → exit ≡ exit_inside front.first.fragment → trees ≡ option_map (map (changed_item capping)) (body_items splittings.Endings first)
    → clauses ≡ option_map (map (changed_clause capping)) (block_clauses_in (others_in (is_splitter splittings.Endings) others)) → option_map capped (block_read word exit trees clauses) ≡ option_map capped (block_items word front)
block_found word front first others exit trees clauses cuts e f g =
    ap (λ (x : Option (Option Token)). option_map capped (block_read word x trees clauses)) e ∙ ap (λ (t : Option (List ItemTree)). option_map capped (block_read word (exit_inside front.first.fragment) t clauses)) f
    ∙ ap (λ (c : Option (List BlockClause)). option_map capped (block_read word (exit_inside front.first.fragment) (option_map (map (changed_item capping)) (body_items splittings.Endings first)) c)) g
    ∙ block_through word (exit_inside front.first.fragment) (body_items splittings.Endings first) (block_clauses_in (others_in (is_splitter splittings.Endings) others))
    ∙ ap (λ (pieces : Pieces). option_map capped (option_and_then (block_pieces word pieces) (exit_inside front.first.fragment))) (sym cuts)

-- the variable in front of a condition
abbrev named_caught : Option TypeTree → Token → Option Caught
named_caught condition token = option_map (caught_of (Some token)) condition

named_role : (role : Role) (token : Token) (condition : Option TypeTree) → caught_named role token condition ≡ option_and_then (named_caught condition) (named_token role token)
named_role roles.Named token condition = refl
named_role role token condition = refl

pub caught_name : (fragment : SeenFragment) (condition : Option TypeTree) → caught_with fragment condition ≡ option_and_then (named_caught condition) (name_at fragment)
caught_name (one token) condition = named_role (role_of token) token condition
caught_name (group opener inner closer) condition = refl
