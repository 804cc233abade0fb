-- What is made of parts that were read is to the limit what is made of the parts.
use Rattle.std.proofs.Common.{◌≡◌, ℕ, max, List, [], ◌∷◌, ◌++◌, map, Option, Some, None, option_map, option_and_then, refl, sym, ap, ◌∙◌, arith}
use Rattle.std.proofs.lemmas.List.{map-append}
use Rattle.dy_tree.specs.declared.token.Token.{Token}
use Rattle.dy_tree.specs.declared.expression.Item.{Item as ItemForm}
use Rattle.dy_tree.specs.declared.expression.LocalMethod.{LocalMethod as MethodForm}
use Rattle.dy_tree.specs.Fragments.{SeenFragment}
use Rattle.dy_rules.specs.Bodies.{local_of, method_tree_of, nonempty_body, item_items, body_items}
use Rattle.dy_rules.specs.Cutting.{Item, NamedFound, is_semicolon, without_end}
use Rattle.dy_rules.specs.Depth.{body_depth, item_depth, method_depth, methods_depth}
use Rattle.dy_rules.specs.Fragments.{items_of}
use Rattle.dy_rules.specs.Trees.{Tree, ItemTree, expression_item, local_item, Parameters, LocalMethods, LocalMethod, local_method, body_of, methods_of, parameters_of}
use Rattle.dy_rules.specs.Types.{TypeTree, TargetTree}
use Rattle.dy_rules_depth.specs.Changes.{changed_target, changed_parameters, changed_item, changed_method}
use Rattle.dy_rules_depth.specs.Capping.{capped, capped_type, capping, filling}
use Rattle.dy_rules_depth.proofs.Rows.{row_body, row_methods, row_parameters}
use Rattle.dy_read_arms.specs.BodyDepths.{ItemDepth, MethodDepth, MethodsDepth}
use Rattle.dy_read_shapes.specs.ItemShapes.{let_to, let_read, handler_to, handler_read}
use Rattle.dy_read_parts.specs.Pieces.{each_part, read_before, unless_empty}
use Rattle.dy_read_arms.specs.ReadBodies.{read_item, read_method, read_methods}
use Rattle.dy_read_statements.specs.ReadMethods.{NamedParts, capped_named, named_parts, method_of_parts, read_named, NamedDepth}
use Rattle.dy_read_parts.proofs.PieceRows.{nothing_before}
use Rattle.dy_read_statements.specs.declared.method_read.NamedRead.{NamedRead}
use Rattle.std.specs.Global.{Vec}
use Rattle.dy_tree.specs.declared.splitters.Splitting.{Splitting}

-- bindings

let_through : (word : Token) (target : Option TargetTree) (assigned : Option Tree) → let_read word (option_map (changed_target capping) target) (option_map capped assigned) ≡ option_map (changed_item capping) (let_read word target assigned)
let_through word None assigned = refl
let_through word (Some target) None = refl
let_through word (Some target) (Some assigned) = refl

module _ (word : Token) (target : Option TargetTree) (assigned : Option Tree) where
  pub let_found : (first : TargetTree) (second : Option Tree) → Some first ≡ option_map (changed_target capping) target → second ≡ option_map capped assigned → let_to word second first ≡ option_map (changed_item capping) (let_read word target assigned)
  let_found first second e f = ap (λ (t : Option TargetTree). let_read word t second) e ∙ ap (let_read word (option_map (changed_target capping) target)) f ∙ let_through word target assigned

  pub let_fails : None ≡ option_map (changed_target capping) target → None ≡ option_map (changed_item capping) (let_read word target assigned)
  let_fails e = ap (λ (t : Option TargetTree). let_read word t (option_map capped assigned)) e ∙ let_through word target assigned

handler_through : (word : Token) (condition : Option TypeTree) (handler : Option Tree) → handler_read word (option_map capped_type condition) (option_map capped handler) ≡ option_map (changed_item capping) (handler_read word condition handler)
handler_through word None handler = refl
handler_through word (Some condition) None = refl
handler_through word (Some condition) (Some handler) = refl

module _ (word : Token) (condition : Option TypeTree) (handler : Option Tree) where
  pub handler_found : (first : TypeTree) (second : Option Tree) → Some first ≡ option_map capped_type condition → second ≡ option_map capped handler → handler_to word second first ≡ option_map (changed_item capping) (handler_read word condition handler)
  handler_found first second e f = ap (λ (t : Option TypeTree). handler_read word t second) e ∙ ap (handler_read word (option_map capped_type condition)) f ∙ handler_through word condition handler

  pub handler_fails : None ≡ option_map capped_type condition → None ≡ option_map (changed_item capping) (handler_read word condition handler)
  handler_fails e = ap (λ (t : Option TypeTree). handler_read word t (option_map capped handler)) e ∙ handler_through word condition handler

pub expression_through : (tree : Option Tree) → option_map expression_item (option_map capped tree) ≡ option_map (changed_item capping) (option_map expression_item tree)
expression_through None = refl
expression_through (Some tree) = refl

-- local methods

pub method_filled : (word token : Token) (signature : Parameters) (list : List ItemTree) (made : LocalMethod) → made ≡ local_method word token signature (body_of list)
    → changed_method filling made ≡ local_method word token (changed_parameters filling signature) (body_of (map (changed_item filling) list))
method_filled word token signature list made e = ap (changed_method filling) e ∙ ap (local_method word token (changed_parameters filling signature)) (row_body filling list)

pub local_filled : (word copy : Token) (list : List LocalMethod) (made : ItemTree) → made ≡ local_item copy (methods_of list) → copy ≡ word → changed_item filling made ≡ local_of word (map (changed_method filling) list)
local_filled word copy list made e same = ap (changed_item filling) e ∙ cc (row_methods filling list, same)

method_capped : (word : Token) (named : NamedFound) → method_of_parts word (capped_named (named_parts named)) ≡ changed_method capping (method_tree_of word named)
method_capped word named = ap (local_method word named.token (changed_parameters capping (parameters_of named.method.found named.method.results))) (sym (row_body capping named.method.trees))

pub method_through : (word : Token) (named : Option NamedFound) → option_map (method_of_parts word) (option_map capped_named (option_map named_parts named)) ≡ option_map (changed_method capping) (option_map (method_tree_of word) named)
method_through word None = refl
method_through word (Some named) = ap Some (method_capped word named)

pub local_through : (word : Token) (list : Option (List LocalMethod)) → option_map (local_of word) (option_map (map (changed_method capping)) list) ≡ option_map (changed_item capping) (option_map (local_of word) list)
local_through word None = refl
local_through word (Some list) = ap (λ (rows : LocalMethods). Some (local_item word rows)) (sym (row_methods capping list))

-- depths

pub named_depth : (word : Token) (old new : ℕ) (named : Option NamedRead) (found : Option MethodForm) → option_map read_method found ≡ option_map (method_of_parts word) (option_map read_named named) → NamedDepth old new named → MethodDepth old new found
named_depth word old new named None e h = tt
named_depth word old new None (Some method) e h = absurd cc
named_depth word old new (Some named) (Some method) e h = let same : read_method method ≡ method_of_parts word (read_named named) = cc in h ∙ ap (λ (m : LocalMethod). max old (method_depth m)) (sym same)

pub local_depth : (word : Token) (old new : ℕ) (list : Option (Vec MethodForm)) (found : Option ItemForm) → option_map read_item found ≡ option_map (local_of word) (option_map read_methods list) → MethodsDepth old new list → ItemDepth old new found
local_depth word old new list None e h = tt
local_depth word old new None (Some item) e h = absurd cc
local_depth word old new (Some list) (Some item) e h = let same : read_item item ≡ local_of word (read_methods list) = cc in h ∙ ap (λ (i : ItemTree). max old (item_depth i)) (sym same)

pub items_deeper : (trees : List ItemTree) (tree : ItemTree) → body_depth (body_of (trees ++ tree ∷ [])) ≡ max (body_depth (body_of trees)) (item_depth tree)
items_deeper [] tree = omega arith
items_deeper (first ∷ rest) tree = let more = items_deeper rest tree in omega arith

pub methods_deeper : (list : List LocalMethod) (method : LocalMethod) → methods_depth (methods_of (list ++ method ∷ [])) ≡ max (methods_depth (methods_of list)) (method_depth method)
methods_deeper [] method = omega arith
methods_deeper (first ∷ rest) method = let more = methods_deeper rest method in omega arith

-- bodies

pub body_parts : (words : Splitting) (fragments : List SeenFragment) → nonempty_body words (items_of fragments) ≡ each_part is_semicolon (item_items words) (unless_empty fragments)
body_parts words [] = refl
body_parts words (first ∷ rest) = refl

pub body_start : (words : Splitting) (fragments ended : List SeenFragment) (slice : Option (List SeenFragment)) (none : List ItemTree) → items_of ended ≡ without_end (items_of fragments) → slice ≡ unless_empty ended → none ≡ []
    → option_map (map (changed_item capping)) (body_items words (items_of fragments)) ≡ read_before none (option_map (map (changed_item capping)) (each_part is_semicolon (item_items words) slice))
body_start words fragments ended slice none e f g =
    ap (λ (items : List Item). option_map (map (changed_item capping)) (nonempty_body words items)) (sym e) ∙ ap (option_map (map (changed_item capping))) (body_parts words ended ∙ ap (each_part is_semicolon (item_items words)) (sym f))
    ∙ nothing_before (changed_item capping) (option_map (map (changed_item capping)) (each_part is_semicolon (item_items words) slice)) ∙ ap (λ (before : List ItemTree). read_before before (option_map (map (changed_item capping)) (each_part is_semicolon (item_items words) slice))) (sym g)
