-- A tree that is within the limit has no leaf that stands for a tree that is too deep.
use Rattle.std.proofs.Common.{◌≡◌, ℕ, ◌≤◌, Option, arith}
use Rattle.dy_tree.specs.declared.token.Token.{Token}
use Rattle.dy_tree.specs.declared.roles.Precedence.{Precedence}
use Rattle.dy_tree.specs.declared.brackets.Guard.{Guard}
use Rattle.dy_rules.specs.ConstantTrees.{list_item, vector_item, Constants, Tail}
use Rattle.dy_rules.specs.Types.{union_type, TypeTrees}
use Rattle.dy_rules.specs.Trees.{Tree, assignment, operation, unary, call, element, member, list, vector, begin_tree, if_tree, guarded, case_tree, select_tree, block_tree, for_tree, method_tree, Parameters, BlockClauses, ForClauses, MaybeStop, MaybeTree, Body, Alternatives, Otherwise, Arms, Arguments}
use Rattle.dy_rules.specs.Depth.{constant_depth, type_depth, depth, depth_limit}
use Rattle.dy_rules.specs.Forms.{FormTree}
use Rattle.dy_rules.specs.FormDepth.{form_depth}
use Rattle.dy_rules_depth.specs.Changes.{changed_constants, changed_tail, changed_types, changed_maybe, changed_parameters, changed_body, changed_arguments, changed_alternatives, changed_otherwise, changed_arms, changed_clauses, changed_for_clauses, changed_stop, changed_form}
use Rattle.dy_rules_depth.specs.Capping.{filled, filling}
use Rattle.dy_rules_depth.proofs.Parts.{pair, related_constants, related_tail, related_types, related_maybe, related_parameters, related_body, related_arguments, related_alternatives, related_otherwise, related_arms, related_clauses, related_for_clauses, related_stop}
use Rattle.dy_rules_depth.proofs.FormParts.{FormParts, related_form}
use Rattle.dy_rules_depth.proofs.Fills.{Fills, filled_parts}

part_filled : {A : Type 0} {before after : A} {m n : ℕ} → Fills A before after m n → n ≤ depth_limit → after ≡ before
part_filled h le = h.kept le

pub form_filled : (form : FormTree) → form_depth (changed_form filling form) ≤ depth_limit → changed_form filling form ≡ form
form_filled form le = let parts : FormParts filled_parts form (changed_form filling form) = related_form filled_parts form in parts.related.kept (omega (arith, parts.is_after))

pub filled_assignment : (place : Tree) (value : Tree) → depth (assignment (filled place) (filled value)) ≤ depth_limit → assignment (filled place) (filled value) ≡ assignment place value
filled_assignment place value le = part_filled (filled_parts.two (λ (first : Tree) (second : Tree). assignment first second) (filled_parts.tree place) (filled_parts.tree value)) (omega arith)

pub filled_operation : (precedence : Precedence) (left : Tree) (operator : Token) (right : Tree) → depth (operation precedence (filled left) operator (filled right)) ≤ depth_limit → operation precedence (filled left) operator (filled right) ≡ operation precedence left operator right
filled_operation precedence left operator right le = part_filled (filled_parts.two (λ (first : Tree) (second : Tree). operation precedence first operator second) (filled_parts.tree left) (filled_parts.tree right)) (omega arith)

pub filled_unary : (operator : Token) (operand : Tree) → depth (unary operator (filled operand)) ≤ depth_limit → unary operator (filled operand) ≡ unary operator operand
filled_unary operator operand le = part_filled (filled_parts.one (λ (part : Tree). unary operator part) (filled_parts.tree operand)) (omega arith)

pub filled_call : (function : Tree) (arguments : Arguments) → depth (call (filled function) (changed_arguments filling arguments)) ≤ depth_limit → call (filled function) (changed_arguments filling arguments) ≡ call function arguments
filled_call function arguments le = part_filled (filled_parts.two (λ (first : Tree) (second : Arguments). call first second) (filled_parts.tree function) (related_arguments filled_parts arguments)) (omega arith)

pub filled_element : (object : Tree) (opener : Token) (index : Tree) → depth (element (filled object) opener (filled index)) ≤ depth_limit → element (filled object) opener (filled index) ≡ element object opener index
filled_element object opener index le = part_filled (filled_parts.two (λ (first : Tree) (second : Tree). element first opener second) (filled_parts.tree object) (filled_parts.tree index)) (omega arith)

pub filled_member : (object : Tree) (token : Token) → depth (member (filled object) token) ≤ depth_limit → member (filled object) token ≡ member object token
filled_member object token le = part_filled (filled_parts.one (λ (part : Tree). member part token) (filled_parts.tree object)) (omega arith)

pub filled_list : (opener : Token) (items : Constants) (last : Tail) → depth (list opener (changed_constants filling items) (changed_tail filling last)) ≤ depth_limit → list opener (changed_constants filling items) (changed_tail filling last) ≡ list opener items last
filled_list opener items last le = part_filled (filled_parts.two (λ (first : Constants) (second : Tail). list opener first second) (related_constants filled_parts items) (related_tail filled_parts last)) (omega arith)

pub filled_vector : (opener : Token) (items : Constants) → depth (vector opener (changed_constants filling items)) ≤ depth_limit → vector opener (changed_constants filling items) ≡ vector opener items
filled_vector opener items le = part_filled (filled_parts.one (λ (part : Constants). vector opener part) (related_constants filled_parts items)) (omega arith)

pub filled_begin : (word : Token) (body : Body) → depth (begin_tree word (changed_body filling body)) ≤ depth_limit → begin_tree word (changed_body filling body) ≡ begin_tree word body
filled_begin word body le = part_filled (filled_parts.one (λ (part : Body). begin_tree word part) (related_body filled_parts body)) (omega arith)

pub filled_if : (word : Token) (test : Tree) (body : Body) (others : Alternatives) (last : Otherwise) → depth (if_tree word (filled test) (changed_body filling body) (changed_alternatives filling others) (changed_otherwise filling last)) ≤ depth_limit → if_tree word (filled test) (changed_body filling body) (changed_alternatives filling others) (changed_otherwise filling last) ≡ if_tree word test body others last
filled_if word test body others last le = part_filled (filled_parts.two (λ (front : Tree × Body) (back : Alternatives × Otherwise). if_tree word front.0 front.1 back.0 back.1) (pair filled_parts (filled_parts.tree test) (related_body filled_parts body)) (pair filled_parts (related_alternatives filled_parts others) (related_otherwise filled_parts last))) (omega arith)

pub filled_guarded : (guard : Guard) (word : Token) (test : Tree) (body : Body) → depth (guarded guard word (filled test) (changed_body filling body)) ≤ depth_limit → guarded guard word (filled test) (changed_body filling body) ≡ guarded guard word test body
filled_guarded guard word test body le = part_filled (filled_parts.two (λ (first : Tree) (second : Body). guarded guard word first second) (filled_parts.tree test) (related_body filled_parts body)) (omega arith)

pub filled_case : (word : Token) (arms : Arms) (last : Otherwise) → depth (case_tree word (changed_arms filling arms) (changed_otherwise filling last)) ≤ depth_limit → case_tree word (changed_arms filling arms) (changed_otherwise filling last) ≡ case_tree word arms last
filled_case word arms last le = part_filled (filled_parts.two (λ (first : Arms) (second : Otherwise). case_tree word first second) (related_arms filled_parts arms) (related_otherwise filled_parts last)) (omega arith)

pub filled_select : (word : Token) (selected : Tree) (test : MaybeTree) (arms : Arms) (last : Otherwise) → depth (select_tree word (filled selected) (changed_maybe filling test) (changed_arms filling arms) (changed_otherwise filling last)) ≤ depth_limit → select_tree word (filled selected) (changed_maybe filling test) (changed_arms filling arms) (changed_otherwise filling last) ≡ select_tree word selected test arms last
filled_select word selected test arms last le = part_filled (filled_parts.two (λ (front : Tree × MaybeTree) (back : Arms × Otherwise). select_tree word front.0 front.1 back.0 back.1) (pair filled_parts (filled_parts.tree selected) (related_maybe filled_parts test)) (pair filled_parts (related_arms filled_parts arms) (related_otherwise filled_parts last))) (omega arith)

pub filled_block : (word : Token) (exit : Option Token) (body : Body) (clauses : BlockClauses) → depth (block_tree word exit (changed_body filling body) (changed_clauses filling clauses)) ≤ depth_limit → block_tree word exit (changed_body filling body) (changed_clauses filling clauses) ≡ block_tree word exit body clauses
filled_block word exit body clauses le = part_filled (filled_parts.two (λ (first : Body) (second : BlockClauses). block_tree word exit first second) (related_body filled_parts body) (related_clauses filled_parts clauses)) (omega arith)

pub filled_for : (word : Token) (clauses : ForClauses) (stop : MaybeStop) (body : Body) (last : Otherwise) → depth (for_tree word (changed_for_clauses filling clauses) (changed_stop filling stop) (changed_body filling body) (changed_otherwise filling last)) ≤ depth_limit → for_tree word (changed_for_clauses filling clauses) (changed_stop filling stop) (changed_body filling body) (changed_otherwise filling last) ≡ for_tree word clauses stop body last
filled_for word clauses stop body last le = part_filled (filled_parts.two (λ (front : ForClauses × MaybeStop) (back : Body × Otherwise). for_tree word front.0 front.1 back.0 back.1) (pair filled_parts (related_for_clauses filled_parts clauses) (related_stop filled_parts stop)) (pair filled_parts (related_body filled_parts body) (related_otherwise filled_parts last))) (omega arith)

pub filled_method : (word : Token) (signature : Parameters) (body : Body) → depth (method_tree word (changed_parameters filling signature) (changed_body filling body)) ≤ depth_limit → method_tree word (changed_parameters filling signature) (changed_body filling body) ≡ method_tree word signature body
filled_method word signature body le = part_filled (filled_parts.two (λ (first : Parameters) (second : Body). method_tree word first second) (related_parameters filled_parts signature) (related_body filled_parts body)) (omega arith)

pub filled_union : (word : Token) (types : TypeTrees) → type_depth (union_type word (changed_types filling types)) ≤ depth_limit → union_type word (changed_types filling types) ≡ union_type word types
filled_union word types le = part_filled (filled_parts.one (λ (part : TypeTrees). union_type word part) (related_types filled_parts types)) (omega arith)

pub filled_list_item : (opener : Token) (items : Constants) (last : Tail) → constant_depth (list_item opener (changed_constants filling items) (changed_tail filling last)) ≤ depth_limit → list_item opener (changed_constants filling items) (changed_tail filling last) ≡ list_item opener items last
filled_list_item opener items last le = part_filled (filled_parts.two (λ (first : Constants) (second : Tail). list_item opener first second) (related_constants filled_parts items) (related_tail filled_parts last)) (omega arith)

pub filled_vector_item : (opener : Token) (items : Constants) → constant_depth (vector_item opener (changed_constants filling items)) ≤ depth_limit → vector_item opener (changed_constants filling items) ≡ vector_item opener items
filled_vector_item opener items le = part_filled (filled_parts.one (λ (part : Constants). vector_item opener part) (related_constants filled_parts items)) (omega arith)
