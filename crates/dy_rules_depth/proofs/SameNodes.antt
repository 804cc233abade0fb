-- Trees are the same to the limit where their parts are.
use Rattle.std.proofs.Common.{◌≡◌, Option}
use Rattle.dy_tree.specs.declared.token.Token.{Token}
use Rattle.dy_tree.specs.declared.roles.Precedence.{Precedence}
use Rattle.dy_tree.specs.declared.brackets.Guard.{Guard}
use Rattle.dy_rules.specs.ConstantTrees.{list_item, vector_item, Constants, Tail}
use Rattle.dy_rules.specs.Types.{union_type, TypeTrees}
use Rattle.dy_rules.specs.Trees.{Tree, assignment, operation, unary, call, element, member, list, vector, begin_tree, if_tree, guarded, case_tree, select_tree, block_tree, for_tree, method_tree, Parameters, BlockClauses, ForClauses, MaybeStop, MaybeTree, Body, Alternatives, Otherwise, Arms, Arguments}
use Rattle.dy_rules_depth.specs.Changes.{changed_constants, changed_tail, changed_types, changed_maybe, changed_parameters, changed_body, changed_arguments, changed_alternatives, changed_otherwise, changed_arms, changed_clauses, changed_for_clauses, changed_stop}
use Rattle.dy_rules_depth.specs.Capping.{capped, capped_type, capped_constant, capping}
use Rattle.dy_rules_depth.proofs.Nodes.{capped_assignment, capped_operation, capped_unary, capped_call, capped_element, capped_member, capped_list, capped_vector, capped_begin, capped_if, capped_guarded, capped_case, capped_select, capped_block, capped_for, capped_method, capped_union, capped_list_item, capped_vector_item}

pub same_assignment : (place place' : Tree) (value value' : Tree) → capped place ≡ capped place' → capped value ≡ capped value' → capped (assignment place value) ≡ capped (assignment place' value')
same_assignment place place' value value' e1 e2 = cc (capped_assignment place value, capped_assignment place' value')

pub same_operation : (precedence : Precedence) (left left' : Tree) (operator : Token) (right right' : Tree) → capped left ≡ capped left' → capped right ≡ capped right' → capped (operation precedence left operator right) ≡ capped (operation precedence left' operator right')
same_operation precedence left left' operator right right' e1 e2 = cc (capped_operation precedence left operator right, capped_operation precedence left' operator right')

pub same_unary : (operator : Token) (operand operand' : Tree) → capped operand ≡ capped operand' → capped (unary operator operand) ≡ capped (unary operator operand')
same_unary operator operand operand' e = cc (capped_unary operator operand, capped_unary operator operand')

pub same_call : (function function' : Tree) (arguments arguments' : Arguments) → capped function ≡ capped function' → changed_arguments capping arguments ≡ changed_arguments capping arguments' → capped (call function arguments) ≡ capped (call function' arguments')
same_call function function' arguments arguments' e1 e2 = cc (capped_call function arguments, capped_call function' arguments')

pub same_element : (object object' : Tree) (opener : Token) (index index' : Tree) → capped object ≡ capped object' → capped index ≡ capped index' → capped (element object opener index) ≡ capped (element object' opener index')
same_element object object' opener index index' e1 e2 = cc (capped_element object opener index, capped_element object' opener index')

pub same_member : (object object' : Tree) (token : Token) → capped object ≡ capped object' → capped (member object token) ≡ capped (member object' token)
same_member object object' token e = cc (capped_member object token, capped_member object' token)

pub same_list : (opener : Token) (items items' : Constants) (last last' : Tail) → changed_constants capping items ≡ changed_constants capping items' → changed_tail capping last ≡ changed_tail capping last' → capped (list opener items last) ≡ capped (list opener items' last')
same_list opener items items' last last' e1 e2 = cc (capped_list opener items last, capped_list opener items' last')

pub same_vector : (opener : Token) (items items' : Constants) → changed_constants capping items ≡ changed_constants capping items' → capped (vector opener items) ≡ capped (vector opener items')
same_vector opener items items' e = cc (capped_vector opener items, capped_vector opener items')

pub same_begin : (word : Token) (body body' : Body) → changed_body capping body ≡ changed_body capping body' → capped (begin_tree word body) ≡ capped (begin_tree word body')
same_begin word body body' e = cc (capped_begin word body, capped_begin word body')

pub same_if : (word : Token) (test test' : Tree) (body body' : Body) (others others' : Alternatives) (last last' : Otherwise) → capped test ≡ capped test' → changed_body capping body ≡ changed_body capping body' → changed_alternatives capping others ≡ changed_alternatives capping others' → changed_otherwise capping last ≡ changed_otherwise capping last' → capped (if_tree word test body others last) ≡ capped (if_tree word test' body' others' last')
same_if word test test' body body' others others' last last' e1 e2 e3 e4 = cc (capped_if word test body others last, capped_if word test' body' others' last')

pub same_guarded : (guard : Guard) (word : Token) (test test' : Tree) (body body' : Body) → capped test ≡ capped test' → changed_body capping body ≡ changed_body capping body' → capped (guarded guard word test body) ≡ capped (guarded guard word test' body')
same_guarded guard word test test' body body' e1 e2 = cc (capped_guarded guard word test body, capped_guarded guard word test' body')

pub same_case : (word : Token) (arms arms' : Arms) (last last' : Otherwise) → changed_arms capping arms ≡ changed_arms capping arms' → changed_otherwise capping last ≡ changed_otherwise capping last' → capped (case_tree word arms last) ≡ capped (case_tree word arms' last')
same_case word arms arms' last last' e1 e2 = cc (capped_case word arms last, capped_case word arms' last')

pub same_select : (word : Token) (selected selected' : Tree) (test test' : MaybeTree) (arms arms' : Arms) (last last' : Otherwise) → capped selected ≡ capped selected' → changed_maybe capping test ≡ changed_maybe capping test' → changed_arms capping arms ≡ changed_arms capping arms' → changed_otherwise capping last ≡ changed_otherwise capping last' → capped (select_tree word selected test arms last) ≡ capped (select_tree word selected' test' arms' last')
same_select word selected selected' test test' arms arms' last last' e1 e2 e3 e4 = cc (capped_select word selected test arms last, capped_select word selected' test' arms' last')

pub same_block : (word : Token) (exit : Option Token) (body body' : Body) (clauses clauses' : BlockClauses) → changed_body capping body ≡ changed_body capping body' → changed_clauses capping clauses ≡ changed_clauses capping clauses' → capped (block_tree word exit body clauses) ≡ capped (block_tree word exit body' clauses')
same_block word exit body body' clauses clauses' e1 e2 = cc (capped_block word exit body clauses, capped_block word exit body' clauses')

pub same_for : (word : Token) (clauses clauses' : ForClauses) (stop stop' : MaybeStop) (body body' : Body) (last last' : Otherwise) → changed_for_clauses capping clauses ≡ changed_for_clauses capping clauses' → changed_stop capping stop ≡ changed_stop capping stop' → changed_body capping body ≡ changed_body capping body' → changed_otherwise capping last ≡ changed_otherwise capping last' → capped (for_tree word clauses stop body last) ≡ capped (for_tree word clauses' stop' body' last')
same_for word clauses clauses' stop stop' body body' last last' e1 e2 e3 e4 = cc (capped_for word clauses stop body last, capped_for word clauses' stop' body' last')

pub same_method : (word : Token) (signature signature' : Parameters) (body body' : Body) → changed_parameters capping signature ≡ changed_parameters capping signature' → changed_body capping body ≡ changed_body capping body' → capped (method_tree word signature body) ≡ capped (method_tree word signature' body')
same_method word signature signature' body body' e1 e2 = cc (capped_method word signature body, capped_method word signature' body')

pub same_union : (word : Token) (types types' : TypeTrees) → changed_types capping types ≡ changed_types capping types' → capped_type (union_type word types) ≡ capped_type (union_type word types')
same_union word types types' e = cc (capped_union word types, capped_union word types')

pub same_list_item : (opener : Token) (items items' : Constants) (last last' : Tail) → changed_constants capping items ≡ changed_constants capping items' → changed_tail capping last ≡ changed_tail capping last' → capped_constant (list_item opener items last) ≡ capped_constant (list_item opener items' last')
same_list_item opener items items' last last' e1 e2 = cc (capped_list_item opener items last, capped_list_item opener items' last')

pub same_vector_item : (opener : Token) (items items' : Constants) → changed_constants capping items ≡ changed_constants capping items' → capped_constant (vector_item opener items) ≡ capped_constant (vector_item opener items')
same_vector_item opener items items' e = cc (capped_vector_item opener items, capped_vector_item opener items')
