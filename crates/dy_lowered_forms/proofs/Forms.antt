-- The draft of a form of which every construct runs is plain.
use Rattle.std.proofs.Common.{◌≡◌, Bool, true, false, not, ◌&&◌, List, [], ◌∷◌, ◌++◌, map, flat_map, Option, Some, None, refl, sym, ap, ◌∙◌, subst}
use Rattle.std.specs.Prelude.{codes, if◌then◌else◌}
use Rattle.std.specs.Option.{option_map}
use Rattle.std.specs.List.{list_all}
use Rattle.std.specs.Str.{bytes_eq}
use Rattle.dy_tree.specs.declared.token.Token.{Token}
use Rattle.dy_tree.specs.declared.types.LiteralForm.{LiteralForm}
use Rattle.dy_tree.specs.Spelling.{is_spelled}
use Rattle.dy_rules.specs.Types.{TargetTree, one_target, several, VariableTree}
use Rattle.dy_rules.specs.Trees as source
use Rattle.dy_rules.specs.Trees.{Tree, Arguments, Argument, Parameters, Body}
use Rattle.dy_rules.specs.Forms as forms
use Rattle.dy_rules.specs.Forms.{FormTree}
use Rattle.dy_term.specs.Types.{CoreType}
use Rattle.dy_term.specs.Drafts.{Core}
use Rattle.dy_term.specs.Rows.{CoreTop}
use Rattle.dy_construct_parts.specs.declared.construct.Construct.TheVariants as constructs
use Rattle.dy_construct_parts.specs.Table.{where_given, where_true}
use Rattle.dy_construct_parts.specs.Words.{adjective}
use Rattle.dy_construct_parts.specs.Directives.{has_directives}
use Rattle.dy_construct_parts.specs.Parts.{in_variable, in_target, in_all_required, in_results}
use Rattle.dy_constructs.specs.Bodies.{as_value, in_tree, in_each_argument, in_body, in_parameters}
use Rattle.dy_constructs.specs.Bodies.{in_keys}
use Rattle.dy_constructs.specs.Forms.{count_arguments, names_format_out, text_in, argument_text}
use Rattle.dy_constructs.specs.Forms.{text_first, printing, in_expression_form}
use Rattle.dy_desugar.specs.Table.{core_of, arguments_of, lambda_of}
use Rattle.dy_drafts.specs.Parts.{with_rest}
use Rattle.dy_surface.specs.Forms.{initial, constant_by, constant_of, next_of, next_in, draft_of}
use Rattle.dy_surface.specs.TypeConstants.{constant_type}
use Rattle.dy_scoped_rows.proofs.terms.Facts.{no_fault, untrue, both_true, and_true}
use Rattle.dy_lowered_forms.specs.drafts.Kinds as kinds
use Rattle.dy_lowered_forms.specs.drafts.Kinds.{names_next, is_usual}
use Rattle.dy_lowered_forms.specs.Table.{runs}
use Rattle.dy_lowered_forms.specs.Forms.{any_literal, RunningFormsAreLowered}
use Rattle.dy_lowered_forms.proofs.Lists.{Run, left, right, of_three, of_five}
use Rattle.dy_lowered_forms.proofs.Names.{by_text, spelled}
use Rattle.dy_lowered_forms.proofs.Trees.{Plain, term_is, terms_are, cores_plain, tree_plain}
use Rattle.dy_lowered_forms.proofs.Trees.{arguments_plain, lambda_plain}

-- `format-out` does not mean the next method
format_named : (token : Token) → is_spelled (codes "format-out") token ≡ true → not (names_next token) ≡ true
format_named token is = by_text (names_next token) (λ next.
    untrue (sym (ap (λ text. bytes_eq text (codes "format-out")) (spelled token next)) ∙ is))

format_plain : (function : Tree) → names_format_out function ≡ true → Plain (core_of function)
format_plain (source.name token) is = format_named token is
format_plain (source.assignment place other) is = untrue is
format_plain (source.operation precedence left_ operator right_) is = untrue is
format_plain (source.unary operator operand) is = untrue is
format_plain (source.call function arguments) is = untrue is
format_plain (source.element inner opener index) is = untrue is
format_plain (source.member inner token) is = untrue is
format_plain (source.literal form) is = untrue is
format_plain (source.list opener items last) is = untrue is
format_plain (source.vector opener items) is = untrue is
format_plain (source.begin_tree word body) is = untrue is
format_plain (source.method_tree word row body) is = untrue is
format_plain (source.if_tree word test body alternatives other) is = untrue is
format_plain (source.guarded guard word test body) is = untrue is
format_plain (source.case_tree word arms other) is = untrue is
format_plain (source.select_tree word selected test arms other) is = untrue is
format_plain (source.block_tree word exit body clauses) is = untrue is
format_plain (source.for_tree word clauses stop body finally) is = untrue is

text_plain : (tree : Tree) (token : Token) → text_in tree ≡ Some token → Plain (core_of tree)
text_plain (source.literal form) token is = refl
text_plain (source.assignment place other) token is = absurd (no_fault token (sym is))
text_plain (source.operation precedence left_ operator right_) token is = absurd (no_fault token (sym is))
text_plain (source.unary operator operand) token is = absurd (no_fault token (sym is))
text_plain (source.call function arguments) token is = absurd (no_fault token (sym is))
text_plain (source.element inner opener index) token is = absurd (no_fault token (sym is))
text_plain (source.member inner name_) token is = absurd (no_fault token (sym is))
text_plain (source.name name_) token is = absurd (no_fault token (sym is))
text_plain (source.list opener items last) token is = absurd (no_fault token (sym is))
text_plain (source.vector opener items) token is = absurd (no_fault token (sym is))
text_plain (source.begin_tree word body) token is = absurd (no_fault token (sym is))
text_plain (source.method_tree word row body) token is = absurd (no_fault token (sym is))
text_plain (source.if_tree word test body alternatives other) token is = absurd (no_fault token (sym is))
text_plain (source.guarded guard word test body) token is = absurd (no_fault token (sym is))
text_plain (source.case_tree word arms other) token is = absurd (no_fault token (sym is))
text_plain (source.select_tree word selected test arms other) token is = absurd (no_fault token (sym is))
text_plain (source.block_tree word exit body clauses) token is = absurd (no_fault token (sym is))
text_plain (source.for_tree word clauses stop body finally) token is = absurd (no_fault token (sym is))

first_plain : (argument : Argument) (token : Token) (rest : Arguments) → argument_text argument ≡ Some token
    → terms_are (arguments_of rest) ≡ true → terms_are (arguments_of (source.argument_and argument rest)) ≡ true
first_plain (source.keyword symbol value) token rest is plain = absurd (no_fault token (sym is))
first_plain (source.value tree) token rest is plain =
    and_true (term_is (core_of tree)) (terms_are (arguments_of rest)) (text_plain tree token is) plain

abbrev behind_text : Option (Token × Arguments) → Arguments → Arguments
behind_text None other = other
behind_text (Some found) other = found.1

texts_plain : (argument : Argument) (rest : Arguments) (o : Option Token) → argument_text argument ≡ o → (found : Token × Arguments)
    → option_map (λ text. (text, rest)) o ≡ Some found → Run (in_each_argument found.1)
    → terms_are (arguments_of (source.argument_and argument rest)) ≡ true
texts_plain argument rest None is found same r = absurd (no_fault found (sym same))
texts_plain argument rest (Some token) is found same r =
    let rest_is : rest ≡ found.1 = ap (λ o. behind_text o rest) same in
    first_plain argument token rest is (arguments_plain rest (subst (λ a. Run (in_each_argument a)) (sym rest_is) r))

printed_plain : (arguments : Arguments) (found : Token × Arguments) → text_first arguments ≡ Some found → Run (in_each_argument found.1)
    → terms_are (arguments_of arguments) ≡ true
printed_plain source.no_argument found is r = absurd (no_fault found (sym is))
printed_plain (source.argument_and argument rest) found is r = texts_plain argument rest (argument_text argument) refl found is r

value_plain : (tree : Tree) → Run (constructs.ExpressionForm ∷ (as_value tree ++ in_tree tree)) → Plain (core_of tree)
value_plain tree r = tree_plain tree (right (as_value tree) (in_tree tree) r)

call_plain : (function : Tree) (arguments : Arguments) (b : Bool) → names_format_out function ≡ b
    → (o : Option (Token × Arguments)) → text_first arguments ≡ o
    → Run (in_expression_form (source.call function arguments) (if b then o else None))
    → Plain (core_of (source.call function arguments))
call_plain function arguments false is o text r = value_plain (source.call function arguments) r
call_plain function arguments true is None text r = value_plain (source.call function arguments) r
call_plain function arguments true is (Some found) text r =
    let r2 = right (where_true constructs.OtherDirectives (not (has_directives found.0.text (count_arguments found.1)))) (in_each_argument found.1) r in
    and_true (term_is (core_of function)) _ (format_plain function is)
    (cores_plain (arguments_of arguments) (printed_plain arguments found text r2))

expression_plain : (tree : Tree) → Run (in_expression_form tree (printing tree)) → Plain (core_of tree)
expression_plain (source.call function arguments) r =
    call_plain function arguments (names_format_out function) refl (text_first arguments) refl r
expression_plain (source.assignment place other) r = value_plain (source.assignment place other) r
expression_plain (source.operation precedence left_ operator right_) r = value_plain (source.operation precedence left_ operator right_) r
expression_plain (source.unary operator operand) r = value_plain (source.unary operator operand) r
expression_plain (source.element inner opener index) r = value_plain (source.element inner opener index) r
expression_plain (source.member inner token) r = value_plain (source.member inner token) r
expression_plain (source.literal form) r = value_plain (source.literal form) r
expression_plain (source.name token) r = value_plain (source.name token) r
expression_plain (source.list opener items last) r = value_plain (source.list opener items last) r
expression_plain (source.vector opener items) r = value_plain (source.vector opener items) r
expression_plain (source.begin_tree word body) r = value_plain (source.begin_tree word body) r
expression_plain (source.method_tree word row body) r = value_plain (source.method_tree word row body) r
expression_plain (source.if_tree word test body alternatives other) r = value_plain (source.if_tree word test body alternatives other) r
expression_plain (source.guarded guard word test body) r = value_plain (source.guarded guard word test body) r
expression_plain (source.case_tree word arms other) r = value_plain (source.case_tree word arms other) r
expression_plain (source.select_tree word selected test arms other) r = value_plain (source.select_tree word selected test arms other) r
expression_plain (source.block_tree word exit body clauses) r = value_plain (source.block_tree word exit body clauses) r
expression_plain (source.for_tree word clauses stop body finally) r = value_plain (source.for_tree word clauses stop body finally) r

abbrev top_is : CoreTop → Bool
top_is = kinds.top_with any_literal

initial_plain : (is_constant : Bool) (target : TargetTree) (term : Core) → Run (in_target target) → Plain term
    → top_is (initial is_constant target term) ≡ true
initial_plain is_constant (one_target variable) term r plain = plain
initial_plain is_constant (several variables None) term r plain = plain
initial_plain is_constant (several variables (Some rest)) term r plain =
    untrue (right (flat_map (in_variable constructs.TypedVariable) variables) (where_given constructs.RestVariable (Some rest)) r)

constant_by_plain : (variable : VariableTree) (meant : Option CoreType) (term : Core) → Plain term
    → kinds.form_with any_literal (constant_by variable meant term) ≡ true
constant_by_plain variable (Some meant) term plain = refl
constant_by_plain variable None term plain = plain

constant_plain : (target : TargetTree) (tree : Tree) → Run (in_target target) → Plain (core_of tree)
    → kinds.form_with any_literal (constant_of target tree) ≡ true
constant_plain (one_target variable) tree r plain = constant_by_plain variable (constant_type tree) (core_of tree) plain
constant_plain (several variables rest) tree r plain = initial_plain true (several variables rest) (core_of tree) r plain

next_gone : (next : Option Token) → Run (where_given constructs.NextParameter next) → next ≡ None
next_gone None r = refl
next_gone (Some token) r = untrue r

usual : (word : Token) (row : Parameters) → Run (in_parameters row) → is_usual (next_of word (next_in row)) ≡ true
usual word (source.parameters required next rest keys results) r =
    let h = of_five (in_all_required required) (where_given constructs.NextParameter next) (where_given constructs.RestParameter rest) (in_keys keys) (in_results results) r in
    ap (λ (o : Option Token). is_usual (next_of word o)) (next_gone next h.1)

pub forms_plain : RunningFormsAreLowered
forms_plain (forms.expression_form tree) r = expression_plain tree r
forms_plain (forms.class_form define adjectives token superclasses slots) r = untrue r
forms_plain (forms.constant_form define target value) r =
    constant_plain target value (left (in_target target) (as_value value ++ in_tree value) r)
    (tree_plain value (right (as_value value) (in_tree value) (right (in_target target) (as_value value ++ in_tree value) r)))
forms_plain (forms.variable_form define target value) r =
    initial_plain false target (core_of value) (left (in_target target) (as_value value ++ in_tree value) r)
    (tree_plain value (right (as_value value) (in_tree value) (right (in_target target) (as_value value ++ in_tree value) r)))
forms_plain (forms.generic_form define adjectives token row) r = untrue r
forms_plain (forms.method_form define adjectives word token row body) r =
    let h = of_three (map adjective adjectives) (in_parameters row) (in_body body) r in
    and_true (is_usual (next_of word (next_in row))) _ (usual word row h.1) (lambda_plain row body h.1 h.2)
forms_plain (forms.function_form define adjectives token row body) r =
    let h = of_three (map adjective adjectives) (in_parameters row) (in_body body) r in
    lambda_plain row body h.1 h.2
forms_plain (forms.domain_form define token types) r = untrue r
