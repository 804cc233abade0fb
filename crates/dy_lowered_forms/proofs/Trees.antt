-- What is read of a tree of which every construct runs is plain, by induction over trees.
use Rattle.std.proofs.Common.{◌≡◌, ℕ, zero, suc, Bool, true, false, not, ◌&&◌, List, [], ◌∷◌, ◌++◌, length, map, flat_map, Option, Some, None, refl, sym, ap, ◌∙◌}
use Rattle.std.specs.Prelude.{is_some, codes, if◌then◌else◌}
use Rattle.std.specs.List.{list_all}
use Rattle.dy_tree.specs.declared.token.Token.{Token}
use Rattle.dy_tree.specs.declared.roles.Precedence.{Precedence}
use Rattle.dy_tree.specs.declared.roles.Precedence.TheVariants as precedences
use Rattle.dy_tree.specs.declared.brackets.Guard.{Guard}
use Rattle.dy_tree.specs.declared.brackets.Guard.TheVariants as guards
use Rattle.dy_tree.specs.Spelling.{is_spelled}
use Rattle.dy_rules.specs.Types.{RequiredTree, ResultTree, TargetTree}
use Rattle.dy_rules.specs.Trees as source
use Rattle.dy_rules.specs.Trees.{Tree, Arguments, Argument, Body, ItemTree, Alternatives, Otherwise}
use Rattle.dy_rules.specs.Trees.{Arms, Tests, MaybeTree, MaybeStop, MaybeLimit, MaybeKeys}
use Rattle.dy_rules.specs.Trees.{Parameters, LocalMethods, ForClauses, ForClause}
use Rattle.dy_term.specs.Drafts.{Core, Cores, CoreItem, CoreItems, cores_of, choice_of, arms_of}
use Rattle.dy_term.specs.Drafts.{methods_of, clauses_of, items_of, hidden, run, CoreArm, CoreLambda}
use Rattle.dy_term.specs.Drafts.{CoreClause}
use Rattle.dy_term.specs.Drafts as drafts
use Rattle.dy_construct_parts.specs.declared.construct.Construct.{Construct}
use Rattle.dy_construct_parts.specs.declared.construct.Construct.TheVariants as constructs
use Rattle.dy_construct_parts.specs.Table.{where_given}
use Rattle.dy_construct_parts.specs.Words.{binary, unary, guarded, next_method}
use Rattle.dy_construct_parts.specs.Parts.{in_variable, in_target, in_all_required, in_results}
use Rattle.dy_constructs.specs.Bodies.{more_arguments, more_items, as_function, as_value, as_test}
use Rattle.dy_constructs.specs.Bodies.{in_tree, in_arguments, in_each_argument, in_argument}
use Rattle.dy_constructs.specs.Bodies.{in_body, in_items, in_item, in_methods, in_method}
use Rattle.dy_constructs.specs.Bodies.{in_parameters, in_keys, in_maybe, in_alternatives}
use Rattle.dy_constructs.specs.Bodies.{in_alternative, in_else, in_last, in_arms, in_arm, in_tests}
use Rattle.dy_constructs.specs.Bodies.{in_loop, in_loop_clause, in_limit, in_stop}
use Rattle.dy_drafts.specs.Parts.{false_core, true_core, call_named, choose, not_core, unary_name}
use Rattle.dy_drafts.specs.Parts.{bodied, hide, hide_from, hidden_terms, setting, setter_at}
use Rattle.dy_drafts.specs.Parts.{first_or_false}
use Rattle.dy_desugar.specs.Table.{operation_core, guarded_core, core_of, assignment_of}
use Rattle.dy_desugar.specs.Table.{arguments_of, argument_of, items_in, item_of, local_methods_of}
use Rattle.dy_desugar.specs.Table.{defaults_of, alternatives_of, or_false, maybe_body, maybe_of}
use Rattle.dy_desugar.specs.Table.{tests_of, cases_of, select_arms, for_clauses_of, for_clause_of}
use Rattle.dy_desugar.specs.Table.{bound_of, stop_of, params_of, lambda_from, first_token}
use Rattle.dy_scoped_rows.proofs.terms.Facts.{untrue, both_true, and_true}
use Rattle.dy_lowered_forms.specs.drafts.Kinds as kinds
use Rattle.dy_lowered_forms.specs.drafts.Kinds.{names_next, takes_plainly}
use Rattle.dy_lowered_forms.specs.Table.{runs}
use Rattle.dy_lowered_forms.specs.Forms.{any_literal}
use Rattle.dy_lowered_forms.proofs.Lists.{Run, first_runs, others_run, left, right, together}
use Rattle.dy_lowered_forms.proofs.Lists.{of_three, of_four, of_five}
use Rattle.dy_lowered_forms.proofs.Names.{binary_named, unary_name_named, name_named, setter_named}

abbrev pub Plain : Core → Type 0
Plain core = kinds.term_with any_literal core ≡ true

abbrev pub term_is : Core → Bool
term_is = kinds.term_with any_literal

abbrev pub terms_are : List Core → Bool
terms_are cores = list_all term_is cores

abbrev pub items_are : List CoreItem → Bool
items_are items = list_all (kinds.item_with any_literal) items

pub cores_plain : (cores : List Core) → terms_are cores ≡ true → kinds.terms_with any_literal (cores_of cores) ≡ true
cores_plain [] plain = refl
cores_plain (core ∷ cores) plain =
    let h = both_true (term_is core) (terms_are cores) plain in
    and_true (term_is core) _ h.0 (cores_plain cores h.1)

items_plain : (items : List CoreItem) → items_are items ≡ true → kinds.items_with any_literal (items_of items) ≡ true
items_plain [] plain = refl
items_plain (item ∷ items) plain =
    let h = both_true (kinds.item_with any_literal item) (items_are items) plain in
    and_true (kinds.item_with any_literal item) _ h.0 (items_plain items h.1)

behind : {A : Type 0} (f : A → Bool) (xs ys : List A) → list_all f xs ≡ true → list_all f ys ≡ true → list_all f (xs ++ ys) ≡ true
behind f [] ys h g = g
behind f (x ∷ xs) ys h g =
    let p = both_true (f x) (list_all f xs) h in
    and_true (f x) (list_all f (xs ++ ys)) p.0 (behind f xs ys p.1 g)

pub named_plain : (token : Token) (arguments : List Core) → not (names_next token) ≡ true → terms_are arguments ≡ true
    → Plain (call_named token arguments)
named_plain token arguments other plain = and_true (not (names_next token)) _ other (cores_plain arguments plain)

two_plain : (one other : Core) → Plain one → Plain other → terms_are (one ∷ other ∷ []) ≡ true
two_plain one other h g = and_true (term_is one) _ h (and_true (term_is other) true g refl)

one_plain : (one : Core) → Plain one → terms_are (one ∷ []) ≡ true
one_plain one h = and_true (term_is one) true h refl

-- assignments to what is no name
hide_plain : (n : ℕ) (cores : List Core) → terms_are cores ≡ true → items_are (hide_from n cores) ≡ true
hide_plain n [] plain = refl
hide_plain n (core ∷ cores) plain =
    let h = both_true (term_is core) (terms_are cores) plain in
    and_true (term_is core) _ h.0 (hide_plain (suc n) cores h.1)

hidden_plain : (n : ℕ) → terms_are (hidden_terms n) ≡ true
hidden_plain zero = refl
hidden_plain (suc n) = behind term_is (hidden_terms n) (hidden n ∷ []) (hidden_plain n) refl

setting_plain : (setter : Token) (operands : List Core) (value : Core) → not (names_next setter) ≡ true → terms_are operands ≡ true
    → Plain value → Plain (setting setter operands value)
setting_plain setter operands value other plain given =
    let last = length operands in
    let called = call_named setter (hidden last ∷ hidden_terms last) in
    items_plain (hide_from 0 operands ++ hide last value ∷ run called ∷ run (hidden last) ∷ [])
    (behind (kinds.item_with any_literal) (hide_from 0 operands) (hide last value ∷ run called ∷ run (hidden last) ∷ [])
    (hide_plain 0 operands plain)
    (and_true (term_is value) _ given
    (and_true (term_is called) _ (named_plain setter (hidden last ∷ hidden_terms last) other (hidden_plain last)) refl)))

-- operations
by_and : (b : Bool) (l r : Core) → Plain l → Plain r → Plain (if b then drafts.and l r else drafts.or l r)
by_and true l r h g = and_true (term_is l) (term_is r) h g
by_and false l r h g = and_true (term_is l) (term_is r) h g

operation_plain : (precedence : Precedence) (operator : Token) (l r : Core) → runs (binary operator) ≡ true → Plain l → Plain r
    → Plain (operation_core precedence operator l r)
operation_plain precedences.Power operator l r is h g = named_plain operator (l ∷ r ∷ []) (binary_named operator is) (two_plain l r h g)
operation_plain precedences.Product operator l r is h g = named_plain operator (l ∷ r ∷ []) (binary_named operator is) (two_plain l r h g)
operation_plain precedences.Sum operator l r is h g = named_plain operator (l ∷ r ∷ []) (binary_named operator is) (two_plain l r h g)
operation_plain precedences.Comparison operator l r is h g = named_plain operator (l ∷ r ∷ []) (binary_named operator is) (two_plain l r h g)
operation_plain precedences.Logical operator l r is h g = by_and (is_spelled (codes "&") operator) l r h g

choose_plain : (test chosen other : Core) → Plain test → Plain chosen → Plain other → Plain (choose test chosen other)
choose_plain test chosen other h g k =
    and_true (term_is test && term_is chosen) (term_is other) (and_true (term_is test) (term_is chosen) h g) k

guarded_plain : (guard : Guard) (test inner : Core) → Plain test → Plain inner → Plain (guarded_core guard test inner)
guarded_plain guards.Unless test inner h g = choose_plain test false_core inner h refl g
guarded_plain guards.While test inner h g = and_true (term_is test) (term_is inner) h g
guarded_plain guards.Until test inner h g =
    and_true (term_is (not_core test)) (term_is inner) (choose_plain test false_core true_core h refl refl) g

first_plain : (cores : List Core) → terms_are cores ≡ true → Plain (first_or_false cores)
first_plain [] plain = refl
first_plain (core ∷ cores) plain = (both_true (term_is core) (terms_are cores) plain).0

choice_plain : (pairs : List (Core × Core)) (last : Core) → list_all (λ (p : Core × Core). term_is p.0 && term_is p.1) pairs ≡ true → Plain last
    → kinds.choice_with any_literal (choice_of pairs last) ≡ true
choice_plain [] last plain end = end
choice_plain (pair ∷ pairs) last plain end =
    let h = both_true (term_is pair.0 && term_is pair.1) (list_all (λ (p : Core × Core). term_is p.0 && term_is p.1) pairs) plain in
    and_true (term_is pair.0 && term_is pair.1) _ h.0 (choice_plain pairs last h.1 end)

abbrev arm_is : CoreArm → Bool
arm_is arm = terms_are arm.values && term_is arm.body

arms_plain : (arms : List CoreArm) → list_all arm_is arms ≡ true → kinds.arms_with any_literal (arms_of arms) ≡ true
arms_plain [] plain = refl
arms_plain (arm ∷ arms) plain =
    let h = both_true (arm_is arm) (list_all arm_is arms) plain in
    let g = both_true (terms_are arm.values) (term_is arm.body) h.0 in
    and_true (kinds.terms_with any_literal (cores_of arm.values) && term_is arm.body) _
    (and_true (kinds.terms_with any_literal (cores_of arm.values)) (term_is arm.body) (cores_plain arm.values g.0) g.1)
    (arms_plain arms h.1)

abbrev lambda_is : CoreLambda → Bool
lambda_is = kinds.lambda_with any_literal

all_methods_plain : (methods : List (Token × CoreLambda)) → list_all (λ (m : Token × CoreLambda). lambda_is m.1) methods ≡ true
    → kinds.methods_with any_literal (methods_of methods) ≡ true
all_methods_plain [] plain = refl
all_methods_plain (method ∷ methods) plain =
    let h = both_true (lambda_is method.1) (list_all (λ (m : Token × CoreLambda). lambda_is m.1) methods) plain in
    and_true (lambda_is method.1) _ h.0 (all_methods_plain methods h.1)

all_clauses_plain : (clauses : List CoreClause) → list_all (kinds.clause_with any_literal) clauses ≡ true
    → kinds.clauses_with any_literal (clauses_of clauses) ≡ true
all_clauses_plain [] plain = refl
all_clauses_plain (clause ∷ clauses) plain =
    let h = both_true (kinds.clause_with any_literal clause) (list_all (kinds.clause_with any_literal) clauses) plain in
    and_true (kinds.clause_with any_literal clause) _ h.0 (all_clauses_plain clauses h.1)

-- parameters
next_plain : (next : Option Token) → Run (where_given constructs.NextParameter next) → not (is_some next) ≡ true
next_plain None r = refl
next_plain (Some token) r = untrue r

keys_plain : (keys : MaybeKeys) → Run (in_keys keys) → keys ≡ source.no_keys
keys_plain source.no_keys r = refl
keys_plain (source.some_keys keys all) r = untrue r

pub parameters_plain : (row : Parameters) → Run (in_parameters row) → takes_plainly (params_of row) ≡ true
parameters_plain (source.parameters required next rest keys results) r =
    let h = of_five (in_all_required required) (where_given constructs.NextParameter next) (where_given constructs.RestParameter rest) (in_keys keys) (in_results results) r in
    and_true (not (is_some next)) _ (next_plain next h.1)
    (ap (λ (k : MaybeKeys). takes_plainly (params_of (source.parameters required None rest k results))) (keys_plain keys h.3))

-- an assignment to a call
called_plain : (function : Tree) (arguments : Arguments) (at value : Core) → terms_are (arguments_of arguments) ≡ true → Plain at → Plain value
    → Plain (assignment_of (source.call function arguments) at value)
called_plain (source.name token) arguments at value plain h g = setting_plain (setter_at token) (arguments_of arguments) value (setter_named token) plain g
called_plain (source.assignment place other) arguments at value plain h g = and_true (term_is at) (term_is value) h g
called_plain (source.operation precedence left_ operator right_) arguments at value plain h g = and_true (term_is at) (term_is value) h g
called_plain (source.unary operator operand) arguments at value plain h g = and_true (term_is at) (term_is value) h g
called_plain (source.call function more) arguments at value plain h g = and_true (term_is at) (term_is value) h g
called_plain (source.element inner opener index) arguments at value plain h g = and_true (term_is at) (term_is value) h g
called_plain (source.member inner token) arguments at value plain h g = and_true (term_is at) (term_is value) h g
called_plain (source.literal form) arguments at value plain h g = and_true (term_is at) (term_is value) h g
called_plain (source.list opener items last) arguments at value plain h g = and_true (term_is at) (term_is value) h g
called_plain (source.vector opener items) arguments at value plain h g = and_true (term_is at) (term_is value) h g
called_plain (source.begin_tree word body) arguments at value plain h g = and_true (term_is at) (term_is value) h g
called_plain (source.if_tree word test body alternatives other) arguments at value plain h g = and_true (term_is at) (term_is value) h g
called_plain (source.guarded guard word test body) arguments at value plain h g = and_true (term_is at) (term_is value) h g
called_plain (source.case_tree word arms other) arguments at value plain h g = and_true (term_is at) (term_is value) h g
called_plain (source.select_tree word selected test arms other) arguments at value plain h g = and_true (term_is at) (term_is value) h g
called_plain (source.block_tree word exit body clauses) arguments at value plain h g = and_true (term_is at) (term_is value) h g
called_plain (source.for_tree word clauses stop body finally) arguments at value plain h g = and_true (term_is at) (term_is value) h g
called_plain (source.method_tree word row body) arguments at value plain h g = and_true (term_is at) (term_is value) h g

mutual
  pub tree_plain : (tree : Tree) → Run (in_tree tree) → Plain (core_of tree)
  tree_plain (source.assignment place value) r =
      let place_run = left (in_tree place) (as_value value ++ in_tree value) r in
      let value_run = right (in_tree place) (as_value value ++ in_tree value) r in
      assignment_plain place (core_of place) (core_of value) place_run (tree_plain place place_run)
      (tree_plain value (right (as_value value) (in_tree value) value_run))
  tree_plain (source.operation precedence left_ operator right_) r =
      let parts = (as_value left_ ++ in_tree left_) ++ (as_value right_ ++ in_tree right_) in
      let r1 = others_run (binary operator) parts r in
      let first = left (as_value left_ ++ in_tree left_) (as_value right_ ++ in_tree right_) r1 in
      let second = right (as_value left_ ++ in_tree left_) (as_value right_ ++ in_tree right_) r1 in
      operation_plain precedence operator (core_of left_) (core_of right_) (first_runs (binary operator) parts r)
      (tree_plain left_ (right (as_value left_) (in_tree left_) first))
      (tree_plain right_ (right (as_value right_) (in_tree right_) second))
  tree_plain (source.unary operator operand) r =
      let parts = as_value operand ++ in_tree operand in
      let r1 = others_run (unary operator) parts r in
      named_plain (unary_name operator) (core_of operand ∷ []) (unary_name_named operator (first_runs (unary operator) parts r))
      (one_plain (core_of operand) (tree_plain operand (right (as_value operand) (in_tree operand) r1)))
  tree_plain (source.call function arguments) r =
      let f = left (as_function function ++ in_tree function) (in_arguments arguments) r in
      let a = right (as_function function ++ in_tree function) (in_arguments arguments) r in
      and_true (term_is (core_of function)) _ (tree_plain function (right (as_function function) (in_tree function) f))
      (cores_plain (arguments_of arguments) (arguments_plain arguments (any_arguments arguments a)))
  tree_plain (source.element inner opener index) r = untrue r
  tree_plain (source.member inner token) r =
      let named = left (next_method token) (as_value inner ++ in_tree inner) r in
      let held = right (next_method token) (as_value inner ++ in_tree inner) r in
      named_plain token (core_of inner ∷ []) (name_named token named)
      (one_plain (core_of inner) (tree_plain inner (right (as_value inner) (in_tree inner) held)))
  tree_plain (source.literal value) r = refl
  tree_plain (source.name token) r = name_named token r
  tree_plain (source.list opener items last) r = refl
  tree_plain (source.vector opener items) r = refl
  tree_plain (source.begin_tree word body) r = body_plain body r
  tree_plain (source.method_tree word row body) r =
      and_true (takes_plainly (params_of row)) (term_is (bodied (items_in body))) (parameters_plain row (left (in_parameters row) (in_body body) r))
      (body_plain body (right (in_parameters row) (in_body body) r))
  tree_plain (source.if_tree word test body alternatives other) r =
      let h = of_four (as_test test ++ in_tree test) (in_body body) (in_alternatives alternatives) (in_else other) r in
      let pairs = (core_of test, bodied (items_in body)) ∷ alternatives_of alternatives in
      choice_plain pairs (or_false other)
      (and_true (term_is (core_of test) && term_is (bodied (items_in body))) _
      (and_true (term_is (core_of test)) (term_is (bodied (items_in body))) (tree_plain test (right (as_test test) (in_tree test) h.0)) (body_plain body h.1))
      (alternatives_plain alternatives h.2))
      (else_plain other h.3)
  tree_plain (source.guarded guard word test body) r =
      let r1 = others_run (guarded guard) ((as_test test ++ in_tree test) ++ in_body body) r in
      let test_run = left (as_test test ++ in_tree test) (in_body body) r1 in
      guarded_plain guard (core_of test) (bodied (items_in body))
      (tree_plain test (right (as_test test) (in_tree test) test_run))
      (body_plain body (right (as_test test ++ in_tree test) (in_body body) r1))
  tree_plain (source.case_tree word arms other) r =
      choice_plain (cases_of arms) (or_false other) (cases_plain arms (left (in_arms arms) (in_last constructs.Otherwise other) r))
      (last_plain constructs.Otherwise other (right (in_arms arms) (in_last constructs.Otherwise other) r))
  tree_plain (source.select_tree word value test arms other) r =
      let h = of_four (as_value value ++ in_tree value) (in_maybe constructs.SelectTest test) (in_arms arms) (in_last constructs.Otherwise other) r in
      and_true (term_is (core_of value)) _ (tree_plain value (right (as_value value) (in_tree value) h.0))
      (and_true (kinds.maybe_with any_literal (maybe_of test)) _ (maybe_plain constructs.SelectTest test h.1)
      (and_true (kinds.arms_with any_literal (arms_of (select_arms arms))) _ (arms_plain (select_arms arms) (select_arms_plain arms h.2))
      (maybe_body_plain constructs.Otherwise other h.3)))
  tree_plain (source.block_tree word exit body clauses) r = untrue r
  tree_plain (source.for_tree word clauses stop body finally) r =
      let h = of_four (in_loop clauses) (in_stop stop) (in_body body) (in_last constructs.Finally finally) r in
      and_true (kinds.clauses_with any_literal (clauses_of (for_clauses_of clauses))) _ (all_clauses_plain (for_clauses_of clauses) (loop_plain clauses h.0))
      (and_true (kinds.test_with any_literal (stop_of stop)) _ (stop_plain stop h.1)
      (and_true (term_is (bodied (items_in body))) _ (body_plain body h.2) (maybe_body_plain constructs.Finally finally h.3)))

  any_arguments : (arguments : Arguments) → Run (in_arguments arguments) → Run (in_each_argument arguments)
  any_arguments source.no_argument r = refl
  any_arguments (source.argument_and first rest) r =
      let h = of_three (more_arguments rest) (in_argument first) (in_each_argument rest) r in
      together (in_argument first) (in_each_argument rest) h.1 h.2

  pub arguments_plain : (arguments : Arguments) → Run (in_each_argument arguments) → terms_are (arguments_of arguments) ≡ true
  arguments_plain source.no_argument r = refl
  arguments_plain (source.argument_and (source.keyword symbol value) rest) r = untrue r
  arguments_plain (source.argument_and (source.value tree) rest) r =
      let here = left (as_value tree ++ in_tree tree) (in_each_argument rest) r in
      and_true (term_is (core_of tree)) _ (tree_plain tree (right (as_value tree) (in_tree tree) here))
      (arguments_plain rest (right (as_value tree ++ in_tree tree) (in_each_argument rest) r))

  pub body_plain : (body : Body) → Run (in_body body) → Plain (bodied (items_in body))
  body_plain source.no_item r = refl
  body_plain (source.item_and first rest) r =
      let h = of_three (more_items rest) (in_item first) (in_items rest) r in
      items_plain (item_of first ∷ items_in rest)
      (and_true (kinds.item_with any_literal (item_of first)) _ (item_plain first h.1) (rest_plain rest h.2))

  rest_plain : (body : Body) → Run (in_items body) → items_are (items_in body) ≡ true
  rest_plain source.no_item r = refl
  rest_plain (source.item_and first rest) r =
      and_true (kinds.item_with any_literal (item_of first)) _ (item_plain first (left (in_item first) (in_items rest) r))
      (rest_plain rest (right (in_item first) (in_items rest) r))

  item_plain : (item : ItemTree) → Run (in_item item) → kinds.item_with any_literal (item_of item) ≡ true
  item_plain (source.let_item word target value) r =
      tree_plain value (right (as_value value) (in_tree value) (right (in_target target) (as_value value ++ in_tree value) r))
  item_plain (source.handler_item word condition function) r = untrue r
  item_plain (source.local_item word methods) r =
      all_methods_plain (local_methods_of methods) (methods_plain methods r)
  item_plain (source.expression_item tree) r = tree_plain tree (right (as_value tree) (in_tree tree) r)

  methods_plain : (methods : LocalMethods) → Run (in_methods methods)
      → list_all (λ (m : Token × CoreLambda). lambda_is m.1) (local_methods_of methods) ≡ true
  methods_plain source.no_method r = refl
  methods_plain (source.method_and (source.local_method word token row body) rest) r =
      let here = left (in_parameters row ++ in_body body) (in_methods rest) r in
      and_true (lambda_is (lambda_from row (defaults_of row) (bodied (items_in body)))) _
      (and_true (takes_plainly (params_of row)) (term_is (bodied (items_in body))) (parameters_plain row (left (in_parameters row) (in_body body) here))
      (body_plain body (right (in_parameters row) (in_body body) here)))
      (methods_plain rest (right (in_parameters row ++ in_body body) (in_methods rest) r))

  alternatives_plain : (alternatives : Alternatives) → Run (in_alternatives alternatives)
      → list_all (λ (p : Core × Core). term_is p.0 && term_is p.1) (alternatives_of alternatives) ≡ true
  alternatives_plain source.no_alternative r = refl
  alternatives_plain (source.alternative_and (source.alternative test body) rest) r =
      let here : Run ((as_test test ++ in_tree test) ++ in_body body) = left (constructs.Elseif ∷ ((as_test test ++ in_tree test) ++ in_body body)) (in_alternatives rest) r in
      let test_run = left (as_test test ++ in_tree test) (in_body body) here in
      and_true (term_is (core_of test) && term_is (bodied (items_in body))) _
      (and_true (term_is (core_of test)) (term_is (bodied (items_in body)))
      (tree_plain test (right (as_test test) (in_tree test) test_run))
      (body_plain body (right (as_test test ++ in_tree test) (in_body body) here)))
      (alternatives_plain rest (right (constructs.Elseif ∷ ((as_test test ++ in_tree test) ++ in_body body)) (in_alternatives rest) r))

  else_plain : (other : Otherwise) → Run (in_else other) → Plain (or_false other)
  else_plain source.no_otherwise r = refl
  else_plain (source.otherwise body) r = body_plain body r

  last_plain : (construct : Construct) (other : Otherwise) → Run (in_last construct other) → Plain (or_false other)
  last_plain construct source.no_otherwise r = refl
  last_plain construct (source.otherwise body) r = body_plain body (others_run construct (in_body body) r)

  maybe_body_plain : (construct : Construct) (other : Otherwise) → Run (in_last construct other)
      → kinds.maybe_with any_literal (maybe_body other) ≡ true
  maybe_body_plain construct source.no_otherwise r = refl
  maybe_body_plain construct (source.otherwise body) r = body_plain body (others_run construct (in_body body) r)

  maybe_plain : (construct : Construct) (tree : MaybeTree) → Run (in_maybe construct tree)
      → kinds.maybe_with any_literal (maybe_of tree) ≡ true
  maybe_plain construct source.no_tree r = refl
  maybe_plain construct (source.some_tree tree) r =
      tree_plain tree (right (as_value tree) (in_tree tree) (others_run construct (as_value tree ++ in_tree tree) r))

  tests_plain : (tests : Tests) → Run (in_tests tests) → terms_are (tests_of tests) ≡ true
  tests_plain source.no_test r = refl
  tests_plain (source.test_and first rest) r =
      let here = left (as_value first ++ in_tree first) (in_tests rest) r in
      and_true (term_is (core_of first)) _ (tree_plain first (right (as_value first) (in_tree first) here))
      (tests_plain rest (right (as_value first ++ in_tree first) (in_tests rest) r))

  cases_plain : (arms : Arms) → Run (in_arms arms)
      → list_all (λ (p : Core × Core). term_is p.0 && term_is p.1) (cases_of arms) ≡ true
  cases_plain source.no_arm r = refl
  cases_plain (source.arm_and (source.arm tests body) rest) r =
      let here = left (in_tests tests ++ in_body body) (in_arms rest) r in
      and_true (term_is (first_or_false (tests_of tests)) && term_is (bodied (items_in body))) _
      (and_true (term_is (first_or_false (tests_of tests))) (term_is (bodied (items_in body)))
      (first_plain (tests_of tests) (tests_plain tests (left (in_tests tests) (in_body body) here)))
      (body_plain body (right (in_tests tests) (in_body body) here)))
      (cases_plain rest (right (in_tests tests ++ in_body body) (in_arms rest) r))

  select_arms_plain : (arms : Arms) → Run (in_arms arms) → list_all arm_is (select_arms arms) ≡ true
  select_arms_plain source.no_arm r = refl
  select_arms_plain (source.arm_and (source.arm tests body) rest) r =
      let here = left (in_tests tests ++ in_body body) (in_arms rest) r in
      and_true (terms_are (tests_of tests) && term_is (bodied (items_in body))) _
      (and_true (terms_are (tests_of tests)) (term_is (bodied (items_in body)))
      (tests_plain tests (left (in_tests tests) (in_body body) here))
      (body_plain body (right (in_tests tests) (in_body body) here)))
      (select_arms_plain rest (right (in_tests tests ++ in_body body) (in_arms rest) r))

  loop_plain : (clauses : ForClauses) → Run (in_loop clauses)
      → list_all (kinds.clause_with any_literal) (for_clauses_of clauses) ≡ true
  loop_plain source.no_for_clause r = refl
  loop_plain (source.for_clause_and first rest) r =
      and_true (kinds.clause_with any_literal (for_clause_of first)) _ (clause_plain first (left (in_loop_clause first) (in_loop rest) r))
      (loop_plain rest (right (in_loop_clause first) (in_loop rest) r))

  clause_plain : (clause : ForClause) → Run (in_loop_clause clause) → kinds.clause_with any_literal (for_clause_of clause) ≡ true
  clause_plain (source.then_clause variable first next) r =
      let h = of_three (in_variable constructs.TypedVariable variable) (as_value first ++ in_tree first) (as_value next ++ in_tree next) r in
      and_true (term_is (core_of first)) (term_is (core_of next)) (tree_plain first (right (as_value first) (in_tree first) h.1))
      (tree_plain next (right (as_value next) (in_tree next) h.2))
  clause_plain (source.in_clause variable collection) r = untrue r
  clause_plain (source.from_clause variable start limit step) r =
      let h = of_four (in_variable constructs.TypedVariable variable) (as_value start ++ in_tree start) (in_limit limit) (in_maybe constructs.Step step) r in
      and_true (term_is (core_of start)) _ (tree_plain start (right (as_value start) (in_tree start) h.1))
      (and_true (kinds.limit_with any_literal (bound_of limit)) _ (limit_plain limit h.2) (maybe_plain constructs.Step step h.3))

  limit_plain : (limit : MaybeLimit) → Run (in_limit limit) → kinds.limit_with any_literal (bound_of limit) ≡ true
  limit_plain source.no_limit r = refl
  limit_plain (source.a_limit word bound) r =
      tree_plain bound (right (as_value bound) (in_tree bound) r)

  stop_plain : (stop : MaybeStop) → Run (in_stop stop) → kinds.test_with any_literal (stop_of stop) ≡ true
  stop_plain source.no_stop r = refl
  stop_plain (source.a_stop symbol test) r =
      tree_plain test (right (as_value test) (in_tree test) r)

  -- an assignment, from the cores of its place and of its value
  assignment_plain : (place : Tree) (at value : Core) → Run (in_tree place) → Plain at → Plain value → Plain (assignment_of place at value)
  assignment_plain (source.name token) at value r h g = g
  assignment_plain (source.call function arguments) at value r h g =
      let a = right (as_function function ++ in_tree function) (in_arguments arguments) r in
      called_plain function arguments at value (arguments_plain arguments (any_arguments arguments a)) h g
  assignment_plain (source.element inner opener index) at value r h g = untrue r
  assignment_plain (source.member inner token) at value r h g =
      let r2 = right (next_method token) (as_value inner ++ in_tree inner) r in
      setting_plain (setter_at token) (core_of inner ∷ []) value (setter_named token)
      (one_plain (core_of inner) (tree_plain inner (right (as_value inner) (in_tree inner) r2))) g
  assignment_plain (source.assignment place other) at value r h g = and_true (term_is at) (term_is value) h g
  assignment_plain (source.operation precedence left_ operator right_) at value r h g = and_true (term_is at) (term_is value) h g
  assignment_plain (source.unary operator operand) at value r h g = and_true (term_is at) (term_is value) h g
  assignment_plain (source.literal form) at value r h g = and_true (term_is at) (term_is value) h g
  assignment_plain (source.list opener items last) at value r h g = and_true (term_is at) (term_is value) h g
  assignment_plain (source.vector opener items) at value r h g = and_true (term_is at) (term_is value) h g
  assignment_plain (source.begin_tree word body) at value r h g = and_true (term_is at) (term_is value) h g
  assignment_plain (source.if_tree word test body alternatives other) at value r h g = and_true (term_is at) (term_is value) h g
  assignment_plain (source.guarded guard word test body) at value r h g = and_true (term_is at) (term_is value) h g
  assignment_plain (source.case_tree word arms other) at value r h g = and_true (term_is at) (term_is value) h g
  assignment_plain (source.select_tree word selected test arms other) at value r h g = and_true (term_is at) (term_is value) h g
  assignment_plain (source.block_tree word exit body clauses) at value r h g = and_true (term_is at) (term_is value) h g
  assignment_plain (source.for_tree word clauses stop body finally) at value r h g = and_true (term_is at) (term_is value) h g
  assignment_plain (source.method_tree word row body) at value r h g = and_true (term_is at) (term_is value) h g

pub lambda_plain : (row : Parameters) (body : Body) → Run (in_parameters row) → Run (in_body body)
    → lambda_is (lambda_from row (defaults_of row) (bodied (items_in body))) ≡ true
lambda_plain row body parameters_run body_run =
    and_true (takes_plainly (params_of row)) (term_is (bodied (items_in body))) (parameters_plain row parameters_run) (body_plain body body_run)
