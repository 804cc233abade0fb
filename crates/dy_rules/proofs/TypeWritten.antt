-- What types and variables are written as stands for them.
use Rattle.std.proofs.Common.{◌≡◌, Bool, true, false, not, ◌||◌, List, [], ◌∷◌, ◌++◌, codes, Option, Some, None, refl, sym, ap, subst, ◌∙◌, ◌&&◌}
use Rattle.std.proofs.lemmas.List.{append-nil}
use Rattle.std.specs.List.{list_any}
use Rattle.dy_tree.specs.declared.token.TokenKind.TheVariants as kinds
use Rattle.dy_tree.specs.declared.token.Token.{Token}
use Rattle.dy_tree.specs.declared.types.IntegerForm.{IntegerForm}
use Rattle.dy_tree.specs.Fragments.{SeenFragment, one, row, pack}
use Rattle.dy_tree.specs.declared.splitters.Splitting.{Splitting}
use Rattle.dy_rules.specs.Roles.{begun_by, splits}
use Rattle.dy_rules.specs.Types.{Single, IsSingle, of_literal, of_empty_list, of_name, Bound, IsInteger, plain_number, negative_number, AreBounds, no_bound, bound_and, TypeTree, types_of, TypeSort, a_type, some_types, IsType, by_name, by_singleton, by_union, by_limits, one_type, more_types, VariableTree, IsVariable, untyped, typed, is_splitting, binds_plainly, Bind, last_bound, rest_bound, more_bound, TargetTree, IsTarget, by_variable, by_nothing, by_brackets, Give, last_given, rest_given, more_given, ResultTree, several_results, one_result, by_result, by_no_results, by_results, ResultsPart, no_results, some_results, apart, variable_apart, takes_brackets, RequiredTree, IsRequired, any_value, one_value}
use Rattle.dy_rules.specs.Marks.{made, mark, in_round, written_integer, written_literal, comma_mark, semicolon_mark}
use Rattle.dy_rules.specs.TypeWriting.{written_single, written_bounds, written_type, written_types, types_behind, written_variable, written_bound, written_target, written_given, written_results, written_required}
use Rattle.dy_rules.proofs.Lists.{row_pack}
use Rattle.dy_rules.proofs.Inner.{splits_no_splitter}
use Rattle.dy_rules.proofs.WrittenConstants.{literal_written, list_closed}

abbrev Fragments : Type 0
Fragments = List SeenFragment

pub single_writes : (single : Single) (fragments : Fragments) → IsSingle single fragments → IsSingle single (written_single single)
single_writes single fragments (of_literal form all h) = of_literal form (written_literal form) (literal_written form all h)
single_writes single fragments (of_empty_list opener closer is) = of_empty_list opener (mark (codes ")")) (list_closed (begun_by opener) closer is)
single_writes single fragments (of_name token is) = of_name token is

integer_writes : (number : IntegerForm) (fragments : Fragments) → IsInteger number fragments → IsInteger number (written_integer number.minus number.digits)
integer_writes number fragments (plain_number digits is) = plain_number digits is
integer_writes number fragments (negative_number sign digits is also) = negative_number sign digits is also

bounds_write : (bounds : List Bound) (fragments : Fragments) → AreBounds bounds fragments → AreBounds bounds (written_bounds bounds)
bounds_write bounds fragments no_bound = no_bound
bounds_write bounds fragments (bound_and separator keyword number others digits after all parts is key_is n h) =
    bound_and (mark (codes ",")) keyword number others (written_integer number.minus number.digits) (written_bounds others) _ refl refl key_is (integer_writes number digits n) (bounds_write others after h)

abbrev TypeWrites : TypeSort → Type 0
TypeWrites (a_type type) = IsType (a_type type) (written_type type)
TypeWrites (some_types types) = ((first : TypeTree) × (others : List TypeTree) × (types ≡ first ∷ others)) × IsType (some_types types) (written_types (types_of types))

types_written_more : (type : TypeTree) (others : List TypeTree) → TypeWrites (some_types others) → IsType (a_type type) (written_type type) → IsType (some_types (type ∷ others)) (written_types (types_of (type ∷ others)))
types_written_more type others ((first, rest, e), h) k =
    more_types type others (mark (codes ",")) (written_type type) (written_types (types_of others)) (written_types (types_of (type ∷ others)))
    (ap (λ (list : List TypeTree). written_type type ++ types_behind (types_of list)) e ∙ ap (λ (list : List TypeTree). written_type type ++ comma_mark ∷ written_types (types_of list)) (sym e)) refl k h

type_writes_sort : (sort : TypeSort) (fragments : Fragments) → IsType sort fragments → TypeWrites sort
type_writes_sort sort fragments (by_name token is) = by_name token is
type_writes_sort sort fragments (by_singleton word single opener inner closer role is is_round_bracket h) =
    by_singleton word single (mark (codes "(")) (pack (written_single single)) (mark (codes ")")) role is refl (subst (IsSingle single) (sym (row_pack (written_single single))) (single_writes single (row inner) h))
type_writes_sort sort fragments (by_union word types opener inner closer role is is_round_bracket h) =
    by_union word types (mark (codes "(")) (pack (written_types (types_of types))) (mark (codes ")")) role is refl (subst (IsType (some_types types)) (sym (row_pack (written_types (types_of types)))) (type_writes_sort (some_types types) (row inner) h).1)
type_writes_sort sort fragments (by_limits word class bounds opener inner closer after role is is_round_bracket parts class_role text h once) =
    by_limits word class bounds (mark (codes "(")) (pack (one class ∷ written_bounds bounds)) (mark (codes ")")) (written_bounds bounds) role is refl (row_pack (one class ∷ written_bounds bounds)) class_role text (bounds_write bounds after h) once
type_writes_sort sort fragments (one_type type all h) = ((type, [], refl), one_type type (written_type type ++ []) (subst (IsType (a_type type)) (sym (append-nil (written_type type))) (type_writes_sort (a_type type) all h)))
type_writes_sort sort fragments (more_types type others separator before after all parts is h k) =
    ((type, others, refl), types_written_more type others (type_writes_sort (some_types others) after k) (type_writes_sort (a_type type) before h))

pub type_writes : (type : TypeTree) (fragments : Fragments) → IsType (a_type type) fragments → IsType (a_type type) (written_type type)
type_writes type fragments h = type_writes_sort (a_type type) fragments h

pub types_write : (types : List TypeTree) (fragments : Fragments) → IsType (some_types types) fragments → IsType (some_types types) (written_types (types_of types))
types_write types fragments h = (type_writes_sort (some_types types) fragments h).1

pub variable_writes : (variable : VariableTree) (fragments : Fragments) → IsVariable variable fragments → IsVariable variable (written_variable variable)
variable_writes variable fragments (untyped token is) = untyped token is
variable_writes variable fragments (typed token sign type after is sign_is h) = typed token (mark (codes "::")) type (written_type type) is refl (type_writes type after h)

bound_more : (variable : VariableTree) (others : List VariableTree) (rest : Option Token) → Bind others rest (written_bound others rest) → IsVariable variable (written_variable variable) → Bind (variable ∷ others) rest (written_bound (variable ∷ others) rest)
bound_more variable [] None h k = last_bound variable (written_variable variable) k
bound_more variable [] (Some rest) h k = more_bound variable [] (Some rest) (mark (codes ",")) (written_variable variable) (written_bound [] (Some rest)) _ refl refl k h
bound_more variable (second ∷ others) rest h k = more_bound variable (second ∷ others) rest (mark (codes ",")) (written_variable variable) (written_bound (second ∷ others) rest) _ refl refl k h

bind_writes : (variables : List VariableTree) (rest : Option Token) (fragments : Fragments) → Bind variables rest fragments → Bind variables rest (written_bound variables rest)
bind_writes variables rest fragments (last_bound variable all h) = last_bound variable (written_variable variable) (variable_writes variable all h)
bind_writes variables rest fragments (rest_bound mark name marks is) = rest_bound (made kinds.Mark (codes "#rest")) name refl is
bind_writes variables rest fragments (more_bound variable others last separator before after all parts is h k) = bound_more variable others last (bind_writes others last after k) (variable_writes variable before h)

pub target_writes : (target : TargetTree) (fragments : Fragments) → IsTarget target fragments → IsTarget target (written_target target)
target_writes target fragments (by_variable variable all h) = by_variable variable (written_variable variable) (variable_writes variable all h)
target_writes target fragments (by_nothing opener closer is) = by_nothing (mark (codes "(")) (mark (codes ")")) refl
target_writes target fragments (by_brackets variables rest opener inner closer is h) =
    by_brackets variables rest (mark (codes "(")) (pack (written_bound variables rest)) (mark (codes ")")) refl (subst (Bind variables rest) (sym (row_pack (written_bound variables rest))) (bind_writes variables rest (row inner) h))

-- What is written splits no statement that what was read did not.
abbrev pub Splits : Splitting → Fragments → Bool
Splits words fragments = list_any (is_splitting words) fragments

pub type_splits : (words : Splitting) (type : TypeTree) (fragments : Fragments) → IsType (a_type type) fragments → list_any (is_splitting words) (written_type type) ≡ list_any (is_splitting words) fragments
type_splits words type fragments (by_name token is) = refl
type_splits words type fragments (by_singleton word single opener inner closer role is is_round_bracket h) = refl
type_splits words type fragments (by_union word types opener inner closer role is is_round_bracket h) = refl
type_splits words type fragments (by_limits word class bounds opener inner closer after role is is_round_bracket parts class_role text h once) = refl

not_or : (a b : Bool) → not (a || b) ≡ true → b ≡ false
not_or true b e = absurd cc
not_or false true e = absurd cc
not_or false false e = refl

pub variable_plain : (words : Splitting) (variable : VariableTree) (fragments : Fragments) → IsVariable variable fragments → binds_plainly words fragments ≡ true → binds_plainly words (written_variable variable) ≡ true
variable_plain words variable fragments (untyped token is) e = refl
variable_plain words variable fragments (typed token sign type after is sign_is h) e =
    let plainly : list_any (is_splitting words) (written_type type) ≡ false = type_splits words type after h ∙ not_or (splits words sign) (list_any (is_splitting words) after) e in
    rw (splits_no_splitter words, plainly) refl

pub target_plain : (words : Splitting) (target : TargetTree) (fragments : Fragments) → IsTarget target fragments → binds_plainly words fragments ≡ true → binds_plainly words (written_target target) ≡ true
target_plain words target fragments (by_variable variable all h) e = variable_plain words variable all h e
target_plain words target fragments (by_nothing opener closer is) e = refl
target_plain words target fragments (by_brackets variables rest opener inner closer is h) e = refl

given_more : (variable : VariableTree) (others : List VariableTree) (rest : Option VariableTree) → (others ≡ [] → rest ≡ None → ⊥) → Give others rest (written_given others rest) → IsVariable variable (written_variable variable) → Give (variable ∷ others) rest (written_given (variable ∷ others) rest)
given_more variable [] None some h k = absurd (some refl refl)
given_more variable [] (Some rest) some h k = more_given variable [] (Some rest) (mark (codes ",")) (written_variable variable) (written_given [] (Some rest)) _ refl refl k h
given_more variable (second ∷ others) rest some h k = more_given variable (second ∷ others) rest (mark (codes ",")) (written_variable variable) (written_given (second ∷ others) rest) _ refl refl k h

given_some : (variables : List VariableTree) (rest : Option VariableTree) (fragments : Fragments) → Give variables rest fragments → variables ≡ [] → rest ≡ None → ⊥
given_some variables rest fragments (last_given variable all h) e f = cc
given_some variables rest fragments (rest_given mark variable after marks h) e f = cc
given_some variables rest fragments (more_given variable others last separator before after all parts is h k) e f = cc

give_writes : (variables : List VariableTree) (rest : Option VariableTree) (fragments : Fragments) → Give variables rest fragments → Give variables rest (written_given variables rest)
give_writes variables rest fragments (last_given variable all h) = last_given variable (written_variable variable) (variable_writes variable all h)
give_writes variables rest fragments (rest_given mark variable after marks h) = rest_given (made kinds.Mark (codes "#rest")) variable (written_variable variable) refl (variable_writes variable after h)
give_writes variables rest fragments (more_given variable others last separator before after all parts is h k) = given_more variable others last (given_some others last after k) (give_writes others last after k) (variable_writes variable before h)

pub results_write : (results : Option ResultTree) (fragments : Fragments) → ResultsPart results fragments → ResultsPart results (written_results results)
results_write results fragments no_results = no_results
results_write results fragments (some_results sign found after is (by_result variable all h)) = some_results (mark (codes "=>")) found (written_variable variable) refl (by_result variable (written_variable variable) (variable_writes variable all h))
results_write results fragments (some_results sign found after is (by_no_results opener closer round_is)) = some_results (mark (codes "=>")) found (in_round [] ∷ []) refl (by_no_results (mark (codes "(")) (mark (codes ")")) refl)
results_write results fragments (some_results sign found after is (by_results variables rest opener inner closer round_is h)) =
    some_results (mark (codes "=>")) found (in_round (written_given variables rest) ∷ []) refl
    (by_results variables rest (mark (codes "(")) (pack (written_given variables rest)) (mark (codes ")")) refl (subst (Give variables rest) (sym (row_pack (written_given variables rest))) (give_writes variables rest (row inner) h)))

-- Nothing belongs to the results behind a semicolon.
pub semicolon_apart : (results : Option ResultTree) (after : Fragments) → apart results (semicolon_mark ∷ after) ≡ true
semicolon_apart None after = refl
semicolon_apart (Some (several_results variables rest)) after = refl
semicolon_apart (Some (one_result variable)) after = go variable.declared
  where
    go : (declared : Option TypeTree) → variable_apart declared (semicolon_mark ∷ after) ≡ true
    go None = refl
    go (Some type) = both (takes_brackets type)
      where
        both : (b : Bool) → not (b && false) ≡ true
        both true = refl
        both false = refl

pub required_writes : (required : RequiredTree) (fragments : Fragments) → IsRequired required fragments → IsRequired required (written_required required)
required_writes required fragments (any_value variable all h) = any_value variable (written_variable variable) (variable_writes variable all h)
required_writes required fragments (one_value token sign single after is equal h) = one_value token (made kinds.Operator (codes "==")) single (written_single single) is refl (single_writes single after h)
