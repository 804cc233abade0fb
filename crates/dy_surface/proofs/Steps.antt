-- One turn of the loop over the arguments of a type.
use Rattle.std.proofs.Common.{◌≡◌, ℕ, List, [], ◌∷◌, ◌++◌, ◌+◌, ◌<◌, length, get_or, map, drop, refl, sym, ap, ◌∙◌}
use Rattle.std.specs.Prelude.{Option, Some, None, option_map}
use Rattle.std.proofs.lemmas.List.{drop_more, append_assoc}
use Rattle.dy_tree.specs.declared.expression.Argument.{Argument}
use Rattle.dy_term.specs.Types.{CoreType}
use Rattle.dy_rules.specs.SeenForms.{seen_argument}
use Rattle.dy_rules.specs.Trees.{arguments_of}
use Rattle.dy_surface.specs.TypeConstants.{types_in, argument_type, both_types}

argument_left : (arguments : List Argument) (i : ℕ) (argument : Argument) → i < length arguments → argument ≡ get_or arguments i argument
    → types_in (arguments_of (map seen_argument (drop i arguments))) ≡ both_types (argument_type (seen_argument argument)) (types_in (arguments_of (map seen_argument (drop (i + 1) arguments))))
argument_left arguments i argument lt is =
    ap (λ (left : List Argument). types_in (arguments_of (map seen_argument left))) (drop_more arguments i argument lt ∙ ap (λ (one : Argument). one ∷ drop (i + 1) arguments) (sym is))

more_types : (before : List CoreType) (first : CoreType) (rest : Option (List CoreType)) → option_map (λ others. (before ++ first ∷ []) ++ others) rest ≡ option_map (λ others. before ++ others) (both_types (Some first) rest)
more_types before first None = refl
more_types before first (Some rest) = ap Some (append_assoc before (first ∷ []) rest)

pub type_found : (before : List CoreType) (arguments : List Argument) (i : ℕ) (argument : Argument) (first : CoreType) (all : Option (List CoreType)) → i < length arguments → argument ≡ get_or arguments i argument
    → argument_type (seen_argument argument) ≡ Some first → option_map (λ others. before ++ others) (types_in (arguments_of (map seen_argument (drop i arguments)))) ≡ all
    → option_map (λ others. (before ++ first ∷ []) ++ others) (types_in (arguments_of (map seen_argument (drop (i + 1) arguments)))) ≡ all
type_found before arguments i argument first all lt is found same =
    let rest = types_in (arguments_of (map seen_argument (drop (i + 1) arguments))) in
    more_types before first rest
    ∙ sym (ap (λ (t : Option (List CoreType)). option_map (λ others. before ++ others) t) (argument_left arguments i argument lt is ∙ ap (λ (t : Option CoreType). both_types t rest) found))
    ∙ same
