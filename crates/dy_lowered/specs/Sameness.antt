-- When two items of a unit's lists are the same: where they are written alike.
use Rattle.std.specs.Prelude.{ℕ, ℤ, Bool, true, false, ◌&&◌, nat_eq, bytes_eq, List, [], ◌∷◌}
use Rattle.std.specs.declared.option.Option.{Option}
use Rattle.std.specs.declared.option.Option.TheVariants.{None, Some}
use Rattle.dy_base.specs.declared.ids.MethodId.{MethodId}
use Rattle.dy_term.specs.declared.literal.Literal.{Literal, Literal-F, out-Literal, fold-Literal}
use Rattle.dy_term.specs.declared.types.Member.{Member}
use Rattle.dy_term.specs.declared.types.Member.TheVariants.{Class, Single, SingleClass, Range}
use Rattle.dy_term.specs.declared.types.DyType.{DyType}
use Rattle.dy_term.specs.declared.types.Params.{Params}
use Rattle.dy_term.specs.declared.types.Results.{Results}
use Rattle.dy_values.specs.Identity.{is_same_number, is_same_truth, is_same_row}

abbrev pub are_same : {A : Type 0} → (A → A → Bool) → List A → List A → Bool
are_same same [] [] = true
are_same same (left ∷ lefts) (right ∷ rights) = same left right && are_same same lefts rights
are_same same lefts rights = false

abbrev pub is_same_option : {A : Type 0} → (A → A → Bool) → Option A → Option A → Bool
is_same_option same None None = true
is_same_option same (Some left) (Some right) = same left right
is_same_option same left right = false

-- whether each member passes the test that stands at its place
abbrev pub all_pass : {A : Type 0} → List (A → Bool) → List A → Bool
all_pass [] [] = true
all_pass (test ∷ tests) (item ∷ items) = test item && all_pass tests items
all_pass tests items = false

abbrev pub held_passes : {A : Type 0} → Option (A → Bool) → Option A → Bool
held_passes None None = true
held_passes (Some test) (Some item) = test item
held_passes test item = false

-- a literal, its parts being tests, and another one
abbrev pub passes : Literal-F (Literal → Bool) → Literal-F Literal → Bool
passes (Literal-F.Int left) (Literal-F.Int right) = is_same_number left right
passes (Literal-F.Char left) (Literal-F.Char right) = nat_eq left right
passes (Literal-F.Bool left) (Literal-F.Bool right) = is_same_truth left right
passes (Literal-F.Symbol left) (Literal-F.Symbol right) = bytes_eq left right
passes Literal-F.Nil Literal-F.Nil = true
passes (Literal-F.Str left) (Literal-F.Str right) = bytes_eq left right
passes (Literal-F.List tests last) (Literal-F.List items tail) =
    all_pass tests items && held_passes last tail
passes (Literal-F.Vector tests) (Literal-F.Vector items) = all_pass tests items
passes test item = false

abbrev pub is_same_literal : Literal → Literal → Bool
is_same_literal = fold-Literal (Literal → Bool) (λ row other. passes row (out-Literal other))

abbrev pub is_same_member : Member → Member → Bool
is_same_member (Class left) (Class right) = is_same_row left.0 right.0
is_same_member (Single left) (Single right) = is_same_literal left right
is_same_member (SingleClass left) (SingleClass right) = is_same_row left.0 right.0
is_same_member (Range low high) (Range least greatest) =
    is_same_number low least && is_same_number high greatest
is_same_member left right = false

abbrev pub is_same_type : DyType → DyType → Bool
is_same_type left right = are_same is_same_member left.members right.members

abbrev pub is_same_params : Params → Params → Bool
is_same_params left right = are_same is_same_type left.required right.required
    && (is_same_truth left.rest right.rest
    && (is_same_option (are_same bytes_eq) left.keys right.keys
    && is_same_truth left.all_keys right.all_keys))

abbrev pub is_same_results : Results → Results → Bool
is_same_results left right = are_same is_same_type left.required right.required
    && is_same_option is_same_type left.rest right.rest

abbrev pub is_same_method : MethodId → MethodId → Bool
is_same_method left right = is_same_row left.0 right.0

-- a list of sorted methods, with those behind them that are ambiguous
abbrev pub is_same_bound : List MethodId × List MethodId → List MethodId × List MethodId → Bool
is_same_bound left right =
    are_same is_same_method left.0 right.0 && are_same is_same_method left.1 right.1
