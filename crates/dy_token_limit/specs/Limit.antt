-- The first form with which the forms of a library have too many tokens (own).
use Rattle.std.specs.Prelude.{◌≡◌, ℕ, ◌+◌, ◌<◌, ◌≤◌, List, [], ◌∷◌, length, take, sum_by, codes}
use Rattle.std.specs.Prelude.{Option, Some, None}
use Rattle.dy_base.specs.declared.kind.Kind.TheVariants.{Limit}
use Rattle.dy_base.specs.declared.fault.Fault.{Fault}
use Rattle.dy_base.specs.declared.fault.Place.{Place}
use Rattle.dy_tree.specs.Fragments.{SeenFragment}
use Rattle.dy_token_limit.specs.Tokens.{tokens_of}

-- the fragments of a form
abbrev pub Form : Type 0
Form = List SeenFragment

-- the tokens of the first forms, so many of them
abbrev pub tokens_of_first : ℕ → List Form → ℕ
tokens_of_first count forms = sum_by tokens_of (take count forms)

-- the least number of a form with which those up to it have more than so many tokens
pub record IsOver (most : ℕ) (forms : List Form) (number : ℕ) : Type 0 where
  pub there : number < length forms
  pub over : most < tokens_of_first (number + 1) forms
  pub first : (other : ℕ) → most < tokens_of_first (other + 1) forms → number ≤ other

-- that number, if there is one
abbrev pub IsFirstOver : ℕ → List Form → Option ℕ → Type 0
IsFirstOver most forms (Some number) = IsOver most forms number
IsFirstOver most forms None = sum_by tokens_of forms ≤ most

-- no forms have two answers
abbrev pub OverIsOne : Type 0
OverIsOne = (most : ℕ) (forms : List Form) (a b : Option ℕ) → IsFirstOver most forms a
    → IsFirstOver most forms b → a ≡ b

-- what is left of so many tokens where these are taken from them, if they are not more
abbrev pub Leaves : (most count : ℕ) → Option ℕ → Type 0
Leaves most count (Some left) = count + left ≡ most
Leaves most count None = most < count

-- how many tokens the forms of a library may have
abbrev pub most_tokens : ℕ
most_tokens = 16777216

-- the fault of the form, which begins at this place, with which they have more
abbrev pub too_many_tokens : Place → Fault
too_many_tokens place = record {
  kind = Limit;
  library = [];
  place = Some place;
  shown = codes "tokens" ∷ codes "16777216" ∷ [];
  numbers = [];
}
