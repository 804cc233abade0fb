-- Types, parameters and results of drafts without where they lie in memory.
use Rattle.std.specs.Prelude.{ℕ, ℤ, Bool, List, [], ◌∷◌, map, Option, Some, None}
use Rattle.std.specs.Option.{option_map}
use Rattle.dy_tree.specs.declared.token.Token.{Token}
use Rattle.dy_term.specs.declared.literal.Literal.{Literal}
use Rattle.dy_term.specs.declared.draft.DraftType.{DraftType, Object, Integer, Name, Single}
use Rattle.dy_term.specs.declared.draft.DraftType.{SingleName, Union', Range, Row_of-DraftType}
use Rattle.dy_term.specs.declared.draft.DraftType.{end_of-DraftType, more_of-DraftType}
use Rattle.dy_term.specs.declared.draft.DraftKey.{DraftKey}
use Rattle.dy_term.specs.declared.draft.DraftParams.{DraftParams}
use Rattle.dy_term.specs.declared.draft.DraftResults.{DraftResults}
use Rattle.dy_term.specs.declared.draft.Local.{Local}
use Rattle.dy_term.specs.declared.draft.Local.TheVariants.{Named, Hidden}

mutual
  pub data CoreType : Type 0 where
    -- `<object>`
    object : CoreType
    -- `<integer>`
    integer : CoreType
    named : (name : Token) → CoreType
    single : (value : Literal) → CoreType
    single_name : (told : Token) (name : Token) → CoreType
    union : (told : Token) (types : CoreTypes) → CoreType
    range : (told : Token) (least : ℤ) (greatest : ℤ) → CoreType

  pub data CoreTypes : Type 0 where
    no_type : CoreTypes
    type_and : (first : CoreType) (rest : CoreTypes) → CoreTypes

-- types one after the other
abbrev pub types_of : List CoreType → CoreTypes
types_of [] = no_type
types_of (first ∷ rest) = type_and first (types_of rest)

abbrev mutual
  pub seen_type : DraftType → CoreType
  seen_type Object = object
  seen_type Integer = integer
  seen_type (Name name) = named name
  seen_type (Single value) = single value
  seen_type (SingleName told name) = single_name told name
  seen_type (Union' told shape types) = union told (seen_types types)
  seen_type (Range told least greatest) = range told least greatest

  pub seen_types : {m : _} → Row_of-DraftType m → CoreTypes
  seen_types end_of-DraftType = no_type
  seen_types (more_of-DraftType first rest) = type_and (seen_type first) (seen_types rest)

-- a local, or a variable, with its type
abbrev pub seen_typed : {A : Type 0} → A × DraftType → A × CoreType
seen_typed pair = (pair.0, seen_type pair.1)

-- a keyword parameter: its keyword, its local and its type
pub record CoreKey : Type 0 where
  pub keyword : Token
  pub variable : Token
  pub declared : CoreType

abbrev pub seen_key : DraftKey → CoreKey
seen_key key = record {
  keyword = key.keyword;
  variable = key.variable;
  declared = seen_type key.declared;
}

pub record CoreParams : Type 0 where
  pub required : List (Token × CoreType)
  pub next : Option Token
  pub rest : Option Token
  pub keys : Option (List CoreKey)
  pub all_keys : Bool

abbrev pub seen_params : DraftParams → CoreParams
seen_params params =
    record {
      required = map seen_typed params.required.items;
      next = params.next;
      rest = params.rest;
      keys = option_map (λ keys. map seen_key keys.items) params.keys;
      all_keys = params.all_keys;
    }

pub record CoreResults : Type 0 where
  pub required : List CoreType
  pub rest : Option CoreType

abbrev pub seen_results : DraftResults → CoreResults
seen_results results = record
    { required = map seen_type results.required.items; rest = option_map seen_type results.rest }
