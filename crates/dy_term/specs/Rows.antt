-- Drafts of rows and of whole forms without where they lie in memory.
use Rattle.std.specs.Prelude.{Bool, List, map, Option}
use Rattle.std.specs.Option.{option_map}
use Rattle.dy_tree.specs.declared.token.Token.{Token}
use Rattle.dy_term.specs.declared.rows.SlotKind.{SlotKind}
use Rattle.dy_term.specs.declared.draft.DraftClass.{DraftClass}
use Rattle.dy_term.specs.declared.draft.DraftSlot.{DraftSlot}
use Rattle.dy_term.specs.declared.draft.DraftInit.{DraftInit}
use Rattle.dy_term.specs.declared.draft.DraftInit.TheVariants as inits
use Rattle.dy_term.specs.declared.draft.DraftGeneric.{DraftGeneric}
use Rattle.dy_term.specs.declared.draft.DraftMethod.{DraftMethod}
use Rattle.dy_term.specs.declared.draft.DraftDomain.{DraftDomain}
use Rattle.dy_term.specs.declared.draft.DraftVariable.{DraftVariable}
use Rattle.dy_term.specs.declared.draft.DraftVariable.TheVariants as variables
use Rattle.dy_term.specs.declared.draft.DraftTop.{DraftTop}
use Rattle.dy_term.specs.declared.draft.DraftTop.TheVariants as tops
use Rattle.dy_term.specs.declared.draft.Draft.{Draft}
use Rattle.dy_term.specs.declared.draft.Draft.TheVariants as drafts
use Rattle.dy_term.specs.Types.{CoreType, CoreParams, CoreResults, seen_type, seen_typed}
use Rattle.dy_term.specs.Types.{seen_params, seen_results}
use Rattle.dy_term.specs.Drafts.{Core, CoreLambda, seen_term, seen_lambda}

-- what a slot is filled with
pub data CoreInit : Type 0 where
  each : (term : Core) → CoreInit
  calling : (function : Core) → CoreInit

abbrev pub seen_init : DraftInit → CoreInit
seen_init (inits.Each term) = each (seen_term term)
seen_init (inits.Calling function) = calling (seen_term function)

pub record CoreSlot : Type 0 where
  pub getter : Token
  pub setter : Option Token
  pub kind : SlotKind
  pub slot_type : CoreType
  pub keyword : Option Token
  pub required : Bool
  pub init : Option CoreInit

abbrev pub seen_slot : DraftSlot → CoreSlot
seen_slot slot = record {
  getter = slot.getter;
  setter = slot.setter;
  kind = slot.kind;
  slot_type = seen_type slot.slot_type;
  keyword = slot.keyword;
  required = slot.required;
  init = option_map seen_init slot.init;
}

pub record CoreClass : Type 0 where
  pub adjectives : List Token
  pub name : Token
  pub supers : List Token
  pub slots : List CoreSlot

abbrev pub seen_class : DraftClass → CoreClass
seen_class class = record {
  adjectives = class.adjectives.items;
  name = class.name;
  supers = class.supers.items;
  slots = map seen_slot class.slots.items;
}

pub record CoreGeneric : Type 0 where
  pub adjectives : List Token
  pub name : Token
  pub params : CoreParams
  pub results : CoreResults

abbrev pub seen_generic : DraftGeneric → CoreGeneric
seen_generic generic = record {
  adjectives = generic.adjectives.items;
  name = generic.name;
  params = seen_params generic.params;
  results = seen_results generic.results;
}

-- a method of a generic function, and the name of the next method where none is written
pub record CoreMethod : Type 0 where
  pub adjectives : List Token
  pub generic : Token
  pub next : Option Token
  pub code : CoreLambda

abbrev pub seen_definition : DraftMethod → CoreMethod
seen_definition method = record {
  adjectives = method.adjectives.items;
  generic = method.generic;
  next = method.next;
  code = seen_lambda method.code;
}

pub record CoreDomain : Type 0 where
  pub generic : Token
  pub types : List CoreType

abbrev pub seen_domain : DraftDomain → CoreDomain
seen_domain domain = record { generic = domain.generic; types = map seen_type domain.types.items }

-- a function, or a constant that stands for a type
pub data CoreVariable : Type 0 where
  function : (adjectives : List Token) (name : Token) (code : CoreLambda) → CoreVariable
  type_constant : (name : Token) (declared : CoreType) (meant : CoreType) → CoreVariable

abbrev pub seen_variable : DraftVariable → CoreVariable
seen_variable (variables.Function adjectives name code) =
    function adjectives.items name (seen_lambda code)
seen_variable (variables.Type name declared meant) =
    type_constant name (seen_type declared) (seen_type meant)

-- what runs when the library is loaded: variables or constants that take the values of a term, or a
-- term
pub data CoreTop : Type 0 where
  init : (is_constant : Bool) (locals : List (Token × CoreType)) (term : Core) → CoreTop
  run : (term : Core) → CoreTop

abbrev pub seen_top : DraftTop → CoreTop
seen_top (tops.Init is_constant locals term) =
    init is_constant (map seen_typed locals.items) (seen_term term)
seen_top (tops.Run term) = run (seen_term term)

-- what a form of the source is in the core
pub data CoreDraft : Type 0 where
  class_row : (class : CoreClass) → CoreDraft
  generic_row : (generic : CoreGeneric) → CoreDraft
  method_row : (method : CoreMethod) → CoreDraft
  domain_row : (domain : CoreDomain) → CoreDraft
  variable_row : (variable : CoreVariable) → CoreDraft
  top_term : (top : CoreTop) → CoreDraft

abbrev pub seen_draft : Draft → CoreDraft
seen_draft (drafts.Class class) = class_row (seen_class class)
seen_draft (drafts.Generic generic) = generic_row (seen_generic generic)
seen_draft (drafts.Method method) = method_row (seen_definition method)
seen_draft (drafts.Domain domain) = domain_row (seen_domain domain)
seen_draft (drafts.Variable variable) = variable_row (seen_variable variable)
seen_draft (drafts.Top top) = top_term (seen_top top)
