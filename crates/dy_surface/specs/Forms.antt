-- Definitions and forms of the source, in the core (DRM 5, "Features of the class"; DRM 6).
use Rattle.std.specs.Prelude.{ℕ, Bool, true, false, List, [], ◌∷◌, ◌++◌, ◌||◌, map, length, codes}
use Rattle.std.specs.Prelude.{Option, Some, None, if◌then◌else◌}
use Rattle.std.specs.Option.{option_map}
use Rattle.dy_tree.specs.declared.token.Token.{Token}
use Rattle.dy_tree.specs.Spelling.{is_spelled}
use Rattle.dy_rules.specs.Types.{TypeTree, TargetTree, one_target, several, VariableTree}
use Rattle.dy_rules.specs.Trees.{Tree, MaybeTree, no_tree, some_tree, Parameters, parameters, Body}
use Rattle.dy_rules.specs.Forms.{SlotOption, init_keyword, required_init_keyword, init_value}
use Rattle.dy_rules.specs.Forms.{init_function, setter, SlotTree, FormTree, expression_form}
use Rattle.dy_rules.specs.Forms.{class_form, constant_form, variable_form, generic_form}
use Rattle.dy_rules.specs.Forms.{method_form, function_form, domain_form}
use Rattle.dy_term.specs.declared.rows.SlotKind.{SlotKind}
use Rattle.dy_term.specs.declared.rows.SlotKind.TheVariants.{Instance, Shared, EachSubclass}
use Rattle.dy_term.specs.declared.rows.SlotKind.TheVariants.{Virtual}
use Rattle.dy_term.specs.Types.{CoreType, object}
use Rattle.dy_term.specs.Drafts.{Core}
use Rattle.dy_term.specs.Rows.{CoreInit, each, calling, CoreSlot, CoreTop, init, run, CoreDraft}
use Rattle.dy_term.specs.Rows.{class_row, generic_row, method_row, domain_row, variable_row}
use Rattle.dy_term.specs.Rows.{top_term, function, type_constant}
use Rattle.dy_drafts.specs.Shapes.{has, name_at, type_of, declared_or, declared_of, typed_of}
use Rattle.dy_drafts.specs.Parts.{setter_at, with_rest}
use Rattle.dy_desugar.specs.Table.{core_of, lambda_of, params_of, returned_of}
use Rattle.dy_surface.specs.TypeConstants.{constant_type}

-- where a slot's value stands
abbrev pub kind_of : List Token → SlotKind
kind_of words = if has (codes "class") words then Shared
    else if has (codes "each-subclass") words then EachSubclass
    else if has (codes "virtual") words then Virtual else Instance

-- the name behind `setter:`, or `#f`
abbrev pub written_setter : List SlotOption → Option Token
written_setter [] = None
written_setter (setter token ∷ options) = Some token
written_setter (_ ∷ options) = written_setter options

abbrev pub setter_by : Token → Option Token → Option Token
setter_by name None = Some (setter_at name)
setter_by name (Some token) = if is_spelled (codes "#f") token then None else Some token

-- A constant slot has no setter, nor has one with `setter: #f`; the name behind `setter:` stands in
-- place of the usual one.
abbrev pub setter_of : List Token → Token → List SlotOption → Option Token
setter_of words name options =
    if has (codes "constant") words then None else setter_by name (written_setter options)

-- the init keyword, and whether it is required
abbrev pub keyword_of : List SlotOption → Option (Token × Bool)
keyword_of [] = None
keyword_of (init_keyword token ∷ options) = Some (token, false)
keyword_of (required_init_keyword token ∷ options) = Some (token, true)
keyword_of (_ ∷ options) = keyword_of options

abbrev pub is_required : Option (Token × Bool) → Bool
is_required None = false
is_required (Some found) = found.1

-- what an option fills a slot with
abbrev pub written_init : List SlotOption → Option CoreInit
written_init [] = None
written_init (init_value tree ∷ options) = Some (each (core_of tree))
written_init (init_function tree ∷ options) = Some (calling (core_of tree))
written_init (_ ∷ options) = written_init options

-- The expression behind `=` fills a slot, or else an option does.
abbrev pub init_of : MaybeTree → List SlotOption → Option CoreInit
init_of (some_tree tree) options = Some (each (core_of tree))
init_of no_tree options = written_init options

abbrev pub slot_of : SlotTree → CoreSlot
slot_of slot = record {
  getter = slot.variable.variable;
  setter = setter_of slot.adjectives slot.variable.variable slot.options;
  kind = kind_of slot.adjectives;
  slot_type = declared_of slot.variable;
  keyword = option_map (λ found. found.0) (keyword_of slot.options);
  required = is_required (keyword_of slot.options);
  init = init_of slot.default slot.options;
}

-- Variables or constants that take the values of a term. Where there is a rest, the term gives it
-- as one value.
abbrev pub initial : Bool → TargetTree → Core → CoreTop
initial is_constant (one_target variable) term = init is_constant (typed_of variable ∷ []) term
initial is_constant (several variables None) term = init is_constant (map typed_of variables) term
initial is_constant (several variables (Some rest)) term =
    init is_constant (map typed_of variables ++ (rest, object) ∷ [])
    (with_rest (length variables) term)

-- A constant with one target whose value is written as a type stands for that type.
abbrev pub constant_by : VariableTree → Option CoreType → Core → CoreDraft
constant_by variable (Some meant) term =
    variable_row (type_constant variable.variable (declared_of variable) meant)
constant_by variable None term = top_term (initial true (one_target variable) term)

abbrev pub constant_of : TargetTree → Tree → CoreDraft
constant_of (one_target variable) tree = constant_by variable (constant_type tree) (core_of tree)
constant_of (several variables rest) tree =
    top_term (initial true (several variables rest) (core_of tree))

abbrev pub class_of : List Token → Token → List Token → List SlotTree → CoreDraft
class_of words name superclasses slots =
    class_row (record {
      adjectives = words;
      name = name;
      supers = superclasses;
      slots = map slot_of slots;
    })

abbrev pub generic_of : List Token → Token → Parameters → CoreDraft
generic_of words name row =
    generic_row (record {
      adjectives = words;
      name = name;
      params = params_of row;
      results = returned_of row;
    })

-- the name of the next method where none is written, with the origin of the word `method`
abbrev pub next_of : Token → Option Token → Option Token
next_of word None = Some (name_at (codes "next-method") word)
next_of word (Some token) = None

abbrev pub next_in : Parameters → Option Token
next_in (parameters required next rest keys results) = next

abbrev pub method_of : List Token → Token → Token → Parameters → Body → CoreDraft
method_of words word name row body =
    method_row (record {
      adjectives = words;
      generic = name;
      next = next_of word (next_in row);
      code = lambda_of row body;
    })

-- what a form is in the core
abbrev pub draft_of : FormTree → CoreDraft
draft_of (expression_form tree) = top_term (run (core_of tree))
draft_of (class_form define words name superclasses slots) = class_of words name superclasses slots
draft_of (constant_form define target value) = constant_of target value
draft_of (variable_form define target value) = top_term (initial false target (core_of value))
draft_of (generic_form define words name row) = generic_of words name row
draft_of (method_form define words word name row body) = method_of words word name row body
draft_of (function_form define words name row body) =
    variable_row (function words name (lambda_of row body))
draft_of (domain_form define name types) =
    domain_row (record { generic = name; types = map type_of types })
