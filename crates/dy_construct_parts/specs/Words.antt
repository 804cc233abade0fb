-- What operators and adjectives are, by their text (DRM 2, "Operators"; DRM, appendix A).
use Rattle.std.specs.Prelude.{Bool, true, false, List, codes, if◌then◌else◌}
use Rattle.dy_tree.specs.declared.token.Token.{Token}
use Rattle.dy_tree.specs.declared.brackets.Guard.{Guard}
use Rattle.dy_tree.specs.declared.brackets.Guard.TheVariants as guards
use Rattle.dy_tree.specs.declared.definition_words.DefineWord.{DefineWord}
use Rattle.dy_tree.specs.declared.definition_words.DefineWord.TheVariants as define_words
use Rattle.dy_tree.specs.declared.definition_words.SlotWord.{SlotWord}
use Rattle.dy_tree.specs.declared.definition_words.SlotWord.TheVariants as slot_words
use Rattle.dy_tree.specs.Spelling.{is_spelled}
use Rattle.dy_rules.specs.Definitions.{define_word_of, slot_word_of}
use Rattle.dy_construct_parts.specs.declared.construct.Construct.{Construct}
use Rattle.dy_construct_parts.specs.declared.construct.Construct.TheVariants as constructs
use Rattle.dy_construct_parts.specs.Table.{where_true}

abbrev pub comparison : Token → Construct
comparison operator =
    if is_spelled (codes "=") operator then constructs.Equal
    else if is_spelled (codes "==") operator then constructs.Identical
    else if is_spelled (codes "<") operator then constructs.Less
    else if is_spelled (codes ">") operator then constructs.Greater
    else if is_spelled (codes "<=") operator then constructs.AtMost
    else if is_spelled (codes ">=") operator then constructs.AtLeast
    else if is_spelled (codes "~=") operator then constructs.Unequal
    else if is_spelled (codes "~==") operator then constructs.NotIdentical
    else constructs.OtherOperator

-- an operator of two operands
abbrev pub binary : Token → Construct
binary operator =
    if is_spelled (codes "+") operator then constructs.Addition
    else if is_spelled (codes "-") operator then constructs.Subtraction
    else if is_spelled (codes "*") operator then constructs.Multiplication
    else if is_spelled (codes "/") operator then constructs.Division
    else if is_spelled (codes "^") operator then constructs.Power
    else if is_spelled (codes "&") operator then constructs.And
    else if is_spelled (codes "|") operator then constructs.Or
    else comparison operator

abbrev pub is_comparison : Construct → Bool
is_comparison constructs.Equal = true
is_comparison constructs.Identical = true
is_comparison constructs.Less = true
is_comparison constructs.Greater = true
is_comparison constructs.AtMost = true
is_comparison constructs.AtLeast = true
is_comparison constructs.Unequal = true
is_comparison constructs.NotIdentical = true
is_comparison _ = false

-- an operator of one operand
abbrev pub unary : Token → Construct
unary operator =
    if is_spelled (codes "-") operator then constructs.Negation
    else if is_spelled (codes "~") operator then constructs.Not
    else constructs.OtherOperator

-- the word of a statement of a test and a body
abbrev pub guarded : Guard → Construct
guarded guards.Unless = constructs.Unless
guarded guards.While = constructs.While
guarded guards.Until = constructs.Until

-- `next-method`, which a name is besides
abbrev pub next_method : Token → List Construct
next_method token = where_true constructs.NextMethod (is_spelled (codes "next-method") token)

-- an adjective of a definition
abbrev pub of_define_word : DefineWord → Construct
of_define_word define_words.Open = constructs.Open
of_define_word define_words.Sealed = constructs.Sealed
of_define_word define_words.Abstract = constructs.Abstract
of_define_word define_words.Concrete = constructs.Concrete
of_define_word define_words.Primary = constructs.Primary
of_define_word define_words.Free = constructs.Free
of_define_word define_words.Inlining = constructs.Inlining
of_define_word _ = constructs.OtherAdjective

abbrev pub adjective : Token → Construct
adjective word = of_define_word (define_word_of word)

-- an adjective of a slot
abbrev pub of_slot_word : SlotWord → Construct
of_slot_word slot_words.Constant = constructs.ConstantSlot
of_slot_word slot_words.Allocation = constructs.SlotAllocation
of_slot_word _ = constructs.OtherAdjective

abbrev pub slot_adjective : Token → Construct
slot_adjective word = of_slot_word (slot_word_of word)
