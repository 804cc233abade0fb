-- Which items an instruction names.
use Rattle.std.specs.Prelude.{ℕ, List}
use Rattle.std.specs.declared.option.Option.{Option}
use Rattle.std.specs.declared.option.Option.TheVariants.{None, Some}
use Rattle.dy_base.specs.declared.ids.BindingId.{BindingId}
use Rattle.dy_base.specs.declared.ids.MethodId.{MethodId}
use Rattle.dy_term.specs.declared.literal.Literal.{Literal}
use Rattle.dy_term.specs.declared.types.DyType.{DyType}
use Rattle.dy_term.specs.declared.types.Params.{Params}
use Rattle.dy_term.specs.declared.types.Results.{Results}
use Rattle.dy_code.specs.Fetching.{Instruction, Const, Global, SetGlobal, Search, CallDirect}
use Rattle.dy_code.specs.Fetching.{CallKnown, Check, CheckResults, Handle, Catch, Args}
use Rattle.dy_lowered.specs.Terms.{generic_named}

abbrev pub constant_of : Instruction → Option Literal
constant_of (Const literal) = Some literal
constant_of instruction = None

abbrev pub name_of : Instruction → Option BindingId
name_of (Global named) = Some named
name_of (SetGlobal named) = Some named
name_of (Search generic count) = Some (generic_named generic)
name_of (CallKnown named count) = Some named
name_of instruction = None

abbrev pub bound_of : Instruction → Option (List MethodId × List MethodId)
bound_of (CallDirect sorted ambiguous count) = Some (sorted, ambiguous)
bound_of instruction = None

abbrev pub list_of : Instruction → Option Params
list_of (Args params) = Some params
list_of instruction = None

abbrev pub type_of : Instruction → Option DyType
type_of (Check type) = Some type
type_of (Handle condition) = Some condition
type_of (Catch condition address) = Some condition
type_of instruction = None

abbrev pub results_of : Instruction → Option Results
results_of (CheckResults results) = Some results
results_of instruction = None
