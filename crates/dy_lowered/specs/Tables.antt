-- The lists of a unit, and instructions as a body keeps them.
use Rattle.std.specs.Prelude.{ℕ, Bool, true, false, not, List, [], ◌∷◌, length, position, unwrap_or}
use Rattle.std.specs.Prelude.{filter, filter_map}
use Rattle.dy_base.specs.declared.ids.BindingId.{BindingId}
use Rattle.dy_base.specs.declared.ids.MethodId.{MethodId}
use Rattle.dy_term.specs.declared.literal.Literal.{Literal}
use Rattle.dy_term.specs.declared.types.DyType.{DyType}
use Rattle.dy_term.specs.declared.types.Params.{Params}
use Rattle.dy_term.specs.declared.types.Results.{Results}
use Rattle.dy_values.specs.Identity.{is_same_binding}
use Rattle.dy_code.specs.declared.instr.Instr.{Instr}
use Rattle.dy_code.specs.declared.opcode.Opcode.{Opcode}
use Rattle.dy_code.specs.declared.opcode.Opcode.TheVariants as op
use Rattle.dy_code.specs.Opcodes.{number_of}
use Rattle.dy_code.specs.Fetching.{Instruction}
use Rattle.dy_code.specs.Fetching as instr
use Rattle.dy_lowered.specs.Items.{constant_of, name_of, bound_of, list_of, type_of, results_of}
use Rattle.dy_lowered.specs.Sameness.{is_same_literal, is_same_bound, is_same_params, is_same_type}
use Rattle.dy_lowered.specs.Sameness.{is_same_results}
use Rattle.dy_lowered.specs.Terms.{generic_named}

pub record Tables : Type 0 where
  pub constants : List Literal
  pub names : List BindingId
  pub bound : List (List MethodId × List MethodId)
  pub lists : List Params
  pub types : List DyType
  pub results : List Results

-- each item once, where it comes first
abbrev pub distinct : {A : Type 0} → (A → A → Bool) → List A → List A
distinct same [] = []
distinct same (item ∷ items) =
    item ∷ filter (λ other. not (same item other)) (distinct same items)

-- No list holds an item twice, and each is in the order of first use.
abbrev pub tables_of : List Instruction → Tables
tables_of code = record {
  constants = distinct is_same_literal (filter_map constant_of code);
  names = distinct is_same_binding (filter_map name_of code);
  bound = distinct is_same_bound (filter_map bound_of code);
  lists = distinct is_same_params (filter_map list_of code);
  types = distinct is_same_type (filter_map type_of code);
  results = distinct is_same_results (filter_map results_of code);
}

-- where an item stands in a list, which is behind the last where it is none of it
abbrev pub index_in : {A : Type 0} → (A → A → Bool) → A → List A → ℕ
index_in same item items = unwrap_or (position (same item) items) (length items)

abbrev pub two : Opcode → ℕ → ℕ → Instr
two opcode first second = record { op = number_of opcode; first = first; second = second }

abbrev pub one : Opcode → ℕ → Instr
one opcode first = two opcode first 0

abbrev pub none : Opcode → Instr
none opcode = one opcode 0

abbrev pub flag : Bool → ℕ
flag true = 1
flag false = 0

-- an instruction whose items stand in the lists
abbrev pub written : Tables → Instruction → Instr
written t (instr.Const literal) = one op.Const (index_in is_same_literal literal t.constants)
written t (instr.Local local) = one op.Local local
written t (instr.SetLocal local) = one op.SetLocal local
written t (instr.NewCell local) = one op.NewCell local
written t (instr.CellGet local) = one op.CellGet local
written t (instr.CellSet local) = one op.CellSet local
written t (instr.Free capture) = one op.Free capture
written t (instr.FreeGet capture) = one op.FreeGet capture
written t (instr.FreeSet capture) = one op.FreeSet capture
written t (instr.Global named) = one op.Global (index_in is_same_binding named t.names)
written t (instr.SetGlobal named) = one op.SetGlobal (index_in is_same_binding named t.names)
written t instr.Push = none op.Push
written t (instr.Jump address) = one op.Jump address
written t (instr.JumpFalse address) = one op.JumpFalse address
written t instr.Tick = none op.Tick
written t (instr.Closure body count) = two op.Closure body count
written t (instr.Search generic count) =
    two op.Search (index_in is_same_binding (generic_named generic) t.names) count
written t (instr.CallDirect sorted ambiguous count) =
    two op.CallDirect (index_in is_same_bound (sorted, ambiguous) t.bound) count
written t (instr.CallKnown named count) =
    two op.CallKnown (index_in is_same_binding named t.names) count
written t (instr.CallValue count) = one op.CallValue count
written t instr.Return = none op.Return
written t (instr.Values count) = one op.Values count
written t (instr.Spread count collects) = two op.Spread count (flag collects)
written t (instr.Check type) = one op.Check (index_in is_same_type type t.types)
written t (instr.CheckResults results) =
    one op.CheckResults (index_in is_same_results results t.results)
written t (instr.Op operation count) = two op.Op operation count
written t (instr.Enter address) = one op.Enter address
written t instr.Leave = none op.Leave
written t (instr.Guard address) = one op.Guard address
written t instr.Unguard = none op.Unguard
written t instr.EndCleanup = none op.EndCleanup
written t (instr.Handle condition) = one op.Handle (index_in is_same_type condition t.types)
written t (instr.Catch condition address) =
    two op.Catch (index_in is_same_type condition t.types) address
written t (instr.Unhandle count) = one op.Unhandle count
written t instr.Save = none op.Save
written t instr.Restore = none op.Restore
written t (instr.Next count) = two op.Next 1 count
written t instr.NextValue = none op.NextValue
written t instr.NoMatch = one op.Fault 0
written t (instr.Args params) = one op.Args (index_in is_same_params params t.lists)
