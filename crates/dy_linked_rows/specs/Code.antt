-- Code that is not written down yet, where a library stands at another place: the references of its
-- instructions are linked. Locals, numbers of bodies, addresses and constants stay what they are.
use Rattle.std.specs.Prelude.{ℕ, map}
use Rattle.dy_code.specs.Fetching.{Instruction, Global, SetGlobal, Search, CallDirect, CallKnown}
use Rattle.dy_code.specs.Fetching.{Check, CheckResults, Handle, Catch, Args}
use Rattle.dy_lowered.specs.Flat.{Flat, Plain, Code}
use Rattle.dy_lowered.specs.Flat as flat
use Rattle.dy_lowered.specs.Bodies.{FlatBody}
use Rattle.dy_lowered.specs.Linking.{linked_name, linked_method, linked_type, linked_params}
use Rattle.dy_lowered.specs.Linking.{linked_results}
use Rattle.dy_linked_rows.specs.Terms.{linked_generic}

module _ (places : ℕ → ℕ) where
  abbrev pub linked_instruction : Instruction → Instruction
  linked_instruction (Global named) = Global (linked_name places named)
  linked_instruction (SetGlobal named) = SetGlobal (linked_name places named)
  linked_instruction (Search generic count) = Search (linked_generic places generic) count
  linked_instruction (CallDirect sorted ambiguous count) =
      CallDirect (map (linked_method places) sorted) (map (linked_method places) ambiguous) count
  linked_instruction (CallKnown named count) = CallKnown (linked_name places named) count
  linked_instruction (Check type) = Check (linked_type places type)
  linked_instruction (CheckResults results) = CheckResults (linked_results places results)
  linked_instruction (Handle condition) = Handle (linked_type places condition)
  linked_instruction (Catch condition address) = Catch (linked_type places condition) address
  linked_instruction (Args params) = Args (linked_params places params)
  linked_instruction instruction = instruction

  abbrev pub linked_flat : Flat → Flat
  linked_flat (Plain instruction) = Plain (linked_instruction instruction)
  linked_flat (flat.Catch condition distance) =
      flat.Catch (linked_type places condition) distance
  linked_flat jump = jump

  abbrev pub linked_flats : Code → Code
  linked_flats code = map linked_flat code

  abbrev pub linked_body : FlatBody → FlatBody
  linked_body body = record body { code = linked_flats body.code }
