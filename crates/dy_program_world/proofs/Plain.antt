-- Operations of the table give what it says, and cost nothing.
use Rattle.std.proofs.Common.{◌≡◌, ◌∙◌, ℕ, Bool, true, false, List, refl, ap, subst}
use Rattle.std.specs.Prelude.{nat_eq}
use Rattle.std.proofs.lemmas.Bool.{eqb-true}
use Rattle.std.proofs.lemmas.Option.{none-some}
use Rattle.std.specs.declared.option.Option.{Option}
use Rattle.std.specs.declared.option.Option.TheVariants.{Some}
use Rattle.dy_term.specs.declared.rows.Program.{Program}
use Rattle.dy_values.specs.declared.value.Variant.{Variant}
use Rattle.dy_prims.specs.declared.operation.Operation.{Operation}
use Rattle.dy_prims.specs.Operations.{Outcome, operation_at, of_number, paid}
use Rattle.dy_meaning.specs.Operations.{output}
use Rattle.dy_lowering_law.specs.Machines as machines
use Rattle.dy_machine_integers.specs.Plain.{IsPlain}
use Rattle.dy_program_world.specs.ProgramWorlds.{built_in_of}

-- `format-out` is no operation of the table
other_than_output : (number : ℕ) (o : Operation) → operation_at number ≡ Some o → (b : Bool)
    → nat_eq number output ≡ b → b ≡ false
other_than_output number o at true same =
    absurd (none-some o (subst (λ (n : ℕ). operation_at n ≡ Some o) (eqb-true number output same)
    at))
other_than_output number o at false same = refl

pub is_plain : (program : Program) → IsPlain (built_in_of program)
is_plain program number o arguments values state at gives =
    let left = state.fuel.left in
    ap (λ (b : Bool). machines.operated_if b program number arguments state)
    (other_than_output number o at (nat_eq number output) refl)
    ∙ ap (λ (x : Option Operation). machines.answered (of_number x arguments left) state) at
    ∙ ap (λ (x : Outcome (List Variant)). machines.answered (paid x left) state) gives
