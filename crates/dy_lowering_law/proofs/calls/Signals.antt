-- Errors, whose conditions cost a unit.
use Rattle.std.proofs.Common.{◌≡◌, ℕ, zero, suc, List, refl, ap, ◌∙◌}
use Rattle.dy_term.specs.declared.rows.Program.{Program}
use Rattle.dy_values.specs.declared.value.Variant.{Variant}
use Rattle.dy_values.specs.declared.error.ErrorRow.{ErrorRow}
use Rattle.dy_outcome.specs.declared.state.Frame.{Frame}
use Rattle.dy_outcome.specs.declared.state.State.{State}
use Rattle.dy_outcome.specs.States.{Scope, back_to}
use Rattle.dy_outcome.specs.Calls.{signalled}
use Rattle.dy_meaning.specs.Programs.{world}
use Rattle.dy_steps.specs.Configurations.{Signalled}
use Rattle.dy_steps.specs.Effects.{ended, signal}
use Rattle.dy_lowering_law.specs.Following.{Spot, standing, after, IsRightAfter}
use Rattle.dy_lowering_law.specs.Machines.{machine_of}
use Rattle.dy_lowering_law.specs.Renumbering.{body_of, renumbered}
use Rattle.dy_lowering_law.proofs.Lines.{line_same}

module _ (program : Program) (error : ErrorRow) where
  abbrev units_left : ℕ → State → State
  units_left units s = record s { fuel = record { left = units } }

  signal_from : (units : ℕ) (x : Spot) (place : ℕ) (register : List Variant) (s : State) (k : ℕ) (scope : Scope)
      → signal (machine_of program) error (standing (body_of program) x place register (units_left units s) k) ≡ after (body_of program) x place (signalled (world program) error scope (units_left units s)) k
  signal_from zero x place register s k scope = refl
  signal_from (suc units) x place register s k scope =
      ap (λ line. ended (Signalled line) (renumbered (body_of program) (units_left units s)) k) (line_same (body_of program) program s.store error)

  pub signal_after : (x : Spot) (place : ℕ) (register : List Variant) (s : State) (k : ℕ) (scope : Scope)
      → signal (machine_of program) error (standing (body_of program) x place register s k) ≡ after (body_of program) x place (signalled (world program) error scope s) k
  signal_after x place register s k scope = signal_from s.fuel.left x place register s k scope

  -- from a body that was called it is the same as from its caller
  signal_out : (units : ℕ) (y x : Spot) (q place : ℕ) (inner frame : Frame) (s : State) (k : ℕ) (scope : Scope)
      → after (body_of program) y q (signalled (world program) error scope (record (units_left units s) { frame = inner })) k ≡ after (body_of program) x place (back_to frame (signalled (world program) error scope (units_left units s))) k
  signal_out zero y x q place inner frame s k scope = refl
  signal_out (suc units) y x q place inner frame s k scope = refl

  pub signal_inside : (y x : Spot) (q place : ℕ) (register : List Variant) (inner frame : Frame) (s : State) (k : ℕ) (scope : Scope)
      → signal (machine_of program) error (standing (body_of program) y q register (record s { frame = inner }) k) ≡ after (body_of program) x place (back_to frame (signalled (world program) error scope s)) k
  signal_inside y x q place register inner frame s k scope =
      signal_after y q register (record s { frame = inner }) k scope ∙ signal_out s.fuel.left y x q place inner frame s k scope

  signal_right : (locals units : ℕ) (scope : Scope) (s : State) → IsRightAfter program locals (signalled (world program) error scope (units_left units s))
  signal_right locals zero scope s = tt
  signal_right locals (suc units) scope s = tt

  pub signal_keeps : (locals : ℕ) (scope : Scope) (s : State) → IsRightAfter program locals (signalled (world program) error scope s)
  signal_keeps locals scope s = signal_right locals s.fuel.left scope s
