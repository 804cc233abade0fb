-- An exit does not see what was pushed since its rows came into force.
use Rattle.std.proofs.Common.{◌≡◌, ℕ, List, [], ◌∷◌, ◌≤◌, length, Option, Some, None, refl, ap, ◌∙◌}
use Rattle.std.specs.Prelude.{nat_eq, if◌then◌else◌, Bool, true, false}
use Rattle.dy_values.specs.declared.value.Variant.{Variant}
use Rattle.dy_outcome.specs.declared.state.State.{State}
use Rattle.dy_outcome.specs.declared.state.Frame.{Frame}
use Rattle.dy_code.specs.Validity.{Every}
use Rattle.dy_steps.specs.Configurations.{Row, Leaves, Cleans, Handles, Catches, Activation, Waiting, Config, Step, Stuck, Machine}
use Rattle.dy_steps.specs.Exits.{KeepsAtMost, with_operand, ExitLaws}
use Rattle.dy_steps.specs.Rows.{arrival, arrived, unwound}
use Rattle.dy_lowering_law.specs.Force.{KeepsWithin, RowsFit}
use Rattle.dy_lowering_law.specs.Following.{Spot, standing}
use Rattle.dy_lowering_law.proofs.Leading.{Inside}

arrived_free : (found : Option (List Variant × Activation)) (frame : Frame) (waiting others : List Waiting) (a : Activation) (register : List Variant) (c : Config) (one other : Step) → one ≡ other
    → arrived found frame waiting (record c { running = a; waiting = others; register = register }) one ≡ arrived found frame waiting c other
arrived_free None frame waiting others a register c one other e = e
arrived_free (Some found) frame waiting others a register c one other e = refl

-- nor does it see which body runs, but by its rows
pub unwound_free : (block : ℕ) (values : List Variant) (from : Activation) (frame : Frame) (waiting others : List Waiting) (a : Activation) (register : List Variant) (c : Config)
    → unwound block values from frame waiting (record c { running = a; waiting = others; register = register }) ≡ unwound block values from frame waiting c
unwound_free block values from frame [] others a register c =
    arrived_free (arrival block values from.rows from) frame [] others a register c _ _ refl
unwound_free block values from frame (w ∷ waiting) others a register c =
    arrived_free (arrival block values from.rows from) frame (w ∷ waiting) others a register c _ _ (unwound_free block values w.activation w.frame waiting others a register c)

at_most : (a : Activation) (rows : List Row) → Every (KeepsWithin a) rows → Every (KeepsAtMost (length a.operands)) rows
at_most a [] all = tt
at_most a (Leaves number to ∷ rows) all = (all.0.0, at_most a rows all.1)
at_most a (Cleans number to ∷ rows) all = (all.0.0, at_most a rows all.1)
at_most a (Handles number condition function ∷ rows) all = (tt, at_most a rows all.1)
at_most a (Catches number condition to ∷ rows) all = (all.0.0, at_most a rows all.1)

abbrev pub pushed : Variant → Spot → Spot
pushed value x = record x { running = with_operand value x.running }

module _ (m : Machine) (laws : ExitLaws) where
  unwound_push : (block : ℕ) (values : List Variant) (value : Variant) (a : Activation) (frame : Frame) (waiting : List Waiting) (c : Config) → RowsFit a
      → unwound block values (with_operand value a) frame waiting c ≡ unwound block values a frame waiting c
  unwound_push block values value a frame [] c fit =
      ap (λ found. arrived found frame [] c Stuck) (laws.operands block values a.rows value a (at_most a a.rows fit))
  unwound_push block values value a frame (w ∷ waiting) c fit =
      ap (λ found. arrived found frame (w ∷ waiting) c (unwound block values w.activation w.frame waiting c)) (laws.operands block values a.rows value a (at_most a a.rows fit))

  pub inside_push : (number : ℕ → ℕ) (value : Variant) (x : Spot) → RowsFit x.running → Inside m number (pushed value x) x
  inside_push number value x fit = record {
    by = λ block values state searches.
        unwound_push block values value x.running state.frame x.waiting (standing number (pushed value x) 0 [] state searches) fit
        ∙ unwound_free block values x.running state.frame x.waiting x.waiting (record (with_operand value x.running) { place = 0 }) [] (standing number x 0 [] state searches);
  }
