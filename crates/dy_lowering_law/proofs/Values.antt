-- Branches, assignments and literals.
use Rattle.std.proofs.Common.{◌≡◌, ℕ, zero, suc, ◌+◌, ◌-◌, ◌≤◌, Bool, true, false, not, List, [], ◌∷◌, ◌++◌, map, length, refl, sym, ap, ◌∙◌, subst, arith}
use Rattle.std.specs.Prelude.{nat_le, slice_set, if◌then◌else◌}
use Rattle.std.proofs.lemmas.List.{length-set}
use Rattle.std.specs.declared.option.Option.{Option}
use Rattle.std.specs.declared.option.Option.TheVariants.{None, Some}
use Rattle.dy_term.specs.declared.literal.Literal.{Literal, Literal-F, out-Literal, roll-Literal, out-roll-Literal}
use Rattle.dy_term.specs.declared.rows.Program.{Program}
use Rattle.dy_values.specs.declared.value.Variant.{Variant}
use Rattle.dy_values.specs.declared.value.Variant.TheVariants.{Int, Char, Bool as Truth, Symbol, Nil, Class, TypeValue, Generic, Function, Builtin, Object}
use Rattle.dy_values.specs.declared.object.ObjectRow.{ObjectRow}
use Rattle.dy_values.specs.declared.object.ObjectRow.TheVariants as object
use Rattle.dy_values.specs.declared.store.Store.{Store}
use Rattle.dy_values.specs.Spending.{first, is_false, Made, Makes, Lacks, paying, made_string, made_kind, made_literal}
use Rattle.dy_values.specs.Stores.{with_object, next_object}
use Rattle.dy_outcome.specs.declared.state.State.{State}
use Rattle.dy_outcome.specs.declared.place.Place.{Place}
use Rattle.dy_outcome.specs.declared.place.Place.TheVariants.{Own, Captured}
use Rattle.dy_outcome.specs.States.{Outcome, Gave, Spent, Does, and_then, gave}
use Rattle.dy_outcome.specs.Nearness.{units_of}
use Rattle.dy_outcome.specs.Places.{with_local, with_captured, with_cell, assign, put, put_in, put_through, cell_of, kept_at}
use Rattle.dy_outcome.specs.Parts.{assigning}
use Rattle.dy_outcome.specs.Choices.{branching, both, chosen}
use Rattle.dy_code.specs.Fetching as instr
use Rattle.dy_code.specs.Validity.{Every}
use Rattle.dy_meaning.specs.Meaning.{literal, with_made}
use Rattle.dy_steps.specs.Configurations.{Config, Step, Goes}
use Rattle.dy_steps.specs.Steps.{act, made}
use Rattle.dy_lowered.specs.Flat.{Code, Plain, one}
use Rattle.dy_lowered.specs.Parts as parts
use Rattle.dy_lowering_law.specs.Following.{Spot, standing, after, Comes, IsWord, AreWords, IsKnown, HasWords, IsRight, IsRightAfter, Follows}
use Rattle.dy_lowering_law.specs.Kinds.{BranchesDo}
use Rattle.dy_lowering_law.specs.Machines.{machine_of}
use Rattle.dy_lowering_law.specs.Renumbering.{body_of, renumbered, renumbered_store}
use Rattle.dy_lowering_law.proofs.Leading.{comes_by, stepped}
use Rattle.dy_lowering_law.proofs.Same.{assign_same, next_same, added_same}
use Rattle.dy_lowering_law.proofs.Cases.{first_word, then_follows, choice_follows}

module _ (program : Program) (n before locals : ℕ) where
  pub branching_follows : (codes : List (Code × Code)) (all : List (Does × Does)) (code : Code) (does : Does) → BranchesDo program n before locals codes all → Follows program n before locals code does
      → Follows program n before locals (parts.branching codes code) (branching all does)
  branching_follows [] [] code does follow other = other
  branching_follows [] (d ∷ all) code does follow other = absurd follow
  branching_follows (c ∷ codes) [] code does follow other = absurd follow
  branching_follows (c ∷ codes) (d ∷ all) code does follow other =
      choice_follows program n before locals c.0 c.1 (parts.branching codes code) d.0 d.1 (branching all does) follow.0 follow.1 (branching_follows codes all code does follow.2 other)

-- values of 64 bits stay so
pub words_with : (values : List Variant) (place : ℕ) (value : Variant) → IsWord value → AreWords values → AreWords (slice_set values place value)
words_with [] place value word words = tt
words_with (other ∷ values) zero value word words = (word, words.1)
words_with (other ∷ values) (suc place) value word words = (words.0, words_with values place value word words.1)

pub local_words : (s : State) (place : ℕ) (value : Variant) → IsWord value → HasWords s → HasWords (with_local place value s)
local_words s place value word words = record { locals = words_with s.frame.locals place value word words.locals; captured = words.captured; globals = words.globals }

-- a local that lives in a cell
pub cell_words : (s : State) (place : ℕ) (value : Variant) → HasWords s → HasWords (with_local place (next_object s.store) (with_cell value s))
cell_words s place value words = record { locals = words_with s.frame.locals place (next_object s.store) tt words.locals; captured = words.captured; globals = words.globals }

pub captured_words : (s : State) (place : ℕ) (value : Variant) → IsWord value → HasWords s → HasWords (with_captured place value s)
captured_words s place value word words = record { locals = words.locals; captured = words_with s.frame.captured place value word words.captured; globals = words.globals }

-- states stay right
module _ (program : Program) where
  pub known_set : (objects : List ObjectRow) (place : ℕ) (row : ObjectRow) → Every (IsKnown program) objects → IsKnown program row → Every (IsKnown program) (slice_set objects place row)
  known_set [] place row all known = tt
  known_set (o ∷ objects) zero row all known = (known, all.1)
  known_set (o ∷ objects) (suc place) row all known = (all.0, known_set objects place row all.1 known)

  pub known_added : (objects : List ObjectRow) (row : ObjectRow) → Every (IsKnown program) objects → IsKnown program row → Every (IsKnown program) (objects ++ row ∷ [])
  known_added [] row all known = (known, tt)
  known_added (o ∷ objects) row all known = (all.0, known_added objects row all.1 known)

  module _ (locals : ℕ) where
    put_right : (place : Place) (value : Variant) → IsWord value → (s : State) → IsRight program locals s → IsRight program locals (put place value s)
    put_right (Own k in_cell) value word s right = record { objects = right.objects; frame = length-set s.frame.locals k value ∙ right.frame; words = local_words s k value word right.words }
    put_right (Captured k) value word s right = record { objects = right.objects; frame = right.frame; words = captured_words s k value word right.words }

    put_in_right : (held : Option Variant) (cell : Variant) (place : Place) (value : Variant) → IsWord value → (s : State) → IsRight program locals s → IsRight program locals (put_in held cell place value s)
    put_in_right None cell place value word s right = put_right place value word s right
    put_in_right (Some held) (Object k) place value word s right = record { objects = known_set s.store.objects k (object.Cell value) right.objects word; frame = right.frame; words = record { locals = right.words.locals; captured = right.words.captured; globals = right.words.globals } }
    put_in_right (Some held) _ place value word s right = put_right place value word s right

    pub assign_right : (place : Place) (value : Variant) → IsWord value → (s : State) → IsRight program locals s → IsRight program locals (assign place value s)
    assign_right (Own k false) value word s right = put_right (Own k false) value word s right
    assign_right (Own k true) value word s right = put_in_right (cell_of s.store (kept_at (Own k true) s)) (kept_at (Own k true) s) (Own k true) value word s right
    assign_right (Captured k) value word s right = put_in_right (cell_of s.store (kept_at (Captured k) s)) (kept_at (Captured k) s) (Captured k) value word s right

put_in_units : (held : Option Variant) (cell : Variant) (place : Place) (value : Variant) (s : State) → (put_in held cell place value s).fuel.left ≡ s.fuel.left
put_in_units None cell (Own k in_cell) value s = refl
put_in_units None cell (Captured k) value s = refl
put_in_units (Some held) (Object k) place value s = refl
put_in_units (Some held) _ (Own k in_cell) value s = refl
put_in_units (Some held) _ (Captured k) value s = refl

assign_units : (place : Place) (value : Variant) (s : State) → (assign place value s).fuel.left ≡ s.fuel.left
assign_units (Own k false) value s = refl
assign_units (Own k true) value s = put_in_units (cell_of s.store (kept_at (Own k true) s)) (kept_at (Own k true) s) (Own k true) value s
assign_units (Captured k) value s = put_in_units (cell_of s.store (kept_at (Captured k) s)) (kept_at (Captured k) s) (Captured k) value s

module _ (program : Program) (n before locals : ℕ) where
  assign_falls : (place : Place) (values : List Variant) (s : State) → units_of (gave (first values) (assign place (first values) s)) ≤ s.fuel.left
  assign_falls place values s = let same = assign_units place (first values) s in omega (arith, same)

  pub assigning_follows : (place : Place) (code : Code) (does : Does) → Follows program n before locals code does → Follows program n before locals (parts.assigning place code) (assigning place does)
  assigning_follows (Own k false) code does follows =
      then_follows program n before locals code does (Plain (instr.SetLocal k)) (λ values s. gave (first values) (assign (Own k false) (first values) s)) follows (assign_falls (Own k false)) (λ values s right words. (assign_right program locals (Own k false) (first values) (first_word values words) s right, (first_word values words, tt)))
      (λ x place values s j. refl)
  assigning_follows (Own k true) code does follows =
      then_follows program n before locals code does (Plain (instr.CellSet k)) (λ values s. gave (first values) (assign (Own k true) (first values) s)) follows (assign_falls (Own k true)) (λ values s right words. (assign_right program locals (Own k true) (first values) (first_word values words) s right, (first_word values words, tt)))
      (λ x place values s j. ap (λ (t : State). Goes (record (standing (body_of program) x (place + 1) (first values ∷ []) s j) { state = t })) (assign_same (body_of program) (Own k true) (first values) s))
  assigning_follows (Captured k) code does follows =
      then_follows program n before locals code does (Plain (instr.FreeSet k)) (λ values s. gave (first values) (assign (Captured k) (first values) s)) follows (assign_falls (Captured k)) (λ values s right words. (assign_right program locals (Captured k) (first values) (first_word values words) s right, (first_word values words, tt)))
      (λ x place values s j. ap (λ (t : State). Goes (record (standing (body_of program) x (place + 1) (first values ∷ []) s j) { state = t })) (assign_same (body_of program) (Captured k) (first values) s))
