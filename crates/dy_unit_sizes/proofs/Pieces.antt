-- How many items the code of kinds of terms names, where it is fewer than instructions there are.
use Rattle.std.proofs.Common.{◌≡◌, ℕ, zero, suc, ◌+◌, ◌≤◌, true, false, List, [], ◌∷◌, ◌++◌, length, Option, Some, None, refl, arith}
use Rattle.std.specs.Prelude.{flat_map}
use Rattle.dy_outcome.specs.declared.place.Place.{Place}
use Rattle.dy_outcome.specs.declared.place.Place.TheVariants.{Own, Captured}
use Rattle.dy_code.specs.Fetching as instr
use Rattle.dy_lowered.specs.Flat.{Plain, Code, one, past, past_if_false}
use Rattle.dy_lowered.specs.Parts.{truth, read, kept, put, cell, captures, closing, Comparing, by_identity, by_function, compared, meeting, selecting, or_no_match, waiting, select, Part, Runs, Binds, Handles, part_code, values_behind, handler_count, without_handlers, body}
use Rattle.dy_lowering_whole.proofs.sizes.Closing.{naming, naming_light}
use Rattle.dy_lowering_whole.proofs.sizes.Weighing.{weigh, weigh_join, held_of, parts_of}

abbrev pub W : Code → ℕ
W code = weigh naming code

pub join : (a b : Code) → W (a ++ b) ≡ W a + W b
join a b = weigh_join naming a b

-- what a piece of known instructions names
pub exactly : (code : Code) (count : ℕ) → W code ≡ count → W code ≤ count
exactly code count e = omega (arith, e)

-- Locals have no items.
pub read_names : (place : Place) → W (read place) ≡ 0
read_names (Own number false) = refl
read_names (Own number true) = refl
read_names (Captured number) = refl

pub put_names : (place : Place) → W (put place) ≡ 0
put_names (Own number in_cell) = refl
put_names (Captured number) = refl

pub cell_names : (place : Place) → W (cell place) ≡ 0
cell_names (Own number true) = refl
cell_names (Own number false) = refl
cell_names (Captured number) = refl

kept_names : (place : Place) → W (kept place) ≡ 0
kept_names (Own number in_cell) = refl
kept_names (Captured number) = refl

-- nor has a closure
captures_name : (places : List Place) → W (captures places) ≡ 0
captures_name [] = refl
captures_name (place ∷ places) = omega (arith, join (kept place) (Plain instr.Push ∷ captures places), kept_names place, captures_name places)

pub closing_names : (number : ℕ) (places : List Place) → W (closing number places) ≡ 0
closing_names number places = omega (arith, join (captures places) (one (instr.Closure number (length places))), captures_name places)

-- A `select` names none but those of its parts.
abbrev pub values_of : List Code → ℕ
values_of [] = 0
values_of (value ∷ values) = W value + values_of values

abbrev pub arms_of : List (List Code × Code) → ℕ
arms_of [] = 0
arms_of (first ∷ arms) = values_of first.0 + (W first.1 + arms_of arms)

record NamesNone (by : Comparing) : Type 0 where
  pub again : W by.again ≡ 0
  pub call : naming (Plain by.call) ≡ 0
  pub away : naming (Plain by.away) ≡ 0

identity_names : NamesNone by_identity
identity_names = record { again = refl; call = refl; away = refl }

function_names : NamesNone by_function
function_names = record { again = refl; call = refl; away = refl }

compared_names : (by : Comparing) (value : Code) → NamesNone by → W (compared by value) ≡ W value
compared_names by value none =
    omega (arith, join by.again (value ++ (Plain instr.Push ∷ one by.call)), join value (Plain instr.Push ∷ one by.call), none.again, none.call)

meeting_names : (by : Comparing) (values : List Code) (missed : ℕ) → NamesNone by → W (meeting by values missed) ≡ values_of values
meeting_names by [] missed none = refl
meeting_names by (value ∷ values) missed none =
    let others = meeting by values missed in
    omega (arith, join (compared by value) (past_if_false 1 ∷ past (length others) ∷ others), compared_names by value none, meeting_names by values missed none)

selecting_names : (by : Comparing) (arms : List (List Code × Code)) (missed : Code) → NamesNone by → W (selecting by arms missed) ≡ arms_of arms + W missed
selecting_names by [] missed none = omega (arith, none.away)
selecting_names by (first ∷ arms) missed none =
    let others = selecting by arms missed in
    let met = Plain by.away ∷ (first.1 ++ past (length others) ∷ []) in
    omega (
      arith,
      join (meeting by first.0 (length met)) (met ++ others),
      join met others,
      join first.1 (past (length others) ∷ []),
      none.away,
      meeting_names by first.0 (length met) none,
      selecting_names by arms missed none,
    )

abbrev pub held_in : Option Code → ℕ
held_in code = held_of naming naming_light code

no_match_names : (last : Option Code) → W (or_no_match last) ≡ held_in last
no_match_names None = refl
no_match_names (Some term) = refl

pub select_names : (value : Code) (test : Option Code) (arms : List (List Code × Code)) (last : Option Code) → W (select value test arms last) ≡ W value + (held_in test + (arms_of arms + held_in last))
select_names value None arms last =
    let rest = selecting by_identity arms (or_no_match last) in
    omega (arith, join value (Plain instr.Push ∷ rest), selecting_names by_identity arms (or_no_match last) identity_names, no_match_names last)
select_names value (Some test) arms last =
    let rest = selecting by_function arms (or_no_match last) in
    let end = Plain instr.Push ∷ Plain instr.Restore ∷ one instr.Push in
    omega (
      arith,
      join value (waiting test ++ rest),
      join (waiting test) rest,
      join test end,
      selecting_names by_function arms (or_no_match last) function_names,
      no_match_names last,
    )

-- A body names one truth besides its parts.
abbrev pub parts_in : List Part → ℕ
parts_in all = parts_of naming naming_light all

parts_name : (all : List Part) → W (flat_map part_code all) ≡ parts_in all
parts_name [] = refl
parts_name (part ∷ all) = omega (arith, join (part_code part) (flat_map part_code all), parts_name all)

values_name : (all : List Part) (values : Code) → W values ≤ 1 → W (values_behind all values) ≤ 1
values_name [] values h = h
values_name (Runs term ∷ all) values h = values_name all [] (omega arith)
values_name (Binds binding ∷ all) values h = values_name all (truth false) (omega arith)
values_name (Handles condition function ∷ all) values h = values_name all (truth false) (omega arith)

without_names : (count : ℕ) → W (without_handlers count) ≡ 0
without_names zero = refl
without_names (suc count) = refl

pub body_names : (all : List Part) → W (body all) ≤ parts_in all + 1
body_names all =
    omega (
      arith,
      join (flat_map part_code all) (values_behind all (truth false) ++ without_handlers (handler_count all)),
      join (values_behind all (truth false)) (without_handlers (handler_count all)),
      parts_name all,
      values_name all (truth false) (omega arith),
      without_names (handler_count all),
    )
