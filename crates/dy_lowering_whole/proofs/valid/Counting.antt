-- The code of a clause that counts leaves what it says among the operands.
use Rattle.std.proofs.Common.{◌≡◌, ℕ, zero, suc, ◌+◌, Bool, true, false, ℤ, pos, negsuc, ◌+ℤ◌, ◌-ℤ◌, List, [], ◌∷◌, ◌++◌, length, Option, Some, None, refl, arith}
use Rattle.std.specs.Prelude.{int_lt, if◌then◌else◌}
use Rattle.dy_term.specs.declared.term.Limit.{Limit}
use Rattle.dy_term.specs.declared.term.Limit.TheVariants.{To, Above, Below}
use Rattle.dy_outcome.specs.declared.place.Place.{Place}
use Rattle.dy_code.specs.Fetching as instr
use Rattle.dy_code.specs.Layouts.{Layout}
use Rattle.dy_meaning.specs.Meaning.{identity}
use Rattle.dy_lowered.specs.Flat.{Plain, Code, one}
use Rattle.dy_lowered.specs.Parts.{read, choice}
use Rattle.dy_lowered.specs.Turns.{Amount, Known, Given, Counter, addition, comparison, number, with_number, integer, leaves_if, least_number, greatest_number, bound_below, bound_above, tested_by, top_less, room_for, bound_starting, hidden_bound, stepping, up_to, again, raised, meeting, by_one, counter}
use Rattle.dy_lowering_whole.specs.valid.Shapes.{Lays, IsEven}
use Rattle.dy_lowering_whole.proofs.valid.Choosing.{lays_choice}
use Rattle.dy_lowering_whole.proofs.valid.Laying.{lays_nothing, lays_join}
use Rattle.dy_lowering_whole.proofs.valid.Leaving.{Exits, Ends, ends_lays, ends_join, ends_even, ends_leaves_if}
use Rattle.dy_lowering_whole.proofs.valid.Pieces.{even_join, even_read}
use Rattle.dy_lowering_whole.proofs.valid.Straight.{lay, more, Lying, moves, over, straight}

pub straight_even : (code : Code) → moves code (0, 0) ≡ Some (0, 0) → IsEven code
straight_even code e l = straight l.operands l.saved l code (0, 0) (0, 0) e

pub even_number : (value : ℤ) → IsEven (number value)
even_number value = straight_even (number value) refl

pub even_integer : (term : Code) → IsEven term → IsEven (integer term)
even_integer term h =
    let test = Plain instr.Push ∷ Plain instr.Push ∷ (with_number comparison (pos 0) ++ one (instr.Values 1)) in
    even_join term test h (straight_even test refl)

abbrev pub IsAmountEven : Amount → Type 0
IsAmountEven (Known number) = Unit {0}
IsAmountEven (Given code) = IsEven code

abbrev pub IsLimitEven : Option (Limit × Amount) → Type 0
IsLimitEven None = Unit {0}
IsLimitEven (Some limit) = IsAmountEven limit.1

lays_if : (test : Bool) (one other : Code) (from to : Layout) → Lays one from to → Lays other from to → Lays (if test then one else other) from to
lays_if true one other from to a b = a
lays_if false one other from to a b = b

-- one way to count, over so many operands and lists on the side
pub record IsCounter (clause : Counter) : Type 1 where
  pub starts : (n s : ℕ) (l : Layout) → Lays clause.starting (lay n s l) (lay (more clause.hidden n) s l)
  pub tests : (exits : Exits) (place : Place) (away distance k n s : ℕ) (l : Layout) → exits k (lay (more clause.hidden n) s l) → away ≡ distance + k
      → Ends exits (clause.testing place away) distance (lay (more clause.hidden n) s l) (lay (more clause.hidden n) s l)
  pub advances : (exits : Exits) (away distance k n s : ℕ) (l : Layout) → exits k (lay (suc (more clause.hidden n)) s l) → away ≡ distance + k
      → Ends exits (clause.advancing away) distance (lay (suc (more clause.hidden n)) s l) (lay (more clause.hidden n) s l)

module _ (n s : ℕ) (l : Layout) where
  abbrev at : Lying → Layout
  at a = over n s l a

  runs : (code : Code) (a b : Lying) → moves code a ≡ Some b → Lays code (at a) (at b)
  runs code a b e = straight n s l code a b e

  around : (front tail : Code) (place : Place) (a b c : Lying) → moves front a ≡ Some b → moves tail b ≡ Some c → Lays (front ++ (read place ++ tail)) (at a) (at c)
  around front tail place a b c e f = lays_join front (read place ++ tail) (at a) (at b) (at c) (runs front a b e) (lays_join (read place) tail (at b) (at b) (at c) (even_read place (at b)) (runs tail b c f))

  lays_starting : (start : Code) (limit : Option (Limit × Amount)) → IsEven start → IsLimitEven limit → Lays (bound_starting start limit) (at (0, 0)) (at (hidden_bound limit, 0))
  lays_starting start None h k = even_integer start h (at (0, 0))
  lays_starting start (Some (limit, Known bound)) h k = even_integer start h (at (0, 0))
  lays_starting start (Some (limit, Given code)) h k =
      let tail = Plain instr.Push ∷ one instr.Restore in
      let rest = integer code ++ tail in
      lays_join (integer start) (Plain instr.Save ∷ rest) (at (0, 0)) (at (0, 0)) (at (1, 0)) (even_integer start h (at (0, 0)))
      (lays_join (one instr.Save) rest (at (0, 0)) (at (0, 1)) (at (1, 0)) (runs (one instr.Save) (0, 0) (0, 1) refl)
      (lays_join (integer code) tail (at (0, 1)) (at (0, 1)) (at (1, 0)) (even_integer code k (at (0, 1))) (runs tail (0, 1) (1, 0) refl)))

  below_known : (bound : ℤ) (place : Place) → Lays (bound_below (Known bound) place) (at (0, 0)) (at (0, 0))
  below_known bound place = around (number bound ++ one instr.Push) (Plain instr.Push ∷ one (instr.Op comparison 2)) place (0, 0) (1, 0) (0, 0) refl refl

  below_given : (code : Code) (place : Place) → Lays (bound_below (Given code) place) (at (1, 0)) (at (1, 0))
  below_given code place = around (Plain (instr.Values 1) ∷ Plain instr.Push ∷ one instr.Push) (Plain instr.Push ∷ one (instr.Op comparison 2)) place (1, 0) (2, 0) (1, 0) refl refl

  above_known : (bound : ℤ) (place : Place) → Lays (bound_above (Known bound) place) (at (0, 0)) (at (0, 0))
  above_known bound place = runs (bound_above (Known bound) place) (0, 0) (0, 0) refl

  above_given : (code : Code) (place : Place) → Lays (bound_above (Given code) place) (at (1, 0)) (at (1, 0))
  above_given code place =
      around (Plain (instr.Values 1) ∷ Plain instr.Push ∷ one instr.Save) (Plain instr.Push ∷ Plain instr.Restore ∷ Plain instr.Push ∷ one (instr.Op comparison 2)) place (1, 0) (1, 1) (1, 0) refl refl

  lays_raised : Lays raised (at (1, 0)) (at (1, 0))
  lays_raised =
      let test = again 2 ++ one (instr.Op comparison 2) in
      let higher = Plain (instr.Values 2) ∷ Plain instr.Restore ∷ one instr.Push in
      let same = Plain (instr.Values 1) ∷ one instr.Restore in
      lays_join (Plain instr.Save ∷ one instr.Push) (choice test higher same) (at (1, 0)) (at (2, 1)) (at (1, 0)) (runs (Plain instr.Save ∷ one instr.Push) (1, 0) (2, 1) refl)
      (lays_choice test higher same (at (2, 1)) (at (2, 1)) (at (1, 0)) (runs test (2, 1) (2, 1) refl) (runs higher (2, 1) (1, 0) refl) (runs same (2, 1) (1, 0) refl))

  -- a test that leaves
  module _ (exits : Exits) (away distance k : ℕ) (a : Lying) (exit : exits k (at a)) (same : away ≡ distance + k) where
    ends_compared : (compare : Code) (test : Bool) → Lays compare (at a) (at a) → Ends exits (compare ++ leaves_if test away) distance (at a) (at a)
    ends_compared compare test h = ends_even exits compare (leaves_if test away) distance (at a) (at a) (at a) h (ends_leaves_if exits test away distance k (at a) exit same)

    ends_nothing : Ends exits [] distance (at a) (at a)
    ends_nothing = ends_lays exits [] distance (at a) (at a) (lays_nothing (at a))

  ends_tested_by : (exits : Exits) (step : ℤ) (limit : Option (Limit × Amount)) (place : Place) (away distance k : ℕ) → exits k (at (hidden_bound limit, 0)) → away ≡ distance + k
      → Ends exits (tested_by step limit place away) distance (at (hidden_bound limit, 0)) (at (hidden_bound limit, 0))
  ends_tested_by exits step None place away distance k exit same = ends_nothing exits away distance k (0, 0) exit same
  ends_tested_by exits step (Some (To, Known bound)) place away distance k exit same =
      ends_compared exits away distance k (0, 0) exit same (if int_lt step (pos 0) then bound_above (Known bound) place else bound_below (Known bound) place) true
      (lays_if (int_lt step (pos 0)) (bound_above (Known bound) place) (bound_below (Known bound) place) (at (0, 0)) (at (0, 0)) (above_known bound place) (below_known bound place))
  ends_tested_by exits step (Some (To, Given code)) place away distance k exit same =
      ends_compared exits away distance k (1, 0) exit same (if int_lt step (pos 0) then bound_above (Given code) place else bound_below (Given code) place) true
      (lays_if (int_lt step (pos 0)) (bound_above (Given code) place) (bound_below (Given code) place) (at (1, 0)) (at (1, 0)) (above_given code place) (below_given code place))
  ends_tested_by exits step (Some (Above, Known bound)) place away distance k exit same = ends_compared exits away distance k (0, 0) exit same (bound_below (Known bound) place) false (below_known bound place)
  ends_tested_by exits step (Some (Above, Given code)) place away distance k exit same = ends_compared exits away distance k (1, 0) exit same (bound_below (Given code) place) false (below_given code place)
  ends_tested_by exits step (Some (Below, Known bound)) place away distance k exit same = ends_compared exits away distance k (0, 0) exit same (bound_above (Known bound) place) false (above_known bound place)
  ends_tested_by exits step (Some (Below, Given code)) place away distance k exit same = ends_compared exits away distance k (1, 0) exit same (bound_above (Given code) place) false (above_given code place)

  ends_room : (exits : Exits) (step : ℤ) (away distance k : ℕ) → exits k (at (1, 0)) → away ≡ distance + k → Ends exits (room_for step away) distance (at (1, 0)) (at (1, 0))
  ends_room exits (pos zero) away distance k exit same = ends_nothing exits away distance k (1, 0) exit same
  ends_room exits (pos (suc m)) away distance k exit same = ends_compared exits away distance k (1, 0) exit same (top_less (greatest_number -ℤ pos m)) false (runs (top_less (greatest_number -ℤ pos m)) (1, 0) (1, 0) refl)
  ends_room exits (negsuc m) away distance k exit same = ends_compared exits away distance k (1, 0) exit same (top_less (least_number +ℤ pos (suc m))) true (runs (top_less (least_number +ℤ pos (suc m))) (1, 0) (1, 0) refl)

  -- a number is added to the one on top
  lays_added : (step : ℤ) → Lays (with_number addition step) (at (1, 0)) (at (0, 0))
  lays_added step = runs (with_number addition step) (1, 0) (0, 0) refl

  ends_stepped : (exits : Exits) (step : ℤ) (away distance k : ℕ) → exits k (at (1, 0)) → away ≡ distance + k → Ends exits (room_for step (3 + away) ++ with_number addition step) distance (at (1, 0)) (at (0, 0))
  ends_stepped exits step away distance k exit same =
      let three : length (with_number addition step) ≡ 3 = refl in
      ends_join exits (room_for step (3 + away)) (with_number addition step) distance (at (1, 0)) (at (1, 0)) (at (0, 0))
      (ends_room exits step (3 + away) (length (with_number addition step) + distance) k exit (omega (arith, same, three))) (ends_lays exits (with_number addition step) distance (at (1, 0)) (at (0, 0)) (lays_added step))

  ends_met : (exits : Exits) (place : Place) (away distance k : ℕ) → exits k (at (1, 0)) → away ≡ distance + k
      → Ends exits (Plain (instr.Values 1) ∷ Plain instr.Push ∷ Plain instr.Push ∷ (read place ++ (Plain instr.Push ∷ (Plain (instr.Op identity 2) ∷ leaves_if true away)))) distance (at (1, 0)) (at (1, 0))
  ends_met exits place away distance k exit same =
      let front = Plain (instr.Values 1) ∷ Plain instr.Push ∷ one instr.Push in
      let compare = Plain instr.Push ∷ one (instr.Op identity 2) in
      let tail = compare ++ leaves_if true away in
      ends_even exits front (read place ++ tail) distance (at (1, 0)) (at (2, 0)) (at (1, 0)) (runs front (1, 0) (2, 0) refl)
      (ends_even exits (read place) tail distance (at (2, 0)) (at (2, 0)) (at (1, 0)) (even_read place (at (2, 0)))
      (ends_even exits compare (leaves_if true away) distance (at (2, 0)) (at (1, 0)) (at (1, 0)) (runs compare (2, 0) (1, 0) refl) (ends_leaves_if exits true away distance k (at (1, 0)) exit same)))

-- each way to count
counts_by : (start : Code) (limit : Option (Limit × Amount)) (step : ℤ) → IsEven start → IsLimitEven limit → IsCounter (stepping start limit step)
counts_by start limit step h k = record {
  starts = λ n s l. lays_starting n s l start limit h k;
  tests = λ exits place away distance e n s l exit same. ends_tested_by n s l exits step limit place away distance e exit same;
  advances = λ exits away distance e n s l exit same. ends_stepped (more (hidden_bound limit) n) s l exits step away distance e exit same;
}

counts_up : (start : Code) (bound : ℤ) → IsEven start → IsCounter (up_to start bound)
counts_up start bound h = record {
  starts = λ n s l. even_integer start h (lay n s l);
  tests = λ exits place away distance e n s l exit same. ends_tested_by n s l exits (pos 1) (Some (Below, Known bound)) place away distance e exit same;
  advances = λ exits away distance e n s l exit same. ends_lays exits (with_number addition (pos 1)) distance (lay (suc n) s l) (lay n s l) (lays_added n s l (pos 1));
}

counts_until : (start bound : Code) → IsEven start → IsEven bound → IsCounter (meeting start bound)
counts_until start bound h k = record {
  starts = λ n s l. lays_join (bound_starting start (Some (Below, Given bound))) raised (lay n s l) (lay (suc n) s l) (lay (suc n) s l) (lays_starting n s l start (Some (Below, Given bound)) h k) (lays_raised n s l);
  tests = λ exits place away distance e n s l exit same. ends_met n s l exits place away distance e exit same;
  advances = λ exits away distance e n s l exit same. ends_lays exits (with_number addition (pos 1)) distance (lay (suc (suc n)) s l) (lay (suc n) s l) (lays_added (suc n) s l (pos 1));
}

if_counts : (test : Bool) (one other : Counter) → IsCounter one → IsCounter other → IsCounter (if test then one else other)
if_counts true one other a b = a
if_counts false one other a b = b

by_one_counts : (start : Code) (limit : Option (Limit × Amount)) → IsEven start → IsLimitEven limit → IsCounter (by_one start limit)
by_one_counts start None h k = counts_by start None (pos 1) h k
by_one_counts start (Some (Below, Known bound)) h k = counts_up start bound h
by_one_counts start (Some (Below, Given bound)) h k = counts_until start bound h k
by_one_counts start (Some (To, Known bound)) h k =
    if_counts (int_lt bound greatest_number) (up_to start (bound +ℤ pos 1)) (stepping start (Some (To, Known bound)) (pos 1)) (counts_up start (bound +ℤ pos 1) h) (counts_by start (Some (To, Known bound)) (pos 1) h k)
by_one_counts start (Some (To, Given bound)) h k = counts_by start (Some (To, Given bound)) (pos 1) h k
by_one_counts start (Some (Above, Known bound)) h k = counts_by start (Some (Above, Known bound)) (pos 1) h k
by_one_counts start (Some (Above, Given bound)) h k = counts_by start (Some (Above, Given bound)) (pos 1) h k

pub counter_counts : (start : Code) (limit : Option (Limit × Amount)) (step : ℤ) → IsEven start → IsLimitEven limit → IsCounter (counter start limit step)
counter_counts start limit (pos (suc zero)) h k = by_one_counts start limit h k
counter_counts start limit (pos zero) h k = counts_by start limit (pos zero) h k
counter_counts start limit (pos (suc (suc step))) h k = counts_by start limit (pos (suc (suc step))) h k
counter_counts start limit (negsuc step) h k = counts_by start limit (negsuc step) h k
