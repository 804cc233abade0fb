-- The bodies of the program of accepted libraries are few.
use Rattle.std.proofs.Common.{◌≡◌, ◌⊎◌, inl, inr, ℕ, zero, suc, ◌+◌, ◌-◌, ◌^◌, ◌<◌, ◌≤◌, Bool, true, false, nat_le, List, [], ◌∷◌, ◌++◌, length, map, flat_map, refl, sym, ap, ◌∙◌, subst, arith}
use Rattle.std.proofs.lemmas.Bool.{cases_lt}
use Rattle.std.proofs.lemmas.List.{get_or_append_left, get_or_push, length_push, length-map}
use Rattle.dy_term.specs.declared.rows.LibraryRow.{LibraryRow}
use Rattle.dy_term.specs.declared.rows.Program.{Program}
use Rattle.dy_code.specs.Programs.{bodies_in}
use Rattle.dy_code.specs.Validity.{Every}
use Rattle.dy_lowered.specs.Bodies.{bodies_of}
use Rattle.dy_lowered.specs.Flat.{placed_from}
use Rattle.dy_lowered.specs.Tables.{tables_of}
use Rattle.dy_lowered.specs.Units.{body_of, lowered}
use Rattle.dy_unit_sizes.proofs.Libraries.{bodies_few}
use Rattle.dy_linked_rows.specs.Rows.{linked_library}
use Rattle.dy_linked_rows.specs.Code.{linked_body}
use Rattle.dy_linked_rows.specs.Programs.{Viewed, row_in_program, places_of}
use Rattle.dy_linked_rows.proofs.Bodies.{bodies_are_linked}
use Rattle.dy_views.specs.Laws.{view_at}
use Rattle.dy_libraries.specs.declared.libraries.Libraries.{Libraries}
use Rattle.dy_libraries.specs.Commands.{built_in}
use Rattle.dy_libraries.specs.Programs.{library_at, libraries_of}
use Rattle.dy_running.specs.Runs.{viewed}
use Rattle.dy_verdict.specs.declared.library.ReadLibrary.{ReadLibrary}
use Rattle.dy_sources.specs.Verdicts.{is_full}
use Rattle.dy_sources.specs.Libraries.{with_read, IsAccepted, AreAccepted, none_read, one_more}
use Rattle.dy_sources.proofs.Accepted.{accepted_are_libraries}
use Rattle.dy_accepted_runs.specs.Accepted.{program_at}
use Rattle.dy_accepted_runs.proofs.Known.{row_at}
use Rattle.dy_accepted_runs.proofs.Views.{all_seen_low, seen_once}
use Rattle.dy_program_sizes.specs.Sizes.{ProgramsAreSmall}
use Rattle.dy_program_sizes.proofs.Pieces.{accepted_small}
use Rattle.dy_program_sizes.proofs.Counts.{weight, weights, light}

-- ---- each library has few bodies, and there are few libraries

record AreFew (libraries : Libraries) : Type 0 where
  pub least : 2 ≤ length libraries.rows
  pub most : length libraries.rows ≤ 66
  pub each : (k : ℕ) → k < length libraries.rows → length (bodies_of (row_at libraries k)) ≤ weight k

built_in_few : AreFew built_in
built_in_few = record { least = omega arith; most = omega arith; each = each }
  where
    each : (k : ℕ) → k < 2 → length (bodies_of (row_at built_in k)) ≤ weight k
    each zero low = omega arith
    each (suc zero) low = omega arith
    each (suc (suc k)) low = absurd (omega (arith, low))

weight_own : (k : ℕ) → 2 ≤ k → weight k ≡ 2 ^ 26 - 1
weight_own zero le = absurd (omega (arith, le))
weight_own (suc zero) le = absurd (omega (arith, le))
weight_own (suc (suc k)) le = refl

room_left : (n : ℕ) → nat_le 66 n ≡ false → n < 66
room_left n room = go (cases_lt n 66)
  where
    go : (n < 66) ⊎ (66 ≤ n) → n < 66
    go (inl less) = less
    go (inr more) = grind (arith, room, more)

module _ (before : Libraries) (read : ReadLibrary) (few : AreFew before) (is : IsAccepted before read) where
  abbrev n : ℕ
  n = length before.rows

  count : length (with_read before read).rows ≡ n + 1
  count = length_push before.rows read.row

  own_few : length (bodies_of read.row) ≤ weight n
  own_few =
      let small = (accepted_small before.compiled is.library is.texts read is.judged).0 in
      let bodies = bodies_few read.row in
      let top = weight_own n few.least in
      omega (arith, small, bodies, top)

  each_few : (k : ℕ) → (k < n) ⊎ (k ≡ n) → length (bodies_of (row_at (with_read before read) k)) ≤ weight k
  each_few k (inl low) = subst (λ (row : LibraryRow). length (bodies_of row) ≤ weight k) (sym (get_or_append_left before.rows (read.row ∷ []) _ k low)) (few.each k low)
  each_few k (inr last) =
      subst (λ (j : ℕ). length (bodies_of (row_at (with_read before read) j)) ≤ weight j) (sym last)
      (subst (λ (row : LibraryRow). length (bodies_of row) ≤ weight n) (sym (get_or_push before.rows read.row _ n refl)) own_few)

  split : (k : ℕ) → k < length (with_read before read).rows → (k < n) ⊎ (k ≡ n)
  split k low = go (cases_lt k n)
    where
      go : (k < n) ⊎ (n ≤ k) → (k < n) ⊎ (k ≡ n)
      go (inl less) = inl less
      go (inr more) = inr (omega (arith, low, count, more))

  one_more_few : AreFew (with_read before read)
  one_more_few = record {
    least = let l = few.least in omega (arith, l, count);
    most = let room = room_left n is.room in omega (arith, room, count);
    each = λ k low. each_few k (split k low);
  }

accepted_few : (libraries : Libraries) → AreAccepted libraries → AreFew libraries
accepted_few libraries none_read = built_in_few
accepted_few libraries (one_more before read are is) = one_more_few before read (accepted_few before are) is

-- ---- the bodies of a program are those of its libraries

linked_count : (places : ℕ → ℕ) (row : LibraryRow) → length (bodies_of (linked_library places row)) ≡ length (bodies_of row)
linked_count places row = ap length (bodies_are_linked places row) ∙ length-map (bodies_of row) (linked_body places)

lowered_count : (program : Program) (row : LibraryRow) → length (lowered program row).bodies ≡ length (bodies_of row)
lowered_count program row = length-map (bodies_of row) (body_of (tables_of (flat_map (λ body. placed_from 0 body.code) (bodies_of row))))

module _ (program : Program) (seen : List Viewed) (libraries : Libraries) where
  bodies_weigh : (numbers : List ℕ) → Every (λ m. length (bodies_of (row_at libraries m)) ≤ weight m) numbers
      → bodies_in (map (lowered program) (map (row_in_program seen) (map viewed (map (library_at libraries) numbers)))) ≤ weights numbers
  bodies_weigh [] all = omega arith
  bodies_weigh (m ∷ numbers) all =
      let row = row_in_program seen (viewed (library_at libraries m)) in
      let written = lowered_count program row in
      let same = linked_count (places_of seen (viewed (library_at libraries m))) (row_at libraries m) in
      let rest = bodies_weigh numbers all.1 in
      let here = all.0 in
      omega (arith, written, same, rest, here)

every_on : (P Q : ℕ → Type 0) → ((m : ℕ) → P m → Q m) → (ns : List ℕ) → Every P ns → Every Q ns
every_on P Q one [] all = tt
every_on P Q one (m ∷ ns) all = (one m all.0, every_on P Q one ns all.1)

pub programs_small : ProgramsAreSmall
programs_small libraries main are low =
    let few = accepted_few libraries are in
    let know = accepted_are_libraries libraries are in
    let rows = know.rows in
    let under : main < length libraries.compiled.exports = omega (arith, low, rows) in
    let order = view_at libraries.compiled main in
    let seen_low = all_seen_low libraries.compiled know.compiled main under in
    let inside : Every (λ m. m < length libraries.rows) order = every_on (λ m. m < length libraries.compiled.exports) (λ m. m < length libraries.rows) (λ m l. omega (arith, l, rows)) order seen_low in
    let each = every_on (λ m. m < length libraries.rows) (λ m. length (bodies_of (row_at libraries m)) ≤ weight m) (λ m l. few.each m l) order inside in
    let weigh = bodies_weigh (program_at libraries main) (map viewed (libraries_of libraries main)) libraries order each in
    let less = light order (length libraries.rows) (seen_once libraries.compiled know.compiled main under) inside few.least few.most in
    omega (arith, weigh, less)
