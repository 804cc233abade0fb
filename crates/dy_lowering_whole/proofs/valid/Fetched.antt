-- What is fetched from a body of a linked program.
use Rattle.std.proofs.Common.{◌≡◌, ℕ, zero, suc, ◌+◌, ◌-◌, Bool, false, List, [], ◌∷◌, length, take, Option, Some, None, slice_get, refl, ap, ◌∙◌, subst, arith}
use Rattle.std.specs.Prelude.{nat_lt, flat_map, filter_map, if◌then◌else◌}
use Rattle.std.specs.Option.{option_map}
use Rattle.std.proofs.lemmas.Option.{slice_get-map, slice_get_within, same_Some, none-some}
use Rattle.dy_term.specs.declared.rows.LibraryRow.{LibraryRow}
use Rattle.dy_term.specs.declared.rows.Program.{Program}
use Rattle.dy_code.specs.declared.instr.Instr.{Instr}
use Rattle.dy_code.specs.declared.unit.Body.{Body}
use Rattle.dy_code.specs.declared.unit.Linked.{Linked}
use Rattle.dy_code.specs.declared.unit.UnitCode.{UnitCode}
use Rattle.dy_code.specs.Fetching.{Instruction, decode, fetch_in, fetch}
use Rattle.dy_code.specs.Programs.{Located, located_in, located, bodies_in, if_there}
use Rattle.dy_code.specs.Validity.{Every}
use Rattle.dy_lowered.specs.Bodies.{FlatBody, bodies_of}
use Rattle.dy_lowered.specs.Flat.{Flat, Plain, Jump, JumpFalse, Enter, Guard, Catch, Code, placed, placed_from}
use Rattle.dy_lowered.specs.Items.{constant_of, name_of, bound_of, list_of, type_of, results_of}
use Rattle.dy_lowered.specs.Sameness.{is_same_literal, is_same_bound, is_same_params, is_same_type, is_same_results}
use Rattle.dy_lowered.specs.Tables.{Tables, distinct, tables_of, written}
use Rattle.dy_lowered.specs.Units.{body_of, lowered}
use Rattle.dy_values.specs.Identity.{is_same_binding}
use Rattle.dy_lowering_law.specs.Following.{numbered, Holds}
use Rattle.dy_lowering_law.specs.Machines.{linked_program}
use Rattle.dy_lowering_whole.specs.valid.Writing.{IsBody, Fits, FlatFits, bodies_before, WrittenHolds}
use Rattle.dy_lowering_whole.proofs.valid.Sameness.{Tells, tells_literal, tells_binding, tells_bound, tells_params, tells_type, tells_results}
use Rattle.dy_lowering_whole.proofs.valid.Tables.{IsIn, lt_true, in_from_get, in_flat_map, in_filter_map, in_distinct}
use Rattle.dy_lowering_whole.proofs.valid.Decoding.{StoredIn, Stored, IsKept, decoded_is}

-- a body by its number
pub located_there : (units : List UnitCode) (start place body : ℕ) (unit : UnitCode) (b : Body) → slice_get units place ≡ Some unit → slice_get unit.bodies body ≡ Some b
    → located_in units start (bodies_in (take place units) + body) ≡ Some (record { unit = unit; before = start + bodies_in (take place units); body = b })
located_there [] start place body unit b e f = absurd (none-some unit e)
located_there (u ∷ us) start zero body unit b e f =
    let here : u ≡ unit = same_Some u unit e in
    let at : slice_get u.bodies body ≡ Some b = ap (λ (x : UnitCode). slice_get x.bodies body) here ∙ f in
    let within = slice_get_within u.bodies body b at in
    let first : 0 + body ≡ body = omega arith in
    let none : start ≡ start + 0 = omega arith in
    ap (λ (n : ℕ). located_in (u ∷ us) start n) first
    ∙ ap (λ (t : Bool). if t then option_map (λ (x : Body). record { unit = u; before = start; body = x }) (slice_get u.bodies body) else located_in us (start + length u.bodies) (body - length u.bodies)) (lt_true body (length u.bodies) within)
    ∙ ap (option_map (λ (x : Body). record { unit = u; before = start; body = x })) at
    ∙ (λ i. Some (record { unit = here i; before = none i; body = b }))
located_there (u ∷ us) start (suc place) body unit b e f =
    let n = length u.bodies in
    let k = bodies_in (take place us) in
    let past : nat_lt (n + k + body) n ≡ false = not_less n k body in
    let rest : n + k + body - n ≡ k + body = omega arith in
    let more : start + n + k ≡ start + (n + k) = omega arith in
    ap (λ (t : Bool). if t then option_map (λ (x : Body). record { unit = u; before = start; body = x }) (slice_get u.bodies (n + k + body)) else located_in us (start + n) (n + k + body - n)) past
    ∙ ap (λ (m : ℕ). located_in us (start + n) m) rest
    ∙ located_there us (start + n) place body unit b e f
    ∙ ap (λ (m : ℕ). Some (record { unit = unit; before = m; body = b })) more
  where
    not_less : (n k body : ℕ) → nat_lt (n + k + body) n ≡ false
    not_less n k body = grind arith

-- code that is placed
pub placed_at : (place : ℕ) (code : Code) (k : ℕ) (flat : Flat) → slice_get code k ≡ Some flat → slice_get (placed_from place code) k ≡ Some (placed (place + k) flat)
placed_at place [] k flat e = absurd (none-some flat e)
placed_at place (f ∷ code) zero flat e =
    let here : place ≡ place + 0 = omega arith in
    let same = same_Some f flat e in
    λ i. Some (placed (here i) (same i))
placed_at place (f ∷ code) (suc k) flat e =
    let next : place + 1 + k ≡ place + suc k = omega arith in
    placed_at (place + 1) code k flat e ∙ ap (λ (n : ℕ). Some (placed n flat)) next

-- each item that is named stands in its list
stored_in : {A : Type 0} (same : A → A → Bool) (tells : Tells same) (make : Instruction → Option A) (code : List Instruction) (i : Instruction) → IsIn i code → (o : Option A) → make i ≡ o → StoredIn o (distinct same (filter_map make code))
stored_in same tells make code i h None e = tt
stored_in same tells make code i h (Some item) e = in_distinct same tells item (filter_map make code) (in_filter_map make code i item h e)

pub stored : (code : List Instruction) (i : Instruction) → IsIn i code → Stored (tables_of code) i
stored code i h = record {
  constant = stored_in is_same_literal tells_literal constant_of code i h (constant_of i) refl;
  name = stored_in is_same_binding tells_binding name_of code i h (name_of i) refl;
  bound = stored_in is_same_bound tells_bound bound_of code i h (bound_of i) refl;
  params = stored_in is_same_params tells_params list_of code i h (list_of i) refl;
  type = stored_in is_same_type tells_type type_of code i h (type_of i) refl;
  results = stored_in is_same_results tells_results results_of code i h (results_of i) refl;
}

-- code holds where each of its instructions is fetched
holds_from : (linked : Linked) (before body place : ℕ) (code : Code)
    → ((k : ℕ) (flat : Flat) → slice_get code k ≡ Some flat → fetch linked body (place + k) ≡ Some (record { instruction = numbered before (placed (place + k) flat); next = place + k + 1 }))
    → Holds linked before body place code
holds_from linked before body place [] each = tt
holds_from linked before body place (flat ∷ code) each =
    let here : place + 0 ≡ place = omega arith in (
      subst (λ (n : ℕ). fetch linked body n ≡ Some (record { instruction = numbered before (placed n flat); next = n + 1 })) here (each 0 flat refl),
      holds_from linked before body (place + 1) code (λ k f e.
          let next : place + suc k ≡ place + 1 + k = omega arith in
          subst (λ (n : ℕ). fetch linked body n ≡ Some (record { instruction = numbered before (placed n f); next = n + 1 })) next (each (suc k) f e)),
    )

pub every_at : {A : Type 0} (P : A → Type 0) (xs : List A) (k : ℕ) (x : A) → Every P xs → slice_get xs k ≡ Some x → P x
every_at P [] k x all e = absurd (none-some x e)
every_at P (y ∷ xs) zero x all e = subst P (same_Some y x e) all.0
every_at P (y ∷ xs) (suc k) x all e = every_at P xs k x all.1 e

fits_placed : (bodies : List FlatBody) (locals captures place : ℕ) (flat : Flat) → FlatFits bodies locals captures flat → Fits bodies locals captures (placed place flat)
fits_placed bodies locals captures place (Plain i) h = h
fits_placed bodies locals captures place (Jump d) h = tt
fits_placed bodies locals captures place (JumpFalse d) h = tt
fits_placed bodies locals captures place (Enter d) h = tt
fits_placed bodies locals captures place (Guard d) h = tt
fits_placed bodies locals captures place (Catch c d) h = tt

-- the lists of a library
abbrev pub tables_of_library : LibraryRow → Tables
tables_of_library library = tables_of (flat_map (λ (body : FlatBody). placed_from 0 body.code) (bodies_of library))

module _ (program : Program) (place : ℕ) (library : LibraryRow) (there : slice_get program.libraries place ≡ Some library) where
  abbrev flats : List FlatBody
  flats = bodies_of library

  abbrev all_code : List Instruction
  all_code = flat_map (λ (body : FlatBody). placed_from 0 body.code) flats

  abbrev tables : Tables
  tables = tables_of all_code

  abbrev before : ℕ
  before = bodies_before program place

  abbrev at_body : FlatBody → Located
  at_body flat = record { unit = lowered program library; before = before; body = body_of tables flat }

  pub body_located : (body : ℕ) (flat : FlatBody) → slice_get flats body ≡ Some flat → located (linked_program program) (before + body) ≡ Some (at_body flat)
  body_located body flat e =
      let none : 0 + before ≡ before = omega arith in
      located_there (linked_program program).code 0 place body (lowered program library) (body_of tables flat)
      (slice_get-map (lowered program) program.libraries place ∙ ap (option_map (lowered program)) there)
      (slice_get-map (body_of tables) flats body ∙ ap (option_map (body_of tables)) e)
      ∙ ap (λ (n : ℕ). Some (record { unit = lowered program library; before = n; body = body_of tables flat })) none

  kept : (body count : ℕ) → IsBody flats body count → IsKept (lowered program library).bodies body count
  kept body count h = record {
    target = body_of tables h.target;
    at = slice_get-map (body_of tables) flats body ∙ ap (option_map (body_of tables)) h.at;
    same = h.same;
  }

  pub fetched_at : (body : ℕ) (flat : FlatBody) → slice_get flats body ≡ Some flat → (k : ℕ) (f : Flat) → slice_get flat.code k ≡ Some f → FlatFits flats flat.locals flat.captures f
      → fetch (linked_program program) (before + body) k ≡ Some (record { instruction = numbered before (placed k f); next = k + 1 })
  fetched_at body flat e k f g fits =
      let i = placed k f in
      let first : 0 + k ≡ k = omega arith in
      let at = placed_at 0 flat.code k f g ∙ ap (λ (n : ℕ). Some (placed n f)) first in
      let in_code = in_flat_map (λ (b : FlatBody). placed_from 0 b.code) flats flat i (in_from_get flats body flat e) (in_from_get (placed_from 0 flat.code) k i at) in
      ap (λ (o : Option Located). if_there o (λ l. fetch_in l k)) (body_located body flat e)
      ∙ ap (λ (o : Option Instr). if_there o (λ instr. option_map (λ (j : Instruction). record { instruction = j; next = k + 1 }) (decode (at_body flat) instr)))
      (slice_get-map (written tables) (placed_from 0 flat.code) k ∙ ap (option_map (written tables)) at)
      ∙ ap (option_map (λ (j : Instruction). record { instruction = j; next = k + 1 })) (decoded_is (at_body flat) flats kept i (stored all_code i in_code) (fits_placed flats flat.locals flat.captures k f fits))

  pub body_holds : (body : ℕ) (flat : FlatBody) → slice_get flats body ≡ Some flat → Every (FlatFits flats flat.locals flat.captures) flat.code
      → Holds (linked_program program) before (before + body) 0 flat.code
  body_holds body flat e fits =
      holds_from (linked_program program) before (before + body) 0 flat.code (λ k f g.
      let first : k ≡ 0 + k = omega arith in
      subst (λ (n : ℕ). fetch (linked_program program) (before + body) n ≡ Some (record { instruction = numbered before (placed n f); next = n + 1 })) first
      (fetched_at body flat e k f g (every_at (FlatFits flats flat.locals flat.captures) flat.code k f fits g)))

pub written_holds : WrittenHolds
written_holds program place library there body flat at fits = body_holds program place library there body flat at fits
