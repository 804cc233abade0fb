-- To lower a linked library is to link its code.
use Rattle.std.proofs.Common.{◌≡◌, ℕ, ◌+◌, ◌<◌, Bool, true, false, cond, nat_eq, List, [], ◌∷◌, ◌++◌, length, map, refl, sym, ap, ◌∙◌, subst, arith, rules, eqb→eq}
use Rattle.std.specs.Prelude.{flat_map}
use Rattle.std.proofs.lemmas.List.{map-append}
use Rattle.dy_term.specs.declared.rows.TopTerm.{TopTerm}
use Rattle.dy_term.specs.declared.rows.TopTerm.TheVariants as tops
use Rattle.dy_term.specs.declared.rows.LibraryRow.{LibraryRow}
use Rattle.dy_term.specs.declared.rows.Program.{Program}
use Rattle.dy_code.specs.declared.unit.Body.{Body}
use Rattle.dy_code.specs.declared.unit.TopCode.{TopCode}
use Rattle.dy_code.specs.declared.unit.TopCode.TheVariants as codes
use Rattle.dy_code.specs.declared.unit.UnitCode.{UnitCode}
use Rattle.dy_code.specs.Fetching.{Instruction}
use Rattle.dy_code.specs.Validity.{Every}
use Rattle.dy_meaning.specs.Layouts.{from}
use Rattle.dy_meaning.specs.Numbers.{greatest}
use Rattle.dy_lowered.specs.Flat.{Flat, Plain, Jump, JumpFalse, Enter, Guard, Catch, Code, placed, placed_from}
use Rattle.dy_lowered.specs.Bodies.{FlatBody, bodies_of, start_count, tops_from}
use Rattle.dy_lowered.specs.Linking.{linked_top, linked_code}
use Rattle.dy_lowered.specs.Stretches.{stretch_of}
use Rattle.dy_lowered.specs.Tables.{Tables, tables_of, written}
use Rattle.dy_lowered.specs.Units.{body_of, lowered}
use Rattle.dy_linked_rows.specs.Rows.{linked_form, linked_library}
use Rattle.dy_linked_rows.specs.Code.{linked_instruction, linked_flat, linked_flats, linked_body}
use Rattle.dy_linked_rows.specs.Mentioned.{mentioned}
use Rattle.dy_linked_rows.specs.Laws.{KeepsApart, LoweringCommutes, ViewsCommute}
use Rattle.dy_linked_rows.proofs.Every.{every_map, every_both, every_part, every_stays, stays_every}
use Rattle.dy_linked_rows.proofs.Bodies.{parts_of, bodies_from, bodies_are, parts_linked, linked_parts, from_linked, starts, starts_same, starts_linked, bodies_are_linked}
use Rattle.dy_linked_rows.proofs.Fixed.{all_fixed}
use Rattle.dy_linked_rows.proofs.Stretches.{stretch_same}
use Rattle.dy_linked_rows.proofs.Written.{linked_tables, tables_linked, all_written}

-- code that is placed
module _ (places : ℕ → ℕ) where
  one_placed : (place : ℕ) (flat : Flat) → placed place (linked_flat places flat) ≡ linked_instruction places (placed place flat)
  one_placed place (Plain instruction) = refl
  one_placed place (Jump distance) = refl
  one_placed place (JumpFalse distance) = refl
  one_placed place (Enter distance) = refl
  one_placed place (Guard distance) = refl
  one_placed place (Catch condition distance) = refl

  placed_linked : (place : ℕ) (code : Code) → placed_from place (linked_flats places code) ≡ map (linked_instruction places) (placed_from place code)
  placed_linked place [] = refl
  placed_linked place (flat ∷ code) = λ j. one_placed place flat j ∷ placed_linked (place + 1) code j

  abbrev placed_all : List FlatBody → List Instruction
  placed_all bodies = flat_map (λ (b : FlatBody). placed_from 0 b.code) bodies

  all_placed : (bodies : List FlatBody) → placed_all (map (linked_body places) bodies) ≡ map (linked_instruction places) (placed_all bodies)
  all_placed [] = refl
  all_placed (body ∷ bodies) =
      (λ j. placed_linked 0 body.code j ++ all_placed bodies j)
      ∙ sym (map-append (linked_instruction places) (placed_from 0 body.code) (placed_all bodies))

  -- forms that run
  tops_linked : (forms : List TopTerm) (n : ℕ) → tops_from (map (linked_form places) forms) n ≡ map (linked_top places) (tops_from forms n)
  tops_linked [] n = refl
  tops_linked (tops.Init bindings term ∷ forms) n = λ j. linked_top places (codes.Init bindings n) ∷ tops_linked forms (n + 1) j
  tops_linked (tops.Run term ∷ forms) n = λ j. codes.Run n ∷ tops_linked forms (n + 1) j

-- A place is taken back to the first of these libraries that stands there.
module _ (p : ℕ → ℕ) where
  abbrev back : List ℕ → ℕ → ℕ
  back [] place = 0
  back (library ∷ libraries) place = cond (nat_eq (p library) place) library (back libraries place)

  eq_is : (n : ℕ) → nat_eq n n ≡ true
  eq_is n = grind arith

  is_eq : (j k : ℕ) → nat_eq j k ≡ true → j ≡ k
  is_eq j k e = search (rules, eqb→eq)

  taken : (is : Bool) (library other rest : ℕ) → nat_eq (p library) (p other) ≡ is → rest ≡ other → (p library ≡ p other → library ≡ other) → cond is library rest ≡ other
  taken true library other rest e h apart = apart (is_eq (p library) (p other) e)
  taken false library other rest e h apart = h

  all_taken : (libraries : List ℕ) → KeepsApart p libraries → Every (λ library. back libraries (p library) ≡ library) libraries
  all_taken [] apart = tt
  all_taken (library ∷ libraries) apart = (
    ap (λ (is : Bool). cond is library (back libraries (p library))) (eq_is (p library)),
    every_both (λ other. back libraries (p other) ≡ other) (λ other. p library ≡ p other → library ≡ other) (λ other. back (library ∷ libraries) (p other) ≡ other)
        (λ other h one. taken (nat_eq (p library) (p other)) library other (back libraries (p other)) refl h one) libraries
        (all_taken libraries (every_map (λ left. Every (λ right. p left ≡ p right → left ≡ right) (library ∷ libraries)) (λ left. Every (λ right. p left ≡ p right → left ≡ right) libraries) (λ left h. h.1) libraries apart.1))
        apart.0.1,
  )

module _ (p : ℕ → ℕ) (view program : Program) (library : LibraryRow) (apart : KeepsApart p (mentioned library)) where
  abbrev q : ℕ → ℕ
  q = back p (mentioned library)

  abbrev r : ℕ → ℕ
  r place = q (p place)

  abbrev flat : List FlatBody
  flat = bodies_of library

  abbrev code : List Instruction
  code = placed_all p flat

  -- There and back again, each body is as it was.
  bodies_stay : map (linked_body r) flat ≡ flat
  bodies_stay =
      ap (map (linked_body r)) (bodies_are library)
      ∙ (sym (from_linked r (parts_of library))
      ∙ (ap bodies_from (all_fixed r library (all_taken p (mentioned library) apart))
      ∙ sym (bodies_are library)))

  abbrev Stays : Instruction → Type 0
  Stays i = linked_instruction r i ≡ i

  code_stays : Every Stays code
  code_stays = every_stays (linked_instruction r) code (sym (all_placed r flat) ∙ ap (placed_all p) bodies_stay)

  abbrev t : Tables
  t = tables_of code

  abbrev t' : Tables
  t' = linked_tables p q code code_stays

  body_same : (body : FlatBody) → Every Stays (placed_from 0 body.code) → body_of t' (linked_body p body) ≡ body_of t body
  body_same body stays =
      let at = placed_from 0 body.code in
      let linked = placed_linked p 0 body.code in
      let stretch = ap stretch_of linked ∙ stretch_same p at in
      let instructions = ap (map (written t')) linked ∙ all_written p q code code_stays at stays in
      λ j. record { locals = body.locals; captures = body.captures; stretch = stretch j; code = instructions j }

  bodies_same : (bodies : List FlatBody) → Every (λ (b : FlatBody). Every Stays (placed_from 0 b.code)) bodies → map (body_of t') (map (linked_body p) bodies) ≡ map (body_of t) bodies
  bodies_same [] all = refl
  bodies_same (body ∷ bodies) all = λ j. body_same body all.0 j ∷ bodies_same bodies all.1 j

  -- a unit of these bodies
  abbrev unit : Tables → List Body → ℕ → List TopCode → UnitCode
  unit tables bodies start forms = record {
    constants = tables.constants;
    names = tables.names;
    bound = tables.bound;
    lists = tables.lists;
    types = tables.types;
    results = tables.results;
    bodies = bodies;
    starts = from 0 start;
    tops = forms;
    stretch = greatest (map (λ (body : Body). body.stretch) bodies);
  }

  abbrev unit_of : List FlatBody → ℕ → List TopTerm → UnitCode
  unit_of bodies start forms = let tables = tables_of (placed_all p bodies) in unit tables (map (body_of tables) bodies) start (tops_from forms start)

  starting : start_count (linked_library p library) ≡ start_count library
  starting = starts_same (linked_library p library) ∙ (ap starts (parts_linked p library) ∙ (starts_linked p (parts_of library) ∙ sym (starts_same library)))

  lowered_linked : lowered program (linked_library p library) ≡ linked_code p (lowered view library)
  lowered_linked =
      let count = start_count library in
      let linked = map (linked_body p) flat in
      let forms = map (linked_form p) library.tops in
      let tables : tables_of (placed_all p linked) ≡ t' = ap tables_of (all_placed p flat) ∙ tables_linked p q code code_stays in
      let bodies = bodies_same flat (every_part Stays (λ (b : FlatBody). placed_from 0 b.code) flat code_stays) in
      (λ j. unit_of (bodies_are_linked p library j) (starting j) forms)
      ∙ ((λ j. unit (tables j) (map (body_of (tables j)) linked) count (tops_from forms count))
      ∙ (λ j. unit t' (bodies j) count (tops_linked p library.tops count j)))

pub lowering_commutes : LoweringCommutes
lowering_commutes places view program library apart = lowered_linked places view program library apart

pub views_commute : ViewsCommute
views_commute places count view program library below injective =
    let mentions = mentioned library in
    lowering_commutes places view program library
    (every_map (λ (left : ℕ). left < count) (λ (left : ℕ). Every (λ (right : ℕ). places left ≡ places right → left ≡ right) mentions)
    (λ left low. every_map (λ (right : ℕ). right < count) (λ (right : ℕ). places left ≡ places right → left ≡ right) (λ right high. injective left right low high) mentions below) mentions below)
