-- Bodies stand where they belong, and calls stand with every number of units.
use Rattle.std.proofs.Common.{◌≡◌, ℕ, zero, suc, ◌+◌, ◌-◌, ◌<◌, ◌≤◌, Bool, true, false, List, [], ◌∷◌, map, take, length, flat_map, slice_get, Option, Some, refl, ap, ◌∙◌, arith, if◌then◌else◌}
use Rattle.std.specs.Prelude.{nat_lt}
use Rattle.std.specs.Option.{option_map}
use Rattle.std.proofs.lemmas.Option.{none-some, same_Some, slice_get-map, slice_get_within}
use Rattle.dy_term.specs.declared.term.Lambda.{Lambda}
use Rattle.dy_term.specs.declared.rows.LibraryRow.{LibraryRow}
use Rattle.dy_term.specs.declared.rows.Program.{Program}
use Rattle.dy_code.specs.declared.unit.Body.{Body}
use Rattle.dy_code.specs.Programs.{Located, located_in, located, bodies_in}
use Rattle.dy_lowered.specs.Bodies.{FlatBody, lambda_body, bodies_of}
use Rattle.dy_lowered.specs.Flat.{placed_from}
use Rattle.dy_lowered.specs.Tables.{tables_of}
use Rattle.dy_lowered.specs.Units.{lowered, body_of as unit_body}
use Rattle.dy_lowering_law.specs.Following.{Holds}
use Rattle.dy_lowering_law.specs.Machines.{linked_program}
use Rattle.dy_lowering_law.specs.Renumbering.{body_of}
use Rattle.dy_lowering_law.specs.calls.Belonging.{bodies_before, Belongs}
use Rattle.dy_lowering_law.specs.calls.Calls.{CallsStand}
use Rattle.dy_lowering_law.specs.calls.Entering.{Stands}
use Rattle.dy_lowering_law.specs.calls.Standing.{IsLaid, LambdasFollow}
use Rattle.dy_lowering_law.proofs.calls.Entries.{entries_follow}

-- the body of a number, with so many locals
pub record Located_with (linked : Option Located) (locals : ℕ) : Type 0 where
  pub at : Located
  pub here : linked ≡ Some at
  pub same : at.body.locals ≡ locals

below : (a b : ℕ) → a < b → nat_lt a b ≡ true
below a b h = grind (arith, h)

not_below : (a b : ℕ) → b ≤ a → nat_lt a b ≡ false
not_below a b h = grind (arith, h)

module _ (program : Program) where
  -- the bodies of a unit are those of its library, in order
  body_at : (library : LibraryRow) (body : ℕ) (flat : FlatBody) → slice_get (bodies_of library) body ≡ Some flat → (b : Body) × (slice_get (lowered program library).bodies body ≡ Some b) × (b.locals ≡ flat.locals)
  body_at library body flat e =
      let tables = tables_of (flat_map (λ body. placed_from 0 body.code) (bodies_of library)) in
      (unit_body tables flat, slice_get-map (unit_body tables) (bodies_of library) body ∙ ap (option_map (unit_body tables)) e, refl)

  there_in : (libraries : List LibraryRow) (place before body : ℕ) (library : LibraryRow) (flat : FlatBody) → slice_get libraries place ≡ Some library → slice_get (bodies_of library) body ≡ Some flat
      → Located_with (located_in (map (lowered program) libraries) before (bodies_in (take place (map (lowered program) libraries)) + body)) flat.locals
  there_in [] place before body library flat e h = absurd (none-some library e)
  there_in (l ∷ libraries) zero before body library flat e h =
      let own = body_at l body flat (ap (λ q. slice_get (bodies_of q) body) (same_Some l library e) ∙ h) in
      let units = map (lowered program) libraries in
      let unit = lowered program l in
      let at : 0 + body ≡ body = omega arith in
      let less = slice_get_within unit.bodies body own.0 own.1 in
      record {
        at = record { unit = unit; before = before; body = own.0 };
        here = ap (λ n. located_in (unit ∷ units) before n) at
            ∙ ap (λ (b : Bool). if b then option_map (λ body. record { unit = unit; before = before; body = body }) (slice_get unit.bodies body) else located_in units (before + length unit.bodies) (body - length unit.bodies)) (below body (length unit.bodies) less)
            ∙ ap (option_map (λ body. record { unit = unit; before = before; body = body })) own.1;
        same = own.2;
      }
  there_in (l ∷ libraries) (suc place) before body library flat e h =
      let units = map (lowered program) libraries in
      let unit = lowered program l in
      let rest = bodies_in (take place units) + body in
      let number = bodies_in (take (suc place) (unit ∷ units)) + body in
      let far : length unit.bodies ≤ number = omega arith in
      let left : number - length unit.bodies ≡ rest = omega arith in
      let more = there_in libraries place (before + length unit.bodies) body library flat e h in
      record {
        at = more.at;
        here = ap (λ (b : Bool). if b then option_map (λ body. record { unit = unit; before = before; body = body }) (slice_get unit.bodies number) else located_in units (before + length unit.bodies) (number - length unit.bodies)) (not_below number (length unit.bodies) far)
            ∙ ap (λ n. located_in units (before + length unit.bodies) n) left
            ∙ more.here;
        same = more.same;
      }

pub bodies_stand : (program : Program) (number : ℕ) (lambda : Lambda) (belongs : Belongs program number lambda)
    → Holds (linked_program program) (bodies_before program belongs.place) (body_of program number) 0 (lambda_body lambda belongs.closure).code
    → Stands program (bodies_before program belongs.place) (body_of program number) (lambda_body lambda belongs.closure)
bodies_stand program number lambda belongs holds =
    let found = there_in program program.libraries belongs.place 0 belongs.body belongs.library (lambda_body lambda belongs.closure) belongs.there belongs.stands in
    record {
      at = found.at;
      here = ap (located (linked_program program)) belongs.numbered ∙ found.here;
      locals = found.same;
      code = holds;
    }

module _ (program : Program) (laid : IsLaid program) (terms : (n : ℕ) → CallsStand program n → LambdasFollow program laid n) where
  -- each number of units stands on those below it
  stand_below : (n m : ℕ) → m < n → CallsStand program m
  stand_below zero m less = absurd (omega (arith, less))
  stand_below (suc n) m less = record {
    generics = laid.generics;
    lambdas = λ number lambda e.
        let placed = laid.lambdas number lambda e in
        entries_follow program m placed.before (body_of program number) placed.closure number lambda placed.plain placed.stands
        (λ k fewer. terms k (stand_below n k (omega (arith, less, fewer))) number lambda e);
    operations = λ before locals number count. laid.operations m before locals number count;
  }

  always : (n : ℕ) → CallsStand program n
  always n = stand_below (suc n) n (omega arith)

pub calls_always_stand : (program : Program) (laid : IsLaid program) → ((n : ℕ) → CallsStand program n → LambdasFollow program laid n) → (n : ℕ) → CallsStand program n
calls_always_stand program laid terms n = always program laid terms n
