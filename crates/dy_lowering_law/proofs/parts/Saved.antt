-- An exit does not see lists that were laid aside since its rows came into force.
use Rattle.std.proofs.Common.{◌≡◌, ℕ, List, [], ◌∷◌, ◌≤◌, length, Bool, true, false, Option, Some, refl, ap, ◌∙◌, arith}
use Rattle.std.specs.Prelude.{nat_eq, if◌then◌else◌}
use Rattle.dy_values.specs.declared.value.Variant.{Variant}
use Rattle.dy_outcome.specs.declared.state.Frame.{Frame}
use Rattle.dy_code.specs.Layouts.{Landing}
use Rattle.dy_code.specs.Validity.{Every}
use Rattle.dy_steps.specs.Configurations.{Row, Leaves, Cleans, Handles, Catches, Pending, Exits, Activation, Waiting, Config, Stuck, Machine}
use Rattle.dy_steps.specs.Exits.{with_operand}
use Rattle.dy_steps.specs.Rows.{landed, arrival, arrived, unwound}
use Rattle.dy_steps.proofs.Leading.{keep_past}
use Rattle.dy_lowering_law.specs.Force.{Keeps, KeepsWithin, RowsFit}
use Rattle.dy_lowering_law.specs.Following.{Spot, standing}
use Rattle.dy_lowering_law.proofs.Leading.{Inside}
use Rattle.dy_lowering_law.proofs.Exiting.{unwound_free}

abbrev pub with_list : List Variant → Activation → Activation
with_list values a = record a { saved = values ∷ a.saved }

-- values laid aside at a spot
abbrev pub laid_aside : List Variant → Spot → Spot
laid_aside values x = record x { running = with_list values x.running }

landed_past : (to : Landing) (under_way : List Pending) (rows : List Row) (list : List Variant) (a : Activation) → to.saved ≤ length a.saved → landed to under_way rows (with_list list a) ≡ landed to under_way rows a
landed_past to under_way rows list a few = ap (λ kept. record (landed to under_way rows a) { saved = kept }) (keep_past to.saved list a.saved few)

either : (b : Bool) (x y z w : Option (List Variant × Activation)) → x ≡ y → z ≡ w → (if b then x else z) ≡ (if b then y else w)
either true x y z w one two = one
either false x y z w one two = two

abbrev some_of : List Variant → Activation → Option (List Variant × Activation)
some_of values a = Some (values, a)

saved_past : (number : ℕ) (values : List Variant) (rows : List Row) (list : List Variant) (a : Activation) → Every (KeepsWithin a) rows
    → arrival number values rows (with_list list a) ≡ arrival number values rows a
saved_past number values [] list a all = refl
saved_past number values (Leaves n to ∷ rows) list a all =
    either (nat_eq n number) (Some (values, landed to [] rows (with_list list a))) (Some (values, landed to [] rows a)) (arrival number values rows (with_list list a)) (arrival number values rows a)
    (ap (some_of values) (landed_past to [] rows list a all.0.1)) (saved_past number values rows list a all.1)
saved_past number values (Catches n condition to ∷ rows) list a all =
    either (nat_eq n number) (Some (values, landed to [] rows (with_list list a))) (Some (values, landed to [] rows a)) (arrival number values rows (with_list list a)) (arrival number values rows a)
    (ap (some_of values) (landed_past to [] rows list a all.0.1)) (saved_past number values rows list a all.1)
saved_past number values (Cleans n to ∷ rows) list a all =
    ap (some_of []) (landed_past to (Exits number values ∷ []) rows list a all.0.1)
saved_past number values (Handles n condition function ∷ rows) list a all = saved_past number values rows list a all.1

unwound_aside : (block : ℕ) (values list : List Variant) (a : Activation) (frame : Frame) (waiting : List Waiting) (c : Config) → RowsFit a
    → unwound block values (with_list list a) frame waiting c ≡ unwound block values a frame waiting c
unwound_aside block values list a frame [] c fit =
    ap (λ found. arrived found frame [] c Stuck) (saved_past block values a.rows list a fit)
unwound_aside block values list a frame (w ∷ waiting) c fit =
    ap (λ found. arrived found frame (w ∷ waiting) c (unwound block values w.activation w.frame waiting c)) (saved_past block values a.rows list a fit)

pub inside_aside : (m : Machine) (number : ℕ → ℕ) (list : List Variant) (x : Spot) → RowsFit x.running → Inside m number (laid_aside list x) x
inside_aside m number list x fit = record {
  by = λ block values state searches.
      unwound_aside block values list x.running state.frame x.waiting (standing number (laid_aside list x) 0 [] state searches) fit
      ∙ unwound_free block values x.running state.frame x.waiting x.waiting (record (with_list list x.running) { place = 0 }) [] (standing number x 0 [] state searches);
}

keeps_aside : (list : List Variant) (a : Activation) (to : Landing) → Keeps a to → Keeps (with_list list a) to
keeps_aside list a to h = (h.0, omega (arith, h.1), h.2)

pub fits_aside : (list : List Variant) (a : Activation) (rows : List Row) → Every (KeepsWithin a) rows → Every (KeepsWithin (with_list list a)) rows
fits_aside list a [] h = tt
fits_aside list a (Leaves number to ∷ rows) h = (keeps_aside list a to h.0, fits_aside list a rows h.1)
fits_aside list a (Cleans number to ∷ rows) h = (keeps_aside list a to h.0, fits_aside list a rows h.1)
fits_aside list a (Handles number condition function ∷ rows) h = (tt, fits_aside list a rows h.1)
fits_aside list a (Catches number condition to ∷ rows) h = (keeps_aside list a to h.0, fits_aside list a rows h.1)

keeps_laid : (value : Variant) (a : Activation) (to : Landing) → Keeps a to → Keeps (with_operand value a) to
keeps_laid value a to h = (omega (arith, h.0), h.1, h.2)

pub fits_laid : (value : Variant) (a : Activation) (rows : List Row) → Every (KeepsWithin a) rows → Every (KeepsWithin (with_operand value a)) rows
fits_laid value a [] h = tt
fits_laid value a (Leaves number to ∷ rows) h = (keeps_laid value a to h.0, fits_laid value a rows h.1)
fits_laid value a (Cleans number to ∷ rows) h = (keeps_laid value a to h.0, fits_laid value a rows h.1)
fits_laid value a (Handles number condition function ∷ rows) h = (tt, fits_laid value a rows h.1)
fits_laid value a (Catches number condition to ∷ rows) h = (keeps_laid value a to h.0, fits_laid value a rows h.1)
