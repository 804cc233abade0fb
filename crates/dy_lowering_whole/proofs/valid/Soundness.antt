-- The body of code that leaves all as it was is sound.
use Rattle.std.proofs.Common.{◌≡◌, ◌⊎◌, inl, inr, ⊎_elim, ℕ, zero, suc, ◌+◌, ◌<◌, ◌≤◌, List, [], ◌∷◌, ◌++◌, length, map, Option, Some, None, slice_get, refl, sym, ap, ◌∙◌, subst, arith, length-append}
use Rattle.std.specs.Option.{option_map}
use Rattle.std.proofs.lemmas.Option.{slice_get_within, same_Some, none-some}
use Rattle.dy_term.specs.declared.rows.LibraryRow.{LibraryRow}
use Rattle.dy_term.specs.declared.rows.Program.{Program}
use Rattle.dy_code.specs.declared.unit.Body.{Body}
use Rattle.dy_code.specs.declared.unit.UnitCode.{UnitCode}
use Rattle.dy_code.specs.Fetching.{Instruction, Fetched, fetch}
use Rattle.dy_code.specs.Fetching as instr
use Rattle.dy_code.specs.Layouts.{Layout, Way, empty_layout, follows, exits}
use Rattle.dy_code.specs.Validity.{Every, Known, Arrives, IsLower, Falls, IsRight, IsSound}
use Rattle.dy_lowered.specs.Bodies.{FlatBody, bodies_of}
use Rattle.dy_lowered.specs.Flat.{Flat, Code, one, placed, placed_from}
use Rattle.dy_lowered.specs.Stretches.{ways_of, ways_from, reached, longest, stretch_of}
use Rattle.dy_lowered.specs.Units.{body_of, lowered}
use Rattle.dy_lowering_law.specs.Following.{numbered}
use Rattle.dy_lowering_law.specs.Machines.{linked_program}
use Rattle.dy_lowering_whole.specs.valid.Shapes.{Shape, Has, IsFine, AreFine, IsUnder, IsEven, IsWhole}
use Rattle.dy_lowering_whole.specs.valid.Writing.{FlatFits, bodies_before}
use Rattle.dy_lowering_whole.proofs.valid.Tables.{IsIn, in_from_get}
use Rattle.dy_lowering_whole.proofs.valid.Fetched.{placed_at, every_at, fetched_at, tables_of_library}
use Rattle.dy_lowering_whole.proofs.valid.Laying.{shape, every_append, every_under, has_front, has_back, fine_join, with_exits}
use Rattle.dy_lowering_whole.proofs.valid.Wholes.{all_whole}
use Rattle.dy_lowering_whole.proofs.valid.Reaching.{in_or_not, all_reached, begins_reached, Steady, tick_or, longest_falls, within_stretch, greatest_least, in_map}

-- what is known by a list of shapes
abbrev rank_of : Option Shape → ℕ
rank_of None = 0
rank_of (Some s) = s.rank

abbrev layout_of : Option Shape → Option Layout
layout_of o = option_map (λ (s : Shape). s.layout) o

abbrev table : List Shape → Known
table shapes = record { layouts = λ p. layout_of (slice_get shapes p); ranks = λ p. rank_of (slice_get shapes p) }

has_table : (shapes rest : List Shape) (place : ℕ) → ((k : ℕ) → slice_get shapes (place + k) ≡ slice_get rest k) → Has (table shapes) place rest
has_table shapes [] place same = tt
has_table shapes (s ∷ rest) place same =
    let none : place ≡ place + 0 = omega arith in
    let here : slice_get shapes place ≡ Some s = ap (λ (n : ℕ). slice_get shapes n) none ∙ same 0 in (
      (ap layout_of here, ap rank_of here),
      has_table shapes rest (place + 1) (λ k.
          let next : place + 1 + k ≡ place + suc k = omega arith in
          ap (λ (n : ℕ). slice_get shapes n) next ∙ same (suc k)),
    )

-- shapes of a whole body
pub record Shaped (code : Code) : Type 0 where
  pub shapes : List Shape
  pub long : length shapes ≡ length code
  pub begins : layout_of (slice_get shapes 0) ≡ Some empty_layout
  pub few : Every (IsUnder (length code)) shapes
  pub fine : AreFine (table shapes) 0 shapes code

shaped : (front : Code) → IsEven front → Shaped (front ++ one instr.Return)
shaped front even =
    let x = even empty_layout 0 1 in
    let last = shape empty_layout 1 ∷ [] in
    let shapes = x.shapes ++ last in
    let known = table shapes in
    let size = length-append front (one instr.Return) in
    let all : Has known 0 shapes = has_table shapes shapes 0 (λ k. let same : 0 + k ≡ k = omega arith in ap (λ (n : ℕ). slice_get shapes n) same) in
    let first = has_front known 0 x.shapes last all in
    let end = has_back known 0 (length front) x.shapes last x.long all in
    record {
      shapes = shapes;
      long = length-append x.shapes last ∙ omega (arith, x.long, size);
      begins = (x.starts known first end.0).0;
      few = every_append (IsUnder (length (front ++ one instr.Return))) x.shapes last (every_under (1 + length front) (length (front ++ one instr.Return)) x.shapes (omega (arith, size)) x.under) (omega (arith, size), tt);
      fine = fine_join known 0 x.shapes last front (one instr.Return) (x.fine known first end.0 tt)
          (record { ways = []; follow = refl; places = refl; arrive = tt; handlers = tt; falls = (omega arith, tt) }, tt);
    }

whole_shaped : (code : Code) → IsWhole code → Shaped code
whole_shaped code whole = subst Shaped (sym whole.same) (shaped whole.front whole.even)

-- the instruction at a place that has a shape
record FineAt (known : Known) (place k : ℕ) (code : Code) (s : Shape) : Type 0 where
  pub flat : Flat
  pub at : slice_get code k ≡ Some flat
  pub fine : IsFine known (place + k) s flat

fine_within : (known : Known) (place : ℕ) (shapes : List Shape) (code : Code) (k : ℕ) (s : Shape) → AreFine known place shapes code → slice_get shapes k ≡ Some s → FineAt known place k code s
fine_within known place [] code k s all e = absurd (none-some s e)
fine_within known place (t ∷ shapes) [] k s all e = absurd all
fine_within known place (t ∷ shapes) (flat ∷ code) zero s all e =
    let none : place ≡ place + 0 = omega arith in
    record { flat = flat; at = refl; fine = subst (λ (n : ℕ). IsFine known n s flat) none (subst (λ (u : Shape). IsFine known place u flat) (same_Some t s e) all.0) }
fine_within known place (t ∷ shapes) (flat ∷ code) (suc k) s all e =
    let rest = fine_within known (place + 1) shapes code k s all.1 e in
    let next : place + 1 + k ≡ place + suc k = omega arith in
    record { flat = rest.flat; at = rest.at; fine = subst (λ (n : ℕ). IsFine known n s rest.flat) next rest.fine }

pub record Got {A : Type 0} (o : Option A) : Type 0 where
  pub item : A
  pub same : o ≡ Some item

pub got : {A : Type 0} (xs : List A) (k : ℕ) → k < length xs → Got (slice_get xs k)
got [] k low = absurd (omega (arith, low))
got (x ∷ xs) zero low = record { item = x; same = refl }
got (x ∷ xs) (suc k) low = got xs k (omega (arith, low))

pub record Made {A B : Type 0} (f : A → B) (o : Option A) (y : B) : Type 0 where
  pub item : A
  pub there : o ≡ Some item
  pub same : f item ≡ y

pub made_by : {A B : Type 0} (f : A → B) (o : Option A) (y : B) → option_map f o ≡ Some y → Made f o y
made_by f None y e = absurd (none-some y e)
made_by f (Some x) y e = record { item = x; there = refl; same = same_Some (f x) y e }

record OfMap {A B : Type 0} (f : A → B) (xs : List A) (y : B) : Type 0 where
  pub item : A
  pub there : IsIn item xs
  pub same : y ≡ f item

of_map : {A B : Type 0} (f : A → B) (xs : List A) (y : B) → IsIn y (map f xs) → OfMap f xs y
of_map f [] y h = absurd h
of_map f (x ∷ xs) y (inl e) = record { item = x; there = inl refl; same = e }
of_map f (x ∷ xs) y (inr h) = let rest = of_map f xs y h in record { item = rest.item; there = inr rest.there; same = rest.same }

every_in : {A : Type 0} (P : A → Type 0) (xs : List A) (x : A) → Every P xs → IsIn x xs → P x
every_in P [] x all h = absurd h
every_in P (y ∷ xs) x all (inl e) = subst P (sym e) all.0
every_in P (y ∷ xs) x all (inr h) = every_in P xs x all.1 h

every_by : {A : Type 0} (P : A → Type 0) (xs : List A) → ((x : A) → IsIn x xs → P x) → Every P xs
every_by P [] each = tt
every_by P (x ∷ xs) each = (each x (inl refl), every_by P xs (λ y h. each y (inr h)))

-- what is known where a place is reached
abbrev where_in : {P Q : Type 0} → P ⊎ Q → Option Layout → Option Layout
where_in (inl p) o = o
where_in (inr q) o = None

where_is : {P : Type 0} (d : P ⊎ (P → ⊥)) (o : Option Layout) → P → where_in d o ≡ o
where_is (inl p) o h = refl
where_is (inr q) o h = absurd (q h)

where_some : {P Q : Type 0} (d : P ⊎ Q) (o : Option Layout) (l : Layout) → where_in d o ≡ Some l → P × (o ≡ Some l)
where_some (inl p) o l e = (p, e)
where_some (inr q) o l e = absurd (none-some l e)

-- the number of a body is nothing to what lies in a frame
numbered_follows : (before : ℕ) (i : Instruction) (next : ℕ) (l : Layout) → follows (numbered before i) next l ≡ follows i next l
numbered_follows before (instr.Closure body count) next l = refl
numbered_follows before _ next l = refl

numbered_falls : (before : ℕ) (i : Instruction) (known : Known) (rank : ℕ) (ways : List Way) → Falls known rank i ways → Falls known rank (numbered before i) ways
numbered_falls before (instr.Closure body count) known rank ways h = h
numbered_falls before _ known rank ways h = h

pub length_placed : (place : ℕ) (code : Code) → length (placed_from place code) ≡ length code
length_placed place [] = refl
length_placed place (flat ∷ code) = ap suc (length_placed (place + 1) code)

module _ (code : Code) (s : Shaped code) where
  abbrev placed_code : List Instruction
  placed_code = placed_from 0 code

  abbrev size : ℕ
  size = length placed_code

  abbrev first_known : Known
  first_known = table s.shapes

  same_size : size ≡ length s.shapes
  same_size = length_placed 0 code ∙ sym s.long

  -- what is known of a place that has a shape
  record Place (p : ℕ) : Type 0 where
    pub shape : Shape
    pub has : slice_get s.shapes p ≡ Some shape
    pub flat : Flat
    pub in_code : slice_get code p ≡ Some flat
    pub at : slice_get placed_code p ≡ Some (placed p flat)
    pub fine : IsFine first_known p shape flat

  place_at : (p : ℕ) (t : Shape) → slice_get s.shapes p ≡ Some t → Place p
  place_at p t e =
      let none : 0 + p ≡ p = omega arith in
      let f = fine_within first_known 0 s.shapes code p t s.fine e in
      record {
        shape = t;
        has = e;
        flat = f.flat;
        in_code = f.at;
        at = placed_at 0 code p f.flat f.at ∙ ap (λ (n : ℕ). Some (placed n f.flat)) none;
        fine = subst (λ (n : ℕ). IsFine first_known n t f.flat) none f.fine;
      }

  place_of_code : (p : ℕ) (i : Instruction) → slice_get placed_code p ≡ Some i → Place p
  place_of_code p i e =
      let within = slice_get_within placed_code p i e in
      let g = got s.shapes p (omega (arith, within, same_size)) in
      place_at p g.item g.same

  ways_same : (p : ℕ) (q : Place p) → ways_from placed_code p ≡ map (λ (w : Way). w.0) q.fine.ways
  ways_same p q = ap (ways_of (p + 1)) q.at ∙ sym q.fine.places

  low_way : (p : ℕ) (o : Option Instruction) → slice_get placed_code p ≡ o → (q : ℕ) → IsIn q (ways_of (p + 1) o) → q < size
  low_way p None e q h = absurd h
  low_way p (Some i) e q h =
      let here = place_of_code p i e in
      let ways = subst (λ (o : Option Instruction). IsIn q (ways_of (p + 1) o)) (sym e) h in
      let way = of_map (λ (w : Way). w.0) here.fine.ways q (subst (IsIn q) (ways_same p here) ways) in
      let arrives = every_in (Arrives first_known) here.fine.ways way.item here.fine.arrive way.there in
      let made = made_by (λ (t : Shape). t.layout) (slice_get s.shapes way.item.0) way.item.1 arrives in
      let within = slice_get_within s.shapes way.item.0 made.item made.there in
      omega (arith, within, same_size, way.same)

  low : (p q : ℕ) → IsIn q (ways_from placed_code p) → q < size
  low p q h = low_way p (slice_get placed_code p) refl q h

  drops : (p : ℕ) (i : Instruction) → slice_get placed_code p ≡ Some i → Steady i → (0 < first_known.ranks p) × ((q : ℕ) → IsIn q (ways_from placed_code p) → first_known.ranks q < first_known.ranks p)
  drops p i e steady =
      let here = place_of_code p i e in
      let same : placed p here.flat ≡ i = same_Some (placed p here.flat) i (sym here.at ∙ e) in
      let falls = steady.lower first_known here.shape.rank here.fine.ways (subst (λ (j : Instruction). Falls first_known here.shape.rank j here.fine.ways) same here.fine.falls) in
      let is : first_known.ranks p ≡ here.shape.rank = ap rank_of here.has in
      let some = falls.0 in (
        omega (arith, is, some),
        λ q h.
            let way = of_map (λ (w : Way). w.0) here.fine.ways q (subst (IsIn q) (ways_same p here) h) in
            let less = every_in (IsLower first_known here.shape.rank) here.fine.ways way.item falls.1 way.there in
            let same_rank : first_known.ranks q ≡ first_known.ranks way.item.0 = ap first_known.ranks way.same in
            omega (arith, is, less, same_rank),
      )

  few : (p : ℕ) → first_known.ranks p ≤ size
  few p = step (slice_get s.shapes p) refl
    where
      step : (o : Option Shape) → slice_get s.shapes p ≡ o → rank_of o ≤ size
      step None e = omega arith
      step (Some t) e = let under = every_at (IsUnder (length code)) s.shapes p t s.few e in omega (arith, under, length_placed 0 code)

  begins_low : 0 < size
  begins_low =
      let made = made_by (λ (t : Shape). t.layout) (slice_get s.shapes 0) empty_layout s.begins in
      let within = slice_get_within s.shapes 0 made.item made.there in
      omega (arith, within, same_size)

  -- what is known at last: where a place is reached, and how long the longest way is
  abbrev known : Known
  known = record {
    layouts = λ p. where_in (in_or_not p (reached placed_code size 0)) (first_known.layouts p);
    ranks = λ p. longest placed_code size p;
  }

  begins : known.layouts 0 ≡ Some empty_layout
  begins = where_is (in_or_not 0 (reached placed_code size 0)) (first_known.layouts 0) (begins_reached placed_code size begins_low low) ∙ s.begins

  module _ (program : Program) (place : ℕ) (library : LibraryRow) (there : slice_get program.libraries place ≡ Some library) (body : ℕ) (flat : FlatBody) (at : slice_get (bodies_of library) body ≡ Some flat) (same : flat.code ≡ code)
      (fits : Every (FlatFits (bodies_of library) flat.locals flat.captures) flat.code) where
    abbrev before : ℕ
    before = bodies_before program place

    short : (p : ℕ) → IsIn p (reached placed_code size 0) → longest placed_code size p ≤ (linked_program program).stretch
    short p h =
        let unit = lowered program library in
        let kept = body_of (tables_of_library library) flat in
        let within = within_stretch placed_code p h in
        let is : kept.stretch ≡ stretch_of placed_code = ap (λ (c : Code). stretch_of (placed_from 0 c)) same in
        let in_flats = in_from_get (bodies_of library) body flat at in
        let in_unit = greatest_least (map (λ (b : Body). b.stretch) unit.bodies) kept.stretch (in_map (λ (b : Body). b.stretch) unit.bodies kept (in_map (body_of (tables_of_library library)) (bodies_of library) flat in_flats)) in
        let in_program = greatest_least (map (λ (u : UnitCode). u.stretch) (linked_program program).code) unit.stretch
        (in_map (λ (u : UnitCode). u.stretch) (linked_program program).code unit (in_map (lowered program) program.libraries library (in_from_get program.libraries place library there))) in
        omega (arith, within, is, in_unit, in_program)

    right_at : (p : ℕ) → IsIn p (reached placed_code size 0) → (here : Place p) → IsRight (linked_program program) (before + body) known p here.shape.layout
    right_at p h here =
        let l = here.shape.layout in
        let i = placed p here.flat in
        let in_flat : slice_get flat.code p ≡ Some here.flat = ap (λ (c : Code). slice_get c p) same ∙ here.in_code in
        let way_in : (w : Way) → IsIn w here.fine.ways → IsIn w.0 (ways_from placed_code p) = λ w k. subst (IsIn w.0) (sym (ways_same p here)) (in_map (λ (v : Way). v.0) here.fine.ways w k) in
        record {
          fetched = record { instruction = numbered before i; next = p + 1 };
          stands = fetched_at program place library there body flat at p here.flat in_flat (every_at (FlatFits (bodies_of library) flat.locals flat.captures) flat.code p here.flat fits in_flat);
          ways = here.fine.ways;
          follow = numbered_follows before i (p + 1) l ∙ here.fine.follow;
          arrive = with_exits (Arrives known) here.fine.ways l here.fine.handlers (every_by (Arrives known) here.fine.ways (λ w k.
              where_is (in_or_not w.0 (reached placed_code size 0)) (first_known.layouts w.0) (all_reached placed_code size begins_low low p w.0 h (way_in w k))
              ∙ every_in (Arrives first_known) here.fine.ways w here.fine.arrive k));
          falls = ⊎_elim
              (λ tick. subst (λ (j : Instruction). Falls known (longest placed_code size p) (numbered before j) (here.fine.ways ++ exits l)) (sym tick) tt)
              (λ steady.
              let down = longest_falls placed_code first_known.ranks drops size few p i here.at steady in
              numbered_falls before i known (longest placed_code size p) (here.fine.ways ++ exits l) (steady.falls known (longest placed_code size p) (here.fine.ways ++ exits l)
              (down.0, with_exits (IsLower known (longest placed_code size p)) here.fine.ways l here.fine.handlers (every_by (IsLower known (longest placed_code size p)) here.fine.ways (λ w k. down.1 w.0 (way_in w k))))))
              (tick_or i);
          short = short p h;
        }

    right : (p : ℕ) (l : Layout) → known.layouts p ≡ Some l → IsRight (linked_program program) (before + body) known p l
    unfolding place_at
    right p l e =
        let split = where_some (in_or_not p (reached placed_code size 0)) (first_known.layouts p) l e in
        let made = made_by (λ (t : Shape). t.layout) (slice_get s.shapes p) l split.1 in
        subst (λ (m : Layout). IsRight (linked_program program) (before + body) known p m) made.same (right_at p split.0 (place_at p made.item made.there))

    sound_by : IsSound (linked_program program) (before + body)
    sound_by = record { known = known; begins = begins; right = right }

pub body_sound : (program : Program) (place : ℕ) (library : LibraryRow) → slice_get program.libraries place ≡ Some library → (body : ℕ) (flat : FlatBody) → slice_get (bodies_of library) body ≡ Some flat → IsWhole flat.code
    → Every (FlatFits (bodies_of library) flat.locals flat.captures) flat.code → IsSound (linked_program program) (bodies_before program place + body)
body_sound program place library there body flat at whole fits = sound_by flat.code (whole_shaped flat.code whole) program place library there body flat at refl fits

pub bodies_sound : (program : Program) (place : ℕ) (library : LibraryRow) → slice_get program.libraries place ≡ Some library → (body : ℕ) (flat : FlatBody) → slice_get (bodies_of library) body ≡ Some flat
    → Every (FlatFits (bodies_of library) flat.locals flat.captures) flat.code → IsSound (linked_program program) (bodies_before program place + body)
bodies_sound program place library there body flat at fits =
    body_sound program place library there body flat at (every_at (λ (f : FlatBody). IsWhole f.code) (bodies_of library) body flat (all_whole library) at) fits
