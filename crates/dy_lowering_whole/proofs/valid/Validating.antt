-- Programs whose terms are lowered yet may run.
use Rattle.std.proofs.Common.{◌≡◌, ◌⊎◌, inl, inr, ℕ, suc, ◌+◌, ◌<◌, ◌≤◌, true, List, [], ◌∷◌, length, map, take, Option, Some, None, slice_get, refl, sym, ap, ◌∙◌, subst, arith}
use Rattle.std.specs.Option.{option_map}
use Rattle.std.proofs.lemmas.List.{length-map}
use Rattle.std.proofs.lemmas.Option.{slice_get-map, slice_get_within, same_Some, none-some}
use Rattle.dy_base.specs.declared.ids.BindingId.{BindingId}
use Rattle.dy_base.specs.declared.ids.MethodId.{MethodId}
use Rattle.dy_term.specs.declared.term.Lambda.{Lambda, out-Lambda}
use Rattle.dy_term.specs.declared.rows.MethodCode.{MethodCode}
use Rattle.dy_term.specs.declared.rows.MethodCode.TheVariants.{Dylan}
use Rattle.dy_term.specs.declared.rows.MethodRow.{MethodRow}
use Rattle.dy_term.specs.declared.rows.VariableRow.{VariableRow}
use Rattle.dy_term.specs.declared.rows.TopTerm.{TopTerm}
use Rattle.dy_term.specs.declared.rows.TopTerm.TheVariants as tops
use Rattle.dy_term.specs.declared.rows.LibraryRow.{LibraryRow}
use Rattle.dy_term.specs.declared.rows.Program.{Program}
use Rattle.dy_code.specs.declared.instr.Instr.{Instr}
use Rattle.dy_code.specs.declared.unit.Linked.{Linked}
use Rattle.dy_code.specs.declared.unit.UnitCode.{UnitCode}
use Rattle.dy_code.specs.Fetching.{Instruction, Fetched, decode, fetch_in, fetch}
use Rattle.dy_code.specs.Fetching as instr
use Rattle.dy_code.specs.Programs.{Located, located, bodies_in, body_number, if_there, library_at, method_row, variable_row, is_dylan, dylan_methods, dylan_functions, start_at, method_body, function_body, Task, task_of, tasks_from, tasks}
use Rattle.dy_code.specs.Validity.{Every, IsSound, Stands, IsClosed, IsCostly, IsMethodBody, IsFunctionBody, IsClosureBody, body_of, HasBody, Calls, IsValid}
use Rattle.dy_meaning.specs.Layouts.{all_below, captured_by}
use Rattle.dy_captures.specs.Marks.{is_captured_by}
use Rattle.dy_lowered.specs.Bodies.{FlatBody, lambda_body, top_body, bodies_of, start_count, top_code, tops_from}
use Rattle.dy_lowered.specs.Flat.{Flat, Plain, Jump, JumpFalse, Enter, Guard, Catch, placed, placed_from}
use Rattle.dy_lowered.specs.Tables.{written}
use Rattle.dy_lowered.specs.Units.{lowered}
use Rattle.dy_lowered.specs.Units as units
use Rattle.dy_lowering_law.specs.Following.{numbered}
use Rattle.dy_lowering_law.specs.Machines.{linked_program}
use Rattle.dy_lowering_whole.specs.valid.Simple.{Simple, FlatSimple, IsSimple}
use Rattle.dy_lowering_whole.specs.valid.Valid.{IsFound, FlatFound, GenericsAreThere}
use Rattle.dy_lowering_whole.specs.valid.Writing.{FlatFits, bodies_before}
use Rattle.dy_lowering_whole.proofs.valid.Fetched.{every_at, body_located, fetched_at, tables_of_library}
use Rattle.dy_lowering_whole.proofs.valid.Laying.{every_append}
use Rattle.dy_lowering_whole.proofs.valid.Positions.{same_place, found_in, from_at, method_stands, method_before, function_stands, function_before, form_stands, Stands as PlacedAt}
use Rattle.dy_lowering_whole.proofs.valid.Safety.{Closes, IsSafe}
use Rattle.dy_lowering_whole.proofs.valid.Sameness.{no}
use Rattle.dy_lowering_whole.proofs.valid.Soundness.{got, made_by, bodies_sound, length_placed}

-- what is there where something was found through it
record Through {A B : Type 0} (o : Option A) (go : A → Option B) (y : B) : Type 0 where
  pub item : A
  pub there : o ≡ Some item
  pub gives : go item ≡ Some y

through : {A B : Type 0} (o : Option A) (go : A → Option B) (y : B) → if_there o go ≡ Some y → Through o go y
through None go y e = absurd (none-some y e)
through (Some x) go y e = record { item = x; there = refl; gives = e }

record DylanCode (code : MethodCode) : Type 0 where
  pub lambda : Lambda
  pub same : code ≡ Dylan lambda

dylan_code : (code : MethodCode) → is_dylan code ≡ true → DylanCode code
dylan_code (Dylan lambda) e = record { lambda = lambda; same = refl }
dylan_code _ e = no e

firsts : {A : Type 0} (P Q : A → Type 0) (xs : List A) → Every (λ x. P x × Q x) xs → Every P xs
firsts P Q [] all = tt
firsts P Q (x ∷ xs) all = (all.0.0, firsts P Q xs all.1)

placed_simple : (made : ℕ → ℕ → Type 0) (place : ℕ) (flat : Flat) → FlatSimple made flat → Simple made (placed place flat)
placed_simple made place (Plain i) h = h
placed_simple made place (Jump d) h = tt
placed_simple made place (JumpFalse d) h = tt
placed_simple made place (Enter d) h = tt
placed_simple made place (Guard d) h = tt
placed_simple made place (Catch c d) h = tt

placed_found : (linked : Linked) (place : ℕ) (flat : Flat) → FlatFound linked flat → IsFound linked (placed place flat)
placed_found linked place (Plain i) h = h
placed_found linked place (Jump d) h = tt
placed_found linked place (JumpFalse d) h = tt
placed_found linked place (Enter d) h = tt
placed_found linked place (Guard d) h = tt
placed_found linked place (Catch c d) h = tt

calls_simple : (linked : Linked) (body before : ℕ) (made : ℕ → ℕ → Type 0) (i : Instruction) → Simple made i → IsFound linked i → Calls linked body (numbered before i)
calls_simple linked body before made (instr.Closure target count) h k = tt
calls_simple linked body before made (instr.Search generic count) h k = k
calls_simple linked body before made (instr.CallDirect sorted ambiguous count) h k = absurd h
calls_simple linked body before made (instr.Next count) h k = absurd h
calls_simple linked body before made instr.NextValue h k = absurd h
calls_simple linked body before made _ h k = tt

-- the body of a closure that is made
abbrev closure_body : Instruction → Option ℕ
closure_body (instr.Closure body count) = Some body
closure_body i = None

record Closed (before number : ℕ) (made : ℕ → ℕ → Type 0) : Type 0 where
  pub body : ℕ
  pub count : ℕ
  pub is : made body count
  pub same : before + body ≡ number

closed_by : (before number : ℕ) (made : ℕ → ℕ → Type 0) (i : Instruction) → Simple made i → closure_body (numbered before i) ≡ Some number → Closed before number made
closed_by before number made (instr.Closure body count) h e = record { body = body; count = count; is = h; same = same_Some (before + body) number e }
closed_by before number made _ h e = absurd (none-some number e)

-- two steps after one
step : {A : Type 0} {a b c d : A} → a ≡ b → b ≡ c → c ≡ d → a ≡ d
step p q r = p ∙ q ∙ r

module _ (program : Program) (safe : (place : ℕ) (library : LibraryRow) → slice_get program.libraries place ≡ Some library → IsSafe library) (generics : GenericsAreThere program) where
  abbrev linked : Linked
  linked = linked_program program

  abbrev before : ℕ → ℕ
  before place = bodies_before program place

  unit_at : (place : ℕ) (library : LibraryRow) → slice_get program.libraries place ≡ Some library → slice_get linked.code place ≡ Some (lowered program library)
  unit_at place library there = slice_get-map (lowered program) program.libraries place ∙ ap (option_map (lowered program)) there

  -- a body, by its library and its place among the bodies of that
  record Slot (number : ℕ) : Type 0 where
    pub place : ℕ
    pub library : LibraryRow
    pub there : slice_get program.libraries place ≡ Some library
    pub k : ℕ
    pub flat : FlatBody
    pub at : slice_get (bodies_of library) k ≡ Some flat
    pub same : number ≡ before place + k

  slot_of : (number : ℕ) (at : Located) → located linked number ≡ Some at → Slot number
  slot_of number at e =
      let f = found_in linked.code 0 number at e in
      let m = made_by (lowered program) (slice_get program.libraries f.place) f.unit (sym (slice_get-map (lowered program) program.libraries f.place) ∙ f.there) in
      let inside : f.body < length (lowered program m.item).bodies = subst (λ (u : UnitCode). f.body < length u.bodies) (sym m.same) f.inside in
      let size = length-map (bodies_of m.item) (units.body_of (tables_of_library m.item)) in
      let g = got (bodies_of m.item) f.body (omega (arith, inside, size)) in
      record { place = f.place; library = m.item; there = m.there; k = f.body; flat = g.item; at = g.same; same = f.same }

  fits : (number : ℕ) (b : Slot number) → IsSimple (Closes b.library) (bodies_of b.library) b.flat.locals b.flat.captures b.flat.code
  fits number b =
      every_at (λ (flat : FlatBody). IsSimple (Closes b.library) (bodies_of b.library) flat.locals flat.captures flat.code) (bodies_of b.library) b.k b.flat (safe b.place b.library b.there).fits b.at

  all_sound : (number : ℕ) (at : Located) → located linked number ≡ Some at → IsSound linked number
  all_sound number at e =
      let b = slot_of number at e in
      subst (IsSound linked) (sym b.same)
      (bodies_sound program b.place b.library b.there b.k b.flat b.at (firsts (FlatFits (bodies_of b.library) b.flat.locals b.flat.captures) (FlatSimple (Closes b.library)) b.flat.code (fits number b)))

  -- an instruction that stands in a body, as it was placed
  record Spot (number p : ℕ) (i : Instruction) : Type 0 where
    pub slot : Slot number
    pub instruction : Instruction
    pub simple : Simple (Closes slot.library) instruction
    pub found : IsFound linked instruction
    pub same : i ≡ numbered (before slot.place) instruction

  spot_of : (number p : ℕ) (i : Instruction) → Stands linked number p i → Spot number p i
  spot_of number p i s =
      let t = through (located linked number) (λ at. fetch_in at p) s.fetched s.at in
      let b = slot_of number t.item t.there in
      let tables = tables_of_library b.library in
      let kept : Located = record { unit = lowered program b.library; before = before b.place; body = units.body_of tables b.flat } in
      let here : located linked number ≡ Some kept = ap (located linked) b.same ∙ body_located program b.place b.library b.there b.k b.flat b.at in
      let in_kept : fetch_in kept p ≡ Some s.fetched = ap (λ (o : Option Located). if_there o (λ at. fetch_in at p)) (sym here) ∙ s.at in
      let raw = through (slice_get kept.body.code p) (λ (instr : Instr). option_map (λ (j : Instruction). record { instruction = j; next = p + 1 }) (decode kept instr)) s.fetched in_kept in
      let within = slice_get_within kept.body.code p raw.item raw.there in
      let size = length-map (placed_from 0 b.flat.code) (written tables) in
      let g = got b.flat.code p (omega (arith, within, size, length_placed 0 b.flat.code)) in
      let good = every_at (λ (f : Flat). FlatFits (bodies_of b.library) b.flat.locals b.flat.captures f × FlatSimple (Closes b.library) f) b.flat.code p g.item (fits number b) g.same in
      let found = every_at (FlatFound linked) b.flat.code p g.item (every_at (λ (body : FlatBody). Every (FlatFound linked) body.code) (bodies_of b.library) b.k b.flat (generics b.place b.library b.there) b.at) g.same in
      let as_placed = fetched_at program b.place b.library b.there b.k b.flat b.at p g.item g.same good.0 in
      let both : Some s.fetched ≡ Some (record { instruction = numbered (before b.place) (placed p g.item); next = p + 1 }) = step (sym s.at) (ap (λ (n : ℕ). fetch linked n p) b.same) as_placed in
      record {
        slot = b;
        instruction = placed p g.item;
        simple = placed_simple (Closes b.library) p g.item good.1;
        found = placed_found linked p g.item found;
        same = sym s.same ∙ ap (λ (f : Fetched). f.instruction) (same_Some s.fetched (record { instruction = numbered (before b.place) (placed p g.item); next = p + 1 }) both);
      }

  all_calls : (number p : ℕ) (i : Instruction) → Stands linked number p i → Calls linked number i
  all_calls number p i s =
      let spot = spot_of number p i s in
      subst (Calls linked number) (sym spot.same) (calls_simple linked number (before spot.slot.place) (Closes spot.slot.library) spot.instruction spot.simple spot.found)

  -- the body of a closure, as that of a lambda
  record ClosureAt (number : ℕ) : Type 0 where
    pub place : ℕ
    pub library : LibraryRow
    pub there : slice_get program.libraries place ≡ Some library
    pub body : ℕ
    pub count : ℕ
    pub closes : Closes library body count
    pub same : before place + body ≡ number

  closure_at : (number : ℕ) → IsClosureBody linked number → ClosureAt number
  closure_at number c =
      let spot = spot_of c.outer c.place (instr.Closure number c.count) c.stands in
      let closed = closed_by (before spot.slot.place) number (Closes spot.slot.library) spot.instruction spot.simple (ap closure_body (sym spot.same)) in
      record { place = spot.slot.place; library = spot.slot.library; there = spot.slot.there; body = closed.body; count = closed.count; closes = closed.is; same = closed.same }

  closed_at : (place : ℕ) (library : LibraryRow) (there : slice_get program.libraries place ≡ Some library) (k : ℕ) (flat : FlatBody) → slice_get (bodies_of library) k ≡ Some flat → flat.captures ≡ 0 → IsClosed linked (before place + k)
  closed_at place library there k flat at e = record {
    at = record { unit = lowered program library; before = before place; body = units.body_of (tables_of_library library) flat };
    there = body_located program place library there k flat at;
    captures = e;
  }

  costly_at : (place : ℕ) (library : LibraryRow) (there : slice_get program.libraries place ≡ Some library) (k : ℕ) (lambda : Lambda) (n : ℕ) → slice_get (bodies_of library) k ≡ Some (lambda_body lambda n) → IsCostly linked (before place + k)
  costly_at place library there k lambda n at = record {
    begins = record { fetched = record { instruction = instr.Tick; next = 0 + 1 }; at = fetched_at program place library there k (lambda_body lambda n) at 0 (Plain instr.Tick) refl tt; same = refl };
  }

  captures_none : (lambda : Lambda) → (out-Lambda lambda).first ≡ 0 → length (captured_by lambda) ≡ 0
  captures_none lambda e = ap (λ (n : ℕ). length (all_below (λ number. is_captured_by number lambda) n)) e

  -- the body at a place of the list of those that are begun with
  start_is : (place : ℕ) (library : LibraryRow) → slice_get program.libraries place ≡ Some library → (k : ℕ) → k < start_count library → start_at linked place k ≡ Some (before place + k)
  start_is place library there k low =
      ap (λ (o : Option UnitCode). if_there o (λ unit. option_map (body_number linked place) (slice_get unit.starts k))) (unit_at place library there)
      ∙ ap (option_map (body_number linked place)) (from_at 0 (start_count library) k low)
      ∙ (let first : 0 + k ≡ k = omega arith in ap (λ (n : ℕ). Some (before place + n)) first)

  lambda_has : (place : ℕ) (library : LibraryRow) (there : slice_get program.libraries place ≡ Some library) (k : ℕ) (lambda : Lambda) → (out-Lambda lambda).first ≡ 0 → PlacedAt library k (lambda_body lambda) → HasBody linked (Some (before place + k))
  lambda_has place library there k lambda e s =
      (closed_at place library there k (lambda_body lambda s.number) s.same (captures_none lambda e), costly_at place library there k lambda s.number s.same)

  -- where the body of a method stands
  record MethodAt (method : MethodId) (row : MethodRow) : Type 0 where
    pub library : LibraryRow
    pub there : slice_get program.libraries method.0.library ≡ Some library
    pub lambda : Lambda
    pub none : (out-Lambda lambda).first ≡ 0
    pub stands : PlacedAt library (dylan_methods (take method.0.row library.methods)) (lambda_body lambda)
    pub less : dylan_methods (take method.0.row library.methods) < dylan_methods library.methods
    pub body : method_body linked method ≡ Some (before method.0.library + dylan_methods (take method.0.row library.methods))

  method_at : (method : MethodId) (row : MethodRow) → method_row linked method ≡ Some row → is_dylan row.code ≡ true → MethodAt method row
  method_at method row at dylan =
      let place = method.0.library in
      let t = through (library_at linked place) (λ l. slice_get l.methods method.0.row) row at in
      let d = dylan_code row.code dylan in
      let library = t.item in
      let less = method_before library method.0.row row d.lambda t.gives d.same in
      record {
        library = library;
        there = t.there;
        lambda = d.lambda;
        none = (safe place library t.there).methods method.0.row row d.lambda t.gives d.same;
        stands = method_stands library method.0.row row d.lambda t.gives d.same;
        less = less;
        body = ap (λ (o : Option LibraryRow). if_there o (λ l. start_at linked place (dylan_methods (take method.0.row l.methods)))) t.there ∙ start_is place library t.there (dylan_methods (take method.0.row library.methods)) (omega (arith, less));
      }

  all_methods : (method : MethodId) (row : MethodRow) → method_row linked method ≡ Some row → is_dylan row.code ≡ true → HasBody linked (method_body linked method)
  all_methods method row at dylan =
      let m = method_at method row at dylan in
      subst (HasBody linked) (sym m.body) (lambda_has method.0.library m.library m.there (dylan_methods (take method.0.row m.library.methods)) m.lambda m.none m.stands)

  record FunctionAt (named : BindingId) (lambda : Lambda) : Type 0 where
    pub library : LibraryRow
    pub there : slice_get program.libraries named.at.library ≡ Some library
    pub none : (out-Lambda lambda).first ≡ 0
    pub stands : PlacedAt library (dylan_methods library.methods + dylan_functions (take named.at.row library.variables)) (lambda_body lambda)
    pub body : function_body linked named ≡ Some (before named.at.library + (dylan_methods library.methods + dylan_functions (take named.at.row library.variables)))

  function_at : (named : BindingId) (row : VariableRow) (lambda : Lambda) → variable_row linked named ≡ Some row → row.function ≡ Some lambda → FunctionAt named lambda
  function_at named row lambda at function =
      let place = named.at.library in
      let t = through (library_at linked place) (λ l. slice_get l.variables named.at.row) row at in
      let library = t.item in
      let less = function_before library named.at.row row lambda t.gives function in
      let k = dylan_methods library.methods + dylan_functions (take named.at.row library.variables) in
      record {
        library = library;
        there = t.there;
        none = (safe place library t.there).functions named.at.row row lambda t.gives function;
        stands = function_stands library named.at.row row lambda t.gives function;
        body = ap (λ (o : Option LibraryRow). if_there o (λ l. start_at linked place (dylan_methods l.methods + dylan_functions (take named.at.row l.variables)))) t.there ∙ start_is place library t.there k (omega (arith, less));
      }

  all_functions : (named : BindingId) (row : VariableRow) (lambda : Lambda) → variable_row linked named ≡ Some row → row.function ≡ Some lambda → HasBody linked (function_body linked named)
  all_functions named row lambda at function =
      let f = function_at named row lambda at function in
      subst (HasBody linked) (sym f.body) (lambda_has named.at.library f.library f.there (dylan_methods f.library.methods + dylan_functions (take named.at.row f.library.variables)) lambda f.none f.stands)

  -- no body is that of a method and something else
  slot_inside : (number : ℕ) (b : Slot number) → b.k < length (lowered program b.library).bodies
  slot_inside number b =
      let within = slice_get_within (bodies_of b.library) b.k b.flat b.at in
      let size = length-map (bodies_of b.library) (units.body_of (tables_of_library b.library)) in
      omega (arith, within, size)

  clash : (number : ℕ) (b c : Slot number) → b.k < dylan_methods b.library.methods → dylan_methods c.library.methods ≤ c.k → ⊥
  clash number b c less more =
      let s = same_place linked.code b.place c.place b.k c.k (lowered program b.library) (lowered program c.library) (unit_at b.place b.library b.there) (unit_at c.place c.library c.there) (slot_inside number b) (slot_inside number c) (sym b.same ∙ c.same) in
      let same_library : b.library ≡ c.library = same_Some b.library c.library (sym b.there ∙ ap (λ (p : ℕ). slice_get program.libraries p) s.places ∙ c.there) in
      let count = ap (λ (l : LibraryRow). dylan_methods l.methods) same_library in
      let bodies = s.bodies in
      absurd (omega (arith, less, more, count, bodies))

  record MethodSlot (number : ℕ) : Type 0 where
    pub slot : Slot number
    pub less : slot.k < dylan_methods slot.library.methods

  method_slot : (number : ℕ) → IsMethodBody linked number → MethodSlot number
  method_slot number m =
      let a = method_at m.method m.row m.at m.dylan in
      record {
        slot = record {
          place = m.method.0.library;
          library = a.library;
          there = a.there;
          k = dylan_methods (take m.method.0.row a.library.methods);
          flat = lambda_body a.lambda a.stands.number;
          at = a.stands.same;
          same = same_Some number (before m.method.0.library + dylan_methods (take m.method.0.row a.library.methods)) (sym m.same ∙ a.body);
        };
        less = a.less;
      }

  record OtherSlot (number : ℕ) : Type 0 where
    pub slot : Slot number
    pub more : dylan_methods slot.library.methods ≤ slot.k

  function_slot : (number : ℕ) → IsFunctionBody linked number → OtherSlot number
  function_slot number f =
      let a = function_at f.named f.row f.lambda f.at f.function in
      let k = dylan_methods a.library.methods + dylan_functions (take f.named.at.row a.library.variables) in
      record {
        slot = record {
          place = f.named.at.library;
          library = a.library;
          there = a.there;
          k = k;
          flat = lambda_body f.lambda a.stands.number;
          at = a.stands.same;
          same = same_Some number (before f.named.at.library + k) (sym f.same ∙ a.body);
        };
        more = omega arith;
      }

  closure_slot : (number : ℕ) → IsClosureBody linked number → OtherSlot number
  closure_slot number c =
      let a = closure_at number c in
      let behind = a.closes.behind in
      record {
        slot = record { place = a.place; library = a.library; there = a.there; k = a.body; flat = lambda_body a.closes.lambda a.closes.number; at = a.closes.at; same = sym a.same };
        more = omega (arith, behind);
      }

  all_apart : (number : ℕ) → IsMethodBody linked number → (IsFunctionBody linked number ⊎ IsClosureBody linked number) → ⊥
  all_apart number m (inl f) = let a = method_slot number m in let b = function_slot number f in clash number a.slot b.slot a.less b.more
  all_apart number m (inr c) = let a = method_slot number m in let b = closure_slot number c in clash number a.slot b.slot a.less b.more

  all_closures : (number : ℕ) → IsClosureBody linked number → IsCostly linked number
  all_closures number c =
      let a = closure_at number c in
      subst (IsCostly linked) a.same (costly_at a.place a.library a.there a.body a.closes.lambda a.closes.number a.closes.at)

  -- forms
  body_is : (b k : ℕ) (top : TopTerm) → body_of (task_of b (top_code top k)) ≡ b + k
  body_is b k (tops.Init bindings term) = refl
  body_is b k (tops.Run term) = refl

  top_captures : (top : TopTerm) (n : ℕ) → (top_body top n).captures ≡ 0
  top_captures (tops.Init bindings term) n = refl
  top_captures (tops.Run term) n = refl

  tops_every : (P : Task → Type 0) (b : ℕ) (all : List TopTerm) (n : ℕ) → ((i : ℕ) (top : TopTerm) → slice_get all i ≡ Some top → P (task_of b (top_code top (n + i)))) → Every P (map (task_of b) (tops_from all n))
  tops_every P b [] n each = tt
  tops_every P b (top ∷ all) n each =
      let none : n + 0 ≡ n = omega arith in (
        subst (λ (k : ℕ). P (task_of b (top_code top k))) none (each 0 top refl),
        tops_every P b all (n + 1) (λ i t e.
            let next : n + suc i ≡ n + 1 + i = omega arith in
            subst (λ (k : ℕ). P (task_of b (top_code t k))) next (each (suc i) t e)),
      )

  tasks_every : (P : Task → Type 0) (all : List UnitCode) (b : ℕ) → ((place : ℕ) (unit : UnitCode) → slice_get all place ≡ Some unit → Every P (map (task_of (b + bodies_in (take place all))) unit.tops)) → Every P (tasks_from b all)
  tasks_every P [] b each = tt
  tasks_every P (unit ∷ all) b each =
      let none : b + 0 ≡ b = omega arith in
      every_append P (map (task_of b) unit.tops) (tasks_from (b + length unit.bodies) all) (subst (λ (n : ℕ). Every P (map (task_of n) unit.tops)) none (each 0 unit refl))
      (tasks_every P all (b + length unit.bodies) (λ place other e.
      let next : b + (length unit.bodies + bodies_in (take place all)) ≡ b + length unit.bodies + bodies_in (take place all) = omega arith in
      subst (λ (n : ℕ). Every P (map (task_of n) other.tops)) next (each (suc place) other e)))

  forms_every : (P : Task → Type 0) → ((place : ℕ) (library : LibraryRow) → slice_get program.libraries place ≡ Some library → (i : ℕ) (top : TopTerm) → slice_get library.tops i ≡ Some top → P (task_of (0 + before place) (top_code top (start_count library + i))))
      → Every P (tasks linked)
  forms_every P each = tasks_every P linked.code 0 (λ place unit e.
      let m = made_by (lowered program) (slice_get program.libraries place) unit (sym (slice_get-map (lowered program) program.libraries place) ∙ e) in
      subst (λ (u : UnitCode). Every P (map (task_of (0 + before place)) u.tops)) m.same (tops_every P (0 + before place) m.item.tops (start_count m.item) (each place m.item m.there)))

  number_is : (place k : ℕ) (top : TopTerm) → body_of (task_of (0 + before place) (top_code top k)) ≡ before place + k
  number_is place k top = let first : 0 + before place + k ≡ before place + k = omega arith in body_is (0 + before place) k top ∙ first

  all_forms : Every (λ task. IsClosed linked (body_of task)) (tasks linked)
  all_forms = forms_every (λ task. IsClosed linked (body_of task)) (λ place library there i top e.
      let s = form_stands library i top e in
      subst (IsClosed linked) (sym (number_is place (start_count library + i) top)) (closed_at place library there (start_count library + i) (top_body top s.number) s.same (top_captures top s.number)))

  all_outside : Every (λ task. IsMethodBody linked (body_of task) → ⊥) (tasks linked)
  all_outside = forms_every (λ task. IsMethodBody linked (body_of task) → ⊥) (λ place library there i top e m.
      let s = form_stands library i top e in
      let k = start_count library + i in
      let number = body_of (task_of (0 + before place) (top_code top k)) in
      let a = method_slot number m in
      let b : Slot number = record { place = place; library = library; there = there; k = k; flat = top_body top s.number; at = s.same; same = number_is place k top } in
      clash number a.slot b a.less (omega arith))

  pub may_run : IsValid linked
  may_run = record {
    sound = all_sound;
    calls = all_calls;
    methods = all_methods;
    functions = all_functions;
    closures = all_closures;
    forms = all_forms;
    apart = all_apart;
    outside = all_outside;
  }
