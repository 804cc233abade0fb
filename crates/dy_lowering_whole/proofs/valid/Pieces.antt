-- The code of each kind of term leaves what lies in the frame as it was, where that of the parts does.
use Rattle.std.proofs.Common.{◌≡◌, ℕ, zero, suc, ◌+◌, Bool, true, false, List, [], ◌∷◌, ◌++◌, length, Option, Some, None, refl, sym, subst, arith, append_assoc, length-append}
use Rattle.std.specs.Prelude.{flat_map}
use Rattle.dy_base.specs.declared.ids.BindingId.{BindingId}
use Rattle.dy_term.specs.declared.types.DyType.{DyType}
use Rattle.dy_outcome.specs.declared.place.Place.{Place}
use Rattle.dy_outcome.specs.declared.place.Place.TheVariants.{Own, Captured}
use Rattle.dy_term.specs.declared.literal.Literal.{Literal-F, roll-Literal}
use Rattle.dy_code.specs.Fetching.{Instruction}
use Rattle.dy_code.specs.Fetching as instr
use Rattle.dy_code.specs.Layouts.{Layout}
use Rattle.dy_code.specs.Validity.{Every}
use Rattle.dy_meaning.specs.Meaning.{identity}
use Rattle.dy_lowered.specs.Flat.{Plain, Code, one, past, past_if_false}
use Rattle.dy_lowered.specs.Parts.{truth, read, kept, assigned, put, cell, cells, arguments, with_arguments, calling, assigning, choice, branching, both, first_alone, either, Comparing, by_identity, by_function, compared, meeting, arm, selecting, or_no_match, waiting, select, stored, bound, letting, captures, closing, Method, declared, defined, local_methods, Part, Runs, Binds, Handles, part_code, values_behind, handler_count, without_handlers, body, loop}
use Rattle.dy_lowering_whole.specs.valid.Shapes.{Lays, IsEven}
use Rattle.dy_lowering_whole.proofs.valid.Laying.{Goes, Stays, Takes, at, lays_nothing, lays_one, lays_join, lays_first, lays_last, lays_from, lays_to, saving, handling, goes_const, goes_local, goes_set_local, goes_new_cell, goes_cell_get, goes_cell_set, goes_free, goes_free_get, goes_free_set, goes_values, goes_closure, goes_call_known, goes_call_value, goes_op, goes_push, goes_spread, goes_collect, goes_save, goes_restore, goes_handle, goes_unhandle, goes_no_match}
use Rattle.dy_lowering_whole.proofs.valid.Choosing.{Splits, splits_past, splits_join, splits_or, lays_fork, lays_choice, lays_loop}

pub even_one : (i : Instruction) → Stays i → IsEven (one i)
even_one i stays l = lays_one i l l (stays l)

pub even_join : (first second : Code) → IsEven first → IsEven second → IsEven (first ++ second)
even_join first second a b l = lays_join first second l l l (a l) (b l)

pub even_first : (i : Instruction) (code : Code) → Stays i → IsEven code → IsEven (Plain i ∷ code)
even_first i code stays h l = lays_first i code l l l (stays l) (h l)

pub even_truth : (value : Bool) → IsEven (truth value)
even_truth value = even_one (instr.Const (roll-Literal (Literal-F.Bool value))) (goes_const (roll-Literal (Literal-F.Bool value)))

-- locals
pub even_read : (place : Place) → IsEven (read place)
even_read (Own number false) = even_one (instr.Local number) (goes_local number)
even_read (Own number true) = even_one (instr.CellGet number) (goes_cell_get number)
even_read (Captured number) = even_one (instr.FreeGet number) (goes_free_get number)

pub even_kept : (place : Place) → IsEven (kept place)
even_kept (Own number in_cell) = even_one (instr.Local number) (goes_local number)
even_kept (Captured number) = even_one (instr.Free number) (goes_free number)

pub even_assigned : (place : Place) → IsEven (assigned place)
even_assigned (Own number false) = even_one (instr.SetLocal number) (goes_set_local number)
even_assigned (Own number true) = even_one (instr.CellSet number) (goes_cell_set number)
even_assigned (Captured number) = even_one (instr.FreeSet number) (goes_free_set number)

pub even_put : (place : Place) → IsEven (put place)
even_put (Own number in_cell) = even_one (instr.SetLocal number) (goes_set_local number)
even_put (Captured number) = lays_nothing

pub even_cell : (place : Place) → IsEven (cell place)
even_cell (Own number true) = even_one (instr.NewCell number) (goes_new_cell number)
even_cell (Own number false) = lays_nothing
even_cell (Captured number) = lays_nothing

pub even_cells : (places : List Place) → IsEven (cells places)
even_cells [] = lays_nothing
even_cells (place ∷ places) = even_join (cell place) (cells places) (even_cell place) (even_cells places)

pub even_assigning : (place : Place) (term : Code) → IsEven term → IsEven (assigning place term)
even_assigning place term h = even_join term (assigned place) h (even_assigned place)

-- arguments
one_more : (n k : ℕ) → n + suc k ≡ suc n + k
one_more n k = omega arith

pub lays_arguments : (terms : List Code) (n : ℕ) (l : Layout) → Every IsEven terms → Lays (arguments terms) (at n l) (at (length terms + n) l)
lays_arguments [] n l all = let none : n ≡ 0 + n = omega arith in lays_to [] n (0 + n) (at n l) l none (lays_nothing (at n l))
lays_arguments (term ∷ terms) n l all =
    let more : length terms + suc n ≡ length (term ∷ terms) + n = omega arith in
    lays_join term (Plain instr.Push ∷ arguments terms) (at n l) (at n l) (at (length (term ∷ terms) + n) l) (all.0 (at n l))
    (lays_first instr.Push (arguments terms) (at n l) (at (suc n) l) (at (length (term ∷ terms) + n) l) (goes_push n (suc n) l (omega arith))
    (lays_to (arguments terms) (length terms + suc n) (length (term ∷ terms) + n) (at (suc n) l) l more (lays_arguments terms (suc n) l all.1)))

pub even_with_arguments : (terms : List Code) (call : Instruction) → Every IsEven terms → Takes (length terms) call → IsEven (with_arguments terms call)
even_with_arguments terms call all takes l =
    let n = l.operands in
    lays_last (arguments terms) call l (at (length terms + n) l) l (lays_arguments terms n l all) (takes (length terms + n) n l refl)

pub even_calling : (named : Option BindingId) (function : Code) (terms : List Code) → IsEven function → Every IsEven terms → IsEven (calling named function terms)
even_calling (Some named) function terms h all l = even_with_arguments terms (instr.CallKnown named (length terms)) all (goes_call_known named (length terms)) l
even_calling None function terms h all l =
    let n = l.operands in
    let k = length terms in
    lays_join function (Plain instr.Push ∷ with_arguments terms (instr.CallValue k)) l l l (h l)
    (lays_first instr.Push (with_arguments terms (instr.CallValue k)) l (at (suc n) l) l (goes_push n (suc n) l (omega arith))
    (lays_last (arguments terms) (instr.CallValue k) (at (suc n) l) (at (k + suc n) l) l (lays_arguments terms (suc n) l all) (goes_call_value k (k + suc n) n l (omega arith))))

-- choices
pub even_choice : (test guarded other : Code) → IsEven test → IsEven guarded → IsEven other → IsEven (choice test guarded other)
even_choice test guarded other a b c l = lays_choice test guarded other l l l (a l) (b l) (c l)

abbrev pub ArePairsEven : List (Code × Code) → Type 0
ArePairsEven [] = Unit {0}
ArePairsEven (branch ∷ branches) = IsEven branch.0 × IsEven branch.1 × ArePairsEven branches

pub even_branching : (branches : List (Code × Code)) (other : Code) → ArePairsEven branches → IsEven other → IsEven (branching branches other)
even_branching [] other all h = h
even_branching (branch ∷ branches) other all h = even_choice branch.0 branch.1 (branching branches other) all.0 all.1 (even_branching branches other all.2 h)

pub even_both : (left right : Code) → IsEven left → IsEven right → IsEven (both left right)
even_both left right a b = even_choice left right (truth false) a b (even_truth false)

-- what stands on the operands and is taken from them
even_first_alone : IsEven first_alone
even_first_alone l =
    let n = l.operands in
    lays_first instr.Push (one (instr.Values 1)) l (at (suc n) l) l (goes_push n (suc n) l (omega arith)) (lays_one (instr.Values 1) (at (suc n) l) l (goes_values 1 (suc n) n l (omega arith)))

pub even_either : (left right : Code) → IsEven left → IsEven right → IsEven (either left right)
even_either left right a b = even_choice left first_alone right a even_first_alone b

-- how a `select` compares, and how many operands lie there for it
pub record Compares (by : Comparing) (count : ℕ) : Type 0 where
  pub compares : (value : Code) (n : ℕ) (l : Layout) → IsEven value → Lays (compared by value) (at (count + n) l) (at (count + n) l)
  pub away : Takes count by.away

identity_compares : Compares by_identity 1
identity_compares = record {
  compares = λ value n l h.
      lays_first (instr.Values 1) (Plain instr.Push ∷ Plain instr.Push ∷ (value ++ (Plain instr.Push ∷ one (instr.Op identity 2)))) (at (1 + n) l) (at n l) (at (1 + n) l) (goes_values 1 (1 + n) n l refl)
      (lays_first instr.Push (Plain instr.Push ∷ (value ++ (Plain instr.Push ∷ one (instr.Op identity 2)))) (at n l) (at (1 + n) l) (at (1 + n) l) (goes_push n (1 + n) l refl)
      (lays_first instr.Push (value ++ (Plain instr.Push ∷ one (instr.Op identity 2))) (at (1 + n) l) (at (2 + n) l) (at (1 + n) l) (goes_push (1 + n) (2 + n) l (omega arith))
      (lays_join value (Plain instr.Push ∷ one (instr.Op identity 2)) (at (2 + n) l) (at (2 + n) l) (at (1 + n) l) (h (at (2 + n) l))
      (lays_first instr.Push (one (instr.Op identity 2)) (at (2 + n) l) (at (3 + n) l) (at (1 + n) l) (goes_push (2 + n) (3 + n) l (omega arith))
      (lays_one (instr.Op identity 2) (at (3 + n) l) (at (1 + n) l) (goes_op identity 2 (3 + n) (1 + n) l (omega arith)))))));
  away = goes_values 1;
}

function_compares : Compares by_function 2
function_compares = record {
  compares = λ value n l h.
      lays_first (instr.Values 2) (Plain (instr.Spread 2 false) ∷ Plain (instr.Spread 2 false) ∷ (value ++ (Plain instr.Push ∷ one (instr.CallValue 2)))) (at (2 + n) l) (at n l) (at (2 + n) l) (goes_values 2 (2 + n) n l refl)
      (lays_first (instr.Spread 2 false) (Plain (instr.Spread 2 false) ∷ (value ++ (Plain instr.Push ∷ one (instr.CallValue 2)))) (at n l) (at (2 + n) l) (at (2 + n) l) (goes_spread 2 n (2 + n) l refl)
      (lays_first (instr.Spread 2 false) (value ++ (Plain instr.Push ∷ one (instr.CallValue 2))) (at (2 + n) l) (at (4 + n) l) (at (2 + n) l) (goes_spread 2 (2 + n) (4 + n) l (omega arith))
      (lays_join value (Plain instr.Push ∷ one (instr.CallValue 2)) (at (4 + n) l) (at (4 + n) l) (at (2 + n) l) (h (at (4 + n) l))
      (lays_first instr.Push (one (instr.CallValue 2)) (at (4 + n) l) (at (5 + n) l) (at (2 + n) l) (goes_push (4 + n) (5 + n) l (omega arith))
      (lays_one (instr.CallValue 2) (at (5 + n) l) (at (2 + n) l) (goes_call_value 2 (5 + n) (2 + n) l (omega arith)))))));
  away = goes_values 2;
}

abbrev pub AreArmsEven : List (List Code × Code) → Type 0
AreArmsEven [] = Unit {0}
AreArmsEven (first ∷ arms) = Every IsEven first.0 × IsEven first.1 × AreArmsEven arms

module _ (by : Comparing) (count : ℕ) (how : Compares by count) (n : ℕ) (l : Layout) where
  -- what lies there while values are compared
  abbrev there : Layout
  there = at (count + n) l

  lays_meeting : (values : List Code) (missed : ℕ) → Every IsEven values → Splits (meeting by values missed) missed there there there
  lays_meeting [] missed all = splits_past missed there
  lays_meeting (value ∷ values) missed all =
      let others = meeting by values missed in
      splits_join (compared by value) (past_if_false 1 ∷ past (length others) ∷ others) missed there there there there (how.compares value n l all.0) (splits_or others missed there (lays_meeting values missed all.1))

  lays_arm : (values : List Code) (term others : Code) → Every IsEven values → IsEven term → Lays others there (at n l) → Lays (arm by values term others) there (at n l)
  lays_arm values term others all h rest =
      let guarded = Plain by.away ∷ term in
      let last = past (length others) ∷ [] in
      let met = guarded ++ last in
      let size : length met ≡ length guarded + 1 = omega (arith, length-append guarded last) in
      let head = meeting by values (length met) in
      let splits : Splits head (length guarded + 1) there there there = subst (λ (k : ℕ). Splits head k there there there) size (lays_meeting values (length met) all) in
      subst (λ (code : Code). Lays (head ++ code) there (at n l)) (sym (append_assoc guarded last others))
      (lays_fork head guarded others there there there (at n l) splits (lays_first by.away term there (at n l) (at n l) (how.away (count + n) n l refl) (h (at n l))) rest)

  lays_selecting : (arms : List (List Code × Code)) (missed : Code) → AreArmsEven arms → IsEven missed → Lays (selecting by arms missed) there (at n l)
  lays_selecting [] missed all h = lays_first by.away missed there (at n l) (at n l) (how.away (count + n) n l refl) (h (at n l))
  lays_selecting (first ∷ arms) missed all h = lays_arm first.0 first.1 (selecting by arms missed) all.0 all.1 (lays_selecting arms missed all.2 h)

abbrev pub IsHeldEven : Option Code → Type 0
IsHeldEven None = Unit {0}
IsHeldEven (Some term) = IsEven term

even_or_no_match : (last : Option Code) → IsHeldEven last → IsEven (or_no_match last)
even_or_no_match None h = goes_no_match
even_or_no_match (Some term) h = h

lays_waiting : (test : Code) (l : Layout) → IsEven test → Lays (waiting test) l (at (2 + l.operands) l)
lays_waiting test l h =
    let n = l.operands in
    let s = saving l in
    lays_first instr.Save (test ++ (Plain instr.Push ∷ Plain instr.Restore ∷ one instr.Push)) l s (at (2 + n) l) (goes_save l)
    (lays_join test (Plain instr.Push ∷ Plain instr.Restore ∷ one instr.Push) s s (at (2 + n) l) (h s)
    (lays_first instr.Push (Plain instr.Restore ∷ one instr.Push) s (at (1 + n) s) (at (2 + n) l) (goes_push n (1 + n) s refl)
    (lays_first instr.Restore (one instr.Push) (at (1 + n) s) (at (1 + n) l) (at (2 + n) l) (goes_restore (at (1 + n) l))
    (lays_one instr.Push (at (1 + n) l) (at (2 + n) l) (goes_push (1 + n) (2 + n) l (omega arith))))))

pub even_select : (value : Code) (test : Option Code) (arms : List (List Code × Code)) (last : Option Code) → IsEven value → IsHeldEven test → AreArmsEven arms → IsHeldEven last → IsEven (select value test arms last)
even_select value None arms last a b c d l =
    let n = l.operands in
    let rest = selecting by_identity arms (or_no_match last) in
    lays_join value (Plain instr.Push ∷ rest) l l l (a l)
    (lays_first instr.Push rest l (at (1 + n) l) l (goes_push n (1 + n) l refl) (lays_selecting by_identity 1 identity_compares n l arms (or_no_match last) c (even_or_no_match last d)))
even_select value (Some test) arms last a b c d l =
    let n = l.operands in
    let rest = selecting by_function arms (or_no_match last) in
    lays_join value (waiting test ++ rest) l l l (a l)
    (lays_join (waiting test) rest l (at (2 + n) l) l (lays_waiting test l b) (lays_selecting by_function 2 function_compares n l arms (or_no_match last) c (even_or_no_match last d)))

-- binding
lays_stored : (places : List Place) (n : ℕ) (l : Layout) → Lays (stored places) (at (length places + n) l) (at n l)
lays_stored [] n l = let none : n ≡ 0 + n = omega arith in lays_from [] n (0 + n) l (at n l) none (lays_nothing (at n l))
lays_stored (place ∷ places) n l =
    let more : length places + suc n ≡ length (place ∷ places) + n = omega arith in
    lays_join (stored places) (Plain (instr.Values 1) ∷ put place) (at (length (place ∷ places) + n) l) (at (suc n) l) (at n l)
    (lays_from (stored places) (length places + suc n) (length (place ∷ places) + n) l (at (suc n) l) more (lays_stored places (suc n) l))
    (lays_first (instr.Values 1) (put place) (at (suc n) l) (at n l) (at n l) (goes_values 1 (suc n) n l (omega arith)) (even_put place (at n l)))

lays_bound : (all : List Place) (i : Instruction) (l : Layout) → Goes i l (at (length all + l.operands) l) → Lays (Plain i ∷ (stored all ++ cells all)) l l
lays_bound all i l goes =
    let n = l.operands in
    lays_first i (stored all ++ cells all) l (at (length all + n) l) l goes (lays_join (stored all) (cells all) (at (length all + n) l) l l (lays_stored all n l) (even_cells all l))

pub even_bound : (places : List Place) (rest : Option Place) → IsEven (bound places rest)
even_bound (place ∷ []) None l = even_join (put place) (cell place) (even_put place) (even_cell place) l
even_bound [] None l = lays_bound [] (instr.Spread 0 false) l (goes_spread 0 l.operands (0 + l.operands) l refl)
even_bound (place ∷ other ∷ others) None l =
    let all = place ∷ other ∷ others in
    lays_bound all (instr.Spread (length all) false) l (goes_spread (length all) l.operands (length all + l.operands) l refl)
even_bound places (Some rest) l =
    let all = places ++ rest ∷ [] in
    lays_bound all (instr.Spread (length places) true) l (goes_collect (length places) l.operands (length all + l.operands) l (omega (arith, length-append places (rest ∷ []))))

pub even_letting : (places : List Place) (rest : Option Place) (term : Code) → IsEven term → IsEven (letting places rest term)
even_letting places rest term h = even_join term (bound places rest) h (even_bound places rest)

-- closures
lays_captures : (places : List Place) (n : ℕ) (l : Layout) → Lays (captures places) (at n l) (at (length places + n) l)
lays_captures [] n l = let none : n ≡ 0 + n = omega arith in lays_to [] n (0 + n) (at n l) l none (lays_nothing (at n l))
lays_captures (place ∷ places) n l =
    let more : length places + suc n ≡ length (place ∷ places) + n = omega arith in
    lays_join (kept place) (Plain instr.Push ∷ captures places) (at n l) (at n l) (at (length (place ∷ places) + n) l) (even_kept place (at n l))
    (lays_first instr.Push (captures places) (at n l) (at (suc n) l) (at (length (place ∷ places) + n) l) (goes_push n (suc n) l (omega arith))
    (lays_to (captures places) (length places + suc n) (length (place ∷ places) + n) (at (suc n) l) l more (lays_captures places (suc n) l)))

pub even_closing : (number : ℕ) (places : List Place) → IsEven (closing number places)
even_closing number places l =
    let n = l.operands in
    lays_last (captures places) (instr.Closure number (length places)) l (at (length places + n) l) l (lays_captures places n l) (goes_closure number (length places) (length places + n) n l refl)

even_declared : (methods : List Method) → IsEven (declared methods)
even_declared [] = lays_nothing
even_declared (method ∷ methods) =
    even_join (put method.place ++ cell method.place) (declared methods) (even_join (put method.place) (cell method.place) (even_put method.place) (even_cell method.place)) (even_declared methods)

even_defined : (methods : List Method) → IsEven (defined methods)
even_defined [] = lays_nothing
even_defined (method ∷ methods) =
    even_join (closing method.body method.captured ++ assigned method.place) (defined methods)
    (even_join (closing method.body method.captured) (assigned method.place) (even_closing method.body method.captured) (even_assigned method.place)) (even_defined methods)

pub even_local_methods : (methods : List Method) → IsEven (local_methods methods)
even_local_methods methods = even_join (truth false) (declared methods ++ defined methods) (even_truth false) (even_join (declared methods) (defined methods) (even_declared methods) (even_defined methods))

-- bodies
abbrev pub IsPartEven : Part → Type 0
IsPartEven (Runs term) = IsEven term
IsPartEven (Binds binding) = IsEven binding
IsPartEven (Handles condition function) = IsEven function

lays_handling : (condition : DyType) (function : Code) (l : Layout) → IsEven function → Lays (part_code (Handles condition function)) l (handling 1 l)
lays_handling condition function l h =
    let n = l.operands in
    lays_join function (Plain instr.Push ∷ one (instr.Handle condition)) l l (handling 1 l) (h l)
    (lays_first instr.Push (one (instr.Handle condition)) l (at (1 + n) l) (handling 1 l) (goes_push n (1 + n) l refl)
    (lays_one (instr.Handle condition) (at (1 + n) l) (handling 1 l) (goes_handle condition (1 + n) n l refl)))

lays_parts : (parts : List Part) (l : Layout) → Every IsPartEven parts → Lays (flat_map part_code parts) l (handling (handler_count parts) l)
lays_parts [] l all = lays_nothing l
lays_parts (Runs term ∷ parts) l all = lays_join term (flat_map part_code parts) l l (handling (handler_count parts) l) (all.0 l) (lays_parts parts l all.1)
lays_parts (Binds binding ∷ parts) l all = lays_join binding (flat_map part_code parts) l l (handling (handler_count parts) l) (all.0 l) (lays_parts parts l all.1)
lays_parts (Handles condition function ∷ parts) l all =
    let more : suc (handler_count parts) ≡ 1 + handler_count parts = omega arith in
    subst (λ (k : ℕ). Lays (flat_map part_code (Handles condition function ∷ parts)) l (handling k l)) more
    (lays_join (part_code (Handles condition function)) (flat_map part_code parts) l (handling 1 l) (handling (suc (handler_count parts)) l) (lays_handling condition function l all.0) (lays_parts parts (handling 1 l) all.1))

even_values : (parts : List Part) (values : Code) → IsEven values → IsEven (values_behind parts values)
even_values [] values h = h
even_values (Runs term ∷ parts) values h = even_values parts [] lays_nothing
even_values (Binds binding ∷ parts) values h = even_values parts (truth false) (even_truth false)
even_values (Handles condition function ∷ parts) values h = even_values parts (truth false) (even_truth false)

lays_without : (count : ℕ) (l : Layout) → Lays (without_handlers count) (handling count l) l
lays_without zero l = lays_nothing l
lays_without (suc count) l = lays_one (instr.Unhandle (suc count)) (handling (suc count) l) l (goes_unhandle (suc count) l)

pub even_body : (parts : List Part) → Every IsPartEven parts → IsEven (body parts)
even_body parts all l =
    let inside = handling (handler_count parts) l in
    lays_join (flat_map part_code parts) (values_behind parts (truth false) ++ without_handlers (handler_count parts)) l inside l (lays_parts parts l all)
    (lays_join (values_behind parts (truth false)) (without_handlers (handler_count parts)) inside inside l (even_values parts (truth false) (even_truth false) inside) (lays_without (handler_count parts) l))

pub even_loop : (test inner : Code) → IsEven test → IsEven inner → IsEven (loop test inner)
even_loop test inner a b l = lays_loop test inner l a b
