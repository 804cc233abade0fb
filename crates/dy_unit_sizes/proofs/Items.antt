-- The lists of a unit have no more items than its instructions name.
use Rattle.std.proofs.Common.{ℕ, ◌+◌, ◌≤◌, ◌≡◌, Bool, true, false, not, List, [], ◌∷◌, ◌++◌, length, Option, Some, None, arith}
use Rattle.std.specs.Prelude.{flat_map, filter, filter_map, cond}
use Rattle.std.specs.List.{cons_option}
use Rattle.dy_values.specs.Identity.{is_same_binding}
use Rattle.dy_code.specs.Fetching.{Instruction}
use Rattle.dy_code.specs.Fetching as instr
use Rattle.dy_lowered.specs.Bodies.{FlatBody}
use Rattle.dy_lowered.specs.Flat.{Flat, Plain, Jump, JumpFalse, Enter, Guard, Catch, Code, placed, placed_from}
use Rattle.dy_lowered.specs.Items.{constant_of, name_of, bound_of, list_of, type_of, results_of}
use Rattle.dy_lowered.specs.Sameness.{is_same_literal, is_same_bound, is_same_params, is_same_type, is_same_results}
use Rattle.dy_lowered.specs.Tables.{distinct, tables_of}
use Rattle.dy_lowering_whole.specs.sizes.Sizes.{HoldsAtMost}
use Rattle.dy_lowering_whole.proofs.sizes.Closing.{names, naming, names_of}
use Rattle.dy_lowering_whole.proofs.sizes.Weighing.{weigh}

-- what instructions name
abbrev pub items : List Instruction → ℕ
items [] = 0
items (instruction ∷ code) = names instruction + items code

items_join : (a b : List Instruction) → items (a ++ b) ≡ items a + items b
items_join [] b = omega arith
items_join (x ∷ a) b = omega (arith, items_join a b)

placed_names : (place : ℕ) (flat : Flat) → names (placed place flat) ≤ naming flat
placed_names place (Plain instruction) = omega arith
placed_names place (Jump distance) = omega arith
placed_names place (JumpFalse distance) = omega arith
placed_names place (Enter distance) = omega arith
placed_names place (Guard distance) = omega arith
placed_names place (Catch condition distance) = omega arith

code_names : (place : ℕ) (code : Code) → items (placed_from place code) ≤ weigh naming code
code_names place [] = omega arith
code_names place (flat ∷ code) = omega (arith, placed_names place flat, code_names (place + 1) code)

pub all_names : (bodies : List FlatBody) → items (flat_map (λ (body : FlatBody). placed_from 0 body.code) bodies) ≤ names_of bodies
all_names [] = omega arith
all_names (body ∷ bodies) = omega (arith, items_join (placed_from 0 body.code) (flat_map (λ (body : FlatBody). placed_from 0 body.code) bodies), code_names 0 body.code, all_names bodies)

filter_few : {A : Type 0} (test : A → Bool) (xs : List A) → length (filter test xs) ≤ length xs
filter_few test [] = omega arith
filter_few test (x ∷ xs) = by (test x) (filter_few test xs)
  where
    by : (b : Bool) → length (filter test xs) ≤ length xs → length (cond b (x ∷ filter test xs) (filter test xs)) ≤ length (x ∷ xs)
    by true h = omega (arith, h)
    by false h = omega (arith, h)

distinct_few : {A : Type 0} (same : A → A → Bool) (xs : List A) → length (distinct same xs) ≤ length xs
distinct_few same [] = omega arith
distinct_few same (x ∷ xs) = omega (arith, filter_few (λ other. not (same x other)) (distinct same xs), distinct_few same xs)

-- what some instructions name
abbrev one_of : {A : Type 0} → Option A → ℕ
one_of None = 0
one_of (Some item) = 1

named_by : {A : Type 0} (item : Instruction → Option A) → ((instruction : Instruction) → one_of (item instruction) ≤ names instruction) → (code : List Instruction) → length (filter_map item code) ≤ items code
named_by item each [] = omega arith
named_by {A} item each (instruction ∷ code) = by (item instruction) (each instruction) (named_by item each code)
  where
    by : (o : Option A) → one_of o ≤ names instruction → length (filter_map item code) ≤ items code → length (cons_option o (filter_map item code)) ≤ names instruction + items code
    by None few h = omega (arith, h)
    by (Some x) few h = omega (arith, few, h)

constants_named : (instruction : Instruction) → one_of (constant_of instruction) ≤ names instruction
constants_named (instr.Const literal) = omega arith
constants_named _ = omega arith

names_named : (instruction : Instruction) → one_of (name_of instruction) ≤ names instruction
names_named (instr.Global named) = omega arith
names_named (instr.SetGlobal named) = omega arith
names_named (instr.Search generic count) = omega arith
names_named (instr.CallKnown named count) = omega arith
names_named _ = omega arith

bound_named : (instruction : Instruction) → one_of (bound_of instruction) ≤ names instruction
bound_named (instr.CallDirect sorted ambiguous count) = omega arith
bound_named _ = omega arith

lists_named : (instruction : Instruction) → one_of (list_of instruction) ≤ names instruction
lists_named (instr.Args params) = omega arith
lists_named _ = omega arith

types_named : (instruction : Instruction) → one_of (type_of instruction) ≤ names instruction
types_named (instr.Check type) = omega arith
types_named (instr.Handle condition) = omega arith
types_named (instr.Catch condition address) = omega arith
types_named _ = omega arith

results_named : (instruction : Instruction) → one_of (results_of instruction) ≤ names instruction
results_named (instr.CheckResults results) = omega arith
results_named _ = omega arith

pub hold_at_most : (code : List Instruction) (most : ℕ) → items code ≤ most → HoldsAtMost most (tables_of code)
hold_at_most code most few = record {
  constants = omega (arith, few, distinct_few is_same_literal (filter_map constant_of code), named_by constant_of constants_named code);
  names = omega (arith, few, distinct_few is_same_binding (filter_map name_of code), named_by name_of names_named code);
  bound = omega (arith, few, distinct_few is_same_bound (filter_map bound_of code), named_by bound_of bound_named code);
  lists = omega (arith, few, distinct_few is_same_params (filter_map list_of code), named_by list_of lists_named code);
  types = omega (arith, few, distinct_few is_same_type (filter_map type_of code), named_by type_of types_named code);
  results = omega (arith, few, distinct_few is_same_results (filter_map results_of code), named_by results_of results_named code);
}
