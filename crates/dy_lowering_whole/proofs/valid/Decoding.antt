-- What is written is decoded as it was.
use Rattle.std.proofs.Common.{◌≡◌, ℕ, ◌+◌, ◌≤◌, Bool, true, false, List, [], ◌∷◌, Option, Some, None, slice_get, refl, ap, ◌∙◌, arith}
use Rattle.std.specs.Prelude.{nat_eq, nat_lt, nat_le}
use Rattle.std.specs.Option.{option_map}
use Rattle.dy_base.specs.declared.ids.BindingId.{BindingId}
use Rattle.dy_base.specs.declared.ids.MethodId.{MethodId}
use Rattle.dy_base.specs.declared.ids.What.{What}
use Rattle.dy_base.specs.declared.ids.What.TheVariants as whats
use Rattle.dy_values.specs.Identity.{is_same_binding}
use Rattle.dy_code.specs.declared.unit.UnitCode.{UnitCode}
use Rattle.dy_code.specs.declared.unit.Body.{Body}
use Rattle.dy_code.specs.Programs.{Located, if_there}
use Rattle.dy_code.specs.Fetching.{Instruction, where_so, when_named, when_variable, when_generic, when_function, direct, closure, spread, next_call, fault, decode, locals_of}
use Rattle.dy_code.specs.Fetching as instr
use Rattle.dy_lowered.specs.Bodies.{FlatBody}
use Rattle.dy_lowered.specs.Items.{constant_of, name_of, bound_of, list_of, type_of, results_of}
use Rattle.dy_lowered.specs.Readiness.{is_set}
use Rattle.dy_lowered.specs.Sameness.{is_same_literal, is_same_bound, is_same_params, is_same_type, is_same_results}
use Rattle.dy_lowered.specs.Tables.{Tables, index_in, written, flag}
use Rattle.dy_lowered.specs.Terms.{generic_named}
use Rattle.dy_lowering_law.specs.Following.{numbered}
use Rattle.dy_lowering_whole.specs.valid.Writing.{IsNamed, HasMethods, IsBody, Fits}
use Rattle.dy_lowering_whole.proofs.valid.Sameness.{no, tells_literal, tells_binding, tells_bound, tells_params, tells_type, tells_results}
use Rattle.dy_lowering_whole.proofs.valid.Tables.{IsIn, lt_true, at_index}

-- the lists of a unit
abbrev pub tables_in : UnitCode → Tables
tables_in unit = record {
  constants = unit.constants;
  names = unit.names;
  bound = unit.bound;
  lists = unit.lists;
  types = unit.types;
  results = unit.results;
}

abbrev pub StoredIn : {A : Type 0} → Option A → List A → Type 0
StoredIn None items = Unit {0}
StoredIn (Some item) items = IsIn item items

-- the items that an instruction names stand in the lists
pub record Stored (t : Tables) (i : Instruction) : Type 0 where
  pub constant : StoredIn (constant_of i) t.constants
  pub name : StoredIn (name_of i) t.names
  pub bound : StoredIn (bound_of i) t.bound
  pub params : StoredIn (list_of i) t.lists
  pub type : StoredIn (type_of i) t.types
  pub results : StoredIn (results_of i) t.results

le_true : (n m : ℕ) → n ≤ m → nat_le n m ≡ true
le_true n m h = grind (arith, h)

eq_true : (n m : ℕ) → n ≡ m → nat_eq n m ≡ true
eq_true n m h = grind (arith, h)

so : (b : Bool) (i : Instruction) → b ≡ true → where_so b i ≡ Some i
so b i e = ap (λ x. where_so x i) e

named_is : (w : What) (named : BindingId) → IsNamed w → when_named w named ≡ Some (instr.Global named)
named_is whats.Class named h = refl
named_is whats.Generic named h = refl
named_is whats.Variable named h = refl
named_is whats.Constant named h = refl
named_is whats.Function named h = refl
named_is whats.Macro named h = absurd h

set_is : (w : What) (named : BindingId) → is_set w ≡ true → when_variable w named ≡ Some (instr.SetGlobal named)
set_is whats.Class named h = no h
set_is whats.Generic named h = no h
set_is whats.Variable named h = refl
set_is whats.Constant named h = refl
set_is whats.Function named h = no h
set_is whats.Macro named h = no h

direct_is : (sorted ambiguous : List MethodId) (count : ℕ) → HasMethods sorted ambiguous → direct sorted ambiguous count ≡ Some (instr.CallDirect sorted ambiguous count)
direct_is [] [] count h = absurd h
direct_is [] (m ∷ ms) count h = refl
direct_is (m ∷ ms) ambiguous count h = refl

spread_is : (count : ℕ) (collects : Bool) → spread count (flag collects) ≡ Some (instr.Spread count collects)
spread_is count true = refl
spread_is count false = refl

-- a body of a library that a closure may be of
pub record IsKept (bodies : List Body) (body count : ℕ) : Type 0 where
  pub target : Body
  pub at : slice_get bodies body ≡ Some target
  pub same : count ≡ target.captures

module _ (at : Located) (bodies : List FlatBody) (closed : (body count : ℕ) → IsBody bodies body count → IsKept at.unit.bodies body count) where
  abbrev t : Tables
  t = tables_in at.unit

  abbrev Decoded : Instruction → Type 0
  Decoded i = Stored t i → Fits bodies at.body.locals at.body.captures i → decode at (written t i) ≡ Some (numbered at.before i)

  name_is : (named : BindingId) (go : BindingId → Option Instruction) → IsIn named at.unit.names → if_there (slice_get at.unit.names (index_in is_same_binding named at.unit.names)) go ≡ go named
  name_is named go h = ap (λ o. if_there o go) (at_index is_same_binding tells_binding named at.unit.names h)

  pub decoded_is : (i : Instruction) → Decoded i
  decoded_is (instr.Const literal) s f = ap (option_map instr.Const) (at_index is_same_literal tells_literal literal at.unit.constants s.constant)
  decoded_is (instr.Local local) s f = so (nat_lt local at.body.locals) (instr.Local local) (lt_true local at.body.locals f)
  decoded_is (instr.SetLocal local) s f = so (nat_lt local at.body.locals) (instr.SetLocal local) (lt_true local at.body.locals f)
  decoded_is (instr.NewCell local) s f = so (nat_lt local at.body.locals) (instr.NewCell local) (lt_true local at.body.locals f)
  decoded_is (instr.CellGet local) s f = so (nat_lt local at.body.locals) (instr.CellGet local) (lt_true local at.body.locals f)
  decoded_is (instr.CellSet local) s f = so (nat_lt local at.body.locals) (instr.CellSet local) (lt_true local at.body.locals f)
  decoded_is (instr.Free capture) s f = so (nat_lt capture at.body.captures) (instr.Free capture) (lt_true capture at.body.captures f)
  decoded_is (instr.FreeGet capture) s f = so (nat_lt capture at.body.captures) (instr.FreeGet capture) (lt_true capture at.body.captures f)
  decoded_is (instr.FreeSet capture) s f = so (nat_lt capture at.body.captures) (instr.FreeSet capture) (lt_true capture at.body.captures f)
  decoded_is (instr.Global named) s f = name_is named (λ n. when_named n.what n) s.name ∙ named_is named.what named f
  decoded_is (instr.SetGlobal named) s f = name_is named (λ n. when_variable n.what n) s.name ∙ set_is named.what named f
  decoded_is instr.Push s f = refl
  decoded_is (instr.Jump address) s f = refl
  decoded_is (instr.JumpFalse address) s f = refl
  decoded_is instr.Tick s f = refl
  decoded_is (instr.Closure body count) s f =
      let k = closed body count f in
      ap (λ o. if_there o (λ target. closure target (at.before + body) count)) k.at ∙ so (nat_eq count k.target.captures) (instr.Closure (at.before + body) count) (eq_true count k.target.captures k.same)
  decoded_is (instr.Search generic count) s f = name_is (generic_named generic) (λ n. when_generic n.what n count) s.name
  decoded_is (instr.CallDirect sorted ambiguous count) s f =
      ap (λ o. if_there o (λ list. direct list.0 list.1 count)) (at_index is_same_bound tells_bound (sorted, ambiguous) at.unit.bound s.bound) ∙ direct_is sorted ambiguous count f
  decoded_is (instr.CallKnown named count) s f =
      name_is named (λ n. when_function n.what n count) s.name ∙ ap (λ (w : What). when_function w named count) f
  decoded_is (instr.CallValue count) s f = refl
  decoded_is instr.Return s f = refl
  decoded_is (instr.Values count) s f = refl
  decoded_is (instr.Spread count collects) s f = spread_is count collects
  decoded_is (instr.Check type) s f = ap (option_map instr.Check) (at_index is_same_type tells_type type at.unit.types s.type)
  decoded_is (instr.CheckResults results) s f = ap (option_map instr.CheckResults) (at_index is_same_results tells_results results at.unit.results s.results)
  decoded_is (instr.Op operation count) s f = refl
  decoded_is (instr.Enter address) s f = refl
  decoded_is instr.Leave s f = refl
  decoded_is (instr.Guard address) s f = refl
  decoded_is instr.Unguard s f = refl
  decoded_is instr.EndCleanup s f = refl
  decoded_is (instr.Handle condition) s f = ap (option_map instr.Handle) (at_index is_same_type tells_type condition at.unit.types s.type)
  decoded_is (instr.Catch condition address) s f = ap (option_map (λ type. instr.Catch type address)) (at_index is_same_type tells_type condition at.unit.types s.type)
  decoded_is (instr.Unhandle count) s f = refl
  decoded_is instr.Save s f = refl
  decoded_is instr.Restore s f = refl
  decoded_is (instr.Next count) s f = refl
  decoded_is instr.NextValue s f = refl
  decoded_is instr.NoMatch s f = refl
  decoded_is (instr.Args params) s f =
      ap (λ o. if_there o (λ params. where_so (nat_le (locals_of params) at.body.locals) (instr.Args params))) (at_index is_same_params tells_params params at.unit.lists s.params)
      ∙ so (nat_le (locals_of params) at.body.locals) (instr.Args params) (le_true (locals_of params) at.body.locals f)
