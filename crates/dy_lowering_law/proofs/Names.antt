-- Names of libraries.
use Rattle.std.specs.Prelude.{codes}
use Rattle.std.proofs.Common.{◌≡◌, ℕ, zero, suc, ◌+◌, ◌≤◌, Bool, true, false, List, [], ◌∷◌, ◌++◌, refl, sym, ap, ◌∙◌, arith}
use Rattle.std.specs.declared.option.Option.{Option}
use Rattle.std.specs.declared.option.Option.TheVariants.{None, Some}
use Rattle.dy_base.specs.declared.ids.Ref.{Ref}
use Rattle.dy_base.specs.declared.ids.BindingId.{BindingId}
use Rattle.dy_base.specs.declared.ids.ClassId.{ClassId}
use Rattle.dy_base.specs.declared.ids.GenericId.{GenericId}
use Rattle.dy_base.specs.declared.ids.What.TheVariants as what
use Rattle.dy_term.specs.declared.rows.Program.{Program}
use Rattle.dy_values.specs.declared.value.Variant.{Variant}
use Rattle.dy_values.specs.declared.value.Variant.TheVariants.{Class, Generic, Function}
use Rattle.dy_values.specs.declared.error.ErrorRow.TheVariants.{Simple}
use Rattle.dy_values.specs.declared.store.Store.{Store}
use Rattle.dy_values.specs.Errors.{read_too_early}
use Rattle.dy_values.specs.Spending.{first}
use Rattle.dy_printing.specs.Unhandled.{unhandled_line}
use Rattle.dy_outcome.specs.declared.state.State.{State}
use Rattle.dy_outcome.specs.States.{Outcome, Does, Scope, gave}
use Rattle.dy_outcome.specs.Nearness.{units_of}
use Rattle.dy_outcome.specs.Calls.{calls_within, signalled}
use Rattle.dy_code.specs.Fetching as instr
use Rattle.dy_code.specs.Validity.{Every}
use Rattle.dy_meaning.specs.Globals.{name_of, variable_at, is_same_variable, value_if, value_of, entries_if, set_in, given_or, with_global, read_global, assigning_global}
use Rattle.dy_meaning.specs.Programs.{world}
use Rattle.dy_steps.specs.Configurations.{Config, Step, Goes}
use Rattle.dy_steps.specs.Effects.{gives, performed}
use Rattle.dy_steps.specs.Steps.{act}
use Rattle.dy_lowered.specs.Flat.{Plain, Code, one}
use Rattle.dy_lowered.specs.Terms.{class_named, generic_named}
use Rattle.dy_lowering_law.specs.Following.{Spot, scope_of, standing, after, IsWord, IsWordOrNone, IsWordGlobal, IsRight, IsRightAfter, Follows}
use Rattle.dy_lowering_law.specs.Kinds.{NamesFollow}
use Rattle.dy_lowering_law.specs.Machines.{machine_of, failing_from, value_or}
use Rattle.dy_lowering_law.specs.Renumbering.{body_of, renumbered, renumbered_store}
use Rattle.dy_lowering_law.proofs.Leading.{comes_by, stepped}
use Rattle.dy_lowering_law.proofs.Cases.{first_word, value_follows, then_follows}

-- the text of the error of a variable that is read too early
abbrev early : Program → BindingId → List ℕ
early program named = codes "variable " ++ name_of (variable_at program named.at) ++ codes " read before its definition"

-- the variables have values of 64 bits
word_if : (b : Bool) (one other : Option Variant) → IsWordOrNone one → IsWordOrNone other → IsWordOrNone (value_if b one other)
word_if true one other h g = h
word_if false one other h g = g

word_of : (named : BindingId) (entries : List (BindingId × Option Variant)) → Every IsWordGlobal entries → IsWordOrNone (value_of entries named)
word_of named [] words = tt
word_of named (entry ∷ entries) words = word_if (is_same_variable entry.0 named) entry.1 (value_of entries named) words.0 (word_of named entries words.1)

words_if : (b : Bool) (one other : List (BindingId × Option Variant)) → Every IsWordGlobal one → Every IsWordGlobal other → Every IsWordGlobal (entries_if b one other)
words_if true one other h g = h
words_if false one other h g = g

pub words_set : (named : BindingId) (value : Variant) → IsWord value → (entries : List (BindingId × Option Variant)) → Every IsWordGlobal entries → Every IsWordGlobal (set_in entries named value)
words_set named value word [] words = (word, tt)
words_set named value word (entry ∷ entries) words =
    words_if (is_same_variable entry.0 named) ((entry.0, Some value) ∷ entries) (entry ∷ set_in entries named value) (word, words.1) (words.0, words_set named value word entries words.1)

module _ (program : Program) (n before locals : ℕ) where
  abbrev failed : (text : List ℕ) (units : ℕ) → Scope → State → Outcome
  failed text units scope s = signalled (world program) (Simple text) scope (record s { fuel = record { left = units } })

  -- an error of a text alone, where it was found by the machine
  failed_after : (text : List ℕ) (x : Spot) (place : ℕ) (register : List Variant) (s : State) (k units : ℕ)
      → performed (machine_of program) (failing_from units (Simple text) (record (renumbered (body_of program) s) { fuel = record { left = units } })) (standing (body_of program) x place register (record s { fuel = record { left = units } }) k) gives
      ≡ after (body_of program) x place (failed text units (scope_of x) s) k
  failed_after text x place register s k zero = refl
  failed_after text x place register s k (suc units) = refl

  failed_low : (text : List ℕ) (units : ℕ) (scope : Scope) (s : State) → units_of (failed text units scope s) ≤ units
  failed_low text zero scope s = omega arith
  failed_low text (suc units) scope s = omega arith

  failed_right : (text : List ℕ) (units : ℕ) (scope : Scope) (s : State) → IsRightAfter program locals (failed text units scope s)
  failed_right text zero scope s = tt
  failed_right text (suc units) scope s = tt

  -- what is known of a variable
  module _ (text : List ℕ) where
    abbrev known : Option Variant → Scope → State → Outcome
    known value scope s = given_or value (signalled (world program) (Simple text)) scope s

    known_after : (value : Option Variant) (x : Spot) (place : ℕ) (register : List Variant) (s : State) (k : ℕ)
        → performed (machine_of program) (value_or value (Simple text) (renumbered (body_of program) s)) (standing (body_of program) x place register s k) gives
        ≡ after (body_of program) x place (known value (scope_of x) s) k
    known_after (Some value) x place register s k = refl
    known_after None x place register s k = failed_after text x place register s k s.fuel.left

    known_low : (value : Option Variant) (scope : Scope) (s : State) → units_of (known value scope s) ≤ s.fuel.left
    known_low (Some value) scope s = omega arith
    known_low None scope s = failed_low text s.fuel.left scope s

    known_right : (value : Option Variant) → IsWordOrNone value → (scope : Scope) (s : State) → IsRight program locals s → IsRightAfter program locals (known value scope s)
    known_right (Some value) word scope s right = (right, (word, tt))
    known_right None word scope s right = failed_right text s.fuel.left scope s

  variable_follows : (at : Ref) (bound : ℕ) → Follows program n before locals (one (instr.Global (record { what = what.Variable; at = at }))) (read_global program (calls_within (world program) bound) (record { what = what.Variable; at = at }))
  variable_follows at bound =
      let named : BindingId = record { what = what.Variable; at = at } in
      let text = early program named in
      record {
        falls = λ scope s. known_low text (value_of s.store.globals named) scope s;
        keeps = λ scope s right. known_right text (value_of s.store.globals named) (word_of named s.store.globals right.words.globals) scope s right;
        runs = λ x place register s k holds fit right few.
            comes_by (machine_of program) _ _ k (stepped (machine_of program) (body_of program) x place before register s k (Plain (instr.Global named)) [] holds
            ∙ known_after text (value_of s.store.globals named) x (place + 1) register s k);
      }

  constant_follows : (at : Ref) (bound : ℕ) → Follows program n before locals (one (instr.Global (record { what = what.Constant; at = at }))) (read_global program (calls_within (world program) bound) (record { what = what.Constant; at = at }))
  constant_follows at bound =
      let named : BindingId = record { what = what.Constant; at = at } in
      let text = early program named in
      record {
        falls = λ scope s. known_low text (value_of s.store.globals named) scope s;
        keeps = λ scope s right. known_right text (value_of s.store.globals named) (word_of named s.store.globals right.words.globals) scope s right;
        runs = λ x place register s k holds fit right few.
            comes_by (machine_of program) _ _ k (stepped (machine_of program) (body_of program) x place before register s k (Plain (instr.Global named)) [] holds
            ∙ known_after text (value_of s.store.globals named) x (place + 1) register s k);
      }

  set_follows : (named : BindingId) (code : Code) (does : Does) → Follows program n before locals code does → Follows program n before locals (code ++ one (instr.SetGlobal named)) (assigning_global named does)
  set_follows named code does follows =
      then_follows program n before locals code does (Plain (instr.SetGlobal named)) (λ values s. gave (first values) (with_global named (first values) s)) follows
      (λ values s. omega arith) (λ values s right words. (
        record {
          objects = right.objects;
          frame = right.frame;
          words = record { locals = right.words.locals; captured = right.words.captured; globals = words_set named (first values) (first_word values words) s.store.globals right.words.globals };
        },
        (first_word values words, tt),
      )) (λ x place values s j. refl)

  pub names_follow : NamesFollow program n before locals
  names_follow = record {
    classes = λ class. value_follows program n before locals (instr.Global (class_named class)) (λ s. Class class) (λ s right. tt) (λ x place register s k. refl);
    generics = λ generic. value_follows program n before locals (instr.Global (generic_named generic)) (λ s. Generic generic) (λ s right. tt) (λ x place register s k. refl);
    functions = λ at bound. value_follows program n before locals (instr.Global (record { what = what.Function; at = at })) (λ s. Function (record { what = what.Function; at = at })) (λ s right. tt) (λ x place register s k. refl);
    variables = variable_follows;
    constants = constant_follows;
    assignments = set_follows;
  }
