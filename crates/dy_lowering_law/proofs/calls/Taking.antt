-- The instructions of calls, and their code.
use Rattle.std.proofs.Common.{◌≡◌, ℕ, suc, List, ◌∷◌, drop, length, Some, None, ap, ◌∙◌, subst, arith, append_assoc}
use Rattle.dy_base.specs.declared.ids.BindingId.{BindingId}
use Rattle.dy_base.specs.declared.ids.GenericId.{GenericId}
use Rattle.dy_term.specs.declared.rows.Program.{Program}
use Rattle.dy_values.specs.declared.value.Variant.{Variant}
use Rattle.dy_values.specs.declared.value.Variant.TheVariants.{Function}
use Rattle.dy_values.specs.Spending.{first}
use Rattle.dy_outcome.specs.declared.state.State.{State}
use Rattle.dy_outcome.specs.States.{Gave, Scope, Does, and_then, gave}
use Rattle.dy_outcome.specs.Parts.{arguments}
use Rattle.dy_outcome.specs.Calls.{Calls, calls_within}
use Rattle.dy_outcome.specs.Orderly.{CallsAlike}
use Rattle.dy_outcome.proofs.Entering.{calls_alike}
use Rattle.dy_code.specs.Fetching as instr
use Rattle.dy_meaning.specs.Meaning.{calling, with_arguments}
use Rattle.dy_meaning.specs.Programs.{world}
use Rattle.dy_meaning.proofs.Orderly.{orderly}
use Rattle.dy_steps.specs.Calling.{call_function, search}
use Rattle.dy_steps.specs.Steps.{steps, call_under}
use Rattle.dy_lowered.specs.Flat.{Code, Plain, one}
use Rattle.dy_lowered.specs.Parts as parts
use Rattle.dy_lowering_law.specs.Following.{Follows}
use Rattle.dy_lowering_law.specs.Kinds.{AllDo, Takes}
use Rattle.dy_lowering_law.specs.Machines.{machine_of}
use Rattle.dy_lowering_law.specs.Renumbering.{body_of}
use Rattle.dy_lowering_law.proofs.Arguments.{then_assoc, taken_all, arguments_follow}
use Rattle.dy_lowering_law.proofs.Cases.{less_words}
use Rattle.dy_lowering_law.specs.calls.Calls.{CallsStand}
use Rattle.dy_lowering_law.proofs.calls.Callees.{value_answers, generic_answers}

module _ (program : Program) (n before locals : ℕ) where
  abbrev calls : Calls
  calls = calls_within (world program) n

  -- calls add nothing to the units
  low : CallsAlike n calls calls
  low = calls_alike (world program) (orderly program) n n n (omega arith) (omega arith)

  pub known_taken : (count : ℕ) (named : BindingId) → CallsStand program n → Takes program n before locals count (instr.CallKnown named count) (calls.value (Function named))
  known_taken count named stand = record {
    falls = λ values scope s. (low.value (Function named) values scope s).falls;
    keeps = λ values words scope s right. (value_answers program n stand locals s right values words (Function named)).keeps scope;
    runs = λ values x place register s k long words fit right few.
        let goes = (value_answers program n stand locals s right values words (Function named)).runs x place register k fit few in
        record {
          count = goes.count;
          searches = goes.searches;
          there = ap (steps (machine_of program) goes.count) (taken_all (body_of program) values count x place register s k (call_function (machine_of program) named) long) ∙ goes.there;
        };
  }

  pub value_taken : (count : ℕ) → CallsStand program n → Takes program n before locals (suc count) (instr.CallValue count) (λ values. calls.value (first values) (drop 1 values))
  value_taken count stand = record {
    falls = λ values scope s. (low.value (first values) (drop 1 values) scope s).falls;
    keeps = λ values words scope s right. (value_answers program n stand locals s right (drop 1 values) (less_words values words) (first values)).keeps scope;
    runs = λ values x place register s k long words fit right few.
        let goes = (value_answers program n stand locals s right (drop 1 values) (less_words values words) (first values)).runs x place register k fit few in
        record {
          count = goes.count;
          searches = goes.searches;
          there = ap (steps (machine_of program) goes.count) (taken_all (body_of program) values (suc count) x place register s k (call_under (machine_of program)) long) ∙ goes.there;
        };
  }

  pub search_taken : (count : ℕ) (generic : GenericId) → CallsStand program n → Takes program n before locals count (instr.Search generic count) (calls.generic generic)
  search_taken count generic stand = record {
    falls = λ values scope s. (low.generic generic values scope s).falls;
    keeps = λ values words scope s right. (generic_answers program n stand locals s right values words generic).keeps scope;
    runs = λ values x place register s k long words fit right few.
        let goes = (generic_answers program n stand locals s right values words generic).runs x place register k fit few in
        record {
          count = goes.count;
          searches = goes.searches;
          there = ap (steps (machine_of program) goes.count) (taken_all (body_of program) values count x place register s k (search (machine_of program) generic) long) ∙ goes.there;
        };
  }

  pub known_follows : (named : BindingId) (function : Code) (codes : List Code) (all : List Does) → CallsStand program n → AllDo program n before locals codes all
      → Follows program n before locals (parts.calling (Some named) function codes) (calling calls (λ scope s. gave (Function named) s) all)
  known_follows named function codes all stand follow =
      arguments_follow program n before locals codes all (instr.CallKnown named (length codes)) (calls.value (Function named)) follow (known_taken (length codes) named stand)

  pub search_follows : (generic : GenericId) (codes : List Code) (all : List Does) → CallsStand program n → AllDo program n before locals codes all
      → Follows program n before locals (parts.with_arguments codes (instr.Search generic (length codes))) (with_arguments all (calls.generic generic))
  search_follows generic codes all stand follow =
      arguments_follow program n before locals codes all (instr.Search generic (length codes)) (calls.generic generic) follow (search_taken (length codes) generic stand)

  -- the function lies under its arguments as the first of them
  abbrev under : List Variant → Does
  under values = calls.value (first values) (drop 1 values)

  first_of_all : (does : Does) (all : List Does) (scope : Scope) (s : State) → with_arguments (does ∷ all) under scope s ≡ calling calls does all scope s
  first_of_all does all scope s =
      then_assoc (does scope s) (λ vs t. and_then (arguments all scope t) (λ ws u. Gave (first vs ∷ ws) u)) (λ vs t. under vs scope t)
      ∙ (λ i. and_then (does scope s) (λ vs t. then_assoc (arguments all scope t) (λ ws u. Gave (first vs ∷ ws) u) (λ ws u. under ws scope u) i))

  pub value_follows : (function : Code) (does : Does) (codes : List Code) (all : List Does) → CallsStand program n → Follows program n before locals function does → AllDo program n before locals codes all
      → Follows program n before locals (parts.calling None function codes) (calling calls does all)
  value_follows function does codes all stand follows follow =
      let call = instr.CallValue (length codes) in
      subst (λ (c : Code). Follows program n before locals c (calling calls does all)) (append_assoc function (Plain instr.Push ∷ parts.arguments codes) (one call))
      (subst (λ (d : Does). Follows program n before locals (parts.with_arguments (function ∷ codes) call) d) (λ i scope s. first_of_all does all scope s i)
      (arguments_follow program n before locals (function ∷ codes) (does ∷ all) call under (follows, follow) (value_taken (length codes) stand)))
