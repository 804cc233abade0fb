-- Instructions, steps and runs, with rows without terms.
use Rattle.std.proofs.Common.{◌≡◌, ℕ, zero, suc, List, [], ◌∷◌, drop, Option, Some, None, refl}
use Rattle.dy_base.specs.declared.ids.BindingId.{BindingId}
use Rattle.dy_base.specs.declared.ids.What.{What}
use Rattle.dy_base.specs.declared.ids.What.TheVariants as what
use Rattle.dy_values.specs.declared.value.Variant.{Variant}
use Rattle.dy_values.specs.Spending.{first}
use Rattle.dy_code.specs.Programs.{Task, Runs, Defines, tasks}
use Rattle.dy_code.specs.Fetching.{Instruction, Global, SetGlobal, Search, CallDirect, CallKnown, CallValue, Return, Check, CheckResults, Op, EndCleanup, Next, Args, Fetched, fetch}
use Rattle.dy_steps.specs.Configurations.{Waiting, Config, Step, Goes, Stops, Stuck, Machine}
use Rattle.dy_steps.specs.Effects.{gives, give, at_place, performed, take_operands}
use Rattle.dy_steps.specs.Steps.{named, set_global, next_task, defined, done, return, act, obeyed, step, steps, nothing_done, start}
use Rattle.dy_bare_machines.proofs.Effects.{bare, performed_same, arrange_same, check_results_same, check_same, end_cleanup_same}
use Rattle.dy_bare_machines.proofs.Calling.{operate_same, call_function_same, search_same, call_direct_same, call_next_same, call_value_same}

module _ (m : Machine) where
  -- names
  variable_same : (name : BindingId) (c : Config) → performed (bare m) (m.variable name c.state) c gives ≡ performed m (m.variable name c.state) c gives
  variable_same name c = performed_same m (m.variable name c.state) c gives gives (λ values d. refl)

  named_same : (kind : What) (name : BindingId) (c : Config) → named (bare m) kind name c ≡ named m kind name c
  named_same what.Class name c = refl
  named_same what.Generic name c = refl
  named_same what.Function name c = refl
  named_same kind name c = variable_same name c

  set_global_same : (name : BindingId) (c : Config) → set_global (bare m) name c ≡ set_global m name c
  set_global_same name c =
      let go : List Variant → Config → Step = λ values. give (first c.register) in
      performed_same m (m.define name (first c.register) c.state) c go go (λ values d. refl)

  -- what is to be done
  next_task_same : (tasks : List Task) (c : Config) → next_task (bare m) tasks c ≡ next_task m tasks c
  next_task_same [] c = refl
  next_task_same (Runs body ∷ tasks) c = refl
  next_task_same (Defines names body ∷ tasks) c = refl

  defined_same : (names : List BindingId) (values : List Variant) (c : Config) (go other : Config → Step) → ((d : Config) → go d ≡ other d) → defined (bare m) names values c go ≡ defined m names values c other
  defined_same [] values c go other same = same c
  defined_same (name ∷ names) values c go other same =
      performed_same m (m.define name (first values) c.state) c (λ given d. defined (bare m) names (drop 1 values) d go) (λ given d. defined m names (drop 1 values) d other)
      (λ given d. defined_same names (drop 1 values) d go other same)

  done_same : (task : Task) (c : Config) → done (bare m) task c ≡ done m task c
  done_same (Runs body) c = next_task_same c.tasks c
  done_same (Defines names body) c = defined_same names c.register c (λ d. next_task (bare m) d.tasks d) (λ d. next_task m d.tasks d) (λ d. next_task_same d.tasks d)

  return_same : (waiting : List Waiting) (c : Config) → return (bare m) waiting c ≡ return m waiting c
  return_same [] c = done_same c.task c
  return_same (w ∷ waiting) c = refl

  -- what each instruction does
  act_same : (instruction : Instruction) (c : Config) → act (bare m) instruction c ≡ act m instruction c
  act_same (Global name) c = named_same name.what name c
  act_same (SetGlobal name) c = set_global_same name c
  act_same (Search generic n) c = λ j. take_operands n c (λ values d. search_same m generic values d j)
  act_same (CallDirect sorted ambiguous n) c = λ j. take_operands n c (λ values d. call_direct_same m sorted ambiguous values d j)
  act_same (CallKnown name n) c = λ j. take_operands n c (λ values d. call_function_same m name values d j)
  act_same (CallValue n) c = λ j. take_operands (suc n) c (λ values d. call_value_same m (first values) (drop 1 values) d j)
  act_same Return c = return_same c.waiting c
  act_same (Check type) c = check_same m type c
  act_same (CheckResults results) c = check_results_same m results c
  act_same (Op operation n) c = λ j. take_operands n c (λ values d. operate_same m operation values d j)
  act_same EndCleanup c = end_cleanup_same m c.running.cleanups c
  act_same (Next n) c = λ j. take_operands n c (λ values d. call_next_same m c.running.following values d j)
  act_same (Args params) c = arrange_same m params c
  act_same instruction c = refl

  obeyed_same : (fetched : Option Fetched) (c : Config) → obeyed (bare m) fetched c ≡ obeyed m fetched c
  obeyed_same None c = refl
  obeyed_same (Some fetched) c = act_same fetched.instruction (at_place fetched.next c)

  step_same : (c : Config) → step (bare m) c ≡ step m c
  step_same c = obeyed_same (fetch m.linked c.running.body c.running.place) c

  pub steps_same : (count : ℕ) (s : Step) → steps (bare m) count s ≡ steps m count s
  steps_same zero s = refl
  steps_same (suc count) (Goes c) = λ j. steps_same count (step_same c j) j
  steps_same (suc count) (Stops ending) = refl
  steps_same (suc count) Stuck = refl

  pub start_same : (fuel : ℕ) → start (bare m) fuel ≡ start m fuel
  start_same fuel = next_task_same (tasks m.linked) (nothing_done fuel)
