-- Where the machine comes to, if the values do not matter.
use Rattle.std.proofs.Common.{ℕ, ◌+◌, ◌≤◌, List, [], ◌∙◌, ap}
use Rattle.dy_term.specs.declared.rows.Program.{Program}
use Rattle.dy_values.specs.declared.value.Variant.{Variant}
use Rattle.dy_outcome.specs.declared.state.State.{State}
use Rattle.dy_outcome.specs.States.{Outcome, Gave, Exits, Ended, Spent, and_then}
use Rattle.dy_outcome.specs.Nearness.{units_of}
use Rattle.dy_steps.specs.Configurations.{Config, Step, Goes}
use Rattle.dy_steps.specs.Steps.{steps}
use Rattle.dy_lowering_law.specs.Following.{Spot, standing, after, after_any, Comes, Reaches, IsRight, IsRightAfter}
use Rattle.dy_lowering_law.specs.Machines.{machine_of}
use Rattle.dy_lowering_law.specs.Renumbering.{body_of}
use Rattle.dy_steps.proofs.More.{steps_more}

module _ (program : Program) where
  -- one way after another
  pub reach_on : (c : Config) (through : ℕ → Config) (to : List Variant → ℕ → Step) → Comes (machine_of program) c (λ k. Goes (through k)) → ((k : ℕ) → Reaches (machine_of program) (through k) to) → Reaches (machine_of program) c to
  reach_on c through to first others =
      let m = machine_of program in
      let more = others first.searches in
      record {
        register = more.register;
        comes = record {
          count = first.count + more.comes.count;
          searches = more.comes.searches;
          there = steps_more m first.count more.comes.count (Goes c) ∙ ap (steps m more.comes.count) first.there ∙ more.comes.there;
        };
      }

  -- The values of an outcome go on; every other outcome is the same at each place behind.
  pub reach_then : (n locals : ℕ) (c : Config) (x : Spot) (p q : ℕ) (o : Outcome) (go : List Variant → State → Outcome)
      → Comes (machine_of program) c (after (body_of program) x p o) → units_of o ≤ n → IsRightAfter program locals o
      → ((values : List Variant) (t : State) (j : ℕ) → t.fuel.left ≤ n → IsRight program locals t → Reaches (machine_of program) (standing (body_of program) x p values t j) (after_any (body_of program) x q (go values t)))
      → Reaches (machine_of program) c (after_any (body_of program) x q (and_then o go))
  reach_then n locals c x p q (Gave values t) go comes few right next =
      reach_on c (λ j. standing (body_of program) x p values t j) (after_any (body_of program) x q (go values t)) comes (λ j. next values t j few right.0)
  reach_then n locals c x p q (Exits block values t) go comes few right next = record { register = []; comes = record { count = comes.count; searches = comes.searches; there = comes.there } }
  reach_then n locals c x p q (Ended line t) go comes few right next = record { register = []; comes = record { count = comes.count; searches = comes.searches; there = comes.there } }
  reach_then n locals c x p q (Spent t) go comes few right next = record { register = []; comes = record { count = comes.count; searches = comes.searches; there = comes.there } }
