-- Where the machine comes to.
use Rattle.std.proofs.Common.{◌≡◌, ℕ, zero, suc, ◌+◌, ◌<◌, ◌≤◌, Bool, true, false, List, [], ◌∷◌, ◌++◌, length, Some, refl, sym, ap, ◌∙◌, subst, arith, length-append}
use Rattle.dy_values.specs.declared.value.Variant.{Variant}
use Rattle.dy_outcome.specs.declared.state.State.{State}
use Rattle.dy_outcome.specs.States.{Outcome, Gave, Exits, Ended, Spent, and_then}
use Rattle.dy_outcome.specs.Nearness.{units_of}
use Rattle.dy_code.specs.Fetching.{Instruction, fetch}
use Rattle.dy_code.specs.declared.unit.Linked.{Linked}
use Rattle.dy_steps.specs.Configurations.{Config, Step, Goes, Stops, Stuck, Ending, Machine}
use Rattle.dy_steps.specs.Rows.{unwound}
use Rattle.dy_steps.specs.Steps.{act, obeyed, step, steps}
use Rattle.dy_steps.proofs.More.{steps_more}
use Rattle.dy_term.specs.declared.rows.Program.{Program}
use Rattle.dy_lowered.specs.Flat.{Flat, Code, placed}
use Rattle.dy_lowering_law.specs.Following.{Spot, standing, after, Comes, numbered, Holds, AreWords, IsRight, IsRightAfter}

module _ (m : Machine) where
  -- no step
  pub comes_at : (c : Config) (to : ℕ → Step) (searches : ℕ) → Goes c ≡ to searches → Comes m c to
  comes_at c to searches e = record { count = 0; searches = searches; there = e }

  -- one step
  pub comes_by : (c : Config) (to : ℕ → Step) (searches : ℕ) → step m c ≡ to searches → Comes m c to
  comes_by c to searches e = record { count = 1; searches = searches; there = e }

  -- one way after another
  pub comes_on : (c : Config) (through : ℕ → Config) (to : ℕ → Step) → Comes m c (λ k. Goes (through k)) → ((k : ℕ) → Comes m (through k) to) → Comes m c to
  comes_on c through to first others =
      let more = others first.searches in
      record {
        count = first.count + more.count;
        searches = more.searches;
        there = steps_more m first.count more.count (Goes c) ∙ ap (steps m more.count) first.there ∙ more.there;
      }

  -- a step first
  pub comes_behind : (c d : Config) (to : ℕ → Step) → step m c ≡ Goes d → Comes m d to → Comes m c to
  comes_behind c d to e more = record { count = suc more.count; searches = more.searches; there = ap (steps m more.count) e ∙ more.there }

  pub comes_to : (c : Config) (to other : ℕ → Step) → to ≡ other → Comes m c to → Comes m c other
  comes_to c to other e comes = subst (λ (t : ℕ → Step). Comes m c t) e comes

-- code at a place, cut at a seam
module _ (linked : Linked) (before body : ℕ) where
  pub holds_front : (place : ℕ) (first others : Code) → Holds linked before body place (first ++ others) → Holds linked before body place first
  holds_front place [] others h = tt
  holds_front place (flat ∷ first) others h = (h.0, holds_front (place + 1) first others h.1)

  pub holds_back : (place : ℕ) (first others : Code) → Holds linked before body place (first ++ others) → Holds linked before body (place + length first) others
  holds_back place [] others h = let e : place ≡ place + 0 = omega arith in subst (λ n. Holds linked before body n others) e h
  holds_back place (flat ∷ first) others h =
      let e : place + 1 + length first ≡ place + length (flat ∷ first) = omega arith in
      subst (λ n. Holds linked before body n others) e (holds_back (place + 1) first others h.1)

-- an instruction that stands at the place is done
module _ (m : Machine) (number : ℕ → ℕ) where
  pub stepped : (x : Spot) (place before : ℕ) (register : List Variant) (state : State) (searches : ℕ) (flat : Flat) (code : Code)
      → Holds m.linked before x.running.body place (flat ∷ code)
      → step m (standing number x place register state searches)
      ≡ act m (numbered before (placed place flat)) (standing number x (place + 1) register state searches)
  stepped x place before register state searches flat code h =
      ap (λ f. obeyed m f (standing number x place register state searches)) h.0

  -- an exit from one spot comes to where it comes to from another
  pub record Inside (x y : Spot) : Type 0 where
    pub by : (block : ℕ) (values : List Variant) (state : State) (searches : ℕ)
        → unwound block values x.running state.frame x.waiting (standing number x 0 [] state searches) ≡ unwound block values y.running state.frame y.waiting (standing number y 0 [] state searches)

  pub inside_self : (x : Spot) → Inside x x
  inside_self x = record { by = λ block values state searches. refl }

  -- The values of an outcome go on; every other outcome is the same at each place behind.
  pub then_comes : (program : Program) (locals n : ℕ) (c : Config) (x y : Spot) (p q : ℕ) (o : Outcome) (go : List Variant → State → Outcome) → Inside x y
      → Comes m c (after number x p o) → units_of o ≤ n → IsRightAfter program locals o
      → ((values : List Variant) (state : State) (searches : ℕ) → state.fuel.left ≤ n → IsRight program locals state → Comes m (standing number x p values state searches) (after number y q (go values state)))
      → Comes m c (after number y q (and_then o go))
  then_comes program locals n c x y p q (Gave values state) go inside comes few right k =
      comes_on m c (λ searches. standing number x p values state searches) (after number y q (go values state)) comes (λ searches. k values state searches few right.0)
  then_comes program locals n c x y p q (Exits block values state) go inside comes few right k =
      record { count = comes.count; searches = comes.searches; there = comes.there ∙ inside.by block values state comes.searches }
  then_comes program locals n c x y p q (Ended line state) go inside comes few right k = record { count = comes.count; searches = comes.searches; there = comes.there }
  then_comes program locals n c x y p q (Spent state) go inside comes few right k = record { count = comes.count; searches = comes.searches; there = comes.there }

  -- the same, where the values have 64 bits
  pub then_words : (program : Program) (locals n : ℕ) (c : Config) (x y : Spot) (p q : ℕ) (o : Outcome) (go : List Variant → State → Outcome) → Inside x y
      → Comes m c (after number x p o) → units_of o ≤ n → IsRightAfter program locals o
      → ((values : List Variant) (state : State) (searches : ℕ) → state.fuel.left ≤ n → IsRight program locals state → AreWords values → Comes m (standing number x p values state searches) (after number y q (go values state)))
      → Comes m c (after number y q (and_then o go))
  then_words program locals n c x y p q (Gave values state) go inside comes few right k =
      comes_on m c (λ searches. standing number x p values state searches) (after number y q (go values state)) comes (λ searches. k values state searches few right.0 right.1)
  then_words program locals n c x y p q (Exits block values state) go inside comes few right k =
      record { count = comes.count; searches = comes.searches; there = comes.there ∙ inside.by block values state comes.searches }
  then_words program locals n c x y p q (Ended line state) go inside comes few right k = record { count = comes.count; searches = comes.searches; there = comes.there }
  then_words program locals n c x y p q (Spent state) go inside comes few right k = record { count = comes.count; searches = comes.searches; there = comes.there }

  pub ends_at : (c : Config) (x : Spot) (p q : ℕ) (o : Outcome) → p ≡ q → Comes m c (after number x p o) → Comes m c (after number x q o)
  ends_at c x p q o e comes = subst (λ (place : ℕ). Comes m c (after number x place o)) e comes
