-- `|`, and bodies without handlers.
use Rattle.std.proofs.Common.{◌≡◌, ℕ, zero, suc, ◌+◌, ◌≤◌, Bool, true, false, List, [], ◌∷◌, ◌++◌, append_assoc, length, refl, sym, ap, ◌∙◌, subst, arith, length-append}
use Rattle.std.specs.Prelude.{flat_map}
use Rattle.std.proofs.lemmas.List.{append-nil}
use Rattle.dy_term.specs.declared.rows.Program.{Program}
use Rattle.dy_values.specs.declared.value.Variant.{Variant}
use Rattle.dy_values.specs.declared.value.Variant.TheVariants.{Bool as Truth}
use Rattle.dy_values.specs.Spending.{first, is_false}
use Rattle.dy_outcome.specs.declared.state.State.{State}
use Rattle.dy_outcome.specs.States.{Outcome, Gave, Exits, Ended, Spent, Does, Scope, and_then, gave}
use Rattle.dy_outcome.specs.Nearness.{units_of}
use Rattle.dy_outcome.specs.Choices.{either, chosen}
use Rattle.dy_outcome.specs.Parts as means
use Rattle.dy_outcome.specs.Parts.{in_turn}
use Rattle.dy_code.specs.Fetching as instr
use Rattle.dy_steps.specs.Configurations.{Config, Step, Goes}
use Rattle.dy_lowered.specs.Flat.{Flat, Plain, Code, one, past, past_if_false}
use Rattle.dy_lowered.specs.Parts as parts
use Rattle.dy_lowered.specs.Parts.{Part, Runs, Binds, Handles, part_code, values_behind, handler_count, without_handlers}
use Rattle.dy_lowering_law.specs.Force.{RowsFit}
use Rattle.dy_lowering_law.specs.Following.{Spot, scope_of, standing, after, Comes, Holds, AreWords, IsRight, IsRightAfter, Follows, after_any, Prepares}
use Rattle.dy_lowering_law.specs.Kinds.{PartsDo}
use Rattle.dy_lowering_law.specs.Machines.{linked_program, machine_of}
use Rattle.dy_lowering_law.specs.Renumbering.{body_of}
use Rattle.dy_lowering_law.proofs.Leading.{comes_at, comes_on, comes_by, comes_behind, stepped, then_comes, ends_at, inside_self, holds_front, holds_back}
use Rattle.dy_steps.specs.Effects.{gives}
use Rattle.dy_lowering_law.proofs.Arguments.{taken_all}
use Rattle.dy_lowering_law.proofs.Cases.{then_falls, then_keeps, then_keeps_words, first_word, chosen_comes, chosen_falls, chosen_keeps, to_end}
use Rattle.dy_lowering_law.proofs.Exiting.{pushed}
use Rattle.dy_lowering_law.proofs.Literals.{truth_follows}

module _ (program : Program) (n before locals : ℕ) where
  -- the first value alone
  alone_comes : (x : Spot) (place : ℕ) (values : List Variant) (s : State) (k : ℕ) → Holds (linked_program program) before x.running.body place parts.first_alone
      → Comes (machine_of program) (standing (body_of program) x place values s k) (after (body_of program) x (place + 1 + 1) (gave (first values) s))
  alone_comes x place values s k holds =
      let m = machine_of program in
      let number = body_of program in
      comes_behind m (standing number x place values s k) (standing number (pushed (first values) x) (place + 1) values s k) (after number x (place + 1 + 1) (gave (first values) s))
      (stepped m number x place before values s k (Plain instr.Push) (one (instr.Values 1)) holds)
      (comes_by m _ _ k (stepped m number (pushed (first values) x) (place + 1) before values s k (Plain (instr.Values 1)) [] holds.1
      ∙ taken_all number (first values ∷ []) 1 x (place + 1 + 1) values s k gives refl))

  pub either_follows : (left right : Code) (a b : Does) → Follows program n before locals left a → Follows program n before locals right b → Follows program n before locals (parts.either left right) (either a b)
  either_follows left right a b fa fb = record {
    falls = λ scope s. then_falls s.fuel.left (a scope s) _ (fa.falls scope s) (λ values t. chosen_falls program n before locals t.fuel.left (is_false (first values)) (b scope) (gave (first values)) t (fb.falls scope t) (omega arith));
    keeps = λ scope s right. then_keeps_words program locals (a scope s) _ (fa.keeps scope s right) (λ values t right1 words. chosen_keeps program n before locals (is_false (first values)) (b scope) (gave (first values)) t (fb.keeps scope t right1) (right1, (first_word values words, tt)));
    runs = λ x place register s k holds fit right1 few.
        let m = machine_of program in
        let number = body_of program in
        let linked = linked_program program in
        let body = x.running.body in
        let scope = scope_of x in
        let p1 = place + length left in
        let p2 = p1 + 1 + 1 + 1 in
        let q = place + length (parts.either left right) in
        let rest : Code = past (length right) ∷ right in
        let mid : Code = past_if_false 3 ∷ (parts.first_alone ++ rest) in
        let h1 = holds_back linked before body place left mid holds in
        let h2 = holds_back linked before body (p1 + 1) parts.first_alone rest h1.1 in
        let l1 = length-append left (past_if_false 3 ∷ (parts.first_alone ++ (past (length right) ∷ right))) in
        let end : p2 + 1 + length right ≡ q = omega (arith, l1) in
        let over : p1 + 1 + 3 ≡ p2 + 1 = omega arith in
        let at : p1 + 1 + 2 ≡ p2 = omega arith in
        let h3 = subst (λ (p : ℕ). Holds linked before body p (past (length right) ∷ right)) at h2 in
        let less = fa.falls scope s in
        then_comes m number program locals n (standing number x place register s k) x x p1 q (a scope s) _ (inside_self m number x)
        (fa.runs x place register s k (holds_front linked before body place left mid holds) fit right1 few) (omega (arith, less, few)) (fa.keeps scope s right1)
        (λ values t j few1 right2. chosen_comes program n before locals (standing number x p1 values t j) x (p1 + 1) (p1 + 1 + 3) q (is_false (first values)) values t j (b scope) (gave (first values))
        (stepped m number x p1 before values t j (past_if_false 3) (parts.first_alone ++ rest) h1)
        (subst (λ (p : ℕ). Comes m (standing number x p values t j) (after number x q (b scope t))) (sym over) (ends_at m number _ x (p2 + 1 + length right) q (b scope t) end (fb.runs x (p2 + 1) values t j h3.1 fit right2 few1)))
        (ends_at m number _ x (p2 + 1 + length right) q (gave (first values) t) end
        (to_end program n before locals (standing number x (p1 + 1) values t j) x p2 (p2 + 1 + length right) (gave (first values) t) (λ ws u i. stepped m number x p2 before ws u i (past (length right)) right h3)
        (alone_comes x (p1 + 1) values t j (holds_front linked before body (p1 + 1) parts.first_alone rest h1.1)))));
  }

-- the values so far: those in the register, or `#f`
abbrev tail_of : Bool → Code
tail_of true = []
tail_of false = parts.truth false

abbrev given : Bool → List Variant → List Variant
given true register = register
given false register = Truth false ∷ []

module _ (program : Program) (n before locals : ℕ) where
  turn_falls : (codes : List Part) (all : List means.Part) (values : List Variant) → PartsDo program n before locals codes all → (scope : Scope) (s : State) → units_of (in_turn all values scope s) ≤ s.fuel.left
  turn_falls [] [] values follow scope s = omega arith
  turn_falls (Runs code ∷ codes) (means.Runs does ∷ all) values follow scope s = then_falls s.fuel.left (does scope s) _ (follow.0.falls scope s) (λ vs t. turn_falls codes all vs follow.1 scope t)
  turn_falls (Binds code ∷ codes) (means.Binds does ∷ all) values follow scope s = then_falls s.fuel.left (does scope s) _ (follow.0.falls scope s) (λ vs t. turn_falls codes all (Truth false ∷ []) follow.1 scope t)
  turn_falls codes all values follow scope s = absurd follow

  turn_keeps : (codes : List Part) (all : List means.Part) (values : List Variant) → AreWords values → PartsDo program n before locals codes all → (scope : Scope) (s : State) → IsRight program locals s → IsRightAfter program locals (in_turn all values scope s)
  turn_keeps [] [] values words follow scope s right = (right, words)
  turn_keeps (Runs code ∷ codes) (means.Runs does ∷ all) values words follow scope s right = then_keeps_words program locals (does scope s) _ (follow.0.keeps scope s right) (λ vs t right1 words1. turn_keeps codes all vs words1 follow.1 scope t right1)
  turn_keeps (Binds code ∷ codes) (means.Binds does ∷ all) values words follow scope s right = then_keeps program locals (does scope s) _ (follow.0.keeps scope s right) (λ vs t right1. turn_keeps codes all (Truth false ∷ []) (tt, tt) follow.1 scope t right1)
  turn_keeps codes all values words follow scope s right = absurd follow

  -- one part, and what follows it
  part_comes : (code others : Code) (does : Does) (go : List Variant → State → Outcome) → Follows program n before locals code does
      → (x : Spot) (place : ℕ) (register : List Variant) (s : State) (k : ℕ) → Holds (linked_program program) before x.running.body place (code ++ others) → RowsFit x.running → IsRight program locals s → s.fuel.left ≤ n
      → ((values : List Variant) (t : State) (j : ℕ) → t.fuel.left ≤ n → IsRight program locals t → Holds (linked_program program) before x.running.body (place + length code) others
      → Comes (machine_of program) (standing (body_of program) x (place + length code) values t j) (after (body_of program) x (place + length code + length others) (go values t)))
      → Comes (machine_of program) (standing (body_of program) x place register s k) (after (body_of program) x (place + length (code ++ others)) (and_then (does (scope_of x) s) go))
  part_comes code others does go follows x place register s k holds fit right few next =
      let m = machine_of program in
      let number = body_of program in
      let less = follows.falls (scope_of x) s in
      let end : place + length code + length others ≡ place + length (code ++ others) = omega (arith, length-append code others) in
      ends_at m number _ x (place + length code + length others) _ (and_then (does (scope_of x) s) go) end
      (then_comes m number program locals n (standing number x place register s k) x x (place + length code) (place + length code + length others) (does (scope_of x) s) go (inside_self m number x)
      (follows.runs x place register s k (holds_front (linked_program program) before x.running.body place code others holds) fit right few) (omega (arith, less, few)) (follows.keeps (scope_of x) s right)
      (λ values t j few1 right1. next values t j few1 right1 (holds_back (linked_program program) before x.running.body place code others holds)))

  -- the values do not matter
  then_any : (c : Config) (x : Spot) (p q : ℕ) (o : Outcome) (register : List Variant) (go : List Variant → State → Outcome)
      → Comes (machine_of program) c (after_any (body_of program) x p o register) → units_of o ≤ n → IsRightAfter program locals o
      → ((values : List Variant) (t : State) (j : ℕ) → t.fuel.left ≤ n → IsRight program locals t → Comes (machine_of program) (standing (body_of program) x p register t j) (after (body_of program) x q (go values t)))
      → Comes (machine_of program) c (after (body_of program) x q (and_then o go))
  then_any c x p q (Gave values t) register go comes few right k =
      comes_on (machine_of program) c (λ j. standing (body_of program) x p register t j) (after (body_of program) x q (go values t)) comes (λ j. k values t j few right.0)
  then_any c x p q (Exits block values t) register go comes few right k = record { count = comes.count; searches = comes.searches; there = comes.there }
  then_any c x p q (Ended line t) register go comes few right k = record { count = comes.count; searches = comes.searches; there = comes.there }
  then_any c x p q (Spent t) register go comes few right k = record { count = comes.count; searches = comes.searches; there = comes.there }

  binding_comes : (code others : Code) (does : Does) (go : List Variant → State → Outcome) → Prepares program n before locals code does
      → (x : Spot) (place : ℕ) (register : List Variant) (s : State) (k : ℕ) → Holds (linked_program program) before x.running.body place (code ++ others) → RowsFit x.running → IsRight program locals s → s.fuel.left ≤ n
      → ((register1 values : List Variant) (t : State) (j : ℕ) → t.fuel.left ≤ n → IsRight program locals t → Holds (linked_program program) before x.running.body (place + length code) others
      → Comes (machine_of program) (standing (body_of program) x (place + length code) register1 t j) (after (body_of program) x (place + length code + length others) (go values t)))
      → Comes (machine_of program) (standing (body_of program) x place register s k) (after (body_of program) x (place + length (code ++ others)) (and_then (does (scope_of x) s) go))
  binding_comes code others does go prepares x place register s k holds fit right few next =
      let m = machine_of program in
      let number = body_of program in
      let less = prepares.falls (scope_of x) s in
      let reach = prepares.runs x place register s k (holds_front (linked_program program) before x.running.body place code others holds) fit right few in
      let end : place + length code + length others ≡ place + length (code ++ others) = omega (arith, length-append code others) in
      ends_at m number _ x (place + length code + length others) _ (and_then (does (scope_of x) s) go) end
      (then_any (standing number x place register s k) x (place + length code) (place + length code + length others) (does (scope_of x) s) reach.register go reach.comes (omega (arith, less, few)) (prepares.keeps (scope_of x) s right)
      (λ values t j few1 right1. next reach.register values t j few1 right1 (holds_back (linked_program program) before x.running.body place code others holds)))

  turn_comes : (codes : List Part) (all : List means.Part) → PartsDo program n before locals codes all → (flag : Bool) (x : Spot) (place : ℕ) (register : List Variant) (s : State) (k : ℕ)
      → Holds (linked_program program) before x.running.body place (flat_map part_code codes ++ values_behind codes (tail_of flag)) → RowsFit x.running → IsRight program locals s → s.fuel.left ≤ n
      → Comes (machine_of program) (standing (body_of program) x place register s k)
      (after (body_of program) x (place + length (flat_map part_code codes ++ values_behind codes (tail_of flag))) (in_turn all (given flag register) (scope_of x) s))
  turn_comes [] [] follow true x place register s k holds fit right few =
      let e : place ≡ place + 0 = omega arith in
      ends_at (machine_of program) (body_of program) _ x place _ (Gave register s) e (comes_at (machine_of program) _ _ k refl)
  turn_comes [] [] follow false x place register s k holds fit right few = (truth_follows program n before locals false).runs x place register s k holds fit right few
  turn_comes (Runs code ∷ codes) (means.Runs does ∷ all) follow flag x place register s k holds fit right few =
      let rest = flat_map part_code codes in
      let last = values_behind codes [] in
      let same = append_assoc code rest last in
      subst (λ (c : Code). Comes (machine_of program) (standing (body_of program) x place register s k) (after (body_of program) x (place + length c) (in_turn (means.Runs does ∷ all) (given flag register) (scope_of x) s))) (sym same)
      (part_comes code (rest ++ last) does (λ vs t. in_turn all vs (scope_of x) t) follow.0 x place register s k (subst (λ (c : Code). Holds (linked_program program) before x.running.body place c) same holds) fit right few
      (λ values t j few1 right1 h. turn_comes codes all follow.1 true x (place + length code) values t j h fit right1 few1))
  turn_comes (Binds code ∷ codes) (means.Binds does ∷ all) follow flag x place register s k holds fit right few =
      let rest = flat_map part_code codes in
      let last = values_behind codes (parts.truth false) in
      let same = append_assoc code rest last in
      subst (λ (c : Code). Comes (machine_of program) (standing (body_of program) x place register s k) (after (body_of program) x (place + length c) (in_turn (means.Binds does ∷ all) (given flag register) (scope_of x) s))) (sym same)
      (binding_comes code (rest ++ last) does (λ vs t. in_turn all (Truth false ∷ []) (scope_of x) t) follow.0 x place register s k (subst (λ (c : Code). Holds (linked_program program) before x.running.body place c) same holds) fit right few
      (λ register1 values t j few1 right1 h. turn_comes codes all follow.1 false x (place + length code) register1 t j h fit right1 few1))
  turn_comes codes all follow flag x place register s k holds fit right few = absurd follow

  no_handlers : (codes : List Part) (all : List means.Part) → PartsDo program n before locals codes all → handler_count codes ≡ 0
  no_handlers [] [] follow = refl
  no_handlers (Runs code ∷ codes) (means.Runs does ∷ all) follow = no_handlers codes all follow.1
  no_handlers (Binds code ∷ codes) (means.Binds does ∷ all) follow = no_handlers codes all follow.1
  no_handlers codes all follow = absurd follow

  pub body_follows : (codes : List Part) (all : List means.Part) → PartsDo program n before locals codes all → Follows program n before locals (parts.body codes) (means.body all)
  body_follows codes all follow =
      let joined = flat_map part_code codes in
      let last = values_behind codes (parts.truth false) in
      let same : joined ++ last ≡ parts.body codes = ap (λ (c : Code). joined ++ c) (sym (append-nil last)) ∙ ap (λ (j : ℕ). joined ++ (last ++ without_handlers j)) (sym (no_handlers codes all follow)) in
      subst (λ (c : Code). Follows program n before locals c (means.body all)) same (record {
        falls = λ scope s. turn_falls codes all (Truth false ∷ []) follow scope s;
        keeps = λ scope s right. turn_keeps codes all (Truth false ∷ []) (tt, tt) follow scope s right;
        runs = λ x place register s k holds fit right few. turn_comes codes all follow false x place register s k holds fit right few;
      })
