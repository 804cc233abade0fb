-- Code that gives a value and leaves all else as it was.
use Rattle.std.proofs.Common.{◌≡◌, ℕ, zero, suc, ◌+◌, ◌≤◌, Bool, true, false, not, ℤ, ◌+ℤ◌, ◌*ℤ◌, pos, negsuc, List, [], ◌∷◌, ◌++◌, reverse, append_assoc, length, refl, sym, ap, ◌∙◌, subst, arith, length-append}
use Rattle.std.specs.Prelude.{nat_le, int_lt, if◌then◌else◌}
use Rattle.std.proofs.lemmas.List.{reverse-append, reverse-reverse, length-reverse, take_at, drop_at}
use Rattle.dy_term.specs.declared.rows.Program.{Program}
use Rattle.dy_values.specs.declared.value.Variant.{Variant}
use Rattle.dy_values.specs.declared.value.Variant.TheVariants.{Int, Bool as Truth}
use Rattle.dy_values.specs.Errors.{integer_overflow}
use Rattle.dy_values.specs.Spending.{first, is_false}
use Rattle.dy_outcome.specs.declared.state.State.{State}
use Rattle.dy_outcome.specs.Calls.{returned}
use Rattle.dy_outcome.specs.Turns.{fits}
use Rattle.dy_prims.specs.Operations as prims
use Rattle.dy_code.specs.Fetching as instr
use Rattle.dy_steps.specs.Calling.{operate}
use Rattle.dy_steps.specs.Configurations.{Config, Step, Goes}
use Rattle.dy_steps.specs.Effects.{gives, performed, taken_if, take_operands}
use Rattle.dy_steps.specs.Steps.{act, step, jump_false}
use Rattle.dy_lowered.specs.Flat.{Plain, Code, one, past, past_if_false}
use Rattle.dy_lowered.specs.Parts.{choice}
use Rattle.dy_lowered.specs.Turns.{number, addition, multiplication, comparison, opposite, operand, on_both, less, negated}
use Rattle.dy_lowering_law.specs.Force.{RowsFit}
use Rattle.dy_lowering_law.specs.Following.{Spot, standing, Comes, Holds, IsRight}
use Rattle.dy_lowering_law.specs.Machines as machines
use Rattle.dy_lowering_law.specs.Machines.{linked_program, machine_of}
use Rattle.dy_lowering_law.specs.Renumbering.{body_of, renumbered}
use Rattle.dy_lowering_law.proofs.Arguments.{taken_all}
use Rattle.dy_lowering_law.proofs.Leading.{comes_on, comes_behind, stepped, holds_front, holds_back}
use Rattle.dy_lowering_law.proofs.parts.Binding.{with_all}
use Rattle.dy_lowering_law.proofs.parts.Selecting.{under}
use Rattle.dy_lowering_law.proofs.fors.Doing.{number_comes, less_goes, add_goes}
use Rattle.dy_lowering_law.proofs.fors.Leaving.{under_fits}

le_true : (n m : ℕ) → n ≤ m → nat_le n m ≡ true
le_true n m h = grind (arith, h)

-- the topmost operands are taken
pub taken_under : (number : ℕ → ℕ) (top : List Variant) (count : ℕ) (x : Spot) (place : ℕ) (register : List Variant) (s : State) (k : ℕ) (go : List Variant → Config → Step) → length top ≡ count
    → take_operands count (standing number (under top x) place register s k) go ≡ go (reverse top) (standing number x place register s k)
taken_under number top count x place register s k go same =
    let operands = x.running.operands in
    let enough : count ≤ length (top ++ operands) = omega (arith, length-append top operands, same) in
    ap (λ b. taken_if b count (top ++ operands) (standing number (under top x) place register s k) go) (le_true count (length (top ++ operands)) enough)
    ∙ (λ i. go (reverse (take_at top operands count same i)) (standing number (with_all (drop_at top operands count same i) x) place register s k))

pub returned_all : (values : List Variant) (count : ℕ) → length values ≡ count → returned count false values ≡ values
returned_all [] zero e = refl
returned_all [] (suc count) e = absurd (omega (arith, e))
returned_all (value ∷ values) zero e = absurd (omega (arith, e))
returned_all (value ∷ values) (suc count) e = ap (λ (vs : List Variant). value ∷ vs) (returned_all values count (omega (arith, e)))

pub under_append : (above below : List Variant) (x : Spot) → under (above ++ below) x ≡ under above (under below x)
under_append above below x = ap (λ (operands : List Variant). with_all operands x) (append_assoc above below x.running.operands)

first_reversed : (above : List Variant) (value : Variant) → first (reverse (above ++ value ∷ [])) ≡ value
first_reversed above value = ap first (reverse-append above (value ∷ []))

module _ (program : Program) (n before locals : ℕ) where
  abbrev Stands : Spot → ℕ → Code → Type 0
  Stands x p code = Holds (linked_program program) before x.running.body p code

  abbrev Goes_to : Spot → ℕ → List Variant → State → ℕ → (ℕ → Step) → Type 0
  Goes_to x p register s k to = Comes (machine_of program) (standing (body_of program) x p register s k) to

  -- Where these operands lie, the code gives a value first; all else is as it was then.
  abbrev pub Computes : List Variant → Code → Variant → Type 0
  Computes lying code value = (x : Spot) (p : ℕ) (register : List Variant) (s : State) (k : ℕ) (to : ℕ → Step) → RowsFit x.running → IsRight program locals s → s.fuel.left ≤ n → Stands x p code
      → ((values : List Variant) (j : ℕ) → first values ≡ value → Goes_to (under lying x) (p + length code) values s j to)
      → Goes_to (under lying x) p register s k to

  pub goes_at : (x : Spot) (p q : ℕ) (register : List Variant) (s : State) (k : ℕ) (to : ℕ → Step) → p ≡ q → Goes_to x q register s k to → Goes_to x p register s k to
  goes_at x p q register s k to e goes = subst (λ (place : ℕ). Goes_to x place register s k to) (sym e) goes

  -- the first value becomes an operand
  pub push_goes : (x : Spot) (value : Variant) (p : ℕ) (others : Code) (values : List Variant) (s : State) (k : ℕ) (to : ℕ → Step) → first values ≡ value → Stands x p (Plain instr.Push ∷ others)
      → Goes_to (under (value ∷ []) x) (p + 1) values s k to → Goes_to x p values s k to
  push_goes x value p others values s k to e holds next =
      comes_behind (machine_of program) (standing (body_of program) x p values s k) (standing (body_of program) (under (value ∷ []) x) (p + 1) values s k) to
      (stepped (machine_of program) (body_of program) x p before values s k (Plain instr.Push) others holds ∙ ap (λ (v : Variant). Goes (standing (body_of program) (under (v ∷ []) x) (p + 1) values s k)) e)
      next

  pub number_computes : (lying : List Variant) (z : ℤ) → Computes lying (number z) (Int z)
  number_computes lying z x p register s k to fit right few holds next =
      comes_on (machine_of program) (standing (body_of program) (under lying x) p register s k) (λ j. standing (body_of program) (under lying x) (p + 1) (Int z ∷ []) s j) to
      (number_comes program n before locals z (under lying x) p register s k holds) (λ j. next (Int z ∷ []) j refl)

  pub same_computes : (lying : List Variant) (code : Code) (value other : Variant) → value ≡ other → Computes lying code value → Computes lying code other
  same_computes lying code value other e computes = subst (λ (v : Variant). Computes lying code v) e computes

  -- an operand
  operand_here : (above : List Variant) (value : Variant) (place : ℕ) → length above + 1 ≡ place → Computes (above ++ value ∷ []) (operand place) value
  operand_here above value place e x p register s k to fit right few holds next =
      let m = machine_of program in
      let num = body_of program in
      let top = above ++ value ∷ [] in
      let back = reverse top in
      let long : length top ≡ place = omega (arith, length-append above (value ∷ []), e) in
      let same : reverse (returned place false back) ≡ top = ap reverse (returned_all back place (length-reverse top ∙ long)) ∙ reverse-reverse top in
      let end : p + 1 + 1 ≡ p + 2 = omega arith in
      comes_behind m (standing num (under top x) p register s k) (standing num x (p + 1) back s k) to
      (stepped m num (under top x) p before register s k (Plain (instr.Values place)) (one (instr.Spread place false)) holds ∙ taken_under num top place x (p + 1) register s k gives long)
      (comes_behind m (standing num x (p + 1) back s k) (standing num (under top x) (p + 1 + 1) back s k) to
      (stepped m num x (p + 1) before back s k (Plain (instr.Spread place false)) [] holds.1 ∙ ap (λ (vs : List Variant). Goes (standing num (under vs x) (p + 1 + 1) back s k)) same)
      (goes_at (under top x) (p + 1 + 1) (p + 2) back s k to end (next back k (first_reversed above value))))

  pub operand_computes : (lying above below : List Variant) (value : Variant) (place : ℕ) → lying ≡ (above ++ value ∷ []) ++ below → length above + 1 ≡ place → Computes lying (operand place) value
  operand_computes lying above below value place e long =
      subst (λ (all : List Variant). Computes all (operand place) value) (sym e) (λ x p register s k to fit right few holds next.
      let same = under_append (above ++ value ∷ []) below x in
      subst (λ (y : Spot). Goes_to y p register s k to) (sym same)
      (operand_here above value place long (under below x) p register s k to (under_fits below x fit) right few holds (λ values j f. subst (λ (y : Spot). Goes_to y (p + 2) values s j to) same (next values j f))))

  -- an operation on two values
  pub both_computes : (lying : List Variant) (operation : ℕ) (left right : Code) (a b result : Variant) → Computes lying left a → Computes (a ∷ lying) right b
      → ((y : Spot) (p : ℕ) (register : List Variant) (s : State) (k : ℕ) → act (machine_of program) (instr.Op operation 2) (standing (body_of program) (under (b ∷ a ∷ []) y) p register s k) ≡ Goes (standing (body_of program) y p (result ∷ []) s k))
      → Computes lying (on_both operation left right) result
  both_computes lying operation left right a b result one_side other_side acts x p register s k to fit good few holds next =
      let m = machine_of program in
      let num = body_of program in
      let linked = linked_program program in
      let body = x.running.body in
      let last : Code = Plain instr.Push ∷ one (instr.Op operation 2) in
      let rest : Code = Plain instr.Push ∷ (right ++ last) in
      let p1 = p + length left in
      let p2 = p1 + 1 + length right in
      let h1 = holds_back linked before body p left rest holds in
      let h2 = holds_back linked before body (p1 + 1) right last h1.1 in
      let end : p2 + 1 + 1 ≡ p + length (on_both operation left right) = omega (arith, length-append left rest, length-append right last) in
      one_side x p register s k to fit good few (holds_front linked before body p left rest holds) (λ vs j e.
      push_goes (under lying x) a p1 (right ++ last) vs s j to e h1
      (other_side x (p1 + 1) vs s j to fit good few (holds_front linked before body (p1 + 1) right last h1.1) (λ ws i f.
      push_goes (under (a ∷ lying) x) b p2 (one (instr.Op operation 2)) ws s i to f h2
      (comes_behind m (standing num (under (b ∷ a ∷ lying) x) (p2 + 1) ws s i) (standing num (under lying x) (p2 + 1 + 1) (result ∷ []) s i) to
      (stepped m num (under (b ∷ a ∷ lying) x) (p2 + 1) before ws s i (Plain (instr.Op operation 2)) [] h2.1 ∙ acts (under lying x) (p2 + 1 + 1) ws s i)
      (goes_at (under lying x) (p2 + 1 + 1) (p + length (on_both operation left right)) (result ∷ []) s i to end (next (result ∷ []) i refl))))))

  pub less_computes : (lying : List Variant) (left right : Code) (a b : ℤ) → Computes lying left (Int a) → Computes (Int a ∷ lying) right (Int b) → Computes lying (less left right) (Truth (int_lt a b))
  less_computes lying left right a b one_side other_side =
      both_computes lying comparison left right (Int a) (Int b) (Truth (int_lt a b)) one_side other_side (λ y p register s k. less_goes program n before locals a b y p register s k)

  pub sum_computes : (lying : List Variant) (left right : Code) (a b : ℤ) → fits (a +ℤ b) ≡ true → Computes lying left (Int a) → Computes (Int a ∷ lying) right (Int b) → Computes lying (on_both addition left right) (Int (a +ℤ b))
  sum_computes lying left right a b word one_side other_side =
      both_computes lying addition left right (Int a) (Int b) (Int (a +ℤ b)) one_side other_side (λ y p register s k. add_goes program n before locals a b y p register s k word)

  same_fits : (z : ℤ) → prims.fits z ≡ fits z
  same_fits (pos m) = refl
  same_fits (negsuc m) = refl

  times_goes : (a b : ℤ) (x : Spot) (p : ℕ) (register : List Variant) (s : State) (k : ℕ) → fits (a *ℤ b) ≡ true
      → act (machine_of program) (instr.Op multiplication 2) (standing (body_of program) (under (Int b ∷ Int a ∷ []) x) p register s k) ≡ Goes (standing (body_of program) x p (Int (a *ℤ b) ∷ []) s k)
  times_goes a b x p register s k e =
      taken_all (body_of program) (Int a ∷ Int b ∷ []) 2 x p register s k (operate (machine_of program) multiplication) refl
      ∙ ap (λ (c : Bool). performed (machine_of program) (machines.answered (prims.paid (prims.single (if c then prims.Gives (Int (a *ℤ b)) else prims.Signals integer_overflow)) s.fuel.left) (renumbered (body_of program) s)) (standing (body_of program) x p register s k) gives) (same_fits (a *ℤ b) ∙ e)

  pub product_computes : (lying : List Variant) (left right : Code) (a b : ℤ) → fits (a *ℤ b) ≡ true → Computes lying left (Int a) → Computes (Int a ∷ lying) right (Int b) → Computes lying (on_both multiplication left right) (Int (a *ℤ b))
  product_computes lying left right a b word one_side other_side =
      both_computes lying multiplication left right (Int a) (Int b) (Int (a *ℤ b)) one_side other_side (λ y p register s k. times_goes a b y p register s k word)

  -- the opposite of a truth
  pub not_computes : (lying : List Variant) (code : Code) (c : Bool) → Computes lying code (Truth c) → Computes lying (negated code) (Truth (not c))
  not_computes lying code c side x p register s k to fit good few holds next =
      let m = machine_of program in
      let num = body_of program in
      let linked = linked_program program in
      let body = x.running.body in
      let last : Code = Plain instr.Push ∷ one (instr.Op opposite 1) in
      let p1 = p + length code in
      let h = holds_back linked before body p code last holds in
      let end : p1 + 1 + 1 ≡ p + length (negated code) = omega (arith, length-append code last) in
      side x p register s k to fit good few (holds_front linked before body p code last holds) (λ vs j e.
      push_goes (under lying x) (Truth c) p1 (one (instr.Op opposite 1)) vs s j to e h
      (comes_behind m (standing num (under (Truth c ∷ lying) x) (p1 + 1) vs s j) (standing num (under lying x) (p1 + 1 + 1) (Truth (not c) ∷ []) s j) to
      (stepped m num (under (Truth c ∷ lying) x) (p1 + 1) before vs s j (Plain (instr.Op opposite 1)) [] h.1
      ∙ taken_all num (Truth c ∷ []) 1 (under lying x) (p1 + 1 + 1) vs s j (operate m opposite) refl)
      (goes_at (under lying x) (p1 + 1 + 1) (p + length (negated code)) (Truth (not c) ∷ []) s j to end (next (Truth (not c) ∷ []) j refl))))

  -- one of two pieces of code
  pub choice_computes : (lying : List Variant) (test guarded other : Code) (c : Bool) (value : Variant) → Computes lying test (Truth c) → (c ≡ true → Computes lying guarded value) → (c ≡ false → Computes lying other value)
      → Computes lying (choice test guarded other) value
  choice_computes lying test guarded other c value tests one_side other_side x p register s k to fit good few holds next =
      let linked = linked_program program in
      let body = x.running.body in
      let last : Code = past (length other) ∷ other in
      let rest : Code = past_if_false (length guarded + 1) ∷ (guarded ++ last) in
      let p1 = p + length test in
      let h = holds_back linked before body p test rest holds in
      tests x p register s k to fit good few (holds_front linked before body p test rest holds) (λ vs j e.
      by c refl vs j (stepped (machine_of program) (body_of program) (under lying x) p1 before vs s j (past_if_false (length guarded + 1)) (guarded ++ last) h
      ∙ ap (λ (v : Variant). jump_false (is_false v) (p1 + 1 + (length guarded + 1)) (standing (body_of program) (under lying x) (p1 + 1) vs s j)) e) h.1)
    where
      by : (d : Bool) → c ≡ d → (vs : List Variant) (j : ℕ)
          → step (machine_of program) (standing (body_of program) (under lying x) (p + length test) vs s j) ≡ jump_false (not c) (p + length test + 1 + (length guarded + 1)) (standing (body_of program) (under lying x) (p + length test + 1) vs s j)
          → Stands x (p + length test + 1) (guarded ++ (past (length other) ∷ other)) → Goes_to (under lying x) (p + length test) vs s j to
      by true e vs j does there =
          let m = machine_of program in
          let num = body_of program in
          let y = under lying x in
          let last : Code = past (length other) ∷ other in
          let p1 = p + length test in
          let p2 = p1 + 1 + length guarded in
          let h = holds_back (linked_program program) before x.running.body (p1 + 1) guarded last there in
          let end : p2 + 1 + length other ≡ p + length (choice test guarded other) = omega (arith, length-append test (past_if_false (length guarded + 1) ∷ (guarded ++ last)), length-append guarded last) in
          comes_behind m (standing num y p1 vs s j) (standing num y (p1 + 1) vs s j) to (does ∙ ap (λ (b : Bool). jump_false (not b) (p1 + 1 + (length guarded + 1)) (standing num y (p1 + 1) vs s j)) e)
          (one_side e x (p1 + 1) vs s j to fit good few (holds_front (linked_program program) before x.running.body (p1 + 1) guarded last there) (λ ws i f.
          comes_behind m (standing num y p2 ws s i) (standing num y (p2 + 1 + length other) ws s i) to (stepped m num y p2 before ws s i (past (length other)) other h)
          (goes_at y (p2 + 1 + length other) (p + length (choice test guarded other)) ws s i to end (next ws i f))))
      by false e vs j does there =
          let m = machine_of program in
          let num = body_of program in
          let y = under lying x in
          let last : Code = past (length other) ∷ other in
          let p1 = p + length test in
          let p2 = p1 + 1 + length guarded in
          let h = holds_back (linked_program program) before x.running.body (p1 + 1) guarded last there in
          let far : p1 + 1 + (length guarded + 1) ≡ p2 + 1 = omega arith in
          let end : p2 + 1 + length other ≡ p + length (choice test guarded other) = omega (arith, length-append test (past_if_false (length guarded + 1) ∷ (guarded ++ last)), length-append guarded last) in
          comes_behind m (standing num y p1 vs s j) (standing num y (p1 + 1 + (length guarded + 1)) vs s j) to (does ∙ ap (λ (b : Bool). jump_false (not b) (p1 + 1 + (length guarded + 1)) (standing num y (p1 + 1) vs s j)) e)
          (goes_at y (p1 + 1 + (length guarded + 1)) (p2 + 1) vs s j to far
          (other_side e x (p2 + 1) vs s j to fit good few h.1 (λ ws i f.
          goes_at y (p2 + 1 + length other) (p + length (choice test guarded other)) ws s i to end (next ws i f))))
