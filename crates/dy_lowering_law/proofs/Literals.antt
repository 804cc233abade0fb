-- Literals, and `&`.
use Rattle.std.proofs.Common.{◌≡◌, ℕ, zero, suc, ◌+◌, ◌-◌, ◌≤◌, Bool, true, false, List, [], ◌∷◌, ◌++◌, length, refl, sym, ap, ◌∙◌, subst, arith}
use Rattle.std.specs.Prelude.{nat_le, if◌then◌else◌}
use Rattle.dy_term.specs.declared.literal.Literal.{Literal, Literal-F, out-Literal, roll-Literal, out-roll-Literal}
use Rattle.dy_term.specs.declared.rows.Program.{Program}
use Rattle.dy_values.specs.declared.value.Variant.{Variant}
use Rattle.dy_values.specs.declared.value.Variant.TheVariants.{Int, Char, Bool as Truth, Symbol, Nil, Class, TypeValue, Generic, Function, Builtin, Object}
use Rattle.dy_values.specs.declared.object.ObjectRow.TheVariants as object
use Rattle.dy_values.specs.declared.store.Store.{Store}
use Rattle.dy_values.specs.Spending.{first, is_false, Made, Makes, Lacks, made_kind, made_literal}
use Rattle.dy_values.specs.Stores.{with_object, next_object}
use Rattle.dy_outcome.specs.declared.state.State.{State}
use Rattle.dy_outcome.specs.States.{Outcome, Does, and_then, gave}
use Rattle.dy_outcome.specs.Nearness.{units_of}
use Rattle.dy_outcome.specs.Choices.{both, chosen}
use Rattle.dy_code.specs.Fetching as instr
use Rattle.dy_code.specs.Validity.{Every}
use Rattle.dy_meaning.specs.Meaning.{literal, with_made}
use Rattle.dy_steps.specs.Steps.{act, made}
use Rattle.dy_lowered.specs.Flat.{Code, Plain, one}
use Rattle.dy_lowered.specs.Parts as parts
use Rattle.dy_lowered.specs.Words.{is_word, is_word_literal}
use Rattle.dy_lowering_law.specs.Following.{Spot, scope_of, standing, after, Comes, Holds, IsWord, IsKnown, IsRight, IsRightAfter, Follows}
use Rattle.dy_lowering_law.specs.Machines.{linked_program, machine_of}
use Rattle.dy_lowering_law.specs.Renumbering.{body_of, renumbered, renumbered_store}
use Rattle.dy_lowering_law.proofs.Leading.{comes_by, stepped}
use Rattle.dy_lowering_law.proofs.Same.{next_same, added_same}
use Rattle.dy_lowering_law.proofs.Cases.{choice_follows}
use Rattle.dy_lowering_law.proofs.Values.{known_added}

-- what is made in the store of the machine
abbrev renumbered_made : (ℕ → ℕ) → Made → Made
renumbered_made number (Makes value store units) = Makes value (renumbered_store number store) units
renumbered_made number Lacks = Lacks

string_same : (number : ℕ → ℕ) (bytes : List ℕ) (store : Store) (left : ℕ) (b : Bool)
    → (if b then Makes (next_object (renumbered_store number store)) (with_object (renumbered_store number store) (object.Bytes bytes)) left else Lacks)
    ≡ renumbered_made number (if b then Makes (next_object store) (with_object store (object.Bytes bytes)) left else Lacks)
string_same number bytes store left true = λ i. Makes (next_same number store i) (added_same number store (object.Bytes bytes) i) left
string_same number bytes store left false = refl

made_same : (number : ℕ → ℕ) (kind : Literal-F Literal) (store : Store) (units : ℕ) → made_kind kind (renumbered_store number store) units ≡ renumbered_made number (made_kind kind store units)
made_same number (Literal-F.Int k) store units = refl
made_same number (Literal-F.Char code) store units = refl
made_same number (Literal-F.Bool value) store units = refl
made_same number (Literal-F.Symbol name) store units = refl
made_same number Literal-F.Nil store units = refl
made_same number (Literal-F.Str bytes) store units = string_same number bytes store (units - (length bytes + 1)) (nat_le (length bytes + 1) units)
made_same number (Literal-F.List items last) store units = refl
made_same number (Literal-F.Vector items) store units = refl

-- no more units, and a store that is right
module _ (program : Program) where
  string_low : (bytes : List ℕ) (s : State) (b : Bool) → units_of (with_made (if b then Makes (next_object s.store) (with_object s.store (object.Bytes bytes)) (s.fuel.left - (length bytes + 1)) else Lacks) s) ≤ s.fuel.left
  string_low bytes s true = omega arith
  string_low bytes s false = omega arith

  string_right : (bytes : List ℕ) (locals : ℕ) (s : State) (b : Bool) → IsRight program locals s → IsRightAfter program locals (with_made (if b then Makes (next_object s.store) (with_object s.store (object.Bytes bytes)) (s.fuel.left - (length bytes + 1)) else Lacks) s)
  string_right bytes locals s true right = (record { objects = known_added program s.store.objects (object.Bytes bytes) right.objects tt; frame = right.frame; words = record { locals = right.words.locals; captured = right.words.captured; globals = right.words.globals } }, (tt, tt))
  string_right bytes locals s false right = tt

  made_low : (kind : Literal-F Literal) (s : State) → units_of (with_made (made_kind kind s.store s.fuel.left) s) ≤ s.fuel.left
  made_low (Literal-F.Int k) s = omega arith
  made_low (Literal-F.Char code) s = omega arith
  made_low (Literal-F.Bool value) s = omega arith
  made_low (Literal-F.Symbol name) s = omega arith
  made_low Literal-F.Nil s = omega arith
  made_low (Literal-F.Str bytes) s = string_low bytes s (nat_le (length bytes + 1) s.fuel.left)
  made_low (Literal-F.List items last) s = omega arith
  made_low (Literal-F.Vector items) s = omega arith

  itself_right : (locals : ℕ) (value : Variant) → IsWord value → (s : State) → IsRight program locals s → IsRightAfter program locals (gave value s)
  itself_right locals value word s right = (record { objects = right.objects; frame = right.frame; words = right.words }, (word, tt))

  made_right : (kind : Literal-F Literal) → is_word kind ≡ true → (locals : ℕ) (s : State) → IsRight program locals s → IsRightAfter program locals (with_made (made_kind kind s.store s.fuel.left) s)
  made_right (Literal-F.Int k) word locals s right = itself_right locals (Int k) word s right
  made_right (Literal-F.Char code) word locals s right = itself_right locals (Char code) tt s right
  made_right (Literal-F.Bool value) word locals s right = itself_right locals (Truth value) tt s right
  made_right (Literal-F.Symbol name) word locals s right = itself_right locals Nil tt s right
  made_right Literal-F.Nil word locals s right = itself_right locals Nil tt s right
  made_right (Literal-F.Str bytes) word locals s right = string_right bytes locals s (nat_le (length bytes + 1) s.fuel.left) right
  made_right (Literal-F.List items last) word locals s right = itself_right locals Nil tt s right
  made_right (Literal-F.Vector items) word locals s right = itself_right locals Nil tt s right

module _ (program : Program) (n before locals : ℕ) where
  made_after : (d : Made) (x : Spot) (place : ℕ) (register : List Variant) (s : State) (k : ℕ)
      → made (renumbered_made (body_of program) d) (standing (body_of program) x place register s k) ≡ after (body_of program) x place (with_made d s) k
  made_after (Makes value store units) x place register s k = refl
  made_after Lacks x place register s k = refl

  pub literal_comes : (value : Literal) (x : Spot) (place : ℕ) (register : List Variant) (s : State) (k : ℕ) → Holds (linked_program program) before x.running.body place (one (instr.Const value))
      → Comes (machine_of program) (standing (body_of program) x place register s k) (after (body_of program) x (place + 1) (literal value (scope_of x) s))
  literal_comes value x place register s k holds =
      comes_by (machine_of program) _ _ k (stepped (machine_of program) (body_of program) x place before register s k (Plain (instr.Const value)) [] holds
      ∙ ap (λ d. made d (standing (body_of program) x (place + 1) register s k)) (made_same (body_of program) (out-Literal value) s.store s.fuel.left)
      ∙ made_after (made_literal value s.store s.fuel.left) x (place + 1) register s k)

  pub literal_follows : (value : Literal) → is_word_literal value ≡ true → Follows program n before locals (one (instr.Const value)) (literal value)
  literal_follows value word = record {
    falls = λ scope s. made_low program (out-Literal value) s;
    keeps = λ scope s right. made_right program (out-Literal value) word locals s right;
    runs = λ x place register s k holds fit right few. literal_comes value x place register s k holds;
  }

  pub truth_follows : (b : Bool) → Follows program n before locals (parts.truth b) (λ scope s. gave (Truth b) s)
  truth_follows b =
      subst (λ (kind : Literal-F Literal). Follows program n before locals (parts.truth b) (λ scope s. with_made (made_kind kind s.store s.fuel.left) s)) (out-roll-Literal (Literal-F.Bool b)) (literal_follows (roll-Literal (Literal-F.Bool b)) (ap (λ (kind : Literal-F Literal). is_word kind) (out-roll-Literal (Literal-F.Bool b))))

  false_itself : (value : Variant) (right : State → Outcome) (s : State) → chosen (is_false value) (gave (Truth false)) right s ≡ chosen (is_false value) (gave value) right s
  false_itself (Truth true) right s = refl
  false_itself (Truth false) right s = refl
  false_itself value right s = refl

  pub both_follows : (left right : Code) (a b : Does) → Follows program n before locals left a → Follows program n before locals right b → Follows program n before locals (parts.both left right) (both a b)
  both_follows left right a b fa fb =
      subst (λ (does : Does). Follows program n before locals (parts.both left right) does)
      (λ i scope s. and_then (a scope s) (λ values t. false_itself (first values) (b scope) t i))
      (choice_follows program n before locals left right (parts.truth false) a b (λ scope s. gave (Truth false) s) fa fb (truth_follows false))
