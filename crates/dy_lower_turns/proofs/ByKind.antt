-- What a clause of each kind is lowered to.
use Rattle.std.proofs.Common.{◌≡◌, ℕ, [], sym, ap, ◌∙◌}
use Rattle.std.specs.declared.option.Option.{Option}
use Rattle.std.specs.declared.option.Option.TheVariants.{None, Some}
use Rattle.dy_term.specs.declared.types.DyType.{DyType}
use Rattle.dy_term.specs.declared.literal.Literal.{Literal}
use Rattle.dy_term.specs.declared.term.Limit.{Limit}
use Rattle.dy_term.specs.declared.term.ForClause.{ForClause, ForClause-F, roll-ForClause, map-ForClause, para-roll-ForClause, Then, In, From}
use Rattle.dy_term.specs.declared.term.ForClause.TheVariants.{rolls-Then, rolls-In, rolls-From}
use Rattle.dy_term.specs.declared.term.ForRow.{ForRow}
use Rattle.dy_term.specs.declared.term.Item.{Item}
use Rattle.dy_term.specs.declared.term.Term.{Term, Term-F, para-roll-Term, Lit}
use Rattle.dy_term.specs.declared.term.Term.TheVariants.{rolls-Lit}
use Rattle.dy_term.specs.declared.term.BlockRow.{BlockRow}
use Rattle.dy_term.specs.declared.term.Lambda.{Lambda}
use Rattle.dy_meaning.specs.Lambdas.{lambdas_in}
use Rattle.dy_meaning.specs.Layouts.{Layout, place_of}
use Rattle.dy_lowered.specs.Terms.{clause_coded, code_of, item_code, clause_code, block_code, for_code, lambda_code}
use Rattle.dy_lowered.specs.Turns.{Clause, operands, variable, testing, limit_reached}

-- a part with its code
abbrev beside : {A : Type 0} {B : Type 0} → (A → B) → A → A × B
beside of part = (part, of part)

pub in_literal : (v : Literal) → lambdas_in (Lit v) ≡ []
in_literal v = ap lambdas_in (sym (rolls-Lit v)) ∙ para-roll-Term _ _ _ _ _ _ _ _ _ _ _ _ (Term-F.Lit v)

module _ (layout : Layout) where
  abbrev clause_layer : ForClause-F ForClause Item Term BlockRow ForRow Lambda → ℕ → Clause
  clause_layer x = clause_coded layout (map-ForClause _ _ _ _ _ _ _ _ _ _ _ _ (beside (clause_code layout)) (beside (item_code layout)) (beside (code_of layout)) (beside (block_code layout)) (beside (for_code layout)) (beside (lambda_code layout)) x)

  clause_is : (x : ForClause-F ForClause Item Term BlockRow ForRow Lambda) → clause_code layout (roll-ForClause x) ≡ clause_layer x
  clause_is = para-roll-ForClause _ _ _ _ _ _ _ _ _ _ _ _

  clause_at : (x : ForClause-F ForClause Item Term BlockRow ForRow Lambda) (t u : ForClause) (n : ℕ) → u ≡ t → roll-ForClause x ≡ t → clause_code layout u n ≡ clause_layer x n
  clause_at x t u n h e = ap (λ v. clause_code layout v n) (h ∙ sym e) ∙ ap (λ (make : ℕ → Clause). make n) (clause_is x)

  then_at : (u : ForClause) (k : ℕ) (d : DyType) (a b : Term) → u ≡ Then k d a b → (n : ℕ) → clause_code layout u n ≡ clause_layer (ForClause-F.Then k d a b) n
  then_at u k d a b h n = clause_at (ForClause-F.Then k d a b) (Then k d a b) u n h (rolls-Then k d a b)

  in_at : (u : ForClause) (k : ℕ) (d : DyType) (a : Term) → u ≡ In k d a → (n : ℕ) → clause_code layout u n ≡ clause_layer (ForClause-F.In k d a) n
  in_at u k d a h n = clause_at (ForClause-F.In k d a) (In k d a) u n h (rolls-In k d a)

  from_at : (u : ForClause) (k : ℕ) (d : DyType) (a : Term) (limit : Option (Limit × Term)) (step : Option Term) → u ≡ From k d a limit step → (n : ℕ) → clause_code layout u n ≡ clause_layer (ForClause-F.From k d a limit step) n
  from_at u k d a limit step h n = clause_at (ForClause-F.From k d a limit step) (From k d a limit step) u n h (rolls-From k d a limit step)

  -- how many operands it has
  pub then_operands : (u : ForClause) (k : ℕ) (d : DyType) (a b : Term) → u ≡ Then k d a b → (n : ℕ) → 1 ≡ operands (clause_code layout u n)
  then_operands u k d a b h n = sym (ap operands (then_at u k d a b h n))

  pub in_operands : (u : ForClause) (k : ℕ) (d : DyType) (a : Term) → u ≡ In k d a → (n : ℕ) → 1 ≡ operands (clause_code layout u n)
  in_operands u k d a h n = sym (ap operands (in_at u k d a h n))

  pub from_operands : (u : ForClause) (k : ℕ) (d : DyType) (a : Term) (limit : Option (Limit × Term)) (step : Option Term) → u ≡ From k d a limit step → (n : ℕ) → 3 ≡ operands (clause_code layout u n)
  from_operands u k d a limit step h n = sym (ap operands (from_at u k d a limit step h n))

  -- its variable
  pub then_variable : (u : ForClause) (k : ℕ) (d : DyType) (a b : Term) → u ≡ Then k d a b → (n : ℕ) → place_of layout k ≡ variable (clause_code layout u n)
  then_variable u k d a b h n = sym (ap variable (then_at u k d a b h n))

  pub in_variable : (u : ForClause) (k : ℕ) (d : DyType) (a : Term) → u ≡ In k d a → (n : ℕ) → place_of layout k ≡ variable (clause_code layout u n)
  in_variable u k d a h n = sym (ap variable (in_at u k d a h n))

  pub from_variable : (u : ForClause) (k : ℕ) (d : DyType) (a : Term) (limit : Option (Limit × Term)) (step : Option Term) → u ≡ From k d a limit step → (n : ℕ) → place_of layout k ≡ variable (clause_code layout u n)
  from_variable u k d a limit step h n = sym (ap variable (from_at u k d a limit step h n))

  -- what of it is tested
  pub then_tested : (u : ForClause) (k : ℕ) (d : DyType) (a b : Term) → u ≡ Then k d a b → (n above distance : ℕ) → testing (clause_code layout u n) above distance ≡ []
  then_tested u k d a b h n above distance = ap (λ (c : Clause). testing c above distance) (then_at u k d a b h n)

  pub in_tested : (u : ForClause) (k : ℕ) (d : DyType) (a : Term) → u ≡ In k d a → (n above distance : ℕ) → testing (clause_code layout u n) above distance ≡ []
  in_tested u k d a h n above distance = ap (λ (c : Clause). testing c above distance) (in_at u k d a h n)

  pub endless_tested : (u : ForClause) (k : ℕ) (d : DyType) (a : Term) (limit : Option (Limit × Term)) (step : Option Term) → u ≡ From k d a limit step → limit ≡ None
      → (n above distance : ℕ) → testing (clause_code layout u n) above distance ≡ []
  endless_tested u k d a limit step h none n above distance =
      ap (λ (c : Clause). testing c above distance) (from_at u k d a None step (h ∙ ap (λ l. From k d a l step) none) n)

  pub limit_tested : (u : ForClause) (k : ℕ) (d : DyType) (a : Term) (limit : Option (Limit × Term)) (kind : Limit) (bound : Term) (step : Option Term) → u ≡ From k d a limit step → limit ≡ Some (kind, bound)
      → (n above distance : ℕ) → testing (clause_code layout u n) above distance ≡ limit_reached kind above distance
  limit_tested u k d a limit kind bound step h some n above distance =
      ap (λ (c : Clause). testing c above distance) (from_at u k d a (Some (kind, bound)) step (h ∙ ap (λ l. From k d a l step) some) n)
