-- Lambdas of a program whose bodies follow each other, part by part.
use Rattle.std.proofs.Common.{◌≡◌, ℕ, ◌+◌, List, [], ◌∷◌, ◌++◌, length, map, Option, Some, None, refl, subst, arith, length-append}
use Rattle.std.specs.Option.{option_map}
use Rattle.dy_term.specs.declared.term.Term.{Term}
use Rattle.dy_term.specs.declared.term.Lambda.{Lambda}
use Rattle.dy_term.specs.declared.rows.Program.{Program}
use Rattle.dy_meaning.specs.Lambdas.{Inside, of_all, of_pairs, of_arms, of_held, lambdas_in}
use Rattle.dy_meaning.specs.Numbering.{Numbered, behind_terms, behind_branches, behind_arms, behind_held}
use Rattle.dy_lowering_whole.proofs.valid.Evenness.{beside}
use Rattle.dy_lowering_law.specs.Behaving.{IsNumbered, AreNumberedFrom}

module _ (program : Program) (before : ℕ) where
  abbrev pub Numbers : ℕ → ℕ → List Lambda → Type 0
  Numbers c l xs = AreNumberedFrom program before l c (length xs)

  pub front : (xs ys : List Lambda) (c l : ℕ) → Numbers c l (xs ++ ys) → Numbers c l xs
  front xs ys c l are more less = are more (omega (arith, less, length-append xs ys))

  pub back : (xs ys : List Lambda) (c l : ℕ) → Numbers c l (xs ++ ys) → Numbers (c + length xs) (l + length xs) ys
  back xs ys c l are more less =
      let n = length xs in
      let one : c + (n + more) ≡ c + n + more = omega arith in
      let other : l + (n + more) ≡ l + n + more = omega arith in
      subst (λ (i : ℕ). IsNumbered program before i (c + n + more)) other
      (subst (λ (i : ℕ). IsNumbered program before (l + (n + more)) i) one (are (n + more) (omega (arith, less, length-append xs ys))))

  pub moved : (xs : List Lambda) (c d l m : ℕ) → c ≡ d → l ≡ m → Numbers c l xs → Numbers d m xs
  moved xs c d l m e f are = subst (λ (i : ℕ). Numbers d i xs) f (subst (λ (i : ℕ). Numbers i l xs) e are)

  pub first_one : (x : Lambda) (xs : List Lambda) (c l : ℕ) → Numbers c l (x ∷ xs) → IsNumbered program before l c
  first_one x xs c l are =
      let one : c + 0 ≡ c = omega arith in
      let other : l + 0 ≡ l = omega arith in
      subst (λ (i : ℕ). IsNumbered program before i c) other (subst (λ (i : ℕ). IsNumbered program before (l + 0) i) one (are 0 (omega arith)))

-- what comes behind parts, by the lambdas in them
module _ {B : Type 0} (make : Term → ℕ → B) where
  abbrev pub made : List Term → List (Numbered Term B)
  made ts = map (beside make) ts

  pub behind_terms_is : (ts : List Term) (n : ℕ) → behind_terms (made ts) n ≡ n + length (of_all (map (beside lambdas_in) ts))
  behind_terms_is [] n = omega arith
  behind_terms_is (t ∷ ts) n =
      let rest = behind_terms_is ts (n + length (lambdas_in t)) in
      omega (arith, rest, length-append (lambdas_in t) (of_all (map (beside lambdas_in) ts)))

  abbrev pub made_pairs : List (Term × Term) → List (Numbered Term B × Numbered Term B)
  made_pairs ts = map (λ (p : Term × Term). (beside make p.0, beside make p.1)) ts

  abbrev held_pairs : List (Term × Term) → List (Inside Term × Inside Term)
  held_pairs ts = map (λ (p : Term × Term). (beside lambdas_in p.0, beside lambdas_in p.1)) ts

  pub behind_branches_is : (ts : List (Term × Term)) (n : ℕ) → behind_branches (made_pairs ts) n ≡ n + length (of_pairs (held_pairs ts))
  behind_branches_is [] n = omega arith
  behind_branches_is (t ∷ ts) n =
      let rest = behind_branches_is ts (n + length (lambdas_in t.0) + length (lambdas_in t.1)) in
      omega (arith, rest, length-append (lambdas_in t.0) (lambdas_in t.1), length-append (lambdas_in t.0 ++ lambdas_in t.1) (of_pairs (held_pairs ts)))

  abbrev pub made_arms : List (List Term × Term) → List (List (Numbered Term B) × Numbered Term B)
  made_arms ts = map (λ (p : List Term × Term). (map (beside make) p.0, beside make p.1)) ts

  abbrev held_arms : List (List Term × Term) → List (List (Inside Term) × Inside Term)
  held_arms ts = map (λ (p : List Term × Term). (map (beside lambdas_in) p.0, beside lambdas_in p.1)) ts

  pub behind_arms_is : (ts : List (List Term × Term)) (n : ℕ) → behind_arms (made_arms ts) n ≡ n + length (of_arms (held_arms ts))
  behind_arms_is [] n = omega arith
  behind_arms_is (t ∷ ts) n =
      let values = of_all (map (beside lambdas_in) t.0) in
      let m = behind_terms (made t.0) n in
      let one = behind_terms_is t.0 n in
      let rest = behind_arms_is ts (m + length (lambdas_in t.1)) in
      omega (arith, one, rest, length-append values (lambdas_in t.1), length-append (values ++ lambdas_in t.1) (of_arms (held_arms ts)))

  pub behind_held_is : (t : Option Term) (n : ℕ) → behind_held (option_map (beside make) t) n ≡ n + length (of_held (option_map (beside lambdas_in) t))
  behind_held_is None n = omega arith
  behind_held_is (Some t) n = refl
