-- The view of a library that was compiled.
use Rattle.std.proofs.Common.{List, [], ◌≢◌, ◌+◌, Bool, false, cond, not, ◌∷◌, ◌++◌, map, drop, get_or, append_assoc, ap, ◌∙◌, ◌≡◌, ◌⊎◌, ℕ, suc, ◌<◌, ◌≤◌, true, eqb, length, All, sym, subst, inl, inr, arith}
use Rattle.std.specs.Prelude.{filter}
use Rattle.std.specs.List.{IsDistinct}
use Rattle.std.proofs.lemmas.Bool.{ne_eqb, eq-eqb}
use Rattle.std.proofs.lemmas.List.{drop_more, get_or_read}
use Rattle.dy_load_order.specs.LoadOrder.{load_order, is_in}
use Rattle.dy_load_order.proofs.Keeping.{only}
use Rattle.dy_load_order.proofs.Lawful.{none_is_twice}
use Rattle.dy_load_order.proofs.Members.{all_in}
use Rattle.dy_views.specs.declared.compiled.Compiled.{Compiled}
use Rattle.dy_views.specs.Laws.{view_at}
use Rattle.dy_views.specs.Views.{AreCompiled}
use Rattle.dy_libraries.specs.Programs.{name_at, no_digest, others_in}

module _ (compiled : Compiled) (are : AreCompiled compiled) (number : ℕ) (within : number < length compiled.exports) where
  loaded : view_at compiled number ≡ load_order compiled.uses number
  loaded = let long = are.orders in are.loaded number (omega arith)

  small : (other : ℕ) → (other ≤ number) ⊎ (is_in [] other ≡ true) → other < length compiled.exports
  small other (inl l) = omega arith
  small other (inr i) = absurd cc

  -- all that it sees was compiled
  pub all_there : All (λ other. other < length compiled.exports) (view_at compiled number)
  all_there =
      subst (All (λ other. other < length compiled.exports)) (sym loaded)
      (all_in (λ other. other < length compiled.exports) (load_order compiled.uses number)
      (λ other i. small other (only compiled.uses are.earlier (suc number) number [] other (omega arith) i)))

  -- and nothing stands twice in it
  pub none_twice : IsDistinct eqb (view_at compiled number)
  none_twice = subst (IsDistinct eqb) (sym loaded) (none_is_twice compiled.uses number are.earlier)

  -- it is read
  pub view_read : (orders : List (List ℕ)) (order now : List ℕ) → orders ≡ compiled.orders → order ≡ get_or orders number order → now ≡ order → now ≡ view_at compiled number
  view_read orders order now e f g =
      let long = are.orders in
      g ∙ get_or_read compiled.orders number order (omega arith) (subst (λ (xs : List (List ℕ)). order ≡ get_or xs number order) e f) []

-- ---- the others in it

module _ (compiled : Compiled) (number : ℕ) (libraries : List ℕ) (i : ℕ) (others : List (List ℕ × List ℕ)) (within : i < length libraries)
    (so_far : others ++ others_in compiled number (drop i libraries) ≡ others_in compiled number libraries) where
  abbrev entry : List ℕ × List ℕ
  entry = (name_at compiled (get_or libraries i 0), no_digest)

  abbrev chosen : Bool → List (List ℕ × List ℕ)
  chosen b = map (λ other. (name_at compiled other, no_digest))
      (cond (not b) (get_or libraries i 0 ∷ filter (λ other. not (eqb other number)) (drop (i + 1) libraries)) (filter (λ other. not (eqb other number)) (drop (i + 1) libraries)))

  next : (b : Bool) → eqb (get_or libraries i 0) number ≡ b → others_in compiled number (drop i libraries) ≡ chosen b
  next b is = ap (others_in compiled number) (drop_more libraries i 0 within) ∙ ap chosen is

  -- another one
  pub others_more : get_or libraries i 0 ≢ number → (others ++ entry ∷ []) ++ others_in compiled number (drop (i + 1) libraries) ≡ others_in compiled number libraries
  others_more apart =
      append_assoc others (entry ∷ []) (others_in compiled number (drop (i + 1) libraries))
      ∙ ap (λ (rest : List (List ℕ × List ℕ)). others ++ rest) (sym (next false (ne_eqb (get_or libraries i 0) number apart)))
      ∙ so_far

  -- itself
  pub others_same : get_or libraries i 0 ≡ number → others ++ others_in compiled number (drop (i + 1) libraries) ≡ others_in compiled number libraries
  others_same same = ap (λ (rest : List (List ℕ × List ℕ)). others ++ rest) (sym (next true (eq-eqb (get_or libraries i 0) number same))) ∙ so_far
