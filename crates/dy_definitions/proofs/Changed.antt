-- Tables after the tally of one name changed.
use Rattle.std.proofs.Common.{◌≡◌, ℕ, Bool, true, false, cond, ◌&&◌, List, Option, Some}
use Rattle.std.proofs.Common.{nat_eq, bytes_eq, refl, ◌∙◌}
use Rattle.dy_names.proofs.Kept.{equal_parts}
use Rattle.dy_definitions.specs.declared.definitions.Definition.{Definition}
use Rattle.dy_definitions.specs.declared.tally.Tally.{Tally}
use Rattle.dy_definitions.specs.Passes.{counted}
use Rattle.dy_definitions.specs.Seen.{or_no_tally}

module _ (n : ℕ) (m : List ℕ) (c : ℕ) (a : List ℕ) where
  abbrev is_same : Bool
  is_same = nat_eq n c && bytes_eq m a

  pub counted_at : (old : ℕ → List ℕ → Option Tally) (tally : Tally) (d : Definition)
      → tally ≡ counted d.role d.is_open (or_no_tally (old n m))
      → or_no_tally (cond is_same (Some tally) (old c a))
      ≡ cond is_same (counted d.role d.is_open (or_no_tally (old c a))) (or_no_tally (old c a))
  counted_at old tally d is = by_same is_same refl
    where
      by_same : (b : Bool) → is_same ≡ b → or_no_tally (cond b (Some tally) (old c a))
          ≡ cond b (counted d.role d.is_open (or_no_tally (old c a))) (or_no_tally (old c a))
      by_same true e = let p = equal_parts n c m a e in
          is ∙ (λ i. counted d.role d.is_open (or_no_tally (old (p.0 i) (p.1 i))))
      by_same false e = refl
