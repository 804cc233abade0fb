-- One turn of the merge.
use Rattle.std.proofs.Common.{◌≡◌, ℕ, ◌+◌, ◌-◌, ◌<◌, Bool, true, false, List, [], ◌∷◌, nat_eq, Option, Some, None, refl, sym, ap, subst, ◌∙◌, Vec}
use Rattle.std.specs.declared.alloc.Global.{Global}
use Rattle.dy_base.specs.declared.ids.ClassId.{ClassId}
use Rattle.dy_classes.specs.Merge.{mem, next_of, run, ready}
use Rattle.dy_classes.specs.Counters.{count_at, free, one_if, tails, Counted}
use Rattle.dy_classes.proofs.Counters.{ready_counts}
use Rattle.dy_classes.proofs.Steps.{next_from, run_more, run_stops, zero_is, zero_not}

module _ (supers : ClassId → List ClassId) (lists : List (List ClassId)) (listed : List ClassId) (heads : List ℕ) (counts : List (Vec ℕ Global)) (s : Counted lists listed heads counts) where
  free_is : (y : ClassId) → free counts y ≡ nat_eq (tails listed y lists + one_if (mem y listed)) 0
  free_is y = ap (λ (n : ℕ). nat_eq n 0) (s.count y)

  pub next_free : (x : ClassId) → next_of supers (free counts) listed ≡ Some x → count_at counts x ≡ 0
  next_free x e = zero_is (count_at counts x) (next_from supers (free counts) listed x e).1

  pub goes_on : (whole more : List ClassId) (n i : ℕ) (x : ClassId) → i < n → next_of supers (free counts) listed ≡ Some x
      → whole ≡ run supers lists (n - i) listed → more ≡ x ∷ listed → whole ≡ run supers lists (n - (i + 1)) more
  goes_on whole more n i x h e same pushed =
      same ∙ run_more supers lists listed (free counts) free_is n i x h e ∙ ap (run supers lists (n - (i + 1))) (sym pushed)

  pub stops : (whole : List ClassId) (n : ℕ) → next_of supers (free counts) listed ≡ None → whole ≡ run supers lists n listed → listed ≡ whole
  stops whole n e same = sym (same ∙ run_stops supers lists listed (free counts) free_is n e)

  -- the test of a class by its number
  pub not_free : (c : ClassId) (n : ℕ) → n ≡ count_at counts c → (n ≡ 0 → ⊥) → ready lists listed c ≡ false
  not_free c n is some =
      ready_counts lists listed c ∙ sym (free_is c) ∙ zero_not (count_at counts c) (λ e. some (is ∙ e))
