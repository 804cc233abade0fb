-- The answers of the merge are those of the class order.
use Rattle.std.proofs.Common.{◌≡◌, ℕ, ◌≤◌, Bool, true, false, true≢false, not, List, [], ◌∷◌, ◌⊎◌, inl, inr, Option, Some, None, refl, sym, ap, subst, ◌∙◌, arith}
use Rattle.dy_base.specs.declared.ids.ClassId.{ClassId}
use Rattle.dy_classes.specs.Lists.{In, first, next, Before}
use Rattle.dy_classes.specs.Orders.{IsCyclic, lists_of, Order, Stored}
use Rattle.dy_classes.specs.Merge.{mem, newest, onto, ready, run, all_listed, merged, total, IsMerged, IsStuck}
use Rattle.dy_classes.proofs.Lists.{before_last}
use Rattle.dy_classes.proofs.Decisions.{ready_complete, ready_all_complete}
use Rattle.dy_classes.proofs.Laws.{apart_list, merge_sound, merge_complete}
use Rattle.dy_classes.proofs.Steps.{newest_newest}

module _ (supers order : ClassId → List ClassId) (c : ClassId) (alone : IsCyclic supers c → ⊥) (stored : Stored supers order c) where
  abbrev The : List (List ClassId)
  The = lists_of supers order c

  -- c is in none of the lists, so it can be the first
  c_ready : ready The [] c ≡ true
  c_ready = ready_all_complete [] c The (λ m i. ready_complete [] c m (λ z b. absurd (apart_list supers order c alone stored m i (before_last b))))

  pub merged_order : (l : List ClassId) → IsMerged supers order c l → Order supers order c l
  merged_order l is =
      let whole : all_listed The (run supers The (total The) (c ∷ [])) ≡ true = subst (λ (v : List ClassId). all_listed The v ≡ true) is.listed is.whole in
      merge_sound supers order c alone stored (total The) l (rw whole (ap Some (ap newest (sym is.listed) ∙ newest_newest l)))

  pub stuck_none : IsStuck supers order c → (l : List ClassId) → Order supers order c l → ⊥
  stuck_none (inl e) l o = true≢false (sym c_ready ∙ e)
  stuck_none (inr e) l o =
      let found = merge_complete supers order c alone stored (total The) (omega arith) l o in
      let none = rw e at found in cc
