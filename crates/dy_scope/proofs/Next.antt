-- One more item of a body: what is done so far, and what the rest gives where its locals are in
-- force too.
use Rattle.std.proofs.Common.{◌≡◌, ℕ, ◌+◌, ◌<◌, List, [], ◌∷◌, ◌++◌, length, map, drop, get_or, sym}
use Rattle.std.proofs.Common.{ap, ◌∙◌, append_assoc}
use Rattle.std.proofs.lemmas.List.{drop_more}
use Rattle.dy_term.specs.declared.draft.DraftItem.{DraftItem}
use Rattle.dy_term.specs.declared.term.Item.{Item}
use Rattle.dy_term.specs.Drafts.{items_of, seen_item}
use Rattle.dy_names.specs.Naming.{Locals}
use Rattle.dy_names.specs.Outside.{Outside}
use Rattle.dy_binding.specs.declared.progress.Progress.{Progress}
use Rattle.dy_binding.proofs.Turns.{Goes}
use Rattle.dy_resolution.specs.Terms.{core_item, core_items}

pub goes_on : {A B : Type 0} (whole : List A × B) (done after : List A) (one : A)
    (rest next : List A × B) → rest ≡ (one ∷ next.0, next.1) → after ≡ done ++ one ∷ []
    → Goes whole done rest → Goes whole after next
goes_on whole done after one rest next r a e =
    e ∙ (λ i. (done ++ (r i).0, (r i).1)) ∙
    (λ i. (sym (append_assoc done (one ∷ []) next.0) i, next.1)) ∙
    (λ i. (sym a i ++ next.0, next.1))

pub item_next : (out : Outside) (xs : List DraftItem) (i : ℕ) (x : DraftItem) → i < length xs
    → x ≡ get_or xs i x → (whole : List Item × Progress) (before after : List Item)
    (locals now : Locals) (p q : Progress) (t : Item)
    → t ≡ (core_item out (seen_item x) locals p).0.0
    → now ≡ (core_item out (seen_item x) locals p).0.1
    → q ≡ (core_item out (seen_item x) locals p).1 → after ≡ before ++ t ∷ []
    → Goes whole before (core_items out (items_of (map seen_item (drop i xs))) locals p)
    → Goes whole after (core_items out (items_of (map seen_item (drop (i + 1) xs))) now q)
item_next out xs i x l e whole before after locals now p q t te ne qe a =
    goes_on whole before after t _ _
    (ap (λ ys. core_items out (items_of (map seen_item ys)) locals p)
    (drop_more xs i x l ∙ ap (λ y. y ∷ drop (i + 1) xs) (sym e))
    ∙ (λ j. let r = core_items out (items_of (map seen_item (drop (i + 1) xs))) (sym ne j)
    (sym qe j) in (sym te j ∷ r.0, r.1))) a
