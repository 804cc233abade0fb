-- Parts written one after the other, with a mark between them or without.
use Rattle.std.proofs.Common.{◌≡◌, ℕ, ◌+◌, ◌<◌, length, List, [], ◌∷◌, ◌++◌, map, take, get_or, refl, sym, ap, ◌∙◌, append_assoc, Bool, false}
use Rattle.std.proofs.lemmas.List.{append-nil, flat_map_more, map-append, map_more}
use Rattle.std.specs.List.{flat_map}
use Rattle.dy_tree.specs.Fragments.{SeenFragment, one}
use Rattle.dy_rules.specs.Marks.{mark}
use Rattle.dy_write_parts.specs.Joined.{behind_mark, joined, mark_unless}
use Rattle.dy_write_parts.specs.Parts.{is_none_of}
use Rattle.dy_write_parts.proofs.Steps.{not_none}

abbrev Fragments : Type 0
Fragments = List SeenFragment

behind_more : (text : List ℕ) (parts : List Fragments) (part : Fragments) → behind_mark text (parts ++ part ∷ []) ≡ behind_mark text parts ++ one (mark text) ∷ part
behind_more text [] part = ap (λ (fs : Fragments). one (mark text) ∷ fs) (append-nil part)
behind_more text (first ∷ rest) part =
    ap (λ (fs : Fragments). one (mark text) ∷ (first ++ fs)) (behind_more text rest part) ∙ ap (λ (fs : Fragments). one (mark text) ∷ fs) (sym (append_assoc first (behind_mark text rest) (one (mark text) ∷ part)))

joined_more : (text : List ℕ) (parts : List Fragments) (part : Fragments) → joined text (parts ++ part ∷ []) ≡ (joined text parts ++ mark_unless text (is_none_of parts)) ++ part
joined_more text [] part = append-nil part
joined_more text (first ∷ rest) part =
    ap (λ (fs : Fragments). first ++ fs) (behind_more text rest part) ∙ sym (append_assoc first (behind_mark text rest) (one (mark text) ∷ part)) ∙ sym (append_assoc (first ++ behind_mark text rest) (one (mark text) ∷ []) part)

joined_step : (text : List ℕ) (old before middle new : Fragments) (first : Bool) (parts : List Fragments) (part : Fragments) → first ≡ is_none_of parts → before ≡ old ++ joined text parts → middle ≡ before ++ mark_unless text first → new ≡ middle ++ part
    → new ≡ old ++ joined text (parts ++ part ∷ [])
joined_step text old before middle new first parts part none e f g =
    g ∙ ap (λ (fs : Fragments). fs ++ part) (f ∙ ap (λ (fs : Fragments). fs ++ mark_unless text first) e ∙ append_assoc old (joined text parts) (mark_unless text first))
    ∙ append_assoc old (joined text parts ++ mark_unless text first) part
    ∙ ap (λ (fs : Fragments). old ++ fs) (ap (λ (b : Bool). (joined text parts ++ mark_unless text b) ++ part) none ∙ sym (joined_more text parts part))

none_mapped : {X Y : Type 0} (f : X → Y) (xs : List X) → is_none_of xs ≡ is_none_of (map f xs)
none_mapped f [] = refl
none_mapped f (first ∷ rest) = refl

-- the items so far, and one more
items_more : {X Y : Type 0} (seen : X → Y) (items : List X) (i : ℕ) (x : X) → i < length items → x ≡ get_or items i x → map seen (take (i + 1) items) ≡ map seen (take i items) ++ seen x ∷ []
items_more seen items i x lt is = map_more seen items i x lt ∙ ap (λ y. map seen (take i items) ++ seen y ∷ []) (sym is)

-- what comes next is not the first
pub first_step : {X Y : Type 0} (seen : X → Y) (items : List X) (i : ℕ) (x : X) → i < length items → x ≡ get_or items i x → false ≡ is_none_of (map seen (take (i + 1) items))
first_step seen items i x lt is = sym (not_none (map seen (take i items)) (seen x)) ∙ ap is_none_of (sym (items_more seen items i x lt is))

-- an item more, behind its mark
pub items_step : {X Y : Type 0} (text : List ℕ) (seen : X → Y) (part : Y → Fragments) (whole : List Y → Fragments) → ((ys : List Y) → whole ys ≡ joined text (map part ys)) → (items : List X) (i : ℕ) (x : X) → i < length items → x ≡ get_or items i x
    → (old before middle new : Fragments) (first : Bool) → first ≡ is_none_of (map seen (take i items)) → before ≡ old ++ whole (map seen (take i items)) → middle ≡ before ++ mark_unless text first → new ≡ middle ++ part (seen x)
    → new ≡ old ++ whole (map seen (take (i + 1) items))
items_step {X} {Y} text seen part whole same items i x lt is old before middle new first none e f g =
    let ys : List Y = map seen (take i items) in
    joined_step text old before middle new first (map part ys) (part (seen x)) (none ∙ none_mapped part ys) (e ∙ ap (λ (fs : Fragments). old ++ fs) (same ys)) f g
    ∙ ap (λ (fs : Fragments). old ++ fs) (ap (joined text) (sym (map-append part ys (seen x ∷ []))) ∙ sym (same (ys ++ seen x ∷ [])) ∙ ap whole (sym (items_more seen items i x lt is)))

-- an item more, with no mark
pub parts_step : {X Y : Type 0} (seen : X → Y) (part : Y → Fragments) (whole : List Y → Fragments) → ((ys : List Y) → whole ys ≡ flat_map part ys) → (items : List X) (i : ℕ) (x : X) → i < length items → x ≡ get_or items i x
    → (old before new : Fragments) → before ≡ old ++ whole (map seen (take i items)) → new ≡ before ++ part (seen x)
    → new ≡ old ++ whole (map seen (take (i + 1) items))
parts_step {X} {Y} seen part whole same items i x lt is old before new e g =
    let ys : List Y = map seen (take i items) in
    g ∙ ap (λ (fs : Fragments). fs ++ part (seen x)) (e ∙ ap (λ (fs : Fragments). old ++ fs) (same ys)) ∙ flat_map_more part old ys (seen x)
    ∙ ap (λ (fs : Fragments). old ++ fs) (sym (same (ys ++ seen x ∷ [])) ∙ ap whole (sym (items_more seen items i x lt is)))
