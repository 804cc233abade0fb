-- A part more, behind its separator.
use Rattle.std.proofs.Common.{◌≡◌, ℕ, ◌+◌, ◌<◌, length, get_or, take, map, Bool, false, List, [], ◌∷◌, ◌++◌, flat_map, sym, ap, ◌∙◌, append_assoc}
use Rattle.std.proofs.lemmas.List.{append-nil, flat_map_more, map_more}
use Rattle.dy_tree.specs.Fragments.{SeenFragment}
use Rattle.dy_write_parts.specs.Parts.{is_none_of, separator_unless}
use Rattle.dy_write_parts.specs.Separated.{separated}
use Rattle.dy_write_parts.proofs.Steps.{not_none}

abbrev Fragments : Type 0
Fragments = List SeenFragment

-- two parts, one behind the other
pub two_parts : (old middle new first second : Fragments) → middle ≡ old ++ first → new ≡ middle ++ second → new ≡ old ++ (first ++ second)
two_parts old middle new first second e f = f ∙ ap (λ (fs : Fragments). fs ++ second) e ∙ append_assoc old first second

-- what is seen of one element more
pub seen_more : {A B : Type 0} (seen : B → A) (elements : List B) (i : ℕ) (next : B) → i < length elements → next ≡ get_or elements i next → map seen (take (i + 1) elements) ≡ map seen (take i elements) ++ seen next ∷ []
seen_more seen elements i next lt found = map_more seen elements i next lt ∙ ap (λ b. map seen (take i elements) ++ seen b ∷ []) (sym found)

module _ {A : Type 0} (separator : SeenFragment) (part : A → Fragments) where
  separated_more : (parts : List A) (next : A) → separated separator part (parts ++ next ∷ []) ≡ (separated separator part parts ++ separator_unless (is_none_of parts) separator) ++ part next
  separated_more [] next = append-nil (part next)
  separated_more (first ∷ rest) next =
      sym (flat_map_more (λ (other : A). separator ∷ part other) (part first) rest next) ∙ sym (append_assoc (separated separator part (first ∷ rest)) (separator ∷ []) (part next))

  -- what is written behind the first part
  pub behind_each : (behind : List A → Fragments) → behind [] ≡ [] → ((first : A) (rest : List A) → behind (first ∷ rest) ≡ separator ∷ (part first ++ behind rest)) → (parts : List A) → behind parts ≡ flat_map (λ other. separator ∷ part other) parts
  behind_each behind none more [] = none
  behind_each behind none more (first ∷ rest) = more first rest ∙ ap (λ (fs : Fragments). separator ∷ (part first ++ fs)) (behind_each behind none more rest)

  module _ (written : List A → Fragments) (is : (parts : List A) → written parts ≡ separated separator part parts) where
    -- one part more
    pub separated_next : (old before middle new : Fragments) (first : Bool) (parts : List A) (next : A) → first ≡ is_none_of parts → before ≡ old ++ written parts → middle ≡ before ++ separator_unless first separator → new ≡ middle ++ part next → new ≡ old ++ written (parts ++ next ∷ [])
    separated_next old before middle new first parts next none e f g =
        let gap = λ (b : Bool). separator_unless b separator in
        g ∙ ap (λ (fs : Fragments). fs ++ part next) (f ∙ ap (λ (fs : Fragments). fs ++ gap first) e ∙ append_assoc old (written parts) (gap first))
        ∙ append_assoc old (written parts ++ gap first) (part next)
        ∙ ap (λ (fs : Fragments). old ++ fs)
        (ap (λ (b : Bool). (written parts ++ gap b) ++ part next) none ∙ ap (λ (fs : Fragments). (fs ++ gap (is_none_of parts)) ++ part next) (is parts) ∙ sym (separated_more parts next) ∙ sym (is (parts ++ next ∷ [])))

    -- The parts that a loop goes over are what is seen of its elements.
    pub separated_step : {B : Type 0} (seen : B → A) (old before middle new : Fragments) (first : Bool) (elements : List B) (i : ℕ) (next : B) → i < length elements → next ≡ get_or elements i next
        → first ≡ is_none_of (map seen (take i elements)) → before ≡ old ++ written (map seen (take i elements)) → middle ≡ before ++ separator_unless first separator → new ≡ middle ++ part (seen next)
        → new ≡ old ++ written (map seen (take (i + 1) elements))
    separated_step seen old before middle new first elements i next lt found none e f g =
        separated_next old before middle new first (map seen (take i elements)) (seen next) none e f g ∙ ap (λ parts. old ++ written parts) (sym (seen_more seen elements i next lt found))

-- one part more, where each holds its own separator
pub flat_step : {A B : Type 0} (part : A → Fragments) (written : List A → Fragments) → ((parts : List A) → written parts ≡ flat_map part parts) → (seen : B → A) (old before new : Fragments) (elements : List B) (i : ℕ) (next : B) → i < length elements → next ≡ get_or elements i next
    → before ≡ old ++ written (map seen (take i elements)) → new ≡ before ++ part (seen next) → new ≡ old ++ written (map seen (take (i + 1) elements))
flat_step part written is seen old before new elements i next lt found e f =
    let parts = map seen (take i elements) in
    f ∙ ap (λ (fs : Fragments). fs ++ part (seen next)) (e ∙ ap (λ (fs : Fragments). old ++ fs) (is parts)) ∙ flat_map_more part old parts (seen next) ∙ ap (λ (fs : Fragments). old ++ fs) (sym (is (parts ++ seen next ∷ [])))
    ∙ ap (λ list. old ++ written list) (sym (seen_more seen elements i next lt found))

-- A loop that has seen a part has seen some.
pub some_seen : {A B : Type 0} (seen : B → A) (elements : List B) (i : ℕ) (next : B) → i < length elements → false ≡ is_none_of (map seen (take (i + 1) elements))
some_seen seen elements i next lt = sym (ap is_none_of (map_more seen elements i next lt) ∙ not_none (map seen (take i elements)) (seen (get_or elements i next)))
