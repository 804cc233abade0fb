-- What marking a place does, and going on from it.
use Rattle.std.proofs.Common.{◌≡◌, ◌⊎◌, inl, inr, ℕ, zero, suc, ◌+◌, ◌-◌, ◌<◌, ◌≤◌, Bool, true, false, true≢false, List, [], ◌∷◌, ◌++◌, length, set, get_or, Option, Some, None, slice_get, refl, sym, ap, ◌∙◌, subst, arith, length-append}
use Rattle.std.proofs.lemmas.Bool.{cases_lt}
use Rattle.std.proofs.lemmas.List.{get_or-set_same, get_or-set_other, length-set}
use Rattle.std.proofs.lemmas.Option.{slice_get-get_or, slice_get_read, same_Some}
use Rattle.std.specs.Prelude.{slice_index_or}
use Rattle.dy_code.specs.Fetching.{Instruction}
use Rattle.dy_lowered.specs.Stretches.{ways, ways_of, ways_from, reached}
use Rattle.dy_stretch.specs.Walks.{held, IsIn, IsMarked, unmarked, Marks, IsWalked, VisitsTo, AreReached}
use Rattle.dy_stretch.proofs.Reaching.{in_either, in_front, in_back, reach_more, reach_to}

-- two numbers are the same, or one is less
pub told_apart : (i j : ℕ) → (i ≡ j) ⊎ ((i ≡ j) → ⊥)
told_apart i j = by (cases_lt i j) (cases_lt j i)
  where
    by : (i < j) ⊎ (j ≤ i) → (j < i) ⊎ (i ≤ j) → (i ≡ j) ⊎ ((i ≡ j) → ⊥)
    by (inl l) r = inr (λ e. omega (arith, l, e))
    by (inr l) (inl g) = inr (λ e. omega (arith, g, e))
    by (inr l) (inr g) = inl (omega (arith, l, g))

-- what is read at a place is there
pub read_as : {A : Type 0} (xs : List A) (i : ℕ) (x d : A) → i < length xs → x ≡ slice_index_or xs i x → get_or xs i d ≡ x
read_as xs i x d l e = same_Some (get_or xs i d) x (sym (slice_get-get_or xs i d l) ∙ slice_get_read xs (length xs) i x refl l e)

unmarked_set : (marks : List Bool) (i : ℕ) → i < length marks → get_or marks i true ≡ false → unmarked marks ≡ suc (unmarked (set marks i true))
unmarked_set [] i l e = absurd (omega (arith, l))
unmarked_set (true ∷ marks) zero l e = absurd (true≢false e)
unmarked_set (false ∷ marks) zero l e = refl
unmarked_set (true ∷ marks) (suc i) l e = let m : i < length marks = omega (arith, l) in unmarked_set marks i m e
unmarked_set (false ∷ marks) (suc i) l e = let m : i < length marks = omega (arith, l) in ap suc (unmarked_set marks i m e)

unmarked_most : (marks : List Bool) → unmarked marks ≤ length marks
unmarked_most [] = omega arith
unmarked_most (true ∷ marks) = let h = unmarked_most marks in omega (arith, h)
unmarked_most (false ∷ marks) = let h = unmarked_most marks in omega (arith, h)

only_one : (x y : ℕ) → IsIn x (y ∷ []) → x ≡ y
only_one x y (inl e) = e
only_one x y (inr h) = absurd h

pub marks_none : (old : List Bool) (before : List ℕ) → Marks None old old before before
marks_none old before = record {
  long = refl;
  kept = λ other h. h;
  marked = λ way h. absurd h;
  only = λ other h. inl h;
  waits = λ other h. h;
  further = λ other h. inl h;
  fewer = omega arith;
  spent = refl;
}

pub marks_there : (place : ℕ) (old : List Bool) (before : List ℕ) → IsMarked old place → Marks (Some place) old old before before
marks_there place old before there = record {
  long = refl;
  kept = λ other h. h;
  marked = λ way h. subst (IsMarked old) (sym (only_one way place h)) there;
  only = λ other h. inl h;
  waits = λ other h. h;
  further = λ other h. inl h;
  fewer = omega arith;
  spent = refl;
}

module _ (place : ℕ) (old : List Bool) (before : List ℕ) (l : place < length old) (e : get_or old place true ≡ false) where
  abbrev new : List Bool
  new = set old place true

  abbrev after : List ℕ
  after = before ++ place ∷ []

  one_less : unmarked old ≡ suc (unmarked new)
  one_less = unmarked_set old place l e

  here : IsMarked new place
  here = get_or-set_same old place true true l

  at_one : (other : ℕ) → other ≡ place → IsMarked new other
  at_one other same = subst (IsMarked new) (sym same) here

  apart : (other : ℕ) → ((other ≡ place) → ⊥) → get_or new other true ≡ get_or old other true
  apart other f = get_or-set_other old place other true true f

  kept_by : (other : ℕ) → IsMarked old other → (other ≡ place) ⊎ ((other ≡ place) → ⊥) → IsMarked new other
  kept_by other h (inl same) = at_one other same
  kept_by other h (inr f) = apart other f ∙ h

  only_by : (other : ℕ) → IsMarked new other → (other ≡ place) ⊎ ((other ≡ place) → ⊥) → IsMarked old other ⊎ ((unmarked new < unmarked old) × IsIn other (held (Some place)) × IsIn other after)
  only_by other h (inl same) =
      let less = one_less in
      inr ((omega (arith, less), inl same, in_back other before (place ∷ []) (inl same)))
  only_by other h (inr f) = inl (sym (apart other f) ∙ h)

  further_by : (other : ℕ) → IsIn other before ⊎ IsIn other (place ∷ []) → IsIn other before ⊎ IsMarked new other
  further_by other (inl h) = inl h
  further_by other (inr h) = inr (at_one other (only_one other place h))

  pub marks_new : Marks (Some place) old new before after
  marks_new =
      let less = one_less in
      let more = length-append before (place ∷ []) in
      record {
        long = length-set old place true;
        kept = λ other h. kept_by other h (told_apart other place);
        marked = λ way h. at_one way (only_one way place h);
        only = λ other h. only_by other h (told_apart other place);
        waits = λ other h. in_front other before (place ∷ []) h;
        further = λ other h. further_by other (in_either other before (place ∷ []) h);
        fewer = omega (arith, less);
        spent = omega (arith, less, more);
      }

module _ (code : List Instruction) (place : ℕ) (rest : List ℕ) (old : List Bool) where
  -- a place behind the code is passed over
  pub passed : length code ≤ place → VisitsTo code place old old rest rest
  passed far = record {
    walked = λ m. record {
      long = m.long;
      first = m.first;
      sound = m.sound;
      waits = λ q h. m.waits q (in_front q rest (place ∷ []) h);
      gone = λ q l h. past q l (m.gone q l h);
    };
    spent = refl;
  }
    where
      past : (q : ℕ) → q < length code → IsIn q (rest ++ place ∷ []) ⊎ ((way : ℕ) → IsIn way (ways_from code q) → IsMarked old way) → IsIn q rest ⊎ ((way : ℕ) → IsIn way (ways_from code q) → IsMarked old way)
      past q l (inr closed) = inr closed
      past q l (inl h) = either (in_either q rest (place ∷ []) h)
        where
          either : IsIn q rest ⊎ IsIn q (place ∷ []) → IsIn q rest ⊎ ((way : ℕ) → IsIn way (ways_from code q) → IsMarked old way)
          either (inl k) = inl k
          either (inr k) = let at = only_one q place k in absurd (omega (arith, l, far, at))

  module _ (mid new : List Bool) (between after : List ℕ) (i : Instruction) (next jump : Option ℕ) (within : place < length code) (e : slice_get code place ≡ Some i)
      (w : ways (place + 1) i ≡ held next ++ held jump) (a : Marks next old mid rest between) (b : Marks jump mid new between after) where
    leads : ways_from code place ≡ held next ++ held jump
    leads = ap (ways_of (place + 1)) e ∙ w

    module _ (m : IsWalked code old (rest ++ place ∷ [])) where
      there : IsMarked old place
      there = m.waits place (in_back place rest (place ∷ []) (inl refl))

      reached_here : (steps : ℕ) → steps + unmarked old ≡ length code → IsIn place (reached code steps 0)
      reached_here steps all = m.sound place within there steps all

      old_steps : length code - unmarked old + unmarked old ≡ length code
      old_steps = let n = unmarked_most old in let k = m.long in omega (arith, n, k)

      -- a place to which the instruction leads is reached by one step more
      onward : (q steps : ℕ) → steps + unmarked new ≡ length code → unmarked new < unmarked old → IsIn q (held next ++ held jump) → IsIn q (reached code steps 0)
      onward q steps all less h =
          let n = unmarked_most old in
          let k = m.long in
          let from = length code - unmarked old in
          let enough : suc from ≤ steps = omega (arith, all, less, n, k) in
          reach_to code (suc from) steps 0 q enough (reach_more code from 0 place q (reached_here from old_steps) (subst (IsIn q) (sym leads) h))

      sound_at : (q : ℕ) → q < length code → IsMarked new q → (steps : ℕ) → steps + unmarked new ≡ length code → IsIn q (reached code steps 0)
      sound_at q n h steps all = first (b.only q h)
        where
          second : IsMarked old q ⊎ ((unmarked mid < unmarked old) × IsIn q (held next) × IsIn q between) → IsIn q (reached code steps 0)
          second (inl o) =
              let f = a.fewer in
              let g = b.fewer in
              let t = unmarked_most old in
              let k = m.long in
              let from = length code - unmarked old in
              let enough : from ≤ steps = omega (arith, all, f, g, t, k) in
              reach_to code from steps 0 q enough (m.sound q n o from old_steps)
          second (inr r) =
              let f = r.0 in
              let g = b.fewer in
              onward q steps all (omega (arith, f, g)) (in_front q (held next) (held jump) r.1)

          first : IsMarked mid q ⊎ ((unmarked new < unmarked mid) × IsIn q (held jump) × IsIn q after) → IsIn q (reached code steps 0)
          first (inl o) = second (a.only q o)
          first (inr r) =
              let f = r.0 in
              let g = a.fewer in
              onward q steps all (omega (arith, f, g)) (in_back q (held next) (held jump) r.1)

      here_closed : (way : ℕ) → IsIn way (ways_from code place) → IsMarked new way
      here_closed way h = by (in_either way (held next) (held jump) (subst (IsIn way) leads h))
        where
          by : IsIn way (held next) ⊎ IsIn way (held jump) → IsMarked new way
          by (inl x) = b.kept way (a.marked way x)
          by (inr x) = b.marked way x

      waits_at : (q : ℕ) → IsIn q after → IsMarked new q
      waits_at q h = first (b.further q h)
        where
          second : IsIn q rest ⊎ IsMarked mid q → IsMarked mid q
          second (inl x) = a.kept q (m.waits q (in_front q rest (place ∷ []) x))
          second (inr x) = x

          first : IsIn q between ⊎ IsMarked new q → IsMarked new q
          first (inl x) = b.kept q (second (a.further q x))
          first (inr x) = x

      gone_at : (q : ℕ) → q < length code → IsMarked new q → IsIn q after ⊎ ((way : ℕ) → IsIn way (ways_from code q) → IsMarked new way)
      gone_at q n h = first (b.only q h)
        where
          third : IsIn q rest ⊎ IsIn q (place ∷ []) → IsIn q after ⊎ ((way : ℕ) → IsIn way (ways_from code q) → IsMarked new way)
          third (inl x) = inl (b.waits q (a.waits q x))
          third (inr x) = inr (λ way v. here_closed way (subst (λ (p : ℕ). IsIn way (ways_from code p)) (only_one q place x) v))

          fourth : IsIn q (rest ++ place ∷ []) ⊎ ((way : ℕ) → IsIn way (ways_from code q) → IsMarked old way) → IsIn q after ⊎ ((way : ℕ) → IsIn way (ways_from code q) → IsMarked new way)
          fourth (inl x) = third (in_either q rest (place ∷ []) x)
          fourth (inr x) = inr (λ way v. b.kept way (a.kept way (x way v)))

          second : IsMarked old q ⊎ ((unmarked mid < unmarked old) × IsIn q (held next) × IsIn q between) → IsIn q after ⊎ ((way : ℕ) → IsIn way (ways_from code q) → IsMarked new way)
          second (inl o) = fourth (m.gone q n o)
          second (inr r) = inl (b.waits q r.2)

          first : IsMarked mid q ⊎ ((unmarked new < unmarked mid) × IsIn q (held jump) × IsIn q after) → IsIn q after ⊎ ((way : ℕ) → IsIn way (ways_from code q) → IsMarked new way)
          first (inl o) = second (a.only q o)
          first (inr r) = inl r.2

      walked_on : IsWalked code new after
      walked_on = record {
        long = b.long ∙ a.long ∙ m.long;
        first = b.kept 0 (a.kept 0 m.first);
        sound = sound_at;
        waits = waits_at;
        gone = gone_at;
      }

    -- the ways from a place are marked
    pub visited : VisitsTo code place old new rest after
    visited = record {
      walked = walked_on;
      spent = b.spent ∙ a.spent;
    }

no_length : (xs : List ℕ) → length xs ≡ 0 → xs ≡ []
no_length [] e = refl
no_length (x ∷ xs) e = absurd (omega (arith, e))

-- where no place waits, all that are reached are marked
pub all_reached : (code : List Instruction) (marks : List Bool) (waiting : List ℕ) → length waiting ≡ 0 → IsWalked code marks waiting → AreReached code marks
all_reached code marks waiting none m = record {
  long = m.long;
  first = m.first;
  sound = λ place l h. sound_at place l h;
  closed = λ place l h. by place (m.gone place l h);
}
  where
    sound_at : (place : ℕ) → place < length code → IsMarked marks place → IsIn place (reached code (length code) 0)
    sound_at place l h =
        let n = unmarked_most marks in
        let k = m.long in
        let steps = length code - unmarked marks in
        let all : steps + unmarked marks ≡ length code = omega (arith, n, k) in
        let enough : steps ≤ length code = omega arith in
        reach_to code steps (length code) 0 place enough (m.sound place l h steps all)

    by : (place : ℕ) → IsIn place waiting ⊎ ((way : ℕ) → IsIn way (ways_from code place) → IsMarked marks way) → (way : ℕ) → IsIn way (ways_from code place) → IsMarked marks way
    by place (inl h) = absurd (subst (IsIn place) (no_length waiting none) h)
    by place (inr closed) = closed
