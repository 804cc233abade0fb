-- What has a first fault is refused with it.
use Rattle.std.proofs.Common.{◌≡◌, ◌⊎◌, ℕ, zero, suc, ◌+◌, ◌≤◌, Bool, true, false, cond, ltb, inl, inr, List, [], ◌∷◌, length, map, Option, Some, None, Ok, Err, refl, sym, ap, subst, ◌∙◌, arith}
use Rattle.std.specs.Prelude.{slice_get}
use Rattle.std.proofs.lemmas.Bool.{ltb-true, ltb-false}
use Rattle.std.proofs.lemmas.List.{length-map}
use Rattle.std.proofs.lemmas.Option.{slice_get_within}
use Rattle.dy_base.specs.declared.kind.Kind.{Kind}
use Rattle.dy_base.specs.declared.kind.Kind.TheVariants.{Unbalanced, TooDeep}
use Rattle.dy_base.specs.declared.fault.Place.{Place}
use Rattle.dy_base.specs.declared.fault.Fault.{Fault}
use Rattle.dy_tree.specs.declared.token.Token.{Token}
use Rattle.dy_tree.specs.declared.words.Words.{Words}
use Rattle.dy_tree.specs.Fragments.{SeenFragment}
use Rattle.dy_fragment.specs.declared.front.Context.{Context}
use Rattle.dy_fragment.specs.declared.front.Closer.{Closer}
use Rattle.dy_fragment.specs.declared.front.Front.{Front}
use Rattle.dy_fragment.specs.declared.front.Front.TheVariants.{Leaf, Opens, Closes, Wrong}
use Rattle.dy_fragment.specs.declared.closing.Closing.{Closing}
use Rattle.dy_fragment.specs.declared.closing.Closed.{Closed}
use Rattle.dy_fragment.specs.declared.closing.Closed.TheVariants as closes
use Rattle.dy_fragment.specs.Fronts.{front_at}
use Rattle.dy_fragment.specs.Closings.{close}
use Rattle.dy_fragment.specs.Steps.{SeenOpen, Grouping, fault_at, earlier, deeper, closed_step, close_step, step_by, and_then, or_finish, finish_with, run, start, group_within}
use Rattle.dy_fragment.specs.Groups.{Grouped, depth}
use Rattle.dy_fragment.specs.Faults.{Pending, Reached, outside, inside, Unfit, no_opener, wrong_closer, no_definition_word, left_open, DeepAt, Refused, unbalanced, too_deep, both}
use Rattle.dy_fragment.proofs.Reading.{state_at, deeper_within, reads, open_goes, one_less}
use Rattle.dy_fragment.proofs.Turns.{run_end}
use Rattle.dy_fragment.proofs.Verdicts.{given_all, given_deep}
use Rattle.dy_fragment.proofs.Refusing.{pending}

abbrev failing : Fault → Grouping
failing f = Err f

abbrev kind_in : Grouping → Kind
kind_in (Ok fs) = Unbalanced
kind_in (Err f) = f.kind

abbrev place_in : Grouping → Option Place
place_in (Ok fs) = None
place_in (Err f) = f.place

two_kinds : Unbalanced ≡ TooDeep → ⊥
two_kinds e = absurd cc

same_some : (p q : Place) → Some p ≡ Some q → p ≡ q
same_some p q e = cc

not_both : (r : Grouping) (p q : Place) → r ≡ Err (fault_at Unbalanced p) → r ≡ Err (fault_at TooDeep q) → ⊥
not_both r p q d e = two_kinds (ap kind_in (sym d ∙ e))

same_place : (r : Grouping) (k l : Kind) (p q : Place) → r ≡ Err (fault_at k p) → r ≡ Err (fault_at l q) → p ≡ q
same_place r k l p q d e = same_some p q (ap place_in (sym d ∙ e))

-- the fault that is told, by whether what is too deep stands earlier
earlier_by : (q p : Place) (b : Bool) → ltb q.offset p.offset ≡ b → failing (earlier (Some q) p) ≡ failing (cond b (fault_at TooDeep q) (fault_at Unbalanced p))
earlier_by q p b is = rw is refl

deeper_beyond : (limit : ℕ) (deep : Option Place) (depth : ℕ) (p : Place) → deep ≡ None → limit ≤ depth → deeper limit deep depth p ≡ Some p
deeper_beyond limit (Some q) depth p e h = absurd cc
deeper_beyond limit None depth p e h = by_test (ltb depth limit) refl
  where
    by_test : (b : Bool) → ltb depth limit ≡ b → cond (ltb depth limit) None (Some p) ≡ Some p
    by_test true is = let less = ltb-true depth limit is in absurd (omega arith)
    by_test false is = rw is refl

module _ (limit : ℕ) (words : Words) (tokens : List Token) where
  -- what grouping comes to where these openers are pending
  record Comes (at : ℕ) (c : Context) (ps : List Pending) (m : ℕ) : Type 0 where
    left : ℕ
    opens : List SeenOpen
    row : List SeenFragment
    deep : Option Place
    enough : length tokens ≤ left + at
    goes : group_within limit words tokens ≡ run limit words tokens left (state_at at c opens row deep)
    pend : map pending opens ≡ ps
    within : m ≤ limit → deep ≡ None

  comes : (at : ℕ) (c : Context) (ps : List Pending) (m : ℕ) → Reached words tokens at c ps m → Comes at c ps m
  comes at c ps m (outside a b fs m2 groups is) =
      let r = reads limit words tokens 0 start at c fs groups (length tokens) [] [] None (omega arith) in
      record { left = r.left; opens = []; row = r.new_row; deep = r.new_deep; enough = r.enough; goes = r.goes; pend = refl; within = λ h. r.within refl (omega arith) }
  comes at c ps m (inside a b c2 d e t k os fs m2 n reached found front groups is) =
      let s = comes a c2 os m2 reached in
      let (left1, less) = one_less limit words tokens s.left a (slice_get_within tokens a t found) s.enough in
      let o : SeenOpen = record { opener = t; closing = k; before = s.row } in
      let total : length tokens ≤ s.left + a = s.enough in
      let r = reads limit words tokens (a + 1) d at c fs groups left1 (o ∷ s.opens) [] (deeper limit s.deep (length s.opens) t.place) (omega arith) in
      let size : length s.opens ≡ length os = sym (length-map s.opens pending) ∙ ap length s.pend in
      record {
        left = r.left;
        opens = o ∷ s.opens;
        row = r.new_row;
        deep = r.new_deep;
        enough = r.enough;
        goes = s.goes
            ∙ ap (λ (n : ℕ). run limit words tokens n (state_at a c2 s.opens s.row s.deep)) less
            ∙ open_goes limit words tokens left1 a c2 d t k s.opens s.row s.deep found front ∙ r.goes;
        pend = ap (λ (ps : List Pending). record { opener = t; closing = k } ∷ ps) s.pend;
        within = λ h. r.within (deeper_within limit s.deep (length s.opens) t.place (s.within (omega arith)) (omega arith)) (omega arith);
      }

  -- ---- after an opener that is too deep

  abbrev Told : Place → Grouping → Type 0
  Told q r = (r ≡ Err (fault_at TooDeep q)) ⊎ ((p : Place) × (r ≡ Err (earlier (Some q) p)))

  abbrev TellsAll : Place → ℕ → Type 0
  TellsAll q n = (at : ℕ) (c : Context) (os : List SeenOpen) (row : List SeenFragment) → Told q (run limit words tokens n (state_at at c os row (Some q)))

  finish_tells : (q : Place) (row : List SeenFragment) (os : List SeenOpen) → Told q (finish_with (Some q) row os)
  finish_tells q row [] = inl refl
  finish_tells q row (o ∷ os) = inr (o.opener.place, refl)

  tells_closed : (n : ℕ) (q : Place) (t : Token) (o : SeenOpen) (os : List SeenOpen) (row : List SeenFragment) (r : Closed) → TellsAll q n
      → Told q (and_then (closed_step (Some q) row t o os r) (λ next. run limit words tokens n next))
  tells_closed n q t o os row (closes.At to g) more = more to g os o.before
  tells_closed n q t o os row (closes.Wrong p) more = inr (p, refl)

  tells_close : (n : ℕ) (q : Place) (at : ℕ) (c : Context) (t : Token) (j : Closer) (os : List SeenOpen) (row : List SeenFragment) → TellsAll q n
      → Told q (and_then (close_step words tokens (state_at at c os row (Some q)) t j os) (λ next. run limit words tokens n next))
  tells_close n q at c t j [] row more = inr (t.place, refl)
  tells_close n q at c t j (o ∷ os) row more = tells_closed n q t o os row (close words tokens o.closing j t (at + 1) c) more

  tells_by : (n : ℕ) (q : Place) (at : ℕ) (c : Context) (t : Token) (os : List SeenOpen) (row : List SeenFragment) (front : Front) → TellsAll q n
      → Told q (and_then (step_by limit words tokens (state_at at c os row (Some q)) t front) (λ next. run limit words tokens n next))
  tells_by n q at c t os row (Leaf d) more = more (at + 1) d os row
  tells_by n q at c t os row (Opens k d) more = more (at + 1) d (record { opener = t; closing = k; before = row } ∷ os) []
  tells_by n q at c t os row (Closes j) more = tells_close n q at c t j os row more
  tells_by n q at c t os row Wrong more = inr (t.place, refl)

  tells_found : (n : ℕ) (q : Place) (at : ℕ) (c : Context) (os : List SeenOpen) (row : List SeenFragment) (found : Option Token) → TellsAll q n
      → Told q (or_finish limit words tokens (state_at at c os row (Some q)) found (λ next. run limit words tokens n next))
  tells_found n q at c os row None more = finish_tells q row os
  tells_found n q at c os row (Some t) more = tells_by n q at c t os row (front_at words tokens t at c) more

  tells : (q : Place) (n : ℕ) → TellsAll q n
  tells q zero at c os row = finish_tells q row os
  tells q (suc n) at c os row = tells_found n q at c os row (slice_get tokens at) (tells q n)

  deep_told : (p : Place) → DeepAt limit words tokens p → Told p (group_within limit words tokens)
  deep_told p (at, m, c, d, t, k, os, reached, fits, size, found, front, is) =
      let s = comes at c os m reached in
      let (left1, less) = one_less limit words tokens s.left at (slice_get_within tokens at t found) s.enough in
      let sizes : length s.opens ≡ length os = sym (length-map s.opens pending) ∙ ap length s.pend in
      let o : SeenOpen = record { opener = t; closing = k; before = s.row } in
      let too : deeper limit s.deep (length s.opens) t.place ≡ Some p = deeper_beyond limit s.deep (length s.opens) t.place (s.within fits) (omega arith) ∙ ap (λ (q : Place). Some q) (sym is) in
      let goes : group_within limit words tokens ≡ run limit words tokens left1 (state_at (at + 1) d (o ∷ s.opens) [] (Some p)) =
      s.goes
      ∙ ap (λ (n : ℕ). run limit words tokens n (state_at at c s.opens s.row s.deep)) less
      ∙ open_goes limit words tokens left1 at c d t k s.opens s.row s.deep found front
      ∙ ap (λ (q : Option Place). run limit words tokens left1 (state_at (at + 1) d (o ∷ s.opens) [] q)) too in
      subst (λ (r : Grouping). Told p r) (sym goes) (tells p left1 (at + 1) d (o ∷ s.opens) [])

  -- ---- where something is not balanced

  abbrev Stops : ℕ → Place → Type 0
  Stops m p = (deep : Option Place) × (group_within limit words tokens ≡ Err (earlier deep p)) × (m ≤ limit → deep ≡ None)

  without_opener : (n at : ℕ) (c : Context) (t : Token) (j : Closer) (os : List SeenOpen) (row : List SeenFragment) (deep : Option Place) → map pending os ≡ []
      → slice_get tokens at ≡ Some t → front_at words tokens t at c ≡ Closes j → run limit words tokens (suc n) (state_at at c os row deep) ≡ Err (earlier deep t.place)
  without_opener n at c t j [] row deep e found front = rw (found, front) refl
  without_opener n at c t j (o ∷ os) row deep e found front = absurd cc

  with_wrong : (n at : ℕ) (c : Context) (t : Token) (j : Closer) (o : Pending) (ps : List Pending) (p : Place) (os : List SeenOpen) (row : List SeenFragment) (deep : Option Place) → map pending os ≡ o ∷ ps
      → slice_get tokens at ≡ Some t → front_at words tokens t at c ≡ Closes j → close words tokens o.closing j t (at + 1) c ≡ closes.Wrong p
      → run limit words tokens (suc n) (state_at at c os row deep) ≡ Err (earlier deep p)
  with_wrong n at c t j o ps p [] row deep e found front is = absurd cc
  with_wrong n at c t j o ps p (x ∷ xs) row deep e found front is =
      let same : x.closing ≡ o.closing = cc in
      let wrong : close words tokens x.closing j t (at + 1) c ≡ closes.Wrong p = ap (λ (k : Closing). close words tokens k j t (at + 1) c) same ∙ is in
      rw (found, front, wrong) refl

  with_define : (n at : ℕ) (c : Context) (t : Token) (os : List SeenOpen) (row : List SeenFragment) (deep : Option Place)
      → slice_get tokens at ≡ Some t → front_at words tokens t at c ≡ Wrong → run limit words tokens (suc n) (state_at at c os row deep) ≡ Err (earlier deep t.place)
  with_define n at c t os row deep found front = rw (found, front) refl

  with_open : (o : Pending) (ps : List Pending) (os : List SeenOpen) (row : List SeenFragment) (deep : Option Place) → map pending os ≡ o ∷ ps → finish_with deep row os ≡ Err (earlier deep o.opener.place)
  with_open o ps [] row deep e = absurd cc
  with_open o ps (x ∷ xs) row deep e = let same : x.opener ≡ o.opener = cc in ap (λ (t : Token). failing (earlier deep t.place)) same

  stops : (m : ℕ) (p : Place) → Unfit words tokens m p → Stops m p
  stops m p (no_opener at m2 c t j p2 reached found front is) =
      let s = comes at c [] m reached in
      let (left1, less) = one_less limit words tokens s.left at (slice_get_within tokens at t found) s.enough in (
        s.deep,
        s.goes ∙ ap (λ (n : ℕ). run limit words tokens n (state_at at c s.opens s.row s.deep)) less
            ∙ without_opener left1 at c t j s.opens s.row s.deep s.pend found front ∙ ap (λ (q : Place). failing (earlier s.deep q)) (sym is),
        s.within,
      )
  stops m p (wrong_closer at m2 c t j o ps p2 reached found front is) =
      let s = comes at c (o ∷ ps) m reached in
      let (left1, less) = one_less limit words tokens s.left at (slice_get_within tokens at t found) s.enough in (
        s.deep,
        s.goes ∙ ap (λ (n : ℕ). run limit words tokens n (state_at at c s.opens s.row s.deep)) less
            ∙ with_wrong left1 at c t j o ps p s.opens s.row s.deep s.pend found front is,
        s.within,
      )
  stops m p (no_definition_word at m2 c t ps p2 reached found front is) =
      let s = comes at c ps m reached in
      let (left1, less) = one_less limit words tokens s.left at (slice_get_within tokens at t found) s.enough in (
        s.deep,
        s.goes ∙ ap (λ (n : ℕ). run limit words tokens n (state_at at c s.opens s.row s.deep)) less
            ∙ with_define left1 at c t s.opens s.row s.deep found front ∙ ap (λ (q : Place). failing (earlier s.deep q)) (sym is),
        s.within,
      )
  stops m p (left_open at m2 c o ps p2 reached ends is) =
      let s = comes at c (o ∷ ps) m reached in (
        s.deep,
        s.goes ∙ run_end limit words tokens s.left (state_at at c s.opens s.row s.deep) ends
            ∙ with_open o ps s.opens s.row s.deep s.pend ∙ ap (λ (q : Place). failing (earlier s.deep q)) (sym is),
        s.within,
      )

  -- ---- the two together

  told_deep : (r : Grouping) (q q2 : Place) → Told q r → r ≡ Err (fault_at TooDeep q2) → r ≡ Err (fault_at TooDeep q)
  told_deep r q q2 (inl e) h = e
  told_deep r q q2 (inr (p, e)) h = by_test (ltb q.offset p.offset) refl
    where
      by_test : (b : Bool) → ltb q.offset p.offset ≡ b → r ≡ Err (fault_at TooDeep q)
      by_test true is = e ∙ earlier_by q p true is
      by_test false is = absurd (not_both r p q2 (e ∙ earlier_by q p false is) h)

  grouped_deep : (p : Place) (fs : List SeenFragment) → DeepAt limit words tokens p → Grouped words tokens fs → group_within limit words tokens ≡ Err (fault_at TooDeep p)
  grouped_deep p fs deep grouped = by_depth (ltb limit (depth fs)) refl
    where
      never : (r : Grouping) → Told p r → r ≡ Ok fs → ⊥
      never r (inl e) h = absurd cc
      never r (inr (q, e)) h = absurd cc

      by_depth : (b : Bool) → ltb limit (depth fs) ≡ b → group_within limit words tokens ≡ Err (fault_at TooDeep p)
      by_depth true is =
          let (q, e) = given_deep limit words tokens fs grouped (ltb-true limit (depth fs) is) in
          told_deep (group_within limit words tokens) p q (deep_told p deep) e
      by_depth false is = absurd (never (group_within limit words tokens) (deep_told p deep) (given_all limit words tokens fs grouped (ltb-false limit (depth fs) is)))

  unbalanced_told : (r : Grouping) (p q : Place) → r ≡ Err (fault_at Unbalanced p) → Told q r → r ≡ Err (earlier (Some q) p)
  unbalanced_told r p q e (inl h) = absurd (not_both r p q e h)
  unbalanced_told r p q e (inr (p2, h)) = by_test (ltb q.offset p2.offset) refl
    where
      by_test : (b : Bool) → ltb q.offset p2.offset ≡ b → r ≡ Err (earlier (Some q) p)
      by_test true is = absurd (not_both r p q e (h ∙ earlier_by q p2 true is))
      by_test false is = h ∙ ap (λ (x : Place). failing (earlier (Some q) x)) (same_place r Unbalanced Unbalanced p2 p (h ∙ earlier_by q p2 false is) e)

  -- both faults stand: the earlier one is told
  both_told : (r : Grouping) (deep : Option Place) (p q : Place) → r ≡ Err (earlier deep p) → Told q r → r ≡ Err (earlier (Some q) p)
  both_told r None p q e told = unbalanced_told r p q e told
  both_told r (Some q2) p q e told = by_test (ltb q2.offset p.offset) refl
    where
      by_test : (b : Bool) → ltb q2.offset p.offset ≡ b → r ≡ Err (earlier (Some q) p)
      by_test true is =
          let deep : r ≡ Err (fault_at TooDeep q2) = e ∙ earlier_by q2 p true is in
          let same : q2 ≡ q = same_place r TooDeep TooDeep q2 q deep (told_deep r q q2 told deep) in
          e ∙ ap (λ (x : Place). failing (earlier (Some x) p)) same
      by_test false is = unbalanced_told r p q (e ∙ earlier_by q2 p false is) told

  pub determined : (f : Fault) → Refused limit words tokens f → group_within limit words tokens ≡ Err f
  determined f (unbalanced m p g unfit fits is) =
      let (deep, e, within) = stops m p unfit in
      e ∙ ap (λ (d : Option Place). failing (earlier d p)) (within fits) ∙ ap failing (sym is)
  determined f (too_deep p fs g deep grouped is) = grouped_deep p fs deep grouped ∙ ap failing (sym is)
  determined f (both m p q g unfit deep is) =
      let (d, e, within) = stops m p unfit in
      both_told (group_within limit words tokens) d p q e (deep_told q deep) ∙ ap failing (sym is)
