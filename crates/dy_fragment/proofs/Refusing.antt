-- What is refused has the fault that is told.
use Rattle.std.proofs.Common.{◌≡◌, ℕ, zero, suc, ◌+◌, ◌≤◌, max, Bool, true, false, ltb, List, [], ◌∷◌, ◌++◌, length, map, Option, Some, None, Err, refl, sym, arith}
use Rattle.std.specs.Prelude.{slice_get}
use Rattle.std.proofs.lemmas.Bool.{ltb-true, ltb-false}
use Rattle.std.proofs.lemmas.List.{length-map}
use Rattle.std.proofs.lemmas.Option.{slice_get_past}
use Rattle.dy_base.specs.declared.kind.Kind.TheVariants.{TooDeep}
use Rattle.dy_base.specs.declared.fault.Place.{Place}
use Rattle.dy_base.specs.declared.fault.Fault.{Fault}
use Rattle.dy_tree.specs.declared.token.Token.{Token}
use Rattle.dy_tree.specs.declared.words.Words.{Words}
use Rattle.dy_tree.specs.Fragments.{SeenFragment, one, group, pack}
use Rattle.dy_fragment.specs.declared.front.Context.{Context}
use Rattle.dy_fragment.specs.declared.front.Closer.{Closer}
use Rattle.dy_fragment.specs.declared.front.Front.{Front}
use Rattle.dy_fragment.specs.declared.front.Front.TheVariants.{Leaf, Opens, Closes, Wrong}
use Rattle.dy_fragment.specs.declared.closing.Closing.{Closing}
use Rattle.dy_fragment.specs.declared.closing.Closed.{Closed}
use Rattle.dy_fragment.specs.declared.closing.Closed.TheVariants as closes
use Rattle.dy_fragment.specs.Fronts.{front_at}
use Rattle.dy_fragment.specs.Closings.{close}
use Rattle.dy_fragment.specs.Steps.{SeenOpen, Grouping, fault_at, earlier, with_tree, deeper, closed_step, close_step, step_by, and_then, or_finish, finish_with, run, start, group_within}
use Rattle.dy_fragment.specs.Groups.{Groups, nothing, leaf, closed, depth}
use Rattle.dy_fragment.specs.Faults.{Pending, Reached, outside, inside, Unfit, no_opener, wrong_closer, no_definition_word, left_open, DeepAt, Refused, unbalanced, too_deep, both}
use Rattle.dy_fragment.proofs.Ahead.{close_ahead}
use Rattle.dy_fragment.proofs.Reading.{state_at}

abbrev pub pending : SeenOpen → Pending
pending o = record { opener = o.opener; closing = o.closing }

depth_append : (fs gs : List SeenFragment) → depth (fs ++ gs) ≡ max (depth fs) (depth gs)
depth_append [] gs = omega arith
depth_append (f ∷ fs) gs = let below = depth_append fs gs in omega arith

module _ (limit : ℕ) (words : Words) (tokens : List Token) where
  groups_append : (at : ℕ) (c : Context) (mid : ℕ) (d : Context) (fs : List SeenFragment) (to : ℕ) (e : Context) (gs : List SeenFragment)
      → Groups words tokens at c mid d fs → Groups words tokens mid d to e gs → Groups words tokens at c to e (fs ++ gs)
  groups_append at c mid d fs to e gs (nothing a b) h = h
  groups_append at c mid d fs to e gs (leaf a b c2 d2 e2 t fs2 found front more) h = leaf at to c d2 e t (fs2 ++ gs) found front (groups_append (at + 1) d2 mid d fs2 to e gs more h)
  groups_append at c mid d fs to e gs (closed a end after b c2 d2 e2 g2 h2 opener closer k j inner fs2 found front within met ends is more) h =
      closed at end after to c d2 e2 g2 e opener closer k j inner (fs2 ++ gs) found front within met ends is (groups_append after g2 mid d fs2 to e gs more h)

  abbrev Further : ℕ → Context → List Pending → ℕ → List SeenFragment → Type 0
  Further to e os m gs = (n : ℕ) × Reached words tokens to e os n × (n ≡ max m (length os + depth gs))

  further : (at : ℕ) (c : Context) (os : List Pending) (m to : ℕ) (e : Context) (gs : List SeenFragment)
      → Reached words tokens at c os m → Groups words tokens at c to e gs → Further to e os m gs
  further at c os m to e gs (outside a b fs m2 groups is) more =
      let sum = depth_append fs gs in
      (depth (fs ++ gs), outside to e (fs ++ gs) (depth (fs ++ gs)) (groups_append 0 start at c fs to e gs groups more) refl, omega arith)
  further at c os m to e gs (inside a b c2 d e2 t k os2 fs m2 n reached found front groups is) more =
      let sum = depth_append fs gs in (
        max m2 (suc (length os2) + depth (fs ++ gs)),
        inside a to c2 d e t k os2 (fs ++ gs) m2 (max m2 (suc (length os2) + depth (fs ++ gs))) reached found front (groups_append (a + 1) d at c fs to e gs groups more) refl,
        omega arith,
      )

  -- how the innermost group was reached
  abbrev Around : ℕ → Context → ℕ → List Pending → Type 0
  Around at c n [] = Unit {0}
  Around at c n (o ∷ os) =
      (from : ℕ) × (b : Context) × (d : Context) × (fs : List SeenFragment) × (m : ℕ) × Reached words tokens from b os m
      × (slice_get tokens from ≡ Some o.opener) × (front_at words tokens o.opener from b ≡ Opens o.closing d) × Groups words tokens (from + 1) d at c fs
      × (n ≡ max m (suc (length os) + depth fs))

  around : (at : ℕ) (c : Context) (os : List Pending) (n : ℕ) → Reached words tokens at c os n → Around at c n os
  around at c os n (outside a b fs m groups is) = tt
  around at c os n (inside a b c2 d e t k os2 fs m n2 reached found front groups is) = (a, c2, d, fs, m, reached, found, front, groups, is)

  -- the first opener that is too deep, or that there is none
  abbrev Depths : Option Place → ℕ → ℕ → Type 0
  Depths None m size = (m ≤ limit) × (size ≤ limit)
  Depths (Some q) m size = DeepAt limit words tokens q

  abbrev Held : ℕ → Context → List SeenOpen → Option Place → Type 0
  Held at c os deep = (m : ℕ) × Reached words tokens at c (map pending os) m × Depths deep m (length os)

  shallower : (deep : Option Place) (m n size less : ℕ) → Depths deep m size → n ≤ max m size → less ≤ size → Depths deep n less
  shallower None m n size less h fits small = let a = h.0 in let b = h.1 in (omega arith, omega arith)
  shallower (Some q) m n size less h fits small = h

  told : (f : Fault) (deep : Option Place) (m size : ℕ) (p : Place) → Depths deep m size → Unfit words tokens m p → f ≡ earlier deep p → Refused limit words tokens f
  told f None m size p depths unfit is = unbalanced m p f unfit depths.0 is
  told f (Some q) m size p depths unfit is = both m p q f unfit depths is

  abbrev failing : Fault → Grouping
  failing f = Err f

  same_error : (f g : Fault) → failing f ≡ failing g → g ≡ f
  same_error f g e = cc

  abbrev Refuses : ℕ → Fault → Type 0
  Refuses n f = (at : ℕ) (c : Context) (os : List SeenOpen) (row : List SeenFragment) (deep : Option Place) → length tokens ≤ n + at → Held at c os deep
      → run limit words tokens n (state_at at c os row deep) ≡ Err f → Refused limit words tokens f

  outer_trees : (at : ℕ) (c : Context) (m : ℕ) (os : List Pending) → os ≡ [] → Reached words tokens at c os m → (fs : List SeenFragment) × Groups words tokens 0 start at c fs
  outer_trees at c m os none (outside a b fs m2 groups is) = (fs, groups)
  outer_trees at c m os none (inside a b c2 d e t k os2 fs m2 n reached found front groups is) = absurd cc

  refuses_finish : (f : Fault) (at : ℕ) (c : Context) (os : List SeenOpen) (row : List SeenFragment) (deep : Option Place) → slice_get tokens at ≡ None → Held at c os deep
      → finish_with deep row os ≡ Err f → Refused limit words tokens f
  refuses_finish f at c [] row None ends held e = absurd cc
  refuses_finish f at c [] row (Some q) ends (m, reached, depths) e =
      let (fs, groups) = outer_trees at c m [] refl reached in
      too_deep q fs f depths (at, c, groups, ends) (same_error (fault_at TooDeep q) f e)
  refuses_finish f at c (o ∷ os) row deep ends (m, reached, depths) e =
      told f deep m (length (o ∷ os)) o.opener.place depths (left_open at m c (pending o) (map pending os) o.opener.place reached ends refl) (same_error (earlier deep o.opener.place) f e)

  refuses_leaf : (n : ℕ) (f : Fault) (at : ℕ) (c d : Context) (t : Token) (os : List SeenOpen) (row : List SeenFragment) (deep : Option Place) → Refuses n f → length tokens ≤ n + (at + 1)
      → Held at c os deep → slice_get tokens at ≡ Some t → front_at words tokens t at c ≡ Leaf d
      → run limit words tokens n (state_at (at + 1) d os row deep) ≡ Err f → Refused limit words tokens f
  refuses_leaf n f at c d t os row deep more enough (m, reached, depths) found front e =
      let (k, farther, is) = further at c (map pending os) m (at + 1) d (one t ∷ []) reached (leaf at (at + 1) c d d t [] found front (nothing (at + 1) d)) in
      let size : length (map pending os) ≡ length os = length-map os pending in
      more (at + 1) d os row deep enough (k, farther, shallower deep m k (length os) (length os) depths (omega arith) (omega arith)) e

  deeper_held : (deep : Option Place) (at m n : ℕ) (c d : Context) (t : Token) (k : Closing) (os : List Pending) (size : ℕ) (b : Bool) → Depths deep m size → size ≡ length os
      → Reached words tokens at c os m → slice_get tokens at ≡ Some t → front_at words tokens t at c ≡ Opens k d → n ≡ max m (suc size) → ltb size limit ≡ b
      → Depths (deeper limit deep size t.place) n (suc size)
  deeper_held (Some q) at m n c d t k os size b depths same reached found front is test = depths
  deeper_held None at m n c d t k os size true depths same reached found front is test =
      let less = ltb-true size limit test in let under = depths.0 in rw test (omega arith, omega arith)
  deeper_held None at m n c d t k os size false depths same reached found front is test =
      let more = ltb-false size limit test in let under = depths.1 in
      let full : length os ≡ limit = omega arith in
      rw test (at, m, c, d, t, k, os, reached, depths.0, full, found, front, refl)

  refuses_open : (n : ℕ) (f : Fault) (at : ℕ) (c d : Context) (t : Token) (k : Closing) (os : List SeenOpen) (row : List SeenFragment) (deep : Option Place) → Refuses n f → length tokens ≤ n + (at + 1)
      → Held at c os deep → slice_get tokens at ≡ Some t → front_at words tokens t at c ≡ Opens k d
      → run limit words tokens n (state_at (at + 1) d (record { opener = t; closing = k; before = row } ∷ os) [] (deeper limit deep (length os) t.place)) ≡ Err f → Refused limit words tokens f
  refuses_open n f at c d t k os row deep more enough (m, reached, depths) found front e =
      let size : length os ≡ length (map pending os) = sym (length-map os pending) in
      let top : ℕ = max m (suc (length (map pending os)) + depth []) in
      let is : top ≡ max m (suc (length os)) = omega arith in
      more (at + 1) d (record { opener = t; closing = k; before = row } ∷ os) [] (deeper limit deep (length os) t.place) enough (
        top,
        inside at (at + 1) c d d t k (map pending os) [] m top reached found front (nothing (at + 1) d) refl,
        deeper_held deep at m top c d t k (map pending os) (length os) (ltb (length os) limit) depths size reached found front is refl,
      ) e

  refuses_closed : (n : ℕ) (f : Fault) (at : ℕ) (c : Context) (t : Token) (j : Closer) (o : SeenOpen) (os : List SeenOpen) (row : List SeenFragment) (deep : Option Place) (r : Closed) → Refuses n f
      → ((to : ℕ) (g : Context) → r ≡ closes.At to g → length tokens ≤ n + to)
      → Held at c (o ∷ os) deep → slice_get tokens at ≡ Some t → front_at words tokens t at c ≡ Closes j → close words tokens o.closing j t (at + 1) c ≡ r
      → and_then (closed_step deep row t o os r) (λ next. run limit words tokens n next) ≡ Err f → Refused limit words tokens f
  refuses_closed n f at c t j o os row deep (closes.Wrong p) more enough (m, reached, depths) found front is e =
      told f deep m (length (o ∷ os)) p depths (wrong_closer at m c t j (pending o) (map pending os) p reached found front is) (same_error (earlier deep p) f e)
  refuses_closed n f at c t j o os row deep (closes.At to g) more enough (m, reached, depths) found front is e =
      let (from, b, d, fs, less, before, met, opens, groups, top) = around at c (pending o ∷ map pending os) m reached in
      let (k, farther, same) = further from b (map pending os) less to g (group o.opener (pack fs) t ∷ []) before
      (closed from at to to b d c g g o.opener t o.closing j fs [] met opens groups found front is (nothing to g)) in
      let size : length (map pending os) ≡ length os = length-map os pending in
      more to g os (with_tree deep o.before (group o.opener (pack row) t)) deep (enough to g refl)
      (k, farther, shallower deep m k (length (o ∷ os)) (length os) depths (omega arith) (omega arith)) e

  refuses_close : (n : ℕ) (f : Fault) (at : ℕ) (c : Context) (t : Token) (j : Closer) (os : List SeenOpen) (row : List SeenFragment) (deep : Option Place) → Refuses n f
      → ((o : SeenOpen) (to : ℕ) (g : Context) → close words tokens o.closing j t (at + 1) c ≡ closes.At to g → length tokens ≤ n + to)
      → Held at c os deep → slice_get tokens at ≡ Some t → front_at words tokens t at c ≡ Closes j
      → and_then (close_step words tokens (state_at at c os row deep) t j os) (λ next. run limit words tokens n next) ≡ Err f → Refused limit words tokens f
  refuses_close n f at c t j [] row deep more enough (m, reached, depths) found front e =
      told f deep m 0 t.place depths (no_opener at m c t j t.place reached found front refl) (same_error (earlier deep t.place) f e)
  refuses_close n f at c t j (o ∷ os) row deep more enough held found front e =
      refuses_closed n f at c t j o os row deep (close words tokens o.closing j t (at + 1) c) more (λ to g is. enough o to g is) held found front refl e

  refuses_by : (n : ℕ) (f : Fault) (at : ℕ) (c : Context) (t : Token) (os : List SeenOpen) (row : List SeenFragment) (deep : Option Place) (front : Front) → Refuses n f → length tokens ≤ n + (at + 1)
      → ((j : Closer) (o : SeenOpen) (to : ℕ) (g : Context) → close words tokens o.closing j t (at + 1) c ≡ closes.At to g → length tokens ≤ n + to)
      → Held at c os deep → slice_get tokens at ≡ Some t → front_at words tokens t at c ≡ front
      → and_then (step_by limit words tokens (state_at at c os row deep) t front) (λ next. run limit words tokens n next) ≡ Err f → Refused limit words tokens f
  refuses_by n f at c t os row deep (Leaf d) more enough ahead held found is e = refuses_leaf n f at c d t os (with_tree deep row (one t)) deep more enough held found is e
  refuses_by n f at c t os row deep (Opens k d) more enough ahead held found is e = refuses_open n f at c d t k os row deep more enough held found is e
  refuses_by n f at c t os row deep (Closes j) more enough ahead held found is e = refuses_close n f at c t j os row deep more (ahead j) held found is e
  refuses_by n f at c t os row deep Wrong more enough ahead (m, reached, depths) found is e =
      told f deep m (length os) t.place depths (no_definition_word at m c t (map pending os) t.place reached found is refl) (same_error (earlier deep t.place) f e)

  refuses_found : (n : ℕ) (f : Fault) (at : ℕ) (c : Context) (os : List SeenOpen) (row : List SeenFragment) (deep : Option Place) (found : Option Token) → Refuses n f → length tokens ≤ suc n + at
      → Held at c os deep → slice_get tokens at ≡ found
      → or_finish limit words tokens (state_at at c os row deep) found (λ next. run limit words tokens n next) ≡ Err f → Refused limit words tokens f
  refuses_found n f at c os row deep None more enough held found e = refuses_finish f at c os row deep found held e
  refuses_found n f at c os row deep (Some t) more enough held found e =
      refuses_by n f at c t os row deep (front_at words tokens t at c) more (omega arith)
      (λ (j : Closer) (o : SeenOpen) (to : ℕ) (g : Context) (is : close words tokens o.closing j t (at + 1) c ≡ closes.At to g).
      let ahead = close_ahead words tokens o.closing j t (at + 1) c to g is in omega arith)
      held found refl e

  refuses : (n : ℕ) (f : Fault) → Refuses n f
  refuses zero f at c os row deep enough held e = refuses_finish f at c os row deep (slice_get_past tokens at (omega arith)) held e
  refuses (suc n) f at c os row deep enough held e =
      refuses_found n f at c os row deep (slice_get tokens at) (λ at c os row deep enough held e. refuses n f at c os row deep enough held e) enough held refl e

  pub refused : (f : Fault) → group_within limit words tokens ≡ Err f → Refused limit words tokens f
  refused f e =
      refuses (length tokens) f 0 start [] [] None (omega arith)
      (depth [], outside 0 start [] (depth []) (nothing 0 start) refl, (omega arith, omega arith)) e
