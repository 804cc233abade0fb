-- What is read is grouped.
use Rattle.std.proofs.Common.{◌≡◌, ℕ, zero, suc, ◌+◌, ◌≤◌, List, [], ◌∷◌, ◌++◌, length, Option, Some, None, Ok, refl, sym, subst, ◌∙◌, arith, append_assoc}
use Rattle.std.specs.Prelude.{slice_get}
use Rattle.std.proofs.lemmas.List.{append-nil}
use Rattle.std.proofs.lemmas.Option.{slice_get_past}
use Rattle.dy_base.specs.declared.fault.Place.{Place}
use Rattle.dy_tree.specs.declared.token.Token.{Token}
use Rattle.dy_tree.specs.declared.words.Words.{Words}
use Rattle.dy_tree.specs.Fragments.{SeenFragment, one, group, pack}
use Rattle.dy_fragment.specs.declared.front.Context.{Context}
use Rattle.dy_fragment.specs.declared.front.Closer.{Closer}
use Rattle.dy_fragment.specs.declared.front.Front.{Front}
use Rattle.dy_fragment.specs.declared.front.Front.TheVariants.{Leaf, Opens, Closes, Wrong}
use Rattle.dy_fragment.specs.declared.closing.Closing.{Closing}
use Rattle.dy_fragment.specs.declared.closing.Closed.{Closed}
use Rattle.dy_fragment.specs.declared.closing.Closed.TheVariants as closes
use Rattle.dy_fragment.specs.Fronts.{front_at}
use Rattle.dy_fragment.specs.Closings.{close}
use Rattle.dy_fragment.specs.Steps.{SeenOpen, deeper, closed_step, close_step, step_by, and_then, or_finish, finish_with, run}
use Rattle.dy_fragment.specs.Groups.{Groups, nothing, leaf, closed}
use Rattle.dy_fragment.proofs.Ahead.{close_ahead}
use Rattle.dy_fragment.proofs.Reading.{state_at}

module _ (limit : ℕ) (words : Words) (tokens : List Token) (out : List SeenFragment) where
  -- ---- after an opener that is too deep nothing is given

  never_finish : (os : List SeenOpen) (row : List SeenFragment) (p : Place) → finish_with (Some p) row os ≡ Ok out → ⊥
  never_finish [] row p e = absurd cc
  never_finish (o ∷ os) row p e = absurd cc

  abbrev NeverFrom : ℕ → Type 0
  NeverFrom n = (at : ℕ) (c : Context) (os : List SeenOpen) (row : List SeenFragment) (p : Place) → run limit words tokens n (state_at at c os row (Some p)) ≡ Ok out → ⊥

  never_closed : (n : ℕ) (t : Token) (o : SeenOpen) (os : List SeenOpen) (row : List SeenFragment) (p : Place) (c : Closed) → NeverFrom n
      → and_then (closed_step (Some p) row t o os c) (λ next. run limit words tokens n next) ≡ Ok out → ⊥
  never_closed n t o os row p (closes.At at g) more e = more at g os o.before p e
  never_closed n t o os row p (closes.Wrong q) more e = absurd cc

  never_close : (n at : ℕ) (c : Context) (t : Token) (j : Closer) (os : List SeenOpen) (row : List SeenFragment) (p : Place) → NeverFrom n
      → and_then (close_step words tokens (state_at at c os row (Some p)) t j os) (λ next. run limit words tokens n next) ≡ Ok out → ⊥
  never_close n at c t j [] row p more e = absurd cc
  never_close n at c t j (o ∷ os) row p more e = never_closed n t o os row p (close words tokens o.closing j t (at + 1) c) more e

  never_by : (n at : ℕ) (c : Context) (t : Token) (os : List SeenOpen) (row : List SeenFragment) (p : Place) (f : Front) → NeverFrom n
      → and_then (step_by limit words tokens (state_at at c os row (Some p)) t f) (λ next. run limit words tokens n next) ≡ Ok out → ⊥
  never_by n at c t os row p (Leaf d) more e = more (at + 1) d os row p e
  never_by n at c t os row p (Opens k d) more e = more (at + 1) d (record { opener = t; closing = k; before = row } ∷ os) [] p e
  never_by n at c t os row p (Closes j) more e = never_close n at c t j os row p more e
  never_by n at c t os row p Wrong more e = absurd cc

  never_found : (n at : ℕ) (c : Context) (os : List SeenOpen) (row : List SeenFragment) (p : Place) (found : Option Token) → NeverFrom n
      → or_finish limit words tokens (state_at at c os row (Some p)) found (λ next. run limit words tokens n next) ≡ Ok out → ⊥
  never_found n at c os row p None more e = never_finish os row p e
  never_found n at c os row p (Some t) more e = never_by n at c t os row p (front_at words tokens t at c) more e

  never : (n : ℕ) → NeverFrom n
  never zero at c os row p e = never_finish os row p e
  never (suc n) at c os row p e = never_found n at c os row p (slice_get tokens at) (λ at c os row p e. never n at c os row p e) e

  -- ---- what is given is grouped

  -- the tokens from here on complete the open groups
  abbrev pub Completed : List SeenOpen → List SeenFragment → ℕ → Context → Type 0
  Completed [] row at c = (fs : List SeenFragment) × (to : ℕ) × (e : Context) × Groups words tokens at c to e fs × (slice_get tokens to ≡ None) × (out ≡ row ++ fs)
  Completed (o ∷ os) row at c =
      (fs : List SeenFragment) × (end : ℕ) × (e : Context) × (closer : Token) × (j : Closer) × (after : ℕ) × (g : Context)
      × Groups words tokens at c end e fs × (slice_get tokens end ≡ Some closer) × (front_at words tokens closer end e ≡ Closes j)
      × (close words tokens o.closing j closer (end + 1) e ≡ closes.At after g)
      × Completed os (o.before ++ group o.opener (pack (row ++ fs)) closer ∷ []) after g

  abbrev Puts : ℕ → Context → ℕ → Context → SeenFragment → Type 0
  Puts at c at2 c2 f = (to : ℕ) (e : Context) (fs : List SeenFragment) → Groups words tokens at2 c2 to e fs → Groups words tokens at c to e (f ∷ fs)

  put : (at : ℕ) (c : Context) (at2 : ℕ) (c2 : Context) (f : SeenFragment) → Puts at c at2 c2 f
      → (os : List SeenOpen) (row : List SeenFragment) → Completed os (row ++ f ∷ []) at2 c2 → Completed os row at c
  put at c at2 c2 f puts [] row (fs, to, e, groups, ends, is) = (f ∷ fs, to, e, puts to e fs groups, ends, is ∙ append_assoc row (f ∷ []) fs)
  put at c at2 c2 f puts (o ∷ os) row (fs, end, e, closer, j, after, g, groups, met, front, is, more) = (
    f ∷ fs,
    end,
    e,
    closer,
    j,
    after,
    g,
    puts end e fs groups,
    met,
    front,
    is,
    subst (λ (r : List SeenFragment). Completed os (o.before ++ group o.opener (pack r) closer ∷ []) after g) (append_assoc row (f ∷ []) fs) more,
  )

  abbrev pub Sound : ℕ → Type 0
  Sound n = (at : ℕ) (c : Context) (os : List SeenOpen) (row : List SeenFragment) → length tokens ≤ n + at → run limit words tokens n (state_at at c os row None) ≡ Ok out → Completed os row at c

  sound_finish : (at : ℕ) (c : Context) (os : List SeenOpen) (row : List SeenFragment) → slice_get tokens at ≡ None → finish_with None row os ≡ Ok out → Completed os row at c
  sound_finish at c [] row ends e = let same : row ≡ out = cc in ([], at, c, nothing at c, ends, sym same ∙ sym (append-nil row))
  sound_finish at c (o ∷ os) row ends e = absurd cc

  sound_opened : (n at : ℕ) (c d : Context) (t : Token) (k : Closing) (os : List SeenOpen) (row : List SeenFragment) (deep : Option Place) → Sound n → length tokens ≤ n + (at + 1)
      → slice_get tokens at ≡ Some t → front_at words tokens t at c ≡ Opens k d
      → run limit words tokens n (state_at (at + 1) d (record { opener = t; closing = k; before = row } ∷ os) [] deep) ≡ Ok out → Completed os row at c
  sound_opened n at c d t k os row (Some p) more enough found front e = absurd (never n (at + 1) d (record { opener = t; closing = k; before = row } ∷ os) [] p e)
  sound_opened n at c d t k os row None more enough found front e =
      let (fs, end, e2, closer, j, after, g, groups, met, ends, is, rest) = more (at + 1) d (record { opener = t; closing = k; before = row } ∷ os) [] enough e in
      put at c after g (group t (pack fs) closer) (λ to h gs after_it. closed at end after to c d e2 g h t closer k j fs gs found front groups met ends is after_it) os row rest

  sound_closed : (n at : ℕ) (c : Context) (t : Token) (j : Closer) (o : SeenOpen) (os : List SeenOpen) (row : List SeenFragment) (r : Closed) → Sound n
      → ((to : ℕ) (g : Context) → r ≡ closes.At to g → length tokens ≤ n + to)
      → slice_get tokens at ≡ Some t → front_at words tokens t at c ≡ Closes j → close words tokens o.closing j t (at + 1) c ≡ r
      → and_then (closed_step None row t o os r) (λ next. run limit words tokens n next) ≡ Ok out → Completed (o ∷ os) row at c
  sound_closed n at c t j o os row (closes.At to g) more enough found front is e = (
    [],
    at,
    c,
    t,
    j,
    to,
    g,
    nothing at c,
    found,
    front,
    is,
    subst (λ (r : List SeenFragment). Completed os (o.before ++ group o.opener (pack r) t ∷ []) to g) (sym (append-nil row))
        (more to g os (o.before ++ group o.opener (pack row) t ∷ []) (enough to g refl) e),
  )
  sound_closed n at c t j o os row (closes.Wrong p) more enough found front is e = absurd cc

  sound_close : (n at : ℕ) (c : Context) (t : Token) (j : Closer) (os : List SeenOpen) (row : List SeenFragment) → Sound n
      → ((o : SeenOpen) (to : ℕ) (g : Context) → close words tokens o.closing j t (at + 1) c ≡ closes.At to g → length tokens ≤ n + to)
      → slice_get tokens at ≡ Some t → front_at words tokens t at c ≡ Closes j
      → and_then (close_step words tokens (state_at at c os row None) t j os) (λ next. run limit words tokens n next) ≡ Ok out → Completed os row at c
  sound_close n at c t j [] row more enough found front e = absurd cc
  sound_close n at c t j (o ∷ os) row more enough found front e =
      sound_closed n at c t j o os row (close words tokens o.closing j t (at + 1) c) more (λ to g is. enough o to g is) found front refl e

  sound_by : (n at : ℕ) (c : Context) (t : Token) (os : List SeenOpen) (row : List SeenFragment) (f : Front) → Sound n → length tokens ≤ n + (at + 1)
      → ((j : Closer) (o : SeenOpen) (to : ℕ) (g : Context) → close words tokens o.closing j t (at + 1) c ≡ closes.At to g → length tokens ≤ n + to)
      → slice_get tokens at ≡ Some t → front_at words tokens t at c ≡ f
      → and_then (step_by limit words tokens (state_at at c os row None) t f) (λ next. run limit words tokens n next) ≡ Ok out → Completed os row at c
  sound_by n at c t os row (Leaf d) more enough ahead found front e =
      put at c (at + 1) d (one t) (λ to h fs groups. leaf at to c d h t fs found front groups) os row (more (at + 1) d os (row ++ one t ∷ []) enough e)
  sound_by n at c t os row (Opens k d) more enough ahead found front e =
      sound_opened n at c d t k os row (deeper limit None (length os) t.place) more enough found front e
  sound_by n at c t os row (Closes j) more enough ahead found front e = sound_close n at c t j os row more (ahead j) found front e
  sound_by n at c t os row Wrong more enough ahead found front e = absurd cc

  sound_found : (n at : ℕ) (c : Context) (os : List SeenOpen) (row : List SeenFragment) (found : Option Token) → Sound n → length tokens ≤ suc n + at
      → slice_get tokens at ≡ found
      → or_finish limit words tokens (state_at at c os row None) found (λ next. run limit words tokens n next) ≡ Ok out → Completed os row at c
  sound_found n at c os row None more enough found e = sound_finish at c os row found e
  sound_found n at c os row (Some t) more enough found e =
      sound_by n at c t os row (front_at words tokens t at c) more (omega arith)
      (λ (j : Closer) (o : SeenOpen) (to : ℕ) (g : Context) (is : close words tokens o.closing j t (at + 1) c ≡ closes.At to g).
      let ahead = close_ahead words tokens o.closing j t (at + 1) c to g is in omega arith)
      found refl e

  pub sound : (n : ℕ) → Sound n
  sound zero at c os row enough e = sound_finish at c os row (slice_get_past tokens at (omega arith)) e
  sound (suc n) at c os row enough e = sound_found n at c os row (slice_get tokens at) (λ at c os row enough e. sound n at c os row enough e) enough refl e
