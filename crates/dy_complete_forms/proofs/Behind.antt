-- Where grouping goes on behind some tokens with no group open, a fault stands behind them.
use Rattle.std.proofs.Common.{◌≡◌, ℕ, zero, suc, ◌+◌, ◌≤◌, Bool, true, false, cond, ltb, List, [], ◌∷◌, length, Option, Some, None, Ok, Err, refl, ap, ◌∙◌, arith}
use Rattle.std.specs.Prelude.{slice_get}
use Rattle.dy_base.specs.declared.kind.Kind.TheVariants.{Unbalanced, TooDeep}
use Rattle.dy_base.specs.declared.fault.Place.{Place}
use Rattle.dy_base.specs.declared.fault.Fault.{Fault}
use Rattle.dy_tree.specs.declared.token.Token.{Token}
use Rattle.dy_tree.specs.declared.words.Words.{Words}
use Rattle.dy_tree.specs.Fragments.{SeenFragment, one, group, pack}
use Rattle.dy_fragment.specs.declared.front.Context.{Context}
use Rattle.dy_fragment.specs.declared.front.Closer.{Closer}
use Rattle.dy_fragment.specs.declared.front.Closer.TheVariants as closers
use Rattle.dy_fragment.specs.declared.front.Front.{Front}
use Rattle.dy_fragment.specs.declared.front.Front.TheVariants.{Leaf, Opens, Closes, Wrong}
use Rattle.dy_fragment.specs.declared.closing.Opening.{Opening}
use Rattle.dy_fragment.specs.declared.closing.Opening.TheVariants as openings
use Rattle.dy_fragment.specs.declared.closing.Closing.{Closing}
use Rattle.dy_fragment.specs.declared.closing.Closing.TheVariants as closings
use Rattle.dy_fragment.specs.declared.closing.Closed.{Closed}
use Rattle.dy_fragment.specs.declared.closing.Closed.TheVariants as closes
use Rattle.dy_fragment.specs.Fronts.{front_at}
use Rattle.dy_fragment.specs.Signs.{same_shape}
use Rattle.dy_fragment.specs.Closings.{is_same_word, is_same_name, past, past_word, past_end, is_foreign, after_word, closed_word, after_bracket, close}
use Rattle.dy_fragment.specs.Steps.{SeenOpen, Grouping, fault_at, earlier, with_tree, deeper, closed_step, close_step, step_by, and_then, or_finish, finish_with, run}
use Rattle.dy_fragment.proofs.Reading.{state_at}
use Rattle.dy_complete_forms.specs.Forms.{StandsBehind}

-- ---- what may follow an `end` stands behind it

one_more : (b : Bool) (at : ℕ) → at ≤ cond b (at + 1) at
one_more true at = omega arith
one_more false at = omega arith

past_ahead : (same : Token → Token → Bool) (at : ℕ) (w t : Option Token) → at ≤ past same at w t
past_ahead same at None t = omega arith
past_ahead same at (Some w) None = omega arith
past_ahead same at (Some w) (Some t) = one_more (same w t) at

past_end_ahead : (tokens : List Token) (word : ℕ) (o : Opening) (at : ℕ) → at ≤ past_end tokens word o at
past_end_ahead tokens word openings.Statement at = past_ahead is_same_word at (slice_get tokens word) (slice_get tokens at)
past_end_ahead tokens word openings.LocalMethod at =
    let first = past_ahead is_same_word at (slice_get tokens word) (slice_get tokens at) in
    let second = past_ahead is_same_name (past_word tokens word at) (slice_get tokens (word + 1)) (slice_get tokens (past_word tokens word at)) in
    omega arith
past_end_ahead tokens word openings.Definition at =
    let first = past_ahead is_same_word at (slice_get tokens word) (slice_get tokens at) in
    let second = past_ahead is_same_name (past_word tokens word at) (slice_get tokens (word + 1)) (slice_get tokens (past_word tokens word at)) in
    omega arith

module _ (limit : ℕ) (words : Words) (tokens : List Token) (count : ℕ) where
  -- one of the tokens behind the first ones stands at this place
  abbrev pub Stands : Place → Type 0
  Stands p = (i : ℕ) × (t : Token) × (count ≤ i) × (slice_get tokens i ≡ Some t) × (p ≡ t.place)

  told : (f : Fault) (p : Place) → f.place ≡ Some p → Stands p → StandsBehind tokens count f
  told f p is (i, t, behind, found, same) = (i, t, behind, found, is ∙ ap (λ (q : Place). Some q) same)

  abbrev pub DeepStands : Option Place → Type 0
  DeepStands None = Unit {0}
  DeepStands (Some q) = Stands q

  abbrev pub OpenStand : List SeenOpen → Type 0
  OpenStand [] = Unit {0}
  OpenStand (o ∷ os) = Stands o.opener.place × OpenStand os

  -- where grouping tells a fault, it stands so
  abbrev pub Tells : Grouping → Type 0
  Tells (Ok fs) = Unit {0}
  Tells (Err f) = StandsBehind tokens count f

  earlier_stands : (deep : Option Place) (p : Place) → DeepStands deep → Stands p → StandsBehind tokens count (earlier deep p)
  earlier_stands None p d s = told (fault_at Unbalanced p) p refl s
  earlier_stands (Some q) p d s = by_test (ltb q.offset p.offset)
    where
      by_test : (b : Bool) → StandsBehind tokens count (cond b (fault_at TooDeep q) (fault_at Unbalanced p))
      by_test true = told (fault_at TooDeep q) q refl d
      by_test false = told (fault_at Unbalanced p) p refl s

  deeper_stands : (deep : Option Place) (depth : ℕ) (p : Place) → DeepStands deep → Stands p → DeepStands (deeper limit deep depth p)
  deeper_stands (Some q) depth p d s = d
  deeper_stands None depth p d s = by_test (ltb depth limit)
    where
      by_test : (b : Bool) → DeepStands (cond b None (Some p))
      by_test true = tt
      by_test false = s

  finish_tells : (deep : Option Place) (row : List SeenFragment) (os : List SeenOpen) → DeepStands deep → OpenStand os → Tells (finish_with deep row os)
  finish_tells None row [] d o = tt
  finish_tells (Some q) row [] d o = told (fault_at TooDeep q) q refl d
  finish_tells deep row (x ∷ os) d o = earlier_stands deep x.opener.place d o.0

  -- ---- a closer, and what may follow it

  abbrev IsLater : Closed → Type 0
  IsLater (closes.At to g) = count ≤ to
  IsLater (closes.Wrong p) = Stands p

  by_shape : (b : Bool) (to : ℕ) (g : Context) (p : Place) → count ≤ to → Stands p → IsLater (cond b (closes.At to g) (closes.Wrong p))
  by_shape true to g p low s = low
  by_shape false to g p low s = s

  by_foreign : (b : Bool) (to : ℕ) (g : Context) (p : Place) → count ≤ to → Stands p → IsLater (cond b (closes.Wrong p) (closes.At to g))
  by_foreign true to g p low s = s
  by_foreign false to g p low s = low

  word_later : (o : Opening) (to : ℕ) (found : Option Token) → count ≤ to → slice_get tokens to ≡ found → IsLater (closed_word words o to found)
  word_later o to None low is = low
  word_later o to (Some t) low is = by_foreign (is_foreign words t) to (after_word o) t.place low (to, t, low, is, refl)

  close_later : (k : Closing) (j : Closer) (t : Token) (at : ℕ) (c : Context) → count ≤ at → slice_get tokens at ≡ Some t → IsLater (close words tokens k j t (at + 1) c)
  close_later (closings.Bracket o m) (closers.Bracket b) t at c low found = by_shape (same_shape o b) (at + 1) (after_bracket m c.mode) t.place (omega arith) (at, t, low, found, refl)
  close_later (closings.Bracket o m) closers.End t at c low found = (at, t, low, found, refl)
  close_later (closings.Word w o) (closers.Bracket b) t at c low found = (at, t, low, found, refl)
  close_later (closings.Word w o) closers.End t at c low found =
      let ahead = past_end_ahead tokens w o (at + 1) in
      word_later o (past_end tokens w o (at + 1)) (slice_get tokens (past_end tokens w o (at + 1))) (omega arith) refl

  -- ---- tokens, one after the other

  abbrev pub TellsAll : ℕ → Type 0
  TellsAll n = (at : ℕ) (c : Context) (os : List SeenOpen) (row : List SeenFragment) (deep : Option Place) → count ≤ at → OpenStand os → DeepStands deep
      → Tells (run limit words tokens n (state_at at c os row deep))

  tells_closed : (n : ℕ) (t : Token) (o : SeenOpen) (os : List SeenOpen) (row : List SeenFragment) (deep : Option Place) (r : Closed) → TellsAll n → IsLater r → OpenStand os → DeepStands deep
      → Tells (and_then (closed_step deep row t o os r) (λ next. run limit words tokens n next))
  tells_closed n t o os row deep (closes.At to g) more later pending d = more to g os (with_tree deep o.before (group o.opener (pack row) t)) deep later pending d
  tells_closed n t o os row deep (closes.Wrong p) more later pending d = earlier_stands deep p d later

  tells_close : (n at : ℕ) (c : Context) (t : Token) (j : Closer) (os : List SeenOpen) (row : List SeenFragment) (deep : Option Place) → TellsAll n
      → count ≤ at → slice_get tokens at ≡ Some t → OpenStand os → DeepStands deep
      → Tells (and_then (close_step words tokens (state_at at c os row deep) t j os) (λ next. run limit words tokens n next))
  tells_close n at c t j [] row deep more low found pending d = earlier_stands deep t.place d (at, t, low, found, refl)
  tells_close n at c t j (o ∷ os) row deep more low found pending d =
      tells_closed n t o os row deep (close words tokens o.closing j t (at + 1) c) more (close_later o.closing j t at c low found) pending.1 d

  tells_by : (n at : ℕ) (c : Context) (t : Token) (os : List SeenOpen) (row : List SeenFragment) (deep : Option Place) (front : Front) → TellsAll n
      → count ≤ at → slice_get tokens at ≡ Some t → OpenStand os → DeepStands deep
      → Tells (and_then (step_by limit words tokens (state_at at c os row deep) t front) (λ next. run limit words tokens n next))
  tells_by n at c t os row deep (Leaf e) more low found pending d = more (at + 1) e os (with_tree deep row (one t)) deep (omega arith) pending d
  tells_by n at c t os row deep (Opens k e) more low found pending d =
      let here : Stands t.place = (at, t, low, found, refl) in
      more (at + 1) e (record { opener = t; closing = k; before = row } ∷ os) [] (deeper limit deep (length os) t.place) (omega arith) (here, pending)
      (deeper_stands deep (length os) t.place d here)
  tells_by n at c t os row deep (Closes j) more low found pending d = tells_close n at c t j os row deep more low found pending d
  tells_by n at c t os row deep Wrong more low found pending d = earlier_stands deep t.place d (at, t, low, found, refl)

  tells_found : (n at : ℕ) (c : Context) (os : List SeenOpen) (row : List SeenFragment) (deep : Option Place) (found : Option Token) → TellsAll n
      → count ≤ at → slice_get tokens at ≡ found → OpenStand os → DeepStands deep
      → Tells (or_finish limit words tokens (state_at at c os row deep) found (λ next. run limit words tokens n next))
  tells_found n at c os row deep None more low is pending d = finish_tells deep row os d pending
  tells_found n at c os row deep (Some t) more low is pending d = tells_by n at c t os row deep (front_at words tokens t at c) more low is pending d

  pub tells : (n : ℕ) → TellsAll n
  tells zero at c os row deep low pending d = finish_tells deep row os d pending
  tells (suc n) at c os row deep low pending d = tells_found n at c os row deep (slice_get tokens at) (tells n) low refl pending d
