-- A closer and what may follow it are not read twice.
use Rattle.std.proofs.Common.{◌≡◌, ℕ, ◌+◌, ◌≤◌, Bool, true, false, cond, List, Option, Some, None, arith}
use Rattle.std.specs.Prelude.{slice_get}
use Rattle.dy_base.specs.declared.fault.Place.{Place}
use Rattle.dy_tree.specs.declared.token.Token.{Token}
use Rattle.dy_tree.specs.declared.words.Words.{Words}
use Rattle.dy_fragment.specs.declared.front.Context.{Context}
use Rattle.dy_fragment.specs.declared.front.Closer.{Closer}
use Rattle.dy_fragment.specs.declared.front.Closer.TheVariants as closers
use Rattle.dy_fragment.specs.declared.closing.Opening.{Opening}
use Rattle.dy_fragment.specs.declared.closing.Opening.TheVariants as openings
use Rattle.dy_fragment.specs.declared.closing.Closing.{Closing}
use Rattle.dy_fragment.specs.declared.closing.Closing.TheVariants as closings
use Rattle.dy_fragment.specs.declared.closing.Closed.TheVariants.{At, Wrong}
use Rattle.dy_fragment.specs.Signs.{same_shape}
use Rattle.dy_fragment.specs.Closings.{is_same_word, is_same_name, past, past_word, past_end, is_foreign, after_word, closed_word, after_bracket, close}

one_more : (b : Bool) (at : ℕ) → at ≤ cond b (at + 1) at
one_more true at = omega arith
one_more false at = omega arith

past_ahead : (same : Token → Token → Bool) (at : ℕ) (w t : Option Token) → at ≤ past same at w t
past_ahead same at None t = omega arith
past_ahead same at (Some w) None = omega arith
past_ahead same at (Some w) (Some t) = one_more (same w t) at

past_end_ahead : (tokens : List Token) (word : ℕ) (o : Opening) (at : ℕ) → at ≤ past_end tokens word o at
past_end_ahead tokens word openings.Statement at = past_ahead is_same_word at (slice_get tokens word) (slice_get tokens at)
past_end_ahead tokens word openings.LocalMethod at =
    let first = past_ahead is_same_word at (slice_get tokens word) (slice_get tokens at) in
    let second = past_ahead is_same_name (past_word tokens word at) (slice_get tokens (word + 1)) (slice_get tokens (past_word tokens word at)) in
    omega arith
past_end_ahead tokens word openings.Definition at =
    let first = past_ahead is_same_word at (slice_get tokens word) (slice_get tokens at) in
    let second = past_ahead is_same_name (past_word tokens word at) (slice_get tokens (word + 1)) (slice_get tokens (past_word tokens word at)) in
    omega arith

same_place : (at to : ℕ) (c d : Context) → At at c ≡ At to d → at ≡ to
same_place at to c d e = cc

tested : (b : Bool) (p : Place) (at to : ℕ) (c d : Context) → cond b (Wrong p) (At at c) ≡ At to d → at ≡ to
tested true p at to c d e = absurd cc
tested false p at to c d e = same_place at to c d e

pub fitting : (b : Bool) (p : Place) (at to : ℕ) (c d : Context) → cond b (At at c) (Wrong p) ≡ At to d → at ≡ to
fitting true p at to c d e = same_place at to c d e
fitting false p at to c d e = absurd cc

pub word_closed : (words : Words) (o : Opening) (at to : ℕ) (d : Context) (t : Option Token) → closed_word words o at t ≡ At to d → at ≡ to
word_closed words o at to d None e = same_place at to (after_word o) d e
word_closed words o at to d (Some t) e = tested (is_foreign words t) t.place at to (after_word o) d e

pub close_ahead : (words : Words) (tokens : List Token) (k : Closing) (j : Closer) (t : Token) (from : ℕ) (c : Context) (to : ℕ) (d : Context)
    → close words tokens k j t from c ≡ At to d → from ≤ to
close_ahead words tokens (closings.Bracket o m) (closers.Bracket b) t from c to d e =
    let same = fitting (same_shape o b) t.place from to (after_bracket m c.mode) d e in omega arith
close_ahead words tokens (closings.Bracket o m) closers.End t from c to d e = absurd cc
close_ahead words tokens (closings.Word w o) (closers.Bracket b) t from c to d e = absurd cc
close_ahead words tokens (closings.Word w o) closers.End t from c to d e =
    let same = word_closed words o (past_end tokens w o from) to d (slice_get tokens (past_end tokens w o from)) e in
    let ahead = past_end_ahead tokens w o from in
    omega arith
