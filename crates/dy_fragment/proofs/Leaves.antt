-- The tokens are those of the trees, and what the closers absorb.
use Rattle.std.proofs.Common.{◌≡◌, ℕ, ◌+◌, Bool, true, false, cond, List, [], ◌∷◌, ◌++◌, length, drop, Option, Some, None, refl, sym, ap, ◌∙◌, subst, arith, append_assoc, length-append}
use Rattle.std.specs.Prelude.{slice_get, codes}
use Rattle.std.proofs.lemmas.List.{append-nil}
use Rattle.dy_tree.specs.declared.token.Token.{Token}
use Rattle.dy_tree.specs.declared.words.Words.{Words}
use Rattle.dy_tree.specs.Spelling.{is_spelled}
use Rattle.dy_tree.specs.Fragments.{SeenFragment, one, group, pack}
use Rattle.dy_fragment.specs.declared.word.Defined.TheVariants.{Ended}
use Rattle.dy_fragment.specs.declared.front.Context.{Context}
use Rattle.dy_fragment.specs.declared.front.Closer.{Closer}
use Rattle.dy_fragment.specs.declared.front.Closer.TheVariants as closers
use Rattle.dy_fragment.specs.declared.front.Front.TheVariants.{Leaf, Opens, Closes}
use Rattle.dy_fragment.specs.declared.closing.Opening.{Opening}
use Rattle.dy_fragment.specs.declared.closing.Opening.TheVariants as openings
use Rattle.dy_fragment.specs.declared.closing.Closing.{Closing}
use Rattle.dy_fragment.specs.declared.closing.Closing.TheVariants as closings
use Rattle.dy_fragment.specs.declared.closing.Closed.TheVariants.{At}
use Rattle.dy_fragment.specs.Signs.{same_shape}
use Rattle.dy_fragment.specs.Words.{is_end, defined_from}
use Rattle.dy_fragment.specs.Fronts.{front_at}
use Rattle.dy_fragment.specs.Closings.{is_same_word, is_same_name, past, past_word, past_name, past_end, after_bracket, close}
use Rattle.dy_fragment.specs.Steps.{start}
use Rattle.dy_fragment.specs.Groups.{Groups, nothing, leaf, closed, Grouped}
use Rattle.dy_fragment.specs.Leaves.{IsRepeated, IsNameRepeated, Absorbs, no_token, statement, local_method, definition, StandFor, no_tree, token_then, group_then}
use Rattle.dy_fragment.proofs.Ahead.{fitting, word_closed}
use Rattle.dy_fragment.proofs.Places.{drop_found, drop_ended, found_dropped, drop_split}
use Rattle.dy_fragment.proofs.Fronts.{IsHeader, Awaits, Opened, opened, IsCloser, closer_is, end_unnamed}
use Rattle.dy_fragment.proofs.Headers.{defines, word_before}

statement_again : (words : Words) (opener closer : Token) (between again : List Token) → is_end closer ≡ true → IsRepeated is_same_word opener again → Absorbs words opener between closer again
statement_again words opener closer between [] ends is = no_token
statement_again words opener closer between (t ∷ []) ends is = statement t ends is
statement_again words opener closer between (t ∷ u ∷ more) ends is = absurd is

regrouped : (between absorbed ts rest : List Token) (closer : Token) → between ++ closer ∷ (absorbed ++ (ts ++ rest)) ≡ (between ++ closer ∷ (absorbed ++ ts)) ++ rest
regrouped between absorbed ts rest closer =
    ap (λ (xs : List Token). between ++ closer ∷ xs) (sym (append_assoc absorbed ts rest)) ∙ sym (append_assoc between (closer ∷ (absorbed ++ ts)) rest)

both_places : (from mid to : ℕ) (first second : List Token) → mid ≡ from + length first → to ≡ mid + length second → to ≡ from + length (first ++ second)
both_places from mid to first second here there = let sum = length-append first second in omega arith

group_places : (at end after to : ℕ) (between absorbed ts : List Token) (opener closer : Token)
    → end ≡ at + 1 + length between → after ≡ end + 1 + length absorbed → to ≡ after + length ts
    → to ≡ at + length (opener ∷ (between ++ closer ∷ (absorbed ++ ts)))
group_places at end after to between absorbed ts opener closer here there last =
    let outer = length-append between (closer ∷ (absorbed ++ ts)) in
    let inner = length-append absorbed ts in
    omega arith

module _ (tokens : List Token) where
  -- these tokens stand from one place up to another
  abbrev Spans : ℕ → ℕ → List Token → Type 0
  Spans from to ts = (drop from tokens ≡ ts ++ drop to tokens) × (to ≡ from + length ts)

  spans_none : (at : ℕ) → Spans at at []
  spans_none at = (refl, omega arith)

  spans_both : (from mid to : ℕ) (first second : List Token) → Spans from mid first → Spans mid to second → Spans from to (first ++ second)
  spans_both from mid to first second (is, place) (also, further) =
      (is ∙ ap (λ (xs : List Token). first ++ xs) also ∙ sym (append_assoc first second (drop to tokens)), both_places from mid to first second place further)

  spans_one : (at : ℕ) (t : Token) → drop at tokens ≡ t ∷ drop (at + 1) tokens → Spans at (at + 1) (t ∷ [])
  spans_one at t is = (is, omega arith)

  -- ---- what is passed over

  abbrev Passes : (Token → Token → Bool) → Token → ℕ → ℕ → Type 0
  Passes same wanted from to = (again : List Token) × IsRepeated same wanted again × Spans from to again

  passes_if : (same : Token → Token → Bool) (wanted t : Token) (at : ℕ) → slice_get tokens at ≡ Some t → (b : Bool) → same wanted t ≡ b → Passes same wanted at (cond b (at + 1) at)
  passes_if same wanted t at found true e = (t ∷ [], e, spans_one at t (drop_found tokens at t found))
  passes_if same wanted t at found false e = ([], tt, spans_none at)

  passes_found : (same : Token → Token → Bool) (wanted : Token) (at : ℕ) (found : Option Token) → slice_get tokens at ≡ found → Passes same wanted at (past same at (Some wanted) found)
  passes_found same wanted at None e = ([], tt, spans_none at)
  passes_found same wanted at (Some t) e = passes_if same wanted t at e (same wanted t) refl

  passes : (same : Token → Token → Bool) (wanted : Token) (place at : ℕ) → slice_get tokens place ≡ Some wanted
      → Passes same wanted at (past same at (slice_get tokens place) (slice_get tokens at))
  passes same wanted place at found =
      subst (λ (o : Option Token). Passes same wanted at (past same at o (slice_get tokens at))) (sym found)
      (passes_found same wanted at (slice_get tokens at) refl)

  stays_here : (same : Token → Token → Bool) (wanted : Token) (at : ℕ) (found : Option Token) → ((t : Token) → same wanted t ≡ false) → past same at (Some wanted) found ≡ at
  stays_here same wanted at None never = refl
  stays_here same wanted at (Some t) never = ap (λ (b : Bool). cond b (at + 1) at) (never t)

  abbrev PassesName : List Token → ℕ → ℕ → Type 0
  PassesName behind from to = (again : List Token) × IsNameRepeated behind again × Spans from to again

  -- the name directly behind the word stands before the `end`
  passes_name : (behind rest : List Token) (closer : Token) (word at : ℕ) → drop (word + 1) tokens ≡ behind ++ closer ∷ rest → is_end closer ≡ true
      → PassesName behind at (past_name tokens word at)
  passes_name [] rest closer word at is ends =
      let same : past_name tokens word at ≡ at =
      ap (λ (o : Option Token). past is_same_name at o (slice_get tokens at)) (found_dropped tokens (word + 1) closer rest is)
      ∙ stays_here is_same_name closer at (slice_get tokens at) (λ t. end_unnamed closer t ends) in
      subst (λ (n : ℕ). PassesName [] at n) (sym same) ([], refl, spans_none at)
  passes_name (name ∷ others) rest closer word at is ends =
      passes is_same_name name (word + 1) at (found_dropped tokens (word + 1) name (others ++ closer ∷ rest) is)

  -- ---- what a closer absorbs

  module _ (words : Words) where
    abbrev Takes : Token → List Token → Token → ℕ → ℕ → Type 0
    Takes opener between closer from to = (absorbed : List Token) × Absorbs words opener between closer absorbed × Spans from to absorbed

    word_takes : (o : Opening) (at end word : ℕ) (d e : Context) (opener closer : Token) (inner : List SeenFragment) (between : List Token)
        → slice_get tokens at ≡ Some opener → Awaits words tokens opener at word d.mode o → Groups words tokens (at + 1) d end e inner
        → drop (at + 1) tokens ≡ between ++ closer ∷ drop (end + 1) tokens → end ≡ at + 1 + length between
        → is_end closer ≡ true → (IsHeader e.mode → ⊥) → Takes opener between closer (end + 1) (past_end tokens word o (end + 1))
    word_takes openings.Statement at end word d e opener closer inner between found awaits groups is place ends closes =
        let own : slice_get tokens word ≡ Some opener = subst (λ (n : ℕ). slice_get tokens n ≡ Some opener) (sym awaits) found in
        let (again, repeated, spans) = passes is_same_word opener word (end + 1) own in
        (again, statement_again words opener closer between again ends repeated, spans)
    word_takes openings.LocalMethod at end word d e opener closer inner between found awaits groups is place ends closes =
        let own : slice_get tokens word ≡ Some opener = subst (λ (n : ℕ). slice_get tokens n ≡ Some opener) (sym awaits.0) found in
        let behind : drop (word + 1) tokens ≡ between ++ closer ∷ drop (end + 1) tokens =
        subst (λ (n : ℕ). drop (n + 1) tokens ≡ between ++ closer ∷ drop (end + 1) tokens) (sym awaits.0) is in
        let mid : ℕ = past_word tokens word (end + 1) in
        let (again, repeated, spans) = passes is_same_word opener word (end + 1) own in
        let (names, named, further) = passes_name between (drop (end + 1) tokens) closer word mid behind ends in
        (again ++ names, local_method again names ends awaits.1 repeated named, spans_both (end + 1) mid (past_name tokens word mid) again names spans further)
    word_takes openings.Definition at end word d e opener closer inner between found (defining, header, defined) groups is place ends closes =
        let less = word_before words tokens word (at + 1) end d e inner groups header defined closes in
        let here : defined_from words (at + 1) (between ++ closer ∷ drop (end + 1) tokens) ≡ Ended word =
        subst (λ (ts : List Token). defined_from words (at + 1) ts ≡ Ended word) is defined in
        let w = defines words between (closer ∷ drop (end + 1) tokens) (at + 1) word here (omega arith) in
        let whole : drop (at + 1) tokens ≡ (w.before ++ w.token ∷ w.behind) ++ closer ∷ drop (end + 1) tokens =
        is ∙ ap (λ (xs : List Token). xs ++ closer ∷ drop (end + 1) tokens) w.split in
        let (own, behind) = drop_split tokens (at + 1) word w.before w.behind (closer ∷ drop (end + 1) tokens) w.token whole w.place in
        let mid : ℕ = past_word tokens word (end + 1) in
        let (again, repeated, spans) = passes is_same_word w.token word (end + 1) own in
        let (names, named, further) = passes_name w.behind (drop (end + 1) tokens) closer word mid behind ends in (
          again ++ names,
          definition w.before w.behind w.token again names ends defining w.split (w.first 0 ∙ ap Ended (from_zero (length w.before))) repeated named,
          spans_both (end + 1) mid (past_name tokens word mid) again names spans further,
        )
      where
        from_zero : (n : ℕ) → 0 + n ≡ n
        from_zero n = omega arith

    takes : (k : Closing) (j : Closer) (at end after : ℕ) (d e g : Context) (opener closer : Token) (inner : List SeenFragment) (between : List Token)
        → slice_get tokens at ≡ Some opener → Opened words tokens opener at (Opens k d) → Groups words tokens (at + 1) d end e inner
        → drop (at + 1) tokens ≡ between ++ closer ∷ drop (end + 1) tokens → end ≡ at + 1 + length between
        → IsCloser closer e.mode (Closes j) → close words tokens k j closer (end + 1) e ≡ At after g → Takes opener between closer (end + 1) after
    takes (closings.Bracket bracket outside) (closers.Bracket other) at end after d e g opener closer inner between found opens groups is place told closes =
        let same = fitting (same_shape bracket other) closer.place (end + 1) after (after_bracket outside e.mode) g closes in
        subst (λ (n : ℕ). Takes opener between closer (end + 1) n) same ([], no_token, spans_none (end + 1))
    takes (closings.Bracket bracket outside) closers.End at end after d e g opener closer inner between found opens groups is place ends closes = absurd cc
    takes (closings.Word word o) (closers.Bracket other) at end after d e g opener closer inner between found opens groups is place ends closes = absurd cc
    takes (closings.Word word o) closers.End at end after d e g opener closer inner between found opens groups is place ends closes =
        let to : ℕ = past_end tokens word o (end + 1) in
        let same = word_closed words o to after g (slice_get tokens to) closes in
        subst (λ (n : ℕ). Takes opener between closer (end + 1) n) same
        (word_takes o at end word d e opener closer inner between found opens groups is place ends.0 ends.1)

    -- ---- the tokens of trees

    abbrev Stands : ℕ → ℕ → List SeenFragment → Type 0
    Stands from to fs = (ts : List Token) × StandFor words fs ts × Spans from to ts

    stands_leaf : (at to : ℕ) (t : Token) (fs : List SeenFragment) → slice_get tokens at ≡ Some t → Stands (at + 1) to fs → Stands at to (one t ∷ fs)
    stands_leaf at to t fs found (ts, all, spans) =
        (t ∷ ts, token_then t fs ts all, spans_both at (at + 1) to (t ∷ []) ts (spans_one at t (drop_found tokens at t found)) spans)

    stands_group : (at end after to : ℕ) (c d e g : Context) (opener closer : Token) (k : Closing) (j : Closer) (inner fs : List SeenFragment)
        → slice_get tokens at ≡ Some opener → front_at words tokens opener at c ≡ Opens k d → Groups words tokens (at + 1) d end e inner
        → slice_get tokens end ≡ Some closer → front_at words tokens closer end e ≡ Closes j → close words tokens k j closer (end + 1) e ≡ At after g
        → Stands (at + 1) end inner → Stands after to fs → Stands at to (group opener (pack inner) closer ∷ fs)
    stands_group at end after to c d e g opener closer k j inner fs found front groups met ends closes (between, within, (is, place)) (ts, all, (follows, last)) =
        let behind : drop (at + 1) tokens ≡ between ++ closer ∷ drop (end + 1) tokens = is ∙ ap (λ (xs : List Token). between ++ xs) (drop_found tokens end closer met) in
        let opens = subst (Opened words tokens opener at) front (opened words tokens opener at c) in
        let told = subst (IsCloser closer e.mode) ends (closer_is words tokens closer end e) in
        let (absorbed, absorbs, (past_it, next)) = takes k j at end after d e g opener closer inner between found opens groups behind place told closes in (
          opener ∷ (between ++ closer ∷ (absorbed ++ ts)),
          group_then opener closer inner fs between absorbed ts within absorbs all,
          (
            drop_found tokens at opener found
                ∙ ap (λ (xs : List Token). opener ∷ xs)
                (behind ∙ ap (λ (xs : List Token). between ++ closer ∷ xs) (past_it ∙ ap (λ (xs : List Token). absorbed ++ xs) follows)
                ∙ regrouped between absorbed ts (drop to tokens) closer),
            group_places at end after to between absorbed ts opener closer place next last,
          ),
        )

    stands : (at : ℕ) (c : Context) (to : ℕ) (e : Context) (fs : List SeenFragment) → Groups words tokens at c to e fs → Stands at to fs
    stands at c to e fs (nothing a b) = ([], no_tree, spans_none at)
    stands at c to e fs (leaf a b c2 d e2 t gs found front more) = stands_leaf at to t gs found (stands (at + 1) d to e gs more)
    stands at c to h fs (closed a end after b c2 d e g h2 opener closer k j inner gs found front within met ends closes more) =
        stands_group at end after to c d e g opener closer k j inner gs found front within met ends closes
        (stands (at + 1) d end e inner within) (stands after g to h gs more)

-- trees stand for all the tokens
pub all_stand : (words : Words) (tokens : List Token) (fs : List SeenFragment) → Grouped words tokens fs → StandFor words fs tokens
all_stand words tokens fs (to, c, groups, ends) = whole (stands tokens words 0 start to c fs groups)
  where
    whole : (ts : List Token) × StandFor words fs ts × ((drop 0 tokens ≡ ts ++ drop to tokens) × (to ≡ 0 + length ts)) → StandFor words fs tokens
    whole (ts, all, (is, place)) =
        subst (λ (xs : List Token). StandFor words fs xs) (sym (is ∙ ap (λ (xs : List Token). ts ++ xs) (drop_ended tokens to ends) ∙ append-nil ts)) all
