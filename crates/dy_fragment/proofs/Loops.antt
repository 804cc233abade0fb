-- One turn of each loop over words and tokens.
use Rattle.std.proofs.Common.{◌≡◌, ℕ, suc, ◌+◌, ◌<◌, ◌≤◌, Bool, true, false, cond, List, [], ◌∷◌, length, get_or, drop, refl, sym, ap, ◌∙◌, arith, add-one, drop-cons}
use Rattle.std.proofs.lemmas.List.{drop_all}
use Rattle.dy_tree.specs.declared.token.Token.{Token}
use Rattle.dy_tree.specs.declared.macros.MacroKind.{MacroKind}
use Rattle.dy_tree.specs.declared.macros.MacroKind.TheVariants.{Definition}
use Rattle.dy_tree.specs.declared.words.Word.{Word}
use Rattle.dy_tree.specs.declared.words.Words.{Words}
use Rattle.dy_fragment.specs.declared.word.Defined.{Defined}
use Rattle.dy_fragment.specs.declared.word.Defined.TheVariants.{Absent}
use Rattle.dy_fragment.specs.Words.{fits, is_one_of, is_semicolon, is_word, has_no_end, defined_by, defined_from}

pub one_of_found : (kind : MacroKind) (t : Token) (ws : List Word) (i : ℕ) (w : Word) → i < length ws → w ≡ get_or ws i w → fits kind t w ≡ true → is_one_of kind t (drop i ws) ≡ true
one_of_found kind t ws i w h is fit =
    let here : fits kind t (get_or ws i w) ≡ true = ap (fits kind t) (sym is) ∙ fit in
    rw (drop-cons ws i w h, here) refl

pub one_of_more : (kind : MacroKind) (t : Token) (ws : List Word) (i : ℕ) (w : Word) → i < length ws → w ≡ get_or ws i w → fits kind t w ≡ false
    → is_one_of kind t (drop i ws) ≡ is_one_of kind t (drop (i + 1) ws)
one_of_more kind t ws i w h is fit =
    let here : fits kind t (get_or ws i w) ≡ false = ap (fits kind t) (sym is) ∙ fit in
    rw (add-one, drop-cons ws i w h, here) refl

pub one_of_none : (kind : MacroKind) (t : Token) (ws : List Word) (i : ℕ) → length ws ≤ i → is_one_of kind t (drop i ws) ≡ false
one_of_none kind t ws i h = ap (is_one_of kind t) (drop_all i ws h)

abbrev pub defined_here : Words → ℕ → Token → Defined → Defined
defined_here words i t more = cond (is_semicolon t) Absent (cond (is_word Definition words t) (defined_by (has_no_end t) i) more)

pub defined_step : (words : Words) (ts : List Token) (i : ℕ) (t : Token) → i < length ts → t ≡ get_or ts i t
    → defined_from words i (drop i ts) ≡ defined_here words i t (defined_from words (i + 1) (drop (i + 1) ts))
defined_step words ts i t h is =
    ap (defined_from words i) (drop-cons ts i t h) ∙ ap (λ (u : Token). defined_here words i u (defined_from words (i + 1) (drop (suc i) ts))) (sym is)
    ∙ ap (λ (n : ℕ). defined_here words i t (defined_from words (i + 1) (drop n ts))) (sym (add-one i))

pub defined_none : (words : Words) (ts : List Token) (i : ℕ) → length ts ≤ i → defined_from words i (drop i ts) ≡ Absent
defined_none words ts i h = ap (defined_from words i) (drop_all i ts h)
