-- Fragments are cut behind their first piece, and forms are read piece by piece.
use Rattle.std.proofs.Common.{◌≡◌, ℕ, zero, suc, ◌+◌, ◌<◌, ◌≤◌, length, Bool, true, false, true≢false, cond, List, [], ◌∷◌, ◌++◌, take, drop, Option, Some, None, Result, Ok, Err, refl, sym, ap, ◌∙◌, append_assoc, append-nil, arith}
use Rattle.dy_base.specs.declared.fault.Place.{Place}
use Rattle.dy_tree.specs.declared.fragment.Fragment.{Fragment}
use Rattle.dy_tree.specs.Fragments.{SeenFragment, seen_fragment, seen_fragments}
use Rattle.dy_module_forms.specs.declared.written.Form.{Form}
use Rattle.dy_module_forms.specs.Cuts.{is_last, with_first, pieces, piece_len}
use Rattle.dy_module_forms.specs.Forms.{piece_form, piece_place, with_form, forms_in, forms_of, forms_before}

abbrev IsCut : SeenFragment → List SeenFragment → Type 0
IsCut f fs = pieces (f ∷ fs) ≡ take (piece_len (f ∷ fs)) (f ∷ fs) ∷ pieces (drop (piece_len (f ∷ fs)) (f ∷ fs))

pub cut_piece : (f : SeenFragment) (fs : List SeenFragment) → IsCut f fs
cut_piece f [] = refl
cut_piece f (g ∷ fs) = by_last (is_last f (g ∷ fs)) refl (cut_piece g fs)
  where
    by_last : (b : Bool) → is_last f (g ∷ fs) ≡ b → IsCut g fs → IsCut f (g ∷ fs)
    by_last true is rest = rw is refl
    by_last false is rest = rw (is, rest) refl

-- a piece has one fragment or more
pub piece_more : (f : SeenFragment) (fs : List SeenFragment) → 1 ≤ piece_len (f ∷ fs)
piece_more f fs = by_last (is_last f fs)
  where
    by_last : (b : Bool) → 1 ≤ cond b 1 (suc (piece_len fs))
    by_last true = omega arith
    by_last false = omega arith

abbrev IsRead : List SeenFragment → Type 0
IsRead all = forms_of all ≡ with_form (piece_place (take (piece_len all) all)) (piece_form (take (piece_len all) all)) (forms_of (drop (piece_len all) all))

forms_cut : (xs : List Fragment) → 0 < length xs → IsRead (seen_fragments xs)
forms_cut [] some = absurd (omega (arith, some))
forms_cut (x ∷ xs) some = ap forms_in (cut_piece (seen_fragment x) (seen_fragments xs))

more : (before : List Form) (form : Form) (place : Place) (others : Result (List Form) Place) → forms_before before (with_form place (Some form) others) ≡ forms_before (before ++ form ∷ []) others
more before form place (Ok forms) = ap (λ (l : List Form). let r : Result (List Form) Place = Ok l in r) (sym (append_assoc before (form ∷ []) forms))
more before form place (Err other) = refl

-- fewer fragments are left
pub piece_some : (xs : List Fragment) → 0 < length xs → 1 ≤ piece_len (seen_fragments xs)
piece_some [] some = absurd (omega (arith, some))
piece_some (x ∷ xs) some = piece_more (seen_fragment x) (seen_fragments xs)

module _ (xs : List Fragment) (some : 0 < length xs) (piece rest : List SeenFragment) (front : piece ≡ take (piece_len (seen_fragments xs)) (seen_fragments xs)) (behind : rest ≡ drop (piece_len (seen_fragments xs)) (seen_fragments xs))
    (before : List Form) (total : Result (List Form) Place) (reads : forms_before before (forms_of (seen_fragments xs)) ≡ total) where
  cut : forms_before before (with_form (piece_place piece) (piece_form piece) (forms_of rest)) ≡ total
  cut =
      ap (λ l. forms_before before (with_form (piece_place l) (piece_form l) (forms_of rest))) front
      ∙ ap (λ l. forms_before before (with_form (piece_place (take (piece_len (seen_fragments xs)) (seen_fragments xs))) (piece_form (take (piece_len (seen_fragments xs)) (seen_fragments xs))) (forms_of l))) behind
      ∙ ap (forms_before before) (sym (forms_cut xs some)) ∙ reads

  -- one form more
  pub form_turn : (after : List Form) (form : Form) → Some form ≡ piece_form piece → after ≡ before ++ form ∷ [] → forms_before after (forms_of rest) ≡ total
  form_turn after form found e =
      ap (λ l. forms_before l (forms_of rest)) e ∙ sym (more before form (piece_place piece) (forms_of rest))
      ∙ ap (λ o. forms_before before (with_form (piece_place piece) o (forms_of rest))) found ∙ cut

  -- the first that is none
  pub form_none : None ≡ piece_form piece → total ≡ Err (piece_place piece)
  form_none none = sym cut ∙ ap (λ o. forms_before before (with_form (piece_place piece) o (forms_of rest))) (sym none)

pub form_end : (xs : List Fragment) (before : List Form) (total : Result (List Form) Place) → length xs ≤ 0 → forms_before before (forms_of (seen_fragments xs)) ≡ total → total ≡ Ok before
form_end [] before total none reads = sym reads ∙ ap (λ (l : List Form). let r : Result (List Form) Place = Ok l in r) (append-nil before)
form_end (x ∷ xs) before total none reads = absurd (omega (arith, none))
