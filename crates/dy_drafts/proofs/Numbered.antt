-- Terms that are given to hidden locals one after the other.
use Rattle.std.proofs.Common.{◌≡◌, ℕ, suc, List, [], ◌∷◌, ◌++◌, ◌+◌, length, map, refl, sym, ap, ◌∙◌, arith}
use Rattle.std.proofs.lemmas.List.{map-append, length-map}
use Rattle.dy_term.specs.declared.draft.DraftTerm.{DraftTerm}
use Rattle.dy_term.specs.declared.draft.DraftItem.{DraftItem}
use Rattle.dy_term.specs.Drafts.{Core, CoreItem, seen_term, seen_item}
use Rattle.dy_drafts.specs.Parts.{hide, hide_from}

hide_more : (number : ℕ) (terms : List Core) (term : Core) → hide_from number (terms ++ term ∷ []) ≡ hide_from number terms ++ hide (number + length terms) term ∷ []
hide_more number [] term = ap (λ (n : ℕ). hide n term ∷ []) (omega arith)
hide_more number (first ∷ terms) term =
    ap (λ (others : List CoreItem). hide number first ∷ others) (hide_more (suc number) terms term ∙ ap (λ (n : ℕ). hide_from (suc number) terms ++ hide n term ∷ []) (omega arith))

length_hidden : (number : ℕ) (terms : List Core) → length (hide_from number terms) ≡ length terms
length_hidden number [] = refl
length_hidden number (first ∷ terms) = ap suc (length_hidden (suc number) terms)

-- one more term, to the hidden local whose number is how many there are
pub hide_turn : (items : List DraftItem) (terms : List DraftTerm) (item : DraftItem) (term : DraftTerm) (number : ℕ) → map seen_item items ≡ hide_from 0 (map seen_term terms) → number ≡ length items
    → seen_item item ≡ hide number (seen_term term) → map seen_item (items ++ item ∷ []) ≡ hide_from 0 (map seen_term (terms ++ term ∷ []))
hide_turn items terms item term number same count one =
    let none : length (map seen_term terms) ≡ 0 + length (map seen_term terms) = omega arith in
    let many : number ≡ 0 + length (map seen_term terms) = count ∙ (sym (length-map items seen_item) ∙ ap length same ∙ length_hidden 0 (map seen_term terms)) ∙ none in
    map-append seen_item items (item ∷ [])
    ∙ ap (λ (before : List CoreItem). before ++ seen_item item ∷ []) same
    ∙ ap (λ (made : CoreItem). hide_from 0 (map seen_term terms) ++ made ∷ []) (one ∙ ap (λ (n : ℕ). hide n (seen_term term)) many)
    ∙ sym (hide_more 0 (map seen_term terms) (seen_term term))
    ∙ ap (hide_from 0) (sym (map-append seen_term terms (term ∷ [])))
