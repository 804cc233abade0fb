-- Fragments with a semicolon at the end, and without one.
use Rattle.std.proofs.Common.{◌≡◌, ◌≤◌, true, false, List, [], ◌∷◌, ◌++◌, refl, sym, ap, arith}
use Rattle.std.proofs.lemmas.List.{append-nil}
use Rattle.dy_tree.specs.declared.fragment.Fragment.{Fragment}
use Rattle.dy_tree.specs.Fragments.{seen_fragment, seen_fragments}
use Rattle.dy_rules.specs.Cutting.{Item, is_semicolon, without_if, without_end}
use Rattle.dy_rules.specs.Fragments.{item_of, items_of}
use Rattle.dy_read_parts.specs.Nesting.{nesting}

abbrev items : List Fragment → List Item
items fragments = items_of (seen_fragments fragments)

ends : (rest : List Fragment) (last : Fragment) → without_end (items (rest ++ last ∷ [])) ≡ items rest ++ without_if (is_semicolon (seen_fragment last)) (item_of (seen_fragment last))
ends [] last = refl
ends (first ∷ []) last = refl
ends (first ∷ second ∷ rest) last = ap (λ (others : List Item). item_of (seen_fragment first) ∷ others) (ends (second ∷ rest) last)

joins : (rest : List Fragment) (last : Fragment) → items (rest ++ last ∷ []) ≡ items rest ++ item_of (seen_fragment last) ∷ []
joins [] last = refl
joins (first ∷ rest) last = ap (λ (others : List Item). item_of (seen_fragment first) ∷ others) (joins rest last)

front_nesting : (before after : List Fragment) → nesting (seen_fragments before) ≤ nesting (seen_fragments (before ++ after))
front_nesting [] after = omega arith
front_nesting (first ∷ before) after = let h = front_nesting before after in omega arith

module _ (fragments rest : List Fragment) (last : Fragment) where
  pub end_cut : fragments ≡ rest ++ last ∷ [] → true ≡ is_semicolon (seen_fragment last) → items_of (seen_fragments rest) ≡ without_end (items_of (seen_fragments fragments))
  end_cut e is = rw (e, ends rest last, sym is) (sym (append-nil (items rest)))

  pub end_kept : fragments ≡ rest ++ last ∷ [] → false ≡ is_semicolon (seen_fragment last) → items_of (seen_fragments fragments) ≡ without_end (items_of (seen_fragments fragments))
  end_kept e is = rw (e, ends rest last, sym is) (joins rest last)

  pub end_nesting : fragments ≡ rest ++ last ∷ [] → nesting (seen_fragments rest) ≤ nesting (seen_fragments fragments)
  end_nesting e = rw e (front_nesting rest (last ∷ []))
