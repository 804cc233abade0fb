-- Fragments are cut at their first separator, and then what stands behind it is.
use Rattle.std.proofs.Common.{◌≡◌, ℕ, Bool, true, false, not, ◌&&◌, List, [], ◌∷◌, ◌++◌, take, drop, map, Option, Some, None, option_map, refl, sym, ap, ◌∙◌, append_assoc}
use Rattle.dy_tree.specs.declared.fragment.Fragment.{Fragment}
use Rattle.dy_tree.specs.Fragments.{SeenFragment, seen_fragment, seen_fragments}
use Rattle.dy_rules.specs.Cutting.{Item, Pieces, is_let, cut, with_others, each, each_other}
use Rattle.dy_rules.specs.Fragments.{items_of}
use Rattle.dy_read_parts.specs.Pieces.{front_len, piece_and, others_in, pieces_behind, read_before, behind_first, each_part}

module _ (separates : SeenFragment → Bool) where
  abbrev IsCutAt : Bool → List Fragment → ℕ → Type 0
  IsCutAt bound fragments at = cut separates bound (items_of (seen_fragments fragments)) ≡ pieces_behind separates (items_of (seen_fragments (take at fragments))) (seen_fragments (drop at fragments))

  abbrev IsCut : Bool → List Fragment → Type 0
  IsCut bound fragments = IsCutAt bound fragments (front_len separates bound (seen_fragments fragments))

  cut_by : (here bound : Bool) (first : Fragment) (rest : List Fragment) → (not bound && separates (seen_fragment first)) ≡ here → IsCut (is_let (seen_fragment first)) rest → IsCut bound (first ∷ rest)
  cut_by true bound first rest e behind = rw e refl
  cut_by false bound first rest e behind = rw (e, behind) refl

  pub cut_at : (bound : Bool) (fragments : List Fragment) → IsCut bound fragments
  cut_at bound [] = refl
  cut_at bound (first ∷ rest) = cut_by (not bound && separates (seen_fragment first)) bound first rest refl (cut_at (is_let (seen_fragment first)) rest)

-- the first piece is read, and then the others are
pub each_behind : {A : Type 0} (separates : SeenFragment → Bool) (read : List Item → Option A) (separator : SeenFragment) (behind : List SeenFragment) (first : List Item) (rest : List SeenFragment)
    → cut separates false (items_of behind) ≡ pieces_behind separates first rest
    → each_other read (others_in separates (separator ∷ behind)) ≡ with_others (read first) (each_other read (others_in separates rest))
each_behind separates read separator behind first rest e = ap (λ (pieces : Pieces). each_other read (piece_and separator pieces)) e

pub read_more : {A : Type 0} (before : List A) (next : A) (others : Option (List A)) → read_before before (option_map (λ list. next ∷ list) others) ≡ read_before (before ++ next ∷ []) others
read_more before next None = refl
read_more before next (Some others) = ap Some (sym (append_assoc before (next ∷ []) others))

pub read_one_more : {A : Type 0} (before : List A) (next : A) (others : Option (List A)) → read_before before (with_others (Some next) others) ≡ read_before (before ++ next ∷ []) others
read_one_more before next None = refl
read_one_more before next (Some others) = ap Some (sym (append_assoc before (next ∷ []) others))

-- A part is read, and then what stands behind its separator, where what is read is changed.
module _ {A : Type 0} (change : A → A) where
  pub change_with : (first : Option A) (others : Option (List A)) → option_map (map change) (with_others first others) ≡ with_others (option_map change first) (option_map (map change) others)
  change_with None others = refl
  change_with (Some first) None = refl
  change_with (Some first) (Some others) = refl

  pub nothing_before : (others : Option (List A)) → others ≡ read_before [] others
  nothing_before None = refl
  nothing_before (Some others) = refl

  module _ (separates : SeenFragment → Bool) (read : List Item → Option A) where
    behind_is : (rest : List SeenFragment) → each_other read (others_in separates rest) ≡ each_part separates read (behind_first rest)
    behind_is [] = refl
    behind_is (separator ∷ rest) = refl

    part_is : (fragments : List SeenFragment) (first : List Item) (rest : List SeenFragment) (found : Option A) → cut separates false (items_of fragments) ≡ pieces_behind separates first rest → found ≡ option_map change (read first)
        → option_map (map change) (each_part separates read (Some fragments)) ≡ with_others found (option_map (map change) (each_part separates read (behind_first rest)))
    part_is fragments first rest found cuts e =
        ap (λ (pieces : Pieces). option_map (map change) (each read pieces)) cuts ∙ change_with (read first) (each_other read (others_in separates rest))
        ∙ ap (λ (others : Option (List A)). with_others (option_map change (read first)) (option_map (map change) others)) (behind_is rest)
        ∙ ap (λ (it : Option A). with_others it (option_map (map change) (each_part separates read (behind_first rest)))) (sym e)

    pub part_read : (before after : List A) (next : A) (fragments : List SeenFragment) (first : List Item) (rest : List SeenFragment) → cut separates false (items_of fragments) ≡ pieces_behind separates first rest → Some next ≡ option_map change (read first)
        → after ≡ before ++ next ∷ []
        → read_before before (option_map (map change) (each_part separates read (Some fragments))) ≡ read_before after (option_map (map change) (each_part separates read (behind_first rest)))
    part_read before after next fragments first rest cuts e more =
        ap (read_before before) (part_is fragments first rest (Some next) cuts e) ∙ read_one_more before next (option_map (map change) (each_part separates read (behind_first rest)))
        ∙ ap (λ (all : List A). read_before all (option_map (map change) (each_part separates read (behind_first rest)))) (sym more)

    pub part_fails : (before : List A) (fragments : List SeenFragment) (first : List Item) (rest : List SeenFragment) → cut separates false (items_of fragments) ≡ pieces_behind separates first rest → None ≡ option_map change (read first)
        → None ≡ read_before before (option_map (map change) (each_part separates read (Some fragments)))
    part_fails before fragments first rest cuts e = sym (ap (read_before before) (part_is fragments first rest None cuts e))

  -- the same where the first is read in some other way
  pub more_read : (before after : List A) (next : A) (found : Option A) (others : Option (List A)) → Some next ≡ option_map change found → after ≡ before ++ next ∷ []
      → read_before before (option_map (map change) (with_others found others)) ≡ read_before after (option_map (map change) others)
  more_read before after next found others e more =
      ap (read_before before) (change_with found others ∙ ap (λ (it : Option A). with_others it (option_map (map change) others)) (sym e)) ∙ read_one_more before next (option_map (map change) others)
      ∙ ap (λ (all : List A). read_before all (option_map (map change) others)) (sym more)

  pub more_fails : (before : List A) (found : Option A) (others : Option (List A)) → None ≡ option_map change found → None ≡ read_before before (option_map (map change) (with_others found others))
  more_fails before found others e = sym (ap (read_before before) (change_with found others ∙ ap (λ (it : Option A). with_others it (option_map (map change) others)) (sym e)))
