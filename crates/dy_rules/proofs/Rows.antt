-- What is derived as parts with separators between them is read.
use Rattle.std.proofs.Common.{◌≡◌, Bool, true, false, List, [], ◌∷◌, ◌++◌, Option, Some, ap, subst, ◌∙◌}
use Rattle.std.proofs.lemmas.List.{append-nil, map-append}
use Rattle.dy_tree.specs.Fragments.{SeenFragment}
use Rattle.dy_rules.specs.Cutting.{Item, Piece, cut, with_others, each, only_part, only_last, with_part, ending_at, ending}
use Rattle.dy_rules.specs.Fragments.{item_of, items_of}
use Rattle.dy_rules.proofs.Cuts.{Closed, joined, cut_end, cut_on}

abbrev Fragments : Type 0
Fragments = List SeenFragment

pub items_append : (before after : Fragments) → items_of (before ++ after) ≡ items_of before ++ items_of after
items_append before after = map-append item_of before after

pub joined_on : (separates : SeenFragment → Bool) (bound : Bool) (before : Fragments) (separator : SeenFragment) (after : Fragments) → Closed separates bound before → separates separator ≡ true
    → cut separates bound (items_of (before ++ separator ∷ after)) ≡ joined (items_of before) separator (cut separates false (items_of after))
joined_on separates bound before separator after h is = ap (cut separates bound) (items_append before (separator ∷ after)) ∙ cut_on separates bound before separator (items_of after) h is

module _ {A : Type 0} (separates : SeenFragment → Bool) (read : List Item → Option A) where
  pub row_last : (fragments : List SeenFragment) (a : A) → Closed separates false fragments → read (items_of fragments) ≡ Some a → each read (cut separates false (items_of fragments)) ≡ Some (a ∷ [])
  row_last fragments a h e = ap (each read) (cut_end separates false fragments h) ∙ ap (λ (o : Option A). with_others o (Some [])) e

  pub row_more : (before : List SeenFragment) (separator : SeenFragment) (after : List SeenFragment) (a : A) (others : List A) → Closed separates false before → separates separator ≡ true → read (items_of before) ≡ Some a
      → each read (cut separates false (items_of after)) ≡ Some others → each read (cut separates false (items_of (before ++ separator ∷ after))) ≡ Some (a ∷ others)
  row_more before separator after a others h is e f =
      ap (each read) (joined_on separates false before separator after h is) ∙ ap (λ (o : Option A). with_others o (each read (cut separates false (items_of after)))) e ∙ ap (with_others (Some a)) f

module _ {A B : Type 0} (separates : SeenFragment → Bool) (is_last : List Item → Bool) (read : List Item → Option A) (read_last : List Item → Option B) where
  pub ending_only : (fragments : List SeenFragment) (a : A) → Closed separates false fragments → is_last (items_of fragments) ≡ false → read (items_of fragments) ≡ Some a
      → ending is_last read read_last (cut separates false (items_of fragments)) ≡ Some (only_part a)
  ending_only fragments a h is e =
      ap (ending is_last read read_last) (cut_end separates false fragments h) ∙ ap (λ (b : Bool). ending_at b (read (items_of fragments)) (read_last (items_of fragments))) is
      ∙ ap (λ (o : Option A). ending_at false o (read_last (items_of fragments))) e

  pub ending_last : (fragments : List SeenFragment) (b : B) → Closed separates false fragments → is_last (items_of fragments) ≡ true → read_last (items_of fragments) ≡ Some b
      → ending is_last read read_last (cut separates false (items_of fragments)) ≡ Some (only_last b)
  ending_last fragments b h is e =
      ap (ending is_last read read_last) (cut_end separates false fragments h) ∙ ap (λ (c : Bool). ending_at c (read (items_of fragments)) (read_last (items_of fragments))) is
      ∙ ap (λ (o : Option B). ending_at true (read (items_of fragments)) o) e

  pub ending_more : (before : List SeenFragment) (separator : SeenFragment) (after : List SeenFragment) (a : A) (others : List A) (last : Option B) → Closed separates false before → separates separator ≡ true → read (items_of before) ≡ Some a
      → ending is_last read read_last (cut separates false (items_of after)) ≡ Some (record { parts = others; last = last })
      → ending is_last read read_last (cut separates false (items_of (before ++ separator ∷ after))) ≡ Some (record { parts = a ∷ others; last = last })
  ending_more before separator after a others last h is e f =
      ap (ending is_last read read_last) (joined_on separates false before separator after h is)
      ∙ ap (λ (o : Option A). with_part o (ending is_last read read_last (cut separates false (items_of after)))) e ∙ ap (with_part (Some a)) f

-- Behind fragments in which nothing separates, these are cut into these pieces.
pub record Behind (separates : SeenFragment → Bool) (others : List Piece) (fragments : List SeenFragment) : Type 0 where
  pub pieces : (bound : Bool) (front : List SeenFragment) → Closed separates bound front → cut separates bound (items_of (front ++ fragments)) ≡ record { first = items_of front; others = others }

pub behind_nothing : (separates : SeenFragment → Bool) → Behind separates [] []
behind_nothing separates = record { pieces = λ bound front h. ap (λ (fs : List SeenFragment). cut separates bound (items_of fs)) (append-nil front) ∙ cut_end separates bound front h }

pub behind_piece : (separates : SeenFragment → Bool) (others : List Piece) (separator : SeenFragment) (first second : Fragments) → separates separator ≡ true → Closed separates false first → Behind separates others second
    → Behind separates (record { separator = separator; items = items_of first } ∷ others) (separator ∷ (first ++ second))
behind_piece separates others separator first second is h k =
    record { pieces = λ bound front closed. joined_on separates bound front separator (first ++ second) closed is ∙ ap (joined (items_of front) separator) (k.pieces false first h) }

pub behind_last : (separates : SeenFragment → Bool) (separator : SeenFragment) (first : Fragments) → separates separator ≡ true → Closed separates false first → Behind separates (record { separator = separator; items = items_of first } ∷ []) (separator ∷ first)
behind_last separates separator first is h =
    subst (λ (fs : Fragments). Behind separates (record { separator = separator; items = items_of first } ∷ []) (separator ∷ fs)) (append-nil first) (behind_piece separates [] separator first [] is h (behind_nothing separates))
