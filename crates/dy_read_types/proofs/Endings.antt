-- Parts are read one after the other, and at the end one that may be of another sort, where what is read is changed.
use Rattle.std.proofs.Common.{◌≡◌, Bool, false, List, [], ◌∷◌, ◌++◌, Option, Some, None, option_map, refl, sym, ap, ◌∙◌, append_assoc}
use Rattle.dy_tree.specs.Fragments.{SeenFragment}
use Rattle.dy_rules.specs.Cutting.{Item, Pieces, Ending, cut, only_part, with_part, ending_at, ending}
use Rattle.dy_rules.specs.Fragments.{items_of}
use Rattle.dy_rules_depth.specs.ReaderChanges.{changed_ending}
use Rattle.dy_read_parts.specs.Pieces.{pieces_behind}
use Rattle.dy_read_types.specs.Endings.{parts_before, changed_parts, last_part}

change_with : {A B : Type 0} (on : A → A) (on_last : B → B) (first : Option A) (others : Option (Ending A B)) → option_map (changed_ending on on_last) (with_part first others) ≡ with_part (option_map on first) (option_map (changed_ending on on_last) others)
change_with on on_last None others = refl
change_with on on_last (Some first) None = refl
change_with on on_last (Some first) (Some others) = refl

one_more : {A B : Type 0} (before : List A) (next : A) (others : Option (Ending A B)) → parts_before before (with_part (Some next) others) ≡ parts_before (before ++ next ∷ []) others
one_more before next None = refl
one_more {A = A} {B = B} before next (Some others) = ap (λ (parts : List A). Some (record { parts = parts; last = others.last })) (sym (append_assoc before (next ∷ []) others.parts))

pub no_parts_before : {A B : Type 0} (others : Option (Ending A B)) → others ≡ parts_before [] others
no_parts_before None = refl
no_parts_before (Some others) = refl

module _ {A B : Type 0} (on : A → A) (on_last : B → B) (separates : SeenFragment → Bool) (is_last : List Item → Bool) (read : List Item → Option A) (read_last : List Item → Option B) where
  abbrev parts_in : List SeenFragment → Option (Ending A B)
  parts_in fragments = changed_parts on on_last separates is_last read read_last fragments

  part_is : (fragments : List SeenFragment) (first : List Item) (separator : SeenFragment) (behind : List SeenFragment) (found : Option A) → cut separates false (items_of fragments) ≡ pieces_behind separates first (separator ∷ behind) → found ≡ option_map on (read first)
      → parts_in fragments ≡ with_part found (parts_in behind)
  part_is fragments first separator behind found cuts e =
      ap (λ (pieces : Pieces). option_map (changed_ending on on_last) (ending is_last read read_last pieces)) cuts
      ∙ change_with on on_last (read first) (ending is_last read read_last (cut separates false (items_of behind)))
      ∙ ap (λ (it : Option A). with_part it (parts_in behind)) (sym e)

  -- A part is read, and then what stands behind its separator.
  pub ending_read : (before after : List A) (next : A) (fragments : List SeenFragment) (first : List Item) (separator : SeenFragment) (behind : List SeenFragment) → cut separates false (items_of fragments) ≡ pieces_behind separates first (separator ∷ behind)
      → Some next ≡ option_map on (read first) → after ≡ before ++ next ∷ [] → parts_before before (parts_in fragments) ≡ parts_before after (parts_in behind)
  ending_read before after next fragments first separator behind cuts e more =
      ap (parts_before before) (part_is fragments first separator behind (Some next) cuts e) ∙ one_more before next (parts_in behind) ∙ ap (λ (all : List A). parts_before all (parts_in behind)) (sym more)

  pub ending_fails : (before : List A) (fragments : List SeenFragment) (first : List Item) (separator : SeenFragment) (behind : List SeenFragment) → cut separates false (items_of fragments) ≡ pieces_behind separates first (separator ∷ behind)
      → None ≡ option_map on (read first) → None ≡ parts_before before (parts_in fragments)
  ending_fails before fragments first separator behind cuts e = sym (ap (parts_before before) (part_is fragments first separator behind None cuts e))

  -- The last part is read.
  pub ending_ends : (before : List A) (fragments : List SeenFragment) → cut separates false (items_of fragments) ≡ pieces_behind separates (items_of fragments) []
      → parts_before before (parts_in fragments) ≡ parts_before before (option_map (changed_ending on on_last) (last_part is_last read read_last fragments))
  ending_ends before fragments cuts = ap (λ (pieces : Pieces). parts_before before (option_map (changed_ending on on_last) (ending is_last read read_last pieces))) cuts

module _ {A B : Type 0} (on : A → A) (on_last : B → B) (is_last : List Item → Bool) (read : List Item → Option A) (read_last : List Item → Option B) where
  part_changed : (found : Option A) → option_map (changed_ending on on_last) (option_map only_part found) ≡ option_map only_part (option_map on found)
  part_changed None = refl
  part_changed (Some part) = refl

  pub last_is : (fragments : List SeenFragment) (found : Option A) → false ≡ is_last (items_of fragments) → found ≡ option_map on (read (items_of fragments))
      → option_map only_part found ≡ option_map (changed_ending on on_last) (last_part is_last read read_last fragments)
  last_is fragments found is e =
      let items : List Item = items_of fragments in
      ap (option_map only_part) e ∙ sym (part_changed (read items)) ∙ ap (λ (b : Bool). option_map (changed_ending on on_last) (ending_at b (read items) (read_last items))) is

  -- where the last part is of the sort of the others
  pub last_read : (before after : List A) (next : A) (fragments : List SeenFragment) → false ≡ is_last (items_of fragments) → Some next ≡ option_map on (read (items_of fragments)) → after ≡ before ++ next ∷ []
      → Some (record { parts = after; last = None }) ≡ parts_before before (option_map (changed_ending on on_last) (last_part is_last read read_last fragments))
  last_read before after next fragments is e more = ap (λ (parts : List A). Some (record { parts = parts; last = None })) more ∙ ap (parts_before before) (last_is fragments (Some next) is e)

  pub last_fails : (before : List A) (fragments : List SeenFragment) → false ≡ is_last (items_of fragments) → None ≡ option_map on (read (items_of fragments))
      → None ≡ parts_before before (option_map (changed_ending on on_last) (last_part is_last read read_last fragments))
  last_fails before fragments is e = ap (parts_before before) (last_is fragments None is e)
