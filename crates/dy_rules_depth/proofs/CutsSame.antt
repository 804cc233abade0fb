-- Items are cut at the same places, whatever was read inside of them, and pieces are read the same to the limit where their items are.
use Rattle.std.proofs.Common.{◌≡◌, Bool, true, false, not, ◌&&◌, List, [], ◌∷◌, map, Option, Some, None, option_map, refl, ap, ◌∙◌}
use Rattle.dy_tree.specs.Fragments.{SeenFragment, one, group}
use Rattle.dy_tree.specs.declared.brackets.Bracket.{Bracket}
use Rattle.dy_tree.specs.declared.brackets.Bracket.TheVariants as brackets
use Rattle.dy_rules.specs.Roles.{bracket_of}
use Rattle.dy_rules.specs.Cutting.{Item, Piece, Pieces, is_semicolon, is_let, cut_if, cut, with_others, each_other, each, without_if, without_end, Sides, sides_at, first_cut, fragments_in, Ending, only_part, only_last, with_part, ending_at, ending_from, ending, front_in, front_at, headed}
use Rattle.dy_rules_depth.specs.Changes.{Change}
use Rattle.dy_rules_depth.specs.ReaderChanges.{changed_ending, changed_item_of, changed_items, changed_piece, changed_pieces, changed_sides, changed_front}
use Rattle.dy_rules_depth.specs.Capping.{capping}
use Rattle.dy_rules_depth.proofs.Options.{lifted, map_same}

module _ (change : Change) where
  pub fragments_changed : (items : List Item) → fragments_in (changed_items change items) ≡ fragments_in items
  fragments_changed [] = refl
  fragments_changed (item ∷ rest) = ap (λ (fragments : List SeenFragment). item.fragment ∷ fragments) (fragments_changed rest)

  cut_if_changed : (separates : Bool) (item : Item) (behind_it with_it : Pieces) → cut_if separates (changed_item_of change item) (changed_pieces change behind_it) (changed_pieces change with_it) ≡ changed_pieces change (cut_if separates item behind_it with_it)
  cut_if_changed true item behind_it with_it = refl
  cut_if_changed false item behind_it with_it = refl

  pub cut_changed : (separates : SeenFragment → Bool) (bound : Bool) (items : List Item) → cut separates bound (changed_items change items) ≡ changed_pieces change (cut separates bound items)
  cut_changed separates bound [] = refl
  cut_changed separates bound (item ∷ rest) =
      ap (λ (behind_it : Pieces). cut_if (not bound && separates item.fragment) (changed_item_of change item) behind_it (cut separates (is_let item.fragment) (changed_items change rest))) (cut_changed separates false rest)
      ∙ ap (λ (with_it : Pieces). cut_if (not bound && separates item.fragment) (changed_item_of change item) (changed_pieces change (cut separates false rest)) with_it) (cut_changed separates (is_let item.fragment) rest)
      ∙ cut_if_changed (not bound && separates item.fragment) item (cut separates false rest) (cut separates (is_let item.fragment) rest)

  without_if_changed : (is : Bool) (item : Item) → without_if is (changed_item_of change item) ≡ changed_items change (without_if is item)
  without_if_changed true item = refl
  without_if_changed false item = refl

  pub without_end_changed : (items : List Item) → without_end (changed_items change items) ≡ changed_items change (without_end items)
  without_end_changed [] = refl
  without_end_changed (last ∷ []) = without_if_changed (is_semicolon last.fragment) last
  without_end_changed (first ∷ second ∷ rest) = ap (λ (items : List Item). changed_item_of change first ∷ items) (without_end_changed (second ∷ rest))

  sides_changed : (is : Bool) (item : Item) (rest : List Item) (found : Option Sides) → sides_at is (changed_item_of change item) (changed_items change rest) (option_map (changed_sides change) found) ≡ option_map (changed_sides change) (sides_at is item rest found)
  sides_changed true item rest found = refl
  sides_changed false item rest None = refl
  sides_changed false item rest (Some found) = refl

  pub first_cut_changed : (separates : SeenFragment → Bool) (items : List Item) → first_cut separates (changed_items change items) ≡ option_map (changed_sides change) (first_cut separates items)
  first_cut_changed separates [] = refl
  first_cut_changed separates (item ∷ rest) =
      ap (sides_at (separates item.fragment) (changed_item_of change item) (changed_items change rest)) (first_cut_changed separates rest) ∙ sides_changed (separates item.fragment) item rest (first_cut separates rest)

  front_in_changed : (bracket : Bracket) (item : Item) (rest : List Item) → front_in bracket (changed_item_of change item) (changed_items change rest) ≡ option_map (changed_front change) (front_in bracket item rest)
  front_in_changed brackets.Round item rest = refl
  front_in_changed bracket item rest = refl

  front_at_changed : (fragment : SeenFragment) (item : Item) (rest : List Item) → front_at fragment (changed_item_of change item) (changed_items change rest) ≡ option_map (changed_front change) (front_at fragment item rest)
  front_at_changed (one token) item rest = refl
  front_at_changed (group opener inner closer) item rest = front_in_changed (bracket_of opener closer) item rest

  pub headed_changed : (items : List Item) → headed (changed_items change items) ≡ option_map (changed_front change) (headed items)
  headed_changed [] = refl
  headed_changed (item ∷ rest) = front_at_changed item.fragment item rest

  -- what depends on no tree
  pub each_other_kept : {A : Type 0} (read : List Item → Option A) → ((items : List Item) → read (changed_items change items) ≡ read items) → (others : List Piece) → each_other read (map (changed_piece change) others) ≡ each_other read others
  each_other_kept read h [] = refl
  each_other_kept read h (piece ∷ others) = cc (h piece.items, each_other_kept read h others)

-- what a reader gives, once it is changed, does not depend on trees that are too deep
abbrev pub Reads : {A : Type 0} → (A → A) → (List Item → Option A) → Type 0
Reads on read = (items : List Item) → option_map on (read (changed_items capping items)) ≡ option_map on (read items)

pub with_others_same : {A : Type 0} (on : A → A) (first other : Option A) (rest others : Option (List A)) → option_map on first ≡ option_map on other → option_map (map on) rest ≡ option_map (map on) others
    → option_map (map on) (with_others first rest) ≡ option_map (map on) (with_others other others)
with_others_same on None None rest others e f = refl
with_others_same on (Some a) (Some b) None None e f = refl
with_others_same on (Some a) (Some b) (Some rest) (Some others) e f = cc
with_others_same on (Some a) (Some b) rest others e f = absurd cc
with_others_same on first other rest others e f = absurd cc

module _ {A : Type 0} (on : A → A) (read : List Item → Option A) (h : Reads on read) where
  pub each_other_same : (others : List Piece) → option_map (map on) (each_other read (map (changed_piece capping) others)) ≡ option_map (map on) (each_other read others)
  each_other_same [] = refl
  each_other_same (piece ∷ others) =
      with_others_same on (read (changed_items capping piece.items)) (read piece.items) (each_other read (map (changed_piece capping) others)) (each_other read others) (h piece.items) (each_other_same others)

  pub each_same : (pieces : Pieces) → option_map (map on) (each read (changed_pieces capping pieces)) ≡ option_map (map on) (each read pieces)
  each_same pieces = with_others_same on (read (changed_items capping pieces.first)) (read pieces.first) (each_other read (map (changed_piece capping) pieces.others)) (each_other read pieces.others) (h pieces.first) (each_other_same pieces.others)

  pub each_cut_same : (separates : SeenFragment → Bool) (bound : Bool) (items : List Item) → option_map (map on) (each read (cut separates bound (changed_items capping items))) ≡ option_map (map on) (each read (cut separates bound items))
  each_cut_same separates bound items = ap (λ (pieces : Pieces). option_map (map on) (each read pieces)) (cut_changed capping separates bound items) ∙ each_same (cut separates bound items)

pub with_part_same : {A B : Type 0} (on : A → A) (on_last : B → B) (part other : Option A) (rest others : Option (Ending A B)) → option_map on part ≡ option_map on other
    → option_map (changed_ending on on_last) rest ≡ option_map (changed_ending on on_last) others → option_map (changed_ending on on_last) (with_part part rest) ≡ option_map (changed_ending on on_last) (with_part other others)
with_part_same on on_last None None rest others e f = refl
with_part_same on on_last (Some a) (Some b) None None e f = refl
with_part_same {A = A} {B = B} on on_last (Some a) (Some b) (Some rest) (Some others) e f =
    let first : on a ≡ on b = cc in
    let behind : changed_ending on on_last rest ≡ changed_ending on on_last others = cc in
    cc (ap (λ (found : Ending A B). found.parts) behind, ap (λ (found : Ending A B). found.last) behind)
with_part_same on on_last (Some a) (Some b) rest others e f = absurd cc
with_part_same on on_last part other rest others e f = absurd cc

module _ {A B : Type 0} (on : A → A) (on_last : B → B) (is_last : List Item → Bool) (read : List Item → Option A) (read_last : List Item → Option B) (same_last : (items : List Item) → is_last (changed_items capping items) ≡ is_last items) (h : Reads on read) (i : Reads on_last read_last) where
  ending_at_same : (last : Bool) (items : List Item)
      → option_map (changed_ending on on_last) (ending_at last (read (changed_items capping items)) (read_last (changed_items capping items))) ≡ option_map (changed_ending on on_last) (ending_at last (read items) (read_last items))
  ending_at_same true items =
      map_same on_last (changed_ending on on_last) only_last only_last (read_last (changed_items capping items)) (read_last items) (λ a b e. ap (λ (last : B). record { parts = []; last = Some last }) e) (i items)
  ending_at_same false items =
      map_same on (changed_ending on on_last) only_part only_part (read (changed_items capping items)) (read items) (λ a b e. ap (λ (part : A). record { parts = part ∷ []; last = None }) e) (h items)

  ending_from_same : (others : List Piece) (first : List Item)
      → option_map (changed_ending on on_last) (ending_from is_last read read_last (changed_items capping first) (map (changed_piece capping) others)) ≡ option_map (changed_ending on on_last) (ending_from is_last read read_last first others)
  ending_from_same [] first =
      ap (λ (last : Bool). option_map (changed_ending on on_last) (ending_at last (read (changed_items capping first)) (read_last (changed_items capping first)))) (same_last first) ∙ ending_at_same (is_last first) first
  ending_from_same (piece ∷ others) first =
      with_part_same on on_last (read (changed_items capping first)) (read first) (ending_from is_last read read_last (changed_items capping piece.items) (map (changed_piece capping) others)) (ending_from is_last read read_last piece.items others)
      (h first) (ending_from_same others piece.items)

  pub ending_cut_same : (separates : SeenFragment → Bool) (bound : Bool) (items : List Item)
      → option_map (changed_ending on on_last) (ending is_last read read_last (cut separates bound (changed_items capping items))) ≡ option_map (changed_ending on on_last) (ending is_last read read_last (cut separates bound items))
  ending_cut_same separates bound items =
      ap (λ (pieces : Pieces). option_map (changed_ending on on_last) (ending is_last read read_last pieces)) (cut_changed capping separates bound items)
      ∙ ending_from_same (cut separates bound items).others (cut separates bound items).first

-- of items that are the same once they are changed
pub reads_on : {A : Type 0} (on : A → A) (read : List Item → Option A) → Reads on read → (items others : List Item) → changed_items capping items ≡ changed_items capping others → option_map on (read items) ≡ option_map on (read others)
reads_on on read h items others e = lifted (changed_items capping) (option_map on) read h items others e
