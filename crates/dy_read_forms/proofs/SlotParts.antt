-- Slots and their options, with what stands in the place of trees that are too deep.
use Rattle.std.proofs.Common.{◌≡◌, ℕ, ◌<◌, ◌+◌, length, drop, get_or, max, Bool, true, false, List, [], ◌∷◌, ◌++◌, map, Option, Some, None, option_map, option_and_then, refl, sym, ap, ◌∙◌, arith}
use Rattle.std.proofs.lemmas.List.{drop_more, append-nil}
use Rattle.dy_tree.specs.declared.form.Slot.{Slot}
use Rattle.dy_tree.specs.declared.form.SlotOption as form
use Rattle.dy_tree.specs.Fragments.{seen_fragments}
use Rattle.dy_tree.specs.declared.splitters.Splitting.TheVariants as splittings
use Rattle.dy_rules.specs.Trees.{Tree, MaybeTree}
use Rattle.dy_rules.specs.Cutting.{Item, each_other}
use Rattle.dy_rules.specs.Definitions.{suit_slot}
use Rattle.dy_rules.specs.TypeReading.{VariableFront, variable_front}
use Rattle.dy_rules.specs.Reading.{expression_items}
use Rattle.dy_rules.specs.Signatures.{initial_items}
use Rattle.dy_rules.specs.SeenForms.{seen_slot}
use Rattle.dy_rules.specs.Tests.{only_if, if_passes}
use Rattle.dy_rules.specs.Forms.{SlotOption, SlotTree, is_consistent}
use Rattle.dy_rules.specs.FormReading.{WordsFront, value_of, function_of, option_items, slot_of, slot_variable, slot_front, slot_items, slots_from}
use Rattle.dy_rules.specs.FormDepth.{option_depth, options_depth, slots_depth}
use Rattle.dy_rules.proofs.Lists.{some_one}
use Rattle.dy_rules_depth.proofs.Consistent.{consistent_capped, consistent_filled}
use Rattle.dy_rules_depth.specs.Changes.{changed_maybe}
use Rattle.dy_rules_depth.specs.Capping.{capped, capping}
use Rattle.dy_rules.specs.Fragments.{items_of}
use Rattle.dy_read_parts.specs.declared.pieces.Piece.{Piece}
use Rattle.dy_read_parts.specs.Cut.{seen_piece}
use Rattle.dy_read_parts.specs.Pieces.{read_before}
use Rattle.dy_read_forms.specs.ReadForms.{read_option, read_options, read_slot, read_slots, capped_option, capped_slot, slot_depth}
use Rattle.dy_read_types.specs.VariableFronts.{capped_front}
use Rattle.dy_read_parts.proofs.PieceRows.{more_read, more_fails}

pub value_through : (items : List Item) → option_map value_of (option_map capped (expression_items splittings.Nothing items)) ≡ option_map capped_option (option_map value_of (expression_items splittings.Nothing items))
value_through items = go (expression_items splittings.Nothing items)
  where
    go : (found : Option Tree) → option_map value_of (option_map capped found) ≡ option_map capped_option (option_map value_of found)
    go None = refl
    go (Some tree) = refl

pub function_through : (items : List Item) → option_map function_of (option_map capped (expression_items splittings.Nothing items)) ≡ option_map capped_option (option_map function_of (expression_items splittings.Nothing items))
function_through items = go (expression_items splittings.Nothing items)
  where
    go : (found : Option Tree) → option_map function_of (option_map capped found) ≡ option_map capped_option (option_map function_of found)
    go None = refl
    go (Some tree) = refl

-- one more of them

pub options_more : (options : List SlotOption) (option : SlotOption) → options_depth (options ++ option ∷ []) ≡ max (options_depth options) (option_depth option)
options_more [] option = omega arith
options_more (first ∷ rest) option = let more = options_more rest option in omega arith

pub slots_more : (slots : List SlotTree) (slot : SlotTree) → slots_depth (slots ++ slot ∷ []) ≡ max (slots_depth slots) (slot_depth slot)
slots_more [] slot = omega arith
slots_more (first ∷ rest) slot = let more = slots_more rest slot in omega arith

pub options_grow : (forms : List form.SlotOption) (form : form.SlotOption) → read_options (forms ++ form ∷ []) ≡ read_options forms ++ read_option form ∷ []
options_grow [] form = refl
options_grow (first ∷ rest) form = ap (λ (others : List SlotOption). read_option first ∷ others) (options_grow rest form)

pub slots_grow : (forms : List Slot) (form : Slot) → read_slots (forms ++ form ∷ []) ≡ read_slots forms ++ read_slot form ∷ []
slots_grow [] form = refl
slots_grow (first ∷ rest) form = ap (λ (others : List SlotTree). read_slot first ∷ others) (slots_grow rest form)

pub options_deeper : (outer old new : ℕ) (before after : List SlotOption) (option : SlotOption) → after ≡ before ++ option ∷ [] → old ≡ max outer (options_depth before) → new ≡ max old (option_depth option) → new ≡ max outer (options_depth after)
options_deeper outer old new before after option e f g = let more = options_more before option in let same = ap options_depth e in omega arith

pub slots_deeper : (outer old new : ℕ) (before after : List SlotTree) (slot : SlotTree) → after ≡ before ++ slot ∷ [] → old ≡ max outer (slots_depth before) → new ≡ max old (slot_depth slot) → new ≡ max outer (slots_depth after)
slots_deeper outer old new before after slot e f g = let more = slots_more before slot in let same = ap slots_depth e in omega arith

-- what is left to read behind a piece

module _ (pieces : List Piece) (i : ℕ) (piece : Piece) (lt : i < length pieces) (is : piece ≡ get_or pieces i piece) where
  next_is : drop i pieces ≡ piece ∷ drop (i + 1) pieces
  next_is = drop_more pieces i piece lt ∙ ap (λ (p : Piece). p ∷ drop (i + 1) pieces) (sym is)

  pub option_read : (before after : List SlotOption) (next : SlotOption) → Some next ≡ option_map capped_option (option_items (items_of (seen_fragments piece.fragments.now))) → after ≡ before ++ next ∷ []
      → read_before before (option_map (map capped_option) (each_other option_items (map seen_piece (drop i pieces)))) ≡ read_before after (option_map (map capped_option) (each_other option_items (map seen_piece (drop (i + 1) pieces))))
  option_read before after next e more =
      ap (λ (list : List Piece). read_before before (option_map (map capped_option) (each_other option_items (map seen_piece list)))) next_is
      ∙ more_read capped_option before after next (option_items (items_of (seen_fragments piece.fragments.now))) (each_other option_items (map seen_piece (drop (i + 1) pieces))) e more

  pub option_fails : (before : List SlotOption) → None ≡ option_map capped_option (option_items (items_of (seen_fragments piece.fragments.now)))
      → None ≡ read_before before (option_map (map capped_option) (each_other option_items (map seen_piece (drop i pieces))))
  option_fails before e =
      more_fails capped_option before (option_items (items_of (seen_fragments piece.fragments.now))) (each_other option_items (map seen_piece (drop (i + 1) pieces))) e
      ∙ ap (λ (list : List Piece). read_before before (option_map (map capped_option) (each_other option_items (map seen_piece list)))) (sym next_is)

  pub slot_read : (first : List Item) (before after : List SlotTree) (next : SlotTree) → Some next ≡ option_map capped_slot (slot_items first) → after ≡ before ++ next ∷ []
      → read_before before (option_map (map capped_slot) (slots_from first (map seen_piece (drop i pieces)))) ≡ read_before after (option_map (map capped_slot) (slots_from (items_of (seen_fragments piece.fragments.now)) (map seen_piece (drop (i + 1) pieces))))
  slot_read first before after next e more =
      ap (λ (list : List Piece). read_before before (option_map (map capped_slot) (slots_from first (map seen_piece list)))) next_is
      ∙ more_read capped_slot before after next (slot_items first) (slots_from (items_of (seen_fragments piece.fragments.now)) (map seen_piece (drop (i + 1) pieces))) e more

  pub slot_fails : (first : List Item) (before : List SlotTree) → None ≡ option_map capped_slot (slot_items first)
      → None ≡ read_before before (option_map (map capped_slot) (slots_from first (map seen_piece (drop i pieces))))
  slot_fails first before e =
      more_fails capped_slot before (slot_items first) (slots_from (items_of (seen_fragments piece.fragments.now)) (map seen_piece (drop (i + 1) pieces))) e
      ∙ ap (λ (list : List Piece). read_before before (option_map (map capped_slot) (slots_from first (map seen_piece list)))) (sym next_is)

-- nothing is left to read
pub slots_ended : (before : List SlotTree) → read_before before (option_map (map capped_slot) (slots_from [] [])) ≡ Some before
slots_ended before = ap Some (append-nil before)

-- a slot whose parts fit together

module _ (slot : Slot) (found : Option SlotTree) (is : Some (read_slot slot) ≡ option_map capped_slot found) where
  same : (tree : SlotTree) → found ≡ Some tree → is_consistent tree ≡ is_consistent (seen_slot slot)
  same tree e =
      let read : read_slot slot ≡ capped_slot tree = some_one _ _ (is ∙ ap (option_map capped_slot) e) in
      sym (consistent_capped tree) ∙ ap is_consistent (sym read) ∙ consistent_filled (seen_slot slot)

  passed : (b : Bool) → is_consistent (seen_slot slot) ≡ b → (other : Option SlotTree) → found ≡ other → option_map capped_slot (option_and_then (if_passes is_consistent) other) ≡ option_map capped_slot (option_and_then (only_if b) other)
  passed b e None f = refl
  passed b e (Some tree) f = ap (λ (c : Bool). option_map capped_slot (only_if c tree)) (same tree f ∙ e)

  kept : (other : Option SlotTree) → option_and_then (only_if true) other ≡ other
  kept None = refl
  kept (Some tree) = refl

  left : (other : Option SlotTree) → option_and_then (only_if false) other ≡ None
  left None = refl
  left (Some tree) = refl

  pub consistent_read : is_consistent (seen_slot slot) ≡ true → Some (read_slot slot) ≡ option_map capped_slot (option_and_then (if_passes is_consistent) found)
  consistent_read e = is ∙ sym (passed true e found refl ∙ ap (option_map capped_slot) (kept found))

  pub inconsistent_read : is_consistent (seen_slot slot) ≡ false → None ≡ option_map capped_slot (option_and_then (if_passes is_consistent) found)
  inconsistent_read e = sym (passed false e found refl ∙ ap (option_map capped_slot) (left found))

pub unwritten_read : (found : Option SlotTree) → None ≡ option_map capped_slot found → None ≡ option_map capped_slot (option_and_then (if_passes is_consistent) found)
unwritten_read None e = refl
unwritten_read (Some tree) e = absurd cc

-- how a slot is read where its parts are

module _ (front : WordsFront) (options : Option (List SlotOption)) where
  abbrev IsRead : Option SlotTree → Type 0
  IsRead slot = slot ≡ option_map capped_slot (slot_front options front)

  pub unsuited : suit_slot front.adjectives ≡ false → IsRead None
  unsuited e = go options
    where
      go : (found : Option (List SlotOption)) → None ≡ option_map capped_slot (slot_front found front)
      go None = refl
      go (Some list) = rw e refl

  pub no_options : None ≡ option_map (map capped_option) options → IsRead None
  no_options e = go options e
    where
      go : (found : Option (List SlotOption)) → None ≡ option_map (map capped_option) found → None ≡ option_map capped_slot (slot_front found front)
      go None f = refl
      go (Some list) f = absurd cc

  pub no_variable : suit_slot front.adjectives ≡ true → None ≡ option_map capped_front (variable_front front.rest) → IsRead None
  no_variable suits e = go options
    where
      no : (found : Option VariableFront) → None ≡ option_map capped_front found → (list : List SlotOption) → None ≡ option_map capped_slot (option_and_then (slot_variable front.adjectives list) found)
      no None f list = refl
      no (Some variable) f list = absurd cc

      go : (found : Option (List SlotOption)) → None ≡ option_map capped_slot (slot_front found front)
      go None = refl
      go (Some list) = rw suits (no (variable_front front.rest) e list)

  pub with_parts : suit_slot front.adjectives ≡ true → (read : List SlotOption) (variable : VariableFront) (default : Option MaybeTree) → Some read ≡ option_map (map capped_option) options → Some variable ≡ option_map capped_front (variable_front front.rest)
      → default ≡ option_map (changed_maybe capping) (initial_items variable.rest) → IsRead (option_map (slot_of front.adjectives read variable.variable) default)
  with_parts suits read variable default e f g = go options e
    where
      last : (list : List SlotOption) → read ≡ map capped_option list → (found : VariableFront) → variable ≡ capped_front found → (initial : Option MaybeTree) → option_map (slot_of front.adjectives read variable.variable) (option_map (changed_maybe capping) initial) ≡ option_map capped_slot (option_map (slot_of front.adjectives list found.variable) initial)
      last list h found i None = refl
      last list h found i (Some tree) = rw (h, i) refl

      then : (list : List SlotOption) → read ≡ map capped_option list → (found : Option VariableFront) → Some variable ≡ option_map capped_front found
          → option_map (slot_of front.adjectives read variable.variable) default ≡ option_map capped_slot (option_and_then (slot_variable front.adjectives list) found)
      then list h None i = absurd cc
      then list h (Some found) i =
          let same : variable ≡ capped_front found = cc in
          ap (option_map (slot_of front.adjectives read variable.variable)) g ∙ last list h found same (initial_items variable.rest)
          ∙ ap (λ (items : List Item). option_map capped_slot (option_map (slot_of front.adjectives list found.variable) (initial_items items))) (ap (λ (v : VariableFront). v.rest) same)

      go : (found : Option (List SlotOption)) → Some read ≡ option_map (map capped_option) found → option_map (slot_of front.adjectives read variable.variable) default ≡ option_map capped_slot (slot_front found front)
      go None h = absurd cc
      go (Some list) h = let same : read ≡ map capped_option list = cc in rw suits (then list same (variable_front front.rest) f)
