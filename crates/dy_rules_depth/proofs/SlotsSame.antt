-- Slots are read the same to the limit, whatever stands in the place of trees that are too deep.
use Rattle.std.proofs.Common.{◌≡◌, Bool, true, false, List, [], ◌∷◌, map, Option, Some, None, option_map, option_and_then, refl, sym, ap, ◌∙◌}
use Rattle.dy_tree.specs.declared.token.Token.{Token}
use Rattle.dy_tree.specs.Fragments.{SeenFragment, one, group}
use Rattle.dy_tree.specs.declared.splitters.Splitting.TheVariants as splittings
use Rattle.dy_tree.specs.declared.definition_words.OptionWord.{OptionWord}
use Rattle.dy_tree.specs.declared.definition_words.OptionWord.TheVariants as option_words
use Rattle.dy_rules.specs.Types.{VariableTree}
use Rattle.dy_rules.specs.Trees.{MaybeTree}
use Rattle.dy_rules.specs.Arguments.{is_comma_fragment}
use Rattle.dy_rules.specs.Cutting.{Item, Piece, Pieces, is_semicolon, cut, each_other}
use Rattle.dy_rules.specs.TypeReading.{VariableFront, variable_front}
use Rattle.dy_rules.specs.Reading.{expression_items}
use Rattle.dy_rules.specs.Signatures.{initial_items}
use Rattle.dy_rules.specs.Definitions.{suit_slot, is_slot_word, option_word}
use Rattle.dy_rules.specs.Tests.{only_if, if_passes}
use Rattle.dy_rules.specs.Forms.{SlotOption, SlotTree, is_consistent}
use Rattle.dy_rules.specs.FormReading.{WordsFront, word_if, word_at, words_front, symbol_in, setter_in, keyword_of, required_of, value_of, function_of, option_by, option_at, option_items, slot_of, slot_variable, slot_if, slot_words, slot_front, slot_pieces, slot_items, slots_from, slots_pieces, slots_items}
use Rattle.dy_rules_depth.specs.Changes.{Change, changed_variable, changed_maybe, changed_option, changed_slot}
use Rattle.dy_rules_depth.specs.ReaderChanges.{changed_items, changed_piece, changed_pieces, changed_variable_front, changed_words_front}
use Rattle.dy_rules_depth.specs.Capping.{capped, capping}
use Rattle.dy_rules_depth.proofs.Consistent.{consistent_capped}
use Rattle.dy_rules_depth.proofs.Options.{map_same, then_same, then_on}
use Rattle.dy_rules_depth.proofs.CutsSame.{fragments_changed, cut_changed, Reads, reads_on, with_others_same, each_other_same}
use Rattle.dy_rules_depth.proofs.TypesSame.{variable_front_same}
use Rattle.dy_rules_depth.proofs.ParametersSame.{initial_same}
use Rattle.dy_rules_depth.proofs.Expressions.{expression_same}

-- the words at the front

module _ (change : Change) where
  word_if_changed : (found : Bool) (token : Token) (rest : List Item) (behind : Option WordsFront)
      → word_if found token (changed_items change rest) (option_map (changed_words_front change) behind) ≡ option_map (changed_words_front change) (word_if found token rest behind)
  word_if_changed true token rest behind = refl
  word_if_changed false token rest None = refl
  word_if_changed false token rest (Some front) = refl

  word_at_changed : (is : Token → Bool) (fragment : SeenFragment) (rest : List Item) (behind : Option WordsFront)
      → word_at is fragment (changed_items change rest) (option_map (changed_words_front change) behind) ≡ option_map (changed_words_front change) (word_at is fragment rest behind)
  word_at_changed is (one token) rest behind = word_if_changed (is token) token rest behind
  word_at_changed is (group opener inner closer) rest behind = refl

  pub words_changed : (is : Token → Bool) (items : List Item) → words_front is (changed_items change items) ≡ option_map (changed_words_front change) (words_front is items)
  words_changed is [] = refl
  words_changed is (item ∷ rest) = ap (word_at is item.fragment (changed_items change rest)) (words_changed is rest) ∙ word_at_changed is item.fragment rest (words_front is rest)

-- options

option_by_same : (word : OptionWord) → Reads (changed_option capping) (option_by word)
option_by_same option_words.Keyword rest = ap (λ (fragments : List SeenFragment). option_map (changed_option capping) (option_map keyword_of (symbol_in fragments))) (fragments_changed capping rest)
option_by_same option_words.Required rest = ap (λ (fragments : List SeenFragment). option_map (changed_option capping) (option_map required_of (symbol_in fragments))) (fragments_changed capping rest)
option_by_same option_words.Value rest = map_same capped (changed_option capping) value_of value_of (expression_items splittings.Nothing (changed_items capping rest)) (expression_items splittings.Nothing rest) (λ tree other e. ap value_of e) (expression_same splittings.Nothing rest)
option_by_same option_words.Function rest = map_same capped (changed_option capping) function_of function_of (expression_items splittings.Nothing (changed_items capping rest)) (expression_items splittings.Nothing rest) (λ tree other e. ap function_of e) (expression_same splittings.Nothing rest)
option_by_same option_words.Setter rest = ap (λ (fragments : List SeenFragment). option_map (changed_option capping) (setter_in fragments)) (fragments_changed capping rest)
option_by_same option_words.Absent rest = refl

option_at_same : (fragment : SeenFragment) → Reads (changed_option capping) (option_at fragment)
option_at_same (one token) rest = option_by_same (option_word token) rest
option_at_same (group opener inner closer) rest = refl

pub option_same : Reads (changed_option capping) option_items
option_same [] = refl
option_same (item ∷ rest) = option_at_same item.fragment rest

-- slots

abbrev SameSlot : Option SlotTree → Option SlotTree → Type 0
SameSlot slot other = option_map (changed_slot capping) slot ≡ option_map (changed_slot capping) other

abbrev SameOptions : List SlotOption → List SlotOption → Type 0
SameOptions options others = map (changed_option capping) options ≡ map (changed_option capping) others

pub slot_of_same : (adjectives : List Token) (options others : List SlotOption) → SameOptions options others → (variable other : VariableTree) → changed_variable capping variable ≡ changed_variable capping other
    → (default more : MaybeTree) → changed_maybe capping default ≡ changed_maybe capping more → changed_slot capping (slot_of adjectives options variable default) ≡ changed_slot capping (slot_of adjectives others other more)
slot_of_same adjectives options others e variable other f default more g = cc

slot_variable_same : (adjectives : List Token) (options others : List SlotOption) → SameOptions options others → (front other : VariableFront) → changed_variable_front capping front ≡ changed_variable_front capping other
    → SameSlot (slot_variable adjectives options front) (slot_variable adjectives others other)
slot_variable_same adjectives options others e front other f =
    map_same (changed_maybe capping) (changed_slot capping) (slot_of adjectives options front.variable) (slot_of adjectives others other.variable) (initial_items front.rest) (initial_items other.rest)
    (slot_of_same adjectives options others e front.variable other.variable (ap (λ (v : VariableFront). v.variable) f)) (reads_on (changed_maybe capping) initial_items initial_same front.rest other.rest (ap (λ (v : VariableFront). v.rest) f))

slot_if_same : (is : Bool) (front : WordsFront) (options others : List SlotOption) → SameOptions options others → SameSlot (slot_if is (changed_words_front capping front) options) (slot_if is front others)
slot_if_same true front options others e =
    then_same (changed_variable_front capping) (changed_slot capping) (slot_variable front.adjectives options) (slot_variable front.adjectives others) (variable_front (changed_items capping front.rest)) (variable_front front.rest)
    (slot_variable_same front.adjectives options others e) (variable_front_same front.rest)
slot_if_same false front options others e = refl

slot_words_same : (front : WordsFront) (options others : List SlotOption) → SameOptions options others → SameSlot (slot_words (changed_words_front capping front) options) (slot_words front others)
slot_words_same front options others e = slot_if_same (suit_slot front.adjectives) front options others e

slot_front_same : (options others : Option (List SlotOption)) → option_map (map (changed_option capping)) options ≡ option_map (map (changed_option capping)) others → (front : WordsFront)
    → SameSlot (slot_front options (changed_words_front capping front)) (slot_front others front)
slot_front_same options others e front = then_same (map (changed_option capping)) (changed_slot capping) (slot_words (changed_words_front capping front)) (slot_words front) options others (slot_words_same front) e

slot_pieces_same : (pieces : Pieces) → SameSlot (slot_pieces (changed_pieces capping pieces)) (slot_pieces pieces)
slot_pieces_same pieces =
    ap (λ (front : Option WordsFront). option_map (changed_slot capping) (option_and_then (slot_front (each_other option_items (map (changed_piece capping) pieces.others))) front)) (words_changed capping is_slot_word pieces.first)
    ∙ then_on (changed_words_front capping) (changed_slot capping) (slot_front (each_other option_items (map (changed_piece capping) pieces.others))) (slot_front (each_other option_items pieces.others)) (words_front is_slot_word pieces.first)
    (slot_front_same (each_other option_items (map (changed_piece capping) pieces.others)) (each_other option_items pieces.others) (each_other_same (changed_option capping) option_items option_same pieces.others))

only_if_same : (is : Bool) (slot other : SlotTree) → changed_slot capping slot ≡ changed_slot capping other → SameSlot (only_if is slot) (only_if is other)
only_if_same true slot other e = ap Some e
only_if_same false slot other e = refl

consistent_same : (slot other : SlotTree) → changed_slot capping slot ≡ changed_slot capping other → SameSlot (if_passes is_consistent slot) (if_passes is_consistent other)
consistent_same slot other e =
    let same : is_consistent slot ≡ is_consistent other = sym (consistent_capped slot) ∙ ap is_consistent e ∙ consistent_capped other in
    ap (λ (b : Bool). option_map (changed_slot capping) (only_if b slot)) same ∙ only_if_same (is_consistent other) slot other e

pub slot_same : Reads (changed_slot capping) slot_items
slot_same items =
    then_same (changed_slot capping) (changed_slot capping) (if_passes is_consistent) (if_passes is_consistent) (slot_pieces (cut is_comma_fragment false (changed_items capping items))) (slot_pieces (cut is_comma_fragment false items)) consistent_same
    (ap (λ (pieces : Pieces). option_map (changed_slot capping) (slot_pieces pieces)) (cut_changed capping is_comma_fragment false items) ∙ slot_pieces_same (cut is_comma_fragment false items))

slots_from_same : (others : List Piece) (first : List Item) → option_map (map (changed_slot capping)) (slots_from (changed_items capping first) (map (changed_piece capping) others)) ≡ option_map (map (changed_slot capping)) (slots_from first others)
slots_from_same [] [] = refl
slots_from_same [] (item ∷ rest) = refl
slots_from_same (piece ∷ others) first =
    with_others_same (changed_slot capping) (slot_items (changed_items capping first)) (slot_items first) (slots_from (changed_items capping piece.items) (map (changed_piece capping) others)) (slots_from piece.items others) (slot_same first)
    (slots_from_same others piece.items)

pub slots_same : Reads (map (changed_slot capping)) slots_items
slots_same items =
    ap (λ (pieces : Pieces). option_map (map (changed_slot capping)) (slots_pieces pieces)) (cut_changed capping is_semicolon false items) ∙ slots_from_same (cut is_semicolon false items).others (cut is_semicolon false items).first
