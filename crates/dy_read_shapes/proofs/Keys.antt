-- A key with its default value, and keys in a row.
use Rattle.std.proofs.Common.{◌≡◌, ◌==◌, ℕ, max, Bool, true, false, List, [], ◌∷◌, ◌++◌, length, Option, Some, None, option_map, option_and_then, refl, sym, ap, ◌∙◌, arith}
use Rattle.std.specs.Bool.{⊤}
use Rattle.std.proofs.lemmas.List.{map-append, append-nil}
use Rattle.std.proofs.lemmas.Bool.{eqb-true}
use Rattle.dy_tree.specs.declared.token.Token.{Token}
use Rattle.dy_tree.specs.declared.fragment.Fragment.{Fragment}
use Rattle.dy_tree.specs.declared.expression.Key.{Key as KeyForm}
use Rattle.dy_tree.specs.Fragments.{SeenFragment, seen_fragments}
use Rattle.dy_rules.specs.Arguments.{is_comma_fragment}
use Rattle.dy_rules.specs.Cutting.{Item, Piece, Pieces, Ending, cut, only_part, with_part, ending_at, ending_from, ending}
use Rattle.dy_rules.specs.Depth.{key_depth, keys_depth}
use Rattle.dy_rules.specs.Fragments.{items_of}
use Rattle.dy_rules.specs.Marks.{comma_mark}
use Rattle.dy_rules.specs.Signatures.{initial_items, key_of, key_with, key_items, keys_of_found, with_key, is_all_keys, keys_end, keys_in, bare_of}
use Rattle.dy_rules.specs.Trees.{MaybeTree, Key, KeysTree, keys_of}
use Rattle.dy_rules.specs.Types.{VariableTree}
use Rattle.dy_rules.specs.TypeReading.{VariableFront}
use Rattle.dy_rules.proofs.Lists.{some_one, fragments_back}
use Rattle.dy_rules_depth.specs.ReaderChanges.{changed_ending}
use Rattle.dy_read_types.specs.Endings.{parts_before, changed_parts}
use Rattle.dy_read_shapes.specs.KeyEndings.{keys_tree, keys_last, keys_behind}
use Rattle.dy_read_parts.specs.Pieces.{piece_and, pieces_behind}
use Rattle.dy_read_shapes.specs.ReadKeys.{capped_default, read_key, read_each_key, capped_key, capped_keys, keys_pieces, all_at, some_all, keys_behind_mark}
use Rattle.dy_read_types.specs.VariableFronts.{capped_variable, capped_front}
use Rattle.dy_read_types.proofs.Endings.{last_is}

-- one key

with_default : (label : Option Token) (variable : VariableTree) (found : Option MaybeTree) → option_map (key_of label (capped_variable variable)) (option_map capped_default found) ≡ option_map capped_key (option_map (key_of label variable) found)
with_default label variable None = refl
with_default label variable (Some default) = refl

pub key_through : (label : Option Token) (front : VariableFront) (found : Option VariableFront) → Some front ≡ option_map capped_front found
    → option_map (key_of label front.variable) (option_map capped_default (initial_items front.rest)) ≡ option_map capped_key (option_and_then (key_with label) found)
key_through label front None e = absurd cc
key_through label front (Some other) e =
    ap (λ (f : VariableFront). option_map (key_of label f.variable) (option_map capped_default (initial_items f.rest))) (some_one front (capped_front other) e) ∙ with_default label other.variable (initial_items other.rest)

pub key_fails : (label : Option Token) (found : Option VariableFront) → None ≡ option_map capped_front found → None ≡ option_map capped_key (option_and_then (key_with label) found)
key_fails label None e = refl
key_fails label (Some front) e = absurd cc

depth_more : (keys : List Key) (key : Key) → keys_depth (keys_of (keys ++ key ∷ [])) ≡ max (keys_depth (keys_of keys)) (key_depth key)
depth_more [] key = omega arith
depth_more (first ∷ rest) key = let more = depth_more rest key in omega arith

-- A key more is as deep as the deepest.
pub keys_deeper : (outer old new : ℕ) (before after : List KeyForm) (next : KeyForm) → after ≡ before ++ next ∷ [] → old ≡ max outer (keys_depth (keys_of (read_each_key before))) → new ≡ max old (key_depth (read_key next))
    → new ≡ max outer (keys_depth (keys_of (read_each_key after)))
keys_deeper outer old new before after next more e f =
    let same : keys_depth (keys_of (read_each_key after)) ≡ keys_depth (keys_of (read_each_key before ++ read_key next ∷ [])) = ap (λ (forms : List KeyForm). keys_depth (keys_of (read_each_key forms))) more ∙ ap (λ (keys : List Key). keys_depth (keys_of keys)) (map-append read_key before (next ∷ [])) in
    let deep = depth_more (read_each_key before) (read_key next) in
    omega arith

-- keys in a row, as parts of which the last may be `#all-keys`

abbrev pub same : ⊤ → ⊤
same it = it

with_is : (key : Option Key) (others : Option (Ending Key ⊤)) → with_key key (option_map keys_tree others) ≡ option_map keys_tree (with_part key others)
with_is None others = refl
with_is (Some key) None = refl
with_is (Some key) (Some others) = refl

alone : (key : Option Key) → with_key key (Some (keys_of_found [] false)) ≡ option_map keys_tree (option_map only_part key)
alone None = refl
alone (Some key) = refl

end_is : (all : Bool) (items : List Item) → keys_end all items ≡ option_map keys_tree (ending_at all (key_items items) (some_all items))
end_is true items = refl
end_is false items = alone (key_items items)

keys_are : (separator : SeenFragment) (first : List Item) (others : List Piece) → keys_in (record { separator = separator; items = first } ∷ others) ≡ option_map keys_tree (ending_from all_at key_items some_all first others)
keys_are separator first [] = end_is (all_at first) first
keys_are separator first (piece ∷ others) =
    ap (with_key (key_items first)) (keys_are piece.separator piece.items others) ∙ with_is (key_items first) (ending_from all_at key_items some_all piece.items others)

keys_changed : (found : Option (Ending Key ⊤)) → option_map capped_keys (option_map keys_tree found) ≡ option_map keys_tree (option_map (changed_ending capped_key same) found)
keys_changed None = refl
keys_changed (Some found) = go found.parts found.last
  where
    go : (parts : List Key) (last : Option ⊤)
        → option_map capped_keys (option_map keys_tree (Some (record { parts = parts; last = last }))) ≡ option_map keys_tree (option_map (changed_ending capped_key same) (Some (record { parts = parts; last = last })))
    go parts None = refl
    go parts (Some it) = refl

pub keys_ended : (fragments : List SeenFragment)
    → option_map capped_keys (keys_pieces (cut is_comma_fragment false (items_of fragments))) ≡ option_map keys_tree (changed_parts capped_key same is_comma_fragment all_at key_items some_all fragments)
keys_ended fragments =
    let pieces : Pieces = cut is_comma_fragment false (items_of fragments) in
    ap (option_map capped_keys) (keys_are comma_mark pieces.first pieces.others) ∙ keys_changed (ending all_at key_items some_all pieces)

is_all : (fragments : List SeenFragment) → all_at (items_of fragments) ≡ is_all_keys fragments
is_all fragments = ap is_all_keys (fragments_back fragments)

pub last_all : (before : List Key) (fragments : List SeenFragment) → true ≡ is_all_keys fragments → Some (keys_of_found before true) ≡ keys_last before fragments
last_all before fragments is =
    let items : List Item = items_of fragments in
    ap (λ (keys : List Key). Some (keys_of_found keys true)) (sym (append-nil before))
    ∙ ap (λ (b : Bool). option_map keys_tree (parts_before before (option_map (changed_ending capped_key same) (ending_at b (key_items items) (some_all items))))) (is ∙ sym (is_all fragments))

behind_is : (before : List Key) (key : Option Key) → keys_behind before key ≡ option_map keys_tree (parts_before before (option_map only_part key))
behind_is before None = refl
behind_is before (Some key) = refl

pub last_one : (before : List Key) (fragments : List SeenFragment) (key : Option Key) → false ≡ is_all_keys fragments → key ≡ option_map capped_key (key_items (items_of fragments)) → keys_behind before key ≡ keys_last before fragments
last_one before fragments key is e =
    behind_is before key ∙ ap (λ (found : Option (Ending Key ⊤)). option_map keys_tree (parts_before before found)) (last_is capped_key same all_at key_items some_all fragments key (is ∙ sym (is_all fragments)) e)

-- what stands behind `#key`

bare_with : (key : Option Key) (others : Option KeysTree) → option_and_then bare_of (with_key key others) ≡ None
bare_with None others = refl
bare_with (Some key) None = refl
bare_with (Some key) (Some others) = refl

module _ (fragments : List SeenFragment) where
  abbrev pieces : Pieces
  pieces = cut is_comma_fragment false (items_of fragments)

  pub bare_several : (first : List Item) (separator : SeenFragment) (behind : List SeenFragment) → pieces ≡ pieces_behind is_comma_fragment first (separator ∷ behind) → option_and_then bare_of (keys_pieces pieces) ≡ None
  bare_several first separator behind e =
      ap (λ (p : Pieces). option_and_then bare_of (keys_pieces p)) e ∙ bare_with (key_items first) (keys_in (piece_and separator (cut is_comma_fragment false (items_of behind))))

  bare_end : (all : Bool) → pieces ≡ pieces_behind is_comma_fragment (items_of fragments) [] → all ≡ is_all_keys fragments → option_and_then bare_of (keys_pieces pieces) ≡ option_and_then bare_of (keys_end all (items_of fragments))
  bare_end all e is = ap (λ (p : Pieces). option_and_then bare_of (keys_pieces p)) e ∙ ap (λ (b : Bool). option_and_then bare_of (keys_end b (items_of fragments))) (is_all fragments ∙ sym is)

  pub bare_all : pieces ≡ pieces_behind is_comma_fragment (items_of fragments) [] → true ≡ is_all_keys fragments → option_and_then bare_of (keys_pieces pieces) ≡ Some (keys_of_found [] true)
  bare_all e is = bare_end true e is

  pub bare_key : pieces ≡ pieces_behind is_comma_fragment (items_of fragments) [] → false ≡ is_all_keys fragments → option_and_then bare_of (keys_pieces pieces) ≡ None
  bare_key e is = bare_end false e is ∙ bare_with (key_items (items_of fragments)) (Some (keys_of_found [] false))

  pub mark_followed : (first : List Fragment) (separator : SeenFragment) (behind : List SeenFragment) → pieces ≡ pieces_behind is_comma_fragment (items_of (seen_fragments first)) (separator ∷ behind) → true ≡ (length first == 0)
      → keys_behind_mark pieces ≡ option_and_then bare_of (keys_pieces (cut is_comma_fragment false (items_of behind)))
  mark_followed [] separator behind e none = ap keys_behind_mark e ∙ ap (option_and_then bare_of) (any_separator separator (cut is_comma_fragment false (items_of behind)))
    where
      any_separator : (separator : SeenFragment) (found : Pieces) → keys_in (piece_and separator found) ≡ keys_pieces found
      any_separator separator found = keys_are separator found.first found.others ∙ sym (keys_are comma_mark found.first found.others)
  mark_followed (item ∷ rest) separator behind e none = absurd (omega (arith, eqb-true (length (item ∷ rest)) 0 (sym none)))

  pub several_keys : (first : List Fragment) (separator : SeenFragment) (behind : List SeenFragment) → pieces ≡ pieces_behind is_comma_fragment (items_of (seen_fragments first)) (separator ∷ behind) → false ≡ (length first == 0)
      → keys_behind_mark pieces ≡ keys_pieces pieces
  several_keys [] separator behind e some = absurd cc
  several_keys (item ∷ rest) separator behind e some = rw e refl

module _ (fragments : List Fragment) where
  pub no_keys : true ≡ (length fragments == 0) → keys_behind_mark (cut is_comma_fragment false (items_of (seen_fragments fragments))) ≡ Some (keys_of_found [] false)
  no_keys none = go fragments none
    where
      go : (list : List Fragment) → true ≡ (length list == 0) → keys_behind_mark (cut is_comma_fragment false (items_of (seen_fragments list))) ≡ Some (keys_of_found [] false)
      go [] none = refl
      go (first ∷ rest) none = absurd (omega (arith, eqb-true (length (first ∷ rest)) 0 (sym none)))

  pub one_key : cut is_comma_fragment false (items_of (seen_fragments fragments)) ≡ pieces_behind is_comma_fragment (items_of (seen_fragments fragments)) [] → false ≡ (length fragments == 0)
      → keys_behind_mark (cut is_comma_fragment false (items_of (seen_fragments fragments))) ≡ with_key (key_items (items_of (seen_fragments fragments))) (Some (keys_of_found [] false))
  one_key e some = ap keys_behind_mark e ∙ go fragments some
    where
      go : (list : List Fragment) → false ≡ (length list == 0) → keys_behind_mark (pieces_behind is_comma_fragment (items_of (seen_fragments list)) []) ≡ with_key (key_items (items_of (seen_fragments list))) (Some (keys_of_found [] false))
      go [] some = absurd cc
      go (first ∷ rest) some = refl

pub only_key : (key : Option Key) → keys_behind [] (option_map capped_key key) ≡ option_map capped_keys (with_key key (Some (keys_of_found [] false)))
only_key None = refl
only_key (Some key) = refl
