-- Parameters in front of others.
use Rattle.std.proofs.Common.{◌≡◌, ℕ, max, List, [], ◌∷◌, ◌++◌, Option, Some, None, option_map, option_and_then, refl, sym, ap, ◌∙◌, arith}
use Rattle.std.proofs.lemmas.List.{map-append}
use Rattle.dy_tree.specs.declared.token.Token.{Token}
use Rattle.dy_tree.specs.declared.variables.Required.{Required}
use Rattle.dy_rules.specs.Cutting.{Item}
use Rattle.dy_rules.specs.Depth.{required_depth}
use Rattle.dy_rules.specs.Productions.{list_of}
use Rattle.dy_rules.specs.Signatures.{required_items, with_next, with_rest, after_next, after_rest, after_required}
use Rattle.dy_rules.specs.Trees.{KeysTree, Listed}
use Rattle.dy_rules.specs.Types.{RequiredTree, required_variable, required_single}
use Rattle.dy_tree.specs.declared.type_words.PartWord.{PartWord}
use Rattle.dy_tree.specs.declared.type_words.PartWord.TheVariants as parts
use Rattle.dy_read_shapes.specs.ListParts.{plain_part}
use Rattle.dy_read_shapes.specs.ListHeads.{capped_listed, read_each_required, rest_each, next_each, required_each, each_before}
use Rattle.dy_read_shapes.specs.ReadRequired.{read_required, capped_required}

next_none : (next : Option Token) → None ≡ next_each next None
next_none None = refl
next_none (Some token) = refl

rest_none : (rest : Option Token) → None ≡ rest_each rest None
rest_none None = refl
rest_none (Some token) = refl

required_none : (required : List RequiredTree) → None ≡ required_each required None
required_none [] = refl
required_none (first ∷ others) = ap (λ (found : Option Listed). after_required found first) (required_none others)

-- nothing in front of what isn't read

refuse_next : (required : List RequiredTree) (next rest : Option Token) (found : Option Listed) → None ≡ next_each next (rest_each rest found) → None ≡ each_before required next rest found
refuse_next required next rest found e = required_none required ∙ ap (required_each required) e

refuse_rest : (required : List RequiredTree) (next rest : Option Token) (found : Option Listed) → None ≡ rest_each rest found → None ≡ each_before required next rest found
refuse_rest required next rest found e = refuse_next required next rest found (next_none next ∙ ap (next_each next) e)

pub nothing_before : (required : List RequiredTree) (next rest : Option Token) → None ≡ each_before required next rest None
nothing_before required next rest = refuse_rest required next rest None (rest_none rest)

-- what stands behind `#next` and `#rest`

next_next : (token other : Token) (found : Option Listed) → None ≡ after_next (after_next found other) token
next_next token other None = refl
next_next token other (Some found) = go found.required found.next
  where
    go : (required : List RequiredTree) (next : Option Token) → None ≡ after_next (with_next other required next found) token
    go [] None = refl
    go [] (Some it) = refl
    go (first ∷ others) next = refl

rest_next : (token other : Token) (found : Option Listed) → None ≡ after_rest (after_next found other) token
rest_next token other None = refl
rest_next token other (Some found) = go found.required found.next
  where
    go : (required : List RequiredTree) (next : Option Token) → None ≡ after_rest (with_next other required next found) token
    go [] None = refl
    go [] (Some it) = refl
    go (first ∷ others) next = refl

rest_rest : (token other : Token) (found : Option Listed) → None ≡ after_rest (after_rest found other) token
rest_rest token other None = refl
rest_rest token other (Some found) = go found.required found.next found.rest
  where
    go : (required : List RequiredTree) (next rest : Option Token) → None ≡ after_rest (with_rest other required next rest found) token
    go [] None None = refl
    go [] None (Some it) = refl
    go [] (Some it) rest = refl
    go (first ∷ others) next rest = refl

next_required : (token : Token) (required : RequiredTree) (found : Option Listed) → None ≡ after_next (after_required found required) token
next_required token required None = refl
next_required token required (Some found) = refl

rest_required : (token : Token) (required : RequiredTree) (found : Option Listed) → None ≡ after_rest (after_required found required) token
rest_required token required None = refl
rest_required token required (Some found) = refl

pub next_refused_rest : (required : List RequiredTree) (next : Option Token) (token other : Token) (found : Option Listed) → None ≡ each_before required next (Some token) (after_next found other)
next_refused_rest required next token other found = refuse_rest required next (Some token) (after_next found other) (rest_next token other found)

pub next_refused_next : (required : List RequiredTree) (token other : Token) (found : Option Listed) → None ≡ each_before required (Some token) None (after_next found other)
next_refused_next required token other found = refuse_next required (Some token) None (after_next found other) (next_next token other found)

pub rest_refused : (required : List RequiredTree) (next : Option Token) (token other : Token) (found : Option Listed) → None ≡ each_before required next (Some token) (after_rest found other)
rest_refused required next token other found = refuse_rest required next (Some token) (after_rest found other) (rest_rest token other found)

pub required_refused_rest : (required : List RequiredTree) (next : Option Token) (token : Token) (other : RequiredTree) (found : Option Listed) → None ≡ each_before required next (Some token) (after_required found other)
required_refused_rest required next token other found = refuse_rest required next (Some token) (after_required found other) (rest_required token other found)

pub required_refused_next : (required : List RequiredTree) (token : Token) (other : RequiredTree) (found : Option Listed) → None ≡ each_before required (Some token) None (after_required found other)
required_refused_next required token other found = refuse_next required (Some token) None (after_required found other) (next_required token other found)

-- A required parameter more.

one_more : (before : List RequiredTree) (next : RequiredTree) (found : Option Listed) → required_each (before ++ next ∷ []) found ≡ required_each before (after_required found next)
one_more [] next found = refl
one_more (first ∷ others) next found = ap (λ (it : Option Listed). after_required it first) (one_more others next found)

pub required_taken : (before after : List Required) (next : Required) (found : Option Listed) → after ≡ before ++ next ∷ [] → each_before (read_each_required after) None None found ≡ each_before (read_each_required before) None None (after_required found (read_required next))
required_taken before after next found more =
    ap (λ (forms : List Required). required_each (read_each_required forms) found) more ∙ ap (λ (trees : List RequiredTree). required_each trees found) (map-append read_required before (next ∷ []))
    ∙ one_more (read_each_required before) (read_required next) found

depth_first : (first : RequiredTree) (others : List RequiredTree) → required_depth (first ∷ others) ≡ max (required_depth (first ∷ [])) (required_depth others)
depth_first (required_variable variable) others = omega arith
depth_first (required_single token single) others = omega arith

depth_more : (before : List RequiredTree) (next : RequiredTree) → required_depth (before ++ next ∷ []) ≡ max (required_depth before) (required_depth (next ∷ []))
depth_more [] next = omega arith
depth_more (first ∷ others) next =
    let more = depth_more others next in
    let a = depth_first first (others ++ next ∷ []) in
    let b = depth_first first others in
    omega arith

pub required_deeper : (outer old new : ℕ) (before after : List Required) (next : Required) → after ≡ before ++ next ∷ [] → new ≡ max old (required_depth (read_required next ∷ [])) → old ≡ max outer (required_depth (read_each_required before))
    → new ≡ max outer (required_depth (read_each_required after))
required_deeper outer old new before after next more f e =
    let same : required_depth (read_each_required after) ≡ required_depth (read_each_required before ++ read_required next ∷ []) = ap (λ (forms : List Required). required_depth (read_each_required forms)) more ∙ ap required_depth (map-append read_required before (next ∷ [])) in
    let deep = depth_more (read_each_required before) (read_required next) in
    omega arith

-- parts in any change

next_on : (token : Token) (found : Option Listed) → option_map capped_listed (after_next found token) ≡ after_next (option_map capped_listed found) token
next_on token None = refl
next_on token (Some found) = go found.required found.next found.rest found.keys
  where
    go : (required : List RequiredTree) (next rest : Option Token) (keys : Option KeysTree)
        → option_map capped_listed (after_next (Some (list_of required next rest keys)) token) ≡ after_next (option_map capped_listed (Some (list_of required next rest keys))) token
    go [] None rest keys = refl
    go [] (Some it) rest keys = refl
    go (first ∷ others) next rest keys = refl

rest_on : (token : Token) (found : Option Listed) → option_map capped_listed (after_rest found token) ≡ after_rest (option_map capped_listed found) token
rest_on token None = refl
rest_on token (Some found) = go found.required found.next found.rest found.keys
  where
    go : (required : List RequiredTree) (next rest : Option Token) (keys : Option KeysTree)
        → option_map capped_listed (after_rest (Some (list_of required next rest keys)) token) ≡ after_rest (option_map capped_listed (Some (list_of required next rest keys))) token
    go [] None None keys = refl
    go [] None (Some it) keys = refl
    go [] (Some it) rest keys = refl
    go (first ∷ others) next rest keys = refl

pub next_changed : (name : Option Token) (found : Option Listed) → option_map capped_listed (option_and_then (after_next found) name) ≡ option_and_then (after_next (option_map capped_listed found)) name
next_changed None found = refl
next_changed (Some token) found = next_on token found

pub rest_changed : (name : Option Token) (found : Option Listed) → option_map capped_listed (option_and_then (after_rest found) name) ≡ option_and_then (after_rest (option_map capped_listed found)) name
rest_changed None found = refl
rest_changed (Some token) found = rest_on token found

pub required_changed : (required : Option RequiredTree) (found : Option Listed) → option_and_then (after_required (option_map capped_listed found)) (option_map capped_required required) ≡ option_map capped_listed (option_and_then (after_required found) required)
required_changed None found = refl
required_changed (Some required) None = refl
required_changed (Some required) (Some found) = refl

-- a part without a mark
pub plain_required : (word : PartWord) → (word ≡ parts.Next → ⊥) → (word ≡ parts.Rest → ⊥) → (items : List Item) (found : Option Listed) → option_and_then (after_required found) (required_items items) ≡ plain_part word items found
plain_required parts.Next not_next not_rest items found = absurd (not_next refl)
plain_required parts.Rest not_next not_rest items found = absurd (not_rest refl)
plain_required parts.Key not_next not_rest items found = refl
plain_required parts.AllKeys not_next not_rest items found = refl
plain_required parts.Absent not_next not_rest items found = refl

-- all parameters

required_all : (required : List RequiredTree) (next rest : Option Token) (keys : Option KeysTree) → required_each required (Some (list_of [] next rest keys)) ≡ Some (list_of required next rest keys)
required_all [] next rest keys = refl
required_all (first ∷ others) next rest keys = ap (λ (found : Option Listed). after_required found first) (required_all others next rest keys)

rest_all : (next rest : Option Token) (keys : Option KeysTree) → next_each next (rest_each rest (Some (list_of [] None None keys))) ≡ Some (list_of [] next rest keys)
rest_all None None keys = refl
rest_all None (Some it) keys = refl
rest_all (Some it) None keys = refl
rest_all (Some it) (Some other) keys = refl

pub all_before : (required : List RequiredTree) (next rest : Option Token) (keys : Option KeysTree) → Some (list_of required next rest keys) ≡ each_before required next rest (Some (list_of [] None None keys))
all_before required next rest keys = sym (ap (required_each required) (rest_all next rest keys) ∙ required_all required next rest keys)
