-- The first part of a parameter list.
use Rattle.std.proofs.Common.{◌≡◌, Bool, true, false, List, [], ◌∷◌, codes, cond, Option, None, refl, sym, ap, ◌∙◌}
use Rattle.dy_tree.specs.declared.token.Token.{Token}
use Rattle.dy_tree.specs.declared.token.TokenKind.{TokenKind}
use Rattle.dy_tree.specs.declared.token.TokenKind.TheVariants as kinds
use Rattle.dy_tree.specs.Fragments.{SeenFragment, one, group}
use Rattle.dy_tree.specs.declared.roles.Role.TheVariants as roles
use Rattle.dy_tree.specs.declared.type_words.PartWord.{PartWord}
use Rattle.dy_tree.specs.declared.type_words.PartWord.TheVariants as part_words
use Rattle.dy_rules.specs.Arguments.{is_comma, is_comma_fragment}
use Rattle.dy_rules.specs.Cutting.{Item, Piece, Pieces, is_let_role, is_let, cut_if, cut}
use Rattle.dy_rules.specs.Fragments.{item_of, items_of}
use Rattle.dy_rules.specs.Roles.{is_among, role_by}
use Rattle.dy_rules.specs.Signatures.{part_kind, part_with, listed_behind, listed_pieces}
use Rattle.dy_rules.specs.Trees.{Listed}
use Rattle.dy_rules.specs.Types.{part_word, part_word_by}
use Rattle.dy_read_shapes.specs.ListParts.{is_key_word, front_word, listed_parts, plain_part, keys_listed}

nothing_plain : (word : PartWord) (found : Option Listed) → None ≡ plain_part word [] found
nothing_plain part_words.Next found = refl
nothing_plain part_words.Rest found = refl
nothing_plain part_words.Key found = refl
nothing_plain part_words.AllKeys found = refl
nothing_plain part_words.Absent found = refl

part_plain : (word : PartWord) (item : Item) (rest : List Item) (others : List Piece) (found : Option Listed) → false ≡ is_key_word word → part_with word item rest others found ≡ plain_part word (item ∷ rest) found
part_plain part_words.Next item rest others found e = refl
part_plain part_words.Rest item rest others found e = refl
part_plain part_words.Key item rest others found e = absurd cc
part_plain part_words.AllKeys item rest others found e = refl
part_plain part_words.Absent item rest others found e = refl

first_word : (fragments : List SeenFragment) (item : Item) (rest : List Item) → (cut is_comma_fragment false (items_of fragments)).first ≡ item ∷ rest → part_kind item.fragment ≡ front_word fragments
first_word [] item rest e = absurd cc
first_word (first ∷ more) item rest e = go (is_comma_fragment first) e
  where
    go : (is : Bool) → (cut_if is (item_of first) (cut is_comma_fragment false (items_of more)) (cut is_comma_fragment (is_let first) (items_of more))).first ≡ item ∷ rest → part_kind item.fragment ≡ part_kind first
    go true e = absurd cc
    go false e = let same : item ≡ item_of first = cc in ap (λ (it : Item). part_kind it.fragment) same

-- A part that isn't `#key` is read alone.
pub plain_read : (word : PartWord) (fragments : List SeenFragment) (piece : List Item) (others : List Piece) → word ≡ front_word fragments → false ≡ is_key_word word → cut is_comma_fragment false (items_of fragments) ≡ record { first = piece; others = others }
    → listed_parts fragments ≡ plain_part word piece (listed_behind others)
plain_read word fragments [] others w k e = ap listed_pieces e ∙ nothing_plain word (listed_behind others)
plain_read word fragments (item ∷ rest) others w k e =
    ap listed_pieces e
    ∙ ap (λ (it : PartWord). part_with it item rest others (listed_behind others)) (first_word fragments item rest (ap (λ (pieces : Pieces). pieces.first) e) ∙ sym w)
    ∙ part_plain word item rest others (listed_behind others) k

-- `#key` is no comma and no `let`.
key_facts : (token : Token) → part_word token ≡ part_words.Key → (is_comma_fragment (one token) ≡ false) × (is_let (one token) ≡ false)
key_facts token e = go token.kind e
  where
    go : (kind : TokenKind) → part_word_by kind token ≡ part_words.Key → (is_comma (role_by kind token) ≡ false) × (is_let_role (role_by kind token) ≡ false)
    go kinds.Mark f = both (is_among (codes "#t" ∷ codes "#f" ∷ []) token)
      where
        both : (b : Bool) → (is_comma (cond b roles.Boolean roles.Other) ≡ false) × (is_let_role (cond b roles.Boolean roles.Other) ≡ false)
        both true = (refl, refl)
        both false = (refl, refl)
    go kind f = absurd cc

is_key : (word : PartWord) → true ≡ is_key_word word → word ≡ part_words.Key
is_key part_words.Next e = absurd cc
is_key part_words.Rest e = absurd cc
is_key part_words.Key e = refl
is_key part_words.AllKeys e = absurd cc
is_key part_words.Absent e = absurd cc

-- What stands behind `#key` is cut as it stands.
pub key_read : (mark : SeenFragment) (rest : List SeenFragment) → true ≡ is_key_word (part_kind mark) → listed_parts (mark ∷ rest) ≡ keys_listed rest
key_read (group opener inner closer) rest e = absurd cc
key_read (one token) rest e =
    let item = item_of (one token) in
    let behind : Pieces = cut is_comma_fragment false (items_of rest) in
    let word : part_word token ≡ part_words.Key = is_key (part_word token) e in
    let (no_comma, no_let) = key_facts token word in
    ap (λ (b : Bool). listed_pieces (cut_if b item behind (cut is_comma_fragment (is_let (one token)) (items_of rest)))) no_comma
    ∙ ap (λ (b : Bool). listed_pieces (cut_if false item behind (cut is_comma_fragment b (items_of rest)))) no_let
    ∙ ap (λ (it : PartWord). part_with it item behind.first behind.others (listed_behind behind.others)) word
