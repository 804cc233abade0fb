-- A group, with what is inside of it as a list.
use Rattle.std.proofs.Common.{◌≡◌, List, rules}
use Rattle.std.specs.Global.{Vec}
use Rattle.dy_tree.specs.declared.token.Token.{Token}
use Rattle.dy_tree.specs.declared.fragment.Fragment.{Fragment, Group}
use Rattle.dy_tree.specs.declared.fragment.Fragment.TheViews.{the_lemmas}
use Rattle.dy_tree.specs.Fragments.{group, pack, seen_fragment, seen_fragments}
use Rattle.dy_tree.proofs.Rows.{inner_packs}

packed : (opener : Token) (inner : Vec Fragment) (closer : Token) → seen_fragment (Group opener inner closer) ≡ group opener (pack (seen_fragments inner.items)) closer
packed opener inner closer = search (rules, the_lemmas, inner_packs)

-- with the slice that its items are
pub seen_group : (fragment : Fragment) (opener : Token) (inner : Vec Fragment) (closer : Token) (items : List Fragment) → fragment ≡ Group opener inner closer → items ≡ inner.items
    → seen_fragment fragment ≡ group opener (pack (seen_fragments items)) closer
seen_group fragment opener inner closer items is e = rw (is, e) (packed opener inner closer)
