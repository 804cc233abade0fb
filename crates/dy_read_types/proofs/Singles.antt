-- Fragments that are no value of a singleton type.
use Rattle.std.proofs.Common.{◌≡◌, ◌==◌, ◌<◌, false, List, [], ◌∷◌, length, None, refl, sym, arith}
use Rattle.dy_tree.specs.declared.token.Token.{Token}
use Rattle.dy_tree.specs.declared.fragment.Fragment.{Fragment}
use Rattle.dy_tree.specs.Fragments.{SeenFragment, one, group, pack, fragment_and, SeenFragments, seen_fragment, seen_fragments}
use Rattle.dy_tree.specs.declared.brackets.Bracket.{Bracket}
use Rattle.dy_tree.specs.declared.brackets.Bracket.TheVariants as brackets
use Rattle.dy_rules.specs.TypeReading.{single_group, single_in}

filled : (bracket : Bracket) (first : SeenFragment) (rest : SeenFragments) (opener : Token) → single_group bracket (fragment_and first rest) opener ≡ None
filled brackets.Round first rest opener = refl
filled brackets.Square first rest opener = refl
filled brackets.Hidden first rest opener = refl
filled brackets.SharpRound first rest opener = refl
filled brackets.SharpSquare first rest opener = refl
filled (brackets.Statement kind) first rest opener = refl
filled brackets.Special first rest opener = refl

-- brackets with something in them
pub group_filled : (bracket : Bracket) (inner : List Fragment) (opener : Token) → false ≡ (length inner == 0) → None ≡ single_group bracket (pack (seen_fragments inner)) opener
group_filled bracket [] opener e = absurd cc
group_filled bracket (first ∷ rest) opener e = sym (filled bracket (seen_fragment first) (pack (seen_fragments rest)) opener)

longer : (first second third : SeenFragment) (rest : List SeenFragment) → single_in (first ∷ second ∷ third ∷ rest) ≡ None
longer (one a) (one b) third rest = refl
longer (one a) (group opener inner closer) third rest = refl
longer (group opener inner closer) second third rest = refl

-- more than two fragments
pub single_longer : (first second : Fragment) (others : List Fragment) → 0 < length others → None ≡ single_in (seen_fragment first ∷ seen_fragment second ∷ seen_fragments others)
single_longer first second [] h = absurd (omega arith)
single_longer first second (third ∷ rest) h = sym (longer (seen_fragment first) (seen_fragment second) (seen_fragment third) (seen_fragments rest))
