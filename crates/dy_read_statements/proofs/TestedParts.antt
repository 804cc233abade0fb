-- A test in brackets is what was read inside of them.
use Rattle.std.proofs.Common.{◌≡◌, List, [], ◌∷◌, Option, Some, None, option_map, option_and_then, refl, sym, ap, ◌∙◌}
use Rattle.std.proofs.Common.{IfSome}
use Rattle.dy_tree.specs.Fragments.{SeenFragment, one, group, pack, seen_fragments}
use Rattle.dy_tree.specs.declared.brackets.Bracket.{Bracket}
use Rattle.dy_tree.specs.declared.brackets.Bracket.TheVariants as brackets
use Rattle.dy_rules.specs.Cutting.{Item, front_in, headed}
use Rattle.dy_rules.specs.Cutting as cutting
use Rattle.dy_rules.specs.Fragments.{items_of, tree_inside}
use Rattle.dy_rules.specs.Roles.{bracket_of}
use Rattle.dy_rules.specs.StatementReading.{Tested, tested_by, tested_in, tested}
use Rattle.dy_read_parts.specs.Front.{seen_front}
use Rattle.dy_read_statements.specs.ReadStatements.{front_tested}
use Rattle.dy_read_parts.specs.declared.front.Front.{Front}

abbrev test_in : cutting.Front → Option Tested
test_in front = option_map (tested_by front.rest) front.first.found.tree

in_bracket : (bracket : Bracket) (item : Item) (rest : List Item) → tested_in bracket item.found.tree rest ≡ option_and_then test_in (front_in bracket item rest)
in_bracket brackets.Round item rest = refl
in_bracket brackets.Square item rest = refl
in_bracket brackets.Hidden item rest = refl
in_bracket brackets.SharpRound item rest = refl
in_bracket brackets.SharpSquare item rest = refl
in_bracket (brackets.Statement kind) item rest = refl
in_bracket brackets.Special item rest = refl

in_front : (fragments : List SeenFragment) → tested (items_of fragments) ≡ option_and_then test_in (headed (items_of fragments))
in_front [] = refl
in_front (one token ∷ rest) = refl
in_front (group opener inner closer ∷ rest) = in_bracket (bracket_of opener closer) _ (items_of rest)

test_seen : (front : Option Front) → IfSome front (λ front. bracket_of front.opener.now front.closer.now ≡ brackets.Round) → option_and_then test_in (option_map seen_front front) ≡ front_tested front
test_seen None is = refl
test_seen (Some front) is = let inner = seen_fragments front.inner.now in ap (λ (bracket : Bracket). option_map (tested_by (items_of (seen_fragments front.rest.now))) (tree_inside bracket front.opener.now (pack inner) (items_of inner))) is

pub test_front : (fragments : List SeenFragment) (front : Option Front) → option_map seen_front front ≡ headed (items_of fragments) → IfSome front (λ front. bracket_of front.opener.now front.closer.now ≡ brackets.Round) → tested (items_of fragments) ≡ front_tested front
test_front fragments front e is = in_front fragments ∙ ap (option_and_then test_in) (sym e) ∙ test_seen front is
