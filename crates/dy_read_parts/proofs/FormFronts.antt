-- A group begins a definition where it stands alone.
use Rattle.std.proofs.Common.{◌≡◌, ◌==◌, true, false, List, [], ◌∷◌, length, refl, sym, arith}
use Rattle.std.proofs.lemmas.Bool.{eqb-true}
use Rattle.dy_tree.specs.declared.token.Token.{Token}
use Rattle.dy_tree.specs.declared.fragment.Fragment.{Fragment}
use Rattle.dy_tree.specs.Fragments.{SeenFragment, group, SeenFragments, seen_fragments}
use Rattle.dy_rules.specs.FormReading.{FormFront, expression_front, front_of_group, form_front}
use Rattle.dy_rules.specs.Roles.{bracket_of}

module _ (first : SeenFragment) (opener : Token) (inner : SeenFragments) (closer : Token) (is : first ≡ group opener inner closer) where
  pub group_alone : (rest : List Fragment) (front : FormFront) → front ≡ front_of_group (bracket_of opener closer) opener inner → true ≡ (length rest == 0) → front ≡ form_front (first ∷ seen_fragments rest)
  group_alone [] front e none = rw (is, e) refl
  group_alone (second ∷ rest) front e none = absurd (omega (arith, eqb-true (length (second ∷ rest)) 0 (sym none)))

  pub group_followed : (rest : List Fragment) → false ≡ (length rest == 0) → expression_front ≡ form_front (first ∷ seen_fragments rest)
  group_followed [] some = absurd cc
  group_followed (second ∷ rest) some = rw is refl
