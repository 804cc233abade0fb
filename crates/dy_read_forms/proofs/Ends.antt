-- Definitions end where nothing stands behind their last part.
use Rattle.std.proofs.Common.{◌≡◌, ◌==◌, true, false, length, List, [], ◌∷◌, Some, None, option_map, refl, sym, arith}
use Rattle.std.proofs.lemmas.Bool.{eqb-true}
use Rattle.dy_tree.specs.declared.fragment.Fragment.{Fragment}
use Rattle.dy_tree.specs.declared.token.Token.{Token}
use Rattle.dy_tree.specs.Fragments.{seen_fragments}
use Rattle.dy_rules.specs.Cutting.{Item}
use Rattle.dy_rules.specs.Forms.{generic_form}
use Rattle.dy_rules.specs.FormReading.{domain_of, domain_end}
use Rattle.dy_rules.specs.Fragments.{items_of}
use Rattle.dy_read_forms.specs.ReadDefinitions.{generic_end}
use Rattle.dy_read_bodies.specs.SignatureFronts.{Signature}

module _ (define : Token) (adjectives : List Token) (token : Token) (found : Signature) where
  pub generic_ended : (rest : List Fragment) → true ≡ (length rest == 0) → generic_end define adjectives token found (items_of (seen_fragments rest)) ≡ Some (generic_form define adjectives token found.parts)
  generic_ended [] none = refl
  generic_ended (first ∷ rest) none = absurd (omega (arith, eqb-true (length (first ∷ rest)) 0 (sym none)))

  pub generic_followed : (rest : List Fragment) → false ≡ (length rest == 0) → generic_end define adjectives token found (items_of (seen_fragments rest)) ≡ None
  generic_followed [] some = absurd cc
  generic_followed (first ∷ rest) some = refl

module _ (define token : Token) (types : Item) where
  pub domain_ended : (rest : List Fragment) → true ≡ (length rest == 0) → domain_end define token types (items_of (seen_fragments rest)) ≡ option_map (domain_of define token) types.found.types
  domain_ended [] none = refl
  domain_ended (first ∷ rest) none = absurd (omega (arith, eqb-true (length (first ∷ rest)) 0 (sym none)))

  pub domain_followed : (rest : List Fragment) → false ≡ (length rest == 0) → domain_end define token types (items_of (seen_fragments rest)) ≡ None
  domain_followed [] some = absurd cc
  domain_followed (first ∷ rest) some = refl
