-- The stack of open groups, the innermost first.
use Rattle.std.proofs.Common.{◌≡◌, List, [], ◌∷◌, ◌++◌, length, map, reverse, refl, ap, ◌∙◌, arith}
use Rattle.std.proofs.lemmas.List.{reverse-append, length-reverse, map-append, length-map}
use Rattle.dy_fragment.specs.declared.steps.Open.{Open}
use Rattle.dy_fragment.specs.Steps.{seen_open, seen_opens}

pub opens_pushed : (os : List Open) (o : Open) → seen_opens (os ++ o ∷ []) ≡ seen_open o ∷ seen_opens os
opens_pushed os o = ap reverse (map-append seen_open os (o ∷ [])) ∙ reverse-append (map seen_open os) (seen_open o ∷ [])

pub opens_popped : (os rest : List Open) (o : Open) → os ≡ rest ++ o ∷ [] → seen_opens os ≡ seen_open o ∷ seen_opens rest
opens_popped os rest o e = ap seen_opens e ∙ opens_pushed rest o

pub opens_empty : (os : List Open) → length os ≡ 0 → seen_opens os ≡ []
opens_empty [] e = refl
opens_empty (o ∷ os) e = absurd (omega arith)

pub length_opens : (os : List Open) → length (seen_opens os) ≡ length os
length_opens os = length-reverse (map seen_open os) ∙ length-map os seen_open
