-- The groups of open nodes stand in order.
use Rattle.std.proofs.Common.{◌≡◌, ◌⊎◌, inl, inr, ◌<◌, ◌≤◌, List, [], ◌∷◌, ◌++◌, refl, sym, subst}
use Rattle.dy_rings.specs.declared.ring.Group.{Group}
use Rattle.dy_rings.specs.Rings.{In}
use Rattle.dy_rings.proofs.Lists.{in_left, in_right, in_or_last}

-- one group stands in front of another
pub record Below (g h : Group) : Type 0 where
  pub first : g.first < h.first
  pub left : g.left ≤ h.left

abbrev pub Ascends : List Group → Type 0
Ascends [] = Unit {0}
Ascends (g ∷ gs) = ((h : Group) → In h gs → Below g h) × Ascends gs

pub ascends_front : (gs hs : List Group) → Ascends (gs ++ hs) → Ascends gs
ascends_front [] hs a = tt
ascends_front (g ∷ gs) hs a = (λ h i. a.0 h (in_left h gs hs i), ascends_front gs hs a.1)

pub ascends_back : (gs hs : List Group) → Ascends (gs ++ hs) → Ascends hs
ascends_back [] hs a = a
ascends_back (g ∷ gs) hs a = ascends_back gs hs a.1

pub ascends_across : (gs hs : List Group) → Ascends (gs ++ hs) → (g h : Group) → In g gs → In h hs → Below g h
ascends_across [] hs a g h i j = absurd i
ascends_across (k ∷ gs) hs a g h (inl e) j = subst (λ (x : Group). Below x h) (sym e) (a.0 h (in_right h gs hs j))
ascends_across (k ∷ gs) hs a g h (inr i) j = ascends_across gs hs a.1 g h i j

pub ascends_push : (gs : List Group) (g : Group) → Ascends gs → ((h : Group) → In h gs → Below h g) → Ascends (gs ++ g ∷ [])
ascends_push [] g a below = (λ h i. absurd i, tt)
ascends_push (k ∷ gs) g a below = (λ h i. new h (in_or_last h gs g i), ascends_push gs g a.1 (λ h i. below h (inr i)))
  where
    new : (h : Group) → In h gs ⊎ (h ≡ g) → Below k h
    new h (inl i) = a.0 h i
    new h (inr e) = subst (λ (x : Group). Below k x) (sym e) (below k (inl refl))
