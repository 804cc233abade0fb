use Rattle.std.proofs.Common.{◌≡◌, inl, inr, ℕ, ◌<◌, ◌≤◌, ◌++◌, ◌∷◌, [], List, length, refl, sym, ap, subst, ◌∙◌, arith}
use Rattle.dy_rings.specs.declared.ring.Group.{Group}
use Rattle.dy_rings.specs.Rings.{In}
use Rattle.dy_rings.proofs.ring.join.Goals as goal

back : (rest above : List Group) (group : Group) → (rest ++ group ∷ []) ++ above ≡ rest ++ group ∷ above
back [] above group = refl
back (g ∷ gs) above group = ap (λ (xs : List Group). g ∷ xs) (back gs above group)

taken_out : (all groups rest above : List Group) (group : Group) → all ≡ groups ++ above → groups ≡ rest ++ group ∷ [] → all ≡ rest ++ group ∷ above
taken_out all groups rest above group e f = e ∙ ap (λ (gs : List Group). gs ++ above) f ∙ back rest above group

one_more : (place : ℕ) (group : Group) (above : List Group) → place < group.first → ((other : Group) → In other above → place < other.first) → (other : Group) → In other (group ∷ above) → place < other.first
one_more place group above l others other (inl e) = subst (λ (g : Group). place < g.first) (sym e) l
one_more place group above l others other (inr i) = others other i

none_left : (groups : List Group) → length groups ≡ 0 → groups ≡ []
none_left [] e = refl
none_left (g ∷ gs) e = absurd (omega arith)

all_behind : (all groups above : List Group) (place : ℕ) → all ≡ groups ++ above → length groups ≡ 0 → ((other : Group) → In other above → place < other.first) → (group : Group) → In group all → group.first ≤ place → ⊥
all_behind all groups above place e none others group i l =
    let same = e ∙ ap (λ (gs : List Group). gs ++ above) (none_left groups none) in
    let behind = others group (subst (λ (gs : List Group). In group gs) same i) in
    omega (arith, behind, l)

pub loop-group-preserved : goal.loop-group-preserved
loop-group-preserved c =
    let (above, e, others) = c.loop-group.invariant in
    (c.in-Some.group ∷ above, taken_out c.args.groups.now.items c.loop-group.groups.items c.pop.new.self.items above c.in-Some.group e c.in-Some.ensures.items, one_more c.args.place c.in-Some.group above c.if-group-place.false others)

pub returns-in_default : goal.returns-in_default
returns-in_default c =
    let (above, e, others) = c.loop-group.invariant in
    let (group, i, l) = c.requires in
    let none : length c.loop-group.groups.items ≡ 0 = omega (arith, c.in_default.ensures.cases.0, c.loop-group.groups.ok.0) in
    absurd (all_behind c.args.groups.now.items c.loop-group.groups.items above c.args.place e none others group i l)
