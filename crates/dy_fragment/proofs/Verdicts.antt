-- Tokens are grouped exactly where there are trees of them that are not too deep, and there are no two.
use Rattle.std.proofs.Common.{◌≡◌, ℕ, ◌+◌, ◌<◌, ◌≤◌, List, [], length, Option, Some, None, Ok, Err, refl, sym, ap, subst, ◌∙◌, arith}
use Rattle.dy_base.specs.declared.kind.Kind.{Kind}
use Rattle.dy_base.specs.declared.kind.Kind.TheVariants.{Unbalanced, TooDeep}
use Rattle.dy_base.specs.declared.fault.Place.{Place}
use Rattle.dy_tree.specs.declared.token.Token.{Token}
use Rattle.dy_tree.specs.declared.words.Words.{Words}
use Rattle.dy_tree.specs.Fragments.{SeenFragment}
use Rattle.dy_fragment.specs.Steps.{Grouping, fault_at, complete_row, start, group_within}
use Rattle.dy_fragment.specs.Groups.{Grouped, depth}
use Rattle.dy_fragment.proofs.Reading.{state_at, reads}
use Rattle.dy_fragment.proofs.Sound.{sound}
use Rattle.dy_fragment.proofs.Turns.{run_end}

-- what stands at the end of the tokens where there are trees of them
record Ending (limit : ℕ) (words : Words) (tokens : List Token) (fs : List SeenFragment) : Type 0 where
  row : List SeenFragment
  deep : Option Place
  is : group_within limit words tokens ≡ complete_row deep row
  same : deep ≡ None → row ≡ fs
  within : depth fs ≤ limit → deep ≡ None
  beyond : deep ≡ None → depth fs ≤ limit

ending : (limit : ℕ) (words : Words) (tokens : List Token) (fs : List SeenFragment) → Grouped words tokens fs → Ending limit words tokens fs
ending limit words tokens fs (to, e, groups, ends) =
    let r = reads limit words tokens 0 start to e fs groups (length tokens) [] [] None (omega arith) in
    record {
      row = r.new_row;
      deep = r.new_deep;
      is = r.goes ∙ run_end limit words tokens r.left (state_at to e [] r.new_row r.new_deep) ends;
      same = r.same;
      within = λ h. r.within refl (omega arith);
      beyond = λ h. let under = r.beyond h (omega arith) in omega arith;
    }

pub given_all : (limit : ℕ) (words : Words) (tokens : List Token) (fs : List SeenFragment) → Grouped words tokens fs → depth fs ≤ limit → group_within limit words tokens ≡ Ok fs
given_all limit words tokens fs grouped fits =
    let end = ending limit words tokens fs grouped in
    let none : end.deep ≡ None = end.within fits in
    let same : end.row ≡ fs = end.same none in
    end.is ∙ ap (λ (d : Option Place). complete_row d end.row) none ∙ ap (λ (r : List SeenFragment). complete_row None r) same

refused : (deep : Option Place) (row : List SeenFragment) → (deep ≡ None → ⊥) → (p : Place) × (complete_row deep row ≡ Err (fault_at TooDeep p))
refused None row h = absurd (h refl)
refused (Some p) row h = (p, refl)

pub given_deep : (limit : ℕ) (words : Words) (tokens : List Token) (fs : List SeenFragment) → Grouped words tokens fs → limit < depth fs
    → (p : Place) × (group_within limit words tokens ≡ Err (fault_at TooDeep p))
given_deep limit words tokens fs grouped over =
    let end = ending limit words tokens fs grouped in
    let (p, is) = refused end.deep end.row (λ h. let under = end.beyond h in omega arith) in
    (p, end.is ∙ is)

ok_same : (r : Grouping) (fs gs : List SeenFragment) → r ≡ Ok fs → r ≡ Ok gs → fs ≡ gs
ok_same r fs gs d e = cc

pub unique : (words : Words) (tokens : List Token) (fs gs : List SeenFragment) → Grouped words tokens fs → Grouped words tokens gs → fs ≡ gs
unique words tokens fs gs f g =
    ok_same (group_within (depth fs + depth gs) words tokens) fs gs (given_all (depth fs + depth gs) words tokens fs f (omega arith)) (given_all (depth fs + depth gs) words tokens gs g (omega arith))

complete_none : (deep : Option Place) (row fs : List SeenFragment) → complete_row deep row ≡ Ok fs → deep ≡ None
complete_none None row fs e = refl
complete_none (Some p) row fs e = absurd cc

pub given_grouped : (limit : ℕ) (words : Words) (tokens : List Token) (fs : List SeenFragment) → group_within limit words tokens ≡ Ok fs → Grouped words tokens fs × (depth fs ≤ limit)
given_grouped limit words tokens fs e =
    let (gs, to, c, groups, ends, is) = sound limit words tokens fs (length tokens) 0 start [] [] (omega arith) e in
    let same : gs ≡ fs = sym is in
    let grouped : Grouped words tokens fs = subst (λ (hs : List SeenFragment). Grouped words tokens hs) same (to, c, groups, ends) in
    let end = ending limit words tokens fs grouped in
    (grouped, end.beyond (complete_none end.deep end.row fs (sym end.is ∙ e)))

not_given : (r : Grouping) (p : Place) (fs : List SeenFragment) → r ≡ Err (fault_at Unbalanced p) → r ≡ Ok fs → ⊥
not_given r p fs d e = absurd cc

abbrev kind_in : Grouping → Kind
kind_in (Ok fs) = Unbalanced
kind_in (Err f) = f.kind

two_kinds : Unbalanced ≡ TooDeep → ⊥
two_kinds e = absurd cc

not_deep : (r : Grouping) (p q : Place) → r ≡ Err (fault_at Unbalanced p) → r ≡ Err (fault_at TooDeep q) → ⊥
not_deep r p q d e = two_kinds (ap kind_in (sym d ∙ e))

pub unbalanced_none : (limit : ℕ) (words : Words) (tokens : List Token) (p : Place) (fs : List SeenFragment) → group_within limit words tokens ≡ Err (fault_at Unbalanced p) → Grouped words tokens fs → ⊥
unbalanced_none limit words tokens p fs e grouped =
    let end = ending limit words tokens fs grouped in
    never_unbalanced end.deep end.row p (sym end.is ∙ e)
  where
    never_unbalanced : (deep : Option Place) (row : List SeenFragment) (p : Place) → complete_row deep row ≡ Err (fault_at Unbalanced p) → ⊥
    never_unbalanced None row p e = absurd cc
    never_unbalanced (Some q) row p e = not_deep (complete_row (Some q) row) p q e refl
