-- What an operand will be a part of, and how tight it binds.
use Rattle.std.proofs.Common.{◌≡◌, nat_lt, ℕ, suc, ◌≤◌, Bool, true, false, cond, List, refl, arith}
use Rattle.std.proofs.lemmas.Bool.{le-ltb}
use Rattle.dy_tree.specs.Fragments.{SeenFragment}
use Rattle.dy_tree.specs.declared.roles.Role.TheVariants as roles
use Rattle.dy_rules.specs.Operators.{below}
use Rattle.dy_rules.specs.Trees.{Tree, operation, unary}
use Rattle.dy_rules.specs.Roles.{role_of}
use Rattle.dy_rules.specs.Productions.{is_integer}
use Rattle.dy_rules.specs.Reading.{Outer, whole, operated, under, assigned, reduced, finished, finished_part}

abbrev Fragments : Type 0
Fragments = List SeenFragment

-- An operation of no more than so many levels may begin here.
abbrev pub Fits : ℕ → Outer → Type 0
Fits height whole = Unit {0}
Fits height (operated precedence left sign outer) = height ≤ below precedence
Fits height (under sign outer) = ⊥
Fits height (assigned place outer) = Unit {0}

-- An expression may begin here.
abbrev pub Ends : Outer → Type 0
Ends whole = Unit {0}
Ends (operated precedence left sign outer) = ⊥
Ends (under sign outer) = ⊥
Ends (assigned place outer) = Unit {0}

-- no integer follows a minus here
abbrev pub NoNegative : Outer → Fragments → Type 0
NoNegative whole fragments = Unit {0}
NoNegative (operated precedence left sign outer) fragments = Unit {0}
NoNegative (under sign outer) fragments = (role_of sign ≡ roles.Minus) → is_integer fragments ≡ false
NoNegative (assigned place outer) fragments = Unit {0}

pub fits_signed : (height : ℕ) (outer : Outer) (fragments : Fragments) → Fits height outer → NoNegative outer fragments
fits_signed height whole fragments h = tt
fits_signed height (operated precedence left sign outer) fragments h = tt
fits_signed height (under sign outer) fragments h = absurd h
fits_signed height (assigned place outer) fragments h = tt

pub ends_fits : (height : ℕ) (outer : Outer) → Ends outer → Fits height outer
ends_fits height whole h = tt
ends_fits height (operated precedence left sign outer) h = absurd h
ends_fits height (under sign outer) h = absurd h
ends_fits height (assigned place outer) h = tt

pub fits_up : (height : ℕ) (outer : Outer) → Fits (suc height) outer → Fits height outer
fits_up height whole h = tt
fits_up height (operated precedence left sign outer) h = omega arith
fits_up height (under sign outer) h = absurd h
fits_up height (assigned place outer) h = tt

-- nothing is whole before an operation of so many levels
pub fits_stays : (height : ℕ) (tree : Tree) (outer : Outer) → Fits height outer → reduced height tree outer ≡ (tree, outer)
fits_stays height tree whole h = refl
fits_stays height tree (operated precedence left sign outer) h = rw (le-ltb (below precedence) height h) refl
fits_stays height tree (under sign outer) h = absurd h
fits_stays height tree (assigned place outer) h = refl

-- a whole expression is the same before and after what is whole in it was put together
pub finished_reduced : (height : ℕ) (tree : Tree) (outer : Outer) → finished_part (reduced height tree outer) ≡ finished tree outer
finished_reduced height tree whole = refl
finished_reduced height tree (operated precedence left sign outer) = go (nat_lt (below precedence) height) (finished_reduced height (operation precedence left sign tree) outer)
  where
    go : (b : Bool) → finished_part (reduced height (operation precedence left sign tree) outer) ≡ finished (operation precedence left sign tree) outer
        → finished_part (cond b (reduced height (operation precedence left sign tree) outer) (tree, operated precedence left sign outer)) ≡ finished (operation precedence left sign tree) outer
    go true e = e
    go false e = refl
finished_reduced height tree (under sign outer) = finished_reduced height (unary sign tree) outer
finished_reduced height tree (assigned place outer) = refl
