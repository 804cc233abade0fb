-- Load orders of small programs, worked out by hand; computing gives the same. Number 0 is dylan, 1 is
-- io, and io uses dylan.
use Rattle.std.proofs.Common.{◌≡◌, [], ◌∷◌, Some, None, refl}
use Rattle.dy_load_order.specs.LoadOrder.{load_order, place_in}

-- a library that names none uses dylan
no_clauses : load_order ([] ∷ [] ∷ [] ∷ []) 2 ≡ 0 ∷ 2 ∷ []
no_clauses = refl

-- it uses io, and names dylan behind it: dylan is first nonetheless
io_used : load_order ([] ∷ [] ∷ (1 ∷ 0 ∷ []) ∷ []) 2 ≡ 0 ∷ 1 ∷ 2 ∷ []
io_used = refl

-- dylan and io alone
dylan_alone : load_order ([] ∷ [] ∷ []) 0 ≡ 0 ∷ []
dylan_alone = refl

-- Library 5 uses 4 and then 3, which both use 2, and 3 uses io too; nothing uses 6. So 4 comes to
-- stand in front of 3, as the clauses say, and 2 once, in front of both.
diamond : load_order ([] ∷ [] ∷ [] ∷ (1 ∷ 2 ∷ []) ∷ (2 ∷ []) ∷ (4 ∷ 3 ∷ []) ∷ [] ∷ []) 5 ≡ 0 ∷ 2 ∷ 4 ∷ 1 ∷ 3 ∷ 5 ∷ []
diamond = refl

-- the same with the two clauses in the other order
other_diamond : load_order ([] ∷ [] ∷ [] ∷ (1 ∷ 2 ∷ []) ∷ (2 ∷ []) ∷ (3 ∷ 4 ∷ []) ∷ [] ∷ []) 5 ≡ 0 ∷ 1 ∷ 2 ∷ 3 ∷ 4 ∷ 5 ∷ []
other_diamond = refl

-- two clauses name one library
used_twice : load_order ([] ∷ [] ∷ (1 ∷ []) ∷ (2 ∷ 1 ∷ 2 ∷ []) ∷ []) 3 ≡ 0 ∷ 1 ∷ 2 ∷ 3 ∷ []
used_twice = refl

-- in the first diamond library 4 is the third, and 6 is not there
third : place_in (0 ∷ 2 ∷ 4 ∷ 1 ∷ 3 ∷ 5 ∷ []) 4 ≡ Some 2
third = refl

nowhere : place_in (0 ∷ 2 ∷ 4 ∷ 1 ∷ 3 ∷ 5 ∷ []) 6 ≡ None
nowhere = refl
