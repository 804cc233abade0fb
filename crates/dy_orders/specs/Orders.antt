-- Orders of the LID files of a command (own).
use Rattle.std.specs.Prelude.{◌≡◌, ℕ, ◌+◌, List, [], ◌∷◌, map, length, take, All, Contains}
use Rattle.std.specs.Prelude.{EachIndex, slice_index_or, IsPermutation, Some, Result, Ok}
use Rattle.std.specs.List.{range_with_len}
use Rattle.dy_io.specs.Files.{FileMap}
use Rattle.dy_views.specs.Views.{Name, number_of}
use Rattle.dy_libraries.specs.declared.libraries.Libraries.{Libraries}
use Rattle.dy_libraries.specs.Commands.{built_in}
use Rattle.dy_libraries.specs.Programs.{libraries_of}
use Rattle.dy_sources.specs.declared.refused.Refused.{Refused}
use Rattle.dy_sources.specs.Libraries.{AreRead}

-- so many places, from 0 on, in any order
abbrev pub IsOrder : ℕ → List ℕ → Type 0
IsOrder count order = IsPermutation (range_with_len 0 count) order

-- the LID files in this order
abbrev pub reordered : List (List ℕ) → List ℕ → List (List ℕ)
reordered lids order = map (λ place. slice_index_or lids place []) order

-- Libraries are numbered in the order of their LID files, behind the two that are built in. These
-- are the numbers of the two, and of those of the LID files at these places.
abbrev pub numbers_of : List ℕ → List ℕ
numbers_of places = 0 ∷ 1 ∷ map (λ place. 2 + place) places

-- what the library of this number uses
abbrev pub uses_at : Libraries → ℕ → List ℕ
uses_at libraries number = slice_index_or libraries.compiled.uses number []

-- In this order, too, each library stands behind all that it uses.
abbrev pub IsAdmissible : Libraries → List ℕ → Type 0
IsAdmissible libraries order = EachIndex order (λ place.
    All (Contains (numbers_of (take place order)))
    (uses_at libraries (2 + slice_index_or order place 0)))

-- That of the words is such an order.
abbrev pub WordsAreAdmissible : Type 0
WordsAreAdmissible = (files : FileMap) (lids : List (List ℕ)) (libraries : Libraries)
    → AreRead files built_in lids (Ok libraries)
    → IsAdmissible libraries (range_with_len 0 (length lids))

-- Each library of the one is by its name one of the other, and its program there has the same
-- libraries in the same load order: the same rows, the same exports and the same names of others.
abbrev pub HasAlike : Libraries → Libraries → Type 0
HasAlike one other = (name : Name) (number : ℕ)
    → number_of one.compiled.exports name ≡ Some number
    → (place : ℕ) × (number_of other.compiled.exports name ≡ Some place)
    × (libraries_of one number ≡ libraries_of other place)

abbrev pub AreAlike : Libraries → Libraries → Type 0
AreAlike one other = HasAlike one other × HasAlike other one

-- Libraries that are read are read in each such order, and are the same.
abbrev pub OrdersAreAlike : Type 0
OrdersAreAlike = (files : FileMap) (lids : List (List ℕ)) (libraries : Libraries) (order : List ℕ)
    → AreRead files built_in lids (Ok libraries) → IsOrder (length lids) order
    → IsAdmissible libraries order
    → (others : Libraries) × AreRead files built_in (reordered lids order) (Ok others)
    × AreAlike libraries others

-- Whatever the LID files come to in such an order, it is no refusal.
abbrev pub NoneIsRefused : Type 0
NoneIsRefused = (files : FileMap) (lids : List (List ℕ)) (libraries : Libraries) (order : List ℕ)
    (result : Result Libraries Refused) → AreRead files built_in lids (Ok libraries)
    → IsOrder (length lids) order → IsAdmissible libraries order
    → AreRead files built_in (reordered lids order) result
    → (others : Libraries) × (result ≡ Ok others) × AreAlike libraries others
