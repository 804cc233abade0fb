-- The load order of a library and all that it uses (DRM 4, "Libraries"; own). Libraries are
-- numbers, and `uses` has for each library those that its use clauses name, in their order.
use Rattle.std.specs.Prelude.{ℕ, zero, suc, ◌<◌, Bool, nat_eq, if◌then◌else◌, List, [], ◌∷◌, ◌++◌}
use Rattle.std.specs.Prelude.{fold, position, Option, All, EachIndex, slice_index_or}
use Rattle.std.specs.List.{list_any}

-- each use clause names a library of a smaller number than its own library has
abbrev pub AreEarlier : List (List ℕ) → Type 0
AreEarlier uses = EachIndex uses (λ user. All (λ used. used < user) (slice_index_or uses user []))

-- What a library uses: first dylan, which is number 0, and then what its use clauses name. Dylan
-- itself uses no library.
abbrev pub used_by : List (List ℕ) → ℕ → List ℕ
used_by uses zero = []
used_by uses (suc before) = 0 ∷ slice_index_or uses (suc before) []

abbrev pub is_in : List ℕ → ℕ → Bool
is_in order library = list_any (nat_eq library) order

-- To visit a library is to visit what it uses, in order, and then to put it behind, unless it is
-- there already. Chains of uses are followed to a depth.
abbrev pub visited : ℕ → List (List ℕ) → List ℕ → ℕ → List ℕ
visited zero uses order library = order
visited (suc depth) uses order library = if is_in order library then order
    else fold (visited depth uses) order (used_by uses library) ++ library ∷ []

-- to such a depth that each chain ends before, since the numbers on it fall
abbrev pub visit : List (List ℕ) → List ℕ → ℕ → List ℕ
visit uses order library = visited (suc library) uses order library

-- the libraries of the program of a main library, in the order in which they are loaded
abbrev pub load_order : List (List ℕ) → ℕ → List ℕ
load_order uses main = visit uses [] main

-- the place of a library in an order, counted from 0: the first one, where there are several
abbrev pub place_in : List ℕ → ℕ → Option ℕ
place_in order library = position (nat_eq library) order
