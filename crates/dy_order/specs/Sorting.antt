-- The sorted applicable methods: again and again the one that precedes all others that remain.
use Rattle.std.specs.Prelude.{◌≡◌, Bool, cond, ◌&&◌, nat_eq, List, [], ◌∷◌}
use Rattle.dy_base.specs.declared.ids.GenericId.{GenericId}
use Rattle.dy_base.specs.declared.ids.MethodId.{MethodId}
use Rattle.dy_term.specs.declared.types.Shape1.{Shape1}
use Rattle.dy_term.specs.declared.rows.Program.{Program}
use Rattle.dy_classes.specs.Lists.{In}
use Rattle.dy_order.specs.Methods.{methods_of}
use Rattle.dy_order.specs.Precedence.{IsApplicable, Precedes}

-- the second list has those of the first of which P holds, in their order
pub data Filtered {A : Type 0} (P : A → Type 0) : List A → List A → Type 0 where
  empty : Filtered P [] []
  kept : {x : A} {xs ys : List A} → P x → Filtered P xs ys → Filtered P (x ∷ xs) (x ∷ ys)
  dropped : {x : A} {xs ys : List A} → (P x → ⊥) → Filtered P xs ys → Filtered P (x ∷ xs) ys

-- m is in the list, and precedes all others there
pub record IsFirst (P : MethodId → MethodId → Type 0) (ms : List MethodId) (m : MethodId) : Type 0 where
  pub within : In m ms
  pub before : (n : MethodId) → In n ms → (n ≡ m → ⊥) → P m n

abbrev pub is_method : MethodId → MethodId → Bool
is_method a b = nat_eq a.0.library b.0.library && nat_eq a.0.row b.0.row

abbrev pub without : MethodId → List MethodId → List MethodId
without m [] = []
without m (n ∷ ms) = cond (is_method n m) (without m ms) (n ∷ without m ms)

-- of the methods of the first list, the second is what is taken, and the third what remains
pub data SortedInto (P : MethodId → MethodId → Type 0) : List MethodId → List MethodId → List MethodId → Type 0 where
  remains : {ms : List MethodId} → ((m : MethodId) → IsFirst P ms m → ⊥) → SortedInto P ms [] ms
  takes : {m : MethodId} {ms taken rest : List MethodId} → IsFirst P ms m → SortedInto P (without m ms) taken rest → SortedInto P ms (m ∷ taken) rest

-- the applicable ones of a list of methods, sorted: what is taken, and what remains
pub record Dispatched (Applies : MethodId → Type 0) (P : MethodId → MethodId → Type 0) (methods first rest : List MethodId) : Type 0 where
  pub applicable : List MethodId
  pub filtered : Filtered Applies methods applicable
  pub sorted : SortedInto P applicable first rest

-- the methods of a generic function that are applicable to the arguments, sorted, and those that
-- are ambiguous, in the order of the program
abbrev pub IsSorted : Program → GenericId → List Shape1 → List MethodId → List MethodId → Type 0
IsSorted program generic args first rest =
    Dispatched (IsApplicable program generic args) (Precedes program args) (methods_of program) first rest
