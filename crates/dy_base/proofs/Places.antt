-- The places of a list, in the order of the names that stand there.
use Rattle.std.proofs.Common.{◌≡◌, ℕ, zero, suc, ◌+◌, ◌<◌, Bool, true, false, true≢false, cond, ◌&&◌, T, List, [], ◌∷◌, map, length, Option, Some, slice_get, slice_index_or, Ordering, Less, Equal, Greater, nat_cmp, is_eq, refl, sym, ap, subst, ◌∙◌, arith}
use Rattle.std.specs.Ordering.{is_lt, ordering_reverse}
use Rattle.std.specs.Str.{bytes_eq}
use Rattle.std.specs.Option.{option_map_or}
use Rattle.std.specs.List.{IsDistinct, range_with_len, swap}
use Rattle.std.specs.List.Sorted.{IsSorted, IsSortedBy, IsPermutation, SwapsInRange, apply_swaps}
use Rattle.std.specs.Cmp.Lexicographic.{slice_cmp, nat_list_cmp_total, nat_list_eq_equiv, texts_ties}
use Rattle.std.specs.Map.{lookup}
use Rattle.std.specs.FinMap.{find, is_sorted, entries, from_sorted, get-from_entries, get-from_sorted, entries-from_sorted}
use Rattle.std.specs.FinMap.Entries.{below_all}
use Rattle.std.proofs.lemmas.List.{length-map, get_or-map}
use Rattle.std.proofs.lemmas.List.Sorted.{IsPermutation-map}
use Rattle.std.proofs.lemmas.Map.Keys.{IsDistinct-IsPermutation}
use Rattle.indexmap.proofs.MapLemmas.{lookup_permutation}
use Rattle.indexmap.proofs.ReorderLemmas.{map-swap}
use Rattle.dy_base.specs.Tables.{NamedList, name_at, names, table_of}
use Rattle.dy_base.proofs.Tables.{same_tables}

both : (a b : Bool) → T a → T b → T (a && b)
both true b p q = q
both false b p q = p

first : (a b : Bool) → T (a && b) → T a
first true b p = tt
first false b p = p

second : (a b : Bool) → T (a && b) → T b
second true b p = p
second false b p = absurd p

less : (o : Ordering) → T (is_lt o) → o ≡ Less
less Less p = refl
less Equal p = absurd p
less Greater p = absurd p

-- neither equal nor after: before
before : (o : Ordering) → is_eq o ≡ false → is_lt (ordering_reverse o) ≡ false → T (is_lt o)
before Less e l = tt
before Equal e l = absurd (true≢false e)
before Greater e l = absurd (true≢false l)

shifted : {X : Type 0} (f g : ℕ → X) → ((i : ℕ) → f (i + 1) ≡ g i) → (a n : ℕ) → map f (range_with_len (a + 1) n) ≡ map g (range_with_len a n)
shifted f g h a zero = refl
shifted f g h a (suc n) = λ i. h a i ∷ shifted f g h (a + 1) n i

-- a swap of the places is a swap of what stands there
moved : {A B : Type 0} (g : A → B) (xs : List A) (moves : List (ℕ × ℕ)) → map g (apply_swaps xs moves) ≡ apply_swaps (map g xs) moves
moved g xs [] = refl
moved g xs (p ∷ ps) = map-swap g (apply_swaps xs ps) p.0 p.1 ∙ ap (λ l. swap l p.0 p.1) (moved g xs ps)

next_place : {X : Type 0} (x : X) (xs : List X) (i : ℕ) → slice_get (x ∷ xs) (i + 1) ≡ slice_get xs i
next_place x xs i = ap (slice_get (x ∷ xs)) (one_more i)
  where
    one_more : (i : ℕ) → i + 1 ≡ suc i
    one_more i = omega arith

-- what stands at all places is the list
all_places : {X : Type 0} (xs : List X) → map (slice_get xs) (range_with_len 0 (length xs)) ≡ map (λ x. Some x) xs
all_places [] = refl
all_places (x ∷ xs) = ap (λ l. Some x ∷ l) (shifted (slice_get (x ∷ xs)) (slice_get xs) (next_place x xs) 0 (length xs) ∙ all_places xs)

-- places that do not fall by what is seen of them, seen so
seen_sorted : (n : ℕ → List ℕ) (xs : List ℕ) → IsSortedBy (λ a b. is_lt (slice_cmp nat_cmp (n a) (n b))) xs → IsSorted (slice_cmp nat_cmp) (map n xs)
seen_sorted n xs sorted k d low high =
    let within : k + 1 < length xs = omega (arith, length-map xs n, high) in
    (λ j. is_lt (slice_cmp nat_cmp (get_or-map n xs (k + 1) 0 d within j) (get_or-map n xs k 0 d (omega (arith, within)) j))) ∙ sorted k 0 low within

module _ {V : Type 0} where
  looked_up : (q : List ℕ) (list : NamedList V) → lookup (bytes_eq q) list ≡ find (slice_cmp nat_cmp) q list
  looked_up q [] = refl
  looked_up q (e ∷ list) = λ i. cond (texts_ties q e.0 i) (Some e.1) (looked_up q list i)

  -- a list in another order has the same at each name
  table_of-moved : (xs ys : NamedList V) → IsPermutation xs ys → IsDistinct bytes_eq (names ys) → table_of ys ≡ table_of xs
  table_of-moved xs ys moves distinct = same_tables _ _ (λ q.
      get-from_entries nat_list_cmp_total ys q ∙ sym (looked_up q ys)
      ∙ lookup_permutation nat_list_eq_equiv xs ys moves distinct (bytes_eq q) (λ x y. nat_list_eq_equiv.congr q x y)
      ∙ looked_up q xs ∙ sym (get-from_entries nat_list_cmp_total xs q))

  -- a list in the order of its names is the entries of its table
  entries_of_sorted : (list : NamedList V) → T (is_sorted (slice_cmp nat_cmp) list) → list ≡ entries (table_of list)
  entries_of_sorted list sorted =
      sym (entries-from_sorted (slice_cmp nat_cmp) list sorted)
      ∙ ap entries (same_tables (from_sorted list) (table_of list) (λ q. get-from_sorted (slice_cmp nat_cmp) list q sorted ∙ sym (get-from_entries nat_list_cmp_total list q)))

  below_more : (x y : List ℕ) (list : NamedList V) → T (is_lt (slice_cmp nat_cmp x y)) → T (below_all (slice_cmp nat_cmp) y list) → T (below_all (slice_cmp nat_cmp) x list)
  below_more x y [] lt below = tt
  below_more x y (e ∷ rest) lt below =
      both _ _ (subst (λ o. T (is_lt o)) (sym (nat_list_cmp_total.trans x y e.0 (less _ lt) (less _ (first _ _ below)))) tt) (below_more x y rest lt (second _ _ below))

  -- names that do not fall and are distinct rise
  rising : (list : NamedList V) → IsSorted (slice_cmp nat_cmp) (names list) → IsDistinct bytes_eq (names list) → T (is_sorted (slice_cmp nat_cmp) list)
  unfolding IsDistinct
  rising [] sorted distinct = tt
  rising (e ∷ []) sorted distinct = tt
  rising (e ∷ f ∷ list) sorted distinct =
      let rest = rising (f ∷ list) (λ k d low high. next k d (sorted (suc k) d (omega arith) (omega (arith, high)))) distinct.1 in
      let differs = sym (texts_ties e.0 f.0) ∙ distinct.0.0 in
      let lt = before (slice_cmp nat_cmp e.0 f.0) differs (ap is_lt (sym (nat_list_cmp_total.antisymm f.0 e.0)) ∙ sorted 0 e.0 (omega arith) (omega arith)) in
      both _ _ (both _ _ lt (below_more e.0 f.0 list lt (first _ _ rest))) rest
    where
      on : (k : ℕ) → suc k + 1 ≡ suc (k + 1)
      on k = omega arith

      next : (k : ℕ) (d : List ℕ) → is_lt (slice_cmp nat_cmp (slice_index_or (names (e ∷ f ∷ list)) (suc k + 1) d) (slice_index_or (names (e ∷ f ∷ list)) (suc k) d)) ≡ false
          → is_lt (slice_cmp nat_cmp (slice_index_or (names (f ∷ list)) (k + 1) d) (slice_index_or (names (f ∷ list)) k d)) ≡ false
      next k d h = subst (λ (n : ℕ). is_lt (slice_cmp nat_cmp (slice_index_or (names (e ∷ f ∷ list)) n d) (slice_index_or (names (f ∷ list)) k d)) ≡ false) (on k) h

  names_again : (list : NamedList V) → map (λ (o : Option (List ℕ × V)). option_map_or (λ e. e.0) o []) (map (λ e. Some e) list) ≡ names list
  names_again [] = refl
  names_again (e ∷ list) = ap (λ l. e.0 ∷ l) (names_again list)

  names_at : (list : NamedList V) (places : List ℕ) → map (λ (o : Option (List ℕ × V)). option_map_or (λ e. e.0) o []) (map (slice_get list) places) ≡ map (name_at list) places
  names_at list [] = refl
  names_at list (i ∷ places) = ap (λ l. name_at list i ∷ l) (names_at list places)

  -- the places in the order of the names show the entries of the table
  pub places_in_order : (list : NamedList V) (places : List ℕ) → IsDistinct bytes_eq (names list) → IsPermutation (range_with_len 0 (length list)) places
      → IsSortedBy (λ a b. is_lt (slice_cmp nat_cmp (name_at list a) (name_at list b))) places
      → map (slice_get list) places ≡ map (λ e. Some e) (entries (table_of list))
  places_in_order list places distinct moves sorted =
      let there = IsPermutation-map (slice_get list) (range_with_len 0 (length list)) places moves in
      let ms = there.moves in
      let ys : NamedList V = apply_swaps list ms in
      let is : map (slice_get list) places ≡ map (λ e. Some e) ys = there.is ∙ ap (λ l. apply_swaps l ms) (all_places list) ∙ sym (moved (λ e. Some e) list ms) in
      let within : SwapsInRange (length list) ms = subst (λ n. SwapsInRange n ms) (ap length (all_places list) ∙ length-map list (λ e. Some e)) there.below in
      let same : IsPermutation list ys = record { moves = ms; below = within; is = refl } in
      let apart = IsDistinct-IsPermutation bytes_eq nat_list_eq_equiv.symm (names list) (names ys) (IsPermutation-map (λ e. e.0) list ys same) distinct in
      let seen : map (name_at list) places ≡ names ys = sym (names_at list places) ∙ ap (map (λ (o : Option (List ℕ × V)). option_map_or (λ e. e.0) o [])) is ∙ names_again ys in
      let up = subst (IsSorted (slice_cmp nat_cmp)) seen (seen_sorted (name_at list) places sorted) in
      is ∙ ap (map (λ e. Some e)) (entries_of_sorted ys (rising ys up apart) ∙ ap entries (table_of-moved list ys same apart))
