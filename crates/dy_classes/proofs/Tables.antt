-- Numbers of classes, in a row for each library.
use Rattle.std.proofs.Common.{◌≡◌, ℕ, zero, suc, ◌+◌, ◌<◌, ◌≤◌, List, [], ◌∷◌, ◌++◌, length, get_or, drop, map, slice_get, slice_index, Option, Some, None, refl, sym, ap, subst, ◌∙◌, arith, replicate, Vec}
use Rattle.std.specs.Option.{option_map_or}
use Rattle.std.specs.declared.alloc.Global.{Global}
use Rattle.dy_base.specs.declared.ids.ClassId.{ClassId}
use Rattle.dy_classes.specs.Counters.{count_at, HasCount, occurs, tail, Counted}
use Rattle.dy_classes.specs.Orders.{lists_of}
use Rattle.std.proofs.lemmas.List.{length-replicate, length-map}
use Rattle.dy_classes.proofs.Counters.{behind, occurs_next, past_nothing, clean_nothing, tails_nothing}
use Rattle.dy_classes.proofs.Steps.{behind_none}

-- a class whose number is not 0 has one
pub has_count : (rows : List (Vec ℕ Global)) (y : ClassId) → 1 ≤ count_at rows y → HasCount rows y
has_count rows y h = go rows y.0.library y.0.row h
  where
    in_row : (xs : List ℕ) (r : ℕ) → 1 ≤ get_or xs r 0 → r < length xs
    in_row [] r h = absurd (omega arith)
    in_row (x ∷ xs) zero h = omega arith
    in_row (x ∷ xs) (suc r) h = let below = in_row xs r h in omega arith

    go : (rows : List (Vec ℕ Global)) (l r : ℕ) → 1 ≤ option_map_or (λ w. slice_index w.items r) (slice_get rows l) 0
        → r < option_map_or (λ w. length w.items) (slice_get rows l) 0
    go [] l r h = absurd (omega arith)
    go (w ∷ rows) zero r h = in_row w.items r h
    go (w ∷ rows) (suc l) r h = go rows l r h

pub zeros : (n i : ℕ) → ◌≡◌ {A = ℕ} (get_or (replicate n 0) i 0) 0
zeros zero i = refl
zeros (suc n) zero = refl
zeros (suc n) (suc i) = zeros n i

count_push_at : (rows : List (Vec ℕ Global)) (row : Vec ℕ Global) (l r : ℕ) → slice_index row.items r ≡ 0
    → option_map_or (λ w. slice_index w.items r) (slice_get rows l) 0 ≡ 0 → option_map_or (λ w. slice_index w.items r) (slice_get (rows ++ row ∷ []) l) 0 ≡ 0
count_push_at [] row zero r z e = z
count_push_at [] row (suc l) r z e = refl
count_push_at (w ∷ rows) row zero r z e = e
count_push_at (w ∷ rows) row (suc l) r z e = count_push_at rows row l r z e

pub count_push : (rows : List (Vec ℕ Global)) (row : Vec ℕ Global) (n : ℕ) (y : ClassId) → row.items ≡ replicate n 0 → count_at rows y ≡ 0 → count_at (rows ++ row ∷ []) y ≡ 0
count_push rows row n y e z =
    count_push_at rows row y.0.library y.0.row (ap (λ (l : List ℕ). get_or l y.0.row 0) e ∙ zeros n y.0.row) z

-- the class behind the head has a number
pub next_counted : (m : List ClassId) (h : ℕ) (d : ClassId) (rows : List (Vec ℕ Global)) → h + 1 < length m
    → ((y : ClassId) → occurs y (tail (drop h m)) ≤ count_at rows y) → HasCount rows (get_or m (h + 1) d)
next_counted m h d rows lt enough =
    let a = occurs_next m h d lt in
    let b = enough (get_or m (h + 1) d) in
    has_count rows (get_or m (h + 1) d) (omega arith)

-- nothing is listed: each head is the first place
pub counted_start : (supers order : ClassId → List ClassId) (c : ClassId) (m : List ClassId) (i : ℕ) (heads : List ℕ) (counts : List (Vec ℕ Global)) → m ≡ supers c → length m ≤ i
    → heads ≡ replicate (length m + 1) 0 → ((y : ClassId) → count_at counts y + behind y (map order (drop i m)) ≡ behind y (lists_of supers order c))
    → Counted (lists_of supers order c) [] heads counts
counted_start supers order c m i heads counts same end all_zero count =
    let first_place : (k : ℕ) → get_or heads k 0 ≡ 0 = λ k. ap (λ (v : List ℕ). get_or v k 0) all_zero ∙ zeros (length m + 1) k in
    record {
      places = ap length all_zero ∙ length-replicate (length m + 1) 0 ∙ (let a : length (map order (supers c)) ≡ length m = length-map (supers c) order ∙ ap length (sym same) in omega arith);
      count = λ y. (let a = count y in let b = behind_none order y m i end in let e = tails_nothing y (lists_of supers order c) in omega arith);
      within = λ k lt. (let a = first_place k in omega arith);
      lefts = λ k lt. ap (λ (n : ℕ). drop n (get_or (lists_of supers order c) k [])) (first_place k) ∙ sym (past_nothing (get_or (lists_of supers order c) k []));
      clean = λ k lt. clean_nothing (get_or (lists_of supers order c) k []);
    }
