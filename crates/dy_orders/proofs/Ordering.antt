-- Libraries that are read are read in another order, and are the same there.
use Rattle.std.proofs.Common.{◌≡◌, ◌⊎◌, ℕ, zero, suc, ◌+◌, ◌<◌, ◌≤◌, Bool, true, false, cond, eqb, List, [], ◌∷◌, ◌++◌, append_assoc, append-nil, length, map, take, get_or, All, Contains, Ok, refl, sym, ap, subst, ◌∙◌, inl, inr, eq-eqb, ne_eqb, eqb-true, take_at, length-append, arith}
use Rattle.std.specs.Prelude.{sum_by}
use Rattle.std.specs.List.{AllZip, range_with_len}
use Rattle.std.proofs.lemmas.Bool.{cases_lt}
use Rattle.std.proofs.lemmas.List.{get_or_at, get_or-take, get_or-map, length-map}
use Rattle.std.proofs.lemmas.List.Elements.{All-nil, All-cons, All-contains, All-weaker, Contains-append_right}
use Rattle.std.proofs.lemmas.List.Sums.{sum_by-cons, sum_by-append, get_or-le-sum_by}
use Rattle.std.proofs.lemmas.List.Sorted.{IsPermutation-refl, All-permutation, Contains-permutation, length_permutation, sum_by-IsPermutation}
use Rattle.dy_base.specs.declared.exports.Exports.{Exports}
use Rattle.dy_io.specs.Files.{FileMap}
use Rattle.dy_views.specs.Views.{no_exports}
use Rattle.dy_libraries.specs.declared.libraries.Libraries.{Libraries}
use Rattle.dy_libraries.specs.Commands.{built_in, AreLibraries}
use Rattle.dy_libraries.specs.Programs.{no_row}
use Rattle.dy_libraries.proofs.Growing.{built_in_are}
use Rattle.dy_verdict.specs.declared.library.ReadLibrary.{ReadLibrary}
use Rattle.dy_sources.specs.Verdicts.{accepted, IsVerdict}
use Rattle.dy_sources.specs.Libraries.{with_read, AreRead}
use Rattle.dy_sources.proofs.Chains.{answers_are_one, read_are_accepted, read_are_libraries}
use Rattle.dy_orders.specs.Orders.{IsOrder, reordered, numbers_of, uses_at, IsAdmissible, HasAlike, AreAlike, WordsAreAdmissible, OrdersAreAlike, NoneIsRefused}
use Rattle.dy_orders.proofs.Names.{numbered_so, name_found}
use Rattle.dy_orders.proofs.Fronts.{Sizes, stands, sizes_of, few_accepted}
use Rattle.dy_orders.proofs.Alike.{Same, IsAlike, AreOf, programs_same}
use Rattle.dy_orders.proofs.Next.{next_read}

-- ---- orders

abbrev once : ℕ → ℕ → ℕ
once k x = cond (eqb k x) 1 0

none_below : (k a n : ℕ) → k < a → sum_by (once k) (range_with_len a n) ≡ 0
none_below k a zero less = refl
none_below k a (suc n) less =
    let first : once k a ≡ 0 = ap (λ (b : Bool). cond b 1 0) (ne_eqb k a (λ e. omega arith)) in
    let rest = none_below k (a + 1) n (omega arith) in
    let parts = sum_by-cons (once k) a (range_with_len (a + 1) n) in
    omega (arith, first, rest, parts)

at_most_once : (k a n : ℕ) → sum_by (once k) (range_with_len a n) ≤ 1
at_most_once k a zero = omega arith
at_most_once k a (suc n) = go (eqb k a) refl (at_most_once k (a + 1) n)
  where
    parts : sum_by (once k) (a ∷ range_with_len (a + 1) n) ≡ once k a + sum_by (once k) (range_with_len (a + 1) n)
    parts = sum_by-cons (once k) a (range_with_len (a + 1) n)

    go : (b : Bool) → eqb k a ≡ b → sum_by (once k) (range_with_len (a + 1) n) ≤ 1 → sum_by (once k) (a ∷ range_with_len (a + 1) n) ≤ 1
    go true e more =
        let first : once k a ≡ 1 = ap (λ (t : Bool). cond t 1 0) e in
        let same : k ≡ a = eqb-true k a e in
        let rest = none_below k (a + 1) n (omega (arith, same)) in
        omega (arith, first, rest, parts)
    go false e more =
        let first : once k a ≡ 0 = ap (λ (t : Bool). cond t 1 0) e in
        omega (arith, first, more, parts)

in_range : (k a n : ℕ) → a ≤ k → k < a + n → Contains (range_with_len a n) k
in_range k a zero low high = absurd (omega arith)
in_range k a (suc n) low high = go (cases_lt a k) (λ less. in_range k (a + 1) n less (omega arith))
  where
    later : Contains (range_with_len (a + 1) n) k → Contains (a ∷ range_with_len (a + 1) n) k
    later (i, within, same) = (suc i, omega (arith, within), same)

    go : (a < k) ⊎ (k ≤ a) → (a + 1 ≤ k → Contains (range_with_len (a + 1) n) k) → Contains (a ∷ range_with_len (a + 1) n) k
    go (inl less) more = later (more (omega arith))
    go (inr past) more = let same : a ≡ k = omega arith in (0, omega arith, same)

all_below : (b a n : ℕ) → a + n ≤ b → All (λ x. x < b) (range_with_len a n)
all_below b a zero fits = All-nil (λ x. x < b)
all_below b a (suc n) fits = All-cons (λ x. x < b) a (range_with_len (a + 1) n) (omega arith) (all_below b (a + 1) n (omega arith))

range_long : (a n : ℕ) → length (range_with_len a n) ≡ n
range_long a zero = refl
range_long a (suc n) = let rest = range_long (a + 1) n in omega (arith, rest)

module _ (order : List ℕ) (count : ℕ) (is : IsOrder count order) where
  order_long : length order ≡ count
  order_long = length_permutation (range_with_len 0 count) order is ∙ range_long 0 count

  order_below : (k : ℕ) → Contains order k → k < count
  order_below k c =
      All-contains (λ x. x < count) order k (All-permutation (λ x. x < count) (range_with_len 0 count) order is (all_below count 0 count (omega arith))) c

  order_has : (k : ℕ) → k < count → Contains order k
  order_has k less = Contains-permutation (range_with_len 0 count) order k is (in_range k 0 count (omega arith) (omega arith))

  -- no place stands in front of itself
  order_once : (front behind : List ℕ) (k : ℕ) → order ≡ front ++ k ∷ behind → Contains front k → ⊥
  order_once front behind k e (i, within, same) =
      let few = at_most_once k 0 count in
      let whole = ap (sum_by (once k)) (sym e) ∙ sum_by-IsPermutation (once k) (range_with_len 0 count) order is in
      let parts = sum_by-append (once k) front (k ∷ behind) in
      let here = sum_by-cons (once k) k behind in
      let one : once k k ≡ 1 = ap (λ (b : Bool). cond b 1 0) (eq-eqb k k refl) in
      let two : once k (get_or front i k) ≡ 1 = ap (once k) same ∙ one in
      let before = get_or-le-sum_by (once k) front i k within in
      omega (arith, few, whole, parts, here, one, two, before)

-- ---- numbers of places

numbers_have : (places : List ℕ) (k : ℕ) → Contains places k → Contains (numbers_of places) (2 + k)
numbers_have places k (i, within, same) =
    let long = length-map places (λ (place : ℕ). 2 + place) in
    (suc (suc i), omega (arith, within, long), get_or-map (λ (place : ℕ). 2 + place) places i k (2 + k) within ∙ ap (λ (place : ℕ). 2 + place) same)

numbers_new : (places : List ℕ) (k : ℕ) → (Contains places k → ⊥) → Contains (numbers_of places) (2 + k) → ⊥
numbers_new places k new (zero, within, same) = let e : 0 ≡ 2 + k = same in omega arith
numbers_new places k new (suc zero, within, same) = let e : 1 ≡ 2 + k = same in omega arith
numbers_new places k new (suc (suc i), within, same) =
    let long = length-map places (λ (place : ℕ). 2 + place) in
    let inside : i < length places = omega (arith, within, long) in
    let at = get_or-map (λ (place : ℕ). 2 + place) places i k (2 + k) inside in
    let e : get_or (map (λ (place : ℕ). 2 + place) places) i (2 + k) ≡ 2 + k = same in
    let here : get_or places i k ≡ k = omega (arith, e, at) in
    new (i, inside, here)

numbers_all : (order : List ℕ) (count : ℕ) → IsOrder count order → (k : ℕ) → k < 2 + count → Contains (numbers_of order) k
numbers_all order count is zero less = (0, omega arith, refl)
numbers_all order count is (suc zero) less = (1, omega arith, refl)
numbers_all order count is (suc (suc k)) less =
    let e : 2 + k ≡ suc (suc k) = omega arith in
    subst (Contains (numbers_of order)) e (numbers_have order k (order_has order count is k (omega arith)))

two_sizes : Sizes built_in 2
two_sizes = record { rows = refl; exports = refl; uses = refl; orders = refl }

-- ---- the order of the words

range_at : (a n k d : ℕ) → k < n → get_or (range_with_len a n) k d ≡ a + k
range_at a zero k d less = absurd (omega arith)
range_at a (suc n) zero d less = let e : a ≡ a + 0 = omega arith in e
range_at a (suc n) (suc k) d less =
    let e : (a + 1) + k ≡ a + suc k = omega arith in
    range_at (a + 1) n k d (omega arith) ∙ e

range_take : (a n k : ℕ) → k ≤ n → take k (range_with_len a n) ≡ range_with_len a k
range_take a n zero few = refl
range_take a zero (suc k) few = absurd (omega arith)
range_take a (suc n) (suc k) few = ap (λ (xs : List ℕ). a ∷ xs) (range_take (a + 1) n k (omega arith))

pub words_are_admissible : WordsAreAdmissible
words_are_admissible files lids libraries read place within =
    subst (λ (number : ℕ). All (Contains (numbers_of (take place (range_with_len 0 (length lids))))) (uses_at libraries (2 + number))) (sym at)
    (subst (λ (places : List ℕ). All (Contains (numbers_of places)) (uses_at libraries (2 + place))) (sym (range_take 0 (length lids) place (omega (arith, less))))
    (All-weaker (λ used. used < 2 + place) (Contains (numbers_of (range_with_len 0 place)))
    (numbers_all (range_with_len 0 place) place (IsPermutation-refl (range_with_len 0 place))) (uses_at libraries (2 + place))
    (are.compiled.earlier (2 + place) (omega (arith, less, long)))))
  where
    are : AreLibraries libraries
    are = read_are_libraries files lids libraries read

    long : length libraries.compiled.uses ≡ 2 + length lids
    long = (sizes_of files libraries lids built_in 2 two_sizes read).uses

    less : place < length lids
    less = let all = range_long 0 (length lids) in omega (arith, within, all)

    at : get_or (range_with_len 0 (length lids)) place 0 ≡ place
    at = let e : 0 + place ≡ place = omega arith in range_at 0 (length lids) place 0 less ∙ e

-- ---- those that are built in

at_first : {X : Type 0} (xs zs : List X) (i : ℕ) (d : X) → take 2 xs ≡ zs → i < 2 → get_or zs i d ≡ get_or xs i d
at_first {X} xs zs i d e less = ap (λ (ys : List X). get_or ys i d) (sym e) ∙ get_or-take 2 xs i d less

module _ (libraries : Libraries) (are : AreLibraries libraries) (enough : 2 ≤ length libraries.compiled.exports) where
  both_exports : (l : ℕ) → l < 2 → get_or built_in.compiled.exports l no_exports ≡ get_or libraries.compiled.exports l no_exports
  both_exports l less = at_first libraries.compiled.exports built_in.compiled.exports l no_exports (ap (λ (x : Libraries). x.compiled.exports) are.first) less

  both_uses : (l : ℕ) → l < 2 → get_or built_in.compiled.uses l [] ≡ get_or libraries.compiled.uses l []
  both_uses l less = at_first libraries.compiled.uses built_in.compiled.uses l [] (ap (λ (x : Libraries). x.compiled.uses) are.first) less

  both_same : (l : ℕ) → l < 2 → Same libraries built_in l l
  both_same l less = (less, omega (arith, less, enough), ap (λ (x : Exports). x.library) (both_exports l less))

  both_alike : (l : ℕ) → l < 2 → AllZip (Same libraries built_in) (get_or built_in.compiled.uses l []) (get_or built_in.compiled.uses l []) → IsAlike libraries built_in l l
  both_alike l less zip = record {
    row = at_first libraries.rows built_in.rows l no_row (ap (λ (x : Libraries). x.rows) are.first) less;
    exports = both_exports l less;
    uses = subst (AllZip (Same libraries built_in) (get_or built_in.compiled.uses l [])) (both_uses l less) zip;
  }

  both_each : (l : ℕ) → l < 2 → (k : ℕ) × Same libraries built_in l k × IsAlike libraries built_in l k × Contains (numbers_of []) k
  both_each zero less = (0, both_same 0 less, both_alike 0 less tt, (0, omega arith, refl))
  both_each (suc zero) less = (1, both_same 1 less, both_alike 1 less (both_same 0 (omega arith), tt), (1, omega arith, refl))
  both_each (suc (suc l)) less = absurd (omega arith)

  both_there : (k : ℕ) → Contains (numbers_of []) k → (l : ℕ) × Same libraries built_in l k
  both_there k (zero, within, same) = (0, subst (Same libraries built_in 0) same (both_same 0 (omega arith)))
  both_there k (suc zero, within, same) = (1, subst (Same libraries built_in 1) same (both_same 1 (omega arith)))
  both_there k (suc (suc i), within, same) = absurd (omega arith)

  both_of : AreOf libraries built_in []
  both_of = record {
    compiled = built_in_are.compiled;
    sizes = two_sizes;
    apart = built_in_are.apart;
    each = both_each;
    there = both_there;
    dylan = both_same 0 (omega arith);
  }

-- ---- the others one by one

module _ (files : FileMap) (lids : List (List ℕ)) (libraries : Libraries) (order : List ℕ) (read : AreRead files built_in lids (Ok libraries)) (is : IsOrder (length lids) order) (admissible : IsAdmissible libraries order) where
  are : AreLibraries libraries
  are = read_are_libraries files lids libraries read

  sizes : Sizes libraries (2 + length lids)
  sizes = sizes_of files libraries lids built_in 2 two_sizes read

  few : length libraries.rows ≤ 66
  few = few_accepted libraries (read_are_accepted files lids libraries read)

  step : (front behind : List ℕ) (k : ℕ) (others : Libraries) → order ≡ front ++ k ∷ behind → AreOf libraries others front
      → (one : ReadLibrary) × IsVerdict files others (get_or lids k []) (accepted one) × AreOf libraries (with_read others one) (front ++ k ∷ [])
  step front behind k others e of =
      next_read files libraries others front are of k (get_or lids k []) (stands files libraries lids built_in 2 two_sizes read k low) within
      (numbers_new front k (order_once order (length lids) is front behind k e)) used room
    where
      low : k < length lids
      low = order_below order (length lids) is k (subst (λ (xs : List ℕ). Contains xs k) (sym e) (Contains-append_right front (k ∷ behind) k (0, omega arith, refl)))

      within : 2 + k < length libraries.compiled.exports
      within = let long = sizes.exports in omega (arith, low, long)

      parts : length (front ++ k ∷ behind) ≡ length front + length (k ∷ behind)
      parts = length-append front (k ∷ behind)

      here : length front < length (front ++ k ∷ behind)
      here = omega (arith, parts)

      used : All (Contains (numbers_of front)) (uses_at libraries (2 + k))
      used =
          subst (λ (places : List ℕ). All (Contains (numbers_of places)) (uses_at libraries (2 + k))) (take_at front (k ∷ behind) (length front) refl)
          (subst (λ (place : ℕ). All (Contains (numbers_of (take (length front) (front ++ k ∷ behind)))) (uses_at libraries (2 + place))) (get_or_at front k behind 0 (length front) refl)
          (subst (IsAdmissible libraries) e admissible (length front) here))

      room : length others.rows < 66
      room =
          let mine = of.sizes.rows in
          let all = sizes.rows in
          let long = order_long order (length lids) is in
          let same = ap length e in
          omega (arith, mine, all, long, same, parts, few)

  read_so : (behind front : List ℕ) (others : Libraries) → order ≡ front ++ behind → AreOf libraries others front
      → (all : Libraries) × AreRead files others (reordered lids behind) (Ok all) × AreOf libraries all order
  read_so [] front others e of = (others, refl, subst (AreOf libraries others) (sym (e ∙ append-nil front)) of)
  read_so (k ∷ behind) front others e of =
      let (one, judged, next) = step front behind k others e of in
      let (all, more, whole) = read_so behind (front ++ k ∷ []) (with_read others one) (e ∙ sym (append_assoc front (k ∷ []) behind)) next in
      (all, inr (one, judged, more), whole)

  alike_so : (others : Libraries) → AreOf libraries others order → AreAlike libraries others
  alike_so others of = (there, back)
    where
      there : HasAlike libraries others
      there name number e =
          let (within, named) = name_found libraries.compiled.exports name number e in
          let long = sizes.exports in
          let (l, same) = of.there number (numbers_all order (length lids) is number (omega (arith, within, long))) in
          (l, numbered_so others.compiled.exports name l of.apart same.0 (same.2 ∙ named), sym (programs_same libraries others order are of l number same))

      back : HasAlike others libraries
      back name number e =
          let (within, named) = name_found others.compiled.exports name number e in
          let (k, same, what, c) = of.each number within in
          (k, numbered_so libraries.compiled.exports name k are.apart same.1 (sym same.2 ∙ named), programs_same libraries others order are of number k same)

  pub all_alike : (others : Libraries) × AreRead files built_in (reordered lids order) (Ok others) × AreAlike libraries others
  all_alike =
      let long = sizes.exports in
      let (all, are_read, of) = read_so order [] built_in refl (both_of libraries are (omega (arith, long))) in
      (all, are_read, alike_so all of)

pub orders_are_alike : OrdersAreAlike
orders_are_alike files lids libraries order read is admissible = all_alike files lids libraries order read is admissible

pub none_is_refused : NoneIsRefused
none_is_refused files lids libraries order result read is admissible also =
    let (others, are_read, same) = all_alike files lids libraries order read is admissible in
    (others, answers_are_one files built_in (reordered lids order) result (Ok others) also are_read, same)
