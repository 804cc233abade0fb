-- The classes above a class, found one by one.
use Rattle.std.proofs.Common.{◌≡◌, ℕ, zero, suc, ◌+◌, ◌-◌, ◌<◌, ◌≤◌, Bool, true, false, true≢false, not, nat_eq, cond, List, [], ◌∷◌, ◌++◌, ◌⊎◌, inl, inr, length, get_or, take, drop, slice_get, None, refl, sym, ap, subst, ◌∙◌, arith, Vec}
use Rattle.std.specs.declared.alloc.Global.{Global}
use Rattle.std.specs.Option.{option_map_or}
use Rattle.std.proofs.lemmas.List.{append-nil, append_assoc, take_more, take-append-le, take_all, length_push, length-append}
use Rattle.dy_base.specs.declared.ids.ClassId.{ClassId}
use Rattle.dy_base.specs.Orders.{is_class}
use Rattle.dy_term.specs.declared.rows.ClassRow.{ClassRow}
use Rattle.dy_term.specs.declared.rows.LibraryRow.{LibraryRow}
use Rattle.dy_term.specs.declared.rows.Program.{Program}
use Rattle.dy_classes.specs.Lists.{In, first, next}
use Rattle.dy_classes.specs.Orders.{Above, itself, higher, IsCyclic}
use Rattle.dy_classes.specs.Rows.{supers_at}
use Rattle.dy_classes.specs.Merge.{mem, added}
use Rattle.dy_classes.specs.Counters.{one_if, count_at, AreMarked}
use Rattle.dy_classes.proofs.Classes.{class_tells}
use Rattle.dy_classes.proofs.Decisions.{tells, mem_in, not_mem, in_mem}
use Rattle.dy_classes.proofs.Runs.{left, left_falls}
use Rattle.dy_classes.proofs.Steps.{mark_none, mark_some, added_here, added_there}

in_left : {A : Type 0} (xs ys : List A) (x : A) → In x xs → In x (xs ++ ys)
in_left (y ∷ xs) ys x first = first
in_left (y ∷ xs) ys x (next i) = next (in_left xs ys x i)
in_left [] ys x i = elim i [ ]

in_right : {A : Type 0} (xs ys : List A) (x : A) → In x ys → In x (xs ++ ys)
in_right [] ys x i = i
in_right (y ∷ xs) ys x i = next (in_right xs ys x i)

in_either : {A : Type 0} (xs ys : List A) (x : A) → In x (xs ++ ys) → In x xs ⊎ In x ys
in_either [] ys x i = inr i
in_either (y ∷ xs) ys x first = inl first
in_either (y ∷ xs) ys x (next i) = elim (in_either xs ys x i) [ inl j ↦ inl (next j) | inr j ↦ inr j ]

-- all direct superclasses of all classes
abbrev pub supers_in : List ClassRow → List ClassId
supers_in [] = []
supers_in (row ∷ rows) = row.supers ++ supers_in rows

abbrev pub all_supers : List LibraryRow → List ClassId
all_supers [] = []
all_supers (library ∷ libraries) = supers_in library.classes ++ all_supers libraries

in_supers : (rows : List ClassRow) (k : ℕ) (x : ClassId) → In x (option_map_or (λ row. row.supers) (slice_get rows k) []) → In x (supers_in rows)
in_supers [] k x i = elim i [ ]
in_supers (row ∷ rows) zero x i = in_left row.supers (supers_in rows) x i
in_supers (row ∷ rows) (suc k) x i = in_right row.supers (supers_in rows) x (in_supers rows k x i)

in_libraries : (libraries : List LibraryRow) (l k : ℕ) (x : ClassId)
    → In x (option_map_or (λ row. row.supers) (option_map_or (λ library. slice_get library.classes k) (slice_get libraries l) None) []) → In x (all_supers libraries)
in_libraries [] l k x i = elim i [ ]
in_libraries (library ∷ libraries) zero k x i = in_left (supers_in library.classes) (all_supers libraries) x (in_supers library.classes k x i)
in_libraries (library ∷ libraries) (suc l) k x i = in_right (supers_in library.classes) (all_supers libraries) x (in_libraries libraries l k x i)

pub in_all : (program : Program) (z x : ClassId) → In x (supers_at program z) → In x (all_supers program.libraries)
in_all program z x i = in_libraries program.libraries z.0.library z.0.row x i

-- what `added` has
pub added_more : (found xs : List ClassId) → (more : List ClassId) × (added found xs ≡ found ++ more)
added_more found [] = ([], sym (append-nil found))
added_more found (x ∷ xs) =
    elim (tells (mem x found)) [
      | inl e ↦ rw e (added_more found xs)
      | inr e ↦ rw e (let (more, same) = added_more (found ++ x ∷ []) xs in (x ∷ more, same ∙ append_assoc found (x ∷ []) more))
    ]

pub added_old : (found xs : List ClassId) (y : ClassId) → In y found → In y (added found xs)
added_old found xs y i =
    let (more, same) = added_more found xs in subst (λ (v : List ClassId). In y v) (sym same) (in_left found more y i)

pub added_new : (found xs : List ClassId) (y : ClassId) → In y xs → In y (added found xs)
added_new found [] y i = elim i [ ]
added_new found (x ∷ xs) y first =
    elim (tells (mem x found)) [
      | inl e ↦ rw e (added_old found xs x (mem_in x found e))
      | inr e ↦ rw e (added_old (found ++ x ∷ []) xs x (in_right found (x ∷ []) x first))
    ]
added_new found (x ∷ xs) y (next i) =
    elim (tells (mem x found)) [ inl e ↦ rw e (added_new found xs y i) | inr e ↦ rw e (added_new (found ++ x ∷ []) xs y i) ]

last_in : (found : List ClassId) (x y : ClassId) (xs : List ClassId) → In y (found ++ x ∷ []) ⊎ In y xs → In y found ⊎ In y (x ∷ xs)
last_in found x y xs (inr i) = inr (next i)
last_in found x y xs (inl i) = elim (in_either found (x ∷ []) y i) [ inl j ↦ inl j | inr j ↦ inr (head_in x y xs j) ]
  where
    head_in : (x y : ClassId) (xs : List ClassId) → In y (x ∷ []) → In y (x ∷ xs)
    head_in x y xs first = first
    head_in x y xs (next j) = elim j [ ]

pub added_only : (found xs : List ClassId) (y : ClassId) → In y (added found xs) → In y found ⊎ In y xs
added_only found [] y i = inl i
added_only found (x ∷ xs) y i =
    elim (tells (mem x found)) [
      | inl e ↦ elim (added_only found xs y (rw e at i)) [ inl j ↦ inl j | inr j ↦ inr (next j) ]
      | inr e ↦ last_in found x y xs (added_only (found ++ x ∷ []) xs y (rw e at i))
    ]

mem_push : (y x : ClassId) (found : List ClassId) → mem y (found ++ x ∷ []) ≡ mem y (x ∷ found)
mem_push y x [] = refl
mem_push y x (z ∷ found) =
    rw (mem_push y x found)
    (elim (class_tells y z) [
      | inl e ↦ rw e.0 (elim (tells (is_class y x)) [ inl f ↦ rw f refl | inr f ↦ rw f refl ])
      | inr e ↦ rw e.0 refl
    ])

left_push : (x : ClassId) (found all : List ClassId) → left (found ++ x ∷ []) all ≡ left (x ∷ found) all
left_push x found [] = refl
left_push x found (y ∷ all) = rw (mem_push y x found, left_push x found all) refl

-- each class that is added is taken off those that are left
pub added_left : (all found xs : List ClassId) → ((y : ClassId) → In y xs → In y all) → left (added found xs) all + length (added found xs) ≤ left found all + length found
added_left all found [] within = omega arith
added_left all found (x ∷ xs) within =
    elim (tells (mem x found)) [
      | inl e ↦ rw e (added_left all found xs (λ y i. within y (next i)))
      | inr e ↦ rw e
          (let below = added_left all (found ++ x ∷ []) xs (λ y i. within y (next i)) in
          let falls = left_falls found x all (not_mem x found e) (within x first) in
          let same = left_push x found all in
          let longer = length_push found x in
          omega arith)
    ]

-- a walk over what is above c: the first `place` classes have been looked at
pub record Walked (program : Program) (c : ClassId) (place : ℕ) (found : List ClassId) : Type 0 where
  pub starts : (y : ClassId) → In y (supers_at program c) → In y found
  pub reached : (y : ClassId) → In y found → (s : ClassId) × In s (supers_at program c) × Above (supers_at program) s y
  pub closed : (z y : ClassId) → In z (take place found) → In y (supers_at program z) → In y found

above_more : (program : Program) (s z y : ClassId) → Above (supers_at program) s z → In y (supers_at program z) → Above (supers_at program) s y
above_more program s z y itself i = higher i itself
above_more program s z y (higher {s = t} j a) i = higher j (above_more program t z y a i)

pub walk_starts : (program : Program) (c : ClassId) (found xs : List ClassId) → xs ≡ supers_at program c → found ≡ added [] xs → Walked program c 0 found
walk_starts program c found xs e same = record {
  starts = λ y i. subst (λ (v : List ClassId). In y v) (sym same) (added_new [] xs y (subst (λ (v : List ClassId). In y v) (sym e) i));
  reached = λ y i. elim (added_only [] xs y (subst (λ (v : List ClassId). In y v) same i)) [
    | inl j ↦ elim j [ ]
    | inr j ↦ (y, subst (λ (v : List ClassId). In y v) e j, itself)
  ];
  closed = λ z y i j. elim i [ ];
}

in_at : (found : List ClassId) (place : ℕ) (x : ClassId) → place < length found → x ≡ get_or found place x → In x found
in_at [] place x lt at = absurd (omega arith)
in_at (y ∷ found) zero x lt at = subst (λ (v : ClassId). In v (y ∷ found)) (sym at) first
in_at (y ∷ found) (suc place) x lt at = next (in_at found place x (omega arith) at)

just_one : (z v : ClassId) → In z (v ∷ []) → z ≡ v
just_one z v first = refl
just_one z v (next j) = elim j [ ]

module _ (program : Program) (c : ClassId) (place : ℕ) (found more xs : List ClassId) (x : ClassId) (w : Walked program c place found)
    (lt : place < length found) (at : x ≡ get_or found place x) (e : xs ≡ supers_at program x) (same : more ≡ added found xs) where
  x_in : In x found
  x_in = in_at found place x lt at

  into : (y : ClassId) → In y found → In y more
  into y i = subst (λ (v : List ClassId). In y v) (sym same) (added_old found xs y i)

  front_is : take (place + 1) more ≡ take place found ++ get_or found place x ∷ []
  front_is =
      let (rest, whole) = added_more found xs in
      ap (take (place + 1)) (same ∙ whole) ∙ take-append-le (place + 1) found rest (omega arith) ∙ take_more found place x lt

  front : (z : ClassId) → In z (take (place + 1) more) → In z (take place found) ⊎ (z ≡ x)
  front z i =
      elim (in_either (take place found) (get_or found place x ∷ []) z (subst (λ (v : List ClassId). In z v) front_is i)) [
        | inl j ↦ inl j
        | inr j ↦ inr (just_one z (get_or found place x) j ∙ sym at)
      ]

  reached_more : (y : ClassId) → In y found ⊎ In y xs → (s : ClassId) × In s (supers_at program c) × Above (supers_at program) s y
  reached_more y (inl j) = w.reached y j
  reached_more y (inr j) =
      let (s, k, a) = w.reached x x_in in (s, k, above_more program s x y a (subst (λ (v : List ClassId). In y v) e j))

  closed_more : (z y : ClassId) → In z (take place found) ⊎ (z ≡ x) → In y (supers_at program z) → In y more
  closed_more z y (inl k) j = into y (w.closed z y k j)
  closed_more z y (inr k) j =
      subst (λ (v : List ClassId). In y v) (sym same) (added_new found xs y (subst (λ (v : List ClassId). In y v) (ap (supers_at program) k ∙ sym e) j))

  pub walk_more : Walked program c (place + 1) more
  walk_more = record {
    starts = λ y i. into y (w.starts y i);
    reached = λ y i. reached_more y (added_only found xs y (subst (λ (v : List ClassId). In y v) same i));
    closed = λ z y i j. closed_more z y (front z i) j;
  }

-- at the end all of it has been found
module _ (program : Program) (c : ClassId) (place : ℕ) (found : List ClassId) (w : Walked program c place found) (end : length found ≤ place) where
  all_found : (z y : ClassId) → In z found → Above (supers_at program) z y → In y found
  all_found z y i itself = i
  all_found z y i (higher {s = s} j a) =
      all_found s y (w.closed z s (subst (λ (v : List ClassId). In z v) (sym (take_all place found end)) i) j) a

  pub walk_ends : (In c found → IsCyclic (supers_at program) c) × (IsCyclic (supers_at program) c → In c found)
  walk_ends = (λ i. w.reached c i, λ p. all_found p.0 c (w.starts p.0 p.1) p.2)

added_length : (found xs : List ClassId) → length found ≤ length (added found xs)
added_length found xs =
    let (more, same) = added_more found xs in
    let a = ap length same in let b = length-append found more in omega arith

-- a turn of the walk
module _ (all old new xs : List ClassId) (place : ℕ) (lt : place < length old) (same : new ≡ added old xs) where
  pub walk_longer : place + 1 ≤ length new
  walk_longer = let a = ap length same in let b = added_length old xs in omega arith

  pub walk_falls : ((y : ClassId) → In y xs → In y all) → (left new all + length new) - (place + 1) < (left old all + length old) - place
  walk_falls within =
      let a = added_left all old xs within in
      let b : left new all + length new ≡ left (added old xs) all + length (added old xs) = ap (λ (v : List ClassId). left v all + length v) same in
      omega arith

-- one class more
module _ (start found pushed xs : List ClassId) (i : ℕ) (d : ClassId) (before after : List (Vec ℕ Global)) (h : i < length xs)
    (same : added start xs ≡ added found (drop i xs)) (marked : AreMarked found before) where
  pub add_here : count_at before (get_or xs i d) ≡ 0 → pushed ≡ found ++ get_or xs i d ∷ [] → ((y : ClassId) → count_at after y ≡ one_if (is_class y (get_or xs i d)) + count_at before y)
      → (added start xs ≡ added pushed (drop (i + 1) xs)) × AreMarked pushed after
  add_here none push more =
      let fresh : mem (get_or xs i d) found ≡ false = mark_none (mem (get_or xs i d) found) (sym (marked.mark (get_or xs i d)) ∙ none) in (
        same ∙ added_here found xs i d h fresh ∙ ap (λ (v : List ClassId). added v (drop (i + 1) xs)) (sym push),
        record { mark = λ y. more y ∙ marked_more y fresh ∙ ap (λ (v : List ClassId). one_if (mem y v)) (sym push) },
      )
    where
      zero_first : (n : ℕ) → 0 + n ≡ n
      zero_first n = omega arith

      marked_more : (y : ClassId) → mem (get_or xs i d) found ≡ false → one_if (is_class y (get_or xs i d)) + count_at before y ≡ one_if (mem y (found ++ get_or xs i d ∷ []))
      marked_more y fresh =
          rw (marked.mark y, mem_push y (get_or xs i d) found)
          (elim (class_tells y (get_or xs i d)) [
            | inl e ↦ (let f : mem y found ≡ false = ap (λ (v : ClassId). mem v found) e.1 ∙ fresh in rw (e.0, f) refl)
            | inr e ↦ rw e.0 (zero_first (one_if (mem y found)))
          ])

  pub add_there : (count_at before (get_or xs i d) ≡ 0 → ⊥) → added start xs ≡ added found (drop (i + 1) xs)
  add_there some =
      same ∙ added_there found xs i d h (mark_some (mem (get_or xs i d) found) (λ e. some (marked.mark (get_or xs i d) ∙ e)))

-- the mark of c tells at the end
module _ (program : Program) (c : ClassId) (place : ℕ) (found : List ClassId) (counts : List (Vec ℕ Global)) (n : ℕ)
    (w : Walked program c place found) (end : length found ≤ place) (marked : AreMarked found counts) (is : n ≡ count_at counts c) where
  told_by : (b : Bool) → mem c found ≡ b → n ≡ one_if b → (not (nat_eq n 0) ≡ true → IsCyclic (supers_at program) c) × (IsCyclic (supers_at program) c → not (nat_eq n 0) ≡ true)
  told_by true m e = (λ t. (walk_ends program c place found w end).0 (mem_in c found m), λ p. rw e refl)
  told_by false m e =
      (λ t. (let f : not (nat_eq n 0) ≡ false = rw e refl in absurd (true≢false (sym t ∙ f))), λ p. absurd (not_mem c found m ((walk_ends program c place found w end).1 p)))

  pub mark_tells : (not (nat_eq n 0) ≡ true → IsCyclic (supers_at program) c) × (IsCyclic (supers_at program) c → not (nat_eq n 0) ≡ true)
  mark_tells = told_by (mem c found) refl (is ∙ marked.mark c)
