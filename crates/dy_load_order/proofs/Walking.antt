-- What is left to do while a load order is made.
use Rattle.std.proofs.Common.{◌≡◌, ◌⊎◌, ℕ, zero, suc, ◌+◌, ◌<◌, Bool, true, false, ◌||◌, cond, eqb, List, [], ◌∷◌, ◌++◌, fold, map, reverse, length, get_or, set, replicate, refl, sym, ap, subst, ◌∙◌, inl, inr, length-set, ne_eqb, get_or-set_same, get_or-set_other, arith}
use Rattle.std.proofs.lemmas.Bool.{cases_eq}
use Rattle.std.proofs.lemmas.List.{map-append, length-replicate, get_or-replicate}
use Rattle.std.proofs.lemmas.List.Folds.{list_any-append}
use Rattle.std.proofs.lemmas.Grind.{reverse_onto}
use Rattle.dy_load_order.specs.declared.order.Task.{Task}
use Rattle.dy_load_order.specs.declared.order.Task.TheVariants.{Visit, Place}
use Rattle.dy_load_order.specs.LoadOrder.{AreEarlier, used_by, is_in, visited, visit, load_order}
use Rattle.dy_load_order.proofs.Members.{in_head, in_tail, in_end}
use Rattle.dy_load_order.proofs.Visiting.{used_earlier, visit_is}

-- ---- the order in the end; the last task is the next

abbrev pub did : List (List ℕ) → List ℕ → Task → List ℕ
did uses order (Visit n) = visit uses order n
did uses order (Place n) = order ++ n ∷ []

abbrev pub ended : List (List ℕ) → List Task → List ℕ → List ℕ
ended uses [] order = order
ended uses (task ∷ tasks) order = did uses (ended uses tasks order) task

ended-append : (uses : List (List ℕ)) (xs ys : List Task) (order : List ℕ) → ended uses (xs ++ ys) order ≡ ended uses xs (ended uses ys order)
ended-append uses [] ys order = refl
ended-append uses (x ∷ xs) ys order = ap (λ (before : List ℕ). did uses before x) (ended-append uses xs ys order)

visits_more : (n : ℕ) (ns : List ℕ) → map Visit (reverse (n ∷ ns)) ≡ map Visit (reverse ns) ++ Visit n ∷ []
visits_more n ns = ap (map Visit) (reverse_onto ns n []) ∙ map-append Visit (reverse ns) (n ∷ [])

ended_visits : (uses : List (List ℕ)) (ns order : List ℕ) → ended uses (map Visit (reverse ns)) order ≡ fold (visit uses) order ns
ended_visits uses [] order = refl
ended_visits uses (n ∷ ns) order =
    ap (λ (ts : List Task). ended uses ts order) (visits_more n ns)
    ∙ ended-append uses (map Visit (reverse ns)) (Visit n ∷ []) order
    ∙ ended_visits uses ns (visit uses order n)

-- ---- how much is left: a visit is more than all that it comes to

abbrev pub weights : (ℕ → ℕ) → List ℕ → ℕ
weights f [] = 0
weights f (n ∷ ns) = f n + weights f ns

abbrev pub weight_to : ℕ → List (List ℕ) → ℕ → ℕ
weight_to zero uses n = 0
weight_to (suc depth) uses n = 2 + weights (weight_to depth uses) (used_by uses n)

abbrev pub weight : List (List ℕ) → Task → ℕ
weight uses (Visit n) = weight_to (suc n) uses n
weight uses (Place n) = 1

abbrev pub work : List (List ℕ) → List Task → ℕ
work uses [] = 0
work uses (task ∷ tasks) = weight uses task + work uses tasks

work-append : (uses : List (List ℕ)) (xs ys : List Task) → work uses (xs ++ ys) ≡ work uses xs + work uses ys
work-append uses [] ys = omega arith
work-append uses (x ∷ xs) ys = let rest = work-append uses xs ys in omega arith

work_visits : (uses : List (List ℕ)) (ns : List ℕ) → work uses (map Visit (reverse ns)) ≡ weights (λ n. weight uses (Visit n)) ns
work_visits uses [] = refl
work_visits uses (n ∷ ns) =
    let more = ap (work uses) (visits_more n ns) in
    let parts = work-append uses (map Visit (reverse ns)) (Visit n ∷ []) in
    let rest = work_visits uses ns in
    omega arith

weights_same : (f g : ℕ → ℕ) (ns : List ℕ) → ((n : ℕ) → is_in ns n ≡ true → f n ≡ g n) → weights f ns ≡ weights g ns
weights_same f g [] same = refl
weights_same f g (n ∷ ns) same =
    let first = same n (in_head n ns) in
    let rest = weights_same f g ns (λ m i. same m (in_tail n ns m i)) in
    omega arith

weight_same : (uses : List (List ℕ)) → AreEarlier uses → (a b n : ℕ) → n < a → n < b → weight_to a uses n ≡ weight_to b uses n
weight_same uses earlier zero b n l m = absurd (omega arith)
weight_same uses earlier (suc a) zero n l m = absurd (omega arith)
weight_same uses earlier (suc a) (suc b) n l m =
    ap (λ (w : ℕ). 2 + w) (weights_same (weight_to a uses) (weight_to b uses) (used_by uses n)
    (λ u i. let less : u < n = used_earlier uses earlier n u i in weight_same uses earlier a b u (omega arith) (omega arith)))

weight_is : (uses : List (List ℕ)) → AreEarlier uses → (n : ℕ) → weight uses (Visit n) ≡ 2 + weights (λ u. weight uses (Visit u)) (used_by uses n)
weight_is uses earlier n =
    ap (λ (w : ℕ). 2 + w) (weights_same (weight_to n uses) (λ u. weight uses (Visit u)) (used_by uses n)
    (λ u i. let less : u < n = used_earlier uses earlier n u i in weight_same uses earlier n (suc u) u less (omega arith)))

pub less_put : (uses : List (List ℕ)) (todo : List Task) (n : ℕ) → work uses todo < work uses (todo ++ Place n ∷ [])
less_put uses todo n = let parts = work-append uses todo (Place n ∷ []) in omega arith

pub less_passed : (uses : List (List ℕ)) (todo : List Task) (n : ℕ) → work uses todo < work uses (todo ++ Visit n ∷ [])
less_passed uses todo n = let parts = work-append uses todo (Visit n ∷ []) in omega arith

pub less_planned : (uses : List (List ℕ)) → AreEarlier uses → (todo : List Task) (n : ℕ) → work uses (todo ++ Place n ∷ map Visit (reverse (used_by uses n))) < work uses (todo ++ Visit n ∷ [])
less_planned uses earlier todo n =
    let before = work-append uses todo (Visit n ∷ []) in
    let after = work-append uses todo (Place n ∷ map Visit (reverse (used_by uses n))) in
    let visits = work_visits uses (used_by uses n) in
    let whole = weight_is uses earlier n in
    omega arith

-- ---- each task is of a library that is there

abbrev pub library_of : Task → ℕ
library_of (Visit n) = n
library_of (Place n) = n

abbrev pub AreWithin : ℕ → List Task → Type 0
AreWithin count [] = Unit {0}
AreWithin count (task ∷ tasks) = (library_of task < count) × AreWithin count tasks

within_append : (count : ℕ) (xs ys : List Task) → AreWithin count xs → AreWithin count ys → AreWithin count (xs ++ ys)
within_append count [] ys w v = v
within_append count (x ∷ xs) ys (l, w) v = (l, within_append count xs ys w v)

within_front : (count : ℕ) (xs ys : List Task) → AreWithin count (xs ++ ys) → AreWithin count xs
within_front count [] ys w = tt
within_front count (x ∷ xs) ys (l, w) = (l, within_front count xs ys w)

pub within_last : (count : ℕ) (xs : List Task) (task : Task) → AreWithin count (xs ++ task ∷ []) → library_of task < count
within_last count [] task (l, w) = l
within_last count (x ∷ xs) task (l, w) = within_last count xs task w

within_visits : (count : ℕ) (ns : List ℕ) → ((n : ℕ) → is_in ns n ≡ true → n < count) → AreWithin count (map Visit (reverse ns))
within_visits count [] less = tt
within_visits count (n ∷ ns) less =
    subst (AreWithin count) (sym (visits_more n ns))
    (within_append count (map Visit (reverse ns)) (Visit n ∷ []) (within_visits count ns (λ m i. less m (in_tail n ns m i))) (less n (in_head n ns), tt))

-- ---- the whole, turn by turn

pub record IsUnderWay (uses : List (List ℕ)) (main : ℕ) (placed : List Bool) (order : List ℕ) (todo : List Task) : Type 0 where
  pub long : length placed ≡ length uses
  pub marks : (n : ℕ) → n < length uses → get_or placed n false ≡ is_in order n
  pub within : AreWithin (length uses) todo
  pub rest : ended uses todo order ≡ load_order uses main

pub begun : (uses : List (List ℕ)) (main count : ℕ) → count ≡ length uses → main < length uses → IsUnderWay uses main (replicate count false) [] (Visit main ∷ [])
begun uses main count e l = record {
  long = length-replicate count false ∙ e;
  marks = λ n m. get_or-replicate count n false false (omega arith);
  within = (l, tt);
  rest = refl;
}

pub passed : (uses : List (List ℕ)) (main : ℕ) (placed : List Bool) (order : List ℕ) (todo : List Task) (n : ℕ) → IsUnderWay uses main placed order (todo ++ Visit n ∷ [])
    → get_or placed n false ≡ true → IsUnderWay uses main placed order todo
passed uses main placed order todo n way there = record {
  long = way.long;
  marks = way.marks;
  within = within_front (length uses) todo (Visit n ∷ []) way.within;
  rest =
      let is : is_in order n ≡ true = sym (way.marks n (within_last (length uses) todo (Visit n) way.within)) ∙ there in
      let stays : visit uses order n ≡ order = ap (λ (t : Bool). cond t order (fold (visited n uses) order (used_by uses n) ++ n ∷ [])) is in
      ap (ended uses todo) (sym stays) ∙ sym (ended-append uses todo (Visit n ∷ []) order) ∙ way.rest;
}

pub planned : (uses : List (List ℕ)) (main : ℕ) (placed : List Bool) (order : List ℕ) (todo : List Task) (n : ℕ) → AreEarlier uses → IsUnderWay uses main placed order (todo ++ Visit n ∷ [])
    → get_or placed n false ≡ false → IsUnderWay uses main placed order (todo ++ Place n ∷ map Visit (reverse (used_by uses n)))
planned uses main placed order todo n earlier way new = record {
  long = way.long;
  marks = way.marks;
  within =
      let l : n < length uses = within_last (length uses) todo (Visit n) way.within in
      within_append (length uses) todo (Place n ∷ map Visit (reverse (used_by uses n))) (within_front (length uses) todo (Visit n ∷ []) way.within)
      (l, within_visits (length uses) (used_by uses n) (λ u i. let m : u < n = used_earlier uses earlier n u i in omega arith));
  rest =
      let is : is_in order n ≡ false = sym (way.marks n (within_last (length uses) todo (Visit n) way.within)) ∙ new in
      let here : visit uses order n ≡ fold (visit uses) order (used_by uses n) ++ n ∷ [] =
      visit_is uses earlier order n ∙ ap (λ (t : Bool). cond t order (fold (visit uses) order (used_by uses n) ++ n ∷ [])) is in
      ended-append uses todo (Place n ∷ map Visit (reverse (used_by uses n))) order
      ∙ ap (λ (before : List ℕ). ended uses todo (before ++ n ∷ [])) (ended_visits uses (used_by uses n) order)
      ∙ ap (ended uses todo) (sym here) ∙ sym (ended-append uses todo (Visit n ∷ []) order) ∙ way.rest;
}

or_none : (a b : Bool) → b ≡ false → (a || (b || false)) ≡ a
or_none true b e = refl
or_none false b e = rw e refl

pub put : (uses : List (List ℕ)) (main : ℕ) (placed : List Bool) (order : List ℕ) (todo : List Task) (n : ℕ) → IsUnderWay uses main placed order (todo ++ Place n ∷ [])
    → IsUnderWay uses main (set placed n true) (order ++ n ∷ []) todo
put uses main placed order todo n way = record {
  long = length-set placed n true ∙ way.long;
  marks = λ m l. marked m l (cases_eq m n);
  within = within_front (length uses) todo (Place n ∷ []) way.within;
  rest = sym (ended-append uses todo (Place n ∷ []) order) ∙ way.rest;
}
  where
    inside : n < length placed
    inside = let l : n < length uses = within_last (length uses) todo (Place n) way.within in let e = way.long in omega arith

    marked : (m : ℕ) → m < length uses → (m ≡ n) ⊎ (m ≡ n → ⊥) → get_or (set placed n true) m false ≡ is_in (order ++ n ∷ []) m
    marked m l (inl e) =
        ap (λ (k : ℕ). get_or (set placed n true) k false) e ∙ get_or-set_same placed n true false inside
        ∙ sym (ap (is_in (order ++ n ∷ [])) e ∙ in_end order n)
    marked m l (inr other) =
        get_or-set_other placed n m true false other ∙ way.marks m l
        ∙ sym (list_any-append (eqb m) order (n ∷ []) ∙ or_none (is_in order m) (eqb m n) (ne_eqb m n other))

pub all_done : (uses : List (List ℕ)) (main : ℕ) (placed : List Bool) (order : List ℕ) (todo : List Task) → length todo ≡ 0 → IsUnderWay uses main placed order todo → order ≡ load_order uses main
all_done uses main placed order [] none way = way.rest
all_done uses main placed order (task ∷ tasks) none way = absurd (omega arith)
