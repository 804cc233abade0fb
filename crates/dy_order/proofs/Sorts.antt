-- Laws of what is sorted by a relation on methods.
use Rattle.std.proofs.Common.{◌≡◌, ℕ, zero, suc, ◌<◌, List, [], ◌∷◌, ◌++◌, ◌⊎◌, ◌↔◌, length, get_or, inl, inr, refl, sym, ap, subst, ◌∙◌, arith, append_assoc}
use Rattle.std.specs.List.{remove}
use Rattle.dy_base.specs.declared.ids.MethodId.{MethodId}
use Rattle.dy_classes.specs.Lists.{In, first, next, Sub, done, keep, skip, Once}
use Rattle.dy_order.specs.Sorting.{IsFirst, without, SortedInto, remains, takes}
use Rattle.dy_order.proofs.Ids.{method_tells, method_itself, same_or}
use Rattle.dy_order.proofs.Lists.{sub_self, sub_in, sub_trans, sub_once, in_get, place_in, once_apart}

without_sub : (m : MethodId) (ms : List MethodId) → Sub (without m ms) ms
without_sub m [] = done
without_sub m (n ∷ ms) = elim (method_tells n m) [ inl e ↦ rw e.0 (skip (without_sub m ms)) | inr e ↦ rw e.0 (keep (without_sub m ms)) ]

not_without : (m : MethodId) (ms : List MethodId) → In m (without m ms) → ⊥
not_without m [] i = elim i [ ]
not_without m (n ∷ ms) i = elim (method_tells n m) [ inl e ↦ not_without m ms (rw e.0 at i) | inr e ↦ head m n (without m ms) e.1 (not_without m ms) (rw e.0 at i) ]
  where
    head : (m n : MethodId) (k : List MethodId) → (n ≡ m → ⊥) → (In m k → ⊥) → In m (n ∷ k) → ⊥
    head m n k differs out first = differs refl
    head m n k differs out (next j) = out j

in_without : (m n : MethodId) (ms : List MethodId) → In n ms → (n ≡ m → ⊥) → In n (without m ms)
in_without m n [] i differs = elim i [ ]
in_without m n (k ∷ ms) first differs = elim (method_tells k m) [ inl e ↦ absurd (differs e.1) | inr e ↦ rw e.0 first ]
in_without m n (k ∷ ms) (next i) differs = elim (method_tells k m) [ inl e ↦ rw e.0 (in_without m n ms i differs) | inr e ↦ rw e.0 (next (in_without m n ms i differs)) ]

without_none : (m : MethodId) (ms : List MethodId) → (In m ms → ⊥) → without m ms ≡ ms
without_none m [] out = refl
without_none m (n ∷ ms) out =
    elim (method_tells n m) [
      | inl e ↦ absurd (out (subst (λ (v : MethodId). In v (n ∷ ms)) e.1 first))
      | inr e ↦ rw e.0 (ap (λ (k : List MethodId). n ∷ k) (without_none m ms (λ i. out (next i))))
    ]

-- where each stands once, to take out the one at a place is to leave it out
without_at : (ms : List MethodId) (i : ℕ) (d : MethodId) → Once ms → i < length ms → remove ms i ≡ without (get_or ms i d) ms
without_at [] i d o h = absurd (omega arith)
without_at (m ∷ ms) zero d o h = rw (method_itself m) (sym (without_none m ms o.0))
without_at (m ∷ ms) (suc i) d o h =
    let below = without_at ms i d o.1 (omega arith) in
    elim (method_tells m (get_or ms i d)) [
      | inl e ↦ absurd (o.0 (subst (λ (v : MethodId). In v ms) (sym e.1) (in_get ms i d (omega arith))))
      | inr e ↦ rw e.0 (ap (λ (k : List MethodId). m ∷ k) below)
    ]

pub less_or : (i k : ℕ) → (k ≡ i → ⊥) → (i < k) ⊎ (k < i)
less_or zero zero differs = absurd (differs refl)
less_or zero (suc k) differs = inl (omega arith)
less_or (suc i) zero differs = inr (omega arith)
less_or (suc i) (suc k) differs = elim (less_or i k (λ e. differs (ap suc e))) [ inl h ↦ inl (omega arith) | inr h ↦ inr (omega arith) ]

places_apart : (ms : List MethodId) (i k : ℕ) (d : MethodId) → Once ms → i < length ms → k < length ms → (k ≡ i → ⊥) → get_or ms k d ≡ get_or ms i d → ⊥
places_apart ms i k d o h l differs e = go (less_or i k differs)
  where
    go : (i < k) ⊎ (k < i) → ⊥
    go (inl less) = once_apart ms i k d o less l (sym e)
    go (inr less) = once_apart ms k i d o less h e

module _ (P : MethodId → MethodId → Type 0) where
  pub rest_sub : {ms taken rest : List MethodId} → SortedInto P ms taken rest → Sub rest ms
  rest_sub {ms} (remains h) = sub_self ms
  rest_sub {ms} (takes {m = m} f s) = sub_trans (rest_sub s) (without_sub m ms)

  pub all_there : {ms taken rest : List MethodId} → SortedInto P ms taken rest → (x : MethodId) → In x ms → In x (taken ++ rest)
  all_there (remains h) x i = i
  all_there {ms} (takes {m = m} {taken = taken} {rest = rest} f s) x i =
      elim (same_or x m) [
        | inl e ↦ subst (λ (v : MethodId). In x (v ∷ taken ++ rest)) e first
        | inr differs ↦ next (all_there s x (in_without m x ms i differs))
      ]

  pub none_else : {ms taken rest : List MethodId} → SortedInto P ms taken rest → (x : MethodId) → In x (taken ++ rest) → In x ms
  none_else (remains h) x i = i
  none_else (takes f s) x first = f.within
  none_else {ms} (takes {m = m} f s) x (next i) = sub_in (without_sub m ms) (none_else s x i)

  pub each_once : {ms taken rest : List MethodId} → Once ms → SortedInto P ms taken rest → Once (taken ++ rest)
  each_once o (remains h) = o
  each_once {ms} o (takes {m = m} f s) =
      (λ i. not_without m ms (none_else s m i), each_once (sub_once (without_sub m ms) o) s)

  pub none_left : {ms taken rest : List MethodId} → SortedInto P ms taken rest → (m : MethodId) → IsFirst P rest m → ⊥
  none_left (remains h) m f = h m f
  none_left (takes g s) m f = none_left s m f

  first_moves : (ms ns : List MethodId) (m : MethodId) → ((x : MethodId) → In x ms ↔ In x ns) → IsFirst P ms m → IsFirst P ns m
  first_moves ms ns m same f = record { within = (same m).0 f.within; before = λ n i differs. f.before n ((same n).1 i) differs }

  still : (m : MethodId) (ms ns : List MethodId) → ((x : MethodId) → In x ms → In x ns) → (x : MethodId) → In x (without m ms) → In x (without m ns)
  still m ms ns there x i =
      in_without m x ns (there x (sub_in (without_sub m ms) i)) (λ e. not_without m ms (subst (λ (v : MethodId). In v (without m ms)) e i))

  flip : {A B : Type 0} → A ↔ B → B ↔ A
  flip h = (h.1, h.0)

  module _ (asymmetric : (a b : MethodId) → P a b → P b a → ⊥) where
    pub one_first : (ms : List MethodId) (a b : MethodId) → IsFirst P ms a → IsFirst P ms b → a ≡ b
    one_first ms a b f g =
        elim (same_or a b) [ inl e ↦ e | inr differs ↦ absurd (asymmetric a b (f.before b g.within (λ e. differs (sym e))) (g.before a f.within differs)) ]

    pub one_taken : {ms taken rest ns other left : List MethodId} → ((x : MethodId) → In x ms ↔ In x ns) → SortedInto P ms taken rest → SortedInto P ns other left → taken ≡ other
    one_taken same (remains h) (remains g) = refl
    one_taken {ms} {ns = ns} same (remains h) (takes {m = m} g t) = absurd (h m (first_moves ns ms m (λ x. flip (same x)) g))
    one_taken {ms} {ns = ns} same (takes {m = m} f s) (remains h) = absurd (h m (first_moves ms ns m same f))
    one_taken {ms} {ns = ns} same (takes {m = m} {taken = taken} {rest = rest} f s) (takes {m = k} {taken = other} {rest = left} g t) =
        let e : k ≡ m = one_first ms k m (first_moves ns ms k (λ x. flip (same x)) g) f in
        let t2 = subst (λ (v : MethodId). SortedInto P (without v ns) other left) e t in
        let tails : taken ≡ other = one_taken (λ x. (still m ms ns (λ y. (same y).0) x, still m ns ms (λ y. (same y).1) x)) s t2 in
        cc

    pub one_rest : {ms taken rest other left : List MethodId} → SortedInto P ms taken rest → SortedInto P ms other left → rest ≡ left
    one_rest (remains h) (remains g) = refl
    one_rest (remains h) (takes {m = m} g t) = absurd (h m g)
    one_rest (takes {m = m} f s) (remains h) = absurd (h m f)
    one_rest {ms} (takes {m = m} f s) (takes {m = k} {taken = other} {rest = left} g t) =
        one_rest s (subst (λ (v : MethodId). SortedInto P (without v ms) other left) (one_first ms k m g f) t)

  -- the one at a place is first where it precedes those at all other places
  pub first_at : (ms : List MethodId) (i : ℕ) (d : MethodId) → i < length ms → ((k : ℕ) → k < length ms → (k ≡ i → ⊥) → P (get_or ms i d) (get_or ms k d)) → IsFirst P ms (get_or ms i d)
  first_at ms i d h all =
      record {
        within = in_get ms i d h;
        before = λ n j differs. (let (k, l, e) = place_in ms n d j in
            subst (λ (v : MethodId). P (get_or ms i d) v) e (all k l (λ q. differs (sym e ∙ ap (λ (v : ℕ). get_or ms v d) q))));
      }

  -- the first one precedes those at all other places
  pub first_over : (ms : List MethodId) (i k : ℕ) (d : MethodId) → Once ms → i < length ms → k < length ms → (k ≡ i → ⊥) → IsFirst P ms (get_or ms i d) → P (get_or ms i d) (get_or ms k d)
  first_over ms i k d o h l differs f = f.before (get_or ms k d) (in_get ms k d l) (places_apart ms i k d o h l differs)

  -- one turn of the loop that sorts
  module _ (rest : List MethodId) (once : Once rest) (i : ℕ) (h : i < length rest) (d : MethodId) (more : List MethodId) (removed : more ≡ remove rest i) where
    shorter : more ≡ without (get_or rest i d) rest
    shorter = removed ∙ without_at rest i d once h

    pub turn_once : Once more
    turn_once = subst (λ (v : List MethodId). Once v) (sym shorter) (sub_once (without_sub (get_or rest i d) rest) once)

    pub turn_same : (all so_far grown taken left : List MethodId) → IsFirst P rest (get_or rest i d) → grown ≡ so_far ++ get_or rest i d ∷ []
        → ((taken left : List MethodId) → SortedInto P rest taken left → SortedInto P all (so_far ++ taken) left)
        → SortedInto P more taken left → SortedInto P all (grown ++ taken) left
    turn_same all so_far grown taken left f pushed same s =
        let one = takes f (subst (λ (v : List MethodId). SortedInto P v taken left) shorter s) in
        subst (λ (v : List MethodId). SortedInto P all v left) (sym (append_assoc so_far (get_or rest i d ∷ []) taken) ∙ ap (λ (v : List MethodId). v ++ taken) (sym pushed)) (same (get_or rest i d ∷ taken) left one)

  pub turn : (all rest lent more so_far grown : List MethodId) (i : ℕ) (x : MethodId) → lent ≡ rest → Once rest → (i < length lent) × ((d : MethodId) → IsFirst P lent (get_or lent i d)) → more ≡ remove rest i
      → x ≡ get_or rest i x → grown ≡ so_far ++ x ∷ [] → ((taken left : List MethodId) → SortedInto P rest taken left → SortedInto P all (so_far ++ taken) left)
      → Once more × ((taken left : List MethodId) → SortedInto P more taken left → SortedInto P all (grown ++ taken) left)
  turn all rest lent more so_far grown i x lend once best removed at pushed same =
      let k : i < length rest = subst (λ (v : List MethodId). i < length v) lend best.0 in
      let g : IsFirst P rest (get_or rest i x) = subst (λ (v : List MethodId). IsFirst P v (get_or v i x)) lend (best.1 x) in
      let e : grown ≡ so_far ++ get_or rest i x ∷ [] = pushed ∙ ap (λ (v : MethodId). so_far ++ v ∷ []) at in
      (turn_once rest once i k x more removed, λ taken left s. turn_same rest once i k x more removed all so_far grown taken left g e same s)
