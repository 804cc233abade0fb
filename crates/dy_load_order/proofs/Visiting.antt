-- Visits to any depth that is deep enough are the same.
use Rattle.std.proofs.Common.{◌≡◌, ◌⊎◌, ℕ, zero, suc, ◌<◌, ◌≤◌, true, cond, List, [], ◌∷◌, ◌++◌, fold, length, get_or, refl, sym, ap, ◌∙◌, inl, inr, arith}
use Rattle.std.proofs.lemmas.Bool.{cases_lt}
use Rattle.std.proofs.lemmas.List.{get_or_past}
use Rattle.dy_load_order.specs.LoadOrder.{AreEarlier, used_by, is_in, visited, visit}
use Rattle.dy_load_order.specs.Laws.{VisitsAreSo, VisitsAreOne}
use Rattle.dy_load_order.proofs.Members.{in_head, in_tail, in_cases, in_all}

pub used_earlier : (uses : List (List ℕ)) → AreEarlier uses → (n u : ℕ) → is_in (used_by uses n) u ≡ true → u < n
used_earlier uses earlier zero u i = absurd cc
used_earlier uses earlier (suc n) u i = go (in_cases 0 (get_or uses (suc n) []) u i)
  where
    named : is_in (get_or uses (suc n) []) u ≡ true → (suc n < length uses) ⊎ (length uses ≤ suc n) → u < suc n
    named j (inl within) = in_all (λ used. used < suc n) (get_or uses (suc n) []) u (earlier (suc n) within) j
    named j (inr past) =
        let none : is_in [] u ≡ true = sym (ap (λ ns. is_in ns u) (get_or_past uses (suc n) [] past)) ∙ j in
        absurd cc

    go : (u ≡ 0) ⊎ (is_in (get_or uses (suc n) []) u ≡ true) → u < suc n
    go (inl e) = omega arith
    go (inr j) = named j (cases_lt (suc n) (length uses))

pub fold_same : (f g : List ℕ → ℕ → List ℕ) (ns order : List ℕ) → ((n : ℕ) → is_in ns n ≡ true → (before : List ℕ) → f before n ≡ g before n) → fold f order ns ≡ fold g order ns
fold_same f g [] order same = refl
fold_same f g (n ∷ ns) order same =
    ap (λ (before : List ℕ). fold f before ns) (same n (in_head n ns) order)
    ∙ fold_same f g ns (g order n) (λ m i. same m (in_tail n ns m i))

-- a visit where what is used is visited in this way
abbrev pub visit_by : (List ℕ → ℕ → List ℕ) → List (List ℕ) → List ℕ → ℕ → List ℕ
visit_by f uses order n = cond (is_in order n) order (fold f order (used_by uses n) ++ n ∷ [])

pub visit_same : (f g : List ℕ → ℕ → List ℕ) (uses : List (List ℕ)) (order : List ℕ) (n : ℕ) → ((u : ℕ) → is_in (used_by uses n) u ≡ true → (before : List ℕ) → f before u ≡ g before u)
    → visit_by f uses order n ≡ visit_by g uses order n
visit_same f g uses order n same = ap (λ (before : List ℕ). cond (is_in order n) order (before ++ n ∷ [])) (fold_same f g (used_by uses n) order same)

pub depth_same : (uses : List (List ℕ)) → AreEarlier uses → (a b n : ℕ) → n < a → n < b → (order : List ℕ) → visited a uses order n ≡ visited b uses order n
depth_same uses earlier zero b n l m order = absurd (omega arith)
depth_same uses earlier (suc a) zero n l m order = absurd (omega arith)
depth_same uses earlier (suc a) (suc b) n l m order =
    visit_same (visited a uses) (visited b uses) uses order n
    (λ u i. let less : u < n = used_earlier uses earlier n u i in depth_same uses earlier a b u (omega arith) (omega arith))

pub visit_is : (uses : List (List ℕ)) → AreEarlier uses → (order : List ℕ) (n : ℕ) → visit uses order n ≡ visit_by (visit uses) uses order n
visit_is uses earlier order n =
    visit_same (visited n uses) (visit uses) uses order n
    (λ u i. let less : u < n = used_earlier uses earlier n u i in depth_same uses earlier n (suc u) u less (omega arith))

pub visits_are_so : VisitsAreSo
visits_are_so uses earlier order n within = visit_is uses earlier order n

pub visits_are_one : VisitsAreOne
visits_are_one uses other earlier is order n within = below (suc n) n (omega arith) within order
  where
    below : (bound m : ℕ) → m < bound → m < length uses → (before : List ℕ) → other before m ≡ visit uses before m
    below zero m l in_uses before = absurd (omega arith)
    below (suc bound) m l in_uses before =
        is before m in_uses
        ∙ visit_same other (visit uses) uses before m
        (λ u i. let less : u < m = used_earlier uses earlier m u i in below bound u (omega arith) (omega arith))
        ∙ sym (visit_is uses earlier before m)
