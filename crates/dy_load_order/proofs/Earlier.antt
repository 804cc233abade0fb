-- One more library, which uses only those that are there.
use Rattle.std.proofs.Common.{◌≡◌, ◌⊎◌, ℕ, zero, suc, ◌+◌, ◌<◌, ◌≤◌, true, cond, List, [], ◌∷◌, ◌++◌, fold, length, get_or, All, Contains, refl, sym, ap, subst, ◌∙◌, inl, inr, arith}
use Rattle.std.proofs.lemmas.Bool.{cases_lt}
use Rattle.std.proofs.lemmas.List.{get_or_append_left, get_or_at, length_push}
use Rattle.std.proofs.lemmas.List.Elements.{All-weaker}
use Rattle.dy_load_order.specs.LoadOrder.{AreEarlier, used_by, is_in, visited, load_order}
use Rattle.dy_load_order.specs.Laws.{OrdersStay, Reaches, by_use}
use Rattle.dy_load_order.proofs.Members.{in_tail, in_all, in_contains, contains_in}
use Rattle.dy_load_order.proofs.Visiting.{used_earlier, visit_same}
use Rattle.dy_load_order.proofs.Lawful.{reached_are_loaded}

pub none_earlier : AreEarlier []
none_earlier user within = absurd (omega arith)

abbrev Fit : ℕ → List ℕ → Type 0
Fit user names = All (λ used. used < user) names

pub earlier_push : (uses : List (List ℕ)) (named : List ℕ) → AreEarlier uses → All (λ used. used < length uses) named → AreEarlier (uses ++ named ∷ [])
earlier_push uses named earlier all user within = go (cases_lt user (length uses))
  where
    long : length (uses ++ named ∷ []) ≡ length uses + 1
    long = length_push uses named

    go : (user < length uses) ⊎ (length uses ≤ user) → Fit user (get_or (uses ++ named ∷ []) user [])
    go (inl l) = subst (Fit user) (sym (get_or_append_left uses (named ∷ []) [] user l)) (earlier user l)
    go (inr l) =
        let end : length uses ≡ user = omega (arith, long) in
        subst (Fit user) (sym (get_or_at uses named [] [] user end)) (All-weaker (λ used. used < length uses) (λ used. used < user) (λ used m. omega arith) named all)

-- ---- visits of those that were there stay the same

used_stays : (uses : List (List ℕ)) (named : List ℕ) (n : ℕ) → n < length uses → used_by (uses ++ named ∷ []) n ≡ used_by uses n
used_stays uses named zero l = refl
used_stays uses named (suc n) l = ap (λ (ns : List ℕ). 0 ∷ ns) (get_or_append_left uses (named ∷ []) [] (suc n) l)

visits_stay : (uses : List (List ℕ)) (named : List ℕ) → AreEarlier uses → (k n : ℕ) → n < length uses → (order : List ℕ) → visited k (uses ++ named ∷ []) order n ≡ visited k uses order n
visits_stay uses named earlier zero n l order = refl
visits_stay uses named earlier (suc k) n l order =
    ap (λ (ns : List ℕ). cond (is_in order n) order (fold (visited k (uses ++ named ∷ [])) order ns ++ n ∷ [])) (used_stays uses named n l)
    ∙ visit_same (visited k (uses ++ named ∷ [])) (visited k uses) uses order n
    (λ u i. let less : u < n = used_earlier uses earlier n u i in visits_stay uses named earlier k u (omega arith))

pub orders_stay : OrdersStay
orders_stay uses named n earlier l = visits_stay uses named earlier (suc n) n l []

-- ---- what the next library uses is loaded with it

module _ (uses : List (List ℕ)) (named : List ℕ) (earlier : AreEarlier uses) (all : All (λ used. used < length uses) named) where
  used_by_next : (u : ℕ) → is_in named u ≡ true → Contains (used_by (uses ++ named ∷ []) (length uses)) u
  used_by_next u i = go (length uses) refl
    where
      go : (m : ℕ) → length uses ≡ m → Contains (used_by (uses ++ named ∷ []) m) u
      go zero e = let l : u < length uses = in_all (λ used. used < length uses) named u all i in absurd (omega arith)
      go (suc m) e = in_contains (0 ∷ get_or (uses ++ named ∷ []) (suc m) []) u (in_tail 0 (get_or (uses ++ named ∷ []) (suc m) []) u (subst (λ (ns : List ℕ). is_in ns u ≡ true) (sym (get_or_at uses named [] [] (suc m) e)) i))

  pub part_of_next : (u x : ℕ) → Contains named u → Contains (load_order uses u) x → Contains (load_order (uses ++ named ∷ []) (length uses)) x
  part_of_next u x c there =
      let within = in_all (λ used. used < length uses) named u all (contains_in named u c) in
      let all_earlier = earlier_push uses named earlier all in
      let stays = orders_stay uses named u earlier within in
      let reached : Reaches (uses ++ named ∷ []) u x = (reached_are_loaded (uses ++ named ∷ []) u x all_earlier).0 (subst (λ (xs : List ℕ). Contains xs x) (sym stays) there) in
      (reached_are_loaded (uses ++ named ∷ []) (length uses) x all_earlier).1 (by_use (length uses) u x (used_by_next u (contains_in named u c)) reached)
