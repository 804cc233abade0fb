-- What a cell says where owners come together.
use Rattle.std.proofs.Common.{◌≡◌, ◌⊎◌, inl, inr, ℕ, zero, suc, Bool, true, false, true≢false, cond, ◌&&◌, nat_eq, List, [], ◌∷◌, Option, Some, None, slice_get, refl, sym, ap, subst, ◌∙◌, rules, eqb→eq, eq-eqb}
use Rattle.std.specs.Str.{bytes_eq}
use Rattle.dy_base.specs.Tables.{NamedList}
use Rattle.dy_base.specs.declared.ids.BindingId.{BindingId}
use Rattle.dy_base.specs.declared.ids.Ref.{Ref}
use Rattle.dy_base.specs.declared.ids.What.{What}
use Rattle.dy_base.specs.declared.ids.What.TheVariants.{Class, Generic, Variable, Constant, Function, Macro}
use Rattle.dy_modules.specs.declared.owner.Owner.{Owner}
use Rattle.dy_modules.specs.declared.owner.Owner.TheVariants.{Outside, Own}
use Rattle.dy_modules.specs.declared.table.Cell.{Cell}
use Rattle.dy_modules.specs.declared.table.Cell.TheVariants.{One, Many}
use Rattle.dy_modules.specs.declared.clause.UseClause.{UseClause}
use Rattle.dy_modules.specs.Clauses.{Name, IsIn, what_number, is_same_binding, is_same_owner}
use Rattle.dy_modules.specs.Cells.{Says, both, plus, picked, is_name, after_all, after_rows, after_source, after_uses, comes, cell_of}
use Rattle.dy_modules.proofs.Rows.{same_names, itself}

pub both_true : (a b : Bool) → (a && b) ≡ true → (a ≡ true) × (b ≡ true)
both_true true b e = (refl, e)
both_true false b e = absurd (true≢false (sym e))

pub and_true : (a b : Bool) → a ≡ true → b ≡ true → (a && b) ≡ true
and_true a b e f = ap (λ x. x && b) e ∙ f

pub is_eq : (j k : ℕ) → nat_eq j k ≡ true → j ≡ k
is_eq j k e = search (rules, eqb→eq)

pub eq_is : (j k : ℕ) → j ≡ k → nat_eq j k ≡ true
eq_is j k e = search (rules, eq-eqb)

abbrev what_of : ℕ → What
what_of zero = Class
what_of (suc zero) = Generic
what_of (suc (suc zero)) = Variable
what_of (suc (suc (suc zero))) = Constant
what_of (suc (suc (suc (suc zero)))) = Function
what_of (suc (suc (suc (suc (suc n))))) = Macro

numbered : (w : What) → what_of (what_number w) ≡ w
numbered Class = refl
numbered Generic = refl
numbered Variable = refl
numbered Constant = refl
numbered Function = refl
numbered Macro = refl

same_binding : (a b : BindingId) → is_same_binding a b ≡ true → a ≡ b
same_binding a b e =
    let p = both_true (nat_eq (what_number a.what) (what_number b.what)) (nat_eq a.at.library b.at.library && nat_eq a.at.row b.at.row) e in
    let q = both_true (nat_eq a.at.library b.at.library) (nat_eq a.at.row b.at.row) p.1 in
    let w : a.what ≡ b.what = sym (numbered a.what) ∙ ap what_of (is_eq (what_number a.what) (what_number b.what) p.0) ∙ numbered b.what in
    let l : a.at.library ≡ b.at.library = is_eq a.at.library b.at.library q.0 in
    let r : a.at.row ≡ b.at.row = is_eq a.at.row b.at.row q.1 in
    λ i. record { what = w i; at = record { library = l i; row = r i } }

binding_same : (a : BindingId) → is_same_binding a a ≡ true
binding_same a = and_true (nat_eq (what_number a.what) (what_number a.what)) (nat_eq a.at.library a.at.library && nat_eq a.at.row a.at.row)
    (eq_is (what_number a.what) (what_number a.what) refl)
    (and_true (nat_eq a.at.library a.at.library) (nat_eq a.at.row a.at.row) (eq_is a.at.library a.at.library refl) (eq_is a.at.row a.at.row refl))

-- the test of owners
pub same_owner : (j k : Owner) → is_same_owner j k ≡ true → j ≡ k
same_owner (Outside a) (Outside b) e = ap Outside (same_binding a b e)
same_owner (Outside a) (Own k n) e = absurd (true≢false (sym e))
same_owner (Own m a) (Outside b) e = absurd (true≢false (sym e))
same_owner (Own m a) (Own k b) e = let p = both_true (nat_eq m k) (bytes_eq a b) e in λ i. Own (is_eq m k p.0 i) (same_names a b p.1 i)

owner_itself : (k : Owner) → is_same_owner k k ≡ true
owner_itself (Outside a) = binding_same a
owner_itself (Own m a) = and_true (nat_eq m m) (bytes_eq a a) (eq_is m m refl) (itself a)

pub owner_same : (j k : Owner) → j ≡ k → is_same_owner j k ≡ true
owner_same j k e = ap (is_same_owner j) (sym e) ∙ owner_itself j

-- the owners may be said in another way
pub says_of : (P Q : Owner → Type 0) (c : Option Cell) → ((k : Owner) → P k → Q k) → ((k : Owner) → Q k → P k) → Says c P → Says c Q
says_of P Q None to from s = λ k q. s k (from k q)
says_of P Q (Some (One k)) to from s = (to k s.0, λ j q. s.1 j (from j q))
says_of P Q (Some Many) to from s = (s.0, s.1, to s.0 s.2, to s.1 s.3, s.4)

both_ones : (P Q : Owner → Type 0) (j k : Owner) (b : Bool) → is_same_owner j k ≡ b → Says (Some (One j)) P → Says (Some (One k)) Q → Says (Some (cond b (One j) Many)) (λ k. P k ⊎ Q k)
both_ones P Q j k true e p q = (inl p.0, λ i h. elim h [ inl a ↦ p.1 i a | inr a ↦ q.1 i a ∙ sym (same_owner j k e) ])
both_ones P Q j k false e p q = (j, k, inl p.0, inr q.0, λ same. true≢false (sym (owner_same j k same) ∙ e))

pub says_both : (P Q : Owner → Type 0) (c d : Cell) → Says (Some c) P → Says (Some d) Q → Says (Some (both c d)) (λ k. P k ⊎ Q k)
says_both P Q (One j) (One k) p q = both_ones P Q j k (is_same_owner j k) refl p q
says_both P Q (One j) Many p q = (q.0, q.1, inr q.2, inr q.3, q.4)
says_both P Q Many d p q = (p.0, p.1, inl p.2, inl p.3, p.4)

pub says_plus : (P Q : Owner → Type 0) (c : Option Cell) (d : Cell) → Says c P → Says (Some d) Q → Says (plus c d) (λ k. P k ⊎ Q k)
says_plus P Q None d p q = says_of Q _ (Some d) (λ k h. inr h) (λ k h. elim h [ inl a ↦ absurd (p k a) | inr a ↦ a ]) q
says_plus P Q (Some c) d p q = says_both P Q c d p q

-- a cell that comes where a test says so
says_put : (P Q : Owner → Type 0) (b : Bool) (c : Option Cell) (d : Cell) → Says c P → (b ≡ true → Says (Some d) Q) → Says (cond b (plus c d) c) (λ k. P k ⊎ ((b ≡ true) × Q k))
says_put P Q true c d p q = says_of (λ k. P k ⊎ Q k) _ (plus c d)
    (λ k h. elim h [ inl a ↦ inl a | inr a ↦ inr (refl, a) ])
    (λ k h. elim h [ inl a ↦ inl a | inr a ↦ inr a.1 ]) (says_plus P Q c d p (q refl))
says_put P Q false c d p q = says_of P _ c (λ k h. inl h) (λ k h. elim h [ inl a ↦ a | inr a ↦ absurd (true≢false (sym a.0)) ]) p

-- what one of these gives
abbrev pub AnyGives : {X : Type 0} → (X → Bool) → (X → Owner → Type 0) → List X → Owner → Type 0
AnyGives {X} test E xs k = (x : X) × IsIn x xs × (test x ≡ true) × E x k

pub says_all : {X : Type 0} (test : X → Bool) (cell : X → Cell) (E : X → Owner → Type 0) (xs : List X) (P : Owner → Type 0) (c : Option Cell) → Says c P
    → ((x : X) → IsIn x xs → test x ≡ true → Says (Some (cell x)) (E x)) → Says (after_all test cell xs c) (λ k. P k ⊎ AnyGives test E xs k)
says_all test cell E [] P c p each = says_of P _ c (λ k h. inl h) (λ k h. elim h [ inl a ↦ a | inr a ↦ absurd a.1 ]) p
says_all test cell E (x ∷ xs) P c p each =
    let step = says_put P (E x) (test x) c (cell x) p (each x (inl refl)) in
    says_of (λ k. (P k ⊎ ((test x ≡ true) × E x k)) ⊎ AnyGives test E xs k) _ (after_all test cell (x ∷ xs) c) to from
    (says_all test cell E xs (λ k. P k ⊎ ((test x ≡ true) × E x k)) (cond (test x) (plus c (cell x)) c) step (λ y at. each y (inr at)))
  where
    to : (k : Owner) → (P k ⊎ ((test x ≡ true) × E x k)) ⊎ AnyGives test E xs k → P k ⊎ AnyGives test E (x ∷ xs) k
    to k (inl (inl a)) = inl a
    to k (inl (inr a)) = inr (x, inl refl, a.0, a.1)
    to k (inr a) = inr (a.0, inr a.1, a.2, a.3)

    from_any : (k : Owner) (y : _) → IsIn y (x ∷ xs) → test y ≡ true → E y k → (P k ⊎ ((test x ≡ true) × E x k)) ⊎ AnyGives test E xs k
    from_any k y (inl e) t h = inl (inr (subst (λ z. (test z ≡ true) × E z k) e (t, h)))
    from_any k y (inr at) t h = inr (y, at, t, h)

    from : (k : Owner) → P k ⊎ AnyGives test E (x ∷ xs) k → (P k ⊎ ((test x ≡ true) × E x k)) ⊎ AnyGives test E xs k
    from k (inl a) = inl (inl a)
    from k (inr a) = from_any k a.0 a.1 a.2 a.3

-- rows that say the owners E of each name
pub record Stand (rs : NamedList Cell) (E : Name → Owner → Type 0) : Type 0 where
  pub each : (r : Name × Cell) → IsIn r rs → Says (Some r.1) (E r.0)
  pub all : (a : Name) (k : Owner) → E a k → (d : Cell) × IsIn (a, d) rs

is_named : (o : Option Name) (n : Name) → is_name o n ≡ true → o ≡ Some n
is_named None n e = absurd (true≢false (sym e))
is_named (Some m) n e = ap Some (sym (same_names n m e))

names_it : (o : Option Name) (n : Name) → o ≡ Some n → is_name o n ≡ true
names_it o n e = ap (λ p. is_name p n) e ∙ itself n

-- what comes by a clause from owners E
abbrev pub Comes : Bool → UseClause → (Name → Owner → Type 0) → Name → Owner → Type 0
Comes again_only u E n k = (a : Name) × (picked again_only u a ≡ Some n) × E a k

pub says_rows : (again_only : Bool) (u : UseClause) (E : Name → Owner → Type 0) (rs : NamedList Cell) (n : Name) (P : Owner → Type 0) (c : Option Cell) → Stand rs E → Says c P
    → Says (after_rows again_only u rs n c) (λ k. P k ⊎ Comes again_only u E n k)
says_rows again_only u E rs n P c stand p =
    says_of (λ k. P k ⊎ AnyGives (comes again_only u n) (λ (r : Name × Cell). E r.0) rs k) _ (after_rows again_only u rs n c)
    (λ k h. elim h [ inl a ↦ inl a | inr a ↦ inr (a.0.0, is_named (picked again_only u a.0.0) n a.2, a.3) ])
    (λ k h. elim h [ inl a ↦ inl a | inr a ↦ (let r = stand.all a.0 k a.2 in inr ((a.0, r.0), r.1, names_it (picked again_only u a.0) n a.1, a.2)) ])
    (says_all (comes again_only u n) cell_of (λ (r : Name × Cell). E r.0) rs P c p (λ r at t. stand.each r at))

-- what comes by one of these clauses, where module s exports E s
abbrev pub AnyComes : Bool → (ℕ → Name → Owner → Type 0) → List UseClause → Name → Owner → Type 0
AnyComes again_only E us n k = (u : UseClause) × IsIn u us × Comes again_only u (E u.source) n k

pub says_uses : (again_only : Bool) (E : ℕ → Name → Owner → Type 0) (ts : List (NamedList Cell)) (us : List UseClause) (n : Name) (P : Owner → Type 0) (c : Option Cell)
    → ((u : UseClause) → IsIn u us → (rs : NamedList Cell) × (slice_get ts u.source ≡ Some rs) × Stand rs (E u.source)) → Says c P
    → Says (after_uses again_only us ts n c) (λ k. P k ⊎ AnyComes again_only E us n k)
says_uses again_only E ts [] n P c known p = says_of P _ c (λ k h. inl h) (λ k h. elim h [ inl a ↦ a | inr a ↦ absurd a.1 ]) p
says_uses again_only E ts (u ∷ us) n P c known p =
    let s = known u (inl refl) in
    let step = subst (λ o. Says (after_source again_only u o n c) (λ k. P k ⊎ Comes again_only u (E u.source) n k)) (sym s.1) (says_rows again_only u (E u.source) s.0 n P c s.2 p) in
    says_of (λ k. (P k ⊎ Comes again_only u (E u.source) n k) ⊎ AnyComes again_only E us n k) _ (after_uses again_only (u ∷ us) ts n c) to from
    (says_uses again_only E ts us n (λ k. P k ⊎ Comes again_only u (E u.source) n k) (after_source again_only u (slice_get ts u.source) n c) (λ v at. known v (inr at)) step)
  where
    to : (k : Owner) → (P k ⊎ Comes again_only u (E u.source) n k) ⊎ AnyComes again_only E us n k → P k ⊎ AnyComes again_only E (u ∷ us) n k
    to k (inl (inl a)) = inl a
    to k (inl (inr a)) = inr (u, inl refl, a)
    to k (inr a) = inr (a.0, inr a.1, a.2)

    from_any : (k : Owner) (v : UseClause) → IsIn v (u ∷ us) → Comes again_only v (E v.source) n k → (P k ⊎ Comes again_only u (E u.source) n k) ⊎ AnyComes again_only E us n k
    from_any k v (inl e) h = inl (inr (subst (λ w. Comes again_only w (E w.source) n k) e h))
    from_any k v (inr at) h = inr (v, at, h)

    from : (k : Owner) → P k ⊎ AnyComes again_only E (u ∷ us) n k → (P k ⊎ Comes again_only u (E u.source) n k) ⊎ AnyComes again_only E us n k
    from k (inl a) = inl (inl a)
    from k (inr a) = from_any k a.0 a.1 a.2
