-- Names to which use clauses bring two owners.
use Rattle.std.proofs.Common.{◌≡◌, ◌≢◌, ◌⊎◌, inl, inr, ℕ, zero, suc, ◌+◌, ◌<◌, ◌≤◌, true, false, true≢false, not, List, [], ◌∷◌, ◌++◌, length, take, Option, Some, None, is_some, slice_get, option_map, Ordering, Less, Equal, Greater, refl, sym, ap, subst, ◌∙◌, arith}
use Rattle.std.specs.Prelude.{T}
use Rattle.std.specs.Ordering.{is_lt, ordering_reverse}
use Rattle.std.specs.Cmp.Lexicographic.{nat_list_cmp_total}
use Rattle.std.proofs.lemmas.Option.{slice_get-map, slice_get_cases}
use Rattle.dy_base.specs.Tables.{NamedList, by_bytes}
use Rattle.dy_base.specs.declared.kind.Kind.TheVariants.{NameClash}
use Rattle.dy_base.specs.declared.fault.Place.{Place}
use Rattle.dy_module_forms.specs.declared.written.Clause.{Clause}
use Rattle.dy_module_forms.specs.declared.written.Clause.TheVariants as clauses
use Rattle.dy_module_forms.specs.declared.written.Placed.{Placed}
use Rattle.dy_module_forms.specs.declared.written.Form.{Form}
use Rattle.dy_modules.specs.declared.owner.Owner.{Owner}
use Rattle.dy_modules.specs.declared.table.Cell.{Cell}
use Rattle.dy_modules.specs.declared.table.Cell.TheVariants.{One, Many}
use Rattle.dy_modules.specs.declared.clause.UseClause.{UseClause}
use Rattle.dy_modules.specs.declared.clause.ModuleForm.{ModuleForm}
use Rattle.dy_modules.specs.declared.rounds.ModuleTables.{ModuleTables}
use Rattle.dy_modules.specs.Clauses.{Name, IsIn, brought}
use Rattle.dy_modules.specs.Sees.{imports, exports, Owned, brought_owner, IsGrounded}
use Rattle.dy_modules.specs.Cells.{Says, at, after_uses}
use Rattle.dy_modules.specs.Builds.{is_clear, is_clear_row}
use Rattle.dy_modules.specs.Order.{exported_rows, all_rows, is_made, is_ready, IsRight}
use Rattle.dy_modules.specs.Clash.{Brings, OneOwner, Clashes}
use Rattle.dy_modules.proofs.Says.{AnyComes, Stand, says_of, says_uses, and_true}
use Rattle.dy_modules.proofs.Rows.{some_is, none_is, take_end}
use Rattle.dy_modules.proofs.Step.{kept_plain}
use Rattle.dy_modules.proofs.Loop.{stand_of, made_has, ready_has}
use Rattle.dy_modules.proofs.Clear.{clear_at}
use Rattle.dy_module_numbers.specs.Modules.{with_use, uses}
use Rattle.dy_library_form.specs.declared.found.Found.{Found}
use Rattle.dy_library_form.specs.Told.{found, name_of_two}
use Rattle.dy_graph.specs.Faults.{HasTwo, IsClash, place_if_use, use_places, IsClashFault, IsOwnClash, AreMade, IsSingle, LeastTwo, IsClashOf, told_clash, Adds}
use Rattle.dy_graph.proofs.Added.{adds_as, adds_none, adds_one, not_nothing}
use Rattle.dy_graph.proofs.Rising.{IsLeastAt}
use Rattle.dy_library_form.proofs.Firsts.{in_order}

-- a row of one owner
pub clear_row : (row : Option (Name × Cell)) → is_clear_row row ≡ not (is_some (name_of_two row))
clear_row None = refl
clear_row (Some row) = by_cell row.0 row.1
  where
    by_cell : (n : Name) (c : Cell) → is_clear_row (Some (n, c)) ≡ not (is_some (name_of_two (Some (n, c))))
    by_cell n (One k) = refl
    by_cell n Many = refl

-- a form has as many places of use clauses as its module has use clauses
pub as_many : (own : List Name) (imported : NamedList ℕ) (nothing : ℕ) (list : List Placed) → length (use_places list) ≡ length (uses own imported nothing list)
as_many own imported nothing [] = refl
as_many own imported nothing (first ∷ rest) = by_clause first.place first.clause (as_many own imported nothing rest)
  where
    by_clause : (place : Place) (c : Clause) → length (use_places rest) ≡ length (uses own imported nothing rest)
        → length (place_if_use place c (use_places rest)) ≡ length (with_use own imported nothing c (uses own imported nothing rest))
    by_clause place (clauses.Use name options) e = ap suc e
    by_clause place (clauses.Export list) e = e
    by_clause place (clauses.Create list) e = e

in_take : {X : Type 0} (xs : List X) (i : ℕ) (x : X) → IsIn x (take i xs) → IsIn x xs
in_take [] zero x is = is
in_take [] (suc i) x is = is
in_take (y ∷ xs) zero x is = absurd is
in_take (y ∷ xs) (suc i) x (inl e) = inl e
in_take (y ∷ xs) (suc i) x (inr is) = inr (in_take xs i x is)

take_more : {X : Type 0} (xs : List X) (i j : ℕ) (x : X) → i ≤ j → IsIn x (take i xs) → IsIn x (take j xs)
take_more [] zero zero x h is = is
take_more [] zero (suc j) x h is = is
take_more [] (suc i) zero x h is = is
take_more [] (suc i) (suc j) x h is = is
take_more (y ∷ xs) zero j x h is = absurd is
take_more (y ∷ xs) (suc i) zero x h is = absurd (omega (arith, h))
take_more (y ∷ xs) (suc i) (suc j) x h (inl e) = inl e
take_more (y ∷ xs) (suc i) (suc j) x h (inr is) = inr (take_more xs i j x (omega (arith, h)) is)

brings_more : (ms : List ModuleForm) (us vs : List UseClause) (n : Name) (k : Owner) → ((u : UseClause) → IsIn u us → IsIn u vs) → Brings ms us n k → Brings ms vs n k
brings_more ms us vs n k more b = (b.0, b.1, more b.0 b.2, b.3, b.4)

one_only : (P : Owner → Type 0) (c : Option Cell) → Says c P → c ≢ Some Many → (j k : Owner) → P j → P k → j ≡ k
one_only P None s only j k p q = absurd (s j p)
one_only P (Some (One i)) s only j k p q = s.1 j p ∙ sym (s.1 k q)
one_only P (Some Many) s only j k p q = absurd (only refl)

two_only : (P : Owner → Type 0) (c : Option Cell) → Says c P → (j k : Owner) → P j → P k → j ≢ k → c ≡ Some Many
two_only P None s j k p q ne = absurd (s j p)
two_only P (Some (One i)) s j k p q ne = absurd (ne (s.1 j p ∙ sym (s.1 k q)))
two_only P (Some Many) s j k p q ne = refl

-- the first clause with two owners is one, and so is the first name
first_one : (ms : List ModuleForm) (us : List UseClause) (i j : ℕ) (n m : Name) → IsClash ms us i n → IsClash ms us j m → i < j → ⊥
first_one ms us i j n m a b h =
    let w = a.here in
    let more : (u : UseClause) → IsIn u (take (i + 1) us) → IsIn u (take j us) = λ u is. take_more us (i + 1) j u (omega (arith, h)) is in
    w.4 (b.before n w.0 w.1 (brings_more ms (take (i + 1) us) (take j us) n w.0 more w.2) (brings_more ms (take (i + 1) us) (take j us) n w.1 more w.3))

module _ (ms : List ModuleForm) (done : List (Option ModuleTables)) (made : AreMade ms done) where
  source_of : (u : UseClause) → is_made (slice_get done u.source) ≡ true → (rs : NamedList Cell) × (slice_get (all_rows done) u.source ≡ Some rs) × Stand rs (Owned ms exports u.source)
  source_of u e =
      let w = made_has (slice_get done u.source) e in
      let r = made.right.each u.source w.0 w.1 in
      (w.0.exports, slice_get-map exported_rows done u.source ∙ ap (option_map exported_rows) w.1, stand_of w.0.exports (Owned ms exports u.source) r.distinct r.exported)

  says_brings : (us : List UseClause) → is_ready done us ≡ true → (n : Name) → Says (after_uses false us (all_rows done) n None) (Brings ms us n)
  says_brings us ready n = says_of (λ k. ⊥ ⊎ AnyComes false (Owned ms exports) us n k) (Brings ms us n) (after_uses false us (all_rows done) n None)
      (λ k h. elim h [ inl a ↦ absurd a | inr a ↦ (a.0, a.2.0, a.1, sym (kept_plain a.0 (brought a.0 a.2.0)) ∙ a.2.1, a.2.2) ])
      (λ k b. inr (b.0, b.2, (b.1, kept_plain b.0 (brought b.0 b.1) ∙ b.3, b.4)))
      (says_uses false (Owned ms exports) (all_rows done) us n (λ k. ⊥) None (λ u h. source_of u (ready_has done us ready u h)) (λ k h. h))

  two_many : (us : List UseClause) → is_ready done us ≡ true → (n : Name) → HasTwo ms us n → after_uses false us (all_rows done) n None ≡ Some Many
  two_many us ready n w = two_only (Brings ms us n) (after_uses false us (all_rows done) n None) (says_brings us ready n) w.0 w.1 w.2 w.3 w.4

  many_two : (us : List UseClause) → is_ready done us ≡ true → (n : Name) → after_uses false us (all_rows done) n None ≡ Some Many → HasTwo ms us n
  many_two us ready n e =
      let s : Says (Some Many) (Brings ms us n) = subst (λ c. Says c (Brings ms us n)) e (says_brings us ready n) in
      (s.0, s.1, s.2, s.3, s.4)

  ready_take : (us : List UseClause) (i : ℕ) → is_ready done us ≡ true → is_ready done (take i us) ≡ true
  ready_take us i ready = each (take i us) (λ u is. ready_has done us ready u (in_take us i u is))
    where
      each : (vs : List UseClause) → ((u : UseClause) → IsIn u vs → is_made (slice_get done u.source) ≡ true) → is_ready done vs ≡ true
      each [] all = refl
      each (v ∷ vs) all = and_true (is_made (slice_get done v.source)) (is_ready done vs) (all v (inl refl)) (each vs (λ u is. all u (inr is)))

  pub ready_all : (us : List UseClause) → ((u : UseClause) → IsIn u us → is_made (slice_get done u.source) ≡ true) → is_ready done us ≡ true
  ready_all [] all = refl
  ready_all (v ∷ vs) all = and_true (is_made (slice_get done v.source)) (is_ready done vs) (all v (inl refl)) (ready_all vs (λ u is. all u (inr is)))

  module _ (us : List UseClause) (ready : is_ready done us ≡ true) (i : ℕ) (clashes : Clashes ms us (Some i)) where
    -- the clause is there
    pub clash_past : length us ≤ i → ⊥
    clash_past h =
        let w = clashes.0 in
        let to : take (i + 1) us ≡ take i us = take_end us (i + 1) (omega (arith, h)) ∙ sym (take_end us i h) in
        w.5 (clashes.1 w.0 w.1 w.2 (subst (λ l. Brings ms l w.0 w.1) to w.3) (subst (λ l. Brings ms l w.0 w.2) to w.4))

    -- some name has two owners by it
    pub clash_some : LeastTwo (all_rows done) (take (i + 1) us) None → ⊥
    clash_some none = let w = clashes.0 in none w.0 (two_many (take (i + 1) us) (ready_take us (i + 1) ready) w.0 (w.1, w.2, w.3, w.4, w.5))

    pub clash_is : i < length us → (n : Name) → LeastTwo (all_rows done) (take (i + 1) us) (Some n) → IsClash ms us i n
    clash_is within n least = record {
      within = within;
      before = clashes.1;
      here = many_two (take (i + 1) us) (ready_take us (i + 1) ready) n least.0;
      first = λ m two. least.1 m (two_many (take (i + 1) us) (ready_take us (i + 1) ready) m two);
    }

no_clash : (ms : List ModuleForm) (us : List UseClause) (places : List Place) → OneOwner ms us → (f : Found) → IsClashFault ms us places f → ⊥
no_clash ms us places one f w =
    let i = w.0 in
    let h = w.3.here in
    let more : (u : UseClause) → IsIn u (take (i + 1) us) → IsIn u us = λ u is. in_take us (i + 1) u is in
    h.4 (one w.2 h.0 h.1 (brings_more ms (take (i + 1) us) us w.2 h.0 more h.2) (brings_more ms (take (i + 1) us) us w.2 h.1 more h.3))

pub none_clashes : (ms : List ModuleForm) (us : List UseClause) (places : List Place) → OneOwner ms us → (f : Found) → IsClashFault ms us places f → ⊥
none_clashes = no_clash

-- a place for each use clause
pub place_there : (us : List UseClause) (places : List Place) (i : ℕ) → length places ≡ length us → i < length us → slice_get places i ≡ None → ⊥
place_there us places i count within none = elim (slice_get_cases places i).1 [ inl a ↦ none_is a.0 (sym none ∙ a.2) | inr a ↦ omega (arith, count, within, a.0) ]

not_both : (o : Ordering) → T (is_lt o) → T (is_lt (ordering_reverse o)) → ⊥
not_both Less p q = q
not_both Equal p q = p
not_both Greater p q = p

less_apart : (n m : Name) → T (is_lt (by_bytes n m)) → T (is_lt (by_bytes m n)) → ⊥
less_apart n m p q = not_both (by_bytes m n) q (subst (λ o. T (is_lt o)) (nat_list_cmp_total.antisymm n m) p)

module _ (ms : List ModuleForm) (us : List UseClause) where
  same_clause : (i j : ℕ) (n m : Name) → IsClash ms us i n → IsClash ms us j m → j ≡ i
  same_clause i j n m a b = elim (in_order i j) [
    | inl h ↦ absurd (first_one ms us i j n m a b h)
    | inr (inl e) ↦ sym e
    | inr (inr h) ↦ absurd (first_one ms us j i m n b a h)
  ]

  same_name : (i : ℕ) (n m : Name) → IsClash ms us i n → IsClash ms us i m → m ≡ n
  same_name i n m a b = elim (a.first m b.here) [
    | inl e ↦ e
    | inr less ↦ elim (b.first n a.here) [ inl e ↦ sym e | inr more ↦ absurd (less_apart n m less more) ]
  ]

  -- one fault alone is told of a clash
  pub one_clash : (places : List Place) (i : ℕ) (n : Name) (place : Place) → IsClash ms us i n → slice_get places i ≡ Some place → (f : Found) → IsClashFault ms us places f → f ≡ found NameClash place n
  one_clash places i n place clash at f w =
      let e = same_clause i w.0 n w.2 clash w.3 in
      let other = subst (λ j. IsClash ms us j w.2) e w.3 in
      let here : place ≡ w.1 = some_is place w.1 (sym at ∙ ap (slice_get places) (sym e) ∙ w.4) in
      let name = same_name i n w.2 clash other in
      w.5 ∙ (λ k. found NameClash (sym here k) (name k))

-- the table of a module whose names have one owner each
module _ (ms : List ModuleForm) (m : ℕ) (t : ModuleTables) (right : IsRight ms m t) (clear : is_clear t.imports ≡ true) where
  pub single_of : IsSingle ms m
  single_of n j k p q = one_only (Owned ms imports m n) (at t.imports n) (right.imported n) (clear_at t.imports clear n) j k p q

pub single_one : (ms : List ModuleForm) (m : ℕ) (d : ModuleForm) → slice_get ms m ≡ Some d → IsSingle ms m → OneOwner ms d.uses
single_one ms m d at single n j k p q = single n j k (brought_owner m d p.0 p.1 n j at p.2 p.3 p.4) (brought_owner m d q.0 q.1 n k at q.2 q.3 q.4)

brings_of : (ms : List ModuleForm) (m : ℕ) (n : Name) (k : Owner) (d : ModuleForm) → slice_get ms m ≡ Some d → Owned ms imports m n k → Brings ms d.uses n k
brings_of ms _ _ _ d at (brought_owner m c u a n k here is b h) = (u, a, subst (λ (x : ModuleForm). IsIn u x.uses) (some_is c d (sym here ∙ at)) is, b, h)

pub one_single : (ms : List ModuleForm) (m : ℕ) (d : ModuleForm) → slice_get ms m ≡ Some d → OneOwner ms d.uses → IsSingle ms m
one_single ms m d at one n j k p q = one n j k (brings_of ms m n j d at p) (brings_of ms m n k d at q)

-- the clash of a module by its clauses
module _ (ms : List ModuleForm) (m : ℕ) (form : Form) (d : ModuleForm) (at : slice_get ms m ≡ Some d) where
  pub own_to : IsGrounded ms m → (f : Found) → IsClashFault ms d.uses (use_places form.clauses) f → IsOwnClash ms m form f
  own_to grounds f w = (d, at, grounds, w)

  pub own_from : (f : Found) → IsOwnClash ms m form f → IsClashFault ms d.uses (use_places form.clauses) f
  own_from f w = subst (λ (x : ModuleForm). IsClashFault ms x.uses (use_places form.clauses) f) (some_is w.0 d (sym w.1 ∙ at)) w.3

-- what the table of clauses says of the first such name
pub least_of : (t : NamedList Cell) (us : List UseClause) (ts : List (NamedList Cell)) → ((n : Name) → at t n ≡ after_uses false us ts n None) → (o : Option Name) → IsLeastAt t o → LeastTwo ts us o
least_of t us ts same None least = λ n e. least n (same n ∙ e)
least_of t us ts same (Some n) least = (sym (same n) ∙ least.0, λ m e. least.1 m (same m ∙ e))

pub clash_with : (ms : List ModuleForm) (done : List (Option ModuleTables)) (made : AreMade ms done) (us : List UseClause) (ready : is_ready done us ≡ true) (i : ℕ) (clashes : Clashes ms us (Some i)) → i < length us
    → (o : Option Name) → LeastTwo (all_rows done) (take (i + 1) us) o → IsClashOf ms us (option_map (λ (n : Name). (i, n)) o)
clash_with ms done made us ready i clashes within None least = absurd (clash_some ms done made us ready i clashes least)
clash_with ms done made us ready i clashes within (Some n) least = clash_is ms done made us ready i clashes within n least

-- what is told of a clash
module _ (ms : List ModuleForm) (us : List UseClause) (places : List Place) (old new : List Found) where
  pub adds_no_clash : (o : Option (ℕ × Name)) → IsClashOf ms us o → o ≡ None → new ≡ old → Adds old new (IsClashFault ms us places)
  adds_no_clash o is e same = adds_none old new (IsClashFault ms us places) same (no_clash ms us places (subst (IsClashOf ms us) e is))

  module _ (count : length places ≡ length us) (i : ℕ) (n : Name) (clash : IsClash ms us i n) where
    by_place : (o : Option Place) → slice_get places i ≡ o → new ≡ old ++ told_clash o n → Adds old new (IsClashFault ms us places)
    by_place None at is = absurd (place_there us places i count clash.within at)
    by_place (Some place) at is = adds_one old new (found NameClash place n) (IsClashFault ms us places) is (i, place, n, clash, at, refl) (one_clash ms us places i n place clash at)

    pub adds_clash : new ≡ old ++ told_clash (slice_get places i) n → Adds old new (IsClashFault ms us places)
    adds_clash is = by_place (slice_get places i) refl is

    loud : (o : Option Place) → slice_get places i ≡ o → new ≡ old ++ told_clash o n → new ≡ [] → ⊥
    loud None at is nothing = place_there us places i count clash.within at
    loud (Some place) at is nothing = not_nothing old (found NameClash place n) (sym is ∙ nothing)

    pub clash_loud : new ≡ old ++ told_clash (slice_get places i) n → new ≡ [] → ⊥
    clash_loud is nothing = loud (slice_get places i) refl is nothing

  pub clash_here : (o : Option (ℕ × Name)) (i : ℕ) (n : Name) → IsClashOf ms us o → o ≡ Some (i, n) → IsClash ms us i n
  clash_here o i n is e = subst (IsClashOf ms us) e is

-- the clash of a module that leads to no ring, where nothing is told, and where it leads to one
module _ (ms : List ModuleForm) (m : ℕ) (form : Form) where
  pub single_none : IsSingle ms m → (f : Found) → IsOwnClash ms m form f → ⊥
  single_none single f w = no_clash ms w.0.uses (use_places form.clauses) (single_one ms m w.0 w.1 single) f w.3

  pub stuck_none : (done : List (Option ModuleTables)) → AreMade ms done → is_made (slice_get done m) ≡ false → (f : Found) → IsOwnClash ms m form f → ⊥
  stuck_none done made never f w = true≢false (sym (made.all m w.2) ∙ never)

  module _ (d : ModuleForm) (at : slice_get ms m ≡ Some d) where
    pub adds_own : IsGrounded ms m → (us : List UseClause) (list : List Placed) (old new : List Found) → us ≡ d.uses → list ≡ form.clauses → Adds old new (IsClashFault ms us (use_places list)) → Adds old new (IsOwnClash ms m form)
    adds_own grounds us list old new e g a =
        adds_as old new (IsClashFault ms d.uses (use_places form.clauses)) (IsOwnClash ms m form) (own_to ms m form d at grounds) (own_from ms m form d at)
        (subst (λ l. Adds old new (IsClashFault ms d.uses (use_places l))) g (subst (λ l. Adds old new (IsClashFault ms l (use_places list))) e a))
