-- Names that are not exported to a clause.
use Rattle.std.proofs.Common.{◌≡◌, ◌⊎◌, inl, inr, ℕ, Bool, true, false, true≢false, if◌then◌else◌, ◌||◌, List, [], ◌∷◌, ◌++◌, Option, Some, None, slice_get, refl, sym, ap, subst, ◌∙◌}
use Rattle.std.specs.List.{list_any}
use Rattle.std.specs.Str.{bytes_eq}
use Rattle.dy_base.specs.Tables.{NamedList, names}
use Rattle.dy_base.specs.declared.kind.Kind.TheVariants.{NotExported}
use Rattle.dy_base.specs.declared.fault.Place.{Place}
use Rattle.dy_module_forms.specs.declared.written.Member.{Member}
use Rattle.dy_module_forms.specs.declared.written.UseOption.{UseOption}
use Rattle.dy_module_forms.specs.declared.written.UseOption.TheVariants.{Import, Exclude, Rename, Prefix, Export}
use Rattle.dy_modules.specs.declared.owner.Owner.{Owner}
use Rattle.dy_modules.specs.declared.table.Cell.{Cell}
use Rattle.dy_modules.specs.declared.clause.UseClause.{UseClause}
use Rattle.dy_modules.specs.declared.clause.ModuleForm.{ModuleForm}
use Rattle.dy_modules.specs.declared.rounds.ModuleTables.{ModuleTables}
use Rattle.dy_modules.specs.Clauses.{Name, IsIn, is_one_of, brought}
use Rattle.dy_modules.specs.Sees.{exports, Named, Owned}
use Rattle.dy_modules.specs.Cells.{Says, at}
use Rattle.dy_modules.specs.Order.{is_made, IsRight}
use Rattle.dy_modules.proofs.Loop.{made_has}
use Rattle.dy_modules.proofs.Rows.{none_is, same_names, itself, row_at, at_row}
use Rattle.dy_modules.proofs.Step.{owned_named, someone}
use Rattle.dy_modules.proofs.Ins.{IsIn-append, IsIn-left, IsIn-right}
use Rattle.dy_module_numbers.specs.Options.{use_clause, with_name, with_names}
use Rattle.dy_library_form.specs.declared.found.Found.{Found}
use Rattle.dy_library_form.specs.Told.{absent, absent_member, missing_of, names_something, name_or, missing, with_found_name, with_new_name, brought_after, brought_names, told_at, not_exported}
use Rattle.dy_graph.specs.Faults.{AreNames, AreNew, IsMissing, IsMissingAt, Adds, AreMade}
use Rattle.dy_graph.proofs.Added.{adds_as, adds_list}

or_false : (a b : Bool) → (a || b) ≡ false → (a ≡ false) × (b ≡ false)
or_false true b e = absurd (true≢false e)
or_false false b e = (refl, e)

none_of : (set news : List Name) (o : UseOption) → names_something o ≡ false → missing_of set news o ≡ None
none_of set news (Import None) e = refl
none_of set news (Import (Some members)) e = absurd (true≢false e)
none_of set news (Exclude list) e = absurd (true≢false e)
none_of set news (Rename members) e = absurd (true≢false e)
none_of set news (Prefix text) e = refl
none_of set news (Export None) e = refl
none_of set news (Export (Some list)) e = absurd (true≢false e)

-- options that name nothing lack nothing
pub nothing_missing : (set news : List Name) (options : List UseOption) → list_any names_something options ≡ false → missing set news options ≡ None
nothing_missing set news [] e = refl
nothing_missing set news (o ∷ os) e =
    let p = or_false (names_something o) (list_any names_something os) e in
    ap (λ x. name_or x (missing set news os)) (none_of set news o p.0) ∙ nothing_missing set news os p.1

-- lists of the same names lack the same
abbrev Alike : List Name → List Name → Type 0
Alike E F = (a : Name) → is_one_of E a ≡ is_one_of F a

absent_alike : (E F : List Name) → Alike E F → (xs : List Name) → absent E xs ≡ absent F xs
absent_alike E F same [] = refl
absent_alike E F same (x ∷ xs) = ap (λ b. if b then absent E xs else Some x) (same x) ∙ ap (λ r. if is_one_of F x then r else Some x) (absent_alike E F same xs)

member_alike : (E F : List Name) → Alike E F → (xs : List Member) → absent_member E xs ≡ absent_member F xs
member_alike E F same [] = refl
member_alike E F same (x ∷ xs) = ap (λ b. if b then absent_member E xs else Some x.name) (same x.name) ∙ ap (λ r. if is_one_of F x.name then r else Some x.name) (member_alike E F same xs)

option_alike : (E F B C : List Name) → Alike E F → Alike B C → (o : UseOption) → missing_of E B o ≡ missing_of F C o
option_alike E F B C e b (Import None) = refl
option_alike E F B C e b (Import (Some members)) = member_alike E F e members
option_alike E F B C e b (Exclude list) = absent_alike E F e list
option_alike E F B C e b (Rename members) = member_alike E F e members
option_alike E F B C e b (Prefix text) = refl
option_alike E F B C e b (Export None) = refl
option_alike E F B C e b (Export (Some list)) = absent_alike B C b list

missing_alike : (E F B C : List Name) → Alike E F → Alike B C → (os : List UseOption) → missing E B os ≡ missing F C os
missing_alike E F B C e b [] = refl
missing_alike E F B C e b (o ∷ os) = ap (λ x. name_or x (missing E B os)) (option_alike E F B C e b o) ∙ ap (name_or (missing_of F C o)) (missing_alike E F B C e b os)

-- a list by its test
one_in : (xs : List Name) (a : Name) → is_one_of xs a ≡ true → IsIn a xs
one_in [] a e = true≢false (sym e)
one_in (x ∷ xs) a e = by_head (bytes_eq a x) refl e (one_in xs a)
  where
    by_head : (b : Bool) → bytes_eq a x ≡ b → (b || is_one_of xs a) ≡ true → (is_one_of xs a ≡ true → IsIn a xs) → IsIn a (x ∷ xs)
    by_head true is e rest = inl (same_names a x is)
    by_head false is e rest = inr (rest e)

or_left : (a b : Bool) → a ≡ true → (a || b) ≡ true
or_left true b e = refl
or_left false b e = absurd (true≢false (sym e))

or_right : (a b : Bool) → b ≡ true → (a || b) ≡ true
or_right true b e = refl
or_right false b e = e

in_one : (xs : List Name) (a : Name) → IsIn a xs → is_one_of xs a ≡ true
in_one [] a is = absurd is
in_one (x ∷ xs) a (inl e) = or_left (bytes_eq a x) (is_one_of xs a) (ap (bytes_eq a) (sym e) ∙ itself a)
in_one (x ∷ xs) a (inr is) = or_right (bytes_eq a x) (is_one_of xs a) (in_one xs a is)

same_test : (a b : Bool) → (a ≡ true → b ≡ true) → (b ≡ true → a ≡ true) → a ≡ b
same_test true b to from = sym (to refl)
same_test false true to from = from refl
same_test false false to from = refl

alike : (E F : List Name) → ((a : Name) → IsIn a E → IsIn a F) → ((a : Name) → IsIn a F → IsIn a E) → Alike E F
alike E F to from a = same_test (is_one_of E a) (is_one_of F a) (λ e. in_one F a (to a (one_in E a e))) (λ e. in_one E a (from a (one_in F a e)))

-- names that join others
in_joined : (set : List Name) (n a : Name) → IsIn a (with_name set n) → IsIn a set ⊎ (a ≡ n)
in_joined set n a = by_test (is_one_of set n)
  where
    by_test : (b : Bool) → IsIn a (if b then set else set ++ n ∷ []) → IsIn a set ⊎ (a ≡ n)
    by_test true is = inl is
    by_test false is = elim (IsIn-append set (n ∷ []) a is) [ inl x ↦ inl x | inr (inl e) ↦ inr e | inr (inr x) ↦ absurd x ]

joined_left : (set : List Name) (n a : Name) → IsIn a set → IsIn a (with_name set n)
joined_left set n a is = by_test (is_one_of set n)
  where
    by_test : (b : Bool) → IsIn a (if b then set else set ++ n ∷ [])
    by_test true = is
    by_test false = IsIn-left set (n ∷ []) a is

joined_right : (set : List Name) (n : Name) → IsIn n (with_name set n)
joined_right set n = by_test (is_one_of set n) refl
  where
    by_test : (b : Bool) → is_one_of set n ≡ b → IsIn n (if b then set else set ++ n ∷ [])
    by_test true e = one_in set n e
    by_test false e = IsIn-right set (n ∷ []) n (inl refl)

in_names : (set xs : List Name) (a : Name) → IsIn a (with_names set xs) → IsIn a set ⊎ IsIn a xs
in_names set [] a is = inl is
in_names set (x ∷ xs) a is = elim (in_names (with_name set x) xs a is) [
  | inl y ↦ elim (in_joined set x a y) [ inl z ↦ inl z | inr e ↦ inr (inl e) ]
  | inr y ↦ inr (inr y)
]

names_left : (set xs : List Name) (a : Name) → IsIn a set → IsIn a (with_names set xs)
names_left set [] a is = is
names_left set (x ∷ xs) a is = names_left (with_name set x) xs a (joined_left set x a is)

names_right : (set xs : List Name) (a : Name) → IsIn a xs → IsIn a (with_names set xs)
names_right set [] a is = absurd is
names_right set (x ∷ xs) a (inl e) = names_left (with_name set x) xs a (subst (λ y. IsIn y (with_name set x)) (sym e) (joined_right set x))
names_right set (x ∷ xs) a (inr is) = names_right (with_name set x) xs a is

-- what a clause makes of names
in_new : (u : UseClause) (set : List Name) (x n : Name) → IsIn n (with_new_name u (Some x) set) → IsIn n set ⊎ (brought u x ≡ Some n)
in_new u set x n is = by_new (brought u x) refl is
  where
    by_new : (o : Option Name) → brought u x ≡ o → IsIn n (with_found_name set o) → IsIn n set ⊎ (brought u x ≡ Some n)
    by_new None e is = inl is
    by_new (Some new) e is = elim (in_joined set new n is) [ inl y ↦ inl y | inr same ↦ inr (e ∙ ap Some (sym same)) ]

new_left : (u : UseClause) (set : List Name) (x n : Name) → IsIn n set → IsIn n (with_new_name u (Some x) set)
new_left u set x n is = by_new (brought u x)
  where
    by_new : (o : Option Name) → IsIn n (with_found_name set o)
    by_new None = is
    by_new (Some new) = joined_left set new n is

new_right : (u : UseClause) (set : List Name) (x n : Name) → brought u x ≡ Some n → IsIn n (with_new_name u (Some x) set)
new_right u set x n e = subst (λ o. IsIn n (with_found_name set o)) (sym e) (joined_right set n)

in_brought : (u : UseClause) (set xs : List Name) (n : Name) → IsIn n (brought_after u set xs) → IsIn n set ⊎ ((a : Name) × IsIn a xs × (brought u a ≡ Some n))
in_brought u set [] n is = inl is
in_brought u set (x ∷ xs) n is = elim (in_brought u (with_new_name u (Some x) set) xs n is) [
  | inl y ↦ elim (in_new u set x n y) [ inl z ↦ inl z | inr e ↦ inr (x, inl refl, e) ]
  | inr y ↦ inr (y.0, inr y.1, y.2)
]

brought_left : (u : UseClause) (set xs : List Name) (n : Name) → IsIn n set → IsIn n (brought_after u set xs)
brought_left u set [] n is = is
brought_left u set (x ∷ xs) n is = brought_left u (with_new_name u (Some x) set) xs n (new_left u set x n is)

brought_right : (u : UseClause) (set xs : List Name) (a n : Name) → IsIn a xs → brought u a ≡ Some n → IsIn n (brought_after u set xs)
brought_right u set [] a n is e = absurd is
brought_right u set (x ∷ xs) a n (inl same) e = brought_left u (with_new_name u (Some x) set) xs n (new_right u set x n (ap (brought u) (sym same) ∙ e))
brought_right u set (x ∷ xs) a n (inr is) e = brought_right u (with_new_name u (Some x) set) xs a n is e

pub are_new : (u : UseClause) (xs : List Name) → AreNew u xs (brought_names u xs)
are_new u xs = record {
  to = λ n is. elim (in_brought u [] xs n is) [ inl never ↦ absurd never | inr y ↦ y ];
  from = λ a n is e. brought_right u [] xs a n is e;
}

-- the rows of a table
pub row_name : (rows : NamedList Cell) (a : Name) → IsIn a (names rows) → (c : Cell) × IsIn (a, c) rows
row_name [] a is = absurd is
row_name (r ∷ rows) a (inl e) = (r.1, inl (λ i. (e i, r.1)))
row_name (r ∷ rows) a (inr is) = let w = row_name rows a is in (w.0, inr w.1)

pub name_row : (rows : NamedList Cell) (a : Name) (c : Cell) → IsIn (a, c) rows → IsIn a (names rows)
name_row [] a c is = absurd is
name_row (r ∷ rows) a c (inl e) = inl (ap (λ (x : Name × Cell). x.0) e)
name_row (r ∷ rows) a c (inr is) = inr (name_row rows a c is)

module _ (ms : List ModuleForm) (m : ℕ) (t : ModuleTables) (right : IsRight ms m t) where
  pub named_in : (a : Name) → IsIn a (names t.exports) → Named ms exports m a
  named_in a is =
      let w = row_name t.exports a is in
      let s = someone (Owned ms exports m a) w.0 (subst (λ c. Says c (Owned ms exports m a)) (row_at t.exports right.distinct (a, w.0) w.1) (right.exported a)) in
      owned_named ms exports m a s.0 s.1

  pub in_named : (a : Name) → Named ms exports m a → IsIn a (names t.exports)
  in_named a named = let k = right.named a named in by_cell (at t.exports a) refl (right.exported a) k.0 k.1
    where
      by_cell : (c : Option Cell) → at t.exports a ≡ c → Says c (Owned ms exports m a) → (k : Owner) → Owned ms exports m a k → IsIn a (names t.exports)
      by_cell None e says k owned = absurd (says k owned)
      by_cell (Some c) e says k owned = name_row t.exports a c (at_row t.exports a c e)

  -- the names of a table are those of its module
  pub are_names : AreNames ms m (with_names [] (names t.exports))
  are_names = record {
    to = λ a is. elim (in_names [] (names t.exports) a is) [ inl never ↦ absurd never | inr y ↦ named_in a y ];
    from = λ a named. names_right [] (names t.exports) a (in_named a named);
  }

module _ (ms : List ModuleForm) (place : Place) (source : ℕ) (options : List UseOption) (E B : List Name) (names : AreNames ms source E) (news : AreNew (use_clause source options) E B) where
  news_alike : (F C : List Name) → AreNames ms source F → AreNew (use_clause source options) F C → Alike B C
  news_alike F C f c = alike B C
      (λ n is. let w = news.to n is in c.from w.0 n (f.from w.0 (names.to w.0 w.1)) w.2)
      (λ n is. let w = c.to n is in news.from w.0 n (names.from w.0 (f.to w.0 w.1)) w.2)

  names_alike : (F : List Name) → AreNames ms source F → Alike E F
  names_alike F f = alike E F (λ a is. f.from a (names.to a is)) (λ a is. names.from a (f.to a is))

  is_missing : (n : Name) → missing E B options ≡ Some n → IsMissing ms source options n
  is_missing n e = record { first = λ F C f c. missing_alike F E C B (λ a. sym (names_alike F f a)) (λ a. sym (news_alike F C f c a)) options ∙ e }

  by_name : (o : Option Name) → missing E B options ≡ o → (f : Found) → IsIn f (told_at NotExported place o) → IsMissingAt ms place source options f
  by_name None e f is = absurd is
  by_name (Some n) e f (inl same) = (n, is_missing n e, same)
  by_name (Some n) e f (inr never) = absurd never

  pub missing_to : (f : Found) → IsIn f (told_at NotExported place (missing E B options)) → IsMissingAt ms place source options f
  missing_to f is = by_name (missing E B options) refl f is

  pub missing_from : (f : Found) → IsMissingAt ms place source options f → IsIn f (told_at NotExported place (missing E B options))
  missing_from f w = subst (λ o. IsIn f (told_at NotExported place o)) (sym (w.1.first E B names news)) (inl w.2)

  pub never_missing : missing E B options ≡ None → (f : Found) → IsMissingAt ms place source options f → ⊥
  never_missing none f w = none_is w.0 (sym none ∙ w.1.first E B names news)

-- a clause whose source has its tables
module _ (ms : List ModuleForm) (done : List (Option ModuleTables)) (made : AreMade ms done) (place : Place) (source : ℕ) (options : List UseOption) where
  -- options that name nothing
  pub nothing_lacks : is_made (slice_get done source) ≡ true → list_any names_something options ≡ false → (f : Found) → IsMissingAt ms place source options f → ⊥
  nothing_lacks ready none f w =
      let t = made_has (slice_get done source) ready in
      let E = with_names [] (names t.0.exports) in
      let u = use_clause source options in
      never_missing ms place source options E (brought_names u E) (are_names ms source t.0 (made.right.each source t.0 t.1)) (are_new u E) (nothing_missing E (brought_names u E) options none) f w

  pub told_lacks : (t : ModuleTables) → slice_get done source ≡ Some (Some t) → (u : UseClause) → u ≡ use_clause source options → (E : List Name) → E ≡ with_names [] (names t.exports)
      → (old new : List Found) → new ≡ old ++ not_exported place u E options → Adds old new (IsMissingAt ms place source options)
  told_lacks t at u same_u E same_E old new e =
      let F = with_names [] (names t.exports) in
      let v = use_clause source options in
      let names_are = are_names ms source t (made.right.each source t at) in
      let all : new ≡ old ++ told_at NotExported place (missing F (brought_names v F) options) = e ∙ ap (λ x. old ++ not_exported place x E options) same_u ∙ ap (λ x. old ++ not_exported place v x options) same_E in
      adds_as old new (λ f. IsIn f (told_at NotExported place (missing F (brought_names v F) options))) (IsMissingAt ms place source options)
      (missing_to ms place source options F (brought_names v F) names_are (are_new v F)) (missing_from ms place source options F (brought_names v F) names_are (are_new v F))
      (adds_list old new (told_at NotExported place (missing F (brought_names v F) options)) all)
