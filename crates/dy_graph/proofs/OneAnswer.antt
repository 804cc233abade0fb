-- Forms have one answer.
use Rattle.std.proofs.Common.{◌≡◌, ◌≢◌, inl, inr, ℕ, ◌+◌, List, [], ◌∷◌, ◌++◌, map, Option, Some, None, Result, Ok, Err, nat_cmp, refl, sym, ap, ◌∙◌}
use Rattle.std.specs.Prelude.{T}
use Rattle.std.specs.Cmp.Lexicographic.{slice_cmp, nat_list_cmp_total}
use Rattle.std.specs.FinMap.{find, is_sorted, nat_cmp-IsAntisymmetric, slice_cmp-IsAntisymmetric}
use Rattle.std.specs.FinMap.Entries.{same_entries}
use Rattle.dy_base.specs.Folding.{folded}
use Rattle.dy_base.specs.Tables.{NamedList, by_bytes, names}
use Rattle.dy_base.specs.declared.fault.Fault.{Fault}
use Rattle.dy_base.specs.declared.fault.Place.{Place}
use Rattle.dy_base.specs.declared.fault.Refusal.{Refusal}
use Rattle.dy_base.specs.declared.fault.Refusal.TheVariants as refusals
use Rattle.dy_module_forms.specs.declared.written.Clause.{Clause}
use Rattle.dy_module_forms.specs.declared.written.Clause.TheVariants as clauses
use Rattle.dy_module_forms.specs.declared.written.Placed.{Placed}
use Rattle.dy_module_forms.specs.declared.written.Form.{Form}
use Rattle.dy_module_tables.specs.declared.promise.Promise.{Promise}
use Rattle.dy_module_tables.specs.Graphs.{Graph}
use Rattle.dy_modules.specs.declared.clause.UseClause.{UseClause}
use Rattle.dy_modules.specs.declared.clause.ModuleForm.{ModuleForm}
use Rattle.dy_modules.specs.Clauses.{Name, IsIn}
use Rattle.dy_module_numbers.specs.Options.{use_clause, exported}
use Rattle.dy_module_numbers.specs.Modules.{source_of}
use Rattle.dy_library_form.specs.declared.found.Found.{Found}
use Rattle.dy_library_form.proofs.Firsts.{same_found}
use Rattle.dy_graph.specs.Judged.{Given, given, own_names, reading, nothing, all_modules, IsTold, as_units, AreBrought, AreAgain, ArePromisedBy, promise_of, ArePromises, AreAllPromises, IsTable, fault_of, Refuses, Gives, IsJudged, IsSyntax, AnswersAreOne}
use Rattle.dy_graph.proofs.Rising.{find_sorted, found_in}

-- names in rising order, each once, are the same where they have the same members
unit_in : (xs : List Name) (n : Name) → IsIn n xs → IsIn (n, tt) (as_units xs)
unit_in [] n is = absurd is
unit_in (x ∷ xs) n (inl e) = inl (λ i. (e i, tt))
unit_in (x ∷ xs) n (inr is) = inr (unit_in xs n is)

in_unit : (xs : List Name) (n : Name) (v : Unit {0}) → IsIn (n, v) (as_units xs) → IsIn n xs
in_unit [] n v is = absurd is
in_unit (x ∷ xs) n v (inl e) = inl (ap (λ (r : Name × Unit {0}). r.0) e)
in_unit (x ∷ xs) n v (inr is) = inr (in_unit xs n v is)

unit_names : (xs : List Name) → names (as_units xs) ≡ xs
unit_names [] = refl
unit_names (x ∷ xs) = ap (λ l. x ∷ l) (unit_names xs)

same_option : (o p : Option (Unit {0})) → ((v : Unit {0}) → o ≡ Some v → p ≡ Some v) → ((v : Unit {0}) → p ≡ Some v → o ≡ Some v) → o ≡ p
same_option None None to from = refl
same_option None (Some v) to from = from v refl
same_option (Some v) p to from = sym (to v refl)

found_too : (xs ys : List Name) → T (is_sorted by_bytes (as_units ys)) → ((n : Name) → IsIn n xs → IsIn n ys) → (n : Name) (v : Unit {0}) → find by_bytes n (as_units xs) ≡ Some v → find by_bytes n (as_units ys) ≡ Some v
found_too xs ys sorted to n v e = find_sorted (as_units ys) sorted (n, v) (unit_in ys n (to n (in_unit xs n v (found_in n v (as_units xs) e))))

same_rising : (xs ys : List Name) → T (is_sorted by_bytes (as_units xs)) → T (is_sorted by_bytes (as_units ys)) → ((n : Name) → IsIn n xs → IsIn n ys) → ((n : Name) → IsIn n ys → IsIn n xs) → xs ≡ ys
same_rising xs ys s t to from =
    let rows = same_entries (slice_cmp nat_cmp) nat_list_cmp_total (slice_cmp-IsAntisymmetric nat_cmp-IsAntisymmetric) (as_units xs) (as_units ys) s t
    (λ n. same_option (find by_bytes n (as_units xs)) (find by_bytes n (as_units ys)) (found_too xs ys t to n) (found_too ys xs s from n)) in
    sym (unit_names xs) ∙ ap names rows ∙ unit_names ys

-- what modules promise
module _ (own : List Name) (imported : NamedList ℕ) (none : ℕ) (ms : List ModuleForm) where
  brought_once : (u : UseClause) (xs ys : List Name) → AreBrought ms u xs → AreBrought ms u ys → xs ≡ ys
  brought_once u xs ys a b = same_rising xs ys a.sorted b.sorted (λ n is. let w = a.to n is in b.from w.0 n w.1 w.2) (λ n is. let w = b.to n is in a.from w.0 n w.1 w.2)

  again_once : (u : UseClause) (o : Option (List Name)) (xs ys : List Name) → AreAgain ms u o xs → AreAgain ms u o ys → xs ≡ ys
  again_once u (Some list) xs ys a b = a ∙ sym b
  again_once u None xs ys a b = a.2 ∙ ap (map folded) (brought_once u a.0 b.0 a.1 b.1) ∙ sym b.2

  promised_once : (c : Clause) (xs ys : List Name) → ArePromisedBy own imported none ms c xs → ArePromisedBy own imported none ms c ys → xs ≡ ys
  promised_once (clauses.Export list) xs ys a b = a ∙ sym b
  promised_once (clauses.Create list) xs ys a b = a ∙ sym b
  promised_once (clauses.Use name options) xs ys a b = again_once (use_clause (source_of own imported none name) options) (exported options) xs ys a b

  promises_once : (m : ℕ) (list : List Placed) (xs ys : List Promise) → ArePromises own imported none ms m list xs → ArePromises own imported none ms m list ys → xs ≡ ys
  promises_once m [] xs ys a b = a ∙ sym b
  promises_once m (clause ∷ rest) xs ys a b =
      let names = promised_once clause.clause a.0 b.0 a.2 b.2 in
      let others = promises_once m rest a.1 b.1 a.3 b.3 in
      a.4 ∙ (λ i. map (promise_of m clause.place) (names i) ++ others i) ∙ sym b.4

  all_promises_once : (m : ℕ) (forms : List Form) (xs ys : List Promise) → AreAllPromises own imported none ms m forms xs → AreAllPromises own imported none ms m forms ys → xs ≡ ys
  all_promises_once m [] xs ys a b = a ∙ sym b
  all_promises_once m (form ∷ rest) xs ys a b =
      let here = promises_once m form.clauses a.0 b.0 a.2 b.2 in
      let others = all_promises_once (m + 1) rest a.1 b.1 a.3 b.3 in
      a.4 ∙ (λ i. here i ++ others i) ∙ sym b.4

module _ (g : Given) where
  -- their tables
  table_once : (form : Form) (t s : Graph) → IsTable g form t → IsTable g form s → t ≡ s
  table_once form t s a b =
      let modules = a.modules ∙ sym b.modules in
      let own = a.own ∙ sym b.own in
      let defined = a.defined ∙ sym b.defined in
      let promised = all_promises_once (own_names g) (reading g form).imported (nothing g) (all_modules g form) 0 g.modules t.promised s.promised a.promised b.promised in
      let shown = a.shown ∙ sym b.shown in
      λ i. record { modules = modules i; own = own i; defined = defined i; promised = promised i; shown = shown i }

  gives_once : (forms : List Form) (t s : Graph) → Gives g forms t → Gives g forms s → t ≡ s
  gives_once [] t s a b = absurd a
  gives_once (form ∷ forms) t s a b = table_once form t s a.1 b.1

  -- and the fault that is told
  told_once : (form : Form) (f h : Found) → IsTold g form f → IsTold g form h → f ≡ h
  told_once form f h a b = same_found f h (b.first f a.fault) (a.first h b.fault)

  refuses_once : (forms : List Form) (f h : Fault) → Refuses g forms f → Refuses g forms h → f ≡ h
  refuses_once [] f h a b = a ∙ sym b
  refuses_once (form ∷ forms) f h a b = a.2 ∙ ap fault_of (told_once form a.0 b.0 a.1 b.1) ∙ sym b.2

  not_both : (forms : List Form) (t : Graph) (f : Fault) → Gives g forms t → Refuses g forms f → ⊥
  not_both [] t f a b = a
  not_both (form ∷ forms) t f a b = a.0 b.0 b.1.fault

  judged_once : (a b : Result Graph Refusal) → IsJudged g a → IsJudged g b → (a ≢ Err refusals.Memory) → (b ≢ Err refusals.Memory) → a ≡ b
  judged_once (Ok t) (Ok s) a b m n = ap Ok (gives_once g.libraries t s a b)
  judged_once (Ok t) (Err (refusals.Fault f)) a b m n = absurd (not_both g.libraries t f a b)
  judged_once (Err (refusals.Fault f)) (Ok t) a b m n = absurd (not_both g.libraries t f b a)
  judged_once (Err (refusals.Fault f)) (Err (refusals.Fault h)) a b m n = ap (λ x. Err (refusals.Fault x)) (refuses_once g.libraries f h a b)
  judged_once (Err refusals.Memory) r a b m n = absurd (m refl)
  judged_once (Ok t) (Err refusals.Memory) a b m n = absurd (n refl)
  judged_once (Err (refusals.Fault f)) (Err refusals.Memory) a b m n = absurd (n refl)

syntax_once : (place : Place) (a b : Result Graph Refusal) → IsSyntax place a → IsSyntax place b → (a ≢ Err refusals.Memory) → (b ≢ Err refusals.Memory) → a ≡ b
syntax_once place (Ok t) b p q m n = absurd p
syntax_once place (Err refusals.Memory) b p q m n = absurd (m refl)
syntax_once place (Err (refusals.Fault f)) (Ok t) p q m n = absurd q
syntax_once place (Err (refusals.Fault f)) (Err refusals.Memory) p q m n = absurd (n refl)
syntax_once place (Err (refusals.Fault f)) (Err (refusals.Fault h)) p q m n = ap (λ x. Err (refusals.Fault x)) (p ∙ sym q)

pub one_answer : AnswersAreOne
one_answer library headers (Ok forms) used a b p q m n = judged_once (given library headers forms used) a b p q m n
one_answer library headers (Err place) used a b p q m n = syntax_once place a b p q m n
