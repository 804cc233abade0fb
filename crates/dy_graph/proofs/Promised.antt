-- The promises of clauses and of modules, as they are made.
use Rattle.std.proofs.Common.{◌≡◌, ℕ, ◌+◌, ◌≤◌, List, [], ◌++◌, length, map, drop, Option, Some, None, slice_get, append_assoc, refl, sym, ap, subst, ◌∙◌}
use Rattle.std.proofs.lemmas.List.{append-nil}
use Rattle.dy_base.specs.Tables.{NamedList}
use Rattle.dy_base.specs.declared.fault.Place.{Place}
use Rattle.dy_module_forms.specs.declared.written.UseOption.{UseOption}
use Rattle.dy_module_forms.specs.declared.written.Clause.{Clause}
use Rattle.dy_module_forms.specs.declared.written.Clause.TheVariants as clauses
use Rattle.dy_module_forms.specs.declared.written.Placed.{Placed}
use Rattle.dy_module_forms.specs.declared.written.Form.{Form}
use Rattle.dy_modules.specs.declared.clause.UseClause.{UseClause}
use Rattle.dy_modules.specs.declared.clause.ModuleForm.{ModuleForm}
use Rattle.dy_modules.specs.declared.rounds.ModuleTables.{ModuleTables}
use Rattle.dy_module_tables.specs.declared.promise.Promise.{Promise}
use Rattle.dy_modules.specs.Clauses.{Name}
use Rattle.dy_modules.proofs.Rows.{drop_end}
use Rattle.dy_module_numbers.specs.Options.{use_clause, exported}
use Rattle.dy_module_numbers.specs.Modules.{source_of}
use Rattle.dy_graph.specs.Faults.{AreMade}
use Rattle.dy_graph.specs.Judged.{AreAgain, ArePromisedBy, ArePromises, AreAllPromises, promise_of, promises_of_table, Promises}
use Rattle.dy_graph.proofs.Brought.{all_again}
use Rattle.dy_graph.proofs.Steps.{split_at}

-- the names that a use clause exports again
module _ (ms : List ModuleForm) (m : ℕ) (place : Place) (old new : List Promise) where
  pub again_names : (u : UseClause) (o : Option (List Name)) (names : List Name) → o ≡ Some names → new ≡ old ++ map (promise_of m place) names → Promises m place old new (AreAgain ms u o)
  again_names u o names e is = (names, subst (λ x. AreAgain ms u x names) (sym e) refl, is)

  pub again_all : (u : UseClause) (o : Option (List Name)) → o ≡ None → Promises m place old new (AreAgain ms u None) → Promises m place old new (AreAgain ms u o)
  again_all u o e p = (p.0, subst (λ x. AreAgain ms u x p.0) (sym e) p.1, p.2)

  pub again_brought : (done : List (Option ModuleTables)) → AreMade ms done → (source : ℕ) (options : List UseOption) (t : ModuleTables) → slice_get done source ≡ Some (Some t) → (u : UseClause) → u ≡ use_clause source options
      → new ≡ old ++ promises_of_table m place u t.exports → Promises m place old new (AreAgain ms (use_clause source options) None)
  again_brought done made source options t at u same is =
      let w = all_again ms (use_clause source options) t (made.right.each source t at) m place in
      (w.0, w.1, is ∙ ap (λ x. old ++ promises_of_table m place x t.exports) same ∙ ap (λ l. old ++ l) w.2)

module _ (own : List Name) (imported : NamedList ℕ) (none : ℕ) (ms : List ModuleForm) where
  -- what a clause promises
  module _ (m : ℕ) (place : Place) (c : Clause) (old new : List Promise) where
    pub by_export : (names : List Name) → c ≡ clauses.Export names → new ≡ old ++ map (promise_of m place) names → Promises m place old new (ArePromisedBy own imported none ms c)
    by_export names e is = (names, subst (λ x. ArePromisedBy own imported none ms x names) (sym e) refl, is)

    pub by_create : (names : List Name) → c ≡ clauses.Create names → new ≡ old ++ map (promise_of m place) names → Promises m place old new (ArePromisedBy own imported none ms c)
    by_create names e is = (names, subst (λ x. ArePromisedBy own imported none ms x names) (sym e) refl, is)

    pub by_use : (name : Name) (options : List UseOption) (source : ℕ) → c ≡ clauses.Use name options → source ≡ source_of own imported none name → Promises m place old new (AreAgain ms (use_clause source options) (exported options))
        → Promises m place old new (ArePromisedBy own imported none ms c)
    by_use name options source e same p =
        (p.0, subst (λ x. ArePromisedBy own imported none ms x p.0) (sym e) (subst (λ s. AreAgain ms (use_clause s options) (exported options) p.0) same p.1), p.2)

  -- what is promised of the clauses from the i-th on completes what all of them promise
  abbrev pub Going : ℕ → List Placed → List Promise → List Promise → ℕ → Type 0
  Going m list first now i = (rest : List Promise) → ArePromises own imported none ms m (drop i list) rest → (here : List Promise) × ArePromises own imported none ms m list here × (now ++ rest ≡ first ++ here)

  pub going_start : (m : ℕ) (list : List Placed) (first : List Promise) → Going m list first first 0
  going_start m list first rest are = (rest, are, refl)

  pub going_more : (m : ℕ) (list : List Placed) (first now new : List Promise) (i : ℕ) (clause : Placed) → slice_get list i ≡ Some clause → Promises m clause.place now new (ArePromisedBy own imported none ms clause.clause)
      → Going m list first now i → Going m list first new (i + 1)
  going_more m list first now new i clause at p going rest are =
      let here = map (promise_of m clause.place) p.0 in
      let w = going (here ++ rest) (subst (λ l. ArePromises own imported none ms m l (here ++ rest)) (sym (split_at list i clause at)) (p.0, rest, p.1, are, refl)) in
      (w.0, w.1, ap (λ l. l ++ rest) p.2 ∙ append_assoc now here rest ∙ w.2)

  pub going_end : (m : ℕ) (list : List Placed) (first now : List Promise) (i : ℕ) → length list ≤ i → Going m list first now i → (here : List Promise) × ArePromises own imported none ms m list here × (now ≡ first ++ here)
  going_end m list first now i past going =
      let no_more : List Promise = [] in
      let w = going no_more (subst (λ l. ArePromises own imported none ms m l no_more) (sym (drop_end list i past)) refl) in
      (w.0, w.1, sym (append-nil now) ∙ w.2)

  -- the same of modules
  abbrev pub Coming : List Form → List Promise → ℕ → Type 0
  Coming forms now i = (rest : List Promise) → AreAllPromises own imported none ms i (drop i forms) rest → (all : List Promise) × AreAllPromises own imported none ms 0 forms all × (now ++ rest ≡ all)

  pub coming_start : (forms : List Form) (now : List Promise) → now ≡ [] → Coming forms now 0
  coming_start forms now e rest are = (rest, are, ap (λ l. l ++ rest) e)

  pub coming_more : (forms : List Form) (now new : List Promise) (i : ℕ) (form : Form) → slice_get forms i ≡ Some form → (here : List Promise) × ArePromises own imported none ms i form.clauses here × (new ≡ now ++ here)
      → Coming forms now i → Coming forms new (i + 1)
  coming_more forms now new i form at p coming rest are =
      let w = coming (p.0 ++ rest) (subst (λ l. AreAllPromises own imported none ms i l (p.0 ++ rest)) (sym (split_at forms i form at)) (p.0, rest, p.1, are, refl)) in
      (w.0, w.1, ap (λ l. l ++ rest) p.2 ∙ append_assoc now p.0 rest ∙ w.2)

  pub coming_end : (forms : List Form) (now : List Promise) (i : ℕ) → length forms ≤ i → Coming forms now i → AreAllPromises own imported none ms 0 forms now
  coming_end forms now i past coming =
      let no_more : List Promise = [] in
      let w = coming no_more (subst (λ l. AreAllPromises own imported none ms i l no_more) (sym (drop_end forms i past)) refl) in
      subst (AreAllPromises own imported none ms 0 forms) (sym w.2 ∙ append-nil now) w.1
