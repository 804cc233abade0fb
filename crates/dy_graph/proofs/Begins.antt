-- The modules of a library before their tables are made, and the answer that follows.
use Rattle.std.proofs.Common.{◌≡◌, ℕ, ◌+◌, ◌<◌, ◌≤◌, true, List, [], ◌∷◌, ◌++◌, map, length, drop, replicate, Option, Some, None, Result, Ok, Err, slice_get, append_assoc, refl, sym, ap, subst, ◌∙◌, arith}
use Rattle.std.proofs.lemmas.List.{append-nil}
use Rattle.std.specs.FinMap as finite
use Rattle.dy_base.specs.Tables.{NamedList, table_of}
use Rattle.dy_base.specs.declared.exports.Exports.{Exports}
use Rattle.dy_base.specs.declared.fault.Fault.{Fault}
use Rattle.dy_base.specs.declared.fault.Place.{Place}
use Rattle.dy_base.specs.declared.fault.Refusal.{Refusal}
use Rattle.dy_base.specs.declared.fault.Refusal.TheVariants as refusals
use Rattle.dy_module_forms.specs.declared.written.Form.{Form}
use Rattle.dy_module_forms.specs.Forms.{Answers}
use Rattle.dy_module_tables.specs.Graphs.{Graph}
use Rattle.dy_modules.specs.declared.clause.ModuleForm.{ModuleForm}
use Rattle.dy_module_tables.specs.declared.promise.Promise.{Promise}
use Rattle.dy_modules.specs.declared.rounds.ModuleTables.{ModuleTables}
use Rattle.dy_modules.specs.Clauses.{Name, IsIn}
use Rattle.dy_modules.specs.Order.{is_made}
use Rattle.dy_modules.specs.Builds.{all_clear}
use Rattle.dy_module_numbers.specs.Sorting.{libraries, modules, form_name}
use Rattle.dy_module_numbers.specs.Numbers.{given_form, behind_own, first_exported, library_numbers, nothing_number, IsOutside}
use Rattle.dy_module_numbers.specs.Modules.{module_forms}
use Rattle.dy_library_form.specs.declared.found.Found.{Found}
use Rattle.dy_library_form.specs.declared.library.Reading.{Reading}
use Rattle.dy_library_form.specs.Library.{after_clauses, nothing_read, shown_modules}
use Rattle.dy_library_form.specs.Told.{first}
use Rattle.dy_library_form.proofs.Firsts.{first_some, first_none}
use Rattle.dy_graph.specs.declared.table.Begun.{Begun}
use Rattle.dy_graph.specs.Faults.{AreMade, AreOfForms, Adds, IsRingFault, IsSingle}
use Rattle.dy_graph.specs.Judged.{Given, own_names, begun, numbers, nothing, reading, all_modules, HasFault, on_ring, IsTold, IsTable, IsBegun, IsOtherFault, IsJudged, IsAnswer, AreAllPromises, AreReady, in_lower_case, all_lower}
use Rattle.dy_graph.proofs.Whole.{begun_length, all_length, of_forms, are_clear, are_ready, told_to, told_from}

pub no_items : {X : Type 0} (xs : List X) → length xs ≡ 0 → xs ≡ []
no_items [] e = refl
no_items (x ∷ xs) e = absurd (omega (arith, e))

-- what the modules of used libraries come to
module _ (g : Given) (form : Form) (forms : List Form) (used : List Exports) (e : g.modules ≡ forms) (f : g.used ≡ used) (own : ℕ) (count : own ≡ length forms)
    (outside : List ModuleForm) (listed : List (NamedList ℕ)) (none : ℕ) (is : IsOutside own used outside listed none) where
  outside_is : outside ≡ begun g
  outside_is =
      is.forms_are ∙ ap (λ n. behind_own (replicate n (given_form [])) used) count ∙ ap (λ (fs : List Form). behind_own (replicate (length fs) (given_form [])) used) (sym e)
      ∙ ap (λ us. behind_own (replicate (length g.modules) (given_form [])) us) (sym f)

  listed_is : listed ≡ numbers g
  listed_is =
      is.libraries_are ∙ ap (λ n. library_numbers (first_exported n used) used) count ∙ ap (λ (fs : List Form). library_numbers (first_exported (length fs) used) used) (sym e)
      ∙ ap (λ us. library_numbers (first_exported (length g.modules) us) us) (sym f)

  none_is : none ≡ nothing g
  none_is =
      is.nothing_is ∙ ap (λ n. nothing_number n used) count ∙ ap (λ (fs : List Form). nothing_number (length fs) used) (sym e)
      ∙ ap (λ us. nothing_number (length g.modules) us) (sym f)

  module _ (r : Reading) (read : r ≡ after_clauses used listed outside form.clauses nothing_read) where
    reading_is : r ≡ reading g form
    reading_is =
        read ∙ ap (λ us. after_clauses us listed outside form.clauses nothing_read) (sym f) ∙ ap (λ l. after_clauses g.used l outside form.clauses nothing_read) listed_is
        ∙ ap (λ o. after_clauses g.used (numbers g) o form.clauses nothing_read) outside_is

    module _ (names : List Name) (named : names ≡ map form_name forms) where
      names_are : names ≡ own_names g
      names_are = named ∙ ap (map form_name) (sym e)

      module _ (ms : List ModuleForm) (put : ms ≡ module_forms names r.imported none 0 forms ++ drop (length forms) outside) where
        modules_are : ms ≡ all_modules g form
        modules_are =
            put ∙ ap (λ n. module_forms n r.imported none 0 forms ++ drop (length forms) outside) names_are
            ∙ ap (λ (x : Reading). module_forms (own_names g) x.imported none 0 forms ++ drop (length forms) outside) reading_is
            ∙ ap (λ n. module_forms (own_names g) (reading g form).imported n 0 forms ++ drop (length forms) outside) none_is
            ∙ ap (λ (fs : List Form). module_forms (own_names g) (reading g form).imported (nothing g) 0 fs ++ drop (length fs) outside) (sym e)
            ∙ ap (λ o. module_forms (own_names g) (reading g form).imported (nothing g) 0 g.modules ++ drop (length g.modules) o) outside_is

        pub begins : (b : Begun) → b.naming.own ≡ names → b.naming.imported ≡ r.imported → b.naming.nothing ≡ none → b.modules ≡ ms → b.libraries.items ≡ listed → (list : List Found) → list ≡ r.found → IsBegun g form b list
        begins b own_is imported_is nothing_is here libraries_are list found_is = record {
          own = own_is ∙ names_are;
          imported = imported_is ∙ ap (λ (x : Reading). x.imported) reading_is;
          nothing_is = nothing_is ∙ none_is;
          modules = here ∙ modules_are;
          libraries_are = libraries_are ∙ listed_is;
          found_are = found_is ∙ ap (λ (x : Reading). x.found) reading_is;
        }

-- there is room for the modules of the library
pub room : (forms : List Form) (used : List Exports) (own : ℕ) → own ≡ length forms → (outside : List ModuleForm) (listed : List (NamedList ℕ)) (none : ℕ) → IsOutside own used outside listed none → length forms ≤ length outside
room forms used own count outside listed none is =
    let g : Given = record { library = []; headers = []; libraries = []; modules = forms; used = used } in
    let same : outside ≡ begun g = is.forms_are ∙ ap (λ n. behind_own (replicate n (given_form [])) used) count in
    omega (arith, begun_length g, ap length same)

-- exported modules with their names in lower case
pub lower_all : (list rows : List (Name × ℕ)) → all_lower list (map Some rows) ≡ list ++ map in_lower_case rows
lower_all list [] = sym (append-nil list)
lower_all list (row ∷ rows) = lower_all (list ++ in_lower_case row ∷ []) rows ∙ append_assoc list (in_lower_case row ∷ []) (map in_lower_case rows)

module _ (g : Given) (form : Form) (b : Begun) (told : List Found) (is : IsBegun g form b told) where
  pub of_begun : AreOfForms b.naming.own b.naming.imported b.naming.nothing b.modules g.modules
  of_begun =
      subst (λ o. AreOfForms o b.naming.imported b.naming.nothing b.modules g.modules) (sym is.own)
      (subst (λ i. AreOfForms (own_names g) i b.naming.nothing b.modules g.modules) (sym is.imported)
      (subst (λ n. AreOfForms (own_names g) (reading g form).imported n b.modules g.modules) (sym is.nothing_is)
      (subst (λ ms. AreOfForms (own_names g) (reading g form).imported (nothing g) ms g.modules) (sym is.modules) (of_forms g form))))

  pub within : length g.modules ≤ length b.modules
  within = omega (arith, ap length is.modules, all_length g form)

  -- the table of these modules
  module _ (promised : List Promise) (promises : AreAllPromises b.naming.own b.naming.imported b.naming.nothing b.modules 0 g.modules promised)
      (exported : NamedList ℕ) (exports_are : exported ≡ shown_modules g.used b.libraries.items b.naming.own b.naming.imported [] form.clauses)
      (shown : List (Name × ℕ)) (sorted : shown ≡ all_lower [] (map Some (finite.entries (table_of exported)))) where
    promises_are : AreAllPromises (own_names g) (reading g form).imported (nothing g) (all_modules g form) 0 g.modules promised
    promises_are =
        subst (λ o. AreAllPromises o (reading g form).imported (nothing g) (all_modules g form) 0 g.modules promised) is.own
        (subst (λ i. AreAllPromises b.naming.own i (nothing g) (all_modules g form) 0 g.modules promised) is.imported
        (subst (λ n. AreAllPromises b.naming.own b.naming.imported n (all_modules g form) 0 g.modules promised) is.nothing_is
        (subst (λ ms. AreAllPromises b.naming.own b.naming.imported b.naming.nothing ms 0 g.modules promised) is.modules promises)))

    exported_is : exported ≡ shown_modules g.used (numbers g) (own_names g) (reading g form).imported [] form.clauses
    exported_is =
        exports_are ∙ ap (λ l. shown_modules g.used l b.naming.own b.naming.imported [] form.clauses) is.libraries_are
        ∙ ap (λ o. shown_modules g.used (numbers g) o b.naming.imported [] form.clauses) is.own
        ∙ ap (λ i. shown_modules g.used (numbers g) (own_names g) i [] form.clauses) is.imported

    pub makes_table : (t : Graph) → t.modules ≡ b.modules → t.own ≡ length g.modules → t.defined ≡ replicate (length b.modules) finite.empty → t.promised ≡ promised → t.shown ≡ shown → IsTable g form t
    makes_table t modules_are own_is defined_is promised_is shown_is = record {
      modules = modules_are ∙ is.modules;
      own = own_is;
      defined = defined_is ∙ ap (λ (ms : List ModuleForm). replicate (length ms) finite.empty) is.modules;
      promised = subst (AreAllPromises (own_names g) (reading g form).imported (nothing g) (all_modules g form) 0 g.modules) (sym promised_is) promises_are;
      shown = shown_is ∙ sorted ∙ lower_all [] (finite.entries (table_of exported)) ∙ ap (λ l. map in_lower_case (finite.entries (table_of l))) exported_is;
    }

  -- what is told of them
  module _ (others : List Form) (split : g.libraries ≡ form ∷ others) (done : List (Option ModuleTables)) (made : AreMade b.modules done) (list : List Found)
      (adds : Adds told list (IsOtherFault g.library g.headers b.naming.own b.naming.imported b.modules form others g.modules)) where
    made_all : AreMade (all_modules g form) done
    made_all = subst (λ ms. AreMade ms done) is.modules made

    adds_all : Adds (reading g form).found list (IsOtherFault g.library g.headers (own_names g) (reading g form).imported (all_modules g form) form others g.modules)
    adds_all =
        subst (λ l. Adds l list (IsOtherFault g.library g.headers (own_names g) (reading g form).imported (all_modules g form) form others g.modules)) is.found_are
        (subst (λ o. Adds told list (IsOtherFault g.library g.headers o (reading g form).imported (all_modules g form) form others g.modules)) is.own
        (subst (λ i. Adds told list (IsOtherFault g.library g.headers b.naming.own i (all_modules g form) form others g.modules)) is.imported
        (subst (λ ms. Adds told list (IsOtherFault g.library g.headers b.naming.own b.naming.imported ms form others g.modules)) is.modules adds)))

    to : (f : Found) → HasFault g form f → IsIn f list
    to f h = told_to g form others split list adds_all f h

    pub is_told : (f : Found) → Some f ≡ first list → IsTold g form f
    is_told f e = record {
      fault = told_from g form others split list adds_all f (first_some list f e).0;
      first = λ other h. (first_some list f e).1 other (to other h);
    }

    module _ (nothing_told : None ≡ first list) where
      pub no_fault : (f : Found) → HasFault g form f → ⊥
      no_fault f h = subst (IsIn f) (first_none list nothing_told) (to f h)

      quiet_rings : (f : Found) → IsRingFault (all_modules g form) g.modules f → ⊥
      quiet_rings f w = no_fault f (on_ring f w)

      module _ (quiet : list ≡ [] → (m : ℕ) → m < length g.modules → is_made (slice_get done m) ≡ true → IsSingle b.modules m) where
        single : (m : ℕ) → m < length g.modules → is_made (slice_get done m) ≡ true → IsSingle (all_modules g form) m
        single m less here = subst (λ ms. IsSingle ms m) is.modules (quiet (first_none list nothing_told) m less here)

        pub clear : all_clear done ≡ true
        clear = are_clear g form quiet_rings done made_all single

        pub ready : AreReady b.naming.own b.naming.imported b.naming.nothing done
        ready =
            subst (λ o. AreReady o b.naming.imported b.naming.nothing done) (sym is.own)
            (subst (λ i. AreReady (own_names g) i b.naming.nothing done) (sym is.imported)
            (subst (λ n. AreReady (own_names g) (reading g form).imported n done) (sym is.nothing_is) (are_ready g form quiet_rings done made_all single)))

-- the same answer for the same lists
pub judged_as : (library : Name) (h headers : List Name) (ls ms : List Form) (u used : List Exports) (r : Result Graph Refusal) → h ≡ headers → u ≡ used
    → IsJudged (record { library = library; headers = h; libraries = ls; modules = ms; used = u }) r → IsJudged (record { library = library; headers = headers; libraries = ls; modules = ms; used = used }) r
judged_as library h headers ls ms u used r e f is =
    subst (λ l. IsJudged (record { library = library; headers = headers; libraries = ls; modules = ms; used = l }) r) f
    (subst (λ l. IsJudged (record { library = library; headers = l; libraries = ls; modules = ms; used = u }) r) e is)

-- the answer where the forms are still to be read
module _ (library : Name) (headers : List Name) (used : List Exports) where
  pub read_fault : (read : Result (List Form) Place) (refusal : Refusal) → Answers read (Err refusal) → IsAnswer library headers read used (Err refusal)
  read_fault (Ok forms) (refusals.Fault fault) is = absurd is
  read_fault (Ok forms) refusals.Memory is = tt
  read_fault (Err place) (refusals.Fault fault) is = is
  read_fault (Err place) refusals.Memory is = tt

  pub no_memory : (read : Result (List Form) Place) → IsAnswer library headers read used (Err refusals.Memory)
  no_memory (Ok forms) = tt
  no_memory (Err place) = tt

  pub read_answer : (read : Result (List Form) Place) (forms : List Form) → read ≡ Ok forms → (ls ms : List Form) → ls ≡ libraries forms → ms ≡ modules forms → (r : Result Graph Refusal)
      → IsJudged (record { library = library; headers = headers; libraries = ls; modules = ms; used = used }) r → IsAnswer library headers read used r
  read_answer read forms e ls ms l m r is =
      subst (λ x. IsAnswer library headers x used r) (sym e)
      (subst (λ x. IsJudged (record { library = library; headers = headers; libraries = libraries forms; modules = x; used = used }) r) m
      (subst (λ x. IsJudged (record { library = library; headers = headers; libraries = x; modules = ms; used = used }) r) l is))
