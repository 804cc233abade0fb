-- Telling forms one by one gives those whose names are taken.
use Rattle.std.proofs.Common.{◌≡◌, Bool, true, false, not, ◌||◌, ◌&&◌, cond, List, [], ◌∷◌, ◌++◌}
use Rattle.std.proofs.Common.{refl, sym, ap, ◌∙◌}
use Rattle.std.specs.Str.{bytes_eq}
use Rattle.std.specs.List.{list_any}
use Rattle.std.proofs.lemmas.List.{append_assoc, append-nil}
use Rattle.std.proofs.lemmas.List.Folds.{list_any-append}
use Rattle.dy_base.specs.declared.fault.Fault.{Fault}
use Rattle.dy_module_forms.specs.declared.written.Form.{Form}
use Rattle.dy_modules.specs.Clauses.{Name, is_one_of}
use Rattle.dy_module_numbers.specs.Options.{with_name, with_names}
use Rattle.dy_module_numbers.specs.Sorting.{is_of_library}
use Rattle.dy_doubled.specs.Doubled.{defines, is_doubled, redefined, doubled_behind}
use Rattle.dy_doubled.specs.Passes.{with_form_name, told_form, told_all}
use Rattle.dy_doubled.proofs.Names.{or_false, or_assoc, has_name, has_names}

module _ (imported : List Name) where
  -- the names that are taken: those that are imported, and those of earlier forms
  abbrev Says : List Name → List Form → Type 0
  Says taken before = (n : Name)
      → is_one_of taken n ≡ (is_one_of imported n || list_any (defines n) before)

  says_more : (taken : List Name) (before : List Form) (form : Form) → Says taken before
      → Says (with_form_name taken form) (before ++ form ∷ [])
  says_more taken before form says n = by_kind (is_of_library form.kind)
      ∙ sym (ap (λ b. is_one_of imported n || b) (list_any-append (defines n) before (form ∷ [])))
    where
      by_kind : (b : Bool) → is_one_of (cond b taken (with_name taken form.name)) n
          ≡ (is_one_of imported n
          || (list_any (defines n) before || ((not b && bytes_eq n form.name) || false)))
      by_kind true =
          says n ∙ ap (λ b. is_one_of imported n || b)
          (sym (or_false (list_any (defines n) before)))
      by_kind false =
          has_name taken form.name n ∙ ap (λ b. b || bytes_eq n form.name) (says n)
          ∙ or_assoc (is_one_of imported n) (list_any (defines n) before) (bytes_eq n form.name)
          ∙ ap (λ b. is_one_of imported n || (list_any (defines n) before || b))
          (sym (or_false (bytes_eq n form.name)))

  same_form : (taken : List Name) (before : List Form) (form : Form) → Says taken before
      → (rest : List Fault) → told_form taken form ++ rest
      ≡ cond (is_doubled imported before form) (redefined form ∷ rest) rest
  same_form taken before form says rest = by_kind (is_of_library form.kind)
    where
      by_taken : (b : Bool) → cond b (redefined form ∷ []) [] ++ rest
          ≡ cond b (redefined form ∷ rest) rest
      by_taken true = refl
      by_taken false = refl

      by_kind : (b : Bool)
          → cond b [] (cond (is_one_of taken form.name) (redefined form ∷ []) []) ++ rest
          ≡ cond (not b && (is_one_of imported form.name || list_any (defines form.name) before))
          (redefined form ∷ rest) rest
      by_kind true = refl
      by_kind false =
          by_taken (is_one_of taken form.name)
          ∙ ap (λ b. cond b (redefined form ∷ rest) rest) (says form.name)

  told_are : (forms before : List Form) (taken : List Name) (list : List Fault) → Says taken before
      → told_all list taken forms ≡ list ++ doubled_behind imported before forms
  told_are [] before taken list says = sym (append-nil list)
  told_are (form ∷ forms) before taken list says =
      let rest = doubled_behind imported (before ++ form ∷ []) forms in
      told_are forms (before ++ form ∷ []) (with_form_name taken form)
      (list ++ told_form taken form) (says_more taken before form says)
      ∙ append_assoc list (told_form taken form) rest
      ∙ ap (λ l. list ++ l) (same_form taken before form says rest)

  -- from the names that are imported on
  pub all_told : (forms : List Form)
      → told_all [] (with_names [] imported) forms ≡ doubled_behind imported [] forms
  all_told forms = told_are forms [] (with_names [] imported) []
      (λ n. has_names [] imported n ∙ sym (or_false (is_one_of imported n)))
