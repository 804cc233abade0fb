-- Modules that are put in the place of others.
use Rattle.std.proofs.Common.{◌≡◌, ℕ, zero, suc, ◌+◌, ◌<◌, List, [], ◌∷◌, ◌++◌, length, take, drop, Option, Some, None, slice_get, slice_set, refl, sym, ap, ◌∙◌, arith}
use Rattle.dy_base.specs.Tables.{NamedList}
use Rattle.dy_module_forms.specs.declared.written.Form.{Form}
use Rattle.dy_modules.specs.declared.clause.ModuleForm.{ModuleForm}
use Rattle.dy_modules.specs.Clauses.{Name}
use Rattle.dy_modules.proofs.Rows.{some_is, none_is, one_more}
use Rattle.dy_module_numbers.specs.Modules.{module_form, module_forms}

module _ (own : List Name) (imported : NamedList ℕ) (none : ℕ) where
  abbrev made : ℕ → Form → ModuleForm
  made k f = module_form own imported none k f

  abbrev all_made : ℕ → List Form → List ModuleForm
  all_made k forms = module_forms own imported none k forms

  put_suc : (k : ℕ) (forms : List Form) (old : List ModuleForm) (m : ℕ) (f : Form) → slice_get forms m ≡ Some f → m < length old
      → slice_set (all_made k (take m forms) ++ drop m old) m (made (k + m) f) ≡ all_made k (take (suc m) forms) ++ drop (suc m) old
  put_suc k [] old m f at h = absurd (none_is f at)
  put_suc k (g ∷ forms) [] m f at h = absurd (omega (arith, h))
  put_suc k (g ∷ forms) (y ∷ old) zero f at h =
      let place : k + zero ≡ k = omega arith in
      ap (λ j. made j f ∷ old) place ∙ ap (λ x. made k x ∷ old) (sym (some_is g f at))
  put_suc k (g ∷ forms) (y ∷ old) (suc m) f at h =
      let place : k + suc m ≡ k + 1 + m = omega arith in
      ap (λ j. made k g ∷ slice_set (all_made (k + 1) (take m forms) ++ drop m old) m (made j f)) place
      ∙ ap (λ l. made k g ∷ l) (put_suc (k + 1) forms old m f at (omega (arith, h)))

  -- one module more is put
  pub put_more : (forms : List Form) (old now : List ModuleForm) (m : ℕ) (f : Form) → now ≡ all_made 0 (take m forms) ++ drop m old → slice_get forms m ≡ Some f → m < length old
      → slice_set now m (made m f) ≡ all_made 0 (take (m + 1) forms) ++ drop (m + 1) old
  put_more forms old now m f is at h =
      let here : m ≡ 0 + m = omega arith in
      ap (λ l. slice_set l m (made m f)) is ∙ ap (λ j. slice_set (all_made 0 (take m forms) ++ drop m old) m (made j f)) here
      ∙ put_suc 0 forms old m f at h ∙ ap (λ j. all_made 0 (take j forms) ++ drop j old) (one_more m)

pub set_count : {X : Type 0} (xs : List X) (i : ℕ) (x : X) → length (slice_set xs i x) ≡ length xs
set_count [] i x = refl
set_count (y ∷ xs) zero x = refl
set_count (y ∷ xs) (suc i) x = ap suc (set_count xs i x)
