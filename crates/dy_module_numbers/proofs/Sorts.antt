-- Forms sorted one after the other.
use Rattle.std.proofs.Common.{◌≡◌, Bool, true, false, if◌then◌else◌, ◌||◌, List, [], ◌∷◌, ◌++◌, map, append_assoc, append-nil, refl, sym, ap, ◌∙◌}
use Rattle.dy_module_forms.specs.declared.written.Form.{Form}
use Rattle.dy_modules.specs.Clauses.{Name, is_one_of}
use Rattle.dy_module_numbers.specs.declared.sorting.Sorted.{Sorted}
use Rattle.dy_module_numbers.specs.Sorting.{is_of_library, libraries, modules_without, modules, form_name, with_form, after_forms, nothing_sorted}

abbrev with_kind : Sorted → Form → Bool → Bool → Sorted
with_kind s f b c = if b then record { libraries = s.libraries ++ f ∷ []; modules = s.modules; names = s.names }
    else if c then s else record { libraries = s.libraries; modules = s.modules ++ f ∷ []; names = s.names ++ f.name ∷ [] }

libraries_after : (s : Sorted) (fs : List Form) → (after_forms s fs).libraries ≡ s.libraries ++ libraries fs
libraries_after s [] = sym (append-nil s.libraries)
libraries_after s (f ∷ fs) = libraries_after (with_form s f) fs ∙ by_kind (is_of_library f.kind) (is_one_of s.names f.name)
  where
    by_kind : (b c : Bool) → (with_kind s f b c).libraries ++ libraries fs ≡ s.libraries ++ (if b then f ∷ libraries fs else libraries fs)
    by_kind true c = append_assoc s.libraries (f ∷ []) (libraries fs)
    by_kind false true = refl
    by_kind false false = refl

modules_after : (s : Sorted) (fs : List Form) → (after_forms s fs).modules ≡ s.modules ++ modules_without s.names fs
modules_after s [] = sym (append-nil s.modules)
modules_after s (f ∷ fs) = modules_after (with_form s f) fs ∙ by_kind (is_of_library f.kind) (is_one_of s.names f.name)
  where
    by_kind : (b c : Bool) → (with_kind s f b c).modules ++ modules_without (with_kind s f b c).names fs ≡ s.modules ++ (if b || c then modules_without s.names fs else f ∷ modules_without (s.names ++ f.name ∷ []) fs)
    by_kind true c = refl
    by_kind false true = refl
    by_kind false false = append_assoc s.modules (f ∷ []) (modules_without (s.names ++ f.name ∷ []) fs)

names_after : (s : Sorted) (fs : List Form) → (after_forms s fs).names ≡ s.names ++ map form_name (modules_without s.names fs)
names_after s [] = sym (append-nil s.names)
names_after s (f ∷ fs) = names_after (with_form s f) fs ∙ by_kind (is_of_library f.kind) (is_one_of s.names f.name)
  where
    by_kind : (b c : Bool) → (with_kind s f b c).names ++ map form_name (modules_without (with_kind s f b c).names fs) ≡ s.names ++ map form_name (if b || c then modules_without s.names fs else f ∷ modules_without (s.names ++ f.name ∷ []) fs)
    by_kind true c = refl
    by_kind false true = refl
    by_kind false false = append_assoc s.names (f.name ∷ []) (map form_name (modules_without (s.names ++ f.name ∷ []) fs))

pub libraries_are : (fs : List Form) → (after_forms nothing_sorted fs).libraries ≡ libraries fs
libraries_are fs = libraries_after nothing_sorted fs

pub modules_are : (fs : List Form) → (after_forms nothing_sorted fs).modules ≡ modules fs
modules_are fs = modules_after nothing_sorted fs

pub names_are : (fs : List Form) → (after_forms nothing_sorted fs).names ≡ map form_name (modules fs)
names_are fs = names_after nothing_sorted fs
