-- Owners of names that are renumbered one time after another.
use Rattle.std.proofs.Common.{◌≡◌, ℕ, List, [], ◌∷◌, refl, ap, ◌∙◌}
use Rattle.dy_base.specs.declared.exports.Exports.{Exports}
use Rattle.dy_base.specs.declared.ids.BindingId.{BindingId}
use Rattle.dy_base.specs.declared.ids.What.{What}
use Rattle.dy_views.specs.Views.{Name, linked_names, linked_modules, linked_exports}

abbrev Names : Type 0
Names = List (Name × BindingId)

abbrev Modules : Type 0
Modules = List (Name × Names)

abbrev one_name : Name → What → (library row : ℕ) → Name × BindingId
one_name name what library row = (name, record { what = what; at = record { library = library; row = row } })

abbrev one_module : Name → Names → Name × Names
one_module name names = (name, names)

abbrev all_exports : Name → (modules seen : Modules) → Exports
all_exports library modules seen = record { library = library; modules = modules; seen = seen }

module _ (f g h : ℕ → ℕ) (same : (place : ℕ) → g (f place) ≡ h place) where
  names_same : (names : Names) → linked_names g (linked_names f names) ≡ linked_names h names
  names_same [] = refl
  names_same (name ∷ names) =
      ap (λ (library : ℕ). one_name name.0 name.1.what library name.1.at.row ∷ linked_names g (linked_names f names)) (same name.1.at.library)
      ∙ ap (λ (rest : Names). one_name name.0 name.1.what (h name.1.at.library) name.1.at.row ∷ rest) (names_same names)

  modules_same : (modules : Modules) → linked_modules g (linked_modules f modules) ≡ linked_modules h modules
  modules_same [] = refl
  modules_same (one ∷ modules) =
      ap (λ (names : Names). one_module one.0 names ∷ linked_modules g (linked_modules f modules)) (names_same one.1)
      ∙ ap (λ (rest : Modules). one_module one.0 (linked_names h one.1) ∷ rest) (modules_same modules)

  pub owners_same : (exports : Exports) → linked_exports g (linked_exports f exports) ≡ linked_exports h exports
  owners_same exports =
      ap (λ (modules : Modules). all_exports exports.library modules (linked_modules g (linked_modules f exports.seen))) (modules_same exports.modules)
      ∙ ap (λ (seen : Modules). all_exports exports.library (linked_modules h exports.modules) seen) (modules_same exports.seen)
