-- What a library sees of those that were compiled before it (DRM 4, "Libraries"; the numbers are
-- own). Libraries are numbered in the order in which they are compiled, and in a view by their
-- places in its load order.
use Rattle.std.specs.Prelude.{◌≡◌, ◌<◌, ◌^◌, ℕ, Bool, nat_eq, if◌then◌else◌, List, [], ◌∷◌, ◌++◌}
use Rattle.std.specs.Prelude.{map, flat_map, fold, filter_map, length, position, All, EachIndex}
use Rattle.std.specs.Prelude.{slice_index_or, unwrap_or, Option}
use Rattle.std.specs.List.{list_any}
use Rattle.std.specs.Str.{bytes_eq}
use Rattle.dy_base.specs.declared.exports.Exports.{Exports}
use Rattle.dy_base.specs.declared.ids.BindingId.{BindingId}
use Rattle.dy_module_forms.specs.declared.written.Clause.{Clause}
use Rattle.dy_module_forms.specs.declared.written.Clause.TheVariants as clauses
use Rattle.dy_module_forms.specs.declared.written.Placed.{Placed}
use Rattle.dy_load_order.specs.LoadOrder.{AreEarlier, load_order, place_in}
use Rattle.dy_lowered.specs.Linking.{linked_name}
use Rattle.dy_views.specs.declared.compiled.Compiled.{Compiled}

abbrev pub Name : Type 0
Name = List ℕ

-- ---- the libraries that clauses name

abbrev pub is_library : Name → Exports → Bool
is_library name library = bytes_eq library.library name

-- the number of the library of a name
abbrev pub number_of : List Exports → Name → Option ℕ
number_of compiled name = position (is_library name) compiled

abbrev pub used_by_clause : Clause → List Name
used_by_clause (clauses.Use name options) = name ∷ []
used_by_clause (clauses.Export names) = []
used_by_clause (clauses.Create names) = []

-- the libraries that clauses name
abbrev pub used_names : List Placed → List Name
used_names clauses = flat_map (λ clause. used_by_clause clause.clause) clauses

-- a number behind others, unless it is there already
abbrev pub with_number : List ℕ → ℕ → List ℕ
with_number numbers number =
    if list_any (λ other. nat_eq other number) numbers then numbers else numbers ++ number ∷ []

-- The numbers of libraries of these names behind others, each once. Those that were not compiled
-- have none.
abbrev pub with_numbers : List Exports → List ℕ → List Name → List ℕ
with_numbers compiled numbers names =
    fold with_number numbers (filter_map (number_of compiled) names)

-- the numbers of those that were compiled, in the order of the clauses, each once
abbrev pub used_numbers : List Exports → List Placed → List ℕ
used_numbers compiled clauses = with_numbers compiled [] (used_names clauses)

-- ---- what they export, by the places of another view

-- the places of libraries, where each is found so, and 0 for those that are not found
abbrev pub places_by : (ℕ → Option ℕ) → List ℕ → List ℕ
places_by find libraries = map (λ library. unwrap_or (find library) 0) libraries

-- the new place of what has this one, and 0 for what is behind all
abbrev pub new_place : List ℕ → ℕ → ℕ
new_place places place = slice_index_or places place 0

-- owners of names, where libraries are at these places
abbrev pub linked_names : (ℕ → ℕ) → List (Name × BindingId) → List (Name × BindingId)
linked_names places names = map (λ name. (name.0, linked_name places name.1)) names

abbrev pub linked_modules : (ℕ → ℕ) → List (Name × List (Name × BindingId))
    → List (Name × List (Name × BindingId))
linked_modules places modules = map (λ one. (one.0, linked_names places one.1)) modules

abbrev pub linked_exports : (ℕ → ℕ) → Exports → Exports
linked_exports places exports = record {
  library = exports.library;
  modules = linked_modules places exports.modules;
  seen = linked_modules places exports.seen;
}

abbrev pub no_exports : Exports
no_exports = record { library = []; modules = []; seen = [] }

-- what a library exports, where each library is found at such a place
abbrev pub exports_by : (ℕ → Option ℕ) → Compiled → ℕ → Exports
exports_by find compiled library =
    linked_exports (new_place (places_by find (slice_index_or compiled.orders library [])))
    (slice_index_or compiled.exports library no_exports)

-- what a library exports, by the places of this view
abbrev pub exports_in : Compiled → List ℕ → ℕ → Exports
exports_in compiled order library = exports_by (place_in order) compiled library

-- ---- the libraries that were compiled

-- the view of the library that is compiled next, where its clauses name these libraries
abbrev pub order_of : Compiled → List ℕ → List ℕ
order_of compiled used = load_order (compiled.uses ++ used ∷ []) (length compiled.uses)

-- Each uses those in front of it, and its view is its load order. Their numbers fit.
pub record AreCompiled (compiled : Compiled) : Type 0 where
  pub fit : length compiled.exports < 2 ^ 32
  pub uses : length compiled.uses ≡ length compiled.exports
  pub orders : length compiled.orders ≡ length compiled.exports
  pub earlier : AreEarlier compiled.uses
  pub loaded : EachIndex compiled.orders (λ library.
      slice_index_or compiled.orders library [] ≡ load_order compiled.uses library)

abbrev pub none_compiled : Compiled
none_compiled = record { exports = []; uses = []; orders = [] }

-- these are numbers of libraries that were compiled
abbrev pub AreThere : Compiled → List ℕ → Type 0
AreThere compiled used = All (λ number. number < length compiled.exports) used

-- one more library behind the others
abbrev pub with_library : Compiled → Exports → (uses order : List ℕ) → Compiled
with_library compiled exports uses order = record {
  exports = compiled.exports ++ exports ∷ [];
  uses = compiled.uses ++ uses ∷ [];
  orders = compiled.orders ++ order ∷ [];
}
