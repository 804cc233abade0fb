-- The definitions at an example, which they compute.
use Rattle.std.proofs.Common.{◌≡◌, ℕ, List, [], ◌∷◌, map, codes, refl}
use Rattle.dy_base.specs.declared.exports.Exports.{Exports}
use Rattle.dy_term.specs.declared.rows.LibraryRow.{LibraryRow}
use Rattle.dy_code.specs.declared.unit.Library.{Library}
use Rattle.dy_libraries.specs.declared.libraries.Libraries.{Libraries}
use Rattle.dy_libraries.specs.Programs.{no_row, others_of, libraries_of}

abbrev exported : List ℕ → Exports
exported name = record { library = name; modules = []; seen = [] }

abbrev row : List ℕ → LibraryRow
row name = record no_row { name = name }

-- Behind those that are built in stand `one`, which uses `io`; `two`, which uses none but `dylan`;
-- and `main`, which uses `two` and `io`.
abbrev five : Libraries
five = record {
  compiled = record {
    exports = map exported (codes "dylan" ∷ codes "io" ∷ codes "one" ∷ codes "two" ∷ codes "main" ∷ []);
    uses = [] ∷ (0 ∷ []) ∷ (1 ∷ []) ∷ [] ∷ (3 ∷ 1 ∷ []) ∷ [];
    orders = (0 ∷ []) ∷ (0 ∷ 1 ∷ []) ∷ (0 ∷ 1 ∷ 2 ∷ []) ∷ (0 ∷ 3 ∷ []) ∷ (0 ∷ 3 ∷ 1 ∷ 4 ∷ []) ∷ [];
  };
  rows = map row (codes "dylan" ∷ codes "io" ∷ codes "one" ∷ codes "two" ∷ codes "main" ∷ []);
}

-- What a main library does not use is left out, and the others come in load order.
in_load_order : map (λ (library : Library). library.row.name) (libraries_of five 4) ≡ codes "dylan" ∷ codes "two" ∷ codes "io" ∷ codes "main" ∷ []
in_load_order = refl

-- None uses itself.
without_itself : map (λ (other : List ℕ × List ℕ). other.0) (others_of five.compiled 4) ≡ codes "dylan" ∷ codes "two" ∷ codes "io" ∷ []
without_itself = refl

dylan_uses_none : others_of five.compiled 0 ≡ []
dylan_uses_none = refl
