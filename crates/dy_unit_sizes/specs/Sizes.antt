-- The laws of sizes of units. A part of a library is what has code of its own: a method, a
-- function, an init expression, or a form that runs.
use Rattle.std.specs.Prelude.{ℕ, ◌-◌, ◌*◌, ◌^◌, ◌≤◌, length}
use Rattle.dy_term.specs.declared.rows.LibraryRow.{LibraryRow}
use Rattle.dy_code.specs.Validity.{Every}
use Rattle.dy_lowered.specs.Bodies.{all_slots, bodies_of}
use Rattle.dy_lowered.specs.Tables.{tables_of}
use Rattle.dy_lowering_whole.specs.sizes.Nodes.{nodes_of_code, nodes_of_function, nodes_of_init}
use Rattle.dy_lowering_whole.specs.sizes.Nodes.{nodes_of_top, nodes_of_library}
use Rattle.dy_lowering_whole.specs.sizes.Sizes.{times, instructions_of, HoldsAtMost, IsSmall}

-- no part has more nodes than this
pub record PartsHaveAtMost (most : ℕ) (library : LibraryRow) : Type 0 where
  pub methods : Every (λ method. nodes_of_code method.code ≤ most) library.methods
  pub functions : Every (λ variable. nodes_of_function variable.function ≤ most) library.variables
  pub slots : Every (λ slot. nodes_of_init slot.init ≤ most) (all_slots library)
  pub tops : Every (λ top. nodes_of_top top ≤ most) library.tops

abbrev pub BodiesAreFew : Type 0
BodiesAreFew = (library : LibraryRow) → length (bodies_of library) ≤ nodes_of_library library

-- A closure stands in a part, so its body is no longer.
abbrev pub BodiesAreShort : Type 0
BodiesAreShort = (library : LibraryRow) (most : ℕ) → PartsHaveAtMost most library
    → Every (λ body. length body.code ≤ times * most) (bodies_of library)

-- A clause that counts by an evaluated step to an evaluated bound names the most items: 13 for four
-- nodes.
abbrev pub ItemsAreFew : Type 0
ItemsAreFew = (library : LibraryRow)
    → HoldsAtMost (4 * nodes_of_library library - 1) (tables_of (instructions_of library))

abbrev pub UnitsAreSmall : Type 0
UnitsAreSmall = (library : LibraryRow) → nodes_of_library library ≤ 2 ^ 30
    → PartsHaveAtMost (2 ^ 26 - 1) library → IsSmall library
