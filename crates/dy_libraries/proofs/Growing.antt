-- One more library behind the others.
use Rattle.std.proofs.Common.{◌≡◌, ℕ, suc, zero, ◌+◌, ◌<◌, ◌^◌, List, [], ◌∷◌, ◌++◌, length, take, codes, refl, sym, ap, ◌∙◌, arith}
use Rattle.std.proofs.lemmas.List.{length_push}
use Rattle.dy_base.specs.declared.exports.Exports.{Exports}
use Rattle.dy_term.specs.declared.rows.LibraryRow.{LibraryRow}
use Rattle.dy_prims.specs.Rows.{dylan_row, io_row}
use Rattle.dy_built_in_exports.specs.Names.{exports_of}
use Rattle.dy_folded_names.proofs.Tables.{built_in_are_lower}
use Rattle.dy_views.specs.Views.{AreCompiled, AreThere, none_compiled, with_library}
use Rattle.dy_views.proofs.Standing.{none_are_compiled, one_more as compiled_more}
use Rattle.dy_libraries.specs.declared.libraries.Libraries.{Libraries}
use Rattle.dy_libraries.specs.Commands.{built_in, with_compiled, first_libraries, AreLibraries, IsNext}
use Rattle.dy_libraries.proofs.Names.{apart_more, two_apart}

-- ---- those that are built in

abbrev dylan : Exports
dylan = exports_of 0 (codes "dylan") (codes "dylan") dylan_row

abbrev io : Exports
io = exports_of 1 (codes "io") (codes "format-out") io_row

pub nothing_there : AreThere none_compiled []
nothing_there k d within = absurd (omega arith)

dylan_compiled : AreCompiled (with_library none_compiled dylan [] (0 ∷ []))
dylan_compiled = compiled_more none_compiled dylan [] (0 ∷ []) none_are_compiled nothing_there refl (omega arith)

pub dylan_there : (exports : Exports) (order : List ℕ) → AreThere (with_library none_compiled exports [] order) (0 ∷ [])
dylan_there exports order zero d within = omega arith
dylan_there exports order (suc k) d within = absurd (omega arith)

pub built_in_compiled : AreCompiled built_in.compiled
built_in_compiled = compiled_more (with_library none_compiled dylan [] (0 ∷ [])) io (0 ∷ []) (0 ∷ 1 ∷ []) dylan_compiled (dylan_there dylan (0 ∷ [])) refl (omega arith)

pub built_in_are : AreLibraries built_in
built_in_are = record {
  compiled = built_in_compiled;
  rows = refl;
  first = refl;
  lower = ((built_in_are_lower 0 (codes "dylan") (codes "dylan") dylan_row).0, ((built_in_are_lower 1 (codes "io") (codes "format-out") io_row).0, tt));
  apart = two_apart dylan.library io.library refl;
}

-- ---- one more

two_stay : {X : Type 0} (xs ys zs : List X) → length zs ≡ 2 → take 2 xs ≡ zs → take 2 (xs ++ ys) ≡ zs
two_stay [] ys zs two e = let none : length zs ≡ 0 = sym (ap length e) in absurd (omega arith)
two_stay (x ∷ []) ys zs two e = let one : length zs ≡ 1 = sym (ap length e) in absurd (omega arith)
two_stay (x ∷ y ∷ xs) ys zs two e = e

module _ (libraries : Libraries) (row : LibraryRow) (exports : Exports) (uses order : List ℕ) (are : AreLibraries libraries) (fits : length libraries.rows + 1 < 2 ^ 32) (next : IsNext libraries exports uses order) where
  first_stay : first_libraries 2 (with_compiled libraries row exports uses order) ≡ built_in
  first_stay = λ i. record {
    compiled = record {
      exports = two_stay libraries.compiled.exports (exports ∷ []) built_in.compiled.exports refl (ap (λ (l : Libraries). l.compiled.exports) are.first) i;
      uses = two_stay libraries.compiled.uses (uses ∷ []) built_in.compiled.uses refl (ap (λ (l : Libraries). l.compiled.uses) are.first) i;
      orders = two_stay libraries.compiled.orders (order ∷ []) built_in.compiled.orders refl (ap (λ (l : Libraries). l.compiled.orders) are.first) i;
    };
    rows = two_stay libraries.rows (row ∷ []) built_in.rows refl (ap (λ (l : Libraries). l.rows) are.first) i;
  }

  pub one_more : AreLibraries (with_compiled libraries row exports uses order)
  one_more = record {
    compiled = compiled_more libraries.compiled exports uses order are.compiled next.there next.view (let same = are.rows in omega arith);
    rows = length_push libraries.rows row ∙ ap (λ (count : ℕ). count + 1) are.rows ∙ sym (length_push libraries.compiled.exports exports);
    first = first_stay;
    lower = next.lower;
    apart = apart_more libraries.compiled.exports exports are.apart next.new;
  }
