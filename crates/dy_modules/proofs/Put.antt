-- What a table says after a name is put.
use Rattle.std.proofs.Common.{◌≡◌, Bool, true, false, cond, nat_cmp, Option, Some, refl, sym, ap, ◌∙◌}
use Rattle.std.specs.Str.{bytes_eq}
use Rattle.std.specs.Cmp.Lexicographic.{slice_cmp, nat_list_cmp_total, texts_ties}
use Rattle.std.specs.FinMap.{get, insert, get-insert}
use Rattle.dy_base.specs.Tables.{NamedList, table_of}
use Rattle.dy_modules.specs.declared.table.Cell.{Cell}
use Rattle.dy_modules.specs.Clauses.{Name}
use Rattle.dy_modules.specs.Cells.{plus, at}
use Rattle.dy_modules.proofs.Rows.{same_names}

pub put_one : (old new : NamedList Cell) (name : Name) (v : Cell) → table_of new ≡ insert (table_of old) name v
    → (n : Name) → at new n ≡ cond (bytes_eq n name) (Some v) (at old n)
put_one old new name v is n =
    ap (λ t. get t n) is
    ∙ get-insert nat_list_cmp_total (table_of old) name v n
    ∙ ap (λ b. cond b (Some v) (at old n)) (sym (texts_ties n name))

-- a cell that comes to a name, and to no other
pub added : (old new : NamedList Cell) (name : Name) (v cell : Cell) → table_of new ≡ insert (table_of old) name v → Some v ≡ plus (at old name) cell
    → (n : Name) → at new n ≡ cond (bytes_eq n name) (plus (at old n) cell) (at old n)
added old new name v cell is value n = put_one old new name v is n ∙ by_case (bytes_eq n name) refl
  where
    by_case : (b : Bool) → bytes_eq n name ≡ b → cond b (Some v) (at old n) ≡ cond b (plus (at old n) cell) (at old n)
    by_case true e = value ∙ ap (λ m. plus (at old m) cell) (sym (same_names n name e))
    by_case false e = refl
