use Rattle.std.proofs.Common.{◌≡◌, ◌++◌, map, OnOk, sym, ap, subst, ◌∙◌}
use Rattle.dy_term.specs.Types.{CoreType, union, seen_type, types_of}
use Rattle.dy_term.proofs.Made.{seen_union}
use Rattle.dy_type_names.specs.Constants.{names_in}
use Rattle.dy_type_names.specs.RowTables.{rows_used, seen_written}
use Rattle.dy_type_names.proofs.row_table.+uses.Goals as goal

pub add_uses-returns-in-Union : goal.add_uses-returns-in-Union
add_uses-returns-in-Union g t c =
    let e : seen_type c.args.draft.now ≡ union c.in-Union.field-0 (types_of (map seen_type c.in-Union.parts.items)) = ap seen_type c.in-Union.is ∙ seen_union c.in-Union.field-0 c.in-Union.parts in
    subst (λ (type : CoreType). OnOk c.add_uses_of.result (c.add_uses_of.new.used ≡ c.args.used.now ++ rows_used (g.E.Environment.outside c.args.names.now).owner c.args.library (map seen_written c.args.written.now) (names_in type)))
    (sym e) c.add_uses_of.ensures
