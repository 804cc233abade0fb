use Rattle.std.proofs.Common.{◌<◌, ◌^◌, ℕ, map, sym, ap, subst, ◌∙◌}
use Rattle.std.proofs.lemmas.List.{length-map}
use Rattle.dy_term.specs.Types.{seen_type}
use Rattle.dy_type_names.specs.Constants.{row_owned}
use Rattle.dy_type_names.specs.RowTables.{seen_written}
use Rattle.dy_type_names.proofs.Filling.{table_kept, table_added}
use Rattle.dy_type_names.proofs.row_table.RowTable.put.Goals as goal

pub returns-in_ok-add-in-Some : goal.returns-in_ok-add-in-Some
returns-in_ok-add-in-Some c = λ table constants name e T.
    table_added table c.args.library constants (map seen_written c.args.self.now.written.items) (map seen_written c.add.new.self.written.items) c.args.self.now.rows.items c.add.new.self.rows.items
    (name, seen_type c.args.declared.now) c.in-Some.row T (ap (row_owned c.args.library) e ∙ sym c.row_owned.ensures ∙ c.in-Some.is) c.in_ok-add-in-Some.ensures.at c.in_ok-add-in-Some.ensures.rows
    (subst (λ (n : ℕ). n < 2 ^ 32) (sym (length-map c.add.new.self.written.items seen_written)) c.in_ok-add-in-Some.ensures.least)

pub returns-in-None : goal.returns-in-None
returns-in-None c = λ table constants name e T.
    table_kept table c.args.library constants (map seen_written c.args.self.now.written.items) c.args.self.now.rows.items
    (name, seen_type c.args.declared.now) T (ap (row_owned c.args.library) e ∙ sym c.row_owned.ensures ∙ c.in-None.is)
