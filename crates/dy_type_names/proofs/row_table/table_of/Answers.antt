use Rattle.std.proofs.Common.{◌≡◌, ◌<◌, ◌+◌, ◌^◌, ◌++◌, ◌∷◌, ℕ, [], List, map, take, length, sym, ap, subst, ◌∙◌, arith}
use Rattle.std.proofs.lemmas.List.{length-map, map_more}
use Rattle.dy_type_names.specs.Constants.{Constant}
use Rattle.dy_type_names.specs.RowTables.{seen_written, seen_constant, IsTable}
use Rattle.dy_type_names.proofs.Filling.{table_empty}
use Rattle.dy_type_names.proofs.row_table.table_of.Goals as goal

pub put-requires : goal.put-requires
put-requires g c = subst (λ (n : ℕ). n < 2 ^ 32) (length-map c.loop-name.table.written.items seen_written) c.loop-name.invariant.least

pub loop-name-init : goal.loop-name-init
loop-name-init g c =
    table_empty (g.E.Environment.outside c.args.names.now).owner c.args.library (map seen_written c.new.result.items) c.new-2.result.items (ap (map seen_written) c.new.ensures.items) c.new-2.ensures.items (omega arith)

pub loop-name-preserved : goal.loop-name-preserved
loop-name-preserved g c =
    let table = (g.E.Environment.outside c.args.names.now).owner in
    let all = c.args.constants.now in
    let i = c.loop-name.name-index in
    let item = c.loop-name-item.result in
    let lt : i < length all = c.loop-name-test.true in
    let more : map seen_constant (take (i + 1) all) ≡ map seen_constant (take i all) ++ seen_constant item ∷ [] =
    map_more seen_constant all i item lt ∙ ap (λ d. map seen_constant (take i all) ++ seen_constant d ∷ []) (sym c.loop-name-item.is) in
    subst (λ (constants : List Constant). IsTable table c.args.library constants (map seen_written c.put.new.self.written.items) c.put.new.self.rows.items) (sym more)
    (c.in_ok-put.ensures table (map seen_constant (take i all)) item.0.now (sym c.in_ok-owner.ensures) c.loop-name.invariant)
