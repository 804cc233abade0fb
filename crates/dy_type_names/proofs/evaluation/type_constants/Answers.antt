use Rattle.std.proofs.Common.{◌≡◌, ◌↔◌, ℕ, Bool, true, List, map, slice_get, Some, sym, ap, subst, ◌∙◌}
use Rattle.dy_term.specs.Rows.{seen_draft}
use Rattle.dy_rings.specs.Rings.{Leads, IsBehindUsed}
use Rattle.dy_type_names.specs.Constants.{constants_of}
use Rattle.dy_type_names.specs.RowTables.{seen_constant, seen_written, uses_of, told_on}
use Rattle.dy_type_names.specs.Standings.{standing_in}
use Rattle.dy_type_names.specs.Evaluations.{AreEvaluated}
use Rattle.dy_type_names.proofs.Setting.{Drafts}
use Rattle.dy_type_names.proofs.Whole.{whole}
use Rattle.dy_type_names.proofs.evaluation.type_constants.Goals as goal

pub evaluate-requires-clause-rings : goal.evaluate-requires-clause-rings
evaluate-requires-clause-rings g c =
    let table = (g.E.Environment.outside c.args.names.now).owner in
    let used : c.as_slice-3.result.now ≡ uses_of table c.args.library (map seen_written c.as_slice-4.result.now) =
    c.as_slice-3.ensures.value ∙ c.in_ok-uses.ensures ∙ ap (λ (ws : Drafts). uses_of table c.args.library (map seen_written ws)) (c.as_slice-2.ensures.value ∙ sym c.as_slice-4.ensures.value) in
    λ i. subst (λ (us : List (List ℕ)). (slice_get c.in_ok-found.found.on_ring i ≡ Some true) ↔ Leads us i i) used (c.in_ok-found.ensures.rings i)

pub evaluate-requires-clause-order : goal.evaluate-requires-clause-order
evaluate-requires-clause-order g c =
    let table = (g.E.Environment.outside c.args.names.now).owner in
    let used : c.as_slice-3.result.now ≡ uses_of table c.args.library (map seen_written c.as_slice-4.result.now) =
    c.as_slice-3.ensures.value ∙ c.in_ok-uses.ensures ∙ ap (λ (ws : Drafts). uses_of table c.args.library (map seen_written ws)) (c.as_slice-2.ensures.value ∙ sym c.as_slice-4.ensures.value) in
    subst (λ (us : List (List ℕ)). IsBehindUsed us c.in_ok-found.found.order) used c.in_ok-found.ensures.order

pub returns : goal.returns
returns g c =
    let table = (g.E.Environment.outside c.args.names.now).owner in
    let library = c.args.library in
    let ws = c.in_ok-table.table.written.items in
    let rows = c.in_ok-table.table.rows.items in
    let written = map seen_written ws in
    let on_ring = c.in_ok-found.found.on_ring in
    let order = c.in_ok-found.found.order in
    let constants = constants_of (map (λ f. (f.0, seen_draft f.1)) c.args.forms.now) in
    let listed : map seen_constant c.as_slice.result.now ≡ constants = ap (map seen_constant) c.as_slice.ensures.value ∙ c.in_ok-constants.ensures in
    let used : c.as_slice-3.result.now ≡ uses_of table library written =
    c.as_slice-3.ensures.value ∙ c.in_ok-uses.ensures ∙ ap (λ (xs : Drafts). uses_of table library (map seen_written xs)) c.as_slice-2.ensures.value in
    let evaluated = subst (λ (xs : Drafts). AreEvaluated table library (map seen_written xs) on_ring order (standing_in c.add_rows.new.types) (standing_in c.evaluate.new.types)) c.as_slice-4.ensures.value c.in_ok-evaluate.ensures in
    let told : c.in_ok-faults.faults ≡ told_on written on_ring rows = c.in_ok-faults.ensures ∙ ap (λ (is : List Bool). told_on written is rows) c.as_slice-5.ensures in
    whole table library constants (map seen_constant c.as_slice.result.now) written rows on_ring order c.as_slice-3.result.now (standing_in c.args.types) (standing_in c.add_rows.new.types) (standing_in c.evaluate.new.types) c.in_ok-faults.faults
    listed c.in_ok-table.ensures used c.in_ok-found.ensures.rings c.in_ok-found.ensures.order c.in_ok-add_rows.ensures.standing evaluated told
