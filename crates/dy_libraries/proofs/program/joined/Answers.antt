use Rattle.std.proofs.Common.{length, map, sym, ap, ◌∙◌}
use Rattle.std.proofs.lemmas.List.{map-id}
use Rattle.std.proofs.lemmas.Iterator.{YieldsList-from_zip}
use Rattle.std.proofs.lemmas.Iterator.Adapters.{YieldsList-from_vec}
use Rattle.std.proofs.lemmas.Iterator.Consumers.{YieldsList-at, YieldsList-end}
use Rattle.dy_libraries.specs.Parts.{joined_library}
use Rattle.dy_libraries.proofs.program.joined.Goals as goal

pub returns : goal.returns
returns c =
    let inner = c.zip.ensures in
    let outer = c.zip-row-items.ensures in
    let rows =
    YieldsList-from_vec c.args.rows (c.into_iter.ensures.rest ∙ c.into_vec.ensures)
    (c.into_iter.ensures.len ∙ c.into_vec.result.ok.0 ∙ ap length c.into_vec.ensures) in
    let exports =
    YieldsList-from_vec c.args.exports (inner.second.0 ∙ c.into_vec-2.ensures)
    (inner.second.1 ∙ c.into_vec-2.result.ok.0 ∙ ap length c.into_vec-2.ensures) in
    let others = YieldsList-from_vec c.args.others.items outer.second.0 (outer.second.1 ∙ c.args.others.ok.0) in
    let pairs = YieldsList-from_zip (YieldsList-at inner.first rows) exports in
    let road = YieldsList-at c.into_iter-row-iterator.ensures.into_iter_gives (YieldsList-from_zip (YieldsList-at outer.first pairs) others) in
    let all =
    (YieldsList-end road c.loop-row.yielded c.loop-row.row-iterator c.loop-row.yielded_by
    c.next.result c.next.new.self c.in-None.is c.next.ensures.steps).0 in
    c.loop-row.invariant ∙ ap (map joined_library) (sym (map-id c.loop-row.yielded) ∙ all)
