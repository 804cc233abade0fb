use Rattle.std.proofs.Common.{◌≡◌, ◌<◌, List, Vec, Global, length, slice_get, option_map, Some, sym, ap, subst, ◌∙◌, arith}
use Rattle.std.proofs.lemmas.List.{map-set, length-map}
use Rattle.std.specs.Vec.{with_item}
use Rattle.dy_type_names.specs.declared.standing.Standing.{Standing}
use Rattle.dy_type_names.specs.Standings.{Rows, rows_in, standing_by, IsThere}
use Rattle.dy_type_names.proofs.Setting.{got, at_binding, there_low, there_within, there_still}
use Rattle.dy_type_names.proofs.Tables.{get_map}
use Rattle.dy_type_names.proofs.standing.NamedTypes.set.Goals as goal

pub returns-clause-standing : goal.returns-clause-standing
returns-clause-standing c =
    let items = c.args.self.now.libraries.items in
    let rows = rows_in c.args.self.now in
    let library = c.args.library in
    let row = c.args.row in
    let r = c.index_mut.result.now in
    let of_vec : Vec Standing Global → List Standing = λ v. v.items in
    let low : library < length rows = there_low rows library row c.requires in
    let within_items : library < length items = let m = length-map items of_vec in omega (arith, low, m) in
    let e : slice_get rows library ≡ Some r.items =
    get_map of_vec items library ∙ ap (option_map of_vec) (got items library r within_items) ∙ ap (λ (v : Vec Standing Global). Some (of_vec v)) (sym c.index_mut.ensures.value) in
    let within : row < length r.items = there_within rows library row r.items e c.requires in
    λ b. ap (λ (rs : Rows). standing_by rs b b.what) (map-set of_vec items library (with_item r row c.args.standing))
    ∙ at_binding rows library row r.items c.args.standing e low within b b.what

pub returns-clause-there : goal.returns-clause-there
returns-clause-there c =
    let items = c.args.self.now.libraries.items in
    let rows = rows_in c.args.self.now in
    let library = c.args.library in
    let row = c.args.row in
    let r = c.index_mut.result.now in
    let of_vec : Vec Standing Global → List Standing = λ v. v.items in
    let low : library < length rows = there_low rows library row c.requires in
    let within_items : library < length items = let m = length-map items of_vec in omega (arith, low, m) in
    let e : slice_get rows library ≡ Some r.items =
    get_map of_vec items library ∙ ap (option_map of_vec) (got items library r within_items) ∙ ap (λ (v : Vec Standing Global). Some (of_vec v)) (sym c.index_mut.ensures.value) in
    let within : row < length r.items = there_within rows library row r.items e c.requires in
    λ n t. subst (λ (rs : Rows). IsThere library n rs) (sym (map-set of_vec items library (with_item r row c.args.standing)))
    (there_still rows library row n r.items c.args.standing e low within t)
