use Rattle.std.proofs.Common.{◌≡◌, ℕ, ◌+◌, List, [], ◌∷◌, ◌++◌, map, take, length, position, refl}
use Rattle.std.proofs.Common.{ap, sym, ◌∙◌, nat_cmp}
use Rattle.std.specs.FinMap.{get, get-empty}
use Rattle.std.specs.Str.{bytes_eq}
use Rattle.std.specs.Cmp.Lexicographic.{slice_cmp}
use Rattle.dy_code.specs.declared.unit.Unit.{Unit as CodeUnit}
use Rattle.dy_join.proofs.Numbered.{taken, count_taken}
use Rattle.dy_join.proofs.places.Names.of.Goals as goal

pub loop-unit-init : goal.loop-unit-init
loop-unit-init c =
    record {
      count = refl;
      held = λ name.
          ap (λ table. get table name) c.new-places.ensures ∙ get-empty (slice_cmp nat_cmp) name;
    }

pub loop-unit-preserved : goal.loop-unit-preserved
loop-unit-preserved c =
    let units = c.args.units.now in
    let place = c.loop-unit.unit-index in
    let name_of = λ (unit : CodeUnit). unit.name in
    let before : List (List ℕ) = map name_of (take place units) in
    let count : c.loop-unit.count ≡ length before =
    c.loop-unit.invariant.count ∙ sym (count_taken name_of units place c.loop-unit-test.true) in
    let noted = c.in_ok-note.ensures before c.loop-unit.invariant.held count in
    let names = (λ i. before ++ c.bytes.ensures.bytes i ∷ [])
    ∙ sym (taken name_of units place c.unit-item.result c.loop-unit-test.true c.unit-item.is) in
    record {
      count = c.in_ok-count.ensures ∙ ap (λ n. n + 1) c.loop-unit.invariant.count;
      held = λ name. noted name ∙ ap (position (bytes_eq name)) names;
    }
