use Rattle.std.proofs.Common.{◌≡◌, ◌∷◌, ◌+◌, ◌-◌, ◌<◌, ◌≤◌, ℕ, nat_lt, if◌then◌else◌, Option, Some, None, ap₂, List, map, drop, length, OnOk, sym, ap, subst, ◌∙◌, arith}
use Rattle.std.proofs.lemmas.List.{at_drop_more, at_drop_all}
use Rattle.dy_term.specs.declared.draft.DraftType.{DraftType}
use Rattle.dy_term.specs.Types.{CoreType, union, seen_type, types_of}
use Rattle.dy_term.proofs.Made.{seen_union}
use Rattle.dy_type_names.specs.declared.reading.Reading.{Reading}
use Rattle.dy_base.specs.declared.fault.Fault.{Fault}
use Rattle.dy_type_names.specs.Members.{first_of_both, too_many, union_read, read_members, read_parts}
use Rattle.dy_type_names.specs.Readings.{read_on}
use Rattle.dy_type_names.specs.Standings.{standing_in}
use Rattle.dy_type_names.proofs.ReadParts.{read_on_both, read_on_nothing, union_done}
use Rattle.dy_type_names.proofs.reading.+types.Goals as goal

pub read_type-returns-in-Union : goal.read_type-returns-in-Union
read_type-returns-in-Union g t c =
    let e : seen_type c.args.draft.now ≡ union c.in-Union.told (types_of (map seen_type c.in-Union.parts.items)) = ap seen_type c.in-Union.is ∙ seen_union c.in-Union.told c.in-Union.parts in
    subst (λ (type : CoreType). OnOk c.read_union.result (c.read_union.new.reading ≡ read_on c.args.reading.now (read_members (standing_in c.args.types.now) (g.E.Environment.outside c.args.names.now).owner c.args.scope.now type)))
    (sym e) c.read_union.ensures

pub read_union-loop-part-preserved : goal.read_union-loop-part-preserved
read_union-loop-part-preserved g t c =
    let items = c.deref-part-items.result.now in
    let i = c.loop-part.part-index in
    let lt : i < length items = omega arith in
    let standing = standing_in c.args.types.now in
    let table = (g.E.Environment.outside c.args.names.now).owner in
    let scope = c.args.scope.now in
    let whole : List DraftType → Reading = λ parts. read_on c.loop-part.reading (read_parts standing table scope (types_of (map seen_type parts))) in
    let rest = read_parts standing table scope (types_of (map seen_type (drop (i + 1) items))) in
    let read = ap (λ (r : Reading). read_on r rest) c.in_ok-read_type.ensures
    ∙ read_on_both c.loop-part.reading (read_members standing table scope (seen_type c.part-item.result)) rest
    ∙ sym (at_drop_more whole items i c.part-item.result lt ∙ ap (λ (d : DraftType). whole (d ∷ drop (i + 1) items)) (sym c.part-item.is))
    ∙ c.loop-part.invariant.read in
    record { read = read; first = c.loop-part.invariant.first }

pub read_union-returns : goal.read_union-returns
read_union-returns g t c =
    let items = c.deref-part-items.result.now in
    let i = c.loop-part.part-index in
    let le : length items ≤ i = c.loop-part-test.false in
    let standing = standing_in c.args.types.now in
    let table = (g.E.Environment.outside c.args.names.now).owner in
    let scope = c.args.scope.now in
    let before = c.args.reading.now in
    let after = c.loop-part.reading in
    let told = c.args.told.now in
    let whole : List DraftType → Reading = λ parts. read_on after (read_parts standing table scope (types_of (map seen_type parts))) in
    let all = read_parts standing table scope (types_of (map seen_type items)) in
    let e : after ≡ read_on (record { members = before.members; first = None }) all = sym (read_on_nothing after) ∙ sym (at_drop_all whole items i le) ∙ c.loop-part.invariant.read in
    let count : c.len.result - c.len-before.result ≡ length after.members - length before.members = ap₂ (λ (m n : ℕ). m - n) c.len.ensures c.len-before.ensures in
    let same : record { members = after.members; first = first_of_both _ (if nat_lt 16 (c.len.result - c.len-before.result) then first_of_both (Some (too_many told)) after.first else after.first) }
    ≡ read_on before (union_read told (read_parts standing table scope (types_of (map seen_type c.args.parts.now.items)))) =
    ap (λ (f : Option Fault). record { members = after.members; first = first_of_both f (if nat_lt 16 (c.len.result - c.len-before.result) then first_of_both (Some (too_many told)) after.first else after.first) }) c.loop-part.invariant.first
    ∙ union_done before after told all (c.len.result - c.len-before.result) e count
    ∙ ap (λ (parts : List DraftType). read_on before (union_read told (read_parts standing table scope (types_of (map seen_type parts))))) c.deref-part-items.ensures.value in
    subst (λ (r : Reading). OnOk c.close_union.result (c.close_union.new.reading ≡ r)) same c.close_union.ensures
