use Rattle.std.proofs.Common.{◌≡◌, ◌+◌, ◌<◌, [], ◌∷◌, ◌++◌, length, slice_get, refl, sym, ap, subst, ◌∙◌, arith}
use Rattle.dy_module_numbers.specs.Rings.{Search, is_marked}
use Rattle.dy_module_numbers.proofs.Rings.{unmarked, Walks, walk_by, size_by, walk_to, walk_from, length-more, marked_is, no_length}
use Rattle.dy_module_numbers.proofs.ring.is_on_ring.Goals as goal

pub loop-next-smaller : goal.loop-next-smaller
loop-next-smaller c =
    let ms = c.args.modules.now in
    let m = c.args.number in
    let s : Search = record { marks = c.loop-next.marks.items; todo = c.loop-next.todo.items } in
    let after : Search = record { marks = c.mark_sources_of.new.marks.items; todo = c.mark_sources_of.new.todo.items } in
    let k = c.in-Some.next in
    let rest = c.pop.new.self.items in
    let popped : s.todo ≡ rest ++ k ∷ [] = c.in-Some.ensures.items in
    let size = size_by ms m s rest k popped c.loop-next.invariant (slice_get ms k) refl in
    let count = ap length popped ∙ length-more rest k in
    let more = ap (λ (t : Search). unmarked t.marks + length t.todo) c.in_ok-mark_sources_of.ensures ∙ size in
    let less : unmarked after.marks + length after.todo < unmarked s.marks + length s.todo = omega (arith, count, more) in
    less

pub loop-next-preserved : goal.loop-next-preserved
loop-next-preserved c =
    let ms = c.args.modules.now in
    let m = c.args.number in
    let s : Search = record { marks = c.loop-next.marks.items; todo = c.loop-next.todo.items } in
    let k = c.in-Some.next in
    let rest = c.pop.new.self.items in
    let popped : s.todo ≡ rest ++ k ∷ [] = c.in-Some.ensures.items in
    subst (Walks ms m) (sym c.in_ok-mark_sources_of.ensures) (walk_by ms m s rest k popped c.loop-next.invariant (slice_get ms k) refl)

pub returns : goal.returns
returns c =
    let ms = c.args.modules.now in
    let m = c.args.number in
    let s : Search = record { marks = c.loop-next.marks.items; todo = c.loop-next.todo.items } in
    let count : length s.todo ≡ 0 = omega (arith, c.in_default.ensures.cases.0, c.loop-next.todo.ok.0) in
    let none : s.todo ≡ [] = no_length s.todo count in
    let test : c.is_marked.result ≡ is_marked (slice_get s.marks m) = c.is_marked.ensures ∙ ap (λ marks. is_marked (slice_get marks m)) c.deref.ensures.value in
    (λ e. walk_to ms m s none c.loop-next.invariant (marked_is (slice_get s.marks m) (sym test ∙ e)), λ leads. test ∙ ap is_marked (walk_from ms m s none c.loop-next.invariant leads))
