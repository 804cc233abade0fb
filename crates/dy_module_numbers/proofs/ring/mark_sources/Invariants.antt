use Rattle.std.proofs.Common.{◌≡◌, drop}
use Rattle.dy_module_numbers.specs.Rings.{Search, marked_all}
use Rattle.dy_module_numbers.proofs.ring.mark_sources.Given as goal

abbrev pub invariant-loop-u : goal.invariant-loop-u
invariant-loop-u l =
    let now : Search = record { marks = l.marks.items; todo = l.todo.items } in
    let first : Search = record { marks = l.fn.marks.items; todo = l.fn.todo.items } in
    marked_all now (drop l.u-index l.u-items) ≡ marked_all first l.form.uses
