use Rattle.std.proofs.Common.{◌≡◌, Bool, true, false, ap, ◌∙◌}
use Rattle.dy_printing.specs.Printing.{behind}
use Rattle.dy_printing.specs.Unhandled.{error_printed}
use Rattle.dy_printing.proofs.Cuts.{cut_all, cut_spent}
use Rattle.dy_printing.proofs.unhandled.write_cut.Goals as goal

pub returns-in_ok-extend_from_slice : goal.returns-in_ok-extend_from_slice
returns-in_ok-extend_from_slice c =
    let spent : behind c.args.into.now.items (error_printed c.args.program.now c.args.store.now c.args.error.now 65536) ≡ (false, c.write_error.new.into.items, c.write_error.new.fuel.left) =
    c.in_ok-write_error.ensures ∙ ap (λ (done : Bool). (done, c.write_error.new.into.items, c.write_error.new.fuel.left)) c.if-not-branch.true in
    c.in_ok-extend_from_slice.ensures.items
    ∙ cut_spent c.args.into.now.items c.write_error.new.into.items (error_printed c.args.program.now c.args.store.now c.args.error.now 65536) c.write_error.new.fuel.left spent

pub returns-else-not-branch : goal.returns-else-not-branch
returns-else-not-branch c =
    let all : behind c.args.into.now.items (error_printed c.args.program.now c.args.store.now c.args.error.now 65536) ≡ (true, c.write_error.new.into.items, c.write_error.new.fuel.left) =
    c.in_ok-write_error.ensures ∙ ap (λ (done : Bool). (done, c.write_error.new.into.items, c.write_error.new.fuel.left)) c.if-not-branch.false in
    cut_all c.args.into.now.items c.write_error.new.into.items (error_printed c.args.program.now c.args.store.now c.args.error.now 65536) c.write_error.new.fuel.left all
