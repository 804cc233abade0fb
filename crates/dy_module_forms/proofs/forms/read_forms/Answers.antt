use Rattle.std.proofs.Common.{◌≡◌, ◌<◌, ◌≤◌, ◌+◌, length, List, Result, Err, sym, ap, subst, ◌∙◌, arith}
use Rattle.dy_base.specs.declared.fault.Place.{Place}
use Rattle.dy_base.specs.declared.fault.Refusal.{Refusal}
use Rattle.dy_module_forms.specs.declared.written.Form.{Form}
use Rattle.dy_tree.specs.Fragments.{seen_fragments}
use Rattle.dy_module_forms.specs.Forms.{forms_of, piece_place, syntax_at, IsFault, Answers}
use Rattle.dy_module_forms.proofs.Pieces.{form_turn, form_none, form_end, piece_some}
use Rattle.dy_module_forms.proofs.forms.read_forms.Goals as goal

pub loop-rest-preserved : goal.loop-rest-preserved
loop-rest-preserved c =
    let xs = c.loop-rest.rest.now in
    let some : 0 < length xs = omega arith in
    form_turn xs some (seen_fragments c.split_piece.result.0.now) (seen_fragments c.split_piece.result.1.now) c.split_piece.ensures.piece c.split_piece.ensures.rest c.loop-rest.forms (forms_of (seen_fragments c.args.fragments.now)) c.loop-rest.invariant
    c.push.new.self c.in-Some.form (sym c.in-Some.is ∙ c.in_ok-form.ensures) c.in_ok-push-in-Some.ensures.ok

pub loop-rest-smaller : goal.loop-rest-smaller
loop-rest-smaller c =
    let xs = c.loop-rest.rest.now in
    let some : 0 < length xs = omega arith in
    omega (arith, piece_some xs some, c.split_piece.ensures.shorter)

pub returns : goal.returns
returns c =
    let xs = c.loop-rest.rest.now in
    let none : length xs ≤ 0 = omega arith in
    form_end xs c.loop-rest.forms (forms_of (seen_fragments c.args.fragments.now)) none c.loop-rest.invariant

pub returns-in-None : goal.returns-in-None
returns-in-None c =
    let xs = c.loop-rest.rest.now in
    let some : 0 < length xs = omega arith in
    let piece = seen_fragments c.split_piece.result.0.now in
    let total : Result (List Form) Place = forms_of (seen_fragments c.args.fragments.now) in
    let none : total ≡ Err (piece_place piece) = form_none xs some piece (seen_fragments c.split_piece.result.1.now) c.split_piece.ensures.piece c.split_piece.ensures.rest c.loop-rest.forms total c.loop-rest.invariant (sym c.in-None.is ∙ c.in_ok-form.ensures) in
    let fault = syntax_at c.piece_place.result in
    let told : IsFault total fault = subst (λ t. IsFault t fault) (sym none) (ap syntax_at c.piece_place.ensures) in
    subst (λ (r : Refusal). Answers total (Err r)) (sym c.syntax_at.ensures) told
