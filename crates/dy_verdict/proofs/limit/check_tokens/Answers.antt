use Rattle.std.proofs.Common.{List, Some, Bor}
use Rattle.dy_tree.specs.declared.fragment.Fragment.{Fragment}
use Rattle.dy_tree.specs.Fragments.{seen_fragments}
use Rattle.dy_verdict.proofs.Limiting.{over_pieces, too_many}
use Rattle.dy_verdict.proofs.limit.check_tokens.Goals as goal

pub returns-in-Some : goal.returns-in-Some
returns-in-Some c =
    too_many c.args.pieces.now c.in-Some.number c.index-pieces-number.result c.place_of-place.result c.in_ok-too_many_tokens-in-Some.field-0
    (over_pieces (λ (form : Bor (List Fragment)). seen_fragments form.now) c.in_ok-forms.forms.items c.deref.result.now c.args.pieces.now (Some c.in-Some.number) c.deref.ensures.value c.in_ok-forms.ensures c.in-Some.ensures)
    c.index-pieces-number.is c.place_of-place.ensures c.in_ok-too_many_tokens-in-Some.ensures
