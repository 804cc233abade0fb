use Rattle.std.proofs.Common.{map, ap, ◌∙◌}
use Rattle.dy_term.specs.declared.draft.DraftTerm.{DraftTerm}
use Rattle.dy_term.specs.Drafts.{call, cores_of, seen_term}
use Rattle.dy_term.proofs.Parts.{seen_call}
use Rattle.dy_term.proofs.terms.call_draft.Goals as goal

pub returns : goal.returns
returns c =
    seen_call c.in_ok-function.function c.args.arguments
    ∙ ap (λ (t : DraftTerm). call (seen_term t) (cores_of (map seen_term c.args.arguments.items))) c.in_ok-function.ensures.ok
