use Rattle.std.proofs.Common.{map, ap, ◌∙◌}
use Rattle.dy_term.specs.declared.draft.DraftTerm.{DraftTerm}
use Rattle.dy_term.specs.Drafts.{cond, choice_of, seen_pair, seen_term}
use Rattle.dy_term.proofs.Parts.{seen_cond}
use Rattle.dy_term.proofs.terms.cond_draft.Goals as goal

pub returns : goal.returns
returns c =
    seen_cond c.args.branches c.in_ok-last.last
    ∙ ap (λ (t : DraftTerm). cond (choice_of (map seen_pair c.args.branches.items) (seen_term t))) c.in_ok-last.ensures.ok
