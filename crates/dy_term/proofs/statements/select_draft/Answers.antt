use Rattle.std.proofs.Common.{map, ap, ◌∙◌}
use Rattle.dy_term.specs.declared.draft.DraftTerm.{DraftTerm}
use Rattle.dy_term.specs.Drafts.{MaybeCore, select, arms_of, seen_term, seen_arm, seen_option}
use Rattle.dy_term.proofs.Made.{boxed_option, boxed_seen, seen_select}
use Rattle.dy_term.proofs.statements.select_draft.Goals as goal

pub returns : goal.returns
returns c =
    let arms = arms_of (map seen_arm c.args.arms.items) in
    let last = c.in_ok-otherwise.otherwise in
    seen_select c.in_ok-value.value c.in_ok-test.test c.args.arms last
    ∙ ap (λ (t : DraftTerm). select (seen_term t) (boxed_option c.in_ok-test.test) arms (boxed_option last)) c.in_ok-value.ensures.ok
    ∙ ap (λ (m : MaybeCore). select (seen_term c.args.value) m arms (boxed_option last)) (boxed_seen c.in_ok-test.test ∙ ap seen_option c.in_ok-test.ensures)
    ∙ ap (λ (m : MaybeCore). select (seen_term c.args.value) (seen_option c.args.test) arms m) (boxed_seen last ∙ ap seen_option c.in_ok-otherwise.ensures)
