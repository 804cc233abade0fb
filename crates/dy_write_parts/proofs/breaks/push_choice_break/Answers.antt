use Rattle.std.proofs.Common.{◌≡◌, ◌++◌, ◌∷◌, [], sym, ap, ◌∙◌, List}
use Rattle.std.proofs.lemmas.Result.{on_ok_weaker}
use Rattle.std.specs.Bool.{◌==◌}
use Rattle.dy_tree.specs.Fragments.{SeenFragment, seen_fragments}
use Rattle.dy_rules.specs.Marks.{semicolon_mark}
use Rattle.dy_rules.specs.Held.{held_arms, held_body, held_last}
use Rattle.dy_write_parts.specs.Breaks.{choice_break}
use Rattle.dy_write_parts.proofs.BreakParts.{arms_and_body}
use Rattle.dy_write_parts.proofs.breaks.push_choice_break.Goals as goal

pub returns-in-Some : goal.returns-in-Some
returns-in-Some c =
    let both : choice_break (held_arms c.args.arms.now) (held_last c.args.otherwise.now) ≡ semicolon_mark ∷ [] = rw c.in-Some.is (arms_and_body c.args.arms.now.items (held_body c.in-Some.field-0) (sym (ap (λ n. n == 0) c.args.arms.now.ok.0) ∙ (sym c.is_empty.ensures ∙ c.if-is_empty.false))) in
    on_ok_weaker c.push_mark.result (λ pushed. pushed ∙ ap (λ (fs : List SeenFragment). seen_fragments c.args.out.now.items ++ fs) (sym both)) c.push_mark.ensures
