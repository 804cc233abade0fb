use Rattle.std.proofs.Common.{◌≡◌, ◌++◌, List, ◌∷◌, [], sym, ap, ◌∙◌}
use Rattle.std.proofs.lemmas.Result.{on_ok_weaker}
use Rattle.std.specs.Bool.{◌==◌}
use Rattle.dy_tree.specs.Fragments.{SeenFragment, seen_fragments}
use Rattle.dy_rules.specs.Marks.{comma_mark}
use Rattle.dy_rules.specs.SeenForms.{seen_tree}
use Rattle.dy_rules.specs.Held.{held_clauses, held_stop}
use Rattle.dy_write_parts.specs.Breaks.{clause_break}
use Rattle.dy_write_parts.proofs.BreakParts.{clauses_and_test}
use Rattle.dy_write_parts.proofs.breaks.push_clause_break.Goals as goal

pub returns-in-Some : goal.returns-in-Some
returns-in-Some c =
    let stop = c.in-Some.field-0.value in
    let both : clause_break (held_clauses c.args.clauses.now) (held_stop c.args.stop.now) ≡ comma_mark ∷ [] = rw c.in-Some.is (clauses_and_test c.args.clauses.now.items stop.keyword (seen_tree stop.test) (sym (ap (λ n. n == 0) c.args.clauses.now.ok.0) ∙ (sym c.is_empty.ensures ∙ c.if-is_empty.false))) in
    on_ok_weaker c.push_mark.result (λ pushed. pushed ∙ ap (λ (fs : List SeenFragment). seen_fragments c.args.out.now.items ++ fs) (sym both)) c.push_mark.ensures
