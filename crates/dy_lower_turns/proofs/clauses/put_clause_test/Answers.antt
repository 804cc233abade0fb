use Rattle.std.proofs.Common.{◌++◌, sym, ap, ◌∙◌}
use Rattle.dy_lowered.specs.Flat.{Code}
use Rattle.dy_lower_parts.specs.Seen.{seen_code}
use Rattle.dy_lower_turns.proofs.ByKind.{then_tested, in_tested, endless_tested, limit_tested}
use Rattle.dy_lower_turns.proofs.clauses.put_clause_test.Goals as goal

pub returns-in-Then : goal.returns-in-Then
returns-in-Then c = λ layout n. ap (λ (k : Code). k ++ seen_code c.args.code.now) (sym (then_tested layout _ _ _ _ _ c.in-Then.is n _ _))

pub returns-in-In : goal.returns-in-In
returns-in-In c = λ layout n. ap (λ (k : Code). k ++ seen_code c.args.code.now) (sym (in_tested layout _ _ _ _ c.in-In.is n _ _))

pub returns-in-None : goal.returns-in-None
returns-in-None c = λ layout n. ap (λ (k : Code). k ++ seen_code c.args.code.now) (sym (endless_tested layout _ _ _ _ c.in-From.limit _ c.in-From.is c.in-None.is n _ _))

pub returns-in_ok-put_limit_reached-in-Some : goal.returns-in_ok-put_limit_reached-in-Some
returns-in_ok-put_limit_reached-in-Some c = λ layout n.
    c.in_ok-put_limit_reached-in-Some.ensures
    ∙ ap (λ (k : Code). k ++ seen_code c.args.code.now) (sym (limit_tested layout _ _ _ _ c.in-From.limit _ _ _ c.in-From.is c.in-Some.is n _ _))
