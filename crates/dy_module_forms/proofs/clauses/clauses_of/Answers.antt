use Rattle.std.proofs.Common.{◌≡◌, codes, option_map, rules, sym, ◌∙◌}
use Rattle.dy_module_forms.specs.Cuts.{seen_slice}
use Rattle.dy_module_forms.specs.Clauses.{clause_of}
use Rattle.dy_module_forms.proofs.Ends.{end_turn, end_stop, end_last, end_none}
use Rattle.dy_module_forms.proofs.clauses.clauses_of.Goals as goal

pub loop-next-preserved : goal.loop-next-preserved
loop-next-preserved c =
    end_turn (clause_of c.args.kind) (codes ";") c.loop-next.next c.loop-next.clauses _ c.in-Some.rest _ (option_map seen_slice c.split_part.result.1) c.in-Some.is c.split_part.ensures.parts c.loop-next.invariant
    c.in-Some-2.clause c.push.new.self (search rules) (sym c.in-Some-2.is ∙ c.in_ok-clause.ensures) c.in_ok-push-in-Some-2.ensures.ok

pub returns-then-is_end : goal.returns-then-is_end
returns-then-is_end c =
    end_last (clause_of c.args.kind) (codes ";") c.loop-next.next c.loop-next.clauses _ c.in-Some.rest _ (option_map seen_slice c.split_part.result.1) c.in-Some.is c.split_part.ensures.parts c.loop-next.invariant (search rules)

pub returns : goal.returns
returns c = end_none (clause_of c.args.kind) (codes ";") c.loop-next.next c.loop-next.clauses _ c.in_default.is c.loop-next.invariant

pub returns-in-None : goal.returns-in-None
returns-in-None c =
    end_stop (clause_of c.args.kind) (codes ";") c.loop-next.next c.loop-next.clauses _ c.in-Some.rest _ (option_map seen_slice c.split_part.result.1) c.in-Some.is c.split_part.ensures.parts c.loop-next.invariant (search rules) (sym c.in-None.is ∙ c.in_ok-clause.ensures)
