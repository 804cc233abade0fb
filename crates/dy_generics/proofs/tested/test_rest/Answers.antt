use Rattle.std.proofs.Common.{inl, sym, subst, ◌∙◌, true≢false, Option}
use Rattle.std.specs.declared.result.Result.TheVariants.{Err}
use Rattle.dy_term.specs.declared.types.DyType.{DyType}
use Rattle.dy_generics.specs.Congruence.{is_subtype, option_list, Tested, typed_by}
use Rattle.dy_generics.proofs.tested.test_rest.Goals as goal

pub returns-else-subtype : goal.returns-else-subtype
returns-else-subtype c =
    subst (λ (v : Option DyType). Tested c.args.program.now (typed_by c.args.upper.now c.args.place (option_list v)) (Err c.misfit_at.result)) (sym c.in-Some.is)
    (inl (λ h. absurd (true≢false (sym (c.subtype.ensures.1 h) ∙ c.if-subtype.false)), c.misfit_at.ensures (is_subtype c.in-Some.own c.args.upper.now)))
