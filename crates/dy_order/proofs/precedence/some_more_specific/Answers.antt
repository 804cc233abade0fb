use Rattle.std.proofs.Common.{rules, tests}
use Rattle.std.proofs.lemmas.Iterator.{cases_from_any, YieldsList-from_slice, YieldsList-from_zip}
use Rattle.dy_term.specs.declared.types.DyType.{DyType}
use Rattle.dy_term.specs.declared.types.Shape1.{Shape1}
use Rattle.dy_order.specs.Precedence.{IsMoreSpecific, positions}
use Rattle.dy_order.proofs.Told.{told_any}
use Rattle.dy_order.proofs.precedence.some_more_specific.Goals as goal

pub returns : goal.returns
returns c =
    let P : Shape1 × (DyType × DyType) → Type 0 = λ place. IsMoreSpecific c.args.program.now place.0 place.1.0 place.1.1 in
    told_any P (positions c.args.args.now c.args.types.now c.args.others.now) _
    (cases_from_any c.any.new.self _ _ P (λ m. P m → ⊥) c.any.ensures.ran
    (YieldsList-from_zip {s = c.zip-2.result} (YieldsList-from_slice {s = c.zip-2.result.a} c.args.args.now cc)
    (YieldsList-from_zip {s = c.zip-2.result.b} (YieldsList-from_slice {s = c.zip-2.result.b.a} c.args.types.now cc) (YieldsList-from_slice {s = c.zip-2.result.b.b} c.args.others.now cc)))
    (λ x q k. search (rules, tests)) (λ x q k. search (rules, tests)))
