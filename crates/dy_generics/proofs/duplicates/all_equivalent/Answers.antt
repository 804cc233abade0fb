use Rattle.std.proofs.Common.{rules, tests, zip}
use Rattle.std.proofs.lemmas.Iterator.{cases_from_all, YieldsList-from_slice, YieldsList-from_zip}
use Rattle.dy_term.specs.declared.types.DyType.{DyType}
use Rattle.dy_types.specs.Types.{IsSubtype}
use Rattle.dy_order.proofs.Told.{told_all}
use Rattle.dy_generics.proofs.duplicates.all_equivalent.Goals as goal

pub returns : goal.returns
returns c =
    let P : DyType × DyType → Type 0 = λ pair. IsSubtype c.args.program.now pair.0 pair.1 × IsSubtype c.args.program.now pair.1 pair.0 in
    told_all P (zip c.args.types.now c.args.others.now) _
    (cases_from_all c.all.new.self _ _ P (λ m. P m → ⊥) c.all.ensures.ran (YieldsList-from_zip {s = c.zip.result} (YieldsList-from_slice {s = c.zip.result.a} c.args.types.now cc) (YieldsList-from_slice {s = c.zip.result.b} c.args.others.now cc)) (λ x q k. search (rules, tests)) (λ x q k. search (rules, tests)))
