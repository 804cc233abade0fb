use Rattle.std.proofs.Common.{rules, sym}
use Rattle.dy_generics.proofs.Doubles.{duplicates_by}
use Rattle.dy_generics.proofs.duplicates.are_duplicates.Goals as goal

pub returns-then-eq : goal.returns-then-eq
returns-then-eq c =
    duplicates_by c.args.program.now c.args.method c.args.other c.in-Some.row.now c.in-Some-method_of.second.now c.as_slice.result.now c.as_slice-then-eq.result.now c.as_slice.ensures c.as_slice-then-eq.ensures
    (sym c.in-Some.ensures) (sym c.in-Some-method_of.ensures) c.are_equivalent.result (search rules) c.are_equivalent.ensures
