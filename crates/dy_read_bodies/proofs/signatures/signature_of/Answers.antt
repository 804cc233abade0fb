use Rattle.std.proofs.Common.{Option, Some, subst}
use Rattle.dy_read_types.specs.declared.results.ResultsFront.{ResultsFront}
use Rattle.dy_read_types.specs.Results as given
use Rattle.dy_read_bodies.proofs.signatures.signature_of.Goals as goal

pub returns-in-Some-clause-nested : goal.returns-in-Some-clause-nested
returns-in-Some-clause-nested c n h =
    let within : given.IsRestWithin n (Some c.in-Some.front) = subst (λ (found : Option ResultsFront). given.IsRestWithin n found) c.in-Some.is h in
    rw c.with_results.ensures.rest within
