use Rattle.dy_tree.specs.Fragments.{seen_fragments}
use Rattle.dy_read_parts.specs.Nesting.{nesting}
use Rattle.dy_read_bodies.proofs.Rests.{results_rest}
use Rattle.dy_read_bodies.proofs.signatures.signature_listed.Goals as goal

pub returns-in_ok-results_front-in-Some-clause-nested : goal.returns-in_ok-results_front-in-Some-clause-nested
returns-in_ok-results_front-in-Some-clause-nested c =
    c.signature_of.ensures.nested (nesting (seen_fragments c.args.rest.now)) (results_rest c.in_ok-results_front-in-Some.field-0 (seen_fragments c.args.rest.now) c.in_ok-results_front-in-Some.ensures.front)
