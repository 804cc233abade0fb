use Rattle.dy_libraries.proofs.Growing.{built_in_are}
use Rattle.dy_libraries.proofs.libraries.built_in_libraries.Goals as goal

pub returns-clause-libraries : goal.returns-clause-libraries
returns-clause-libraries c =
    rw (c.in_ok-compiled.ensures.is, c.in_ok-push-2.ensures.ok, c.in_ok-push.ensures.ok, c.new-rows.ensures, c.in_ok-dylan.ensures, c.in_ok-io.ensures) built_in_are
