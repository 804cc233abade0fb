use Rattle.dy_program_world.proofs.Plain.{is_plain}
use Rattle.dy_machine.proofs.Runs.{no_front}
use Rattle.dy_running.specs.Runs.{program_of}
use Rattle.dy_running.proofs.Bare.{takes_course}
use Rattle.dy_running.proofs.Lending.{lent}
use Rattle.dy_running.proofs.running.load_and_run.Goals as goal

pub run-requires : goal.run-requires
run-requires g c =
    λ ls o. (
      lent ls.1.1.1.1.0,
      (
        o.0,
        (
          o.1,
          (
            c.in-Ok.ensures.loaded,
            (
              is_plain c.in-Ok-new.world,
              takes_course (program_of c.args.libraries.items) c.in-Ok-new.world c.in-Ok.code.linked
                  c.args.fuel g.course c.in-Ok.ensures.linked c.in-Ok-new.ensures c.requires.1.1.1.1,
            ),
          ),
        ),
      ),
    )
