use Rattle.std.proofs.Common.{◌≡◌, ℕ, List, subst, ◌∙◌}
use Rattle.std.specs.List.{concat}
use Rattle.std.specs.Io.KnownBytes.{Appends}
use Rattle.dy_io.specs.Sinks.{AppendsFront}
use Rattle.dy_meaning.specs.Programs.{program_meaning}
use Rattle.dy_running.specs.Runs.{program_of}
use Rattle.dy_running.proofs.Courses.{course_of, goes}
use Rattle.dy_running.proofs.Telling.{told, units_left, pieces_left, lines_left}
use Rattle.dy_running.proofs.running.run_libraries.Goals as goal

pub load_and_run-requires : goal.load_and_run-requires
load_and_run-requires g c =
    let p = program_of c.args.libraries.items in
    λ ls o. (
      o.0,
      (
        o.1,
        (
          c.requires.apart,
          (c.requires.lowered, (goes p c.args.fuel c.requires.scoped c.requires.lowered).takes),
        ),
      ),
    )

pub returns-clause-end : goal.returns-clause-end
returns-clause-end g c =
    let p = program_of c.args.libraries.items in
    told p (program_meaning p c.args.fuel) (course_of p c.args.fuel).ending c.load_and_run.result.end
    (goes p c.args.fuel c.requires.scoped c.requires.lowered).same c.load_and_run.ensures.end

pub returns-clause-left : goal.returns-clause-left
returns-clause-left g c = λ whole.
    let p = program_of c.args.libraries.items in
    c.load_and_run.ensures.left whole
    ∙ units_left p (program_meaning p c.args.fuel) (course_of p c.args.fuel).ending
    (goes p c.args.fuel c.requires.scoped c.requires.lowered).same

pub returns-clause-searches : goal.returns-clause-searches
returns-clause-searches g c = λ whole.
    let p = program_of c.args.libraries.items in
    let is = goes p c.args.fuel c.requires.scoped c.requires.lowered in
    record {
      ending = (course_of p c.args.fuel).ending;
      runs = record { count = (course_of p c.args.fuel).count; ends = is.takes };
      same = c.load_and_run.ensures.searches whole;
    }

pub returns-clause-out : goal.returns-clause-out
returns-clause-out g c = λ whole.
    let p = program_of c.args.libraries.items in
    let same = pieces_left p (program_meaning p c.args.fuel) (course_of p c.args.fuel).ending
    (goes p c.args.fuel c.requires.scoped c.requires.lowered).same in
    subst (λ (ps : List (List ℕ)). Appends (g.O.Sink.contents c.args.out.now)
    (g.O.Sink.contents c.load_and_run.new.out) (concat ps)) same (c.load_and_run.ensures.out whole)

pub returns-clause-err : goal.returns-clause-err
returns-clause-err g c = λ whole.
    let p = program_of c.args.libraries.items in
    let same = lines_left p (program_meaning p c.args.fuel) (course_of p c.args.fuel).ending
    (goes p c.args.fuel c.requires.scoped c.requires.lowered).same in
    subst (λ (ls : List (List ℕ)). Appends (g.E.Sink.contents c.args.err.now)
    (g.E.Sink.contents c.load_and_run.new.err) (concat ls)) same (c.load_and_run.ensures.err whole)

pub returns-clause-out_front : goal.returns-clause-out_front
returns-clause-out_front g c =
    let p = program_of c.args.libraries.items in
    let same = pieces_left p (program_meaning p c.args.fuel) (course_of p c.args.fuel).ending
    (goes p c.args.fuel c.requires.scoped c.requires.lowered).same in
    subst (λ (ps : List (List ℕ)). AppendsFront (g.O.Sink.contents c.args.out.now)
    (g.O.Sink.contents c.load_and_run.new.out) (concat ps)) same c.load_and_run.ensures.out_front

pub returns-clause-err_front : goal.returns-clause-err_front
returns-clause-err_front g c =
    let p = program_of c.args.libraries.items in
    let same = lines_left p (program_meaning p c.args.fuel) (course_of p c.args.fuel).ending
    (goes p c.args.fuel c.requires.scoped c.requires.lowered).same in
    subst (λ (ls : List (List ℕ)). AppendsFront (g.E.Sink.contents c.args.err.now)
    (g.E.Sink.contents c.load_and_run.new.err) (concat ls)) same c.load_and_run.ensures.err_front
