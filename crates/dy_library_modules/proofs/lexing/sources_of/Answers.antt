use Rattle.dy_library_modules.proofs.LexedFiles.{read_turn, faulty_turn}
use Rattle.dy_library_modules.proofs.lexing.sources_of.Goals as goal

pub loop-found-preserved-in-Continue-1 : goal.loop-found-preserved-in-Continue-1
loop-found-preserved-in-Continue-1 c =
    let one = read_turn c.loop-found.yielded c.in-Some.found c.loop-found.sources c.loop-found.first c.loop-found.invariant.sources c.loop-found.invariant.first
    c.in-Read.source c.push.new.self c.in-Read.is c.in_ok-push-in-Read.ensures.ok in
    record { sources = one.0; first = one.1 }

pub loop-found-preserved : goal.loop-found-preserved
loop-found-preserved c =
    let one = faulty_turn c.loop-found.yielded c.in-Some.found c.loop-found.sources c.loop-found.first c.loop-found.invariant.sources c.loop-found.invariant.first
    c.in-Faulty.fault c.first_with.result c.in-Faulty.is c.first_with.ensures in
    record { sources = one.0; first = one.1 }
