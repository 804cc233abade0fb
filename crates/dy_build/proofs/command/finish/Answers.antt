use Rattle.dy_build.proofs.command.finish.Goals as goal

-- the line was made, and was put
pub returns-in-Ok-clause-closes : goal.returns-in-Ok-clause-closes
returns-in-Ok-clause-closes g c =
    let puts = rw (c.deref.ensures.value, c.in-Ok.ensures, c.bytes.ensures) at c.put_line.ensures.puts in
    rw c.in-Signalled.is puts
