-- All instructions of bodies, one body after the other.
use Rattle.std.specs.Prelude.{List, flat_map}
use Rattle.dy_code.specs.Fetching.{Instruction}
use Rattle.dy_lowered.specs.Flat.{placed_from}
use Rattle.dy_lowered.specs.Bodies.{FlatBody}

abbrev pub instructions_of : List FlatBody → List Instruction
instructions_of bodies = flat_map (λ body. placed_from 0 body.code) bodies
