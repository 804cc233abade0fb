-- What functions return, as the definitions see it.
use Rattle.std.specs.Prelude.{◌≡◌, List, map, Option, option_map, string_bytes}
use Rattle.dy_build.specs.declared.words.Command.{Command as Read}
use Rattle.dy_build.specs.declared.words.Command.TheVariants as read
use Rattle.dy_build.specs.Words.{Word, Command, build, check}

-- what is to be done
abbrev pub seen_command : Read → Command
seen_command (read.Build fuel main lids) =
    build fuel (option_map (λ name. name.now) main) (map string_bytes lids.now)
seen_command (read.Check lids) = check (map string_bytes lids.now)
