-- Keyword parameters that were read, as they lie in memory.
use Rattle.std.specs.Prelude.{map, Option, Some, None}
use Rattle.dy_rules.specs.Trees as trees
use Rattle.dy_read_shapes.specs.declared.keys_read.KeysRead.{KeysRead}
use Rattle.dy_rules.specs.Held.{held_key}

abbrev pub kept_keys : Option KeysRead → trees.MaybeKeys
kept_keys None = trees.no_keys
kept_keys (Some read) = trees.some_keys
    (trees.keys_of (map held_key read.keys.items)) read.takes_all
