-- What stands behind `#key` in a parameter list.
use Rattle.std.proofs.Common.{◌≡◌, Option, Some, None, option_map, refl}
use Rattle.dy_rules.specs.Signatures.{listed_keys}
use Rattle.dy_rules.specs.Trees.{KeysTree}
use Rattle.dy_read_shapes.specs.ListHeads.{capped_listed}
use Rattle.dy_read_shapes.specs.ReadKeys.{capped_keys}

pub listed_keys_on : (keys : Option KeysTree) → option_map listed_keys (option_map capped_keys keys) ≡ option_map capped_listed (option_map listed_keys keys)
listed_keys_on None = refl
listed_keys_on (Some keys) = refl
