-- The parameters between brackets, as the reader gives them.
use Rattle.std.specs.Prelude.{◌≡◌, ℕ, max, ⊤, Option, Some, None, option_map}
use Rattle.dy_rules.specs.Depth.{required_depth, maybe_keys_depth}
use Rattle.dy_rules.specs.Trees.{Listed, maybe_keys}
use Rattle.dy_read_statements.specs.declared.listed_read.ListedRead.{ListedRead}
use Rattle.dy_read_shapes.specs.ListHeads.{read_each_required}
use Rattle.dy_read_shapes.specs.ReadKeys.{read_keys}

abbrev pub read_listed : ListedRead → Listed
read_listed read = record {
  required = read_each_required read.required.items;
  next = read.next;
  rest = read.rest;
  keys = option_map read_keys read.keys;
}

abbrev pub listed_depth : Listed → ℕ
listed_depth found = max (required_depth found.required) (maybe_keys_depth (maybe_keys found.keys))

-- how deep they are with what was read before
abbrev pub ListedDepth : ℕ → ℕ → Option ListedRead → Type 0
ListedDepth old new None = ⊤
ListedDepth old new (Some read) = new ≡ max old (listed_depth (read_listed read))
