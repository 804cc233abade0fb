use Rattle.std.proofs.Common.{refl, rules}
use Rattle.dy_names.proofs.Kept.{puts}
use Rattle.dy_definitions.specs.Seen.{meanings_in}
use Rattle.dy_definitions.proofs.owned.MeaningTable.set.Goals as goal

pub returns : goal.returns
unfolding meanings_in
returns c = λ number name. puts c.args.self.now.entries.entries c.insert.new.self.entries (c.args.number, c.in_ok-to_vec.field-0) c.args.number c.args.name.now c.args.meaning refl (search rules) (search rules) number name
