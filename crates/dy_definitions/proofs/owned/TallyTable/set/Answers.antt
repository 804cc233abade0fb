use Rattle.std.proofs.Common.{refl, rules}
use Rattle.dy_names.proofs.Kept.{puts}
use Rattle.dy_definitions.specs.Seen.{tally_in}
use Rattle.dy_definitions.proofs.owned.TallyTable.set.Goals as goal

pub returns : goal.returns
unfolding tally_in
returns c = λ number name. puts c.args.self.now.entries.entries c.insert.new.self.entries (c.args.number, c.in_ok-to_vec.field-0) c.args.number c.args.name.now c.args.tally refl (search rules) (search rules) number name
