use Rattle.std.proofs.Common.{refl, rules}
use Rattle.dy_names.specs.Tables.{owner_in}
use Rattle.dy_names.proofs.Kept.{puts}
use Rattle.dy_names.proofs.owners.OwnerTable.set.Goals as goal

pub returns : goal.returns
unfolding owner_in
returns c = λ name. puts c.args.self.now.entries.entries c.insert.new.self.entries (c.args.«module», c.in_ok-to_vec.field-0) c.args.«module» c.args.text.now c.args.owner refl (search rules) (search rules) name.module name.text
