use Rattle.std.proofs.Common.{refl}
use Rattle.dy_base.specs.Folding.{folded}
use Rattle.dy_module_names.proofs.names.TableNames.of.Goals as goal

pub returns : goal.returns
returns c = record {
  owner = λ name id. c.names.ensures.exact name.module (folded name.text) id;
  type = λ locals declared. refl;
}
