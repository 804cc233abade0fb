use Rattle.dy_base.proofs.Lists.{indexed-new}
use Rattle.dy_base.proofs.list.NameList.new.Goals as goal

-- no name has a place
pub invariant_of-result : goal.invariant_of-result
invariant_of-result g c = indexed-new c.new.result.items c.new-2.result c.new.ensures.items c.new-2.ensures
