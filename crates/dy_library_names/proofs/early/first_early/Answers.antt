use Rattle.std.proofs.Common.{map}
use Rattle.dy_library_rows.specs.Libraries.{seen_form}
use Rattle.dy_library_names.proofs.EarlyForms.{first_is}
use Rattle.dy_library_names.proofs.early.first_early.Goals as goal

pub returns : goal.returns
returns c =
    first_is (map seen_form c.args.forms.now) c.args.definitions.now c.tell_types.new.progress
    c.tell_again.new.progress c.tell_types.ensures c.in_ok-tell_again.ensures
