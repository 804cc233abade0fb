use Rattle.dy_rules_depth.proofs.FormCaps.{form_kept, form_deep}
use Rattle.dy_rules_depth.proofs.Told.{filled_told}
use Rattle.dy_rules_depth.proofs.laws.form_depth_laws.Goals as goal

pub returns : goal.returns
returns c = record { kept = form_kept; deep = form_deep; filled = filled_told }
