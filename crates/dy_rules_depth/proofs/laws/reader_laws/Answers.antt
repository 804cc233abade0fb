use Rattle.dy_rules_depth.proofs.Expressions.{expression_same, passed_same}
use Rattle.dy_rules_depth.proofs.TypesSame.{type_same, target_same}
use Rattle.dy_rules_depth.proofs.BodiesSame.{body_same}
use Rattle.dy_rules_depth.proofs.FoundSame.{found_of_same}
use Rattle.dy_rules_depth.proofs.FormsSame.{form_same}
use Rattle.dy_rules_depth.proofs.Told.{fragments_told}
use Rattle.dy_rules_depth.proofs.laws.reader_laws.Goals as goal

pub returns : goal.returns
returns c =
    record { expressions = expression_same; arguments = passed_same; types = type_same; targets = target_same; bodies = body_same; groups = found_of_same; forms = form_same; told = fragments_told }
