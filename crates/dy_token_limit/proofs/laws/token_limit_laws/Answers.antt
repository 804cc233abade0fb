use Rattle.dy_token_limit.proofs.Taking.{first_once}
use Rattle.dy_token_limit.proofs.laws.token_limit_laws.Goals as goal

pub returns : goal.returns
returns c = first_once
