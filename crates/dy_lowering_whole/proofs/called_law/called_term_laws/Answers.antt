use Rattle.dy_lowering_whole.proofs.called.Drafts.{terms_call_known, lambdas_call_known}
use Rattle.dy_lowering_whole.proofs.called_law.called_term_laws.Goals as goal

pub returns : goal.returns
returns c = record { terms = terms_call_known; lambdas = lambdas_call_known }
