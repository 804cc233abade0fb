use Rattle.dy_lowered_forms.proofs.drafts.Rows.{terms_lowered, lambdas_lowered, forms_lowered}
use Rattle.dy_lowered_forms.proofs.drafts_law.lowered_draft_laws.Goals as goal

pub returns : goal.returns
returns c = record {
  terms = terms_lowered;
  lambdas = lambdas_lowered;
  rows = forms_lowered;
}
