use Rattle.dy_lowered_forms.proofs.Forms.{forms_plain}
use Rattle.dy_lowered_forms.proofs.laws.lowered_form_laws.Goals as goal

pub returns : goal.returns
returns c = forms_plain
