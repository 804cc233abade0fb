use Rattle.dy_rules.proofs.FormSound.{form_sound}
use Rattle.dy_rules.proofs.FormComplete.{form_complete}
use Rattle.dy_rules.proofs.FormWritten.{form_writes}
use Rattle.dy_rules.proofs.WholeForms.{one_form, form_again}
use Rattle.dy_rules.proofs.laws.form_laws.Goals as goal

pub returns : goal.returns
returns c =
    record {
      reads = form_sound;
      all = λ fragments form h. form_complete form fragments h;
      one = one_form;
      writes = λ fragments form h. form_writes form fragments h;
      again = form_again;
    }
