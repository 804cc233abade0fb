use Rattle.dy_tree.specs.Fragments.{seen_fragments}
use Rattle.dy_verdict.proofs.Reading.{form_read, refusal_read}
use Rattle.dy_verdict.proofs.forms.read_form.Goals as goal

pub returns-in-Ok : goal.returns-in-Ok
returns-in-Ok c = form_read (seen_fragments c.args.fragments.now.items) c.in-Ok.form c.form_reading.result c.in-Ok.ensures.accepts c.form_reading.ensures

pub returns-in-Err : goal.returns-in-Err
returns-in-Err c =
    refusal_read (seen_fragments c.args.fragments.now.items) c.in-Err.refusal c.refused_reading.result c.in-Err.ensures.accepts c.in-Err.ensures.syntax c.in-Err.ensures.deep c.refused_reading.ensures
