use Rattle.dy_writer.proofs.write.forms.push_form.Goals as goal

pub returns-in-Variable : goal.returns-in-Variable
returns-in-Variable c = rw c.in-Variable.is c.push_binding-in-Variable.ensures
