use Rattle.dy_folded_names.proofs.Reading.{forms_are_lower}
use Rattle.dy_folded_names.proofs.Tables.{tables_are_folded, exported_are_lower, built_in_are_lower}
use Rattle.dy_folded_names.proofs.laws.folded_name_laws.Goals as goal

pub returns : goal.returns
returns c = record {
  forms = forms_are_lower;
  tables = tables_are_folded;
  exported = exported_are_lower;
  built_in = built_in_are_lower;
}
