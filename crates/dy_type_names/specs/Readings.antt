-- What is read of a type so far, with what comes behind it.
use Rattle.std.specs.Prelude.{◌++◌}
use Rattle.dy_type_names.specs.declared.reading.Reading.{Reading}
use Rattle.dy_type_names.specs.Members.{ReadType, first_of_both, first_of}

abbrev pub read_on : Reading → ReadType → Reading
read_on reading read = record {
  members = reading.members ++ read.members;
  first = first_of_both reading.first (first_of read.faults);
}
