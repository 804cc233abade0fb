-- The names in the code.
use Rattle.dy_library_rows.specs.declared.names.Names.{Names as Stored}
use Rattle.dy_names.specs.Tables.{owner_in}
use Rattle.dy_library_rows.specs.Names.{Names}

abbrev pub seen_names : Stored → Names
seen_names names = (owner_in names.owners, names.rows)
