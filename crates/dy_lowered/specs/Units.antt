-- The code of a library, from the library and what it sees alone: its view, of which it is the last
-- library.
use Rattle.std.specs.Prelude.{ℕ, List, [], ◌∷◌, false, map, flat_map, length}
use Rattle.std.specs.Option.{option_map}
use Rattle.std.specs.declared.option.Option.{Option}
use Rattle.std.specs.declared.option.Option.TheVariants.{None, Some}
use Rattle.dy_term.specs.declared.term.Term.{Term, Term-F, roll-Term}
use Rattle.dy_term.specs.declared.term.Lambda.{Lambda, out-Lambda, roll-Lambda}
use Rattle.dy_term.specs.declared.rows.Init.{Init}
use Rattle.dy_term.specs.declared.rows.Init.TheVariants.{Each, Calling}
use Rattle.dy_term.specs.declared.rows.SlotRow.{SlotRow}
use Rattle.dy_term.specs.declared.rows.ClassRow.{ClassRow}
use Rattle.dy_term.specs.declared.rows.MethodCode.{MethodCode}
use Rattle.dy_term.specs.declared.rows.MethodCode.TheVariants.{Dylan}
use Rattle.dy_term.specs.declared.rows.MethodRow.{MethodRow}
use Rattle.dy_term.specs.declared.rows.VariableRow.{VariableRow}
use Rattle.dy_term.specs.declared.rows.LibraryRow.{LibraryRow}
use Rattle.dy_term.specs.declared.rows.Program.{Program}
use Rattle.dy_code.specs.declared.unit.Body.{Body}
use Rattle.dy_code.specs.declared.unit.Library.{Library}
use Rattle.dy_code.specs.declared.unit.Unit.{Unit as CodeUnit}
use Rattle.dy_code.specs.declared.unit.UnitCode.{UnitCode}
use Rattle.dy_meaning.specs.Layouts.{from}
use Rattle.dy_meaning.specs.Numbers.{greatest}
use Rattle.dy_lowered.specs.Flat.{placed_from}
use Rattle.dy_lowered.specs.Bodies.{FlatBody, bodies_of, start_count, tops_from}
use Rattle.dy_lowered.specs.Tables.{Tables, tables_of, written}
use Rattle.dy_lowered.specs.Stretches.{stretch_of}

abbrev pub body_of : Tables → FlatBody → Body
body_of tables flat =
    let code = placed_from 0 flat.code in
    record {
      locals = flat.locals;
      captures = flat.captures;
      stretch = stretch_of code;
      code = map (written tables) code;
    }

-- The lists are those of all bodies, one after the other. Nothing of the other libraries of the
-- view is looked at yet.
abbrev pub lowered : (view : Program) (library : LibraryRow) → UnitCode
lowered view library =
    let flat = bodies_of library in
    let tables = tables_of (flat_map (λ body. placed_from 0 body.code) flat) in
    let bodies = map (body_of tables) flat in
    record {
      constants = tables.constants;
      names = tables.names;
      bound = tables.bound;
      lists = tables.lists;
      types = tables.types;
      results = tables.results;
      bodies = bodies;
      starts = from 0 (start_count library);
      tops = tops_from library.tops (start_count library);
      stretch = greatest (map (λ body. body.stretch) bodies);
    }

-- The row of a unit holds no terms.
abbrev pub no_term : Term
no_term = roll-Term (Term-F.Body [])

abbrev pub bare_lambda : Lambda → Lambda
bare_lambda lambda = roll-Lambda (record {
  params = (out-Lambda lambda).params;
  keywords = [];
  next = false;
  first = 0;
  locals = 0;
  body = no_term;
  results = (out-Lambda lambda).results;
})

abbrev pub bare_init : Init → Init
bare_init (Each term) = Each no_term
bare_init (Calling term) = Calling no_term

abbrev pub bare_slot : SlotRow → SlotRow
bare_slot row = record row { init = option_map bare_init row.init }

abbrev pub bare_class : ClassRow → ClassRow
bare_class row = record row { slots = map bare_slot row.slots }

abbrev pub bare_code : MethodCode → MethodCode
bare_code (Dylan lambda) = Dylan (bare_lambda lambda)
bare_code code = code

abbrev pub bare_method : MethodRow → MethodRow
bare_method row = record row { code = bare_code row.code }

abbrev pub bare_variable : VariableRow → VariableRow
bare_variable row = record row { function = option_map bare_lambda row.function }

abbrev pub bare_row : LibraryRow → LibraryRow
bare_row row = record row {
  classes = map bare_class row.classes;
  methods = map bare_method row.methods;
  variables = map bare_variable row.variables;
  tops = [];
}

-- the unit of a library
abbrev pub lowered_unit : Program → Library → CodeUnit
lowered_unit view library = record {
  name = library.row.name;
  uses = library.uses;
  row = bare_row library.row;
  exports = library.exports;
  macros = library.macros;
  code = lowered view library.row;
}
