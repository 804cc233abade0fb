-- The methods of a program, as its rows have them.
use Rattle.std.specs.Prelude.{ℕ, zero, suc, min, List, [], ◌∷◌, ◌++◌, length, slice_get}
use Rattle.std.specs.declared.option.Option.{Option}
use Rattle.std.specs.Option.{option_map_or}
use Rattle.dy_base.specs.declared.ids.MethodId.{MethodId}
use Rattle.dy_term.specs.declared.types.DyType.{DyType}
use Rattle.dy_term.specs.declared.rows.MethodRow.{MethodRow}
use Rattle.dy_term.specs.declared.rows.Program.{Program}

-- the methods of the library of this number
abbrev pub methods_in : Program → ℕ → List MethodRow
methods_in program library = option_map_or (λ l. l.methods) (slice_get program.libraries library) []

-- the row of a method, where it has one
abbrev pub method_at : Program → MethodId → Option MethodRow
method_at program method = slice_get (methods_in program method.0.library) method.0.row

-- the types of its required parameters
abbrev pub specializers_of : Program → MethodId → List DyType
specializers_of program method = option_map_or (λ row. row.params.required) (method_at program method) []

-- how many of a list's places an id counts: all, of a list that is shorter than 2^32
abbrev pub counted : ℕ → ℕ
counted length = min length 4294967295

abbrev pub method_id : (library row : ℕ) → MethodId
method_id library row = record { 0 = record { library = library; row = row } }

-- the first methods of a library, up to a number of them
abbrev pub methods_upto : (library count : ℕ) → List MethodId
methods_upto library zero = []
methods_upto library (suc row) = methods_upto library row ++ method_id library row ∷ []

-- the methods of the first libraries of a program, up to a number of these
abbrev pub methods_below : Program → (libraries : ℕ) → List MethodId
methods_below program zero = []
methods_below program (suc library) =
    methods_below program library ++ methods_upto library (counted (length (methods_in program library)))

-- all methods of a program, in the load order of the libraries and then in the order of the text
abbrev pub methods_of : Program → List MethodId
methods_of program = methods_below program (counted (length program.libraries))
