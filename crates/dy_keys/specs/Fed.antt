-- What of an item is hashed.
use Rattle.std.specs.Prelude.{ℕ, ℤ, Bool, List, [], ◌∷◌, ◌++◌, map, flat_map}
use Rattle.std.specs.Option.{option_map}
use Rattle.std.specs.declared.option.Option.{Option}
use Rattle.std.specs.declared.option.Option.TheVariants.{None, Some}
use Rattle.std.specs.Hash.{HashWrites}
use Rattle.std.specs.Hash as hash
use Rattle.dy_base.specs.declared.ids.BindingId.{BindingId}
use Rattle.dy_term.specs.declared.literal.Literal.{Literal, Literal-F, fold-Literal}
use Rattle.dy_term.specs.declared.types.Member.{Member}
use Rattle.dy_term.specs.declared.types.Member.TheVariants.{Class, Single, SingleClass, Range}
use Rattle.dy_term.specs.declared.types.DyType.{DyType}
use Rattle.dy_term.specs.declared.types.Params.{Params}
use Rattle.dy_term.specs.declared.types.Results.{Results}

abbrev pub truth : Bool → HashWrites
truth value = hash.u8 2 ++ hash.bool value

abbrev pub number : ℤ → HashWrites
number value = hash.u8 0 ++ hash.i64 value

abbrev pub joined : List HashWrites → HashWrites
joined [] = []
joined (writes ∷ others) = writes ++ joined others

abbrev pub held : Option HashWrites → HashWrites
held None = []
held (Some writes) = writes

-- a literal, its parts being what of them is hashed
abbrev pub row : Literal-F HashWrites → HashWrites
row (Literal-F.Int value) = number value
row (Literal-F.Char value) = hash.u8 1 ++ hash.u8 value
row (Literal-F.Bool value) = truth value
row (Literal-F.Symbol word) = hash.u8 3 ++ word ∷ []
row Literal-F.Nil = hash.u8 4
row (Literal-F.Str text) = hash.u8 5 ++ text ∷ []
row (Literal-F.List items last) = hash.u8 6 ++ (joined items ++ held last)
row (Literal-F.Vector items) = hash.u8 7 ++ joined items

abbrev pub literal : Literal → HashWrites
literal = fold-Literal HashWrites row

abbrev pub literals : List Literal → HashWrites
literals items = joined (map literal items)

abbrev pub end : Option Literal → HashWrites
end last = held (option_map literal last)

abbrev pub name : BindingId → HashWrites
name binding = hash.u32 binding.at.library ++ hash.u32 binding.at.row

abbrev pub member : Member → HashWrites
member (Class class) = hash.u32 class.0.row
member (Single value) = literal value
member (SingleClass class) = hash.u32 class.0.row
member (Range least greatest) = hash.i64 least ++ hash.i64 greatest

abbrev pub declared_type : DyType → HashWrites
declared_type type = flat_map member type.members

abbrev pub types : List DyType → HashWrites
types list = flat_map declared_type list

abbrev pub params : Params → HashWrites
params list = hash.bool list.rest ++ types list.required

abbrev pub results : Results → HashWrites
results list = types list.required
