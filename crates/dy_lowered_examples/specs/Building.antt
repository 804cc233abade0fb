-- Parts of terms.
use Rattle.std.specs.Prelude.{ℕ, ℤ, List, [], ◌∷◌, false}
use Rattle.std.specs.declared.option.Option.TheVariants.{None}
use Rattle.dy_base.specs.declared.ids.BindingId.{BindingId}
use Rattle.dy_base.specs.declared.ids.What.TheVariants as whats
use Rattle.dy_term.specs.declared.literal.Literal.{Literal, Literal-F, roll-Literal}
use Rattle.dy_term.specs.declared.types.Params.{Params}
use Rattle.dy_term.specs.declared.term.ForClause.{ForClause, ForClause-F}
use Rattle.dy_term.specs.declared.term.Item.{Item, Item-F, roll-Item}
use Rattle.dy_term.specs.declared.term.Term.{Term, Term-F, roll-Term}
use Rattle.dy_term.specs.declared.term.BlockRow.{BlockRow}
use Rattle.dy_term.specs.declared.term.ForRow.{ForRow, ForRow-F}
use Rattle.dy_term.specs.declared.term.Lambda.{Lambda, Lambda-F}

abbrev pub A_term : Type 0
A_term = Term-F ForClause Item Term BlockRow ForRow Lambda

abbrev pub An_item : Type 0
An_item = Item-F ForClause Item Term BlockRow ForRow Lambda

abbrev pub A_clause : Type 0
A_clause = ForClause-F ForClause Item Term BlockRow ForRow Lambda

abbrev pub A_loop : Type 0
A_loop = ForRow-F ForClause Item Term BlockRow ForRow Lambda

abbrev pub A_lambda : Type 0
A_lambda = Lambda-F ForClause Item Term BlockRow ForRow Lambda

-- `format-out` of the library io
abbrev pub format_out : BindingId
format_out = record { what = whats.Function; at = record { library = 1; row = 0 } }

abbrev pub number : ℤ → Literal
number value = roll-Literal (Literal-F.Int value)

abbrev pub no_params : Params
no_params = record { required = []; rest = false; keys = None; all_keys = false }

abbrev pub local : ℕ → Term
local k = roll-Term (Term-F.Local k)

abbrev pub lit : Literal → Term
lit v = roll-Term (Term-F.Lit v)

abbrev pub printer : Term
printer = roll-Term (Term-F.Global format_out)

abbrev pub run : Term → Item
run t = roll-Item (Item-F.Run t)

abbrev pub sequence : List Item → Term
sequence items = roll-Term (Term-F.Body items)
