-- The items that keys stand for.
use Rattle.dy_base.specs.declared.ids.BindingId.{BindingId}
use Rattle.dy_term.specs.declared.literal.Literal.{Literal, Literal-F, roll-Literal}
use Rattle.dy_term.specs.declared.types.DyType.{DyType}
use Rattle.dy_term.specs.declared.types.Params.{Params}
use Rattle.dy_term.specs.declared.types.Results.{Results}
use Rattle.dy_keys.specs.declared.keys.LiteralKey.{LiteralKey}
use Rattle.dy_keys.specs.declared.keys.LiteralKey.TheVariants as keys
use Rattle.dy_keys.specs.declared.keys.NameKey.{NameKey}
use Rattle.dy_keys.specs.declared.keys.ParamsKey.{ParamsKey}
use Rattle.dy_keys.specs.declared.keys.ResultsKey.{ResultsKey}
use Rattle.dy_keys.specs.declared.keys.TypeKey.{TypeKey}

abbrev pub literal_of : LiteralKey → Literal
literal_of (keys.Written literal) = literal.now
literal_of (keys.Truth value) = roll-Literal (Literal-F.Bool value)
literal_of (keys.Number value) = roll-Literal (Literal-F.Int value)

abbrev pub name_of : NameKey → BindingId
name_of key = key.0

abbrev pub params_of : ParamsKey → Params
params_of key = key.0.now

abbrev pub type_of : TypeKey → DyType
type_of key = key.0.now

abbrev pub results_of : ResultsKey → Results
results_of key = key.0.now
