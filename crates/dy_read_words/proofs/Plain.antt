-- What is plain of the initial values of slots.
use Rattle.std.proofs.Common.{◌≡◌, Bool, false, Option, Vec, refl}
use Rattle.dy_tree.specs.declared.token.Token.{Token}
use Rattle.dy_tree.specs.declared.expression.Expression.{Expression}
use Rattle.dy_tree.specs.declared.expression.Expression.TheVariants as expressions
use Rattle.dy_tree.specs.declared.expression.Statement.{Statement}
use Rattle.dy_tree.specs.declared.expression.Statement.TheVariants as statements
use Rattle.dy_rules.specs.Forms.{is_plain}
use Rattle.dy_rules.specs.SeenForms.{seen_tree, seen_statement}

no_statement : (statement : Statement) → false ≡ is_plain (seen_statement statement)
no_statement (statements.Begin' word shape body) = refl
no_statement (statements.Method' word p signature shape body) = refl
no_statement (statements.If' word p test shape body others alternatives last) = refl
no_statement (statements.Guarded' guard word p test shape body) = refl
no_statement _ = refl

-- neither a literal nor a list
pub no_plain : (expression : Expression) → ((form : _) → expression ≡ expressions.Literal form → ⊥)
    → ((opener : _) (items : _) (last : _) → expression ≡ expressions.List opener items last → ⊥) → false ≡ is_plain (seen_tree expression)
no_plain (expressions.Literal form) literal list = absurd (literal form refl)
no_plain (expressions.List opener items last) literal list = absurd (list opener items last refl)
no_plain (expressions.Statement statement) literal list = no_statement statement
no_plain _ literal list = refl
