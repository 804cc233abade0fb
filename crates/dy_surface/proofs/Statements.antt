-- Expressions that are no types, and no parts of types; statements among them.
use Rattle.std.proofs.Common.{◌≡◌, refl, sym, ap, ◌∙◌}
use Rattle.std.specs.Global.{Vec, Box}
use Rattle.std.specs.Prelude.{None}
use Rattle.dy_tree.specs.declared.token.Token.{Token}
use Rattle.dy_tree.specs.declared.expression.Argument.{Argument}
use Rattle.dy_tree.specs.declared.expression.Argument.TheViews.{roll-Expression, roll-out-Expression}
use Rattle.dy_tree.specs.declared.expression.Expression.{Expression}
use Rattle.dy_tree.specs.declared.expression.Expression.TheVariants as expressions
use Rattle.dy_tree.specs.declared.expression.Expression.TheVariants.{rolls-Call, outs-Call'}
use Rattle.dy_tree.specs.declared.expression.Statement.{Statement, Begin', Method', If', Guarded', Case', Select', Block', For'}
use Rattle.dy_rules.specs.SeenForms.{seen_statement, seen_tree}
use Rattle.dy_surface.specs.TypeConstants.{only_value, number_in, type_in, constant_type}

pub statement_no_value : (token : Token) (statement : Statement) → only_value token (seen_statement statement) ≡ None
statement_no_value token (Begin' word shape body) = refl
statement_no_value token (Method' word p signature shape body) = refl
statement_no_value token (If' word p test shape body others alternatives last) = refl
statement_no_value token (Guarded' guard word p test shape body) = refl
statement_no_value token (Case' word shape arms last) = refl
statement_no_value token (Select' word p value test shape arms last) = refl
statement_no_value token (Block' word exit shape body others found) = refl
statement_no_value token (For' word shape found stop others body last) = refl

pub statement_no_number : (statement : Statement) → number_in (seen_statement statement) ≡ None
statement_no_number (Begin' word shape body) = refl
statement_no_number (Method' word p signature shape body) = refl
statement_no_number (If' word p test shape body others alternatives last) = refl
statement_no_number (Guarded' guard word p test shape body) = refl
statement_no_number (Case' word shape arms last) = refl
statement_no_number (Select' word p value test shape arms last) = refl
statement_no_number (Block' word exit shape body others found) = refl
statement_no_number (For' word shape found stop others body last) = refl

pub statement_no_type : (statement : Statement) → type_in (seen_statement statement) ≡ None
statement_no_type (Begin' word shape body) = refl
statement_no_type (Method' word p signature shape body) = refl
statement_no_type (If' word p test shape body others alternatives last) = refl
statement_no_type (Guarded' guard word p test shape body) = refl
statement_no_type (Case' word shape arms last) = refl
statement_no_type (Select' word p value test shape arms last) = refl
statement_no_type (Block' word exit shape body others found) = refl
statement_no_type (For' word shape found stop others body last) = refl

pub statement_no_constant : (statement : Statement) → constant_type (seen_statement statement) ≡ None
statement_no_constant (Begin' word shape body) = refl
statement_no_constant (Method' word p signature shape body) = refl
statement_no_constant (If' word p test shape body others alternatives last) = refl
statement_no_constant (Guarded' guard word p test shape body) = refl
statement_no_constant (Case' word shape arms last) = refl
statement_no_constant (Select' word p value test shape arms last) = refl
statement_no_constant (Block' word exit shape body others found) = refl
statement_no_constant (For' word shape found stop others body last) = refl

pub no_value : (token : Token) (expression : Expression) → ((form : _) → expression ≡ expressions.Literal form → ⊥) → ((name : Token) → expression ≡ expressions.Name name → ⊥)
    → ((opener : _) (items : _) (last : _) → expression ≡ expressions.List opener items last → ⊥) → None ≡ only_value token (seen_tree expression)
no_value token (expressions.Literal form) l n s = absurd (l form refl)
no_value token (expressions.Name name) l n s = absurd (n name refl)
no_value token (expressions.List opener items last) l n s = absurd (s opener items last refl)
no_value token (expressions.Statement statement) l n s = sym (statement_no_value token statement)
no_value token _ l n s = refl

pub no_number : (expression : Expression) → ((form : _) → expression ≡ expressions.Literal form → ⊥) → None ≡ number_in (seen_tree expression)
no_number (expressions.Literal form) l = absurd (l form refl)
no_number (expressions.Statement statement) l = sym (statement_no_number statement)
no_number _ l = refl

abbrev NoCall : Expression → Type 0
NoCall expression = (function : Box Expression) (arguments : Vec Argument) → expression ≡ expressions.Call function arguments → ⊥

pub no_type : (expression : Expression) → NoCall expression → ((name : Token) → expression ≡ expressions.Name name → ⊥) → None ≡ type_in (seen_tree expression)
no_type (expressions.Call' p function shape arguments) c n =
    absurd (c _ _ (sym (roll-out-Expression (expressions.Call' p function shape arguments)) ∙ ap roll-Expression (outs-Call' p function shape arguments) ∙ rolls-Call _ _))
no_type (expressions.Name name) c n = absurd (n name refl)
no_type (expressions.Statement statement) c n = sym (statement_no_type statement)
no_type _ c n = refl

pub no_constant : (expression : Expression) → NoCall expression → None ≡ constant_type (seen_tree expression)
no_constant (expressions.Call' p function shape arguments) c =
    absurd (c _ _ (sym (roll-out-Expression (expressions.Call' p function shape arguments)) ∙ ap roll-Expression (outs-Call' p function shape arguments) ∙ rolls-Call _ _))
no_constant (expressions.Statement statement) c = sym (statement_no_constant statement)
no_constant _ c = refl
