-- Statements, and expressions that are none of those that a match names: brackets round them, and no leaf.
use Rattle.std.proofs.Common.{◌≡◌, false, List, [], refl, sym}
use Rattle.std.specs.Global.{Box}
use Rattle.dy_tree.specs.declared.token.Token.{Token}
use Rattle.dy_tree.specs.declared.expression.Expression.{Expression}
use Rattle.dy_tree.specs.declared.expression.Expression.TheVariants as expressions
use Rattle.dy_tree.specs.declared.expression.Statement.{Statement, Begin', Method', If', Guarded', Case', Select', Block', For'}
use Rattle.dy_rules.specs.SeenForms.{seen_tree, seen_statement}
use Rattle.dy_rules.specs.Writing.{splits_tree, operand_bracketed, minus_bracketed}
use Rattle.dy_write_parts.specs.Leaves.{leaf}

pub statement_whole : (statement : Statement) → splits_tree (seen_statement statement) ≡ false
statement_whole (Begin' word shape body) = refl
statement_whole (Method' word p signature shape body) = refl
statement_whole (If' word p test shape body others alternatives last) = refl
statement_whole (Guarded' guard word p test shape body) = refl
statement_whole (Case' word shape arms last) = refl
statement_whole (Select' word p value test shape arms last) = refl
statement_whole (Block' word exit shape body others found) = refl
statement_whole (For' word shape found stop others body last) = refl

pub statement_operand : (statement : Statement) → operand_bracketed (seen_statement statement) ≡ false
statement_operand (Begin' word shape body) = refl
statement_operand (Method' word p signature shape body) = refl
statement_operand (If' word p test shape body others alternatives last) = refl
statement_operand (Guarded' guard word p test shape body) = refl
statement_operand (Case' word shape arms last) = refl
statement_operand (Select' word p value test shape arms last) = refl
statement_operand (Block' word exit shape body others found) = refl
statement_operand (For' word shape found stop others body last) = refl

pub statement_under_minus : (statement : Statement) → minus_bracketed (seen_statement statement) ≡ operand_bracketed (seen_statement statement)
statement_under_minus (Begin' word shape body) = refl
statement_under_minus (Method' word p signature shape body) = refl
statement_under_minus (If' word p test shape body others alternatives last) = refl
statement_under_minus (Guarded' guard word p test shape body) = refl
statement_under_minus (Case' word shape arms last) = refl
statement_under_minus (Select' word p value test shape arms last) = refl
statement_under_minus (Block' word exit shape body others found) = refl
statement_under_minus (For' word shape found stop others body last) = refl

pub statement_no_leaf : (statement : Statement) → leaf (seen_statement statement) ≡ []
statement_no_leaf (Begin' word shape body) = refl
statement_no_leaf (Method' word p signature shape body) = refl
statement_no_leaf (If' word p test shape body others alternatives last) = refl
statement_no_leaf (Guarded' guard word p test shape body) = refl
statement_no_leaf (Case' word shape arms last) = refl
statement_no_leaf (Select' word p value test shape arms last) = refl
statement_no_leaf (Block' word exit shape body others found) = refl
statement_no_leaf (For' word shape found stop others body last) = refl

-- expressions that are none of those that a match names

pub no_split : (expression : Expression) → ((object : Box Expression) (name : Token) → expression ≡ expressions.Member object name → ⊥) → ((name : Token) → expression ≡ expressions.Name name → ⊥)
    → false ≡ splits_tree (seen_tree expression)
no_split (expressions.Member' p object name) m n = absurd (m _ _ refl)
no_split (expressions.Name name) m n = absurd (n name refl)
no_split (expressions.Statement statement) m n = sym (statement_whole statement)
no_split _ m n = refl

pub under_minus : (expression : Expression) → ((form : _) → expression ≡ expressions.Literal form → ⊥) → operand_bracketed (seen_tree expression) ≡ minus_bracketed (seen_tree expression)
under_minus (expressions.Literal form) l = absurd (l form refl)
under_minus (expressions.Statement statement) l = sym (statement_under_minus statement)
under_minus _ l = refl

pub no_leaf : (expression : Expression) → ((form : _) → expression ≡ expressions.Literal form → ⊥) → ((name : Token) → expression ≡ expressions.Name name → ⊥)
    → ((opener : _) (items : _) (last : _) → expression ≡ expressions.List opener items last → ⊥) → ((opener : _) (items : _) → expression ≡ expressions.Vector opener items → ⊥)
    → leaf (seen_tree expression) ≡ []
no_leaf (expressions.Literal form) l n s v = absurd (l form refl)
no_leaf (expressions.Name name) l n s v = absurd (n name refl)
no_leaf (expressions.List opener items last) l n s v = absurd (s opener items last refl)
no_leaf (expressions.Vector opener items) l n s v = absurd (v opener items refl)
no_leaf (expressions.Statement statement) l n s v = statement_no_leaf statement
no_leaf _ l n s v = refl
