-- Assignments to calls, and statements, which are no places.
use Rattle.std.proofs.Common.{◌≡◌, List, map, flat_map, refl, sym, ap, ◌∙◌}
use Rattle.std.specs.Prelude.{Option, Some, None}
use Rattle.dy_tree.specs.declared.token.Token.{Token}
use Rattle.std.specs.Global.{Vec, Box}
use Rattle.dy_tree.specs.declared.expression.Argument.{Argument}
use Rattle.dy_tree.specs.declared.expression.Expression.{Expression}
use Rattle.dy_tree.specs.declared.expression.Expression.TheVariants as expressions
use Rattle.dy_tree.specs.declared.expression.Expression.TheVariants.{rolls-Call, outs-Call'}
use Rattle.dy_tree.specs.declared.expression.Argument.TheViews.{roll-Expression, roll-out-Expression}
use Rattle.dy_tree.specs.declared.expression.Statement.{Statement, Begin', Method', If', Guarded', Case', Select', Block', For'}
use Rattle.dy_tree.specs.Statements.{word_of}
use Rattle.dy_rules.specs.SeenForms.{seen_statement, seen_tree}
use Rattle.dy_term.specs.Drafts.{Core, no_place}
use Rattle.dy_drafts.specs.Parts.{setting, setter_at}
use Rattle.dy_rules.specs.Trees.{Tree, name, call, Arguments}
use Rattle.dy_desugar.specs.Table.{assignment_of, arguments_of, first_token, name_in}

pub named_setter : (function : Tree) (arguments : Arguments) (token : Token) (place value : Core) → name_in function ≡ Some token → assignment_of (call function arguments) place value ≡ setting (setter_at token) (arguments_of arguments) value
named_setter (name found) arguments token place value named =
    let same : found ≡ token = cc in
    ap (λ (t : Token). setting (setter_at t) (arguments_of arguments) value) same
named_setter _ arguments token place value named = absurd cc

pub no_setter : (function : Tree) (arguments : Arguments) (place value : Core) → name_in function ≡ None → assignment_of (call function arguments) place value ≡ no_place (first_token function) place value
no_setter (name found) arguments place value none = absurd cc
no_setter _ arguments place value none = refl

pub statement_no_place : (statement : Statement) (place value : Core) → assignment_of (seen_statement statement) place value ≡ no_place (first_token (seen_statement statement)) place value
statement_no_place (Begin' word shape body) place value = refl
statement_no_place (Method' word p signature shape body) place value = refl
statement_no_place (If' word p test shape body others alternatives last) place value = refl
statement_no_place (Guarded' guard word p test shape body) place value = refl
statement_no_place (Case' word shape arms last) place value = refl
statement_no_place (Select' word p chosen test shape arms last) place value = refl
statement_no_place (Block' word exit shape body others found) place value = refl
statement_no_place (For' word shape found stop others body last) place value = refl

pub statement_first : (statement : Statement) → first_token (seen_statement statement) ≡ word_of statement
statement_first (Begin' word shape body) = refl
statement_first (Method' word p signature shape body) = refl
statement_first (If' word p test shape body others alternatives last) = refl
statement_first (Guarded' guard word p test shape body) = refl
statement_first (Case' word shape arms last) = refl
statement_first (Select' word p value test shape arms last) = refl
statement_first (Block' word exit shape body others found) = refl
statement_first (For' word shape found stop others body last) = refl

pub statement_unnamed : (statement : Statement) → name_in (seen_statement statement) ≡ None
statement_unnamed (Begin' word shape body) = refl
statement_unnamed (Method' word p signature shape body) = refl
statement_unnamed (If' word p test shape body others alternatives last) = refl
statement_unnamed (Guarded' guard word p test shape body) = refl
statement_unnamed (Case' word shape arms last) = refl
statement_unnamed (Select' word p value test shape arms last) = refl
statement_unnamed (Block' word exit shape body others found) = refl
statement_unnamed (For' word shape found stop others body last) = refl

pub no_name : (expression : Expression) → ((token : Token) → expression ≡ expressions.Name token → ⊥) → None ≡ name_in (seen_tree expression)
no_name (expressions.Name token) other = absurd (other token refl)
no_name (expressions.Statement statement) other = sym (statement_unnamed statement)
no_name _ other = refl

pub other_no_place : (expression : Expression) (place value : Core)
    → ((function : Box Expression) (arguments : Vec Argument) → expression ≡ expressions.Call function arguments → ⊥)
    → ((object : Box Expression) (opener : Token) (index : Box Expression) → expression ≡ expressions.Element object opener index → ⊥)
    → ((object : Box Expression) (token : Token) → expression ≡ expressions.Member object token → ⊥)
    → ((token : Token) → expression ≡ expressions.Name token → ⊥)
    → assignment_of (seen_tree expression) place value ≡ no_place (first_token (seen_tree expression)) place value
other_no_place (expressions.Call' p function shape arguments) place value c e m n =
    absurd (c _ _ (sym (roll-out-Expression (expressions.Call' p function shape arguments)) ∙ ap roll-Expression (outs-Call' p function shape arguments) ∙ rolls-Call _ _))
other_no_place (expressions.Element' p object opener q index) place value c e m n = absurd (e _ _ _ refl)
other_no_place (expressions.Member' p object token) place value c e m n = absurd (m _ _ refl)
other_no_place (expressions.Name token) place value c e m n = absurd (n token refl)
other_no_place (expressions.Statement statement) place value c e m n = statement_no_place statement place value
other_no_place _ place value c e m n = refl
