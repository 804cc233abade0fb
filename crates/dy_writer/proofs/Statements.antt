-- What a statement is written as, whichever it is, and what other expressions are written as.
use Rattle.std.proofs.Common.{◌≡◌, ◌++◌, List, [], ◌∷◌, refl, sym, ap, ◌∙◌}
use Rattle.std.specs.Global.{Vec, Box}
use Rattle.std.proofs.lemmas.List.{append-nil, append_assoc}
use Rattle.dy_tree.specs.declared.token.Token.{Token}
use Rattle.dy_tree.specs.Fragments.{SeenFragment}
use Rattle.dy_tree.specs.Statements.{word_of}
use Rattle.dy_tree.specs.declared.roles.Precedence.{Precedence}
use Rattle.dy_tree.specs.declared.expression.Argument.{Argument}
use Rattle.dy_tree.specs.declared.expression.Argument.TheViews.{roll-Expression, roll-out-Expression}
use Rattle.dy_tree.specs.declared.expression.Expression.{Expression}
use Rattle.dy_tree.specs.declared.expression.Expression.TheVariants as expressions
use Rattle.dy_tree.specs.declared.expression.Expression.TheVariants.{rolls-Call, outs-Call'}
use Rattle.dy_tree.specs.declared.expression.Statement.{Statement, Begin', Method', If', Guarded', Case', Select', Block', For'}
use Rattle.dy_rules.specs.Marks.{in_round, semicolon_mark, statement_group}
use Rattle.dy_rules.specs.SeenForms.{seen_tree, seen_statement, seen_body, seen_parameters}
use Rattle.dy_rules.specs.Writing.{plain, written, written_body, written_signature}
use Rattle.dy_writer.specs.Plain.{behind_first, before_body, main_body, behind_body}

pub statement_no_operand : (statement : Statement) → behind_first (seen_statement statement) ≡ []
statement_no_operand (Begin' word shape body) = refl
statement_no_operand (Method' word p signature shape body) = refl
statement_no_operand (If' word p test shape body others alternatives last) = refl
statement_no_operand (Guarded' guard word p test shape body) = refl
statement_no_operand (Case' word shape arms last) = refl
statement_no_operand (Select' word p value test shape arms last) = refl
statement_no_operand (Block' word exit shape body others found) = refl
statement_no_operand (For' word shape found stop others body last) = refl

pub no_operand : (expression : Expression) → ((place value : Box Expression) → expression ≡ expressions.Assign place value → ⊥)
    → ((precedence : Precedence) (left : Box Expression) (operator : Token) (right : Box Expression) → expression ≡ expressions.Operation precedence left operator right → ⊥)
    → ((function : Box Expression) (arguments : Vec Argument) → expression ≡ expressions.Call function arguments → ⊥)
    → ((object : Box Expression) (opener : Token) (index : Box Expression) → expression ≡ expressions.Element object opener index → ⊥)
    → ((object : Box Expression) (name : Token) → expression ≡ expressions.Member object name → ⊥) → behind_first (seen_tree expression) ≡ []
no_operand (expressions.Assign' p place q value) a o c e m = absurd (a _ _ refl)
no_operand (expressions.Operation' precedence p left operator q right) a o c e m = absurd (o _ _ _ _ refl)
no_operand (expressions.Call' p function shape arguments) a o c e m =
    absurd (c _ _ (sym (roll-out-Expression (expressions.Call' p function shape arguments)) ∙ ap roll-Expression (outs-Call' p function shape arguments) ∙ rolls-Call _ _))
no_operand (expressions.Element' p object opener q index) a o c e m = absurd (e _ _ _ refl)
no_operand (expressions.Member' p object name) a o c e m = absurd (m _ _ refl)
no_operand (expressions.Statement statement) a o c e m = statement_no_operand statement
no_operand _ a o c e m = refl

-- a statement is its word, what stands before its body, the body, and what stands behind it
pub statement_parts : (statement : Statement) → plain (seen_statement statement)
    ≡ statement_group (word_of statement) (before_body (seen_statement statement) ++ (main_body (seen_statement statement) ++ behind_body (seen_statement statement))) ∷ []
statement_parts (Begin' word shape body) = ap (λ (fs : List SeenFragment). statement_group word fs ∷ []) (sym (append-nil (written_body (seen_body body))))
statement_parts (Method' word p signature shape body) =
    let first = written_signature (seen_parameters signature) in
    let inner = written_body (seen_body body) in
    ap (λ (fs : List SeenFragment). statement_group word fs ∷ [])
    (sym (append_assoc first (semicolon_mark ∷ []) (inner ++ []) ∙ ap (λ (fs : List SeenFragment). first ++ semicolon_mark ∷ fs) (append-nil inner)))
statement_parts (If' word p test shape body others alternatives last) = refl
statement_parts (Guarded' guard word p test shape body) = ap (λ (fs : List SeenFragment). statement_group word (in_round (written (seen_tree test)) ∷ fs) ∷ []) (sym (append-nil (written_body (seen_body body))))
statement_parts (Case' word shape arms last) = refl
statement_parts (Select' word p value test shape arms last) = refl
statement_parts (Block' word exit shape body others found) = refl
statement_parts (For' word shape found stop others body last) = refl
