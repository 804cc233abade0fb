-- A statement is no name, no comparison and no text.
use Rattle.std.proofs.Common.{◌≡◌, false, refl}
use Rattle.std.specs.Prelude.{None}
use Rattle.dy_tree.specs.declared.expression.Statement.{Statement, Begin', Method', If', Guarded', Case', Select', Block', For'}
use Rattle.dy_rules.specs.SeenForms.{seen_statement}
use Rattle.dy_constructs.specs.Bodies.{is_name, is_compared}
use Rattle.dy_constructs.specs.Forms.{names_format_out, text_in, printing}

pub statement_no_name : (statement : Statement) → is_name (seen_statement statement) ≡ false
statement_no_name (Begin' word shape body) = refl
statement_no_name (Method' word p signature shape body) = refl
statement_no_name (If' word p test shape body others alternatives last) = refl
statement_no_name (Guarded' guard word p test shape body) = refl
statement_no_name (Case' word shape arms last) = refl
statement_no_name (Select' word p value test shape arms last) = refl
statement_no_name (Block' word exit shape body others found) = refl
statement_no_name (For' word shape found stop others body last) = refl

pub statement_not_compared : (statement : Statement) → is_compared (seen_statement statement) ≡ false
statement_not_compared (Begin' word shape body) = refl
statement_not_compared (Method' word p signature shape body) = refl
statement_not_compared (If' word p test shape body others alternatives last) = refl
statement_not_compared (Guarded' guard word p test shape body) = refl
statement_not_compared (Case' word shape arms last) = refl
statement_not_compared (Select' word p value test shape arms last) = refl
statement_not_compared (Block' word exit shape body others found) = refl
statement_not_compared (For' word shape found stop others body last) = refl

pub statement_unnamed : (statement : Statement) → names_format_out (seen_statement statement) ≡ false
statement_unnamed (Begin' word shape body) = refl
statement_unnamed (Method' word p signature shape body) = refl
statement_unnamed (If' word p test shape body others alternatives last) = refl
statement_unnamed (Guarded' guard word p test shape body) = refl
statement_unnamed (Case' word shape arms last) = refl
statement_unnamed (Select' word p value test shape arms last) = refl
statement_unnamed (Block' word exit shape body others found) = refl
statement_unnamed (For' word shape found stop others body last) = refl

pub statement_no_text : (statement : Statement) → text_in (seen_statement statement) ≡ None
statement_no_text (Begin' word shape body) = refl
statement_no_text (Method' word p signature shape body) = refl
statement_no_text (If' word p test shape body others alternatives last) = refl
statement_no_text (Guarded' guard word p test shape body) = refl
statement_no_text (Case' word shape arms last) = refl
statement_no_text (Select' word p value test shape arms last) = refl
statement_no_text (Block' word exit shape body others found) = refl
statement_no_text (For' word shape found stop others body last) = refl

pub statement_prints_nothing : (statement : Statement) → printing (seen_statement statement) ≡ None
statement_prints_nothing (Begin' word shape body) = refl
statement_prints_nothing (Method' word p signature shape body) = refl
statement_prints_nothing (If' word p test shape body others alternatives last) = refl
statement_prints_nothing (Guarded' guard word p test shape body) = refl
statement_prints_nothing (Case' word shape arms last) = refl
statement_prints_nothing (Select' word p value test shape arms last) = refl
statement_prints_nothing (Block' word exit shape body others found) = refl
statement_prints_nothing (For' word shape found stop others body last) = refl
