-- Parts that all statements have.
use Rattle.dy_tree.specs.declared.token.Token.{Token}
use Rattle.dy_tree.specs.declared.expression.Statement.{Statement, Begin', Method', If', Guarded'}
use Rattle.dy_tree.specs.declared.expression.Statement.{Case', Select', Block', For'}

abbrev pub word_of : Statement → Token
word_of (Begin' word shape body) = word
word_of (Method' word p signature shape body) = word
word_of (If' word p test shape body others alternatives last) = word
word_of (Guarded' guard word p test shape body) = word
word_of (Case' word shape arms last) = word
word_of (Select' word p value test shape arms last) = word
word_of (Block' word exit shape body others clauses) = word
word_of (For' word shape clauses stop others body last) = word
