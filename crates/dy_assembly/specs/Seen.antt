-- What is lent.
use Rattle.std.specs.Borrow.{Bor}
use Rattle.dy_tree.specs.declared.token.Token.{Token}

abbrev pub seen_token : Bor Token → Token
seen_token token = token.now
