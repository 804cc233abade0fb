use Rattle.dy_lexer.proofs.Joining.{with_token-plain}
use Rattle.dy_lexer.proofs.token.add_token.Goals as goal

pub returns : goal.returns
returns c = rw (with_token-plain c.args.tokens.items c.args.token c.requires) c.pushed.ensures
