use Rattle.std.proofs.Common.{◌≡◌, true, false, [], ◌∷◌, ◌++◌, sym, ◌∙◌}
use Rattle.dy_lexer.specs.Tokens.{is_string}
use Rattle.dy_lexer.proofs.Joining.{add_second, add_joined, done_same}
use Rattle.dy_lexer.proofs.token.add_after.Goals as goal

pub returns-in_ok-whole : goal.returns-in_ok-whole
returns-in_ok-whole c =
    let is : is_string c.args.last.kind ≡ true = sym c.is_string.ensures ∙ c.if-is_string.true in
    rw (add_joined c.args.tokens.items c.args.last c.in_ok-whole.whole c.args.place _ is (rw c.inner.ensures at c.in_ok-whole.ensures)) c.pushed.ensures

pub returns-in_ok-second : goal.returns-in_ok-second
returns-in_ok-second c =
    let is : is_string c.args.last.kind ≡ false = sym c.is_string.ensures ∙ c.if-is_string.false in
    let mid : c.in_ok-tokens.tokens.items ≡ c.args.tokens.items ++ c.args.last ∷ [] = done_same _ c.in_ok-tokens.tokens.items c.in_ok-tokens.ensures in
    rw (add_second c.args.tokens.items c.args.last c.in_ok-second.second c.in_ok-tokens.tokens.items _ is mid c.in_ok-second.ensures) c.pushed-else-is_string-2.ensures
