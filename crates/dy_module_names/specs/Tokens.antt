-- The tokens of a module.
use Rattle.std.specs.Prelude.{ℕ}
use Rattle.dy_tree.specs.declared.token.Token.{Token}

-- a token, as one of the module of this number
abbrev pub in_module : ℕ → Token → Token
in_module number token = record token { «module» = number }
