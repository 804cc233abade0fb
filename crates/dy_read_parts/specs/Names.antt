-- Names, as the reader asks for them.
use Rattle.std.specs.Prelude.{List, Option, None}
use Rattle.std.specs.Global.{Vec}
use Rattle.dy_tree.specs.declared.token.Token.{Token}
use Rattle.dy_tree.specs.Fragments.{SeenFragment, one, group}
use Rattle.dy_rules.specs.Roles.{role_of}
use Rattle.dy_rules.specs.TypeReading.{named_token}

-- the name that a fragment is
abbrev pub name_at : SeenFragment → Option Token
name_at (one token) = named_token (role_of token) token
name_at (group opener inner closer) = None

abbrev pub tokens_in : Vec Token → List Token
tokens_in tokens = tokens.items
