-- Brackets and commas (DRM 2, "Lexical syntax").
use Rattle.std.specs.Prelude.{Bool, true, false, if◌then◌else◌, codes}
use Rattle.dy_tree.specs.declared.token.Token.{Token}
use Rattle.dy_tree.specs.Spelling.{is_spelled}
use Rattle.dy_fragment.specs.declared.sign.Bracket.{Bracket}
use Rattle.dy_fragment.specs.declared.sign.Bracket.TheVariants.{Round, Square, Curly}
use Rattle.dy_fragment.specs.declared.sign.Sign.{Sign}
use Rattle.dy_fragment.specs.declared.sign.Sign.TheVariants.{Opens, Closes, Comma, Other}

abbrev pub closing_sign : Token → Sign
closing_sign token =
    if is_spelled (codes ")") token then Closes Round
    else if is_spelled (codes "]") token then Closes Square
    else if is_spelled (codes "}") token then Closes Curly
    else if is_spelled (codes ",") token then Comma
    else Other

-- what punctuation does to groups
abbrev pub sign_of : Token → Sign
sign_of token =
    if is_spelled (codes "(") token then Opens Round
    else if is_spelled (codes "#(") token then Opens Round
    else if is_spelled (codes "[") token then Opens Square
    else if is_spelled (codes "#[") token then Opens Square
    else if is_spelled (codes "{") token then Opens Curly
    else closing_sign token

-- whether a closer fits a bracket
abbrev pub same_shape : Bracket → Bracket → Bool
same_shape Round Round = true
same_shape Round Square = false
same_shape Round Curly = false
same_shape Square Round = false
same_shape Square Square = true
same_shape Square Curly = false
same_shape Curly Round = false
same_shape Curly Square = false
same_shape Curly Curly = true
