-- How tokens are spelled (DRM 2, "Lexical syntax").
use Rattle.std.specs.Prelude.{ℕ, Bool, true, false, ◌&&◌, List}
use Rattle.std.specs.Str.{bytes_eq}
use Rattle.dy_tree.specs.declared.token.TokenKind.{TokenKind}
use Rattle.dy_tree.specs.declared.token.TokenKind.TheVariants as kinds
use Rattle.dy_tree.specs.declared.token.Token.{Token}

-- its text is this one, byte by byte
abbrev pub is_spelled : List ℕ → Token → Bool
is_spelled text token = bytes_eq token.text text

abbrev pub is_name_kind : TokenKind → Bool
is_name_kind kinds.Name = true
is_name_kind _ = false

abbrev pub is_punctuation : TokenKind → Bool
is_punctuation kinds.Punctuation = true
is_punctuation _ = false

-- a name as it is written, which is not escaped
abbrev pub is_word : List ℕ → Token → Bool
is_word text token = is_name_kind token.kind && is_spelled text token

abbrev pub is_sign : List ℕ → Token → Bool
is_sign text token = is_punctuation token.kind && is_spelled text token
