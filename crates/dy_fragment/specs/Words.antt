-- Which tokens are words (DRM 2, "Lexical syntax", and DRM 10; in which modules a word is known is
-- own).
use Rattle.std.specs.Prelude.{ℕ, ◌+◌, Bool, true, false, ◌&&◌, ◌||◌, ◌==◌, if◌then◌else◌, List, []}
use Rattle.std.specs.Prelude.{◌∷◌, codes, Option, Some, None}
use Rattle.dy_tree.specs.declared.token.TokenKind.{TokenKind}
use Rattle.dy_tree.specs.declared.token.TokenKind.TheVariants.{Escaped}
use Rattle.dy_tree.specs.declared.token.Token.{Token}
use Rattle.dy_tree.specs.declared.macros.MacroKind.{MacroKind}
use Rattle.dy_tree.specs.declared.macros.MacroKind.TheVariants.{Function, Statement, Definition}
use Rattle.dy_tree.specs.declared.words.Word.{Word}
use Rattle.dy_tree.specs.declared.words.Words.{Words}
use Rattle.dy_tree.specs.Spelling.{is_spelled, is_name_kind}
use Rattle.dy_tree.specs.Spelling as spelling
use Rattle.dy_fragment.specs.declared.word.Defined.{Defined}
use Rattle.dy_fragment.specs.declared.word.Defined.TheVariants.{Absent, Bare, Ended}

abbrev pub is_escaped : TokenKind → Bool
is_escaped Escaped = true
is_escaped _ = false

abbrev pub is_end : Token → Bool
is_end t = spelling.is_word (codes "end") t

abbrev pub is_define : Token → Bool
is_define t = spelling.is_word (codes "define") t

abbrev pub is_semicolon : Token → Bool
is_semicolon t = spelling.is_sign (codes ";") t

abbrev pub is_of : MacroKind → MacroKind → Bool
is_of Function Function = true
is_of Function Statement = false
is_of Function Definition = false
is_of Statement Function = false
is_of Statement Statement = true
is_of Statement Definition = false
is_of Definition Function = false
is_of Definition Statement = false
is_of Definition Definition = true

-- a built-in word is known in each module, and the word of a macro in its own
abbrev pub known_by : Option ℕ → Bool → Bool
known_by None own = true
known_by (Some at) own = own

abbrev pub is_known_in : Word → ℕ → Bool
is_known_in w module_number = known_by w.at (w.module == module_number)

abbrev pub fits : MacroKind → Token → Word → Bool
fits kind t w = is_of kind w.kind && is_known_in w t.module && is_spelled w.name t

abbrev pub is_one_of : MacroKind → Token → List Word → Bool
is_one_of kind t [] = false
is_one_of kind t (w ∷ ws) = fits kind t w || is_one_of kind t ws

-- a token is a word of this kind if it is a name with no backslash that its module knows so
abbrev pub is_word : MacroKind → Words → Token → Bool
is_word kind words t = is_name_kind t.kind && is_one_of kind t words.items

-- these definitions end before the next semicolon or at the end of the file
abbrev pub has_no_end : Token → Bool
has_no_end t = is_spelled (codes "constant") t || is_spelled (codes "domain") t
    || is_spelled (codes "generic") t || is_spelled (codes "variable") t

abbrev pub defined_by : Bool → ℕ → Defined
defined_by true at = Bare
defined_by false at = Ended at

-- the definition word of a `define` is the first one after it and before a semicolon; these tokens
-- begin at a place
abbrev pub defined_from : Words → ℕ → List Token → Defined
defined_from words at [] = Absent
defined_from words at (t ∷ ts) =
    if is_semicolon t then Absent
    else if is_word Definition words t then defined_by (has_no_end t) at
    else defined_from words (at + 1) ts
