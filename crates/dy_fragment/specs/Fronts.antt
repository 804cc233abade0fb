-- What a token does to groups.
use Rattle.std.specs.Prelude.{ℕ, ◌+◌, Bool, true, false, ◌&&◌, if◌then◌else◌, List, drop, codes}
use Rattle.dy_tree.specs.declared.token.TokenKind.{TokenKind}
use Rattle.dy_tree.specs.declared.token.TokenKind.TheVariants.{Name, Punctuation}
use Rattle.dy_tree.specs.declared.token.Token.{Token}
use Rattle.dy_tree.specs.declared.macros.MacroKind.TheVariants as kinds
use Rattle.dy_tree.specs.declared.words.Words.{Words}
use Rattle.dy_tree.specs.Spelling.{is_spelled}
use Rattle.dy_fragment.specs.declared.word.Defined.{Defined}
use Rattle.dy_fragment.specs.declared.word.Defined.TheVariants.{Absent, Bare, Ended}
use Rattle.dy_fragment.specs.declared.sign.Bracket.{Bracket}
use Rattle.dy_fragment.specs.declared.sign.Bracket.TheVariants.{Round, Square, Curly}
use Rattle.dy_fragment.specs.declared.sign.Sign.{Sign}
use Rattle.dy_fragment.specs.declared.sign.Sign.TheVariants as signs
use Rattle.dy_fragment.specs.declared.front.Mode.{Mode}
use Rattle.dy_fragment.specs.declared.front.Mode.TheVariants as modes
use Rattle.dy_fragment.specs.declared.front.Local.{Local}
use Rattle.dy_fragment.specs.declared.front.Local.TheVariants.{Off, Wanted, Ended as LocalEnded}
use Rattle.dy_fragment.specs.declared.front.Context.{Context}
use Rattle.dy_fragment.specs.declared.front.Closer.TheVariants as closers
use Rattle.dy_fragment.specs.declared.front.Front.{Front}
use Rattle.dy_fragment.specs.declared.front.Front.TheVariants.{Leaf, Opens, Closes, Wrong}
use Rattle.dy_fragment.specs.declared.closing.Opening.{Opening}
use Rattle.dy_fragment.specs.declared.closing.Opening.TheVariants as openings
use Rattle.dy_fragment.specs.declared.closing.Closing.TheVariants as closings
use Rattle.dy_fragment.specs.Signs.{sign_of}
use Rattle.dy_fragment.specs.Words.{is_end, is_define, is_word, defined_from}

-- nothing is opened or closed, and no list of local methods goes on
abbrev pub leaf : Mode → Front
leaf mode = Leaf (record { mode = mode; local = Off })

-- within the braces of a macro definition no word groups
abbrev pub inside : Bracket → Mode → Mode
inside Round outside = outside
inside Square outside = outside
inside Curly modes.Words = modes.Words
inside Curly modes.Header = modes.BracedHeader
inside Curly modes.BracedHeader = modes.BracedHeader
inside Curly modes.Macro = modes.Rules
inside Curly modes.Rules = modes.Rules

abbrev pub local_after_comma : Local → Local
local_after_comma Off = Off
local_after_comma Wanted = Off
local_after_comma LocalEnded = Wanted

abbrev pub after_comma : Mode → Local → Front
after_comma mode local = Leaf (record { mode = mode; local = local_after_comma local })

abbrev pub front_of_sign : Sign → Context → Front
front_of_sign (signs.Opens bracket) context =
    Opens (closings.Bracket bracket context.mode)
    (record { mode = inside bracket context.mode; local = Off })
front_of_sign (signs.Closes bracket) context = Closes (closers.Bracket bracket)
front_of_sign signs.Comma context = after_comma context.mode context.local
front_of_sign signs.Other context = leaf context.mode

-- a definition with an `end` is a group, and one without is none; up to the definition word no word
-- groups
abbrev pub front_of_define : Defined → Front
front_of_define Absent = Wrong
front_of_define Bare = leaf modes.Header
front_of_define (Ended word) =
    Opens (closings.Word word openings.Definition) (record { mode = modes.Header; local = Off })

abbrev pub is_wanted : Local → Bool
is_wanted Off = false
is_wanted Wanted = true
is_wanted LocalEnded = false

abbrev pub opening_of : Token → Local → Opening
opening_of t local = if is_wanted local && is_spelled (codes "method") t then openings.LocalMethod
    else openings.Statement

abbrev pub front_of_word : Words → Token → ℕ → Local → Front
front_of_word words t at local =
    if is_word kinds.Statement words t
    then Opens (closings.Word at (opening_of t local))
    (record { mode = modes.Words; local = Off })
    else if is_spelled (codes "local") t then Leaf (record { mode = modes.Words; local = Wanted })
    else leaf modes.Words

-- where words group: `end` closes, `define` begins a definition, and a statement word opens
abbrev pub front_of_name : Words → List Token → Token → ℕ → Local → Front
front_of_name words tokens t at local =
    if is_end t then Closes closers.End
    else if is_define t then front_of_define (defined_from words (at + 1) (drop (at + 1) tokens))
    else front_of_word words t at local

-- behind the word of a macro definition no word groups, and its `end` stands outside of all braces
abbrev pub in_macro : Mode → Mode
in_macro modes.Words = modes.Words
in_macro modes.Header = modes.Macro
in_macro modes.BracedHeader = modes.Rules
in_macro modes.Macro = modes.Macro
in_macro modes.Rules = modes.Rules

abbrev pub front_of_definition : Token → Mode → Front
front_of_definition t mode =
    if is_spelled (codes "macro") t then leaf (in_macro mode) else leaf modes.Words

-- from the definition word on words group again, but in the definition of a macro
abbrev pub front_in_header : Words → Token → Mode → Front
front_in_header words t mode =
    if is_word kinds.Definition words t then front_of_definition t mode else leaf mode

abbrev pub front_in_macro : Token → Front
front_in_macro t = if is_end t then Closes closers.End else leaf modes.Macro

abbrev pub front_in : Mode → Words → List Token → Token → ℕ → Local → Front
front_in modes.Words words tokens t at local = front_of_name words tokens t at local
front_in modes.Header words tokens t at local = front_in_header words t modes.Header
front_in modes.BracedHeader words tokens t at local = front_in_header words t modes.BracedHeader
front_in modes.Macro words tokens t at local = front_in_macro t
front_in modes.Rules words tokens t at local = leaf modes.Rules

abbrev pub front_by : TokenKind → Words → List Token → Token → ℕ → Context → Front
front_by Punctuation words tokens t at context = front_of_sign (sign_of t) context
front_by Name words tokens t at context = front_in context.mode words tokens t at context.local
front_by _ words tokens t at context = leaf context.mode

-- what a token at a place does
abbrev pub front_at : Words → List Token → Token → ℕ → Context → Front
front_at words tokens t at context = front_by t.kind words tokens t at context
