-- What closes a group (DRM 2, "Statements" and "Definitions"; what may follow `end`, and which
-- words may not, is own).
use Rattle.std.specs.Prelude.{ℕ, ◌+◌, ◌≤◌, Bool, ◌&&◌, ◌||◌, if◌then◌else◌, List, Option, Some}
use Rattle.std.specs.Prelude.{None, slice_get, not}
use Rattle.dy_tree.specs.declared.token.Token.{Token}
use Rattle.dy_tree.specs.declared.macros.MacroKind.TheVariants as kinds
use Rattle.dy_tree.specs.declared.words.Words.{Words}
use Rattle.dy_tree.specs.Spelling.{is_spelled, is_name_kind}
use Rattle.dy_tree.specs.Spelling as spelling
use Rattle.dy_fragment.specs.declared.front.Mode.{Mode}
use Rattle.dy_fragment.specs.declared.front.Mode.TheVariants as modes
use Rattle.dy_fragment.specs.declared.front.Local.TheVariants as locals
use Rattle.dy_fragment.specs.declared.front.Context.{Context}
use Rattle.dy_fragment.specs.declared.front.Closer.{Closer}
use Rattle.dy_fragment.specs.declared.front.Closer.TheVariants as closers
use Rattle.dy_fragment.specs.declared.closing.Opening.{Opening}
use Rattle.dy_fragment.specs.declared.closing.Opening.TheVariants as openings
use Rattle.dy_fragment.specs.declared.closing.Closing.{Closing}
use Rattle.dy_fragment.specs.declared.closing.Closing.TheVariants as closings
use Rattle.dy_fragment.specs.declared.closing.Closed.{Closed}
use Rattle.dy_fragment.specs.declared.closing.Closed.TheVariants.{At, Wrong}
use Rattle.dy_fragment.specs.Signs.{same_shape}
use Rattle.dy_fragment.specs.Fronts.{in_macro}
use Rattle.dy_fragment.specs.Words.{is_escaped, is_end, is_define, is_word}

-- the opener's word, again
abbrev pub is_same_word : Token → Token → Bool
is_same_word word t = spelling.is_word word.text t

-- `define` and `end` are the names of nothing
abbrev pub may_be_defined : Token → Bool
may_be_defined t = is_escaped t.kind || (is_name_kind t.kind && not (is_end t) && not (is_define t))

-- the defined name, again
abbrev pub is_same_name : Token → Token → Bool
is_same_name name t = may_be_defined name && may_be_defined t && is_spelled name.text t

-- the place after a token, if the token is as the test wants it
abbrev pub past : (Token → Token → Bool) → ℕ → Option Token → Option Token → ℕ
past same at None found = at
past same at (Some wanted) None = at
past same at (Some wanted) (Some t) = if same wanted t then at + 1 else at

abbrev pub past_word : List Token → ℕ → ℕ → ℕ
past_word tokens word at = past is_same_word at (slice_get tokens word) (slice_get tokens at)

-- the defined name is the one directly after the word
abbrev pub past_name : List Token → ℕ → ℕ → ℕ
past_name tokens word at = past is_same_name at (slice_get tokens (word + 1)) (slice_get tokens at)

abbrev pub past_end : List Token → ℕ → Opening → ℕ → ℕ
past_end tokens word openings.Statement at = past_word tokens word at
past_end tokens word openings.LocalMethod at = past_name tokens word (past_word tokens word at)
past_end tokens word openings.Definition at = past_name tokens word (past_word tokens word at)

-- no statement or definition word may follow an `end` but the opener's own
abbrev pub is_foreign : Words → Token → Bool
is_foreign words t = is_word kinds.Statement words t || is_word kinds.Definition words t

abbrev pub after_word : Opening → Context
after_word openings.Statement = record { mode = modes.Words; local = locals.Off }
after_word openings.LocalMethod = record { mode = modes.Words; local = locals.Ended }
after_word openings.Definition = record { mode = modes.Words; local = locals.Off }

abbrev pub closed_word : Words → Opening → ℕ → Option Token → Closed
closed_word words opening at None = At at (after_word opening)
closed_word words opening at (Some t) =
    if is_foreign words t then Wrong t.place else At at (after_word opening)

-- outside of the braces of a macro definition what it was before them groups again, also where the
-- definition began within them
abbrev pub restored : Mode → Mode → Mode
restored outside modes.Rules = in_macro outside
restored outside modes.BracedHeader = outside
restored outside modes.Words = modes.Words
restored outside modes.Header = modes.Header
restored outside modes.Macro = modes.Macro

abbrev pub after_bracket : Mode → Mode → Context
after_bracket outside inside = record { mode = restored outside inside; local = locals.Off }

-- A closer, and where grouping goes on after it, or what is wrong. A bracket closes one of its
-- shape, and `end` closes a word; after `end` the opener's word and then the defined name may
-- follow.
abbrev pub close : Words → List Token → Closing → Closer → Token → ℕ → Context → Closed
close words tokens (closings.Bracket opener outside) (closers.Bracket bracket) t after context =
    if same_shape opener bracket then At after (after_bracket outside context.mode)
    else Wrong t.place
close words tokens (closings.Bracket opener outside) closers.End t after context = Wrong t.place
close words tokens (closings.Word word opening) (closers.Bracket bracket) t after context =
    Wrong t.place
close words tokens (closings.Word word opening) closers.End t after context =
    closed_word words opening (past_end tokens word opening after)
    (slice_get tokens (past_end tokens word opening after))

-- grouping goes on between two places
abbrev pub IsWithin : ℕ → ℕ → Closed → Type 0
IsWithin from to (At at context) = (from ≤ at) × (at ≤ to)
IsWithin from to (Wrong place) = Unit {0}
