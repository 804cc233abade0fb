-- Numbers that a program writes down have 64 bits.
use Rattle.std.specs.Prelude.{Bool, true}
use Rattle.dy_term.specs.declared.literal.Literal.{Literal, Literal-F, out-Literal}
use Rattle.dy_outcome.specs.Turns.{fits}

abbrev pub is_word : Literal-F Literal → Bool
is_word (Literal-F.Int number) = fits number
is_word literal = true

-- a literal that has 64 bits if it is an integer
abbrev pub is_word_literal : Literal → Bool
is_word_literal literal = is_word (out-Literal literal)
