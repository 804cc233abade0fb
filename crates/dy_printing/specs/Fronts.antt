-- The first part of a text, and the text behind it, as code divides it.
use Rattle.std.specs.Prelude.{ℕ, ◌<◌, ◌≡◌, List, [], ◌∷◌, length}
use Rattle.std.specs.declared.option.Option.{Option}
use Rattle.std.specs.declared.option.Option.TheVariants.{None, Some}
use Rattle.std.specs.Borrow.{Bor}
use Rattle.dy_printing.specs.declared.formatting.Part.{Part}
use Rattle.dy_printing.specs.Formatting.{parts_of}

abbrev pub Divides : List ℕ → Option (Part × Bor (List ℕ)) → Type 0
Divides text None = text ≡ []
Divides text (Some divided) = (parts_of text ≡ divided.0 ∷ parts_of divided.1.now)
    × (length divided.1.now < length text)
