-- What the bytes of a file's name are.
use Rattle.std.proofs.Common.{◌≡◌, ℕ, ◌<◌, Bool, true, false, cond, List, [], ◌∷◌, refl, arith}
use Rattle.std.specs.Prelude.{nat_le, ◌&&◌}
use Rattle.std.specs.Str.{IsAscii, IsUtf8}
use Rattle.std.proofs.lemmas.Bool.Decides.{nat_tests}
use Rattle.std.proofs.lemmas.Str.{IsUtf8-from_ascii}
use Rattle.std.proofs.lemmas.Str.Ascii.{IsAscii-nil, IsAscii-cons}
use Rattle.dy_lexer.specs.Headers.{is_printable}

byte-ascii : (byte : ℕ) → (nat_le 32 byte && nat_le byte 126) ≡ true → byte < 128
byte-ascii byte h = grind (arith, nat_tests)

both : (first rest : Bool) → cond first rest false ≡ true → (first ≡ true) × (rest ≡ true)
both true rest h = (refl, h)
both false rest h = absurd cc

printable-ascii : (bytes : List ℕ) → is_printable bytes ≡ true → IsAscii bytes
printable-ascii [] h = IsAscii-nil
printable-ascii (byte ∷ bytes) h =
    let parts = both (nat_le 32 byte && nat_le byte 126) (is_printable bytes) h in
    IsAscii-cons byte bytes (byte-ascii byte parts.0) (printable-ascii bytes parts.1)

-- a file's name is text
pub IsUtf8-printable : (bytes : List ℕ) → is_printable bytes ≡ true → IsUtf8 bytes
IsUtf8-printable bytes h = IsUtf8-from_ascii bytes (printable-ascii bytes h)
