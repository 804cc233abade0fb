-- Classes of bytes (DRM 2, "Lexical syntax").
use Rattle.std.specs.Prelude.{ℕ, ◌-◌, Bool, true, false, ◌&&◌, ◌||◌, ◌==◌, nat_le, nat_lt}
use Rattle.std.specs.Prelude.{if◌then◌else◌, Option, Some, None}
use Rattle.dy_pieces.specs.declared.class.Class.{Class}
use Rattle.dy_pieces.specs.declared.class.Class.TheVariants.{Letter, Digit, Graphic, Joint, Sign}
use Rattle.dy_pieces.specs.declared.class.Class.TheVariants.{Slash, Hash, Question, Backslash}
use Rattle.dy_pieces.specs.declared.class.Class.TheVariants.{SingleQuote, DoubleQuote, Space, Other}

abbrev pub within : ℕ → ℕ → ℕ → Bool
within low high b = nat_le low b && nat_le b high

-- ! $ % & * < > @ ^ _ |
abbrev pub is_graphic : ℕ → Bool
is_graphic b = b == 33 || within 36 38 b || b == 42 || b == 60 || b == 62 || b == 64 || b == 94
    || b == 95 || b == 124

abbrev pub is_letter_byte : ℕ → Bool
is_letter_byte b = within 97 122 b || within 65 90 b

-- space, tab, line feed, form feed and carriage return
abbrev pub is_space_byte : ℕ → Bool
is_space_byte b = b == 32 || within 9 10 b || within 12 13 b

-- + - = ~
abbrev pub is_joint_byte : ℕ → Bool
is_joint_byte b = b == 43 || b == 45 || b == 61 || b == 126

-- ( ) , . : ; [ ] { }
abbrev pub is_sign_byte : ℕ → Bool
is_sign_byte b = b == 40 || b == 41 || b == 44 || b == 46 || b == 58 || b == 59 || b == 91
    || b == 93 || b == 123 || b == 125

abbrev pub one_byte_class : ℕ → Class
one_byte_class b =
    if b == 47 then Slash
    else if b == 35 then Hash
    else if b == 63 then Question
    else if b == 92 then Backslash
    else if b == 39 then SingleQuote
    else if b == 34 then DoubleQuote
    else Other

abbrev pub class_of : ℕ → Class
class_of b =
    if is_letter_byte b then Letter
    else if within 48 57 b then Digit
    else if is_space_byte b then Space
    else if is_graphic b then Graphic
    else if is_joint_byte b then Joint
    else if is_sign_byte b then Sign
    else one_byte_class b

-- the classes of the bytes that stand in a name after its first letter
abbrev pub is_name_class : Class → Bool
is_name_class Letter = true
is_name_class Digit = true
is_name_class Graphic = true
is_name_class Joint = true
is_name_class Slash = true
is_name_class Question = true
is_name_class _ = false

abbrev pub is_digit_class : Class → Bool
is_digit_class Digit = true
is_digit_class _ = false

abbrev pub is_letter_class : Class → Bool
is_letter_class Letter = true
is_letter_class _ = false

abbrev pub is_space_class : Class → Bool
is_space_class Space = true
is_space_class _ = false

abbrev pub in_name : ℕ → Bool
in_name b = is_name_class (class_of b)

abbrev pub is_digit : ℕ → Bool
is_digit b = is_digit_class (class_of b)

abbrev pub is_letter : ℕ → Bool
is_letter b = is_letter_class (class_of b)

abbrev pub is_blank : ℕ → Bool
is_blank b = is_space_class (class_of b)

-- not a line feed
abbrev pub in_line : ℕ → Bool
in_line b = if b == 10 then false else true

-- the value of a digit of any base up to 16; letters of either case
abbrev pub digit_of : ℕ → Option ℕ
digit_of b =
    if within 48 57 b then Some (b - 48)
    else if within 97 102 b then Some (b - 87)
    else if within 65 70 b then Some (b - 55)
    else None

abbrev pub is_below : ℕ → Option ℕ → Bool
is_below base (Some d) = nat_lt d base
is_below base None = false

-- a digit of this base
abbrev pub in_base : ℕ → ℕ → Bool
in_base base b = is_below base (digit_of b)

-- the base that a letter after # names
abbrev pub base_of : ℕ → Option ℕ
base_of b =
    if b == 98 || b == 66 then Some 2
    else if b == 111 || b == 79 then Some 8
    else if b == 120 || b == 88 then Some 16
    else None
