-- The words of a command line (own).
use Rattle.std.specs.Prelude.{◌≡◌, ◌≢◌, ◌⊎◌, ℕ, Bool, true, false, not, ◌&&◌, ◌||◌, ◌==◌, nat_le}
use Rattle.std.specs.Prelude.{List, [], ◌∷◌, ◌++◌, length, codes, if◌then◌else◌}
use Rattle.std.specs.Prelude.{Option, Some, None, option_map}
use Rattle.std.specs.List.{list_all}
use Rattle.std.specs.Char.{is_ascii_digit}
use Rattle.std.specs.Str.{bytes_eq}
use Rattle.std.specs.Str.Parse.{digits_value}

abbrev pub Word : Type 0
Word = List ℕ

-- what is to be done: one of the libraries of LID files is run, with so many units of fuel, or they
-- are checked alone; the library is that of a name, or the last
pub data Command : Type 0 where
  build : (fuel : ℕ) (main : Option Word) (lids : List Word) → Command
  check : (lids : List Word) → Command

-- the LID files of a command
abbrev pub lids_of : Command → List Word
lids_of (build fuel main lids) = lids
lids_of (check lids) = lids

-- ---- words

abbrev pub begins_with_hyphen : Word → Bool
begins_with_hyphen [] = false
begins_with_hyphen (byte ∷ bytes) = byte == 45

-- a word that names a file
abbrev pub is_file_word : Word → Bool
is_file_word word = not (begins_with_hyphen word) || bytes_eq word (codes "-")

-- The fuel where the words name none.
abbrev pub default_fuel : ℕ
default_fuel = 10000000

-- The most fuel that words name.
abbrev pub fuel_limit : ℕ
fuel_limit = 1000000000000

-- one to thirteen decimal digits
abbrev pub is_fuel_word : Word → Bool
is_fuel_word word = nat_le 1 (length word)
    && (nat_le (length word) 13 && list_all is_ascii_digit word)

-- the fuel that a word names
abbrev pub fuel_of : Word → Option ℕ
fuel_of word = if is_fuel_word word && nat_le (digits_value 10 word) fuel_limit
    then Some (digits_value 10 word) else None

-- ---- the synopsis

-- `[--fuel N]`
abbrev pub GivesFuel : List Word → ℕ → Type 0
GivesFuel words fuel =
    ((words ≡ []) × (fuel ≡ default_fuel))
    ⊎ ((number : Word) × (words ≡ codes "--fuel" ∷ number ∷ []) × (fuel_of number ≡ Some fuel))

-- `[--main L]`
abbrev pub GivesMain : List Word → Option Word → Type 0
GivesMain words None = words ≡ []
GivesMain words (Some name) =
    (words ≡ codes "--main" ∷ name ∷ []) × (begins_with_hyphen name ≡ false)

-- `LID..`
abbrev pub AreLids : List Word → Type 0
AreLids lids = (lids ≢ []) × (list_all is_file_word lids ≡ true)

-- `build [--fuel N] [--main L] LID..` and `check LID..`
abbrev pub IsCommand : List Word → Command → Type 0
IsCommand words (build fuel main lids) =
    (fuel_words : List Word) × (main_words : List Word)
    × (words ≡ codes "build" ∷ (fuel_words ++ (main_words ++ lids)))
    × GivesFuel fuel_words fuel × GivesMain main_words main × AreLids lids
IsCommand words (check lids) = (words ≡ codes "check" ∷ lids) × AreLids lids

-- ---- the command of words, by their front

-- the word behind an option, where words begin with that
abbrev pub given : Word → List Word → Option Word
given option [] = None
given option (first ∷ []) = None
given option (first ∷ word ∷ others) = if bytes_eq first option then Some word else None

-- the words behind an option and its word, where words begin with them
abbrev pub behind : Word → List Word → List Word
behind option [] = []
behind option (first ∷ []) = first ∷ []
behind option (first ∷ word ∷ others) =
    if bytes_eq first option then others else first ∷ word ∷ others

abbrev pub fuel_given : Option Word → Option ℕ
fuel_given None = Some default_fuel
fuel_given (Some number) = fuel_of number

abbrev pub is_main_given : Option Word → Bool
is_main_given None = true
is_main_given (Some name) = not (begins_with_hyphen name)

abbrev pub are_lids : List Word → Bool
are_lids [] = false
are_lids (lid ∷ lids) = list_all is_file_word (lid ∷ lids)

abbrev pub build_with : Option ℕ → Option Word → List Word → Option Command
build_with fuel main lids =
    if is_main_given main && are_lids lids then option_map (λ units. build units main lids) fuel
    else None

abbrev pub build_of : List Word → Option Command
build_of words =
    let others = behind (codes "--fuel") words in
    build_with (fuel_given (given (codes "--fuel") words)) (given (codes "--main") others)
    (behind (codes "--main") others)

abbrev pub check_of : List Word → Option Command
check_of lids = if are_lids lids then Some (check lids) else None

-- the command that words are of, as the synopsis says
abbrev pub command_of : List Word → Option Command
command_of [] = None
command_of (command ∷ words) =
    if bytes_eq command (codes "build") then build_of words
    else if bytes_eq command (codes "check") then check_of words else None

abbrev pub usage_text : List ℕ
usage_text = codes "usage: banthruy build [--fuel N] [--main L] LID..\n"
    ++ codes "       banthruy check LID..\n"
