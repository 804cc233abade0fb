-- The definitions at examples, which they compute.
use Rattle.std.proofs.Common.{◌≡◌, ℕ, true, false, List, [], ◌∷◌, refl}
use Rattle.std.specs.Prelude.{codes}
use Rattle.dy_lexer.specs.Headers.{Line}
use Rattle.dy_lid_files.specs.Names.{begins_files, is_name, names_in, files_value}

abbrev line : List ℕ → Line
line bytes = record { at = 0; bytes = bytes }

key_in_either_case : begins_files (codes "Files: a") ≡ true
key_in_either_case = refl

blank_before_colon : begins_files (codes "files : a") ≡ false
blank_before_colon = refl

blanks_name_nothing : is_name (codes " \t") ≡ false
blanks_name_nothing = refl

-- a name that is out of form counts
control_counts : is_name (codes "a\tb") ≡ true
control_counts = refl

-- the first `files` counts alone, and no line after another key
two_of_the_first : names_in (files_value (line (codes "files: a") ∷ line (codes " b") ∷ line (codes "library: c") ∷ line (codes " d") ∷ line (codes "files: e") ∷ [])) ≡ 2
two_of_the_first = refl

no_files : names_in (files_value (line (codes "library: a") ∷ line (codes " files: b") ∷ [])) ≡ 0
no_files = refl
