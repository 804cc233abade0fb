-- The command that is read of words is the one that the synopsis says.
use Rattle.std.proofs.Common.{◌≡◌, ◌≢◌, ◌⊎◌, ◌↔◌, ℕ, Bool, true, false, ◌&&◌, not, if◌then◌else◌, List, [], ◌∷◌, ◌++◌, Option, Some, None, inl, inr, refl, sym, ap, subst, ◌∙◌}
use Rattle.std.specs.Prelude.{codes, option_map}
use Rattle.std.specs.List.{list_all}
use Rattle.std.specs.Str.{bytes_eq}
use Rattle.std.proofs.lemmas.Bool.{and_parts}
use Rattle.std.proofs.lemmas.Slice.Eq.{bytes_eq-Decides}
use Rattle.dy_build.specs.Words.{Word, Command, build, check, begins_with_hyphen, is_file_word, default_fuel, fuel_of, GivesFuel, GivesMain, AreLids, IsCommand, given, behind, fuel_given, is_main_given, are_lids, build_with, build_of, check_of, command_of}

abbrev fuel_option : Word
fuel_option = codes "--fuel"

abbrev main_option : Word
main_option = codes "--main"

-- ---- LID files

lids_are : (lids : List Word) → are_lids lids ≡ true → AreLids lids
lids_are [] e = absurd cc
lids_are (lid ∷ lids) e = (λ none. absurd cc, e)

lids_test : (lids : List Word) → AreLids lids → are_lids lids ≡ true
lids_test [] (some, all) = absurd (some refl)
lids_test (lid ∷ lids) (some, all) = all

-- no file word is an option
no_option : (option lid : Word) → is_file_word option ≡ false → is_file_word lid ≡ true → bytes_eq lid option ≡ false
no_option option lid lacks is = go (bytes_eq lid option) refl
  where
    go : (b : Bool) → bytes_eq lid option ≡ b → b ≡ false
    go false e = refl
    go true e =
        let same : lid ≡ option = (bytes_eq-Decides lid option).0 e in
        let both : true ≡ false = sym is ∙ ap is_file_word same ∙ lacks in absurd cc

-- so none is given in front of file words
no_given : (option : Word) (lids : List Word) → is_file_word option ≡ false → list_all is_file_word lids ≡ true → given option lids ≡ None
no_given option [] lacks all = refl
no_given option (lid ∷ []) lacks all = refl
no_given option (lid ∷ word ∷ others) lacks all =
    ap (λ (b : Bool). if b then Some word else None) (no_option option lid lacks (and_parts (is_file_word lid) (list_all is_file_word (word ∷ others)) all).0)

all_behind : (option : Word) (lids : List Word) → is_file_word option ≡ false → list_all is_file_word lids ≡ true → behind option lids ≡ lids
all_behind option [] lacks all = refl
all_behind option (lid ∷ []) lacks all = refl
all_behind option (lid ∷ word ∷ others) lacks all =
    ap (λ (b : Bool). if b then others else lid ∷ word ∷ others) (no_option option lid lacks (and_parts (is_file_word lid) (list_all is_file_word (word ∷ others)) all).0)

-- ---- options that are read

-- words are an option with its word, and those behind; or those behind alone
abbrev Splits : Word → List Word → Option Word → List Word → Type 0
Splits option words word others =
    ((name : Word) × (word ≡ Some name) × (words ≡ option ∷ name ∷ others)) ⊎ ((word ≡ None) × (others ≡ words))

split : (option : Word) (words : List Word) → Splits option words (given option words) (behind option words)
split option [] = inr (refl, refl)
split option (first ∷ []) = inr (refl, refl)
split option (first ∷ word ∷ others) = go (bytes_eq first option) refl
  where
    go : (b : Bool) → bytes_eq first option ≡ b → Splits option (first ∷ word ∷ others) (if b then Some word else None) (if b then others else first ∷ word ∷ others)
    go true e = inl (word, refl, ap (λ (f : Word). f ∷ word ∷ others) ((bytes_eq-Decides first option).0 e))
    go false e = inr (refl, refl)

fuel_split : (words others : List Word) (word : Option Word) (units : ℕ) → Splits fuel_option words word others → fuel_given word ≡ Some units
    → (front : List Word) × (words ≡ front ++ others) × GivesFuel front units
fuel_split words others word units (inl (number, is, parts)) e =
    (fuel_option ∷ number ∷ [], parts, inr (number, refl, sym (ap fuel_given is) ∙ e))
fuel_split words others word units (inr (is, same)) e =
    let default : Some default_fuel ≡ Some units = sym (ap fuel_given is) ∙ e in
    ([], sym same, inl (refl, cc))

main_split : (words others : List Word) (word : Option Word) → Splits main_option words word others → is_main_given word ≡ true
    → (front : List Word) × (words ≡ front ++ others) × GivesMain front word
main_split words others word (inl (name, is, parts)) e =
    (main_option ∷ name ∷ [], parts, subst (λ (w : Option Word). GivesMain (main_option ∷ name ∷ []) w) (sym is) (refl, plain (begins_with_hyphen name) (sym (ap is_main_given is) ∙ e)))
  where
    plain : (b : Bool) → not b ≡ true → b ≡ false
    plain false h = refl
    plain true h = absurd cc
main_split words others word (inr (is, same)) e =
    ([], sym same, subst (λ (w : Option Word). GivesMain [] w) (sym is) refl)

-- ---- from words to their command

built : (fuel : Option ℕ) (main : Option Word) (lids : List Word) (command : Command) → build_with fuel main lids ≡ Some command
    → (units : ℕ) × (fuel ≡ Some units) × (is_main_given main ≡ true) × (are_lids lids ≡ true) × (build units main lids ≡ command)
built fuel main lids command h = go (is_main_given main && are_lids lids) fuel refl h
  where
    go : (b : Bool) (f : Option ℕ) → (is_main_given main && are_lids lids) ≡ b → (if b then option_map (λ units. build units main lids) f else None) ≡ Some command
        → (units : ℕ) × (f ≡ Some units) × (is_main_given main ≡ true) × (are_lids lids ≡ true) × (build units main lids ≡ command)
    go false f e is = absurd cc
    go true None e is = absurd cc
    go true (Some units) e is =
        let parts = and_parts (is_main_given main) (are_lids lids) e in (units, refl, parts.0, parts.1, cc)

build_read : (words : List Word) (command : Command) → build_of words ≡ Some command → IsCommand (codes "build" ∷ words) command
build_read words command h =
    let others = behind fuel_option words in
    let (units, fuel, main, lids, is) = built (fuel_given (given fuel_option words)) (given main_option others) (behind main_option others) command h in
    let (front, parts, gives) = fuel_split words others (given fuel_option words) units (split fuel_option words) fuel in
    let (next, pieces, names) = main_split others (behind main_option others) (given main_option others) (split main_option others) main in
    subst (λ (c : Command). IsCommand (codes "build" ∷ words) c) is
    (front, next, ap (λ (ws : List Word). codes "build" ∷ ws) (parts ∙ ap (λ (ws : List Word). front ++ ws) pieces), gives, names, lids_are (behind main_option others) lids)

check_read : (lids : List Word) (command : Command) → check_of lids ≡ Some command → IsCommand (codes "check" ∷ lids) command
check_read lids command h = go (are_lids lids) refl h
  where
    go : (b : Bool) → are_lids lids ≡ b → (if b then Some (check lids) else None) ≡ Some command → IsCommand (codes "check" ∷ lids) command
    go false e is = absurd cc
    go true e is =
        let same : check lids ≡ command = cc in
        subst (λ (c : Command). IsCommand (codes "check" ∷ lids) c) same (refl, lids_are lids e)

command_read : (words : List Word) (command : Command) → command_of words ≡ Some command → IsCommand words command
command_read [] command h = absurd cc
command_read (first ∷ words) command h = go (bytes_eq first (codes "build")) refl h
  where
    next : (b : Bool) → bytes_eq first (codes "check") ≡ b → (if b then check_of words else None) ≡ Some command → IsCommand (first ∷ words) command
    next false e is = absurd cc
    next true e is = subst (λ (f : Word). IsCommand (f ∷ words) command) (sym ((bytes_eq-Decides first (codes "check")).0 e)) (check_read words command is)

    go : (b : Bool) → bytes_eq first (codes "build") ≡ b → (if b then build_of words else (if bytes_eq first (codes "check") then check_of words else None)) ≡ Some command → IsCommand (first ∷ words) command
    go false e is = next (bytes_eq first (codes "check")) refl is
    go true e is = subst (λ (f : Word). IsCommand (f ∷ words) command) (sym ((bytes_eq-Decides first (codes "build")).0 e)) (build_read words command is)

-- ---- from a command to its words

-- an option is read in front of words, or left out
abbrev Reads : Word → List Word → Option Word → List Word → Type 0
Reads option words word others = (given option words ≡ word) × (behind option words ≡ others)

main_reads : (front : List Word) (main : Option Word) (lids : List Word) → GivesMain front main → list_all is_file_word lids ≡ true → Reads main_option (front ++ lids) main lids
main_reads front None lids gives all =
    subst (λ (f : List Word). Reads main_option (f ++ lids) None lids) (sym gives) (no_given main_option lids refl all, all_behind main_option lids refl all)
main_reads front (Some name) lids (is, plain) all =
    subst (λ (f : List Word). Reads main_option (f ++ lids) (Some name) lids) (sym is) (refl, refl)

-- the option of fuel is not read there
main_passed : (front : List Word) (main : Option Word) (lids : List Word) → GivesMain front main → list_all is_file_word lids ≡ true → Reads fuel_option (front ++ lids) None (front ++ lids)
main_passed front None lids gives all =
    subst (λ (f : List Word). Reads fuel_option (f ++ lids) None (f ++ lids)) (sym gives) (no_given fuel_option lids refl all, all_behind fuel_option lids refl all)
main_passed front (Some name) lids (is, plain) all =
    subst (λ (f : List Word). Reads fuel_option (f ++ lids) None (f ++ lids)) (sym is) (refl, refl)

fuel_reads : (front others : List Word) (units : ℕ) → GivesFuel front units → Reads fuel_option others None others
    → (fuel_given (given fuel_option (front ++ others)) ≡ Some units) × (behind fuel_option (front ++ others) ≡ others)
fuel_reads front others units (inl (none, default)) (lacks, all) =
    subst (λ (f : List Word). (fuel_given (given fuel_option (f ++ others)) ≡ Some units) × (behind fuel_option (f ++ others) ≡ others)) (sym none)
    (ap fuel_given lacks ∙ ap (λ (n : ℕ). Some n) (sym default), all)
fuel_reads front others units (inr (number, is, fuel)) (lacks, all) =
    subst (λ (f : List Word). (fuel_given (given fuel_option (f ++ others)) ≡ Some units) × (behind fuel_option (f ++ others) ≡ others)) (sym is) (fuel, refl)

main_test : (front : List Word) (main : Option Word) → GivesMain front main → is_main_given main ≡ true
main_test front None gives = refl
main_test front (Some name) (is, plain) = ap not plain

whole : (fuel : ℕ) (main : Option Word) (lids : List Word) → is_main_given main ≡ true → are_lids lids ≡ true → build_with (Some fuel) main lids ≡ Some (build fuel main lids)
whole fuel main lids e f =
    ap (λ (b : Bool). if b && are_lids lids then Some (build fuel main lids) else None) e
    ∙ ap (λ (b : Bool). if true && b then Some (build fuel main lids) else None) f

build_back : (front next lids : List Word) (fuel : ℕ) (main : Option Word) → GivesFuel front fuel → GivesMain next main → AreLids lids → build_of (front ++ (next ++ lids)) ≡ Some (build fuel main lids)
build_back front next lids fuel main gives names are =
    let words = front ++ (next ++ lids) in
    let read = fuel_reads front (next ++ lids) fuel gives (main_passed next main lids names are.1) in
    let named = main_reads next main lids names are.1 in
    ap (λ (f : Option ℕ). build_with f (given main_option (behind fuel_option words)) (behind main_option (behind fuel_option words))) read.0
    ∙ ap (λ (ws : List Word). build_with (Some fuel) (given main_option ws) (behind main_option ws)) read.1
    ∙ ap (λ (m : Option Word). build_with (Some fuel) m (behind main_option (next ++ lids))) named.0
    ∙ ap (λ (ls : List Word). build_with (Some fuel) main ls) named.1
    ∙ whole fuel main lids (main_test next main names) (lids_test lids are)

command_back : (words : List Word) (command : Command) → IsCommand words command → command_of words ≡ Some command
command_back words (build fuel main lids) (front, next, is, gives, names, are) =
    ap command_of is ∙ build_back front next lids fuel main gives names are
command_back words (check lids) (is, are) =
    ap command_of is ∙ ap (λ (b : Bool). if b then Some (check lids) else None) (lids_test lids are)

pub synopsis : (words : List Word) (command : Command) → command_of words ≡ Some command ↔ IsCommand words command
synopsis words command = (command_read words command, command_back words command)
