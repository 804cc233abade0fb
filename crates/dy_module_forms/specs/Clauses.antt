-- What the clauses of a library and of a module are (DRM 4, "Modules" and "Libraries").
use Rattle.std.specs.Prelude.{ℕ, Bool, true, false, cond, not, ◌&&◌, nat_eq, List, [], ◌∷◌, codes}
use Rattle.std.specs.Prelude.{Option, Some, None, option_map}
use Rattle.std.specs.List.{list_any}
use Rattle.dy_base.specs.Folding.{folded}
use Rattle.dy_tree.specs.declared.token.Token.{Token}
use Rattle.dy_tree.specs.declared.roles.Role.{Role}
use Rattle.dy_tree.specs.declared.roles.Role.TheVariants as roles
use Rattle.dy_tree.specs.Spelling.{is_spelled, is_word, is_sign}
use Rattle.dy_tree.specs.Fragments.{SeenFragment, one, group, row}
use Rattle.dy_rules.specs.Roles.{role_of}
use Rattle.dy_module_forms.specs.declared.written.Member.{Member}
use Rattle.dy_module_forms.specs.declared.written.UseOption.{UseOption}
use Rattle.dy_module_forms.specs.declared.written.UseOption.TheVariants.{Import, Exclude, Rename}
use Rattle.dy_module_forms.specs.declared.written.UseOption.TheVariants.{Prefix, Export}
use Rattle.dy_module_forms.specs.declared.written.Kind.{Kind}
use Rattle.dy_module_forms.specs.declared.written.Kind.TheVariants.{Library, Module}
use Rattle.dy_module_forms.specs.declared.written.Clause.{Clause}
use Rattle.dy_module_forms.specs.declared.written.Clause.TheVariants as clauses
use Rattle.dy_module_forms.specs.declared.written.Placed.{Placed}
use Rattle.dy_module_forms.specs.Cuts.{is_mark, parts, ended, each}

abbrev pub is_named : Role → Bool
is_named roles.Named = true
is_named _ = false

-- the name that a fragment is, escaped or not
abbrev pub name_of : SeenFragment → Option (List ℕ)
name_of (one token) = cond (is_named (role_of token)) (Some (folded token.text)) None
name_of (group opener inner closer) = None

-- a name alone
abbrev pub name_alone : List SeenFragment → Option (List ℕ)
name_alone (only ∷ []) = name_of only
name_alone _ = None

-- names with commas between them
abbrev pub names_of : List SeenFragment → Option (List (List ℕ))
names_of fragments = each name_alone (parts (codes ",") fragments)

abbrev pub plain : List ℕ → Member
plain name = record { name = name; new = None }

abbrev pub renamed : Option (List ℕ) → Option (List ℕ) → Option Member
renamed (Some name) (Some new) = Some (record { name = name; new = Some new })
renamed (Some name) None = None
renamed None new = None

-- `a` or `a => b`
abbrev pub member_of : List SeenFragment → Option Member
member_of (only ∷ []) = option_map plain (name_of only)
member_of (name ∷ arrow ∷ new ∷ []) =
    cond (is_mark (codes "=>") arrow) (renamed (name_of name) (name_of new)) None
member_of _ = None

-- the members between braces
abbrev pub members_in : {A : Type 0} → (List SeenFragment → Option A) → List SeenFragment
    → Option (List A)
members_in read [] = Some []
members_in read (first ∷ rest) = each read (parts (codes ",") (first ∷ rest))

-- a set in braces
abbrev pub set_of : {A : Type 0} → (List SeenFragment → Option A) → SeenFragment → Option (List A)
set_of read (one token) = None
set_of read (group opener inner closer) =
    cond (is_sign (codes "{") opener) (members_in read (row inner)) None

-- `all`, or a set
abbrev pub is_all : SeenFragment → Bool
is_all (one token) = is_word (codes "all") token
is_all (group opener inner closer) = false

abbrev pub all_or_set : {A : Type 0} → (List SeenFragment → Option A) → SeenFragment
    → Option (Option (List A))
all_or_set read value = cond (is_all value) (Some None) (option_map Some (set_of read value))

abbrev pub is_text : Role → Bool
is_text roles.Text = true
is_text _ = false

-- a string, folded
abbrev pub text_of : SeenFragment → Option (List ℕ)
text_of (one token) = cond (is_text (role_of token)) (Some (folded token.text)) None
text_of (group opener inner closer) = None

abbrev pub import_of : SeenFragment → Option UseOption
import_of value = option_map Import (all_or_set member_of value)

abbrev pub exclude_of : SeenFragment → Option UseOption
exclude_of value = option_map Exclude (set_of name_alone value)

abbrev pub rename_of : SeenFragment → Option UseOption
rename_of value = option_map Rename (set_of member_of value)

abbrev pub prefix_of : SeenFragment → Option UseOption
prefix_of value = option_map Prefix (text_of value)

abbrev pub export_of : SeenFragment → Option UseOption
export_of value = option_map Export (all_or_set name_alone value)

-- the value behind a symbol
abbrev pub option_named : Token → SeenFragment → Option UseOption
option_named word value =
    cond (is_spelled (codes "import") word) (import_of value)
    (cond (is_spelled (codes "exclude") word) (exclude_of value)
    (cond (is_spelled (codes "rename") word) (rename_of value)
    (cond (is_spelled (codes "prefix") word) (prefix_of value)
    (cond (is_spelled (codes "export") word) (export_of value) None))))

abbrev pub is_symbol : Role → Bool
is_symbol roles.Symbol = true
is_symbol _ = false

abbrev pub option_behind : SeenFragment → SeenFragment → Option UseOption
option_behind (one word) value = cond (is_symbol (role_of word)) (option_named word value) None
option_behind (group opener inner closer) value = None

-- a symbol with its value
abbrev pub option_of : List SeenFragment → Option UseOption
option_of (word ∷ value ∷ []) = option_behind word value
option_of _ = None

abbrev pub option_number : UseOption → ℕ
option_number (Import set) = 0
option_number (Exclude set) = 1
option_number (Rename set) = 2
option_number (Prefix text) = 3
option_number (Export set) = 4

abbrev pub is_alike : UseOption → UseOption → Bool
is_alike a b = nat_eq (option_number a) (option_number b)

-- each of them at most once
abbrev pub are_once : List UseOption → Bool
are_once [] = true
are_once (first ∷ rest) = not (list_any (is_alike first) rest) && are_once rest

abbrev pub use_with : Option (List ℕ) → Option (List UseOption) → Option Clause
use_with None options = None
use_with (Some name) None = None
use_with (Some name) (Some options) = cond (are_once options) (Some (clauses.Use name options)) None

abbrev pub use_parts : List (List SeenFragment) → Option Clause
use_parts [] = None
use_parts (first ∷ others) = use_with (name_alone first) (each option_of others)

-- what follows `use`: a name, and options behind commas
abbrev pub use_of : List SeenFragment → Option Clause
use_of fragments = use_parts (parts (codes ",") fragments)

abbrev pub may_create : Kind → Bool
may_create Library = false
may_create Module = true

abbrev pub clause_with : Kind → Token → List SeenFragment → Option Clause
clause_with kind word rest =
    cond (is_word (codes "use") word) (use_of rest)
    (cond (is_word (codes "export") word) (option_map clauses.Export (names_of rest))
    (cond (may_create kind && is_word (codes "create") word)
    (option_map clauses.Create (names_of rest)) None))

abbrev pub placed : Token → Clause → Placed
placed word clause = record { place = word.place; clause = clause }

abbrev pub clause_behind : Kind → SeenFragment → List SeenFragment → Option Placed
clause_behind kind (one word) rest = option_map (placed word) (clause_with kind word rest)
clause_behind kind (group opener inner closer) rest = None

-- a clause, with the place of its word
abbrev pub clause_of : Kind → List SeenFragment → Option Placed
clause_of kind [] = None
clause_of kind (word ∷ rest) = clause_behind kind word rest

-- clauses with semicolons behind them, of which the last may lack it
abbrev pub clauses_of : Kind → List SeenFragment → Option (List Placed)
clauses_of kind fragments = each (clause_of kind) (ended (parts (codes ";") fragments))
