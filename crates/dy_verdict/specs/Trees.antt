-- The groups of a library's files, each token in the module of its file.
use Rattle.std.specs.Prelude.{◌≡◌, ◌≤◌, ◌⊎◌, ℕ, List, [], ◌∷◌, map, position, Option, Some, None}
use Rattle.std.specs.Prelude.{Result, Ok, Err, Bool, true, false}
use Rattle.std.specs.Str.{bytes_eq}
use Rattle.std.specs.Global.{Vec}
use Rattle.dy_base.specs.declared.fault.Fault.{Fault}
use Rattle.dy_base.specs.declared.fault.Refusal.{Refusal}
use Rattle.dy_base.specs.declared.fault.Refusal.TheVariants as refusals
use Rattle.dy_tree.specs.declared.fragment.Fragment.{Fragment}
use Rattle.dy_tree.specs.declared.token.Token.{Token}
use Rattle.dy_tree.specs.declared.words.Words.{Words}
use Rattle.dy_tree.specs.Fragments.{SeenFragment, seen_fragments}
use Rattle.dy_lexer.specs.declared.source.Source.{Source}
use Rattle.dy_fragment.specs.Groups.{Grouped, depth}
use Rattle.dy_fragment.specs.Faults.{Refused}
use Rattle.dy_modules.specs.Clauses.{Name}
use Rattle.dy_module_names.specs.Tokens.{in_module}
use Rattle.dy_library_modules.specs.Users.{is_user}

-- the groups of files, or the first fault
abbrev pub Trees : Type 0
Trees = Result (List (List SeenFragment)) Fault

-- A file without a module that is there has no forms.
abbrev pub tokens_in : Option ℕ → List Token → List Token
tokens_in None tokens = []
tokens_in (Some number) tokens = map (in_module number) tokens

abbrev pub unless_user : Bool → List Token → List Token
unless_user true tokens = []
unless_user false tokens = tokens

-- The tokens of a file's forms, in its module, where these are the names of the modules in the
-- order of their numbers. A file of `dylan-user` has no forms.
abbrev pub form_tokens : List Name → Source → List Token
form_tokens names source =
    unless_user (is_user source)
    (tokens_in (position (bytes_eq source.«module») names) source.tokens)

abbrev pub IsGrouped : Words → List Token → List SeenFragment → Type 0
IsGrouped words tokens trees = Grouped words tokens trees × (depth trees ≤ 200)

-- the groups of files of these tokens, or the first fault of the first file that has one
abbrev pub AreGrouped : Words → List (List Token) → Trees → Type 0
AreGrouped words [] (Ok all) = all ≡ []
AreGrouped words [] (Err fault) = ⊥
AreGrouped words (tokens ∷ files) (Ok all) = (trees : List SeenFragment)
    × (others : List (List SeenFragment)) × IsGrouped words tokens trees
    × AreGrouped words files (Ok others) × (all ≡ trees ∷ others)
AreGrouped words (tokens ∷ files) (Err fault) = Refused 200 words tokens fault
    ⊎ ((trees : List SeenFragment) × IsGrouped words tokens trees
    × AreGrouped words files (Err fault))

abbrev pub seen_file : Vec Fragment → List SeenFragment
seen_file file = seen_fragments file.items

-- the same of what a call gave; want of memory says nothing
abbrev pub GivesTrees : Words → List (List Token) → Result (Vec (Vec Fragment)) Refusal → Type 0
GivesTrees words files (Ok trees) = AreGrouped words files (Ok (map seen_file trees.items))
GivesTrees words files (Err (refusals.Fault fault)) = AreGrouped words files (Err fault)
GivesTrees words files (Err refusals.Memory) = Unit {0}
