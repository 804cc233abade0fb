-- The files that define a library and its modules, grouped (own in the order of faults).
use Rattle.std.specs.Prelude.{◌≡◌, ◌≤◌, ◌⊎◌, Bool, List, [], ◌∷◌, ◌++◌, codes, Result, Ok, Err}
use Rattle.std.specs.List.{filter}
use Rattle.std.specs.Str.{bytes_eq}
use Rattle.dy_base.specs.declared.fault.Fault.{Fault}
use Rattle.dy_base.specs.declared.fault.Place.{Place}
use Rattle.dy_base.specs.declared.fault.Refusal.{Refusal}
use Rattle.dy_base.specs.declared.fault.Refusal.TheVariants as refusals
use Rattle.dy_tree.specs.declared.fragment.Fragment.{Fragment}
use Rattle.dy_tree.specs.declared.words.Words.{Words}
use Rattle.dy_tree.specs.Fragments.{SeenFragment, seen_fragments}
use Rattle.dy_fragment.specs.Groups.{Grouped, depth}
use Rattle.dy_fragment.specs.Faults.{Refused}
use Rattle.dy_complete_forms.specs.Forms.{AreComplete}
use Rattle.dy_lexer.specs.declared.source.Source.{Source}
use Rattle.dy_module_forms.specs.declared.written.Form.{Form}
use Rattle.dy_module_forms.specs.Forms.{forms_of, syntax_at, IsFault}

-- a file that defines the library or its modules
abbrev pub is_user : Source → Bool
is_user file = bytes_eq file.«module» (codes "dylan-user")

-- its groups are these trees, which are forms of libraries and modules
abbrev pub IsDefining : Words → Source → List SeenFragment → Type 0
IsDefining words file trees = Grouped words file.tokens trees × (depth trees ≤ 200)
    × ((forms : List Form) × (forms_of trees ≡ Ok forms))

-- Complete forms stand in front of a fault of the groups. So if one of them is no form of a library
-- or of a module, that is told, and else the fault.
abbrev pub first_told : Result (List Form) Place → Fault → Fault
first_told (Ok forms) fault = fault
first_told (Err place) fault = syntax_at place

-- the first fault of its groups, or that of a complete form in front; or, where it has trees, that
-- of its forms
abbrev pub IsFaulty : Words → Source → Fault → Type 0
IsFaulty words file fault =
    ((later : Fault) × (trees : List SeenFragment) × Refused 200 words file.tokens later
    × AreComplete words file.tokens trees × (fault ≡ first_told (forms_of trees) later))
    ⊎ ((trees : List SeenFragment) × Grouped words file.tokens trees × (depth trees ≤ 200)
    × IsFault (forms_of trees) fault)

-- the trees of files, one file behind the other; or the fault of the first file that has one
abbrev pub AreJoined : Words → List Source → Result (List SeenFragment) Fault → Type 0
AreJoined words [] (Ok all) = all ≡ []
AreJoined words [] (Err fault) = ⊥
AreJoined words (file ∷ files) (Ok all) = (trees others : List SeenFragment)
    × IsDefining words file trees × AreJoined words files (Ok others) × (all ≡ trees ++ others)
AreJoined words (file ∷ files) (Err fault) = IsFaulty words file fault
    ⊎ ((trees : List SeenFragment) × IsDefining words file trees
    × AreJoined words files (Err fault))

-- those of the files that define the library and its modules
abbrev pub AreUsers : Words → List Source → Result (List SeenFragment) Fault → Type 0
AreUsers words sources found = AreJoined words (filter is_user sources) found

-- what a call gave of one file, and of all; want of memory says nothing
abbrev pub AnswersFile : Words → Source → Result (List Fragment) Refusal → Type 0
AnswersFile words file (Ok fragments) = IsDefining words file (seen_fragments fragments)
AnswersFile words file (Err (refusals.Fault fault)) = IsFaulty words file fault
AnswersFile words file (Err refusals.Memory) = Unit {0}

abbrev pub AnswersUsers : Words → List Source → Result (List Fragment) Refusal → Type 0
AnswersUsers words sources (Ok fragments) =
    AreUsers words sources (Ok (seen_fragments fragments))
AnswersUsers words sources (Err (refusals.Fault fault)) = AreUsers words sources (Err fault)
AnswersUsers words sources (Err refusals.Memory) = Unit {0}
