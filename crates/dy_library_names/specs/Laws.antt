-- What a library is named is one thing.
use Rattle.std.specs.Prelude.{◌≡◌, ℕ, List, Result, Ok, Err}
use Rattle.dy_base.specs.declared.fault.Fault.{Fault as FaultData}
use Rattle.dy_base.specs.declared.fault.Refusal.{Refusal}
use Rattle.dy_base.specs.declared.fault.Refusal.TheVariants.{Fault, Memory}
use Rattle.dy_tree.specs.declared.words.Word.{Word}
use Rattle.dy_library_rows.specs.Libraries.{Form}
use Rattle.dy_assembly.specs.declared.library.Heading.{Heading}
use Rattle.dy_modules.specs.declared.owner.Owner.{Owner}
use Rattle.dy_module_tables.specs.Graphs.{Graph, definition}
use Rattle.dy_library_names.specs.declared.library.Named.{Named}
use Rattle.dy_library_names.specs.Named.{Reading, IsNamed}

-- Two readings of one library say the same: of who owns names and where they may be defined, of
-- what owners are defined as, of what names mean, and of which promised names are not defined.
pub record IsSameReading (g : Graph) (library : ℕ) (forms : List Form)
    (r s : Reading g library forms) : Type 0 where
  pub modules : r.modules ≡ s.modules
  pub defined : (k : Owner) → definition r.defs k ≡ definition s.defs k
  pub out : r.out ≡ s.out
  pub lacking : r.lacking ≡ s.lacking

abbrev pub ReadingsAreOne : Type 0
ReadingsAreOne = (g : Graph) (library : ℕ) (forms : List Form) (r s : Reading g library forms)
    → IsSameReading g library forms r s

-- Two answers are the same: one library, or one fault. Want of memory says nothing.
abbrev pub IsSameAnswer : Result Named Refusal → Result Named Refusal → Type 0
IsSameAnswer (Err Memory) other = Unit {0}
IsSameAnswer (Ok a) (Err Memory) = Unit {0}
IsSameAnswer (Err (Fault a)) (Err Memory) = Unit {0}
IsSameAnswer (Ok a) (Ok b) = a.library ≡ b.library
IsSameAnswer (Err (Fault a)) (Err (Fault b)) = a ≡ b
IsSameAnswer (Ok a) (Err (Fault b)) = ⊥
IsSameAnswer (Err (Fault a)) (Ok b) = ⊥

abbrev pub AnswersAreOne : Type 0
AnswersAreOne = (g : Graph) (heading : Heading) (words : List Word) (doubled : List FaultData)
    (forms : List Form) (a b : Result Named Refusal) → IsNamed g heading words doubled forms a
    → IsNamed g heading words doubled forms b → IsSameAnswer a b
