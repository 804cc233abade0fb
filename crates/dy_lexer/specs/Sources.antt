-- What a source file and a LID file say.
use Rattle.std.specs.Prelude.{◌≡◌, ℕ, ◌⊎◌, Bool, true, false, List, [], length, Result, Ok, Err}
use Rattle.std.specs.Prelude.{Option, Some, None}
use Rattle.dy_base.specs.Folding.{folded}
use Rattle.dy_base.specs.declared.kind.Kind.TheVariants.{BadHeader}
use Rattle.dy_base.specs.declared.fault.Fault.{Fault}
use Rattle.dy_base.specs.declared.fault.Refusal.{Refusal}
use Rattle.dy_base.specs.declared.fault.Refusal.TheVariants as refusals
use Rattle.dy_tree.specs.declared.token.Token.{Token}
use Rattle.dy_lexer.specs.declared.source.Source.{Source}
use Rattle.dy_lexer.specs.declared.source.Lid.{Lid}
use Rattle.dy_lexer.specs.declared.header.Head.{Head}
use Rattle.dy_lexer.specs.Tokens.{Tokens, fault_at, tokens_of, joined, joined_after}
use Rattle.dy_lexer.specs.Cut.{place_of, Cut, Broken}
use Rattle.dy_lexer.specs.Headers.{trimmed, start, Opened, header_from, IsHeader}

-- the header of a whole file
abbrev pub header_of : Bool → List ℕ → Opened
header_of lid text = header_from lid (length text) start 0 text

-- the value that is wanted, or the line with the first fault: the first line where the key is
-- missing
abbrev pub wanted : Option (List ℕ) → Option ℕ → Result (List ℕ) ℕ
wanted None fault = Err 0
wanted (Some value) (Some at) = Err at
wanted (Some value) None = Ok (folded (trimmed value))

abbrev pub header_fault : ℕ → ℕ → Fault
header_fault file at = fault_at BadHeader (place_of file at)

-- ---- source files

abbrev pub source : List ℕ → List Token → Source
source name tokens = record { «module» = name; tokens = tokens }

abbrev pub with_module : ℕ → Result (List ℕ) ℕ → Tokens → Result Source Fault
with_module file (Err at) tokens = Err (header_fault file at)
with_module file (Ok name) (Ok tokens) = Ok (source name tokens)
with_module file (Ok name) (Err f) = Err f

abbrev pub source_after : ℕ → Opened → Result Source Fault
source_after file o = with_module file (wanted o.head.name o.head.fault)
    (joined_after [] (tokens_of (length o.body) file o.at o.body))

abbrev pub source_of : ℕ → List ℕ → Result Source Fault
source_of file text = source_after file (header_of false text)

-- the header gives the module, and the text after it is cut into pieces with these tokens, adjacent
-- strings joined
pub record IsSource (file : ℕ) (text : List ℕ) (s : Source) : Type 0 where
  pub head : Head
  pub at : ℕ
  pub body : List ℕ
  pub pieces : List Token
  pub header : IsHeader false text head at body
  pub name : wanted head.name head.fault ≡ Ok s.«module»
  pub cut : Cut file at body pieces
  pub tokens : s.tokens ≡ joined pieces

-- a fault of the header, else the first one of the text after it
abbrev pub IsAfter : ℕ → Head → ℕ → List ℕ → Fault → Type 0
IsAfter file head at body f =
    ((line : ℕ) × (wanted head.name head.fault ≡ Err line) × (f ≡ header_fault file line))
    ⊎ ((name : List ℕ) × (wanted head.name head.fault ≡ Ok name) × Broken file at body f)

-- the first fault of a source file
pub record IsFirst (file : ℕ) (text : List ℕ) (f : Fault) : Type 0 where
  pub head : Head
  pub at : ℕ
  pub body : List ℕ
  pub header : IsHeader false text head at body
  pub first : IsAfter file head at body f

-- what a call gave is the source file, or its first fault; want of memory says nothing
abbrev pub IsReading : ℕ → List ℕ → Result Source Refusal → Type 0
IsReading file text (Ok s) = IsSource file text s
IsReading file text (Err (refusals.Fault f)) = IsFirst file text f
IsReading file text (Err refusals.Memory) = Unit {0}

-- a call gave this and nothing else
abbrev pub Reads : {X : Type 0} → Result X Refusal → X → Type 0
Reads (Ok x) y = x ≡ y
Reads (Err (refusals.Fault f)) y = ⊥
Reads (Err refusals.Memory) y = Unit {0}

-- a call refused with this and nothing else
abbrev pub Refuses : {X : Type 0} → Result X Refusal → Fault → Type 0
Refuses (Ok x) g = ⊥
Refuses (Err (refusals.Fault f)) g = f ≡ g
Refuses (Err refusals.Memory) g = Unit {0}

-- ---- LID files

abbrev pub lid : List ℕ → List (List ℕ) → Lid
lid name names = record { library = name; files = names }

-- both keys are wanted
abbrev pub lid_from : Option (List ℕ) → Option (List (List ℕ)) → Option ℕ → Result Lid ℕ
lid_from None files fault = Err 0
lid_from (Some value) None fault = Err 0
lid_from (Some value) (Some names) (Some at) = Err at
lid_from (Some value) (Some names) None = Ok (lid (folded (trimmed value)) names)

abbrev pub placed : {X : Type 0} → ℕ → Result X ℕ → Result X Fault
placed file (Ok x) = Ok x
placed file (Err at) = Err (header_fault file at)

abbrev pub lid_of : List ℕ → Result Lid Fault
lid_of text = placed 0 (lid_from (header_of true text).head.name (header_of true text).head.files
    (header_of true text).head.fault)

-- the header gives the library and the file names
pub record IsLid (text : List ℕ) (l : Lid) : Type 0 where
  pub head : Head
  pub at : ℕ
  pub body : List ℕ
  pub header : IsHeader true text head at body
  pub values : lid_from head.name head.files head.fault ≡ Ok l

pub record IsLidFault (text : List ℕ) (f : Fault) : Type 0 where
  pub head : Head
  pub at : ℕ
  pub body : List ℕ
  pub line : ℕ
  pub header : IsHeader true text head at body
  pub values : lid_from head.name head.files head.fault ≡ Err line
  pub fault : f ≡ header_fault 0 line

-- what a call gave is the LID file, or its first fault
abbrev pub IsLidReading : List ℕ → Result Lid Refusal → Type 0
IsLidReading text (Ok l) = IsLid text l
IsLidReading text (Err (refusals.Fault f)) = IsLidFault text f
IsLidReading text (Err refusals.Memory) = Unit {0}
