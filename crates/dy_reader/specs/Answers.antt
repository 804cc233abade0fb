-- What a call that parses a form answers.
use Rattle.std.specs.Prelude.{◌≡◌, List, [], ◌∷◌, Option, Some, None, Result, Ok, Err}
use Rattle.dy_base.specs.declared.kind.Kind.{Kind}
use Rattle.dy_base.specs.declared.fault.Fault.{Fault}
use Rattle.dy_base.specs.declared.fault.Place.{Place}
use Rattle.dy_base.specs.declared.fault.Refusal.{Refusal}
use Rattle.dy_base.specs.declared.fault.Refusal.TheVariants as refusals
use Rattle.dy_tree.specs.declared.form.Form.{Form}
use Rattle.dy_tree.specs.Fragments.{SeenFragment, one, group}
use Rattle.dy_rules.specs.Forms.{FormTree}
use Rattle.dy_rules.specs.Parsing.{Parsed, accepted, parsed}
use Rattle.dy_rules.specs.SeenForms.{seen_form}

-- where the first token stands, if there is one
abbrev pub first_place : List SeenFragment → Option Place
first_place [] = None
first_place (one token ∷ rest) = Some token.place
first_place (group opener inner closer ∷ rest) = Some opener.place

-- a fault at the first token, whose subject is written later
abbrev pub fault_of : Kind → List SeenFragment → Fault
fault_of kind fragments =
    record { kind = kind; library = []; place = first_place fragments; shown = []; numbers = [] }

-- a call gave this form and nothing else; want of memory says nothing
abbrev pub GivesForm : Result Form Refusal → FormTree → Type 0
GivesForm (Ok form) tree = seen_form form ≡ tree
GivesForm (Err (refusals.Fault fault)) tree = ⊥
GivesForm (Err refusals.Memory) tree = Unit {0}

-- a call refused with this fault and nothing else
abbrev pub Refuses : Result Form Refusal → Fault → Type 0
Refuses (Ok form) fault = ⊥
Refuses (Err (refusals.Fault other)) fault = other ≡ fault
Refuses (Err refusals.Memory) fault = Unit {0}

-- a call refused with a fault of this kind
abbrev pub HasKind : Kind → Result Form Refusal → Type 0
HasKind kind (Ok form) = ⊥
HasKind kind (Err (refusals.Fault fault)) = fault.kind ≡ kind
HasKind kind (Err refusals.Memory) = ⊥

-- What is accepted is given, and what is given is accepted.
pub record Accepts (fragments : List SeenFragment) (result : Result Form Refusal) : Type 0 where
  pub given : (tree : FormTree) → parsed fragments ≡ accepted tree → GivesForm result tree
  pub only : (form : Form) → result ≡ Ok form → parsed fragments ≡ accepted (seen_form form)

-- What has this cause is refused with this kind at its first token, and what is refused with this
-- kind has this cause.
pub record RefusesFor (cause : Parsed) (kind : Kind) (fragments : List SeenFragment)
    (result : Result Form Refusal) : Type 0 where
  pub refused : parsed fragments ≡ cause → Refuses result (fault_of kind fragments)
  pub only : HasKind kind result → parsed fragments ≡ cause
