-- What the forms of a library's files are that define it and its modules (DRM 4, "Modules" and
-- "Libraries"; own in that these files hold nothing else).
use Rattle.std.specs.Prelude.{◌≡◌, ℕ, Bool, true, false, cond, List, [], ◌∷◌, ◌++◌, codes, Option}
use Rattle.std.specs.Prelude.{Some, None, Result, Ok, Err}
use Rattle.dy_base.specs.declared.kind.Kind.TheVariants.{Syntax}
use Rattle.dy_base.specs.declared.fault.Place.{Place}
use Rattle.dy_base.specs.declared.fault.Fault.{Fault}
use Rattle.dy_base.specs.declared.fault.Refusal.{Refusal}
use Rattle.dy_base.specs.declared.fault.Refusal.TheVariants as refusals
use Rattle.dy_tree.specs.declared.token.Token.{Token}
use Rattle.dy_tree.specs.Spelling.{is_word}
use Rattle.dy_tree.specs.Fragments.{SeenFragment, one, group, row}
use Rattle.dy_module_forms.specs.declared.written.Kind.{Kind}
use Rattle.dy_module_forms.specs.declared.written.Kind.TheVariants.{Library, Module}
use Rattle.dy_module_forms.specs.declared.written.Placed.{Placed}
use Rattle.dy_module_forms.specs.declared.written.Form.{Form}
use Rattle.dy_module_forms.specs.Cuts.{is_mark, place_of, pieces}
use Rattle.dy_module_forms.specs.Clauses.{name_of, clauses_of}

abbrev pub form_with : Kind → Place → Option (List ℕ) → Option (List Placed) → Option Form
form_with kind place None clauses = None
form_with kind place (Some name) None = None
form_with kind place (Some name) (Some clauses) =
    Some (record { kind = kind; place = place; name = name; clauses = clauses })

-- what kind of form follows `define`
abbrev pub kind_of : SeenFragment → Option Kind
kind_of (one word) = cond (is_word (codes "library") word) (Some Library)
    (cond (is_word (codes "module") word) (Some Module) None)
kind_of (group opener inner closer) = None

abbrev pub form_of_kind : Option Kind → Place → SeenFragment → List SeenFragment → Option Form
form_of_kind None place name rest = None
form_of_kind (Some kind) place name rest =
    form_with kind place (name_of name) (clauses_of kind rest)

-- what stands between `define` and `end`: a word, a name, and clauses
abbrev pub form_in : Place → List SeenFragment → Option Form
form_in place (word ∷ name ∷ rest) = form_of_kind (kind_of word) place name rest
form_in place _ = None

abbrev pub form_of : SeenFragment → Option Form
form_of (one token) = None
form_of (group opener inner closer) =
    cond (is_word (codes "define") opener) (form_in opener.place (row inner)) None

-- a form, with its semicolon or without it
abbrev pub piece_form : List SeenFragment → Option Form
piece_form (only ∷ []) = form_of only
piece_form (form ∷ mark ∷ []) = cond (is_mark (codes ";") mark) (form_of form) None
piece_form _ = None

abbrev pub piece_place : List SeenFragment → Place
piece_place [] = record { file = 0; offset = 0 }
piece_place (first ∷ rest) = place_of first

abbrev pub with_form : Place → Option Form → Result (List Form) Place → Result (List Form) Place
with_form place None others = Err place
with_form place (Some form) (Ok others) = Ok (form ∷ others)
with_form place (Some form) (Err other) = Err other

-- the forms of these pieces, or the place of the first that is none
abbrev pub forms_in : List (List SeenFragment) → Result (List Form) Place
forms_in [] = Ok []
forms_in (piece ∷ others) = with_form (piece_place piece) (piece_form piece) (forms_in others)

abbrev pub forms_of : List SeenFragment → Result (List Form) Place
forms_of fragments = forms_in (pieces fragments)

-- what is wrong at a place; its subject is written later
abbrev pub syntax_at : Place → Fault
syntax_at place = record {
  kind = Syntax;
  library = [];
  place = Some place;
  shown = [];
  numbers =
      [];
}

abbrev pub IsFault : Result (List Form) Place → Fault → Type 0
IsFault (Ok forms) fault = ⊥
IsFault (Err place) fault = fault ≡ syntax_at place

-- the answer that a reading asks for; want of memory says nothing
abbrev pub Answers : Result (List Form) Place → Result (List Form) Refusal → Type 0
Answers read (Ok forms) = read ≡ Ok forms
Answers read (Err (refusals.Fault fault)) = IsFault read fault
Answers read (Err refusals.Memory) = Unit {0}

-- forms in front of what others are read as
abbrev pub forms_before : List Form → Result (List Form) Place → Result (List Form) Place
forms_before before (Ok forms) = Ok (before ++ forms)
forms_before before (Err place) = Err place
