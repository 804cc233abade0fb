-- Which definitions are one too many: `Redefined`.
use Rattle.std.specs.Prelude.{ℕ, Bool, true, false, not, ◌&&◌, ◌||◌, cond, nat_eq, List, [], ◌∷◌}
use Rattle.std.specs.Prelude.{◌++◌, Option, Some, None, is_some}
use Rattle.std.specs.Str.{bytes_eq}
use Rattle.std.specs.List.{list_any}
use Rattle.dy_base.specs.Folding.{folded}
use Rattle.dy_base.specs.declared.ids.What.{What}
use Rattle.dy_base.specs.declared.kind.Kind.TheVariants.{Redefined}
use Rattle.dy_base.specs.declared.fault.Fault.{Fault}
use Rattle.dy_tree.specs.declared.words.Word.{Word}
use Rattle.dy_modules.specs.declared.owner.Owner.{Owner}
use Rattle.dy_modules.specs.declared.owner.Owner.TheVariants.{Outside, Own}
use Rattle.dy_definitions.specs.declared.definitions.Role.{Role}
use Rattle.dy_definitions.specs.declared.definitions.Role.TheVariants.{Makes, Adds}
use Rattle.dy_definitions.specs.declared.definitions.Definition.{Definition}
use Rattle.dy_definitions.specs.Names.{is_generic, is_of, what_is, is_function}

-- Methods go together with methods and with a generic function of their name, and nothing else goes
-- with another definition of its name.
abbrev pub go_together : Role → Role → Bool
go_together Adds Adds = true
go_together Adds (Makes what) = is_generic what
go_together (Makes what) Adds = is_generic what
go_together (Makes what) (Makes other) = false

-- one of these definitions of the name doesn't go together with one that does this
abbrev pub clashes : List Definition → Option Owner → Role → Bool
clashes before None role = false
clashes before (Some (Outside id)) role = false
clashes before (Some (Own c a)) role =
    list_any (λ e. is_of c a e && not (go_together e.role role)) before

-- what names are, by the module that owns them
abbrev pub Whats : Type 0
Whats = ℕ → List ℕ → Option What

-- A method in module m may add to what its name means there: to a generic function of another
-- library; in the module that creates the name to a generic function that another module makes;
-- and to what another module defines. Where that is no generic function, the later of the two
-- definitions is one too many.
abbrev pub has_meaning : Whats → ℕ → Option Owner → Bool
has_meaning what m None = false
has_meaning what m (Some (Outside id)) = is_generic id.what
has_meaning what m (Some (Own c a)) =
    cond (nat_eq c m) (is_function (what c a)) (is_some (what c a))

-- the definition stands where none of its name may, and adds to nothing
abbrev pub is_misplaced : Whats → Definition → Role → Bool
is_misplaced what d (Makes made) = not d.is_open
is_misplaced what d Adds = not d.is_open && not (has_meaning what d.name.module d.owner)

abbrev pub is_built_in : Option ℕ → Bool
is_built_in None = true
is_built_in (Some at) = false

-- the name of a statement or of a definition of the language
abbrev pub is_word : List Word → List ℕ → Bool
is_word words text = list_any (λ w. is_built_in w.at && bytes_eq w.name text) words

-- where the library has these definitions, and some before this one
abbrev pub is_redefined : List Word → List Definition → List Definition → Definition → Bool
is_redefined words ds before d = is_word words (folded d.name.text)
    || (is_misplaced (what_is ds) d d.role || clashes before d.owner d.role)

-- It is told at the form, and shows the name.
abbrev pub redefined : Definition → Fault
redefined d = record {
  kind = Redefined;
  library = [];
  place = Some d.place;
  shown = folded d.name.text ∷ [];
  numbers = [];
}

-- the faults of those of the rest that are one too many, in the order of the text
abbrev pub redefined_among : List Word → List Definition → List Definition → List Definition
    → List Fault
redefined_among words ds before [] = []
redefined_among words ds before (d ∷ rest) = cond (is_redefined words ds before d)
    (redefined d ∷ redefined_among words ds (before ++ d ∷ []) rest)
    (redefined_among words ds (before ++ d ∷ []) rest)

-- the faults of the definitions that are one too many
abbrev pub all_redefined : List Word → List Definition → List Fault
all_redefined words ds = redefined_among words ds [] ds
