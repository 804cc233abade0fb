-- What a pass over definitions keeps of those that it has seen: a tally for each name, and what
-- names mean so far.
use Rattle.std.specs.Prelude.{ℕ, Bool, true, false, not, ◌&&◌, ◌||◌, cond, List, [], ◌∷◌, ◌++◌}
use Rattle.std.specs.Prelude.{nat_eq, Option, Some, None, is_some}
use Rattle.std.specs.Str.{bytes_eq}
use Rattle.std.specs.List.{list_any}
use Rattle.dy_base.specs.Folding.{folded}
use Rattle.dy_base.specs.declared.ids.BindingId.{BindingId}
use Rattle.dy_base.specs.declared.ids.What.{What}
use Rattle.dy_base.specs.declared.fault.Fault.{Fault}
use Rattle.dy_tree.specs.declared.words.Word.{Word}
use Rattle.dy_modules.specs.declared.owner.Owner.{Owner}
use Rattle.dy_modules.specs.declared.owner.Owner.TheVariants.{Outside, Own}
use Rattle.dy_definitions.specs.declared.meanings.RowCounts.{RowCounts}
use Rattle.dy_definitions.specs.declared.definitions.Role.{Role}
use Rattle.dy_definitions.specs.declared.definitions.Role.TheVariants.{Makes, Adds}
use Rattle.dy_definitions.specs.declared.definitions.Definition.{Definition}
use Rattle.dy_definitions.specs.declared.tally.Tally.{Tally}
use Rattle.dy_definitions.specs.Names.{is_generic, is_owned, is_of, what_made, what_is}
use Rattle.dy_definitions.specs.Names.{first_made, is_function, has_form, is_method}
use Rattle.dy_definitions.specs.Names.{makes_generic, makes_other, may_give}
use Rattle.dy_definitions.specs.Means.{Meanings, one_more, row_id}
use Rattle.dy_definitions.specs.Redefined.{is_misplaced, is_word, redefined}

abbrev pub no_tally : Tally
no_tally = record {
  what = None;
  first = None;
  form = false;
  adds = false;
  generic = false;
  other = false;
}

-- the tally of the definitions of a name
abbrev pub tally_of : List Definition → ℕ → List ℕ → Tally
tally_of ds c a = record {
  what = what_is ds c a;
  first = first_made ds c a;
  form = has_form ds c a;
  adds = list_any (λ d. is_of c a d && is_method d.role) ds;
  generic = list_any (λ d. is_of c a d && makes_generic d.role) ds;
  other = list_any (λ d. is_of c a d && makes_other d.role) ds;
}

-- the first of two answers
abbrev pub or_what : Option What → Bool → What → Option What
or_what (Some what) stands other = Some what
or_what None true other = Some other
or_what None false other = None

-- the tally with one more definition of the name
abbrev pub counted : Role → Bool → Tally → Tally
counted role is_open t = record {
  what = or_what t.what is_open (what_made role);
  first = or_what t.first (is_open || is_method role) (what_made role);
  form = t.form || (is_open && makes_generic role);
  adds = t.adds || is_method role;
  generic = t.generic || makes_generic role;
  other = t.other || makes_other role;
}

-- the tally of each name of each module
abbrev pub Tallies : Type 0
Tallies = ℕ → List ℕ → Tally

abbrev pub no_tallies : Tallies
no_tallies c a = no_tally

-- with one more definition of the name that module n owns as m
abbrev pub with_counted : ℕ → List ℕ → Definition → Tallies → Tallies
with_counted n m d tallies = λ c a. cond (nat_eq n c && bytes_eq m a)
    (counted d.role d.is_open (tallies c a)) (tallies c a)

abbrev pub with_definition : Definition → Tallies → Tallies
with_definition d tallies = λ c a.
    cond (is_of c a d) (counted d.role d.is_open (tallies c a)) (tallies c a)

abbrev pub with_all : List Definition → Tallies → Tallies
with_all [] tallies = tallies
with_all (d ∷ ds) tallies = with_all ds (with_definition d tallies)

-- the tally of the name of a definition; none of the library's modules owns what is outside
abbrev pub tally_at : Tallies → Option Owner → Tally
tally_at tallies None = no_tally
tally_at tallies (Some (Outside id)) = no_tally
tally_at tallies (Some (Own c a)) = tallies c a

-- a definition that does this doesn't go together with one that was counted
abbrev pub clashes_with : Role → Tally → Bool
clashes_with Adds t = t.other
clashes_with (Makes what) t = t.generic || t.other || (t.adds && not (is_generic what))

abbrev pub is_refused : List Word → Tallies → Tallies → Definition → Bool
is_refused words all earlier d = is_word words (folded d.name.text)
    || (is_misplaced (λ c a. (all c a).what) d d.role
    || clashes_with d.role (tally_at earlier d.owner))

-- the faults so far, with that of a definition that is one too many
abbrev pub refused_by : Bool → Definition → List Fault → List Fault
refused_by true d list = list ++ redefined d ∷ []
refused_by false d list = list

abbrev pub with_refused : List Word → Tallies → Tallies → List Definition → List Fault → List Fault
with_refused words all earlier [] list = list
with_refused words all earlier (d ∷ ds) list =
    with_refused words all (with_definition d earlier) ds
    (refused_by (is_refused words all earlier d) d list)

-- a definition may give its name its row
abbrev pub gives_in : Definition → Tally → Bool
gives_in d all =
    may_give d.role d.is_open (is_some all.what && is_function all.first) all.form

abbrev pub is_unknown : Option BindingId → Bool
is_unknown None = true
is_unknown (Some id) = false

abbrev pub no_meanings : Meanings
no_meanings c a = None

-- what a name means so far
abbrev pub meaning_at : Meanings → Option Owner → Option BindingId
meaning_at meanings None = None
meaning_at meanings (Some (Outside id)) = None
meaning_at meanings (Some (Own c a)) = meanings c a

-- a definition gives its name its row, and none did before
abbrev pub is_giver : Tallies → Meanings → Definition → Bool
is_giver all meanings d =
    gives_in d (tally_at all d.owner) && is_unknown (meaning_at meanings d.owner)

abbrev pub with_meaning : Bool → Option Owner → BindingId → Meanings → Meanings
with_meaning false owner id meanings = meanings
with_meaning true owner id meanings = λ c a. cond (is_owned owner c a) (Some id) (meanings c a)

abbrev pub needs_row : Role → Bool → Bool
needs_row Adds is_giver = is_giver
needs_row (Makes what) is_giver = true

abbrev pub rows_after : Bool → What → RowCounts → RowCounts
rows_after false what rows = rows
rows_after true what rows = one_more what rows

module _ (library : ℕ) (all : Tallies) where
  abbrev pub meanings_after : Definition → RowCounts → Meanings → Meanings
  meanings_after d rows meanings =
      with_meaning (is_giver all meanings d) d.owner (row_id library rows d) meanings

  abbrev pub rows_with : Definition → RowCounts → Meanings → RowCounts
  rows_with d rows meanings =
      rows_after (needs_row d.role (is_giver all meanings d)) (what_made d.role) rows

  -- what names mean after these definitions
  abbrev pub meanings_with : List Definition → RowCounts → Meanings → Meanings
  meanings_with [] rows meanings = meanings
  meanings_with (d ∷ ds) rows meanings =
      meanings_with ds (rows_with d rows meanings) (meanings_after d rows meanings)
