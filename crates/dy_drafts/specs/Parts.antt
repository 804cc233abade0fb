-- Operators, statements and assignments in the core, made from the cores of their parts (DRM 4,
-- "Operators", "Assignment"; DRM 7, "Statements").
use Rattle.std.specs.Prelude.{ℕ, zero, suc, Bool, true, false, List, [], ◌∷◌, ◌++◌, length, codes}
use Rattle.std.specs.Prelude.{Option, Some, None, if◌then◌else◌}
use Rattle.dy_tree.specs.declared.token.Token.{Token}
use Rattle.dy_tree.specs.Spelling.{is_spelled}
use Rattle.dy_term.specs.declared.term.Limit.{Limit}
use Rattle.dy_term.specs.declared.term.Limit.TheVariants.{To, Above, Below}
use Rattle.dy_term.specs.declared.draft.Local.{Local}
use Rattle.dy_term.specs.declared.draft.Local.TheVariants.{Hidden}
use Rattle.dy_term.specs.declared.literal.Literal as constants
use Rattle.dy_term.specs.Types.{CoreType, object}
use Rattle.dy_term.specs.Drafts.{Core, literal, name, hidden, cond, call, body, values, CoreItem}
use Rattle.dy_term.specs.Drafts.{run, let_values, cores_of, choice_of, items_of}
use Rattle.dy_drafts.specs.Shapes.{name_at}

abbrev pub false_core : Core
false_core = literal (constants.Bool false)

abbrev pub true_core : Core
true_core = literal (constants.Bool true)

-- a call of what a name means
abbrev pub call_named : Token → List Core → Core
call_named token arguments = call (name token) (cores_of arguments)

-- a choice with one test
abbrev pub choose : Core → Core → Core → Core
choose test chosen other = cond (choice_of ((test, chosen) ∷ []) other)

abbrev pub not_core : Core → Core
not_core test = choose test false_core true_core

-- the name that a unary operator calls
abbrev pub unary_name : Token → Token
unary_name operator = if is_spelled (codes "-") operator then name_at (codes "negative") operator
    else operator

-- items one after the other
abbrev pub bodied : List CoreItem → Core
bodied items = body (items_of items)

-- the hidden locals below a number, in order: as terms, and as they are bound, with the type
-- `<object>`
abbrev pub hidden_terms : ℕ → List Core
hidden_terms zero = []
hidden_terms (suc count) = hidden_terms count ++ hidden count ∷ []

abbrev pub hidden_locals : ℕ → List (Local × CoreType)
hidden_locals zero = []
hidden_locals (suc count) = hidden_locals count ++ (Hidden count, object) ∷ []

-- a hidden local that takes the value of a term
abbrev pub hide : ℕ → Core → CoreItem
hide number term = let_values ((Hidden number, object) ∷ []) None term

-- each term to a hidden local, numbered from the given number on
abbrev pub hide_from : ℕ → List Core → List CoreItem
hide_from number [] = []
hide_from number (term ∷ terms) = hide number term ∷ hide_from (suc number) terms

-- The operands of a place and then the value are evaluated in order; the setter takes the value
-- first; the value is the answer.
abbrev pub setting : Token → List Core → Core → Core
setting setter operands value =
    let last = length operands in
    bodied (hide_from 0 operands ++ hide last value
    ∷ run (call_named setter (hidden last ∷ hidden_terms last)) ∷ run (hidden last) ∷ [])

abbrev pub setter_at : Token → Token
setter_at token = name_at (token.text ++ codes "-setter") token

-- which end of the numbers of a `for` a word names
abbrev pub limit_of : Token → Limit
limit_of word = if is_spelled (codes "to") word then To
    else (if is_spelled (codes "above") word then Above else Below)

-- The test of an arm of a `case` is its first one; the grammar has one.
abbrev pub first_or_false : List Core → Core
first_or_false [] = false_core
first_or_false (test ∷ tests) = test

-- The first values of a term, so many, and then one vector of the others.
abbrev pub with_rest : ℕ → Core → Core
with_rest count term = bodied
    (let_values (hidden_locals count) (Some (Hidden count)) term
    ∷ run (values (cores_of (hidden_terms (suc count)))) ∷ [])
