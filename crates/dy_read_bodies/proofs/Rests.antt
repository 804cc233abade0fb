-- What stands behind a type, a variable or results is nested at most as deep as the whole.
use Rattle.std.proofs.Common.{◌≡◌, ◌≤◌, ℕ, max, Bool, true, false, List, [], ◌∷◌, Option, Some, None, option_map, refl, sym, ap, ◌∙◌, arith}
use Rattle.std.specs.Bool.{⊤}
use Rattle.dy_tree.specs.declared.token.Token.{Token}
use Rattle.dy_tree.specs.Fragments.{SeenFragment, one, group, SeenFragments, no_fragment, fragment_and, seen_fragments}
use Rattle.dy_tree.specs.declared.roles.Role.{Role}
use Rattle.dy_tree.specs.declared.roles.Role.TheVariants as roles
use Rattle.dy_tree.specs.declared.brackets.Bracket.{Bracket}
use Rattle.dy_tree.specs.declared.brackets.Bracket.TheVariants as brackets
use Rattle.dy_tree.specs.declared.type_words.TypeWord.{TypeWord}
use Rattle.dy_tree.specs.declared.type_words.TypeWord.TheVariants as type_words
use Rattle.dy_rules.specs.Roles.{role_of, bracket_of}
use Rattle.dy_rules.specs.Cutting.{Found, Item, fragments_in, is_arrow}
use Rattle.dy_rules.specs.Fragments.{items_of}
use Rattle.dy_rules.specs.Signatures as signatures
use Rattle.dy_rules.specs.Signatures.{results_in_front, several_given, given_in, variable_result, results_at, results_behind, results_if, results_front}
use Rattle.dy_rules.specs.Types.{TypeTree, ResultTree, type_word}
use Rattle.dy_rules.specs.TypeReading.{TypeFront, in_front, form_type, word_front, group_front, front_behind, type_from, type_named, type_at, type_front, VariableFront, typed_front, is_colons, variable_if, variable_from, variable_named, variable_at, variable_front}
use Rattle.dy_rules.proofs.Lists.{some_one, fragments_back}
use Rattle.dy_read_types.specs.declared.variables.VariableFront.{VariableFront as ReadVariable}
use Rattle.dy_read_types.specs.declared.results.ResultsFront.{ResultsFront as ReadResults}
use Rattle.dy_read_parts.specs.Nesting.{group_nesting, nesting}
use Rattle.dy_read_types.specs.Results as results
use Rattle.dy_read_types.specs.VariableFronts as variables

abbrev Within : ℕ → List Item → Type 0
Within n items = nesting (fragments_in items) ≤ n

-- types

abbrev TypeWithin : ℕ → Option TypeFront → Type 0
TypeWithin n None = ⊤
TypeWithin n (Some front) = Within n front.rest

in_front_within : (n : ℕ) (rest : List Item) (found : Option TypeTree) → Within n rest → TypeWithin n (option_map (in_front rest) found)
in_front_within n rest None h = tt
in_front_within n rest (Some type) h = h

by_word : (n : ℕ) (form : TypeWord) (word : Token) (inner : SeenFragments) (item : Item) (rest : List Item) → Within n (item ∷ rest) → TypeWithin n (word_front form word inner item rest)
by_word n type_words.Absent word inner item rest h = h
by_word n type_words.Singleton word inner item rest h = in_front_within n rest (form_type type_words.Singleton word inner item.found) (omega arith)
by_word n type_words.Union word inner item rest h = in_front_within n rest (form_type type_words.Union word inner item.found) (omega arith)
by_word n type_words.Limited word inner item rest h = in_front_within n rest (form_type type_words.Limited word inner item.found) (omega arith)

by_bracket : (n : ℕ) (bracket : Bracket) (word : Token) (inner : SeenFragments) (item : Item) (rest : List Item) → Within n (item ∷ rest) → TypeWithin n (group_front bracket word inner item rest)
by_bracket n brackets.Round word inner item rest h = by_word n (type_word word) word inner item rest h
by_bracket n bracket word inner item rest h = h

behind_within : (n : ℕ) (word : Token) (fragment : SeenFragment) (item : Item) (rest : List Item) → Within n (item ∷ rest) → TypeWithin n (front_behind word fragment item rest)
behind_within n word (one token) item rest h = h
behind_within n word (group opener inner closer) item rest h = by_bracket n (bracket_of opener closer) word inner item rest h

type_from_within : (n : ℕ) (word : Token) (items : List Item) → Within n items → TypeWithin n (type_from word items)
type_from_within n word [] h = h
type_from_within n word (item ∷ rest) h = behind_within n word item.fragment item rest h

type_named_within : (n : ℕ) (role : Role) (word : Token) (items : List Item) → Within n items → TypeWithin n (type_named role word items)
type_named_within n roles.Named word items h = type_from_within n word items h
type_named_within n role word items h = tt

type_at_within : (n : ℕ) (fragment : SeenFragment) (rest : List Item) → Within n rest → TypeWithin n (type_at fragment rest)
type_at_within n (one word) rest h = type_named_within n (role_of word) word rest h
type_at_within n (group opener inner closer) rest h = tt

type_within : (n : ℕ) (items : List Item) → Within n items → TypeWithin n (type_front items)
type_within n [] h = tt
type_within n (item ∷ rest) h = type_at_within n item.fragment rest (omega arith)

-- variables

abbrev VariableWithin : ℕ → Option VariableFront → Type 0
VariableWithin n None = ⊤
VariableWithin n (Some front) = Within n front.rest

typed_within : (n : ℕ) (token : Token) (found : Option TypeFront) → TypeWithin n found → VariableWithin n (option_map (typed_front token) found)
typed_within n token None h = tt
typed_within n token (Some front) h = h

variable_if_within : (n : ℕ) (is : Bool) (token : Token) (item : Item) (rest : List Item) → Within n (item ∷ rest) → VariableWithin n (variable_if is token item rest)
variable_if_within n true token item rest h = typed_within n token (type_front rest) (type_within n rest (omega arith))
variable_if_within n false token item rest h = h

variable_from_within : (n : ℕ) (token : Token) (items : List Item) → Within n items → VariableWithin n (variable_from token items)
variable_from_within n token [] h = h
variable_from_within n token (item ∷ rest) h = variable_if_within n (is_colons item.fragment) token item rest h

variable_named_within : (n : ℕ) (role : Role) (token : Token) (items : List Item) → Within n items → VariableWithin n (variable_named role token items)
variable_named_within n roles.Named token items h = variable_from_within n token items h
variable_named_within n role token items h = tt

variable_at_within : (n : ℕ) (fragment : SeenFragment) (rest : List Item) → Within n rest → VariableWithin n (variable_at fragment rest)
variable_at_within n (one token) rest h = variable_named_within n (role_of token) token rest h
variable_at_within n (group opener inner closer) rest h = tt

variable_within : (n : ℕ) (items : List Item) → Within n items → VariableWithin n (variable_front items)
variable_within n [] h = tt
variable_within n (item ∷ rest) h = variable_at_within n item.fragment rest (omega arith)

-- of fragments

whole_within : (fragments : List SeenFragment) → Within (nesting fragments) (items_of fragments)
whole_within fragments = let e : nesting (fragments_in (items_of fragments)) ≡ nesting fragments = ap nesting (fragments_back fragments) in omega arith

rest_within : (n : ℕ) (rest : List SeenFragment) (items : List Item) → items_of rest ≡ items → Within n items → nesting rest ≤ n
rest_within n rest items e h = let same : nesting rest ≡ nesting (fragments_in items) = ap nesting (sym (fragments_back rest) ∙ ap fragments_in e) in omega arith

-- where a variable was read from these fragments
pub variable_rest : (found : Option ReadVariable) (fragments : List SeenFragment) → option_map variables.seen_front found ≡ option_map variables.capped_front (variable_front (items_of fragments)) → variables.IsRestWithin (nesting fragments) found
variable_rest found fragments e = go (nesting fragments) found (variable_front (items_of fragments)) e (variable_within (nesting fragments) (items_of fragments) (whole_within fragments))
  where
    go : (n : ℕ) (found : Option ReadVariable) (other : Option VariableFront) → option_map variables.seen_front found ≡ option_map variables.capped_front other → VariableWithin n other → variables.IsRestWithin n found
    go n None other e h = tt
    go n (Some front) None e h = absurd cc
    go n (Some front) (Some other) e h = rest_within n (seen_fragments front.rest.now) other.rest (ap (λ (f : VariableFront). f.rest) (some_one (variables.seen_front front) (variables.capped_front other) e)) h

-- results

abbrev ResultsWithin : ℕ → Option signatures.ResultsFront → Type 0
ResultsWithin n None = ⊤
ResultsWithin n (Some front) = Within n front.rest

given_within : (n : ℕ) (rest : List Item) (found : Option ResultTree) → Within n rest → ResultsWithin n (option_map (results_in_front rest) found)
given_within n rest None h = tt
given_within n rest (Some given) h = h

given_in_within : (n : ℕ) (bracket : Bracket) (inner : SeenFragments) (found : Found) (rest : List Item) → Within n rest → ResultsWithin n (given_in bracket inner found rest)
given_in_within n brackets.Round no_fragment found rest h = h
given_in_within n brackets.Round (fragment_and first others) found rest h = given_within n rest (option_map several_given found.given) h
given_in_within n bracket inner found rest h = tt

one_within : (n : ℕ) (found : Option VariableFront) → VariableWithin n found → ResultsWithin n (option_map variable_result found)
one_within n None h = tt
one_within n (Some front) h = h

at_within : (n : ℕ) (fragment : SeenFragment) (item : Item) (rest : List Item) → Within n (item ∷ rest) → ResultsWithin n (results_at fragment item rest)
at_within n (one token) item rest h = one_within n (variable_front (item ∷ rest)) (variable_within n (item ∷ rest) h)
at_within n (group opener inner closer) item rest h = given_in_within n (bracket_of opener closer) inner item.found rest (omega arith)

results_behind_within : (n : ℕ) (items : List Item) → Within n items → ResultsWithin n (results_behind items)
results_behind_within n [] h = tt
results_behind_within n (item ∷ rest) h = at_within n item.fragment item rest h

results_if_within : (n : ℕ) (is : Bool) (item : Item) (rest : List Item) → Within n (item ∷ rest) → ResultsWithin n (results_if is item rest)
results_if_within n true item rest h = results_behind_within n rest (omega arith)
results_if_within n false item rest h = h

results_within : (n : ℕ) (items : List Item) → Within n items → ResultsWithin n (results_front items)
results_within n [] h = h
results_within n (item ∷ rest) h = results_if_within n (is_arrow item.fragment) item rest h

-- where results were read from these fragments
pub results_rest : (found : Option ReadResults) (fragments : List SeenFragment) → option_map results.seen_front found ≡ option_map results.capped_front (results_front (items_of fragments)) → results.IsRestWithin (nesting fragments) found
results_rest found fragments e = go (nesting fragments) found (results_front (items_of fragments)) e (results_within (nesting fragments) (items_of fragments) (whole_within fragments))
  where
    go : (n : ℕ) (found : Option ReadResults) (other : Option signatures.ResultsFront) → option_map results.seen_front found ≡ option_map results.capped_front other → ResultsWithin n other → results.IsRestWithin n found
    go n None other e h = tt
    go n (Some front) None e h = absurd cc
    go n (Some front) (Some other) e h = rest_within n (seen_fragments front.rest.now) other.rest (ap (λ (f : signatures.ResultsFront). f.rest) (some_one (results.seen_front front) (results.capped_front other) e)) h
