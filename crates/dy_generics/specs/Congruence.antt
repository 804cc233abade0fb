-- Congruence of a method with its generic function (DRM 6, "Parameter List Congruency"): a list of
-- tests, in order.
use Rattle.std.specs.Prelude.{ℕ, suc, ◌≡◌, ◌⊎◌, ◌≤◌, Bool, true, cond, List, [], ◌∷◌, ◌++◌, length, drop, All, Contains, MatchResult, slice_get}
use Rattle.std.specs.declared.option.Option.{Option}
use Rattle.std.specs.declared.option.Option.TheVariants.{None, Some}
use Rattle.std.specs.declared.result.Result.{Result}
use Rattle.std.specs.Option.{option_map_or}
use Rattle.dy_base.specs.declared.ids.DomainId.{DomainId}
use Rattle.dy_base.specs.declared.ids.MethodId.{MethodId}
use Rattle.dy_term.specs.declared.types.DyType.{DyType}
use Rattle.dy_term.specs.declared.types.Params.{Params}
use Rattle.dy_term.specs.declared.types.Results.{Results}
use Rattle.dy_term.specs.declared.rows.DomainRow.{DomainRow}
use Rattle.dy_term.specs.declared.rows.GenericRow.{GenericRow}
use Rattle.dy_term.specs.declared.rows.MethodRow.{MethodRow}
use Rattle.dy_term.specs.declared.rows.Program.{Program}
use Rattle.dy_types.specs.Types.{IsSubtype}
use Rattle.dy_classes.specs.Legal.{generic_at}
use Rattle.dy_order.specs.Methods.{counted, method_at}
use Rattle.dy_generics.specs.declared.misfit.Kinds.{Kinds}
use Rattle.dy_generics.specs.declared.misfit.Kinds.TheVariants.{Keywords, Rest, Neither}
use Rattle.dy_generics.specs.declared.misfit.Misfit.{Misfit}
use Rattle.dy_generics.specs.declared.misfit.Reason.{Reason}
use Rattle.dy_generics.specs.declared.misfit.Reason.TheVariants as reasons

-- which arguments are taken beyond the required ones: keywords, others, or none
abbrev pub kinds_of : Params → Kinds
kinds_of params = option_map_or (λ keys. Keywords) params.keys (cond params.rest Rest Neither)

-- the keywords that are named
abbrev pub keywords_of : Params → List (List ℕ)
keywords_of params = option_map_or (λ keys. keys) params.keys []

-- what is asked of a method, and what its generic function wants
pub data Claim : Type 0 where
  same_number : (own wanted : ℕ) → Claim
  is_subtype : (own wanted : DyType) → Claim
  same_kinds : (own wanted : Params) → Claim
  takes_keyword : (own : Params) (keyword : List ℕ) → Claim
  enough_results : (own wanted : Results) → Claim

-- there are as many results, and none of any number; or where the generic function has some of any
-- number, at least as many as it requires
abbrev pub HasEnough : Results → Results → Option DyType → Type 0
HasEnough own wanted None = (length own.required ≡ length wanted.required) × (own.rest ≡ None)
HasEnough own wanted (Some type) = length wanted.required ≤ length own.required

abbrev pub Holds : Program → Claim → Type 0
Holds program (same_number own wanted) = own ≡ wanted
Holds program (is_subtype own wanted) = IsSubtype program own wanted
Holds program (same_kinds own wanted) = kinds_of own ≡ kinds_of wanted
Holds program (takes_keyword own keyword) = Contains (keywords_of own) keyword ⊎ (own.all_keys ≡ true)
Holds program (enough_results own wanted) = HasEnough own wanted wanted.rest

-- a claim, and what is told where it does not hold
pub record Test : Type 0 where
  pub position : ℕ
  pub reason : Reason
  pub claim : Claim

abbrev pub test : ℕ → Reason → Claim → Test
test position reason claim = record { position = position; reason = reason; claim = claim }

-- each type is a subtype of the one at its position
abbrev pub typed : Reason → ℕ → List DyType → List DyType → List Test
typed reason from [] wanted = []
typed reason from (own ∷ types) [] = []
typed reason from (own ∷ types) (type ∷ wanted) = test from reason (is_subtype own type) ∷ typed reason (suc from) types wanted

-- each type is a subtype of one type
abbrev pub typed_by : DyType → ℕ → List DyType → List Test
typed_by type from [] = []
typed_by type from (own ∷ types) = test from reasons.ResultType (is_subtype own type) ∷ typed_by type (suc from) types

-- each keyword is taken
abbrev pub keyed : Params → ℕ → List (List ℕ) → List Test
keyed own from [] = []
keyed own from (keyword ∷ keywords) = test from reasons.Keyword (takes_keyword own keyword) ∷ keyed own (suc from) keywords

abbrev pub params_tests : Params → Params → List Test
params_tests own wanted =
    test 0 reasons.Count (same_number (length own.required) (length wanted.required))
    ∷ (typed reasons.Specializer 0 own.required wanted.required
    ++ (test 0 reasons.Kind (same_kinds own wanted)
    ∷ keyed own 0 (keywords_of wanted)))

abbrev pub option_list : Option DyType → List DyType
option_list None = []
option_list (Some type) = type ∷ []

-- the types of the results beyond the first ones, the type of those of any number last
abbrev pub further : ℕ → Results → List DyType
further count results = drop count results.required ++ option_list results.rest

abbrev pub rest_tests : Results → Results → Option DyType → List Test
rest_tests own wanted None = []
rest_tests own wanted (Some type) = typed_by type (length wanted.required) (further (length wanted.required) own)

abbrev pub results_tests : Results → Results → List Test
results_tests own wanted =
    test 0 reasons.ResultCount (enough_results own wanted)
    ∷ (typed reasons.ResultType 0 own.required wanted.required ++ rest_tests own wanted wanted.rest)

abbrev pub method_tests : MethodRow → GenericRow → List Test
method_tests method generic = params_tests method.params generic.params ++ results_tests method.results generic.results

-- the tests of a method, where it and its generic function have rows
abbrev pub tests_of : Program → MethodId → List Test
tests_of program method =
    option_map_or (λ row. option_map_or (λ generic. method_tests row generic) (generic_at program row.generic) []) (method_at program method) []

-- the row of a sealed domain, where it has one
abbrev pub domain_at : Program → DomainId → Option DomainRow
domain_at program domain =
    option_map_or (λ library. slice_get library.domains domain.0.row) (slice_get program.libraries domain.0.library) None

abbrev pub domain_tests : DomainRow → GenericRow → List Test
domain_tests domain generic =
    test 0 reasons.Count (same_number (length domain.types) (length generic.params.required)) ∷ []

-- the test of a domain: it has a type for each required parameter
abbrev pub tests_of_domain : Program → DomainId → List Test
tests_of_domain program domain =
    option_map_or (λ row. option_map_or (λ generic. domain_tests row generic) (generic_at program row.generic) []) (domain_at program domain) []

-- what is told of a test, the position as far as it is counted
abbrev pub misfit_of : Test → Misfit
misfit_of t = record { position = counted t.position; reason = t.reason }

abbrev pub AllHold : Program → List Test → Type 0
AllHold program [] = Unit {0}
AllHold program (t ∷ tests) = Holds program t.claim × AllHold program tests

-- a test does not hold, all before it do, and this is told of it
abbrev pub FirstFailing : Program → List Test → Misfit → Type 0
FirstFailing program [] misfit = ⊥
FirstFailing program (t ∷ tests) misfit =
    ((Holds program t.claim → ⊥) × (misfit ≡ misfit_of t)) ⊎ (Holds program t.claim × FirstFailing program tests misfit)

-- the answer to a list of tests: all hold, or the first that does not
abbrev pub Tested : Program → List Test → Result (Unit {0}) Misfit → Type 0
Tested program tests result = MatchResult result (λ done. AllHold program tests) (λ misfit. FirstFailing program tests misfit)
