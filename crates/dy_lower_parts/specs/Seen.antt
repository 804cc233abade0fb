-- Flat code of the program as the definitions have it, and the code of lists of terms.
use Rattle.std.specs.Prelude.{ℕ, ◌+◌, Bool, true, false, List, [], ◌∷◌, ◌++◌, map, flat_map}
use Rattle.dy_term.specs.declared.literal.Literal.{Literal-F, roll-Literal}
use Rattle.dy_term.specs.declared.term.Term.{Term}
use Rattle.dy_term.specs.declared.term.BlockRow.{BlockRow}
use Rattle.dy_term.specs.declared.term.ForClause.{ForClause}
use Rattle.dy_term.specs.declared.term.ForRow.{ForRow}
use Rattle.dy_term.specs.declared.term.Lambda.{Lambda}
use Rattle.dy_term.specs.declared.term.Item.{Item, Item-F, out-Item}
use Rattle.dy_code.specs.Fetching as instr
use Rattle.dy_meaning.specs.Lambdas.{lambdas_in}
use Rattle.dy_meaning.specs.Layouts.{Layout}
use Rattle.dy_meaning.specs.Numbering.{Numbered, terms_from, items_from, branches_from, arms_from}
use Rattle.dy_lowered.specs.Flat as flats
use Rattle.dy_lowered.specs.Flat.{Code, Plain}
use Rattle.dy_lowered.specs.Parts.{Part, Method, truth, without_handlers, Comparing, by_identity}
use Rattle.dy_lowered.specs.Parts.{by_function}
use Rattle.dy_lowered.specs.Terms.{code_of, item_code, lambda_code, methods_from}
use Rattle.dy_lower_parts.specs.declared.buffer.Buffer.{Buffer}
use Rattle.dy_lower_parts.specs.declared.flat.Flat.{Flat}
use Rattle.dy_lower_parts.specs.declared.flat.Flat.TheVariants as flat
use Rattle.dy_lower_parts.specs.declared.selecting.Comparing as compare
use Rattle.dy_lower_parts.specs.declared.selecting.Comparing.TheVariants as comparing

abbrev pub seen : Flat → flats.Flat
seen (flat.Const literal) = Plain (instr.Const literal.now)
seen (flat.Truth value) = Plain (instr.Const (roll-Literal (Literal-F.Bool value)))
seen (flat.Number value) = Plain (instr.Const (roll-Literal (Literal-F.Int value)))
seen (flat.Local local) = Plain (instr.Local local)
seen (flat.SetLocal local) = Plain (instr.SetLocal local)
seen (flat.NewCell local) = Plain (instr.NewCell local)
seen (flat.CellGet local) = Plain (instr.CellGet local)
seen (flat.CellSet local) = Plain (instr.CellSet local)
seen (flat.Free capture) = Plain (instr.Free capture)
seen (flat.FreeGet capture) = Plain (instr.FreeGet capture)
seen (flat.FreeSet capture) = Plain (instr.FreeSet capture)
seen (flat.Global named) = Plain (instr.Global named)
seen (flat.SetGlobal named) = Plain (instr.SetGlobal named)
seen flat.Push = Plain instr.Push
seen (flat.Jump distance) = flats.Jump distance
seen (flat.JumpFalse distance) = flats.JumpFalse distance
seen flat.Tick = Plain instr.Tick
seen (flat.Closure body count) = Plain (instr.Closure body count)
seen (flat.Search generic count) = Plain (instr.Search generic count)
seen (flat.CallKnown named count) = Plain (instr.CallKnown named count)
seen (flat.CallValue count) = Plain (instr.CallValue count)
seen flat.Return = Plain instr.Return
seen (flat.Values count) = Plain (instr.Values count)
seen (flat.Spread count collects) = Plain (instr.Spread count collects)
seen (flat.CheckResults results) = Plain (instr.CheckResults results.now)
seen (flat.Op operation count) = Plain (instr.Op operation count)
seen (flat.Handle condition) = Plain (instr.Handle condition.now)
seen (flat.Unhandle count) = Plain (instr.Unhandle count)
seen flat.Save = Plain instr.Save
seen flat.Restore = Plain instr.Restore
seen flat.NoMatch = Plain instr.NoMatch
seen (flat.Args params) = Plain (instr.Args params.now)

abbrev pub seen_comparing : compare.Comparing → Comparing
seen_comparing comparing.Identity = by_identity
seen_comparing comparing.Function = by_function

abbrev pub seen_code : Buffer → Code
seen_code buffer = map seen buffer.flats.items

-- parts with their code
module _ (layout : Layout) where
  abbrev pub with_code : Term → Numbered Term Code
  with_code term = (term, code_of layout term)

  abbrev pub item_with_code : Item → Numbered Item Part
  item_with_code item = (item, item_code layout item)

  abbrev pub terms_code : List Term → ℕ → List Code
  terms_code terms = terms_from (map with_code terms)

  abbrev pub items_code : List Item → ℕ → List Part
  items_code items = items_from (map item_with_code items)

  abbrev pub branches_code : List (Term × Term) → ℕ → List (Code × Code)
  branches_code branches = branches_from (map (λ b. (with_code b.0, with_code b.1)) branches)

  -- local methods, where the first body of a closure has this number
  abbrev pub method_with_code : ℕ × Lambda → ℕ × (Lambda × Unit {0})
  method_with_code method = (method.0, (method.1, lambda_code layout method.1))

  abbrev pub methods_code : List (ℕ × Lambda) → ℕ → List Method
  methods_code methods = methods_from layout (map method_with_code methods)

  abbrev pub arms_code : List (List Term × Term) → ℕ → List (List Code × Code)
  arms_code arms = arms_from (map (λ a. (map with_code a.0, with_code a.1)) arms)

-- the lambdas inside of branches and of arms
abbrev pub lambdas_in_branches : List (Term × Term) → List Lambda
lambdas_in_branches branches = flat_map (λ b. lambdas_in b.0 ++ lambdas_in b.1) branches

abbrev pub lambdas_in_arms : List (List Term × Term) → List Lambda
lambdas_in_arms arms = flat_map (λ a. flat_map lambdas_in a.0 ++ lambdas_in a.1) arms

-- whether a part of a body is a term, and whether the last one is, where so it was before them
abbrev pub is_term_kind : Item-F ForClause Item Term BlockRow ForRow Lambda → Bool
is_term_kind (Item-F.Run term) = true
is_term_kind kind = false

abbrev pub is_term : Item → Bool
is_term item = is_term_kind (out-Item item)

abbrev pub ends_in_term : Bool → List Item → Bool
ends_in_term before [] = before
ends_in_term before (item ∷ items) = ends_in_term (is_term item) items

-- what gives the values of a body then
abbrev pub values_of_last : Bool → Code
values_of_last true = []
values_of_last false = truth false

-- how many handlers a part of a body is, and how many there are behind parts with those before them
abbrev pub handlers_of_kind : Item-F ForClause Item Term BlockRow ForRow Lambda → ℕ
handlers_of_kind (Item-F.Handler condition function) = 1
handlers_of_kind kind = 0

abbrev pub handlers_of : Item → ℕ
handlers_of item = handlers_of_kind (out-Item item)

abbrev pub handlers_behind : ℕ → List Item → ℕ
handlers_behind before [] = before
handlers_behind before (item ∷ items) = handlers_behind (before + handlers_of item) items

-- what comes behind the parts of a body
abbrev pub end_of_body : List Item → Code
end_of_body items =
    values_of_last (ends_in_term false items) ++ without_handlers (handlers_behind 0 items)
