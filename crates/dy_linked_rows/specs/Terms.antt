-- Terms in a program, where a library stands at another place than in the view in which they were
-- read: each reference is linked, in names, classes, generic functions and types. Locals, literals
-- and all else stay what they are.
use Rattle.std.specs.Prelude.{ℕ, map}
use Rattle.dy_base.specs.declared.ids.GenericId.{GenericId}
use Rattle.dy_term.specs.declared.types.DyType.{DyType}
use Rattle.dy_term.specs.declared.term.ForClause.{ForClause, ForClause-F, roll-ForClause}
use Rattle.dy_term.specs.declared.term.ForClause.{fold-ForClause}
use Rattle.dy_term.specs.declared.term.Item.{Item, Item-F, roll-Item, fold-Item}
use Rattle.dy_term.specs.declared.term.Term.{Term, Term-F, roll-Term, fold-Term}
use Rattle.dy_term.specs.declared.term.BlockRow.{BlockRow, BlockRow-F, roll-BlockRow}
use Rattle.dy_term.specs.declared.term.BlockRow.{fold-BlockRow}
use Rattle.dy_term.specs.declared.term.ForRow.{ForRow, ForRow-F, roll-ForRow, fold-ForRow}
use Rattle.dy_term.specs.declared.term.Lambda.{Lambda, Lambda-F, roll-Lambda, fold-Lambda}
use Rattle.dy_lowered.specs.Linking.{linked_ref, linked_name, linked_class, linked_type}
use Rattle.dy_lowered.specs.Linking.{linked_params, linked_results}

abbrev pub linked_generic : (ℕ → ℕ) → GenericId → GenericId
linked_generic places generic = record { 0 = linked_ref places generic.0 }

-- a type in front of something else
abbrev pub typed : {A : Type 0} → (ℕ → ℕ) → DyType × A → DyType × A
typed places pair = (linked_type places pair.0, pair.1)

-- What a clause of a `for`, a part of a body, a term, a `block`, a `for` and a lambda name
-- themselves, whatever their parts are.
module _ (places : ℕ → ℕ) {C I T K F L : Type 0} where
  abbrev pub clause_linked : ForClause-F C I T K F L → ForClause-F C I T K F L
  clause_linked (ForClause-F.Then local type start next) =
      ForClause-F.Then local (linked_type places type) start next
  clause_linked (ForClause-F.In local type collection) =
      ForClause-F.In local (linked_type places type) collection
  clause_linked (ForClause-F.From local type start limit step) =
      ForClause-F.From local (linked_type places type) start limit step

  abbrev pub item_linked : Item-F C I T K F L → Item-F C I T K F L
  item_linked (Item-F.Let locals rest term) =
      Item-F.Let (map (λ local. (local.0, linked_type places local.1)) locals) rest term
  item_linked (Item-F.Handler type function) =
      Item-F.Handler (linked_type places type) function
  item_linked item = item

  abbrev pub term_linked : Term-F C I T K F L → Term-F C I T K F L
  term_linked (Term-F.Global binding) = Term-F.Global (linked_name places binding)
  term_linked (Term-F.ClassName class) = Term-F.ClassName (linked_class places class)
  term_linked (Term-F.GenericName generic) = Term-F.GenericName (linked_generic places generic)
  term_linked (Term-F.SetGlobal binding term) =
      Term-F.SetGlobal (linked_name places binding) term
  term_linked (Term-F.Site generic terms) = Term-F.Site (linked_generic places generic) terms
  term_linked term = term

  abbrev pub block_linked : BlockRow-F C I T K F L → BlockRow-F C I T K F L
  block_linked row =
      record row {
        clauses = map (λ clause. (clause.0, linked_type places clause.1, clause.2)) row.clauses;
      }

  abbrev pub for_linked : ForRow-F C I T K F L → ForRow-F C I T K F L
  for_linked row = row

  abbrev pub lambda_linked : Lambda-F C I T K F L → Lambda-F C I T K F L
  lambda_linked row = record row {
    params = linked_params places row.params;
    keywords = map (typed places) row.keywords;
    results = linked_results places row.results;
  }

-- each of them with all that is inside of it
module _ (places : ℕ → ℕ) where
  abbrev pub linked_clause : ForClause → ForClause
  linked_clause = fold-ForClause ForClause Item Term BlockRow ForRow Lambda
      (λ row. roll-ForClause (clause_linked places row)) (λ row. roll-Item (item_linked places row))
      (λ row. roll-Term (term_linked places row)) (λ row. roll-BlockRow (block_linked places row))
      (λ row. roll-ForRow (for_linked places row)) (λ row. roll-Lambda (lambda_linked places row))

  abbrev pub linked_item : Item → Item
  linked_item = fold-Item ForClause Item Term BlockRow ForRow Lambda
      (λ row. roll-ForClause (clause_linked places row)) (λ row. roll-Item (item_linked places row))
      (λ row. roll-Term (term_linked places row)) (λ row. roll-BlockRow (block_linked places row))
      (λ row. roll-ForRow (for_linked places row)) (λ row. roll-Lambda (lambda_linked places row))

  abbrev pub linked_term : Term → Term
  linked_term = fold-Term ForClause Item Term BlockRow ForRow Lambda
      (λ row. roll-ForClause (clause_linked places row)) (λ row. roll-Item (item_linked places row))
      (λ row. roll-Term (term_linked places row)) (λ row. roll-BlockRow (block_linked places row))
      (λ row. roll-ForRow (for_linked places row)) (λ row. roll-Lambda (lambda_linked places row))

  abbrev pub linked_block : BlockRow → BlockRow
  linked_block = fold-BlockRow ForClause Item Term BlockRow ForRow Lambda
      (λ row. roll-ForClause (clause_linked places row)) (λ row. roll-Item (item_linked places row))
      (λ row. roll-Term (term_linked places row)) (λ row. roll-BlockRow (block_linked places row))
      (λ row. roll-ForRow (for_linked places row)) (λ row. roll-Lambda (lambda_linked places row))

  abbrev pub linked_for : ForRow → ForRow
  linked_for = fold-ForRow ForClause Item Term BlockRow ForRow Lambda
      (λ row. roll-ForClause (clause_linked places row)) (λ row. roll-Item (item_linked places row))
      (λ row. roll-Term (term_linked places row)) (λ row. roll-BlockRow (block_linked places row))
      (λ row. roll-ForRow (for_linked places row)) (λ row. roll-Lambda (lambda_linked places row))

  abbrev pub linked_lambda : Lambda → Lambda
  linked_lambda = fold-Lambda ForClause Item Term BlockRow ForRow Lambda
      (λ row. roll-ForClause (clause_linked places row)) (λ row. roll-Item (item_linked places row))
      (λ row. roll-Term (term_linked places row)) (λ row. roll-BlockRow (block_linked places row))
      (λ row. roll-ForRow (for_linked places row)) (λ row. roll-Lambda (lambda_linked places row))
