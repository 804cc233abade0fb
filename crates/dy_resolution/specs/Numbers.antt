-- The numbers of the locals of a term: where they are bound.
use Rattle.std.specs.Prelude.{◌≡◌, ℕ, zero, suc, ◌+◌, Bool, List, [], ◌∷◌, ◌++◌, map, length}
use Rattle.std.specs.Prelude.{Option, Some, None, if◌then◌else◌}
use Rattle.dy_term.specs.declared.types.DyType.{DyType}
use Rattle.dy_term.specs.declared.types.Params.{Params}
use Rattle.dy_term.specs.declared.term.ForClause.{ForClause, ForClause-F, fold-ForClause}
use Rattle.dy_term.specs.declared.term.Item.{Item, Item-F, fold-Item}
use Rattle.dy_term.specs.declared.term.Term.{Term, Term-F, fold-Term}
use Rattle.dy_term.specs.declared.term.BlockRow.{BlockRow, BlockRow-F, fold-BlockRow}
use Rattle.dy_term.specs.declared.term.ForRow.{ForRow, ForRow-F, fold-ForRow}
use Rattle.dy_term.specs.declared.term.Lambda.{Lambda, Lambda-F, fold-Lambda}
use Rattle.dy_term.specs.Drafts.{Core, CoreLambda}
use Rattle.dy_names.specs.declared.denotation.Denotation.{Denotation}
use Rattle.dy_names.specs.Naming.{Locals}
use Rattle.dy_names.specs.Outside.{Outside}
use Rattle.dy_binding.specs.Reads.{none}
use Rattle.dy_resolution.specs.Terms.{core_term, core_lambda}

-- a lambda: its numbers, and the locals that are bound in it
pub record Frame : Type 0 where
  pub first : ℕ
  pub end : ℕ
  pub bound : List ℕ

-- the numbers of bound locals in order, and the lambdas
pub record Uses : Type 0 where
  pub bound : List ℕ
  pub frames : List Frame

abbrev pub no_uses : Uses
no_uses = record { bound = []; frames = [] }

abbrev pub both : Uses → Uses → Uses
both a b = record { bound = a.bound ++ b.bound; frames = a.frames ++ b.frames }

abbrev pub all : List Uses → Uses
all [] = no_uses
all (u ∷ us) = both u (all us)

abbrev pub some_uses : Option Uses → Uses
some_uses None = no_uses
some_uses (Some u) = u

abbrev pub all_branches : List (Uses × Uses) → Uses
all_branches [] = no_uses
all_branches (b ∷ bs) = both b.0 (both b.1 (all_branches bs))

abbrev pub all_arms : List (List Uses × Uses) → Uses
all_arms [] = no_uses
all_arms (a ∷ others) = both (all a.0) (both a.1 (all_arms others))

abbrev pub all_behind : {A : Type 0} → List (A × Uses) → Uses
all_behind [] = no_uses
all_behind (d ∷ ds) = both d.1 (all_behind ds)

abbrev pub some_behind : {A : Type 0} → Option (A × Uses) → Uses
some_behind None = no_uses
some_behind (Some d) = d.1

abbrev pub all_catches : List (Option ℕ × DyType × Uses) → Uses
all_catches [] = no_uses
all_catches (c ∷ cs) = both c.2 (all_catches cs)

abbrev pub given_uses : Option (List Uses) → Uses
given_uses None = no_uses
given_uses (Some us) = all us

abbrev pub binds : List ℕ → Uses
binds numbers = record { bound = numbers; frames = [] }

abbrev pub listed : Option ℕ → List ℕ
listed None = []
listed (Some n) = n ∷ []

-- the variables of `exception` clauses
abbrev pub catch_numbers : {A B : Type 0} → List (Option ℕ × A × B) → List ℕ
catch_numbers [] = []
catch_numbers (c ∷ cs) = listed c.0 ++ catch_numbers cs

-- uses inside of a lambda
abbrev pub framed : ℕ → ℕ → Uses → Uses
framed first end u = record u
    { frames = record { first = first; end = end; bound = u.bound } ∷ u.frames }

-- so many numbers from one on
abbrev pub numbers_from : ℕ → ℕ → List ℕ
numbers_from first zero = []
numbers_from first (suc count) = first ∷ numbers_from (first + 1) count

abbrev pub key_count : {A : Type 0} → Option (List A) → ℕ
key_count None = 0
key_count (Some keys) = length keys

abbrev pub rest_count : Bool → ℕ
rest_count takes_rest = if takes_rest then 1 else 0

-- how many locals parameters are
abbrev pub width : Params → ℕ
width params = length params.required + rest_count params.rest + key_count params.keys

-- a clause: its variable, its first expressions and the other one
abbrev pub ClauseUses : Type 0
ClauseUses = ℕ × Uses × Uses

abbrev pub clause_uses : ForClause-F ClauseUses Uses Uses Uses Uses Uses → ClauseUses
clause_uses (ForClause-F.Then number declared first next) = (number, first, next)
clause_uses (ForClause-F.In number declared collection) = (number, collection, no_uses)
clause_uses (ForClause-F.From number declared start limit step) =
    (number, both start (both (some_behind limit) (some_uses step)), no_uses)

abbrev pub item_uses : Item-F ClauseUses Uses Uses Uses Uses Uses → Uses
item_uses (Item-F.Run term) = term
item_uses (Item-F.Let numbers rest term) = both (binds (map (λ t. t.0) numbers ++ listed rest)) term
item_uses (Item-F.LetMethods methods) = both (binds (map (λ m. m.0) methods)) (all_behind methods)
item_uses (Item-F.Handler condition function) = function

abbrev pub term_uses : Term-F ClauseUses Uses Uses Uses Uses Uses → Uses
term_uses (Term-F.Lit value) = no_uses
term_uses (Term-F.Local number) = no_uses
term_uses (Term-F.Global binding) = no_uses
term_uses (Term-F.ClassName class) = no_uses
term_uses (Term-F.GenericName generic) = no_uses
term_uses (Term-F.SetLocal number value) = value
term_uses (Term-F.SetGlobal binding value) = value
term_uses (Term-F.Call function arguments) = both function (all arguments)
term_uses (Term-F.Site generic arguments) = all arguments
term_uses (Term-F.Cond branches last) = both (all_branches branches) last
term_uses (Term-F.And left right) = both left right
term_uses (Term-F.Or left right) = both left right
term_uses (Term-F.Select value test arms last) =
    both value (both (some_uses test) (both (all_arms arms) (some_uses last)))
term_uses (Term-F.Body items) = all items
term_uses (Term-F.Loop test body) = both test body
term_uses (Term-F.For row) = row
term_uses (Term-F.Method lambda) = lambda
term_uses (Term-F.Block row) = row
term_uses (Term-F.Op operation arguments) = all arguments
term_uses (Term-F.Next arguments) = given_uses arguments

abbrev pub block_uses : BlockRow-F ClauseUses Uses Uses Uses Uses Uses → Uses
block_uses row =
    both (binds (listed row.exit ++ catch_numbers row.clauses))
    (both row.body (both (some_uses row.afterwards)
    (both (some_uses row.cleanup) (all_catches row.clauses))))

abbrev pub for_uses : ForRow-F ClauseUses Uses Uses Uses Uses Uses → Uses
for_uses row =
    both (binds (map (λ c. c.0) row.clauses))
    (both (all (map (λ c. c.1) row.clauses))
    (both (all (map (λ c. c.2) row.clauses))
    (both (some_behind row.test) (both row.body (some_uses row.finally)))))

abbrev pub lambda_uses : Lambda-F ClauseUses Uses Uses Uses Uses Uses → Uses
lambda_uses lambda = framed lambda.first lambda.locals
    (both (binds (numbers_from lambda.first (width lambda.params)))
    (both (all_behind lambda.keywords) lambda.body))

abbrev pub uses_of_clause : ForClause → ClauseUses
uses_of_clause = fold-ForClause ClauseUses Uses Uses Uses Uses Uses clause_uses item_uses term_uses
    block_uses for_uses lambda_uses

abbrev pub uses_of_item : Item → Uses
uses_of_item = fold-Item ClauseUses Uses Uses Uses Uses Uses clause_uses item_uses term_uses
    block_uses for_uses lambda_uses

abbrev pub uses_of_term : Term → Uses
uses_of_term = fold-Term ClauseUses Uses Uses Uses Uses Uses clause_uses item_uses term_uses
    block_uses for_uses lambda_uses

abbrev pub uses_of_block : BlockRow → Uses
uses_of_block = fold-BlockRow ClauseUses Uses Uses Uses Uses Uses clause_uses item_uses term_uses
    block_uses for_uses lambda_uses

abbrev pub uses_of_for : ForRow → Uses
uses_of_for = fold-ForRow ClauseUses Uses Uses Uses Uses Uses clause_uses item_uses term_uses
    block_uses for_uses lambda_uses

abbrev pub uses_of_lambda : Lambda → Uses
uses_of_lambda = fold-Lambda ClauseUses Uses Uses Uses Uses Uses clause_uses item_uses term_uses
    block_uses for_uses lambda_uses

-- they are all the numbers from one to below another, each once, in order
abbrev pub IsRun : ℕ → ℕ → List ℕ → Type 0
IsRun first end [] = first ≡ end
IsRun first end (number ∷ numbers) = (number ≡ first) × IsRun (first + 1) end numbers

-- what each lambda binds are all the numbers from its `first` to below its `locals`
abbrev pub AreFramed : List Frame → Type 0
AreFramed [] = Unit {0}
AreFramed (frame ∷ frames) = IsRun frame.first frame.end frame.bound × AreFramed frames

abbrev pub AreNumbered : Outside → Core → Type 0
AreNumbered out draft =
    let read = core_term out draft [] none in
    let uses = uses_of_term read.0 in
    IsRun 0 read.1.next uses.bound × AreFramed uses.frames

abbrev pub IsNumberedLambda : Outside → CoreLambda → Denotation → Locals → Type 0
IsNumberedLambda out draft denotation locals =
    let read = core_lambda out draft denotation locals none in
    let uses = uses_of_lambda read.0 in
    IsRun 0 read.1.next uses.bound × AreFramed uses.frames
