-- The libraries that the code of a library mentions, by their places in its view.
use Rattle.std.specs.Prelude.{◌≡◌, ℕ, List, [], ◌∷◌, ◌++◌, map, flat_map}
use Rattle.std.specs.declared.option.Option.{Option}
use Rattle.std.specs.declared.option.Option.TheVariants.{None, Some}
use Rattle.dy_base.specs.declared.ids.BindingId.{BindingId}
use Rattle.dy_term.specs.declared.types.Member.{Member}
use Rattle.dy_term.specs.declared.types.Member.TheVariants as members
use Rattle.dy_term.specs.declared.types.DyType.{DyType}
use Rattle.dy_term.specs.declared.types.Params.{Params}
use Rattle.dy_term.specs.declared.types.Results.{Results}
use Rattle.dy_term.specs.declared.term.ForClause.{ForClause, ForClause-F, fold-ForClause}
use Rattle.dy_term.specs.declared.term.Item.{Item, Item-F, fold-Item}
use Rattle.dy_term.specs.declared.term.Term.{Term, Term-F, fold-Term}
use Rattle.dy_term.specs.declared.term.BlockRow.{BlockRow, BlockRow-F, fold-BlockRow}
use Rattle.dy_term.specs.declared.term.ForRow.{ForRow, ForRow-F, fold-ForRow}
use Rattle.dy_term.specs.declared.term.Lambda.{Lambda, Lambda-F, fold-Lambda}
use Rattle.dy_term.specs.declared.rows.Init.{Init}
use Rattle.dy_term.specs.declared.rows.Init.TheVariants.{Each, Calling}
use Rattle.dy_term.specs.declared.rows.MethodCode.{MethodCode}
use Rattle.dy_term.specs.declared.rows.MethodCode.TheVariants.{Dylan, Getter, Setter, Builtin}
use Rattle.dy_term.specs.declared.rows.TopTerm.{TopTerm}
use Rattle.dy_term.specs.declared.rows.TopTerm.TheVariants as tops
use Rattle.dy_term.specs.declared.rows.LibraryRow.{LibraryRow}
use Rattle.dy_lowered.specs.Bodies.{all_slots}

abbrev pub in_member : Member → List ℕ
in_member (members.Class class) = class.0.library ∷ []
in_member (members.SingleClass class) = class.0.library ∷ []
in_member member = []

abbrev pub in_type : DyType → List ℕ
in_type type = flat_map in_member type.members

abbrev pub in_held_type : Option DyType → List ℕ
in_held_type None = []
in_held_type (Some type) = in_type type

abbrev pub in_params : Params → List ℕ
in_params params = flat_map in_type params.required

abbrev pub in_results : Results → List ℕ
in_results results = flat_map in_type results.required ++ in_held_type results.rest

abbrev pub in_all : List (List ℕ) → List ℕ
in_all parts = flat_map (λ part. part) parts

abbrev pub in_held : Option (List ℕ) → List ℕ
in_held None = []
in_held (Some part) = part

abbrev pub in_second : {A : Type 0} → Option (A × List ℕ) → List ℕ
in_second None = []
in_second (Some pair) = pair.1

abbrev pub in_given : Option (List (List ℕ)) → List ℕ
in_given None = []
in_given (Some parts) = in_all parts

-- One layer of a term, where each part is what it mentions itself.
abbrev pub clause_mentions : ForClause-F (List ℕ) (List ℕ) (List ℕ) (List ℕ) (List ℕ) (List ℕ)
    → List ℕ
clause_mentions (ForClause-F.Then local type start next) = in_type type ++ (start ++ next)
clause_mentions (ForClause-F.In local type collection) = in_type type ++ collection
clause_mentions (ForClause-F.From local type start limit step) =
    in_type type ++ (start ++ (in_second limit ++ in_held step))

abbrev pub item_mentions : Item-F (List ℕ) (List ℕ) (List ℕ) (List ℕ) (List ℕ) (List ℕ) → List ℕ
item_mentions (Item-F.Run term) = term
item_mentions (Item-F.Let locals rest term) = flat_map (λ local. in_type local.1) locals ++ term
item_mentions (Item-F.LetMethods methods) = flat_map (λ method. method.1) methods
item_mentions (Item-F.Handler type function) = in_type type ++ function

abbrev pub term_mentions : Term-F (List ℕ) (List ℕ) (List ℕ) (List ℕ) (List ℕ) (List ℕ) → List ℕ
term_mentions (Term-F.Lit value) = []
term_mentions (Term-F.Local local) = []
term_mentions (Term-F.Global binding) = binding.at.library ∷ []
term_mentions (Term-F.ClassName class) = class.0.library ∷ []
term_mentions (Term-F.GenericName generic) = generic.0.library ∷ []
term_mentions (Term-F.SetLocal local term) = term
term_mentions (Term-F.SetGlobal binding term) = binding.at.library ∷ term
term_mentions (Term-F.Call function terms) = function ++ in_all terms
term_mentions (Term-F.Site generic terms) = generic.0.library ∷ in_all terms
term_mentions (Term-F.Cond branches other) =
    flat_map (λ branch. branch.0 ++ branch.1) branches ++ other
term_mentions (Term-F.And left right) = left ++ right
term_mentions (Term-F.Or left right) = left ++ right
term_mentions (Term-F.Select value test arms last) =
    value ++ (in_held test ++ (flat_map (λ arm. in_all arm.0 ++ arm.1) arms ++ in_held last))
term_mentions (Term-F.Body items) = in_all items
term_mentions (Term-F.Loop test inner) = test ++ inner
term_mentions (Term-F.For row) = row
term_mentions (Term-F.Method lambda) = lambda
term_mentions (Term-F.Block row) = row
term_mentions (Term-F.Op operation terms) = in_all terms
term_mentions (Term-F.Next terms) = in_given terms

abbrev pub block_mentions : BlockRow-F (List ℕ) (List ℕ) (List ℕ) (List ℕ) (List ℕ) (List ℕ)
    → List ℕ
block_mentions row =
    row.body ++ (in_held row.afterwards ++ (in_held row.cleanup
    ++ flat_map (λ clause. in_type clause.1 ++ clause.2) row.clauses))

abbrev pub for_mentions : ForRow-F (List ℕ) (List ℕ) (List ℕ) (List ℕ) (List ℕ) (List ℕ) → List ℕ
for_mentions row = in_all row.clauses ++ (in_second row.test ++ (row.body ++ in_held row.finally))

abbrev pub lambda_mentions : Lambda-F (List ℕ) (List ℕ) (List ℕ) (List ℕ) (List ℕ) (List ℕ)
    → List ℕ
lambda_mentions row =
    in_params row.params ++ (flat_map (λ keyword. in_type keyword.0 ++ keyword.1) row.keywords
    ++ (row.body ++ in_results row.results))

-- what terms and lambdas mention
abbrev pub in_term : Term → List ℕ
in_term = fold-Term (List ℕ) (List ℕ) (List ℕ) (List ℕ) (List ℕ) (List ℕ) clause_mentions
    item_mentions term_mentions block_mentions for_mentions lambda_mentions

abbrev pub in_lambda : Lambda → List ℕ
in_lambda = fold-Lambda (List ℕ) (List ℕ) (List ℕ) (List ℕ) (List ℕ) (List ℕ) clause_mentions
    item_mentions term_mentions block_mentions for_mentions lambda_mentions

abbrev pub in_init : Option Init → List ℕ
in_init None = []
in_init (Some (Each term)) = in_term term
in_init (Some (Calling term)) = in_term term

abbrev pub in_code : MethodCode → List ℕ
in_code (Dylan lambda) = in_lambda lambda
in_code (Getter class slot) = class.0.library ∷ []
in_code (Setter class slot) = class.0.library ∷ []
in_code (Builtin operation) = []

abbrev pub in_function : Option Lambda → List ℕ
in_function None = []
in_function (Some lambda) = in_lambda lambda

abbrev pub in_form : TopTerm → List ℕ
in_form (tops.Init bindings term) = map (λ binding. binding.at.library) bindings ++ in_term term
in_form (tops.Run term) = in_term term

-- what the methods, the functions, the init expressions and the forms of a library mention
abbrev pub mentioned : LibraryRow → List ℕ
mentioned library =
    flat_map (λ method. in_code method.code) library.methods
    ++ (flat_map (λ variable. in_function variable.function) library.variables
    ++ (flat_map (λ slot. in_init slot.init) (all_slots library)
    ++ flat_map in_form library.tops))
