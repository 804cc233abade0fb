-- Terms and rows of several parts as what these are.
use Rattle.std.proofs.Common.{◌≡◌, ℕ, Bool, ◌&&◌, List, [], ◌∷◌, map, Option, Some, None, refl, sym, ap, ◌∙◌}
use Rattle.std.specs.Option.{option_map}
use Rattle.dy_term.specs.declared.types.DyType.{DyType}
use Rattle.dy_term.specs.declared.term.ForClause.{ForClause, ForClause-F, roll-ForClause, map-ForClause, fold-roll-ForClause}
use Rattle.dy_term.specs.declared.term.Item.{Item, Item-F, roll-Item, map-Item, fold-roll-Item, LetMethods}
use Rattle.dy_term.specs.declared.term.Item.TheVariants.{rolls-LetMethods}
use Rattle.dy_term.specs.declared.term.Term.{Term, Term-F, roll-Term, map-Term, fold-roll-Term, Cond, Select}
use Rattle.dy_term.specs.declared.term.Term.TheVariants.{rolls-Cond, rolls-Select}
use Rattle.dy_term.specs.declared.term.BlockRow.{BlockRow}
use Rattle.dy_term.specs.declared.term.ForRow.{ForRow, ForRow-F, roll-ForRow, map-ForRow, fold-roll-ForRow}
use Rattle.dy_term.specs.declared.term.Lambda.{Lambda, Lambda-F, roll-Lambda, out-Lambda, roll-out-Lambda, map-Lambda, fold-roll-Lambda}
use Rattle.dy_lowered.specs.Readiness.{all_ready, held_ready}
use Rattle.dy_lowering_law.specs.Ready.{is_empty}
use Rattle.dy_lower_kinds.specs.Kinds.{clause_kind, item_kind, term_kind, for_kind, lambda_kind, has_code, clause_has_code, item_has_code, block_has_code, for_has_code, lambda_has_code}

abbrev pub term_layer : Term-F ForClause Item Term BlockRow ForRow Lambda → Bool
term_layer x = term_kind (map-Term _ _ _ _ _ _ _ _ _ _ _ _ clause_has_code item_has_code has_code block_has_code for_has_code lambda_has_code x)

abbrev pub item_layer : Item-F ForClause Item Term BlockRow ForRow Lambda → Bool
item_layer x = item_kind (map-Item _ _ _ _ _ _ _ _ _ _ _ _ clause_has_code item_has_code has_code block_has_code for_has_code lambda_has_code x)

abbrev pub clause_layer : ForClause-F ForClause Item Term BlockRow ForRow Lambda → Bool
clause_layer x = clause_kind (map-ForClause _ _ _ _ _ _ _ _ _ _ _ _ clause_has_code item_has_code has_code block_has_code for_has_code lambda_has_code x)

abbrev pub for_layer : ForRow-F ForClause Item Term BlockRow ForRow Lambda → Bool
for_layer x = for_kind (map-ForRow _ _ _ _ _ _ _ _ _ _ _ _ clause_has_code item_has_code has_code block_has_code for_has_code lambda_has_code x)

abbrev pub lambda_layer : Lambda-F ForClause Item Term BlockRow ForRow Lambda → Bool
lambda_layer x = lambda_kind (map-Lambda _ _ _ _ _ _ _ _ _ _ _ _ clause_has_code item_has_code has_code block_has_code for_has_code lambda_has_code x)

pub term_is : (x : Term-F ForClause Item Term BlockRow ForRow Lambda) → has_code (roll-Term x) ≡ term_layer x
term_is = fold-roll-Term _ _ _ _ _ _ _ _ _ _ _ _

pub item_is : (x : Item-F ForClause Item Term BlockRow ForRow Lambda) → item_has_code (roll-Item x) ≡ item_layer x
item_is = fold-roll-Item _ _ _ _ _ _ _ _ _ _ _ _

pub clause_is : (x : ForClause-F ForClause Item Term BlockRow ForRow Lambda) → clause_has_code (roll-ForClause x) ≡ clause_layer x
clause_is = fold-roll-ForClause _ _ _ _ _ _ _ _ _ _ _ _

pub for_is : (x : ForRow-F ForClause Item Term BlockRow ForRow Lambda) → for_has_code (roll-ForRow x) ≡ for_layer x
for_is = fold-roll-ForRow _ _ _ _ _ _ _ _ _ _ _ _

pub lambda_is : (x : Lambda-F ForClause Item Term BlockRow ForRow Lambda) → lambda_has_code (roll-Lambda x) ≡ lambda_layer x
lambda_is = fold-roll-Lambda _ _ _ _ _ _ _ _ _ _ _ _

twice : {A B : Type 0} (f : B → Bool) (g : A → B) (xs : List A) → all_ready (map f (map g xs)) ≡ all_ready (map (λ x. f (g x)) xs)
twice f g [] = refl
twice f g (x ∷ xs) = ap (λ (n : Bool). f (g x) && n) (twice f g xs)

abbrev of_branches : List (Term × Term) → Bool
of_branches bs = all_ready (map (λ (b : Term × Term). has_code b.0 && has_code b.1) bs)

branches_same : (bs : List (Term × Term)) → all_ready (map (λ (b : Bool × Bool). b.0 && b.1) (map {B = Bool × Bool} (λ (b : Term × Term). (has_code b.0, has_code b.1)) bs)) ≡ of_branches bs
branches_same bs = twice (λ (b : Bool × Bool). b.0 && b.1) (λ (b : Term × Term). (has_code b.0, has_code b.1)) bs

pub kind_cond : (bs : List (Term × Term)) (l : Term) → has_code (Cond bs l) ≡ (of_branches bs && has_code l)
kind_cond bs l =
    ap has_code (sym (rolls-Cond bs l)) ∙ term_is (Term-F.Cond bs l) ∙ ap (λ (n : Bool). n && has_code l) (branches_same bs)

abbrev of_arms : List (List Term × Term) → Bool
of_arms arms = all_ready (map (λ (a : List Term × Term). all_ready (map has_code a.0) && has_code a.1) arms)

arms_same : (arms : List (List Term × Term))
    → all_ready (map (λ (a : List Bool × Bool). all_ready a.0 && a.1) (map {B = List Bool × Bool} (λ (a : List Term × Term). (map has_code a.0, has_code a.1)) arms)) ≡ of_arms arms
arms_same arms = twice (λ (a : List Bool × Bool). all_ready a.0 && a.1) (λ (a : List Term × Term). (map has_code a.0, has_code a.1)) arms

abbrev of_option : Option Term → Bool
of_option t = held_ready (option_map has_code t)

pub kind_select : (v : Term) (t : Option Term) (arms : List (List Term × Term)) (l : Option Term)
    → has_code (Select v t arms l) ≡ (has_code v && (of_option t && (of_arms arms && of_option l)))
kind_select v None arms None =
    ap has_code (sym (rolls-Select v None arms None)) ∙ term_is (Term-F.Select v None arms None)
    ∙ ap (λ (n : Bool). has_code v && (of_option None && (n && of_option None))) (arms_same arms)
kind_select v None arms (Some l) =
    ap has_code (sym (rolls-Select v None arms (Some l))) ∙ term_is (Term-F.Select v None arms (Some l))
    ∙ ap (λ (n : Bool). has_code v && (of_option None && (n && of_option (Some l)))) (arms_same arms)
kind_select v (Some t) arms None =
    ap has_code (sym (rolls-Select v (Some t) arms None)) ∙ term_is (Term-F.Select v (Some t) arms None)
    ∙ ap (λ (n : Bool). has_code v && (of_option (Some t) && (n && of_option None))) (arms_same arms)
kind_select v (Some t) arms (Some l) =
    ap has_code (sym (rolls-Select v (Some t) arms (Some l))) ∙ term_is (Term-F.Select v (Some t) arms (Some l))
    ∙ ap (λ (n : Bool). has_code v && (of_option (Some t) && (n && of_option (Some l)))) (arms_same arms)

pub kind_methods : (ms : List (ℕ × Lambda)) → item_has_code (LetMethods ms) ≡ all_ready (map (λ (m : ℕ × Lambda). lambda_has_code m.1) ms)
kind_methods ms =
    ap item_has_code (sym (rolls-LetMethods ms)) ∙ item_is (Item-F.LetMethods ms)
    ∙ twice (λ (m : ℕ × Bool). m.1) (λ (m : ℕ × Lambda). (m.0, lambda_has_code m.1)) ms

-- a lambda, by whether it has keywords
same_empty : (ks : List (DyType × Term)) → is_empty {A = DyType × Bool} (map (λ (k : DyType × Term). (k.0, has_code k.1)) ks) ≡ is_empty ks
same_empty [] = refl
same_empty (k ∷ ks) = refl

pub kind_lambda : (k : Lambda) → lambda_has_code k ≡ (is_empty (out-Lambda k).keywords && has_code (out-Lambda k).body)
kind_lambda k =
    let row = out-Lambda k in
    ap lambda_has_code (sym (roll-out-Lambda k)) ∙ lambda_is row ∙ ap (λ (b : Bool). b && has_code row.body) (same_empty row.keywords)
