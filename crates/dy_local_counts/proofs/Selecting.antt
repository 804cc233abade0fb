-- Terms and rows of several parts as what these have.
use Rattle.std.proofs.Common.{◌≡◌, ℕ, ◌+◌, max, List, [], ◌∷◌, map, Option, Some, None, refl, sym, ap, ◌∙◌}
use Rattle.std.specs.Option.{option_map}
use Rattle.dy_term.specs.declared.types.DyType.{DyType}
use Rattle.dy_term.specs.declared.term.ForClause.{ForClause}
use Rattle.dy_term.specs.declared.term.Item.{Item, Item-F, roll-Item, map-Item, fold-roll-Item, LetMethods}
use Rattle.dy_term.specs.declared.term.Item.TheVariants.{rolls-LetMethods}
use Rattle.dy_term.specs.declared.term.Term.{Term, Term-F, roll-Term, map-Term, fold-roll-Term, Cond, Select}
use Rattle.dy_term.specs.declared.term.Term.TheVariants.{rolls-Cond, rolls-Select}
use Rattle.dy_term.specs.declared.term.BlockRow.{BlockRow, BlockRow-F, roll-BlockRow, map-BlockRow, fold-roll-BlockRow}
use Rattle.dy_term.specs.declared.term.ForRow.{ForRow}
use Rattle.dy_term.specs.declared.term.Lambda.{Lambda}
use Rattle.dy_meaning.specs.Numbers.{greatest, held, behind, item_numbers, term_numbers, block_numbers, numbers_in, numbers_in_clause, numbers_in_item, numbers_in_block, numbers_in_for, numbers_in_lambda}

term_numbered : (x : Term-F ForClause Item Term BlockRow ForRow Lambda)
    → numbers_in (roll-Term x) ≡ term_numbers (map-Term _ _ _ _ _ _ _ _ _ _ _ _ numbers_in_clause numbers_in_item numbers_in numbers_in_block numbers_in_for numbers_in_lambda x)
term_numbered = fold-roll-Term _ _ _ _ _ _ _ _ _ _ _ _

item_numbered : (x : Item-F ForClause Item Term BlockRow ForRow Lambda)
    → numbers_in_item (roll-Item x) ≡ item_numbers (map-Item _ _ _ _ _ _ _ _ _ _ _ _ numbers_in_clause numbers_in_item numbers_in numbers_in_block numbers_in_for numbers_in_lambda x)
item_numbered = fold-roll-Item _ _ _ _ _ _ _ _ _ _ _ _

block_numbered : (x : BlockRow-F ForClause Item Term BlockRow ForRow Lambda)
    → numbers_in_block (roll-BlockRow x) ≡ block_numbers (map-BlockRow _ _ _ _ _ _ _ _ _ _ _ _ numbers_in_clause numbers_in_item numbers_in numbers_in_block numbers_in_for numbers_in_lambda x)
block_numbered = fold-roll-BlockRow _ _ _ _ _ _ _ _ _ _ _ _

twice : {A B : Type 0} (f : B → ℕ) (g : A → B) (xs : List A) → greatest (map f (map g xs)) ≡ greatest (map (λ x. f (g x)) xs)
twice f g [] = refl
twice f g (x ∷ xs) = ap (λ (n : ℕ). max (f (g x)) n) (twice f g xs)

abbrev of_branches : List (Term × Term) → ℕ
of_branches bs = greatest (map (λ (b : Term × Term). max (numbers_in b.0) (numbers_in b.1)) bs)

branches_same : (bs : List (Term × Term)) → greatest (map (λ (b : ℕ × ℕ). max b.0 b.1) (map {B = ℕ × ℕ} (λ (b : Term × Term). (numbers_in b.0, numbers_in b.1)) bs)) ≡ of_branches bs
branches_same bs = twice (λ (b : ℕ × ℕ). max b.0 b.1) (λ (b : Term × Term). (numbers_in b.0, numbers_in b.1)) bs

pub numbers_cond : (bs : List (Term × Term)) (l : Term) → numbers_in (Cond bs l) ≡ max (of_branches bs) (numbers_in l)
numbers_cond bs l =
    ap numbers_in (sym (rolls-Cond bs l)) ∙ term_numbered (Term-F.Cond bs l) ∙ ap (λ (n : ℕ). max n (numbers_in l)) (branches_same bs)

abbrev of_arms : List (List Term × Term) → ℕ
of_arms arms = greatest (map (λ (a : List Term × Term). max (greatest (map numbers_in a.0)) (numbers_in a.1)) arms)

arms_same : (arms : List (List Term × Term))
    → greatest (map (λ (a : List ℕ × ℕ). max (greatest a.0) a.1) (map {B = List ℕ × ℕ} (λ (a : List Term × Term). (map numbers_in a.0, numbers_in a.1)) arms)) ≡ of_arms arms
arms_same arms = twice (λ (a : List ℕ × ℕ). max (greatest a.0) a.1) (λ (a : List Term × Term). (map numbers_in a.0, numbers_in a.1)) arms

abbrev of_option : Option Term → ℕ
of_option t = held (option_map numbers_in t)

pub numbers_select : (v : Term) (t : Option Term) (arms : List (List Term × Term)) (l : Option Term)
    → numbers_in (Select v t arms l) ≡ max (numbers_in v) (max (of_option t) (max (of_arms arms) (of_option l)))
numbers_select v None arms None =
    ap numbers_in (sym (rolls-Select v None arms None)) ∙ term_numbered (Term-F.Select v None arms None)
    ∙ ap (λ (n : ℕ). max (numbers_in v) (max (of_option None) (max n (of_option None)))) (arms_same arms)
numbers_select v None arms (Some l) =
    ap numbers_in (sym (rolls-Select v None arms (Some l))) ∙ term_numbered (Term-F.Select v None arms (Some l))
    ∙ ap (λ (n : ℕ). max (numbers_in v) (max (of_option None) (max n (of_option (Some l))))) (arms_same arms)
numbers_select v (Some t) arms None =
    ap numbers_in (sym (rolls-Select v (Some t) arms None)) ∙ term_numbered (Term-F.Select v (Some t) arms None)
    ∙ ap (λ (n : ℕ). max (numbers_in v) (max (of_option (Some t)) (max n (of_option None)))) (arms_same arms)
numbers_select v (Some t) arms (Some l) =
    ap numbers_in (sym (rolls-Select v (Some t) arms (Some l))) ∙ term_numbered (Term-F.Select v (Some t) arms (Some l))
    ∙ ap (λ (n : ℕ). max (numbers_in v) (max (of_option (Some t)) (max n (of_option (Some l))))) (arms_same arms)

pub numbers_methods : (ms : List (ℕ × Lambda)) → numbers_in_item (LetMethods ms) ≡ greatest (map (λ (m : ℕ × Lambda). max (m.0 + 1) (numbers_in_lambda m.1)) ms)
numbers_methods ms =
    ap numbers_in_item (sym (rolls-LetMethods ms)) ∙ item_numbered (Item-F.LetMethods ms)
    ∙ twice (λ (m : ℕ × ℕ). max (m.0 + 1) m.1) (λ (m : ℕ × Lambda). (m.0, numbers_in_lambda m.1)) ms

abbrev of_clauses : List (Option ℕ × DyType × Term) → ℕ
of_clauses cs = greatest (map (λ (k : Option ℕ × DyType × Term). max (behind k.0) (numbers_in k.2)) cs)

clauses_same : (cs : List (Option ℕ × DyType × Term))
    → greatest (map (λ (k : Option ℕ × DyType × ℕ). max (behind k.0) k.2) (map {B = Option ℕ × DyType × ℕ} (λ (k : Option ℕ × DyType × Term). (k.0, k.1, numbers_in k.2)) cs)) ≡ of_clauses cs
clauses_same cs = twice (λ (k : Option ℕ × DyType × ℕ). max (behind k.0) k.2) (λ (k : Option ℕ × DyType × Term). (k.0, k.1, numbers_in k.2)) cs

abbrev of_block : Option ℕ → Term → Option Term → Option Term → ℕ → ℕ
of_block exit body a c n = max (behind exit) (max (numbers_in body) (max (of_option a) (max (of_option c) n)))

pub numbers_block : (exit : Option ℕ) (body : Term) (a c : Option Term) (cs : List (Option ℕ × DyType × Term))
    → numbers_in_block (roll-BlockRow (record { exit = exit; body = body; afterwards = a; cleanup = c; clauses = cs })) ≡ of_block exit body a c (of_clauses cs)
numbers_block exit body None None cs =
    block_numbered (record { exit = exit; body = body; afterwards = None; cleanup = None; clauses = cs }) ∙ ap (of_block exit body None None) (clauses_same cs)
numbers_block exit body None (Some c) cs =
    block_numbered (record { exit = exit; body = body; afterwards = None; cleanup = Some c; clauses = cs }) ∙ ap (of_block exit body None (Some c)) (clauses_same cs)
numbers_block exit body (Some a) None cs =
    block_numbered (record { exit = exit; body = body; afterwards = Some a; cleanup = None; clauses = cs }) ∙ ap (of_block exit body (Some a) None) (clauses_same cs)
numbers_block exit body (Some a) (Some c) cs =
    block_numbered (record { exit = exit; body = body; afterwards = Some a; cleanup = Some c; clauses = cs }) ∙ ap (of_block exit body (Some a) (Some c)) (clauses_same cs)
