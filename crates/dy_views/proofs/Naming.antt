-- The numbers of the libraries that clauses name.
use Rattle.std.proofs.Common.{◌≡◌, ℕ, ◌+◌, ◌<◌, Bool, true, false, cond, eqb, List, [], ◌∷◌, ◌++◌, fold, length, get_or, drop, Option, Some, None, All, refl, sym, ap, ◌∙◌, arith}
use Rattle.std.specs.List.{list_any, filter_map, cons_option, IsDistinct, AllByRecursion}
use Rattle.std.proofs.lemmas.Bool.{or_parts}
use Rattle.std.proofs.lemmas.List.{drop_more}
use Rattle.std.proofs.lemmas.List.Elements.{All-push}
use Rattle.std.proofs.lemmas.Iterator.Adapters.{position_from-zero}
use Rattle.dy_base.specs.declared.exports.Exports.{Exports}
use Rattle.dy_module_forms.specs.declared.written.Placed.{Placed}
use Rattle.dy_views.specs.Views.{Name, is_library, number_of, used_by_clause, used_names, with_number, with_numbers, no_exports}
use Rattle.dy_views.specs.Laws.{UsedAreOnce}
use Rattle.dy_views.proofs.Finding.{found}

pub number_there : (compiled : List Exports) (name : Name) (k : ℕ) → number_of compiled name ≡ Some k → k < length compiled
number_there compiled name k e = (found (is_library name) no_exports k compiled (sym (position_from-zero (is_library name) compiled) ∙ e)).0

-- ---- turn by turn

both : (compiled : List Exports) (numbers : List ℕ) (first rest : List Name) → with_numbers compiled numbers (first ++ rest) ≡ with_numbers compiled (with_numbers compiled numbers first) rest
both compiled numbers [] rest = refl
both compiled numbers (name ∷ first) rest = go (number_of compiled name) (λ (before : List ℕ). both compiled before first rest)
  where
    go : (o : Option ℕ) → ((before : List ℕ) → with_numbers compiled before (first ++ rest) ≡ with_numbers compiled (with_numbers compiled before first) rest)
        → fold with_number numbers (cons_option o (filter_map (number_of compiled) (first ++ rest))) ≡ with_numbers compiled (fold with_number numbers (cons_option o (filter_map (number_of compiled) first))) rest
    go None more = more numbers
    go (Some number) more = more (with_number numbers number)

-- the numbers of one more clause
pub numbers_next : (compiled : List Exports) (numbers : List ℕ) (clauses : List Placed) (i : ℕ) (clause : Placed) → i < length clauses → clause ≡ get_or clauses i clause → (new : List ℕ)
    → new ≡ with_numbers compiled numbers (used_by_clause clause.clause)
    → with_numbers compiled numbers (used_names (drop i clauses)) ≡ with_numbers compiled new (used_names (drop (i + 1) clauses))
numbers_next compiled numbers clauses i clause l e new is =
    let rest = drop (i + 1) clauses in
    ap (λ (cs : List Placed). with_numbers compiled numbers (used_names cs)) (drop_more clauses i clause l ∙ ap (λ (c : Placed). c ∷ rest) (sym e))
    ∙ both compiled numbers (used_by_clause clause.clause) (used_names rest)
    ∙ ap (λ (before : List ℕ). with_numbers compiled before (used_names rest)) (sym is)

-- ---- what each number that is added keeps, all keep

kept_by_all : (P : List ℕ → Type 0) (ok : ℕ → Type 0) → ((numbers : List ℕ) (number : ℕ) → ok number → P numbers → P (with_number numbers number))
    → (compiled : List Exports) → ((name : Name) (k : ℕ) → number_of compiled name ≡ Some k → ok k) → (numbers : List ℕ) (names : List Name) → P numbers → P (with_numbers compiled numbers names)
kept_by_all P ok one compiled fit numbers [] p = p
kept_by_all P ok one compiled fit numbers (name ∷ names) p = go (number_of compiled name) refl (λ (before : List ℕ). kept_by_all P ok one compiled fit before names)
  where
    go : (o : Option ℕ) → number_of compiled name ≡ o → ((before : List ℕ) → P before → P (with_numbers compiled before names)) → P (fold with_number numbers (cons_option o (filter_map (number_of compiled) names)))
    go None e more = more numbers p
    go (Some k) e more = more (with_number numbers k) (one numbers k (fit name k e) p)

pub numbers_there : (compiled : List Exports) (numbers : List ℕ) (names : List Name) → All (λ number. number < length compiled) numbers → All (λ number. number < length compiled) (with_numbers compiled numbers names)
numbers_there compiled =
    kept_by_all (All (λ number. number < length compiled)) (λ number. number < length compiled)
    (λ numbers number l all. go numbers number l all (list_any (λ other. eqb other number) numbers)) compiled (number_there compiled)
  where
    go : (numbers : List ℕ) (number : ℕ) → number < length compiled → All (λ number. number < length compiled) numbers → (b : Bool)
        → All (λ number. number < length compiled) (cond b numbers (numbers ++ number ∷ []))
    go numbers number l all true = all
    go numbers number l all false = All-push (λ number. number < length compiled) numbers number all l

pub none_there : (count : ℕ) → All (λ number. number < count) []
none_there count k d within = absurd (omega arith)

-- ---- no number stands twice

each_push : (P : ℕ → Type 0) (xs : List ℕ) (y : ℕ) → AllByRecursion P xs → P y → AllByRecursion P (xs ++ y ∷ [])
each_push P [] y all p = (p, tt)
each_push P (x ∷ xs) y (q, all) p = (q, each_push P xs y all p)

distinct_push : (numbers : List ℕ) (number : ℕ) → IsDistinct eqb numbers → list_any (λ other. eqb other number) numbers ≡ false → IsDistinct eqb (numbers ++ number ∷ [])
unfolding IsDistinct
distinct_push [] number d new = (tt, tt)
distinct_push (x ∷ xs) number (apart, d) new =
    let (other, rest) = or_parts (eqb x number) (list_any (λ other. eqb other number) xs) new in
    (each_push (λ y. eqb x y ≡ false) xs number apart other, distinct_push xs number d rest)

none_distinct : IsDistinct eqb []
unfolding IsDistinct
none_distinct = tt

pub used_are_once : UsedAreOnce
used_are_once compiled clauses =
    kept_by_all (IsDistinct eqb) (λ number. Unit {0}) (λ numbers number l d. go numbers number d (list_any (λ other. eqb other number) numbers) refl)
    compiled (λ name k e. tt) [] (used_names clauses) none_distinct
  where
    go : (numbers : List ℕ) (number : ℕ) → IsDistinct eqb numbers → (b : Bool) → list_any (λ other. eqb other number) numbers ≡ b → IsDistinct eqb (cond b numbers (numbers ++ number ∷ []))
    go numbers number d true e = d
    go numbers number d false e = distinct_push numbers number d e
