-- Names that join others.
use Rattle.std.proofs.Common.{◌≡◌, ℕ, ◌+◌, ◌<◌, Bool, true, false, ◌||◌, if◌then◌else◌, List, []}
use Rattle.std.proofs.Common.{◌∷◌, ◌++◌, length, drop, get_or}
use Rattle.std.proofs.Common.{Option, Some, None, refl, sym, ap, subst, ◌∙◌}
use Rattle.std.specs.Str.{bytes_eq}
use Rattle.std.specs.Cmp.Lexicographic.{bytes_decides}
use Rattle.std.proofs.lemmas.List.{drop_more}
use Rattle.std.proofs.lemmas.List.Folds.{list_any-append}
use Rattle.dy_base.specs.declared.exports.Exports.{Exports}
use Rattle.dy_module_forms.specs.declared.written.Placed.{Placed}
use Rattle.dy_modules.specs.Clauses.{Name, is_one_of}
use Rattle.dy_module_numbers.specs.Options.{with_name, with_names}
use Rattle.dy_doubled.specs.Doubled.{with_first, with_new, imported_by, imported}

pub with_both : (set first rest : List Name)
    → with_names set (first ++ rest) ≡ with_names (with_names set first) rest
with_both set [] rest = refl
with_both set (name ∷ first) rest = with_both (with_name set name) first rest

pub with_one : (set : List Name) (name : Option Name) (names : List Name)
    → with_names set (with_first name names) ≡ with_names (with_new set name) names
with_one set None names = refl
with_one set (Some name) names = refl

-- the names of one more clause
pub imports_next : (used : List Exports) (set : List Name) (clauses : List Placed) (i : ℕ)
    (clause : Placed) → i < length clauses → clause ≡ get_or clauses i clause → (new : List Name)
    → new ≡ with_names set (imported_by used clause.clause)
    → with_names set (imported used (drop i clauses))
    ≡ with_names new (imported used (drop (i + 1) clauses))
imports_next used set clauses i clause l e new is =
    let rest = drop (i + 1) clauses in
    ap (λ cs. with_names set (imported used cs))
    (drop_more clauses i clause l ∙ ap (λ (c : Placed). c ∷ rest) (sym e))
    ∙ with_both set (imported_by used clause.clause) (imported used rest)
    ∙ ap (λ s. with_names s (imported used rest)) (sym is)

pub or_false : (b : Bool) → (b || false) ≡ b
or_false true = refl
or_false false = refl

pub or_assoc : (a b c : Bool) → ((a || b) || c) ≡ (a || (b || c))
or_assoc true b c = refl
or_assoc false b c = refl

-- a set after one more name
pub has_name : (set : List Name) (name n : Name)
    → is_one_of (with_name set name) n ≡ (is_one_of set n || bytes_eq n name)
has_name set name n = by_test (is_one_of set name) refl
  where
    by_same : is_one_of set name ≡ true → (same : Bool) → bytes_eq n name ≡ same
        → is_one_of set n ≡ (is_one_of set n || same)
    by_same e false f = sym (or_false (is_one_of set n))
    by_same e true f =
        let here = subst (λ (x : Name). is_one_of set x ≡ true)
        (sym ((bytes_decides n name).0 f)) e in
        here ∙ sym (ap (λ b. b || true) here)

    by_test : (b : Bool) → is_one_of set name ≡ b
        → is_one_of (if b then set else set ++ name ∷ []) n ≡ (is_one_of set n || bytes_eq n name)
    by_test true e = by_same e (bytes_eq n name) refl
    by_test false e =
        list_any-append (bytes_eq n) set (name ∷ [])
        ∙ ap (λ b. is_one_of set n || b) (or_false (bytes_eq n name))

-- a set after more names
pub has_names : (set names : List Name) (n : Name)
    → is_one_of (with_names set names) n ≡ (is_one_of set n || is_one_of names n)
has_names set [] n = sym (or_false (is_one_of set n))
has_names set (name ∷ names) n =
    has_names (with_name set name) names n ∙ ap (λ b. b || is_one_of names n) (has_name set name n)
    ∙ or_assoc (is_one_of set n) (bytes_eq n name) (is_one_of names n)
