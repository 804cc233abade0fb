-- Libraries by their names, no two of which are one.
use Rattle.std.proofs.Common.{◌≡◌, ℕ, zero, suc, ◌+◌, ◌<◌, Bool, true, false, true≢false, cond, List, [], ◌∷◌, length, get_or, Option, Some, None, refl, sym, ap, ◌∙◌, arith}
use Rattle.std.specs.List.{IsDistinct, AllByRecursion, position_from}
use Rattle.std.specs.Str.{bytes_eq}
use Rattle.std.proofs.lemmas.Slice.Eq.{bytes_eq-Decides}
use Rattle.std.proofs.lemmas.Iterator.Adapters.{position_from-zero}
use Rattle.dy_base.specs.declared.exports.Exports.{Exports}
use Rattle.dy_views.specs.Views.{Name, is_library, number_of, no_exports}
use Rattle.dy_views.proofs.Finding.{found}
use Rattle.dy_libraries.specs.Commands.{names_of}

-- the name of the library of this number
abbrev pub name_of : List Exports → ℕ → Name
name_of exports number = (get_or exports number no_exports).library

-- ---- the number of a name

each_at : (P : Name → Type 0) (exports : List Exports) (l : ℕ) → AllByRecursion P (names_of exports) → l < length exports → P (name_of exports l)
each_at P [] l all within = absurd (omega arith)
each_at P (x ∷ exports) zero all within = all.0
each_at P (x ∷ exports) (suc l) all within = each_at P exports l all.1 (omega arith)

numbered_from : (from : ℕ) (exports : List Exports) (l : ℕ) → IsDistinct bytes_eq (names_of exports) → l < length exports → position_from (is_library (name_of exports l)) from exports ≡ Some (from + l)
unfolding IsDistinct
numbered_from from [] l apart within = absurd (omega arith)
numbered_from from (x ∷ exports) zero apart within =
    ap (λ (b : Bool). cond b (Some from) (position_from (is_library x.library) (from + 1) exports)) ((bytes_eq-Decides x.library x.library).1 refl)
    ∙ ap Some (omega arith)
numbered_from from (x ∷ exports) (suc l) apart within =
    let inside : l < length exports = omega arith in
    ap (λ (b : Bool). cond b (Some from) (position_from (is_library (name_of exports l)) (from + 1) exports)) (each_at (λ y. bytes_eq x.library y ≡ false) exports l apart.0 inside)
    ∙ numbered_from (from + 1) exports l apart.1 inside ∙ ap Some (omega arith)

pub numbered : (exports : List Exports) (l : ℕ) → IsDistinct bytes_eq (names_of exports) → l < length exports → number_of exports (name_of exports l) ≡ Some l
numbered exports l apart within = position_from-zero (is_library (name_of exports l)) exports ∙ numbered_from 0 exports l apart within ∙ ap Some (omega arith)

pub numbered_so : (exports : List Exports) (name : Name) (l : ℕ) → IsDistinct bytes_eq (names_of exports) → l < length exports → name_of exports l ≡ name → number_of exports name ≡ Some l
numbered_so exports name l apart within is = ap (number_of exports) (sym is) ∙ numbered exports l apart within

-- no two have one name
pub one_number : (exports : List Exports) (l m : ℕ) → IsDistinct bytes_eq (names_of exports) → l < length exports → m < length exports → name_of exports l ≡ name_of exports m → l ≡ m
one_number exports l m apart within inside is =
    let same : ◌≡◌ {A = Option ℕ} (Some l) (Some m) = sym (numbered_so exports (name_of exports m) l apart within is) ∙ numbered exports m apart inside in
    cc

-- what has the number of a name has the name
pub name_found : (exports : List Exports) (name : Name) (l : ℕ) → number_of exports name ≡ Some l → (l < length exports) × (name_of exports l ≡ name)
name_found exports name l e =
    let (within, is) = found (is_library name) no_exports l exports (sym (position_from-zero (is_library name) exports) ∙ e) in
    (within, (bytes_eq-Decides (name_of exports l) name).0 is)

-- ---- where none has a name

pub none_named : (exports : List Exports) (name : Name) → ((l : ℕ) → l < length exports → name_of exports l ≡ name → ⊥) → number_of exports name ≡ None
none_named exports name lacks = go (number_of exports name) refl
  where
    go : (o : Option ℕ) → number_of exports name ≡ o → o ≡ None
    go None e = refl
    go (Some l) e = let (within, is) = name_found exports name l e in absurd (lacks l within is)

fails_from : (from : ℕ) (exports : List Exports) (name : Name) (l : ℕ) → position_from (is_library name) from exports ≡ None → l < length exports → bytes_eq (name_of exports l) name ≡ false
fails_from from [] name l e within = absurd (omega arith)
fails_from from (x ∷ exports) name l e within = go (bytes_eq x.library name) refl (λ k f inside. fails_from (from + 1) exports name k f inside) l within e
  where
    go : (b : Bool) → bytes_eq x.library name ≡ b → ((k : ℕ) → position_from (is_library name) (from + 1) exports ≡ None → k < length exports → bytes_eq (name_of exports k) name ≡ false)
        → (k : ℕ) → k < length (x ∷ exports) → cond b (Some from) (position_from (is_library name) (from + 1) exports) ≡ None → bytes_eq (name_of (x ∷ exports) k) name ≡ false
    go true is rest k inside f = absurd cc
    go false is rest zero inside f = is
    go false is rest (suc k) inside f = rest k f (omega arith)

-- some library has a number, where one has its name
pub some_number : (exports : List Exports) (name : Name) (l : ℕ) → l < length exports → bytes_eq (name_of exports l) name ≡ true → (k : ℕ) × (number_of exports name ≡ Some k)
some_number exports name l within is = go (number_of exports name) refl
  where
    go : (o : Option ℕ) → number_of exports name ≡ o → (k : ℕ) × (o ≡ Some k)
    go None e = absurd (true≢false (sym is ∙ fails_from 0 exports name l (sym (position_from-zero (is_library name) exports) ∙ e) within))
    go (Some k) e = (k, refl)
