-- Bodies one by one: their instructions, and the longest stretch.
use Rattle.std.proofs.Common.{◌≡◌, ℕ, ◌+◌, ◌<◌, List, [], ◌∷◌, ◌++◌, map, take, get_or, length, refl, sym, ap, ◌∙◌, arith, append_assoc, append-nil}
use Rattle.std.specs.Prelude.{max, flat_map}
use Rattle.std.proofs.lemmas.List.{take_more, map-append}
use Rattle.dy_code.specs.declared.unit.Body.{Body}
use Rattle.dy_meaning.specs.Numbers.{greatest}
use Rattle.dy_lowered.specs.Flat.{placed_from}
use Rattle.dy_lowered.specs.Bodies as flat
use Rattle.dy_lower_library.specs.declared.bodies.FlatBody.{FlatBody}
use Rattle.dy_lower_library.specs.Seen.{seen_body, seen_bodies}
use Rattle.dy_lower.specs.Placed.{instructions_of}

-- with the next item
pub taken : {A : Type 0} (xs : List A) (i : ℕ) (x : A) → i < length xs → x ≡ get_or xs i x
    → take (i + 1) xs ≡ take i xs ++ x ∷ []
taken xs i x l e = take_more xs i x l ∙ ap (λ y. take i xs ++ y ∷ []) (sym e)

all_instructions : (xs : List FlatBody) (x : FlatBody)
    → instructions_of (seen_bodies (xs ++ x ∷ []))
    ≡ instructions_of (seen_bodies xs) ++ placed_from 0 (seen_body x).code
all_instructions [] x = append-nil (placed_from 0 (seen_body x).code)
all_instructions (y ∷ xs) x =
    let own = placed_from 0 (seen_body y).code in
    ap (λ rest. own ++ rest) (all_instructions xs x)
    ∙ sym (append_assoc own (instructions_of (seen_bodies xs)) (placed_from 0 (seen_body x).code))

pub instructions_more : (xs : List FlatBody) (i : ℕ) (x : FlatBody) → i < length xs
    → x ≡ get_or xs i x → instructions_of (seen_bodies (take (i + 1) xs))
    ≡ instructions_of (seen_bodies (take i xs)) ++ placed_from 0 (seen_body x).code
instructions_more xs i x l e =
    ap (λ ys. instructions_of (seen_bodies ys)) (taken xs i x l e) ∙ all_instructions (take i xs) x

abbrev pub longest : List Body → ℕ
longest bodies = greatest (map (λ (body : Body). body.stretch) bodies)

longest_with : (xs : List Body) (x : Body) → longest (xs ++ x ∷ []) ≡ max (longest xs) x.stretch
longest_with [] x = omega arith
longest_with (y ∷ xs) x = omega (arith, longest_with xs x)

pub longest_more : (xs : List Body) (i : ℕ) (x : Body) → i < length xs → x ≡ get_or xs i x
    → longest (take (i + 1) xs) ≡ max (longest (take i xs)) x.stretch
longest_more xs i x l e = ap longest (taken xs i x l e) ∙ longest_with (take i xs) x

pub written_more : (f : flat.FlatBody → Body) (xs : List FlatBody) (i : ℕ) (x : FlatBody)
    → i < length xs → x ≡ get_or xs i x → map f (seen_bodies (take (i + 1) xs))
    ≡ map f (seen_bodies (take i xs)) ++ f (seen_body x) ∷ []
written_more f xs i x l e =
    ap (λ ys. map f (seen_bodies ys)) (taken xs i x l e)
    ∙ ap (λ ys. map f ys) (map-append seen_body (take i xs) (x ∷ []))
    ∙ map-append f (seen_bodies (take i xs)) (seen_body x ∷ [])
