-- Bodies, from the code of their parts.
use Rattle.std.proofs.Common.{◌≡◌, ℕ, zero, suc, ◌+◌, ◌-◌, Bool, true, false, List, [], ◌∷◌, ◌++◌, map, length, refl, sym, ap, ◌∙◌, arith, length-append}
use Rattle.std.proofs.lemmas.List.{map_push, append-nil}
use Rattle.dy_term.specs.declared.term.Term.{Term}
use Rattle.dy_term.specs.declared.term.Lambda.{Lambda, out-Lambda, roll-Lambda, roll-out-Lambda}
use Rattle.dy_outcome.specs.declared.place.Place.{Place}
use Rattle.dy_meaning.specs.Lambdas.{lambdas_in, lambdas_within, of_defaults}
use Rattle.dy_meaning.specs.Layouts.{Layout, place_of, layout_of, layout_of_term, from}
use Rattle.dy_meaning.specs.Numbers.{numbers_in}
use Rattle.dy_lambdas.proofs.Selecting.{in_lambda_row}
use Rattle.dy_lowered.specs.Flat.{Code}
use Rattle.dy_lowered.specs.Terms.{code_of}
use Rattle.dy_lowered.specs.Bodies.{FlatBody, rest_place, parameters, entry, lambda_body, body_alone}
use Rattle.dy_lower_library.specs.Seen.{end_of}

from_next : (first count : ℕ) → from first (suc count) ≡ from first count ++ (first + count) ∷ []
from_next first zero = let e : first ≡ first + 0 = omega arith in ap (λ (n : ℕ). n ∷ []) e
from_next first (suc count) =
    let e : (first + 1) + count ≡ first + suc count = omega arith in
    ap (λ (rest : List ℕ). first ∷ rest)
    (from_next (first + 1) count ∙ ap (λ (n : ℕ). from (first + 1) count ++ n ∷ []) e)

-- one number more
pub places_more : (place : ℕ → Place) (first count : ℕ) → map place (from first (count + 1)) ≡ map place (from first count) ++ place (first + count) ∷ []
places_more place first count =
    let e : count + 1 ≡ suc count = omega arith in
    ap (λ (n : ℕ). map place (from first n)) e ∙ ap (map place) (from_next first count)
    ∙ map_push place (from first count) (first + count)

pub numbers_more : (count : ℕ) → from 0 (count + 1) ≡ from 0 count ++ count ∷ []
numbers_more count =
    let e : count + 1 ≡ suc count = omega arith in
    let here : 0 + count ≡ count = omega arith in
    ap (from 0) e ∙ from_next 0 count ∙ ap (λ (n : ℕ). from 0 count ++ n ∷ []) here

-- the parameters of a lambda, with one for surplus arguments and without
pub parameters_alone : (lambda : Lambda) (l : Layout) (places : List Place) (count : ℕ) → l ≡ layout_of lambda → count ≡ length (out-Lambda lambda).params.required
    → places ≡ map (place_of l) (from (out-Lambda lambda).first count) → (out-Lambda lambda).params.rest ≡ false → places ≡ parameters lambda
parameters_alone lambda l places count el ec made none =
    let first = (out-Lambda lambda).first in
    let required = length (out-Lambda lambda).params.required in
    let all = map (place_of (layout_of lambda)) (from first required) in
    made ∙ (λ i. map (place_of (el i)) (from first (ec i))) ∙ sym (append-nil all)
    ∙ ap (λ (r : Bool). all ++ rest_place r (place_of (layout_of lambda) (first + required))) (sym none)

pub parameters_and_rest : (lambda : Lambda) (l : Layout) (places new : List Place) (count local : ℕ) (place : Place) → l ≡ layout_of lambda → count ≡ length (out-Lambda lambda).params.required
    → places ≡ map (place_of l) (from (out-Lambda lambda).first count) → local ≡ (out-Lambda lambda).first + count → place ≡ place_of l local → new ≡ places ++ place ∷ [] → (out-Lambda lambda).params.rest ≡ true
    → new ≡ parameters lambda
parameters_and_rest lambda l places new count local place el ec made elocal eplace enew more =
    let first = (out-Lambda lambda).first in
    let required = length (out-Lambda lambda).params.required in
    let all = map (place_of (layout_of lambda)) (from first required) in
    enew ∙ (λ i. made i ++ (eplace ∙ ap (place_of l) elocal) i ∷ [])
    ∙ (λ i. map (place_of (el i)) (from first (ec i)) ++ place_of (el i) (first + ec i) ∷ [])
    ∙ ap (λ (r : Bool). all ++ rest_place r (place_of (layout_of lambda) (first + required))) (sym more)

within_lambda : (lambda : Lambda) → lambdas_within lambda ≡ of_defaults (out-Lambda lambda).keywords ++ lambdas_in (out-Lambda lambda).body
within_lambda lambda = ap lambdas_within (sym (roll-out-Lambda lambda)) ∙ in_lambda_row (out-Lambda lambda)

pub within_parts : (lambda : Lambda) → lambdas_within lambda ≡ of_defaults (out-Lambda lambda).keywords ++ lambdas_in (out-Lambda lambda).body
within_parts = within_lambda

pub lambda_made : (lambda : Lambda) (number behind n : ℕ) (l : Layout) (locals captures : ℕ)
    (c0 c1 c2 c3 : Code) → l ≡ layout_of lambda → behind ≡ number + length (lambdas_within lambda)
    → n + length (lambdas_in (out-Lambda lambda).body) ≡ behind
    → locals ≡ (out-Lambda lambda).locals - (out-Lambda lambda).first
    → captures ≡ length l.captured → c0 ≡ [] → c1 ≡ end_of lambda ++ c0
    → c2 ≡ code_of l (out-Lambda lambda).body n ++ c1 → c3 ≡ entry lambda ++ c2
    → ◌≡◌ {A = FlatBody} (record { locals = locals; captures = captures; code = c3 })
    (lambda_body lambda number)
lambda_made lambda number behind n l locals captures c0 c1 c2 c3 el eb en elocals ecaptures e0 e1 e2 e3 =
    let row = out-Lambda lambda in
    let long = ap length (within_lambda lambda)
    ∙ length-append (of_defaults row.keywords) (lambdas_in row.body) in
    let at : n ≡ number + length (of_defaults row.keywords) = omega (arith, long, eb, en) in
    let last : c1 ≡ end_of lambda = e1 ∙ ap (λ (c : Code). end_of lambda ++ c) e0 in
    let body = e2 ∙ (λ i. code_of (el i) row.body (at i) ++ last i) in
    let code = e3 ∙ ap (λ (c : Code). entry lambda ++ c) body in
    let captured = ecaptures ∙ ap (λ (k : Layout). length k.captured) el in
    λ i. record { locals = elocals i; captures = captured i; code = code i }

pub alone_made : (term : Term) (number behind n : ℕ) (l : Layout) (last : Code) (locals : ℕ) (c1 c2 : Code) → l ≡ layout_of_term term → behind ≡ number + length (lambdas_in term) → n + length (lambdas_in term) ≡ behind
    → locals ≡ numbers_in term → c1 ≡ last ++ [] → c2 ≡ code_of l term n ++ c1 → ◌≡◌ {A = FlatBody} (record { locals = locals; captures = 0; code = c2 }) (body_alone term number last)
alone_made term number behind n l last locals c1 c2 el eb en elocals e1 e2 =
    let at : n ≡ number = omega (arith, eb, en) in
    let code = e2 ∙ ap (λ (c : Code). code_of l term n ++ c) (e1 ∙ append-nil last) ∙ (λ i. code_of (el i) term (at i) ++ last) in
    λ i. record { locals = elocals i; captures = 0; code = code i }
