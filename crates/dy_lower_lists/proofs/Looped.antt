-- One instruction more of some code.
use Rattle.std.proofs.Common.{◌≡◌, ℕ, ◌+◌, ◌<◌, ◌≤◌, List, [], ◌∷◌, ◌++◌, map, take, length, get_or, refl, sym, ap, ◌∙◌, arith, append_assoc}
use Rattle.std.proofs.lemmas.List.{take_more, take_all, map_push, length-map, length-take-le, append-nil}
use Rattle.dy_code.specs.Fetching.{Instruction}
use Rattle.dy_code.specs.declared.instr.Instr.{Instr}
use Rattle.dy_lowered.specs.Flat as flats
use Rattle.dy_lowered.specs.Flat.{Code, placed, placed_from}
use Rattle.dy_lowered.specs.Tables.{Tables, tables_of, written}
use Rattle.dy_lower_parts.specs.declared.flat.Flat.{Flat}
use Rattle.dy_lower_parts.specs.Seen.{seen}
use Rattle.dy_lower_lists.specs.Listed.{noted}
use Rattle.dy_lower_lists.proofs.Noting.{tables_push}

placed_push : (place : ℕ) (code : Code) (f : flats.Flat) → placed_from place (code ++ f ∷ []) ≡ placed_from place code ++ placed (place + length code) f ∷ []
placed_push place [] f = let e : place ≡ place + 0 = omega arith in ap (λ (p : ℕ). placed p f ∷ []) e
placed_push place (g ∷ code) f =
    let e : place + 1 + length code ≡ place + length (g ∷ code) = omega arith in
    ap (λ (c : List Instruction). placed place g ∷ c) (placed_push (place + 1) code f ∙ ap (λ (p : ℕ). placed_from (place + 1) code ++ placed p f ∷ []) e)

-- the code of the first instructions
abbrev pub first_placed : List Flat → ℕ → List Instruction
first_placed fs i = placed_from 0 (map seen (take i fs))

pub all_placed : (fs : List Flat) (code : Code) (n : ℕ) → n ≡ length fs → map seen fs ≡ code → first_placed fs n ≡ placed_from 0 code
all_placed fs code n e s =
    let l : length fs ≤ n = omega (arith, e) in
    ap (λ (xs : List Flat). placed_from 0 (map seen xs)) (take_all n fs l) ∙ ap (placed_from 0) s

placed_more : (fs : List Flat) (i : ℕ) (f : Flat) → i < length fs → f ≡ get_or fs i f → first_placed fs (i + 1) ≡ first_placed fs i ++ placed i (seen f) ∷ []
placed_more fs i f l e =
    let front = map seen (take i fs) in
    let long : i ≤ length fs = omega (arith, l) in
    let n = length-map (take i fs) seen in
    let m = length-take-le i fs long in
    let at : 0 + length front ≡ i = omega (arith, n, m) in
    ap (λ (xs : List Flat). placed_from 0 (map seen xs)) (take_more fs i f l)
    ∙ ap (placed_from 0) (map_push seen (take i fs) (get_or fs i f))
    ∙ placed_push 0 front (seen (get_or fs i f))
    ∙ (λ j. placed_from 0 front ++ placed (at j) (seen (sym e j)) ∷ [])

abbrev Noted : Tables → Tables → List Instruction → Type 0
Noted old now code = (before : List Instruction) → old ≡ tables_of before → now ≡ tables_of (before ++ code)

pub noted_first : (old : Tables) (fs : List Flat) → Noted old old (first_placed fs 0)
noted_first old fs before e = e ∙ ap tables_of (sym (append-nil before))

pub noted_more : (old now new : Tables) (fs : List Flat) (i : ℕ) (f : Flat) → i < length fs → f ≡ get_or fs i f → Noted old now (first_placed fs i)
    → ((place : ℕ) → new ≡ noted now (placed place (seen f))) → Noted old new (first_placed fs (i + 1))
noted_more old now new fs i f l e h step before same =
    let done = first_placed fs i in
    step i ∙ ap (λ (t : Tables). noted t (placed i (seen f))) (h before same)
    ∙ sym (tables_push (before ++ done) (placed i (seen f)))
    ∙ ap tables_of (append_assoc before done (placed i (seen f) ∷ []) ∙ ap (λ (c : List Instruction). before ++ c) (sym (placed_more fs i f l e)))

pub noted_all : (old now : Tables) (fs : List Flat) (code : Code) (n : ℕ) → n ≡ length fs → map seen fs ≡ code → Noted old now (first_placed fs n) → Noted old now (placed_from 0 code)
noted_all old now fs code n e s h before same = h before same ∙ ap (λ (c : List Instruction). tables_of (before ++ c)) (all_placed fs code n e s)

pub written_more : (t : Tables) (fs : List Flat) (i : ℕ) (f : Flat) (now new : List Instr) (w : Instr) → i < length fs → f ≡ get_or fs i f → now ≡ map (written t) (first_placed fs i)
    → w ≡ written t (placed i (seen f)) → new ≡ now ++ w ∷ [] → new ≡ map (written t) (first_placed fs (i + 1))
written_more t fs i f now new w l e h k p =
    p ∙ (λ j. h j ++ k j ∷ []) ∙ sym (map_push (written t) (first_placed fs i) (placed i (seen f))) ∙ ap (map (written t)) (sym (placed_more fs i f l e))

pub written_all : (t : Tables) (fs : List Flat) (code : Code) (n : ℕ) (now : List Instr) → n ≡ length fs → map seen fs ≡ code → now ≡ map (written t) (first_placed fs n) → now ≡ map (written t) (placed_from 0 code)
written_all t fs code n now e s h = h ∙ ap (map (written t)) (all_placed fs code n e s)
