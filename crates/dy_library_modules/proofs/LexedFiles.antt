-- Files that are lexed one after the other, and the first of their faults.
use Rattle.std.proofs.Common.{◌≡◌, ℕ, ◌+◌, ◌<◌, Bool, true, false, true≢false, cond, not, ◌||◌, List, [], ◌∷◌, ◌++◌, map, length, get_or, drop, slice_get, Option, Some, None, append_assoc, refl, sym, ap, subst, ◌∙◌}
use Rattle.std.specs.List.{find}
use Rattle.std.specs.Option.{option_or}
use Rattle.std.proofs.lemmas.List.{append-nil, drop_more}
use Rattle.std.proofs.lemmas.List.Folds.{find-append}
use Rattle.dy_base.specs.declared.fault.Fault.{Fault}
use Rattle.dy_lexer.specs.declared.source.Source.{Source}
use Rattle.dy_library_modules.specs.declared.lexing.Lexed.{Lexed}
use Rattle.dy_library_modules.specs.declared.lexing.Lexed.TheVariants.{Read, Faulty}
use Rattle.dy_library_modules.specs.Texts.{Lexes, AreLexed, sources_of, faults_of, is_header, first_header, first_of, first_fault}

-- the item at an index and those behind it
pub reached : {X : Type 0} (xs : List X) (i : ℕ) (x : X) → i < length xs → x ≡ get_or xs i x → drop i xs ≡ x ∷ drop (i + 1) xs
reached xs i x within is = drop_more xs i x within ∙ ap (λ y. y ∷ drop (i + 1) xs) (sym is)

-- What files up to an index are lexed as, and any others behind them, are all.
abbrev pub LexedTo : List (List ℕ) → ℕ → List Lexed → Type 0
LexedTo texts i before = (rest : List Lexed) → AreLexed i (drop i texts) rest → AreLexed 0 texts (before ++ rest)

pub lexed_more : (texts : List (List ℕ)) (i : ℕ) (text : List ℕ) (before : List Lexed) (found : Lexed) → i < length texts → text ≡ get_or texts i text → Lexes i text found
    → LexedTo texts i before → LexedTo texts (i + 1) (before ++ found ∷ [])
lexed_more texts i text before found within is lexes so rest lexed =
    subst (λ (l : List Lexed). AreLexed 0 texts l) (sym (append_assoc before (found ∷ []) rest))
    (so (found ∷ rest) (subst (λ (ts : List (List ℕ)). AreLexed i ts (found ∷ rest)) (sym (reached texts i text within is)) (lexes, lexed)))

pub lexed_all : (texts : List (List ℕ)) (i : ℕ) (lexed : List Lexed) → drop i texts ≡ [] → LexedTo texts i lexed → AreLexed 0 texts lexed
lexed_all texts i lexed past so =
    subst (λ (l : List Lexed). AreLexed 0 texts l) (append-nil lexed)
    (so [] (subst (λ (ts : List (List ℕ)). AreLexed i ts []) (sym past) tt))

pub sources_behind : (some more : List Lexed) → sources_of (some ++ more) ≡ sources_of some ++ sources_of more
sources_behind [] more = refl
sources_behind (Read source ∷ some) more = ap (λ (rest : List Source). source ∷ rest) (sources_behind some more)
sources_behind (Faulty fault ∷ some) more = sources_behind some more

pub faults_behind : (some more : List Lexed) → faults_of (some ++ more) ≡ faults_of some ++ faults_of more
faults_behind [] more = refl
faults_behind (Read source ∷ some) more = faults_behind some more
faults_behind (Faulty fault ∷ some) more = ap (λ (rest : List Fault). fault ∷ rest) (faults_behind some more)

-- what is told of one file more
pub read_more : (some : List Lexed) (source : Source) → (sources_of (some ++ Read source ∷ []) ≡ sources_of some ++ source ∷ []) × (first_fault (some ++ Read source ∷ []) ≡ first_fault some)
read_more some source = (
  sources_behind some (Read source ∷ []),
  ap (λ (faults : List Fault). first_of faults) (faults_behind some (Read source ∷ []) ∙ append-nil (faults_of some)),
)

pub faulty_more : (some : List Lexed) (fault : Fault) → (sources_of (some ++ Faulty fault ∷ []) ≡ sources_of some) × (first_fault (some ++ Faulty fault ∷ []) ≡ first_of (faults_of some ++ fault ∷ []))
faulty_more some fault = (
  sources_behind some (Faulty fault ∷ []) ∙ append-nil (sources_of some),
  ap (λ (faults : List Fault). first_of faults) (faults_behind some (Faulty fault ∷ [])),
)

-- what is found is of a header, and what is not found is of none
found_header : (faults : List Fault) (f : Fault) → find is_header faults ≡ Some f → is_header f ≡ true
found_header [] f e = absurd cc
found_header (g ∷ gs) f e = by_test (is_header g) refl e (found_header gs f)
  where
    by_test : (b : Bool) → is_header g ≡ b → cond b (Some g) (find is_header gs) ≡ Some f → (find is_header gs ≡ Some f → is_header f ≡ true) → is_header f ≡ true
    by_test true is at later = let same : g ≡ f = cc in ap is_header (sym same) ∙ is
    by_test false is at later = later at

first_is_none : (g : Fault) (gs : List Fault) → find is_header (g ∷ gs) ≡ None → is_header g ≡ false
first_is_none g gs e = by_test (is_header g) refl e
  where
    by_test : (b : Bool) → is_header g ≡ b → cond b (Some g) (find is_header gs) ≡ None → is_header g ≡ false
    by_test true is at = absurd cc
    by_test false is at = is

no_or : (a : Bool) → (a || false) ≡ true → a ≡ false → ⊥
no_or true c e = true≢false e
no_or false c e = true≢false (sym c)

or_no : (a b : Bool) → (a || b) ≡ false → a ≡ true → ⊥
or_no true b c e = true≢false c
or_no false b c e = true≢false (sym e)

or_yes : (a : Bool) → (a || true) ≡ false → ⊥
or_yes true c = true≢false c
or_yes false c = true≢false c

module _ (fault : Fault) where
  -- the first of some, of which the first is g and the first header this, and of one more
  abbrev behind : Fault → Option Fault → Bool → Option Fault
  behind g header b = option_or (option_or header (cond b (Some fault) None)) (Some g)

  first_behind : (g : Fault) (gs : List Fault) → first_of ((g ∷ gs) ++ fault ∷ []) ≡ behind g (find is_header (g ∷ gs)) (is_header fault)
  first_behind g gs = ap (λ (o : Option Fault). option_or o (Some g)) (find-append is_header (g ∷ gs) (fault ∷ []))

  kept_by : (g : Fault) (header : Option Fault) (first : Fault) (b : Bool) → Some first ≡ option_or header (Some g) → (is_header first || not b) ≡ true → (header ≡ None → is_header g ≡ false)
      → Some first ≡ behind g header b
  kept_by g (Some f) first b e c low = e
  kept_by g None first true e c low = let same : first ≡ g = cc in absurd (no_or (is_header first) c (ap is_header same ∙ low refl))
  kept_by g None first false e c low = e

  new_by : (g : Fault) (header : Option Fault) (first : Fault) (b : Bool) → Some first ≡ option_or header (Some g) → (is_header first || not b) ≡ false
      → ((f : Fault) → header ≡ Some f → is_header f ≡ true) → Some fault ≡ behind g header b
  new_by g (Some f) first b e c high = let same : first ≡ f = cc in absurd (or_no (is_header first) (not b) c (ap is_header same ∙ high f refl))
  new_by g None first true e c high = refl
  new_by g None first false e c high = absurd (or_yes (is_header first) c)

  alone_by : (b : Bool) → Some fault ≡ option_or (cond b (Some fault) None) (Some fault)
  alone_by true = refl
  alone_by false = refl

  -- the earlier one, where it is of a header or this one is of none
  pub first_kept : (first : Fault) → (is_header first || not (is_header fault)) ≡ true → (faults : List Fault) → Some first ≡ first_of faults → Some first ≡ first_of (faults ++ fault ∷ [])
  first_kept first c [] e = absurd cc
  first_kept first c (g ∷ gs) e = kept_by g (find is_header (g ∷ gs)) first (is_header fault) e c (first_is_none g gs) ∙ sym (first_behind g gs)

  -- and else this one
  pub first_new : (first : Fault) → (is_header first || not (is_header fault)) ≡ false → (faults : List Fault) → Some first ≡ first_of faults → Some fault ≡ first_of (faults ++ fault ∷ [])
  first_new first c [] e = absurd cc
  first_new first c (g ∷ gs) e = new_by g (find is_header (g ∷ gs)) first (is_header fault) e c (found_header (g ∷ gs)) ∙ sym (first_behind g gs)

  some_or : (header : Option Fault) (g : Fault) → None ≡ option_or header (Some g) → ⊥
  some_or None g e = absurd cc
  some_or (Some f) g e = absurd cc

  pub first_alone : (faults : List Fault) → None ≡ first_of faults → Some fault ≡ first_of (faults ++ fault ∷ [])
  first_alone [] e = alone_by (is_header fault)
  first_alone (g ∷ gs) e = absurd (some_or (find is_header (g ∷ gs)) g e)

-- what is told of one file more, whatever it is
module _ (yielded : List Lexed) (found : Lexed) (sources : List Source) (first : Option Fault) (held : sources ≡ sources_of yielded) (told : first ≡ first_fault yielded) where
  pub read_turn : (source : Source) (more : List Source) → found ≡ Read source → more ≡ sources ++ source ∷ []
      → (more ≡ sources_of (yielded ++ found ∷ [])) × (first ≡ first_fault (yielded ++ found ∷ []))
  read_turn source more is added =
      let one = read_more yielded source in
      subst (λ (x : Lexed). (more ≡ sources_of (yielded ++ x ∷ [])) × (first ≡ first_fault (yielded ++ x ∷ []))) (sym is)
      (added ∙ ap (λ (l : List Source). l ++ source ∷ []) held ∙ sym one.0, told ∙ sym one.1)

  pub faulty_turn : (fault chosen : Fault) → found ≡ Faulty fault → ((faults : List Fault) → first ≡ first_of faults → Some chosen ≡ first_of (faults ++ fault ∷ []))
      → (sources ≡ sources_of (yielded ++ found ∷ [])) × (Some chosen ≡ first_fault (yielded ++ found ∷ []))
  faulty_turn fault chosen is chooses =
      let one = faulty_more yielded fault in
      subst (λ (x : Lexed). (sources ≡ sources_of (yielded ++ x ∷ [])) × (Some chosen ≡ first_fault (yielded ++ x ∷ []))) (sym is)
      (held ∙ sym one.0, chooses (faults_of yielded) told ∙ sym one.1)

-- which fault is told
pub header_first : (some others : List Lexed) (fault : Fault) → is_header fault ≡ true → first_header (faults_of some) ≡ None → first_fault (some ++ Faulty fault ∷ others) ≡ Some fault
header_first some others fault is none =
    let all = fault ∷ faults_of others in
    let here : find is_header all ≡ Some fault = ap (λ (b : Bool). cond b (Some fault) (find is_header (faults_of others))) is in
    ap (λ (faults : List Fault). first_of faults) (faults_behind some (Faulty fault ∷ others))
    ∙ ap (λ (o : Option Fault). option_or o (slice_get (faults_of some ++ all) 0)) (find-append is_header (faults_of some) all ∙ ap (λ (o : Option Fault). option_or o (find is_header all)) none ∙ here)

read_first : (some : List Source) (others : List Lexed) → faults_of (map Read some ++ others) ≡ faults_of others
read_first [] others = refl
read_first (source ∷ some) others = read_first some others

pub faulty_first : (some : List Source) (others : List Lexed) (fault : Fault) → first_header (faults_of (Faulty fault ∷ others)) ≡ None → first_fault (map Read some ++ Faulty fault ∷ others) ≡ Some fault
faulty_first some others fault none =
    ap (λ (faults : List Fault). first_of faults) (read_first some (Faulty fault ∷ others))
    ∙ ap (λ (o : Option Fault). option_or o (Some fault)) none
