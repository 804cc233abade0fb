-- The trees of files, one file behind the other, are forms where those of each file are.
use Rattle.std.proofs.Common.{◌≡◌, ℕ, ◌+◌, ◌≤◌, Bool, true, false, cond, not, ◌||◌, nat_eq, List, [], ◌∷◌, ◌++◌, Option, Some, None, Result, Ok, Err, refl, sym, ap, subst, ◌∙◌, arith}
use Rattle.std.specs.List.{filter}
use Rattle.std.proofs.lemmas.List.{append-nil}
use Rattle.std.proofs.lemmas.Bool.{ne_eqb}
use Rattle.dy_base.specs.declared.fault.Place.{Place}
use Rattle.dy_tree.specs.declared.words.Words.{Words}
use Rattle.dy_tree.specs.Fragments.{SeenFragment}
use Rattle.dy_lexer.specs.declared.source.Source.{Source}
use Rattle.dy_module_forms.specs.declared.written.Form.{Form}
use Rattle.dy_module_forms.specs.Cuts.{is_mark, place_of, is_last, with_first, pieces}
use Rattle.dy_module_forms.specs.Forms.{piece_place, piece_form, with_form, forms_in, forms_of}
use Rattle.dy_library_modules.specs.declared.lexing.Lexed.{Lexed}
use Rattle.dy_library_modules.specs.declared.lexing.Lexed.TheVariants.{Read, Faulty}
use Rattle.dy_library_modules.specs.Texts.{AreLexed, sources_of, GivesSources}
use Rattle.dy_library_modules.specs.Users.{is_user, AreJoined, AreUsers}
use Rattle.dy_library_modules.proofs.FilePlaces.{AreOf, TreesOf, source_of, grouped_of}

-- the first tree is of another file, or of one from a number on
abbrev Behind : ℕ → List SeenFragment → Type 0
Behind file [] = Unit {0}
Behind file (tree ∷ trees) = (place_of tree).file ≡ file → ⊥

abbrev From : ℕ → List SeenFragment → Type 0
From number [] = Unit {0}
From number (tree ∷ trees) = number ≤ (place_of tree).file

behind_from : (file : ℕ) (trees : List SeenFragment) → From (file + 1) trees → Behind file trees
behind_from file [] from = tt
behind_from file (tree ∷ trees) from = λ is. omega (arith, from, is)

either_true : (a b : Bool) → b ≡ true → (a || b) ≡ true
either_true true b e = refl
either_true false b e = e

last_here : (first next : SeenFragment) (rest : List SeenFragment) → ((place_of first).file ≡ (place_of next).file → ⊥) → is_last first (next ∷ rest) ≡ true
last_here first next rest apart = either_true (is_mark (59 ∷ []) first) (not (nat_eq (place_of first).file (place_of next).file)) (ap not (ne_eqb (place_of first).file (place_of next).file apart))

-- the pieces of two files
abbrev IsSome : List (List SeenFragment) → Type 0
IsSome [] = ⊥
IsSome (piece ∷ others) = Unit {0}

some_first : (tree : SeenFragment) (others : List (List SeenFragment)) → IsSome (with_first tree others)
some_first tree [] = tt
some_first tree (piece ∷ others) = tt

some_pieces : (tree : SeenFragment) (trees : List SeenFragment) → IsSome (pieces (tree ∷ trees))
some_pieces tree trees = by_last (is_last tree trees)
  where
    by_last : (b : Bool) → IsSome (cond b ((tree ∷ []) ∷ pieces trees) (with_first tree (pieces trees)))
    by_last true = tt
    by_last false = some_first tree (pieces trees)

cut_both : (b : Bool) (tree : SeenFragment) (xs ys : List (List SeenFragment)) → IsSome xs
    → cond b ((tree ∷ []) ∷ (xs ++ ys)) (with_first tree (xs ++ ys)) ≡ cond b ((tree ∷ []) ∷ xs) (with_first tree xs) ++ ys
cut_both true tree xs ys some = refl
cut_both false tree [] ys some = absurd some
cut_both false tree (x ∷ xs) ys some = refl

pieces_both : (file : ℕ) (some more : List SeenFragment) → TreesOf file some → Behind file more → pieces (some ++ more) ≡ pieces some ++ pieces more
pieces_both file [] more of behind = refl
pieces_both file (first ∷ []) [] of behind = sym (append-nil (pieces (first ∷ [])))
pieces_both file (first ∷ []) (next ∷ rest) of behind =
    ap (λ (b : Bool). cond b ((first ∷ []) ∷ pieces (next ∷ rest)) (with_first first (pieces (next ∷ rest)))) (last_here first next rest (λ is. behind (sym is ∙ of.0)))
pieces_both file (first ∷ second ∷ rest) more of behind =
    ap (λ (ps : List (List SeenFragment)). cond (is_last first (second ∷ rest)) ((first ∷ []) ∷ ps) (with_first first ps)) (pieces_both file (second ∷ rest) more of.1 behind)
    ∙ cut_both (is_last first (second ∷ rest)) first (pieces (second ∷ rest)) (pieces more) (some_pieces second rest)

-- the forms of the pieces of two files
form_both : (place : Place) (found : Option Form) (others all : Result (List Form) Place) (more : List Form) → ((forms : List Form) → others ≡ Ok forms → all ≡ Ok (forms ++ more))
    → (forms : List Form) → with_form place found others ≡ Ok forms → with_form place found all ≡ Ok (forms ++ more)
form_both place None others all more so forms is = absurd cc
form_both place (Some form) (Ok rest) all more so forms is =
    let same : form ∷ rest ≡ forms = cc in
    ap (λ (r : Result (List Form) Place). with_form place (Some form) r) (so rest refl) ∙ ap (λ (l : List Form). Ok (l ++ more)) same
form_both place (Some form) (Err other) all more so forms is = absurd cc

forms_both : (xs ys : List (List SeenFragment)) (more : List Form) → forms_in ys ≡ Ok more → (forms : List Form) → forms_in xs ≡ Ok forms → forms_in (xs ++ ys) ≡ Ok (forms ++ more)
forms_both [] ys more e forms is = let same : [] ≡ forms = cc in e ∙ ap (λ (l : List Form). Ok (l ++ more)) same
forms_both (x ∷ xs) ys more e forms is = form_both (piece_place x) (piece_form x) (forms_in xs) (forms_in (xs ++ ys)) more (forms_both xs ys more e) forms is

-- files of which each has a number, from one on, and their tokens
abbrev Numbered : ℕ → List Source → Type 0
Numbered number [] = Unit {0}
Numbered number (source ∷ sources) = (file : ℕ) × (number ≤ file) × AreOf file source.tokens × Numbered (file + 1) sources

earlier : (number other : ℕ) → number ≤ other → (sources : List Source) → Numbered other sources → Numbered number sources
earlier number other low [] are = tt
earlier number other low (source ∷ sources) (file, from, of, rest) = (file, omega (arith, low, from), of, rest)

lexed_numbered : (number : ℕ) (texts : List (List ℕ)) (lexed : List Lexed) → AreLexed number texts lexed → Numbered number (sources_of lexed)
lexed_numbered number [] [] are = tt
lexed_numbered number [] (found ∷ lexed) are = absurd are
lexed_numbered number (text ∷ texts) [] are = absurd are
lexed_numbered number (text ∷ texts) (Read source ∷ lexed) are = (number, omega arith, source_of number text source are.0, lexed_numbered (number + 1) texts lexed are.1)
lexed_numbered number (text ∷ texts) (Faulty fault ∷ lexed) are = earlier number (number + 1) (omega arith) (sources_of lexed) (lexed_numbered (number + 1) texts lexed are.1)

kept_numbered : (test : Source → Bool) (number : ℕ) (sources : List Source) → Numbered number sources → Numbered number (filter test sources)
kept_numbered test number [] are = tt
kept_numbered test number (source ∷ sources) (file, from, of, rest) = by_test (test source) (kept_numbered test (file + 1) sources rest)
  where
    by_test : (b : Bool) → Numbered (file + 1) (filter test sources) → Numbered number (cond b (source ∷ filter test sources) (filter test sources))
    by_test true kept = (file, from, of, kept)
    by_test false kept = earlier number (file + 1) (omega (arith, from)) (filter test sources) kept

from_both : (number file : ℕ) (trees others : List SeenFragment) → number ≤ file → TreesOf file trees → From (file + 1) others → From number (trees ++ others)
from_both number file [] [] low of from = tt
from_both number file [] (tree ∷ others) low of from = omega (arith, low, from)
from_both number file (tree ∷ trees) others low of from = let is = of.0 in omega (arith, low, is)

module _ (words : Words) where
  joined_forms : (number : ℕ) (files : List Source) (all : List SeenFragment) → Numbered number files → AreJoined words files (Ok all) → ((forms : List Form) × (forms_of all ≡ Ok forms)) × From number all
  joined_forms number [] all are none = (([], ap (λ (trees : List SeenFragment). forms_of trees) none), subst (λ (trees : List SeenFragment). From number trees) (sym none) tt)
  joined_forms number (source ∷ files) all (file, low, of, rest) (trees, others, is, joined, whole) =
      let ((more, read), from) = joined_forms (file + 1) files others rest joined in
      let here = grouped_of file words source.tokens of trees is.0 in (
        (
          is.2.0 ++ more,
          ap (λ (t : List SeenFragment). forms_of t) whole
              ∙ ap (λ (ps : List (List SeenFragment)). forms_in ps) (pieces_both file trees others here (behind_from file others from))
              ∙ forms_both (pieces trees) (pieces others) more read is.2.0 is.2.1,
        ),
        subst (λ (t : List SeenFragment). From number t) (sym whole) (from_both number file trees others low here from),
      )

  pub users_forms : (texts : List (List ℕ)) (sources : List Source) (trees : List SeenFragment) → GivesSources texts sources → AreUsers words sources (Ok trees) → (forms : List Form) × (forms_of trees ≡ Ok forms)
  users_forms texts sources trees (lexed, are, none, is) users =
      (joined_forms 0 (filter is_user sources) trees (kept_numbered is_user 0 sources (subst (λ (l : List Source). Numbered 0 l) (sym is) (lexed_numbered 0 texts lexed are))) users).0
