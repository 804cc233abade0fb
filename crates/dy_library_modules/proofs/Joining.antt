-- Files of definitions that are grouped one after the other.
use Rattle.std.proofs.Common.{◌≡◌, ℕ, ◌+◌, ◌<◌, Bool, true, false, cond, List, [], ◌∷◌, ◌++◌, map, length, get_or, drop, Result, Ok, Err, append_assoc, refl, sym, ap, subst, ◌∙◌, inl, inr}
use Rattle.std.specs.List.{filter}
use Rattle.std.proofs.lemmas.List.{append-nil, map-append}
use Rattle.dy_base.specs.declared.fault.Fault.{Fault}
use Rattle.dy_base.specs.declared.fault.Refusal.{Refusal}
use Rattle.dy_base.specs.declared.fault.Refusal.TheVariants as refusals
use Rattle.dy_tree.specs.declared.fragment.Fragment.{Fragment}
use Rattle.dy_tree.specs.declared.words.Words.{Words}
use Rattle.dy_tree.specs.Fragments.{SeenFragment, seen_fragment, seen_fragments}
use Rattle.dy_lexer.specs.declared.source.Source.{Source}
use Rattle.dy_library_modules.specs.Users.{is_user, IsDefining, AreJoined, AreUsers, AnswersFile, AnswersUsers}
use Rattle.dy_library_modules.proofs.LexedFiles.{reached}

abbrev Found : Type 0
Found = Result (List SeenFragment) Fault

-- trees in front of those of other files
abbrev pub before : List SeenFragment → Found → Found
before trees (Ok others) = Ok (trees ++ others)
before trees (Err fault) = Err fault

before_none : (found : Found) → before [] found ≡ found
before_none (Ok others) = refl
before_none (Err fault) = refl

before_both : (some trees : List SeenFragment) (found : Found) → before (some ++ trees) found ≡ before some (before trees found)
before_both some trees (Ok others) = ap (λ (all : List SeenFragment). Ok all) (append_assoc some trees others)
before_both some trees (Err fault) = refl

module _ (words : Words) where
  -- What the files up to an index are grouped to, and what the others are, is what all are.
  abbrev pub JoinedTo : List Source → ℕ → List SeenFragment → Type 0
  JoinedTo sources i trees = (found : Found) → AreUsers words (drop i sources) found → AreUsers words sources (before trees found)

  pub joined_start : (sources : List Source) → JoinedTo sources 0 []
  joined_start sources found is = subst (λ (f : Found). AreUsers words sources f) (sym (before_none found)) is

  joined_read : (file : Source) (files : List Source) (trees : List SeenFragment) (found : Found) → IsDefining words file trees → AreJoined words files found → AreJoined words (file ∷ files) (before trees found)
  joined_read file files trees (Ok others) is rest = (trees, others, is, rest, refl)
  joined_read file files trees (Err fault) is rest = inr (trees, is, rest)

  -- the files of definitions among some, by whether the first is one
  with_user : (file : Source) (files : List Source) (found : Found) (b : Bool) → is_user file ≡ b → AreJoined words (cond b (file ∷ filter is_user files) (filter is_user files)) found → AreUsers words (file ∷ files) found
  with_user file files found b is joined = subst (λ (c : Bool). AreJoined words (cond c (file ∷ filter is_user files) (filter is_user files)) found) (sym is) joined

  module _ (sources : List Source) (i : ℕ) (file : Source) (within : i < length sources) (at : file ≡ get_or sources i file) (some : List SeenFragment) (so : JoinedTo sources i some) where
    here : (found : Found) → AreUsers words (file ∷ drop (i + 1) sources) found → AreUsers words sources (before some found)
    here found is = so found (subst (λ (files : List Source). AreUsers words files found) (sym (reached sources i file within at)) is)

    pub joined_more : is_user file ≡ true → (trees all : List SeenFragment) → IsDefining words file trees → all ≡ some ++ trees → JoinedTo sources (i + 1) all
    joined_more is trees all defining joins found rest =
        subst (λ (f : Found). AreUsers words sources f) (sym (before_both some trees found) ∙ ap (λ (ts : List SeenFragment). before ts found) (sym joins))
        (here (before trees found) (with_user file (drop (i + 1) sources) (before trees found) true is (joined_read file (filter is_user (drop (i + 1) sources)) trees found defining rest)))

    pub joined_other : is_user file ≡ false → JoinedTo sources (i + 1) some
    joined_other is found rest = here found (with_user file (drop (i + 1) sources) found false is rest)

    -- where the file has a fault, or memory ran out, nothing else is looked at
    pub joined_stops : is_user file ≡ true → (refusal : Refusal) → AnswersFile words file (Err refusal) → AnswersUsers words sources (Err refusal)
    joined_stops is (refusals.Fault fault) faulty = here (Err fault) (with_user file (drop (i + 1) sources) (Err fault) true is (inl faulty))
    joined_stops is refusals.Memory faulty = tt

  pub joined_all : (sources : List Source) (i : ℕ) (trees : List SeenFragment) → drop i sources ≡ [] → JoinedTo sources i trees → AreUsers words sources (Ok trees)
  joined_all sources i trees past so =
      subst (λ (all : List SeenFragment). AreUsers words sources (Ok all)) (append-nil trees)
      (so (Ok []) (subst (λ (files : List Source). AreUsers words files (Ok [])) (sym past) refl))

pub seen_behind : (some more : List Fragment) → seen_fragments (some ++ more) ≡ seen_fragments some ++ seen_fragments more
seen_behind some more = map-append seen_fragment some more
