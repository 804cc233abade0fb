-- Libraries are read one behind the other.
use Rattle.std.proofs.Common.{◌+◌, ◌<◌, length, map, drop, get_or, ap, ◌≡◌, ℕ, List, [], ◌∷◌, Result, Ok, Err, Option, refl, sym, ◌∙◌, subst, inl, inr, Contains}
use Rattle.std.proofs.lemmas.List.{drop_more, get_or-map, length-map}
use Rattle.dy_io.specs.Files.{FileMap}
use Rattle.dy_libraries.specs.declared.libraries.Libraries.{Libraries}
use Rattle.dy_libraries.specs.Commands.{built_in}
use Rattle.dy_verdict.specs.declared.library.ReadLibrary.{ReadLibrary}
use Rattle.dy_sources.specs.declared.refused.Refused.{Refused}
use Rattle.dy_sources.specs.declared.source.Halt.{Halt}
use Rattle.dy_sources.specs.declared.source.Halt.TheVariants as halts
use Rattle.dy_sources.specs.Verdicts.{refused, accepted, IsVerdict}
use Rattle.dy_sources.specs.Libraries.{with_read, AreRead, AreAccepted, none_read, one_more}
use Rattle.dy_sources.specs.Judged.{Judged, AllJudged, TellsName, NamesFile, NamesFileOf}
use Rattle.dy_sources.specs.Laws.{AnswersAreOne, ReadAreLibraries, ReadAreAccepted}
use Rattle.dy_sources.proofs.Uniqueness.{verdicts_are_one}
use Rattle.dy_sources.proofs.Accepting.{accepted_so}
use Rattle.dy_sources.proofs.Accepted.{accepted_are_libraries}

-- what LID files come to behind these is what all come to
abbrev pub GoOn : FileMap → (libraries before : Libraries) → (lids all : List (List ℕ)) → Type 0
GoOn files libraries before lids all =
    (result : Result Libraries Refused) → AreRead files libraries lids result → AreRead files before all result

-- one more is read
pub goes_on : (files : FileMap) (libraries before : Libraries) (lid : List ℕ) (lids all : List (List ℕ)) (read : ReadLibrary) → GoOn files libraries before (lid ∷ lids) all
    → IsVerdict files libraries lid (accepted read) → GoOn files (with_read libraries read) before lids all
goes_on files libraries before lid lids all read on is result more = on result (inr (read, is, more))

-- or it ends the reading of all
pub ends : (files : FileMap) (libraries before : Libraries) (lid : List ℕ) (lids all : List (List ℕ)) (halt : Halt) → GoOn files libraries before (lid ∷ lids) all
    → Judged (IsVerdict files libraries lid) (Err halt) → AllJudged (AreRead files before all) (Err halt)
ends files libraries before lid lids all (halts.Refused why) on is = on (Err why) (inl (why, is, refl))
ends files libraries before lid lids all (halts.FileFault name) on is = tt
ends files libraries before lid lids all halts.Memory on is = tt

-- all are read
pub all_read : (files : FileMap) (libraries before : Libraries) (lids all : List (List ℕ)) → GoOn files libraries before lids all → lids ≡ [] → AreRead files before all (Ok libraries)
all_read files libraries before [] all on is = on (Ok libraries) refl
all_read files libraries before (lid ∷ lids) all on is = absurd cc

-- those that are left, where this is the next
pub lids_left : {X : Type 0} (f : X → List ℕ) (all : List X) (i : ℕ) (item : X) (lid : List ℕ) → i < length all → item ≡ get_or all i item → lid ≡ f item → map f (drop i all) ≡ lid ∷ map f (drop (i + 1) all)
lids_left {X} f all i item lid within at is =
    ap (map f) (drop_more all i item within ∙ ap (λ (one : X). one ∷ drop (i + 1) all) (sym at))
    ∙ ap (λ (one : List ℕ). one ∷ map f (drop (i + 1) all)) (sym is)

pub lid_there : {X : Type 0} (f : X → List ℕ) (all : List X) (i : ℕ) (item : X) (lid : List ℕ) → i < length all → item ≡ get_or all i item → lid ≡ f item → Contains (map f all) lid
lid_there {X} f all i item lid within at is =
    (i, subst (λ (count : ℕ). i < count) (sym (length-map all f)) within, get_or-map f all i item lid within ∙ sym (ap f at) ∙ sym is)

-- a file that is read for one of them
pub named_of : (contents : Option FileMap) (lids : List (List ℕ)) (lid : List ℕ) (halt : Halt) → Contains lids lid → TellsName (NamesFile contents lid) halt → TellsName (NamesFileOf contents lids) halt
named_of contents lids lid (halts.Refused why) there is = tt
named_of contents lids lid (halts.FileFault name) there is = (lid, there, is)
named_of contents lids lid halts.Memory there is = tt

-- ---- they have one answer

why_same : (why reason : Refused) → refused why ≡ refused reason → why ≡ reason
why_same why reason e = cc

read_same : (read other : ReadLibrary) → accepted read ≡ accepted other → read ≡ other
read_same read other e = cc

never : {P : Type 0} (why : Refused) (read : ReadLibrary) → refused why ≡ accepted read → P
never why read e = absurd cc

err_same : (why reason : Refused) → why ≡ reason → ◌≡◌ {A = Result Libraries Refused} (Err why) (Err reason)
err_same why reason e = cc

pub answers_are_one : AnswersAreOne
answers_are_one files before [] a b e f = e ∙ sym f
answers_are_one files before (lid ∷ lids) a b (inl (why, is, e)) (inl (reason, also, f)) =
    e ∙ err_same why reason (why_same why reason (verdicts_are_one files before lid (refused why) (refused reason) is also)) ∙ sym f
answers_are_one files before (lid ∷ lids) a b (inl (why, is, e)) (inr (read, also, more)) =
    never why read (verdicts_are_one files before lid (refused why) (accepted read) is also)
answers_are_one files before (lid ∷ lids) a b (inr (read, is, more)) (inl (why, also, e)) =
    never why read (verdicts_are_one files before lid (refused why) (accepted read) also is)
answers_are_one files before (lid ∷ lids) a b (inr (read, is, more)) (inr (other, also, others)) =
    let same : read ≡ other = read_same read other (verdicts_are_one files before lid (accepted read) (accepted other) is also) in
    answers_are_one files (with_read before read) lids a b more
    (subst (λ (r : ReadLibrary). AreRead files (with_read before r) lids b) (sym same) others)

-- ---- they are accepted

accepted_from : (files : FileMap) (lids : List (List ℕ)) (before : Libraries) (result : Result Libraries Refused) (libraries : Libraries) → AreAccepted before → AreRead files before lids result → result ≡ Ok libraries → AreAccepted libraries
accepted_from files [] before result libraries are is ok =
    let same : ◌≡◌ {A = Result Libraries Refused} (Ok before) (Ok libraries) = sym is ∙ ok in
    let one : before ≡ libraries = cc in
    subst AreAccepted one are
accepted_from files (lid ∷ lids) before result libraries are (inl (why, is, e)) ok = absurd cc
accepted_from files (lid ∷ lids) before result libraries are (inr (read, is, more)) ok =
    accepted_from files lids (with_read before read) result libraries (one_more before read are (accepted_so files before lid read is)) more ok

pub read_are_accepted : ReadAreAccepted
read_are_accepted files lids libraries is = accepted_from files lids built_in (Ok libraries) libraries none_read is refl

pub read_are_libraries : ReadAreLibraries
read_are_libraries files lids libraries is = accepted_are_libraries libraries (read_are_accepted files lids libraries is)
