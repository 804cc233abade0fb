-- A library has one verdict.
use Rattle.std.proofs.Common.{◌≡◌, ℕ, Bool, true, false, List, [], ◌∷◌, ◌++◌, Some, refl, sym, ap, ◌∙◌, subst, inl, inr}
use Rattle.std.specs.Prelude.{nat_le, map}
use Rattle.dy_base.specs.declared.fault.Fault.{Fault}
use Rattle.dy_io.specs.Files.{FileMap}
use Rattle.dy_lexer.specs.declared.source.Lid.{Lid}
use Rattle.dy_lexer.proofs.OneReading.{one_lid, one_lid_fault, lid_or_fault}
use Rattle.dy_lid_files.proofs.Agreement.{names_one}
use Rattle.dy_libraries.specs.declared.libraries.Libraries.{Libraries}
use Rattle.dy_verdict_laws.proofs.Uniqueness.{verdict_one}
use Rattle.dy_sources.specs.declared.refused.Refused.{Refused}
use Rattle.dy_sources.specs.Layout.{files_limit, source_name}
use Rattle.dy_sources.specs.Verdicts.{Source, absent, too_long, text, source_at, source_fault, Verdict, refused, located, position_in_lid, located_verdict, AreTexts, IsFirstFault, is_full, JudgesTexts, JudgesRoom, JudgesFiles, JudgesForm, JudgesFew, JudgesLid, JudgesSource}
use Rattle.dy_sources.specs.Laws.{VerdictsAreOne}

-- ---- the texts of files

abbrev bytes_of : Source → List ℕ
bytes_of absent = []
bytes_of too_long = []
bytes_of (text bytes) = bytes

bytes_back : (texts : List (List ℕ)) → map bytes_of (map text texts) ≡ texts
bytes_back [] = refl
bytes_back (bytes ∷ texts) = ap (λ (rest : List (List ℕ)). bytes ∷ rest) (bytes_back texts)

texts_same : (files : FileMap) (names a b : List (List ℕ)) → AreTexts files names a → AreTexts files names b → a ≡ b
texts_same files names a b is also = sym (bytes_back a) ∙ ap (map bytes_of) (sym is ∙ also) ∙ bytes_back b

texts_one : (before : Libraries) (library : List ℕ) (names texts : List (List ℕ)) (a b : Verdict) → JudgesTexts before library names texts a → JudgesTexts before library names texts b → a ≡ b
texts_one before library names texts a b (judged, is, same) (other, also, equal) = same ∙ ap (located_verdict library names texts) (verdict_one before.compiled library texts judged other is also) ∙ sym equal

room_one : (before : Libraries) (full : Bool) (library : List ℕ) (names texts : List (List ℕ)) (a b : Verdict) → JudgesRoom before full library names texts a → JudgesRoom before full library names texts b → a ≡ b
room_one before true library names texts a b e f = e ∙ sym f
room_one before false library names texts a b is also = texts_one before library names texts a b is also

-- ---- the first file that is no text

-- a file that is no text is no text
no_text : (library name : List ℕ) (source : Source) (why : Refused) (bytes : List ℕ) → source_fault library name source ≡ Some why → source ≡ text bytes → ⊥
no_text library name source why bytes fault is = absurd cc

head_text : (files : FileMap) (name : List ℕ) (names texts : List (List ℕ)) → AreTexts files (name ∷ names) texts → (bytes : List ℕ) × (rest : List (List ℕ)) × (source_at files name ≡ text bytes) × AreTexts files names rest
head_text files name names [] is = absurd cc
head_text files name names (bytes ∷ texts) is = (bytes, texts, cc, cc)

-- no file in front of it is another
first_same : (files : FileMap) (library : List ℕ) (front other : List (List ℕ)) (name file : List ℕ) (behind rest : List (List ℕ)) (why reason : Refused) (texts others : List (List ℕ))
    → front ++ name ∷ behind ≡ other ++ file ∷ rest → AreTexts files front texts → AreTexts files other others
    → source_fault library name (source_at files name) ≡ Some why → source_fault library file (source_at files file) ≡ Some reason → why ≡ reason
first_same files library [] [] name file behind rest why reason texts others parts are also is told =
    let same : name ≡ file = cc in
    let one : Some why ≡ Some reason = sym is ∙ ap (λ (n : List ℕ). source_fault library n (source_at files n)) same ∙ told in
    cc
first_same files library [] (x ∷ other) name file behind rest why reason texts others parts are also is told =
    let same : name ≡ x = cc in
    let (bytes, more, here, later) = head_text files x other others also in
    absurd (no_text library name (source_at files name) why bytes is (ap (source_at files) same ∙ here))
first_same files library (x ∷ front) [] name file behind rest why reason texts others parts are also is told =
    let same : x ≡ file = cc in
    let (bytes, more, here, later) = head_text files x front texts are in
    absurd (no_text library file (source_at files file) reason bytes told (ap (source_at files) (sym same) ∙ here))
first_same files library (x ∷ front) (y ∷ other) name file behind rest why reason texts others parts are also is told =
    let (bytes, more, here, later) = head_text files x front texts are in
    let (others_bytes, others_more, there, others_later) = head_text files y other others also in
    let tails : front ++ name ∷ behind ≡ other ++ file ∷ rest = cc in
    first_same files library front other name file behind rest why reason more others_more tails later others_later is told

first_one : (files : FileMap) (library : List ℕ) (names : List (List ℕ)) (why reason : Refused) → IsFirstFault files library names why → IsFirstFault files library names reason → why ≡ reason
first_one files library names why reason (front, name, behind, parts, (texts, are), is) (other, file, rest, also, (others, alike), told) =
    first_same files library front other name file behind rest why reason texts others (sym parts ∙ also) are alike is told

-- where all are texts, none is first
first_or_texts : (files : FileMap) (library : List ℕ) (front : List (List ℕ)) (name : List ℕ) (behind : List (List ℕ)) (why : Refused) (texts : List (List ℕ))
    → AreTexts files (front ++ name ∷ behind) texts → source_fault library name (source_at files name) ≡ Some why → ⊥
first_or_texts files library [] name behind why texts are is =
    let (bytes, more, here, later) = head_text files name behind texts are in
    no_text library name (source_at files name) why bytes is here
first_or_texts files library (x ∷ front) name behind why texts are is =
    let (bytes, more, here, later) = head_text files x (front ++ name ∷ behind) texts are in
    first_or_texts files library front name behind why more later is

apart : (files : FileMap) (library : List ℕ) (names : List (List ℕ)) (why : Refused) (texts : List (List ℕ)) → IsFirstFault files library names why → AreTexts files names texts → ⊥
apart files library names why texts (front, name, behind, parts, (others, alike), is) are =
    first_or_texts files library front name behind why texts (subst (λ (all : List (List ℕ)). AreTexts files all texts) parts are) is

files_one : (before : Libraries) (files : FileMap) (library : List ℕ) (names : List (List ℕ)) (a b : Verdict) → JudgesFiles before files library names a → JudgesFiles before files library names b → a ≡ b
files_one before files library names a b (inl (why, is, e)) (inl (reason, also, f)) = e ∙ ap refused (first_one files library names why reason is also) ∙ sym f
files_one before files library names a b (inl (why, is, e)) (inr (texts, are, judged)) = absurd (apart files library names why texts is are)
files_one before files library names a b (inr (texts, are, judged)) (inl (why, is, e)) = absurd (apart files library names why texts is are)
files_one before files library names a b (inr (texts, are, judged)) (inr (others, alike, judges)) =
    room_one before (is_full before) library names texts a b judged
    (subst (λ (ts : List (List ℕ)). JudgesRoom before (is_full before) library names ts b) (texts_same files names others texts alike are) judges)

-- ---- LID files

form_one : (before : Libraries) (files : FileMap) (lid bytes : List ℕ) (a b : Verdict) → JudgesForm before files lid bytes a → JudgesForm before files lid bytes b → a ≡ b
form_one before files lid bytes a b (inl (f, is, e)) (inl (g, also, h)) =
    e ∙ ap (λ (fault : Fault). refused (located lid (position_in_lid lid bytes fault.place) fault)) (one_lid_fault bytes f g is also) ∙ sym h
form_one before files lid bytes a b (inl (f, is, e)) (inr (found, also, judged)) = absurd (lid_or_fault bytes found f also is)
form_one before files lid bytes a b (inr (found, is, judged)) (inl (f, also, e)) = absurd (lid_or_fault bytes found f is also)
form_one before files lid bytes a b (inr (found, is, judged)) (inr (other, also, judges)) =
    files_one before files found.library (map (source_name lid) found.files) a b judged
    (subst (λ (l : Lid). JudgesFiles before files l.library (map (source_name lid) l.files) b) (one_lid bytes other found also is) judges)

few_one : (before : Libraries) (few : Bool) (files : FileMap) (lid bytes : List ℕ) (a b : Verdict) → JudgesFew before few files lid bytes a → JudgesFew before few files lid bytes b → a ≡ b
few_one before false files lid bytes a b e f = e ∙ sym f
few_one before true files lid bytes a b e f = form_one before files lid bytes a b e f

lid_one : (before : Libraries) (files : FileMap) (lid bytes : List ℕ) (a b : Verdict) → JudgesLid before files lid bytes a → JudgesLid before files lid bytes b → a ≡ b
lid_one before files lid bytes a b (count, names, judged) (other, also, judges) =
    few_one before (nat_le count files_limit) files lid bytes a b judged
    (subst (λ (n : ℕ). JudgesFew before (nat_le n files_limit) files lid bytes b) (names_one bytes other count also names) judges)

library_one : (before : Libraries) (files : FileMap) (lid : List ℕ) (source : Source) (a b : Verdict) → JudgesSource before files lid source a → JudgesSource before files lid source b → a ≡ b
library_one before files lid absent a b e f = e ∙ sym f
library_one before files lid too_long a b e f = e ∙ sym f
library_one before files lid (text bytes) a b e f = lid_one before files lid bytes a b e f

pub verdicts_are_one : VerdictsAreOne
verdicts_are_one files before lid a b is also = library_one before files lid (source_at files lid) a b is also
