-- Verdicts are put together from those on the parts of a library.
use Rattle.std.proofs.Common.{◌≡◌, ℕ, ◌≤◌, ◌<◌, Bool, true, false, List, Result, Ok, Err, Some, refl, sym, ap, subst, inl, inr}
use Rattle.std.specs.Prelude.{nat_le}
use Rattle.std.proofs.lemmas.Bool.{le-leb, lt-leb}
use Rattle.dy_base.specs.declared.fault.Fault.{Fault}
use Rattle.dy_io.specs.Files.{FileMap}
use Rattle.dy_lexer.specs.Sources.{IsLidFault}
use Rattle.dy_lid_files.specs.Names.{NamesFiles}
use Rattle.dy_libraries.specs.declared.libraries.Libraries.{Libraries}
use Rattle.dy_verdict.specs.declared.library.ReadLibrary.{ReadLibrary}
use Rattle.dy_sources.specs.declared.refused.Refused.{Refused}
use Rattle.dy_sources.specs.declared.source.Halt.{Halt}
use Rattle.dy_sources.specs.declared.source.Halt.TheVariants as halts
use Rattle.dy_sources.specs.Layout.{files_limit}
use Rattle.dy_sources.specs.Refusals.{no_file, long_file, many_files, many_libraries}
use Rattle.dy_sources.specs.Judged.{Judged, IsRead, FilesAreRead}
use Rattle.dy_sources.specs.Verdicts.{Source, absent, too_long, text, source_at, source_fault, Verdict, refused, located, position_in_lid, AreTexts, is_full, JudgesTexts, JudgesRoom, JudgesFiles, JudgesForm, JudgesFew, JudgesLid, JudgesSource, IsVerdict}

-- what is judged so, where this says the other
judged_so : (judges others : Verdict → Type 0) → ((verdict : Verdict) → judges verdict → others verdict) → (result : Result ReadLibrary Halt) → Judged judges result → Judged others result
judged_so judges others says (Ok library) judged = says _ judged
judged_so judges others says (Err (halts.Refused why)) judged = says (refused why) judged
judged_so judges others says (Err (halts.FileFault name)) judged = tt
judged_so judges others says (Err halts.Memory) judged = tt

-- ---- source files

-- one of them is no text
pub none_read : (before : Libraries) (held : FileMap) (library : List ℕ) (names : List (List ℕ)) (halt : Halt) → FilesAreRead held library names (Err halt) → Judged (JudgesFiles before held library names) (Err halt)
none_read before held library names (halts.Refused why) is = inl (why, is, refl)
none_read before held library names (halts.FileFault name) is = tt
none_read before held library names halts.Memory is = tt

-- all are texts, by whether there is room for one more library
pub full_judged : (before : Libraries) (library : List ℕ) (names texts : List (List ℕ)) (why : Refused) → is_full before ≡ true → why ≡ many_libraries library names → Judged (JudgesRoom before (is_full before) library names texts) (Err (halts.Refused why))
full_judged before library names texts why full is = subst (λ (b : Bool). JudgesRoom before b library names texts (refused why)) (sym full) (ap refused is)

pub room_judged : (before : Libraries) (library : List ℕ) (names texts : List (List ℕ)) (result : Result ReadLibrary Halt) → is_full before ≡ false → Judged (JudgesTexts before library names texts) result → Judged (JudgesRoom before (is_full before) library names texts) result
room_judged before library names texts result room judged =
    judged_so (JudgesTexts before library names texts) (JudgesRoom before (is_full before) library names texts)
    (λ verdict is. subst (λ (b : Bool). JudgesRoom before b library names texts verdict) (sym room) is) result judged

-- all are texts
pub texts_read : (before : Libraries) (held : FileMap) (library : List ℕ) (names texts : List (List ℕ)) (result : Result ReadLibrary Halt) → AreTexts held names texts → Judged (JudgesRoom before (is_full before) library names texts) result → Judged (JudgesFiles before held library names) result
texts_read before held library names texts result are judged =
    judged_so (JudgesRoom before (is_full before) library names texts) (JudgesFiles before held library names) (λ verdict is. inr (texts, are, is)) result judged

-- ---- LID files

-- it is out of form
pub lid_refused : (before : Libraries) (held : FileMap) (lid bytes : List ℕ) (fault : Fault) (why : Refused) → IsLidFault bytes fault → why ≡ located lid (position_in_lid lid bytes fault.place) fault → JudgesForm before held lid bytes (refused why)
lid_refused before held lid bytes fault why is told = inl (fault, is, ap refused told)

-- it names so many files
pub counted : (before : Libraries) (held : FileMap) (lid bytes : List ℕ) (count : ℕ) (few : Bool) (result : Result ReadLibrary Halt) → NamesFiles bytes count → nat_le count files_limit ≡ few → Judged (JudgesFew before few held lid bytes) result → Judged (JudgesLid before held lid bytes) result
counted before held lid bytes count few result names is judged =
    judged_so (JudgesFew before few held lid bytes) (JudgesLid before held lid bytes)
    (λ verdict few_or_many. (count, names, subst (λ (b : Bool). JudgesFew before b held lid bytes verdict) (sym is) few_or_many)) result judged

-- it is no text
absent_judged : (before : Libraries) (held : FileMap) (lid : List ℕ) (source : Source) (why : Refused) → source_fault lid lid source ≡ Some why → JudgesSource before held lid source (refused why)
absent_judged before held lid absent why is = let same : no_file lid lid ≡ why = cc in ap refused (sym same)
absent_judged before held lid too_long why is = let same : long_file lid lid ≡ why = cc in ap refused (sym same)
absent_judged before held lid (text bytes) why is = absurd cc

pub lid_unread : (before : Libraries) (held : FileMap) (lid : List ℕ) (halt : Halt) → IsRead lid lid (source_at held lid) (Err halt) → Judged (IsVerdict held before lid) (Err halt)
lid_unread before held lid (halts.Refused why) is = absent_judged before held lid (source_at held lid) why is
lid_unread before held lid (halts.FileFault name) is = tt
lid_unread before held lid halts.Memory is = tt

-- it is this text
pub text_judged : (before : Libraries) (held : FileMap) (lid bytes : List ℕ) (result : Result ReadLibrary Halt) → source_at held lid ≡ text bytes → Judged (JudgesLid before held lid bytes) result → Judged (IsVerdict held before lid) result
text_judged before held lid bytes result is judged =
    judged_so (JudgesLid before held lid bytes) (IsVerdict held before lid) (λ verdict so. subst (λ (source : Source). JudgesSource before held lid source verdict) (sym is) so) result judged

-- it names no more files than it may
pub few_judged : (before : Libraries) (held : FileMap) (lid bytes : List ℕ) (count : ℕ) (result : Result ReadLibrary Halt) → NamesFiles bytes count → count ≤ files_limit → Judged (JudgesForm before held lid bytes) result → Judged (JudgesLid before held lid bytes) result
few_judged before held lid bytes count result names few judged = counted before held lid bytes count true result names (le-leb count files_limit few) judged

-- it names more
pub many_judged : (before : Libraries) (held : FileMap) (lid bytes : List ℕ) (count : ℕ) (why : Refused) → NamesFiles bytes count → files_limit < count → why ≡ many_files lid → Judged (JudgesLid before held lid bytes) (Err (halts.Refused why))
many_judged before held lid bytes count why names more told = counted before held lid bytes count false (Err (halts.Refused why)) names (lt-leb count files_limit more) (ap refused told)
