-- What the LID file of an accepted library says.
use Rattle.std.proofs.Common.{◌≡◌, ℕ, Bool, true, false, List, Option, Some, None, Ok, refl, subst, inl, inr}
use Rattle.std.specs.Prelude.{nat_le, map}
use Rattle.dy_base.specs.Folding.{folded}
use Rattle.dy_base.proofs.Letters.{folded-twice}
use Rattle.dy_io.specs.Files.{FileMap}
use Rattle.dy_lexer.specs.declared.source.Lid.{Lid}
use Rattle.dy_lexer.specs.Headers.{trimmed}
use Rattle.dy_lexer.specs.Sources.{lid_from, lid}
use Rattle.dy_libraries.specs.declared.libraries.Libraries.{Libraries}
use Rattle.dy_verdict.specs.declared.library.ReadLibrary.{ReadLibrary}
use Rattle.dy_verdict.specs.Verdicts as verdicts
use Rattle.dy_sources.specs.declared.refused.Refused.{Refused}
use Rattle.dy_sources.specs.Layout.{files_limit, source_name}
use Rattle.dy_sources.specs.Refusals.{no_file, long_file, many_files, many_libraries}
use Rattle.dy_sources.specs.Libraries.{IsAccepted}
use Rattle.dy_sources.specs.Verdicts.{Source, absent, too_long, text, source_at, Verdict, refused, accepted, located, position_in_lid, located_verdict, is_full, JudgesTexts, JudgesRoom, JudgesFiles, JudgesForm, JudgesFew, JudgesSource, IsVerdict}

never : {P : Type 0} (read : ReadLibrary) (why : Refused) → accepted read ≡ refused why → P
never read why e = absurd cc

located_read : (library : List ℕ) (names texts : List (List ℕ)) (judged : verdicts.Verdict) (read : ReadLibrary) → accepted read ≡ located_verdict library names texts judged → judged ≡ verdicts.accepted read
located_read library names texts (verdicts.refused fault) read e = absurd cc
located_read library names texts (verdicts.accepted other) read e = cc

-- the library that a LID file names is in lower case
lower_lid : (name : Option (List ℕ)) (files : Option (List (List ℕ))) (fault : Option ℕ) (found : Lid) → lid_from name files fault ≡ Ok found → folded found.library ≡ found.library
lower_lid None files fault found e = absurd cc
lower_lid (Some value) None fault found e = absurd cc
lower_lid (Some value) (Some names) (Some at) found e = absurd cc
lower_lid (Some value) (Some names) None found e =
    let same : lid (folded (trimmed value)) names ≡ found = cc in
    subst (λ (l : Lid). folded l.library ≡ l.library) same (folded-twice (trimmed value))

module _ (before : Libraries) (read : ReadLibrary) where
  texts_accepted : (library : List ℕ) (names texts : List (List ℕ)) → folded library ≡ library → is_full before ≡ false → JudgesTexts before library names texts (accepted read) → IsAccepted before read
  texts_accepted library names texts lower room (judged, is, e) = record {
    library = library;
    texts = texts;
    lower = lower;
    judged = subst (verdicts.IsVerdict before.compiled library texts) (located_read library names texts judged read e) is;
    room = room;
  }

  room_accepted : (full : Bool) (library : List ℕ) (names texts : List (List ℕ)) → folded library ≡ library → is_full before ≡ full → JudgesRoom before full library names texts (accepted read) → IsAccepted before read
  room_accepted true library names texts lower same e = never read (many_libraries library names) e
  room_accepted false library names texts lower same judged = texts_accepted library names texts lower same judged

  files_accepted : (files : FileMap) (library : List ℕ) (names : List (List ℕ)) → folded library ≡ library → JudgesFiles before files library names (accepted read) → IsAccepted before read
  files_accepted files library names lower (inl (why, is, e)) = never read why e
  files_accepted files library names lower (inr (texts, are, judged)) = room_accepted (is_full before) library names texts lower refl judged

  form_accepted : (files : FileMap) (lid bytes : List ℕ) → JudgesForm before files lid bytes (accepted read) → IsAccepted before read
  form_accepted files lid bytes (inl (fault, is, e)) = never read (located lid (position_in_lid lid bytes fault.place) fault) e
  form_accepted files lid bytes (inr (found, is, judged)) =
      files_accepted files found.library (map (source_name lid) found.files) (lower_lid is.head.name is.head.files is.head.fault found is.values) judged

  few_accepted : (few : Bool) (files : FileMap) (lid bytes : List ℕ) → JudgesFew before few files lid bytes (accepted read) → IsAccepted before read
  few_accepted false files lid bytes e = never read (many_files lid) e
  few_accepted true files lid bytes judged = form_accepted files lid bytes judged

  source_accepted : (files : FileMap) (lid : List ℕ) (source : Source) → JudgesSource before files lid source (accepted read) → IsAccepted before read
  source_accepted files lid absent e = never read (no_file lid lid) e
  source_accepted files lid too_long e = never read (long_file lid lid) e
  source_accepted files lid (text bytes) (count, names, judged) = few_accepted (nat_le count files_limit) files lid bytes judged

-- A library that LID files come to is accepted.
pub accepted_so : (files : FileMap) (before : Libraries) (lid : List ℕ) (read : ReadLibrary) → IsVerdict files before lid (accepted read) → IsAccepted before read
accepted_so files before lid read is = source_accepted before read files lid (source_at files lid) is
