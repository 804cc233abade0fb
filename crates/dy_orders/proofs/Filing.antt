-- The library of a LID file that is accepted is accepted behind others, where its texts are.
use Rattle.std.proofs.Common.{◌≡◌, ℕ, Bool, true, false, List, Option, Some, None, Ok, refl, sym, subst, inl, inr}
use Rattle.std.specs.Prelude.{nat_le, map}
use Rattle.dy_base.specs.Folding.{folded}
use Rattle.dy_base.proofs.Letters.{folded-twice}
use Rattle.dy_io.specs.Files.{FileMap}
use Rattle.dy_lexer.specs.declared.source.Lid.{Lid}
use Rattle.dy_lexer.specs.Headers.{trimmed}
use Rattle.dy_lexer.specs.Sources.{lid_from, lid}
use Rattle.dy_libraries.specs.declared.libraries.Libraries.{Libraries}
use Rattle.dy_verdict.specs.declared.library.ReadLibrary.{ReadLibrary}
use Rattle.dy_verdict.specs.Verdicts as verdicts
use Rattle.dy_sources.specs.declared.refused.Refused.{Refused}
use Rattle.dy_sources.specs.Layout.{files_limit, source_name}
use Rattle.dy_sources.specs.Refusals.{no_file, long_file, many_files, many_libraries}
use Rattle.dy_sources.specs.Verdicts.{Source, absent, too_long, text, source_at, refused, accepted, located, position_in_lid, located_verdict, is_full, JudgesTexts, JudgesRoom, JudgesFiles, JudgesNames, JudgesForm, JudgesFew, JudgesLid, JudgesSource, IsVerdict}

never : {P : Type 0} (read : ReadLibrary) (why : Refused) → accepted read ≡ refused why → P
never read why e = absurd cc

located_read : (library : List ℕ) (names texts : List (List ℕ)) (judged : verdicts.Verdict) (read : ReadLibrary) → accepted read ≡ located_verdict library names texts judged → judged ≡ verdicts.accepted read
located_read library names texts (verdicts.refused fault) read e = absurd cc
located_read library names texts (verdicts.accepted other) read e = cc

-- the library that a LID file names is in lower case
lower_lid : (name : Option (List ℕ)) (files : Option (List (List ℕ))) (fault : Option ℕ) (found : Lid) → lid_from name files fault ≡ Ok found → folded found.library ≡ found.library
lower_lid None files fault found e = absurd cc
lower_lid (Some value) None fault found e = absurd cc
lower_lid (Some value) (Some names) (Some at) found e = absurd cc
lower_lid (Some value) (Some names) None found e =
    let same : lid (folded (trimmed value)) names ≡ found = cc in
    subst (λ (l : Lid). folded l.library ≡ l.library) same (folded-twice (trimmed value))

-- The texts of a library, which is named in lower case; and where these are accepted behind others,
-- which have room, so it is of the files.
abbrev pub Filed : Libraries → ReadLibrary → (Libraries → ReadLibrary → Type 0) → Type 0
Filed before read judges = (library : List ℕ) × (texts : List (List ℕ)) × (folded library ≡ library)
    × verdicts.IsVerdict before.compiled library texts (verdicts.accepted read)
    × ((other : Libraries) (new : ReadLibrary) → is_full other ≡ false → verdicts.IsVerdict other.compiled library texts (verdicts.accepted new) → judges other new)

filed_more : (before : Libraries) (read : ReadLibrary) (P Q : Libraries → ReadLibrary → Type 0) → ((other : Libraries) (new : ReadLibrary) → P other new → Q other new) → Filed before read P → Filed before read Q
filed_more before read P Q so (library, texts, lower, judged, again) = (library, texts, lower, judged, λ other new room is. so other new (again other new room is))

module _ (before : Libraries) (read : ReadLibrary) where
  texts_filed : (library : List ℕ) (names texts : List (List ℕ)) → folded library ≡ library → JudgesTexts before library names texts (accepted read)
      → Filed before read (λ other new. JudgesRoom other (is_full other) library names texts (accepted new))
  texts_filed library names texts lower (judged, is, e) = (
    library,
    texts,
    lower,
    subst (verdicts.IsVerdict before.compiled library texts) (located_read library names texts judged read e) is,
    λ other new room so. subst (λ (full : Bool). JudgesRoom other full library names texts (accepted new)) (sym room) (verdicts.accepted new, so, refl),
  )

  room_filed : (full : Bool) (library : List ℕ) (names texts : List (List ℕ)) → folded library ≡ library → JudgesRoom before full library names texts (accepted read)
      → Filed before read (λ other new. JudgesRoom other (is_full other) library names texts (accepted new))
  room_filed true library names texts lower e = never read (many_libraries library names) e
  room_filed false library names texts lower judged = texts_filed library names texts lower judged

  files_filed : (files : FileMap) (library : List ℕ) (names : List (List ℕ)) → folded library ≡ library → JudgesFiles before files library names (accepted read)
      → Filed before read (λ other new. JudgesFiles other files library names (accepted new))
  files_filed files library names lower (inl (why, is, e)) = never read why e
  files_filed files library names lower (inr (texts, are, judged)) =
      filed_more before read (λ other new. JudgesRoom other (is_full other) library names texts (accepted new)) (λ other new. JudgesFiles other files library names (accepted new))
      (λ other new so. inr (texts, are, so)) (room_filed (is_full before) library names texts lower judged)

  form_filed : (files : FileMap) (lid bytes : List ℕ) → JudgesForm before files lid bytes (accepted read) → Filed before read (λ other new. JudgesForm other files lid bytes (accepted new))
  form_filed files lid bytes (inl (fault, is, e)) = never read (located lid (position_in_lid lid bytes fault.place) fault) e
  form_filed files lid bytes (inr (found, is, judged)) =
      filed_more before read (λ other new. JudgesNames other files lid found.library found.files (accepted new)) (λ other new. JudgesForm other files lid bytes (accepted new))
      (λ other new so. inr (found, is, so))
      (files_filed files found.library (map (source_name lid) found.files) (lower_lid is.head.name is.head.files is.head.fault found is.values) judged)

  few_filed : (few : Bool) (files : FileMap) (lid bytes : List ℕ) → JudgesFew before few files lid bytes (accepted read) → Filed before read (λ other new. JudgesFew other few files lid bytes (accepted new))
  few_filed false files lid bytes e = never read (many_files lid) e
  few_filed true files lid bytes judged = form_filed files lid bytes judged

  source_filed : (files : FileMap) (lid : List ℕ) (source : Source) → JudgesSource before files lid source (accepted read) → Filed before read (λ other new. JudgesSource other files lid source (accepted new))
  source_filed files lid absent e = never read (no_file lid lid) e
  source_filed files lid too_long e = never read (long_file lid lid) e
  source_filed files lid (text bytes) (count, names, judged) =
      filed_more before read (λ other new. JudgesFew other (nat_le count files_limit) files lid bytes (accepted new)) (λ other new. JudgesLid other files lid bytes (accepted new))
      (λ other new so. (count, names, so)) (few_filed (nat_le count files_limit) files lid bytes judged)

pub filed : (files : FileMap) (before : Libraries) (lid : List ℕ) (read : ReadLibrary) → IsVerdict files before lid (accepted read) → Filed before read (λ other new. IsVerdict files other lid (accepted new))
filed files before lid read is = source_filed before read files lid (source_at files lid) is
