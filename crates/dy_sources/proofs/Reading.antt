-- Files are read one after the other.
use Rattle.std.proofs.Common.{◌≡◌, ℕ, zero, suc, ◌+◌, ◌<◌, ◌≤◌, Bool, true, false, ◌&&◌, List, [], ◌∷◌, ◌++◌, length, take, drop, get_or, Some, None, Err, refl, sym, ap, ◌∙◌, subst, append_assoc, arith}
use Rattle.std.specs.Prelude.{nat_le, map, slice_get}
use Rattle.std.specs.List.{list_all}
use Rattle.std.specs.Option.{option_map}
use Rattle.std.proofs.lemmas.Bool.{le-leb, leb-true}
use Rattle.std.proofs.lemmas.List.{length-append, map-append, take_more, take-append-drop, take_all}
use Rattle.std.proofs.lemmas.List.Folds.{list_all-append, list_all_at}
use Rattle.dy_io.specs.Files.{FileMap}
use Rattle.dy_lexer.specs.Headers.{is_printable, are_printable}
use Rattle.dy_library_modules.specs.Texts.{AreShort, AreFew}
use Rattle.dy_sources.specs.declared.refused.Refused.{Refused}
use Rattle.dy_sources.specs.Layout.{file_limit, files_limit, source_name}
use Rattle.dy_sources.specs.Points.{point_at}
use Rattle.dy_sources.specs.Refusals.{position_at}
use Rattle.dy_sources.specs.declared.source.Halt.{Halt}
use Rattle.dy_sources.specs.declared.source.Halt.TheVariants as halts
use Rattle.dy_sources.specs.Judged.{IsSourceOf, AreWithin, IsRead, FilesAreRead}
use Rattle.dy_sources.specs.Verdicts.{text, source_at, source_fault, position_in, AreTexts, IsFirstFault}

-- ---- one more text

texts_pushed : (held : FileMap) (names texts : List (List ℕ)) (name bytes : List ℕ) → AreTexts held names texts → source_at held name ≡ text bytes → AreTexts held (names ++ name ∷ []) (texts ++ bytes ∷ [])
texts_pushed held names texts name bytes are is =
    map-append (source_at held) names (name ∷ [])
    ∙ rw (are, is) refl
    ∙ sym (map-append text texts (bytes ∷ []))

names_more : (lid : List ℕ) (names : List (List ℕ)) (i : ℕ) (file : List ℕ) → i < length names → get_or names i file ≡ file
    → map (source_name lid) (take (i + 1) names) ≡ map (source_name lid) (take i names) ++ source_name lid file ∷ []
names_more lid names i file within is =
    ap (map (source_name lid)) (take_more names i file within ∙ ap (λ (x : List ℕ). take i names ++ x ∷ []) is)
    ∙ map-append (source_name lid) (take i names) (file ∷ [])

-- the next file is a text
pub next_read : (held : FileMap) (lid : List ℕ) (names texts : List (List ℕ)) (i : ℕ) (file bytes : List ℕ) → i < length names → get_or names i file ≡ file
    → AreTexts held (map (source_name lid) (take i names)) texts → source_at held (source_name lid file) ≡ text bytes
    → AreTexts held (map (source_name lid) (take (i + 1) names)) (texts ++ bytes ∷ [])
next_read held lid names texts i file bytes within at are is =
    subst (λ (ns : List (List ℕ)). AreTexts held ns (texts ++ bytes ∷ [])) (sym (names_more lid names i file within at))
    (texts_pushed held (map (source_name lid) (take i names)) texts (source_name lid file) bytes are is)

-- or it is the first that is none
pub first_read : (held : FileMap) (lid library : List ℕ) (names texts : List (List ℕ)) (i : ℕ) (file : List ℕ) (why : Refused) → i < length names → get_or names i file ≡ file
    → AreTexts held (map (source_name lid) (take i names)) texts → source_fault library (source_name lid file) (source_at held (source_name lid file)) ≡ Some why
    → IsFirstFault held library (map (source_name lid) names) why
first_read held lid library names texts i file why within at are is = (
  map (source_name lid) (take i names),
  source_name lid file,
  map (source_name lid) (drop (i + 1) names),
  ap (map (source_name lid)) (sym (take-append-drop (i + 1) names))
      ∙ map-append (source_name lid) (take (i + 1) names) (drop (i + 1) names)
      ∙ ap (λ (ns : List (List ℕ)). ns ++ map (source_name lid) (drop (i + 1) names)) (names_more lid names i file within at)
      ∙ append_assoc (map (source_name lid) (take i names)) (source_name lid file ∷ []) (map (source_name lid) (drop (i + 1) names)),
  (texts, are),
  is,
)

-- so reading it ends the reading of all
pub err_read : (held : FileMap) (lid library : List ℕ) (names texts : List (List ℕ)) (i : ℕ) (file name : List ℕ) (halt : Halt) → i < length names → file ≡ get_or names i file
    → AreTexts held (map (source_name lid) (take i names)) texts → name ≡ source_name lid file → IsRead library name (source_at held name) (Err halt) → FilesAreRead held library (map (source_name lid) names) (Err halt)
err_read held lid library names texts i file name (halts.Refused why) within at are same is =
    first_read held lid library names texts i file why within (sym at) are (subst (λ (n : List ℕ). source_fault library n (source_at held n) ≡ Some why) same is)
err_read held lid library names texts i file name (halts.FileFault other) within at are same is = tt
err_read held lid library names texts i file name halts.Memory within at are same is = tt

-- all are texts
pub all_read : (held : FileMap) (lid : List ℕ) (names texts : List (List ℕ)) (i : ℕ) → length names ≤ i → AreTexts held (map (source_name lid) (take i names)) texts → AreTexts held (map (source_name lid) names) texts
all_read held lid names texts i whole are = subst (λ (ns : List (List ℕ)). AreTexts held (map (source_name lid) ns) texts) (take_all i names whole) are

-- ---- names

printable_at : (names : List (List ℕ)) (i : ℕ) (file : List ℕ) → i < length names → are_printable names ≡ true → is_printable (get_or names i file) ≡ true
printable_at names i file within all = go (is_printable (get_or names i file)) refl
  where
    go : (t : Bool) → is_printable (get_or names i file) ≡ t → t ≡ true
    go true e = refl
    go false e = let none : are_printable names ≡ false = list_all_at is_printable names i file within e in absurd cc

pub printable_file : (names : List (List ℕ)) (i : ℕ) (file : List ℕ) → i < length names → get_or names i file ≡ file → are_printable names ≡ true → is_printable file ≡ true
printable_file names i file within at all = ap is_printable (sym at) ∙ printable_at names i file within all

pub file_of : (lid : List ℕ) (names : List (List ℕ)) (i : ℕ) (file : List ℕ) → i < length names → get_or names i file ≡ file → are_printable names ≡ true → IsSourceOf lid names (source_name lid file)
file_of lid names i file within at all = (file, (i, within, at), printable_file names i file within at all, refl)

-- ---- sizes

both : (first rest : Bool) → (first && rest) ≡ true → (first ≡ true) × (rest ≡ true)
both true rest h = (refl, h)
both false rest h = absurd cc

abbrev is_within : List ℕ → Bool
is_within bytes = nat_le (length bytes) file_limit

pub within_pushed : (texts : List (List ℕ)) (bytes : List ℕ) (count : ℕ) → AreWithin count texts → length bytes ≤ file_limit → AreWithin (count + 1) (texts ++ bytes ∷ [])
within_pushed texts bytes count (short, size) fits =
    let one : is_within bytes ≡ true = le-leb (length bytes) file_limit fits in
    (rw (list_all-append is_within texts (bytes ∷ []), short, one) refl, omega (arith, length-append texts (bytes ∷ [])))

all_short : (texts : List (List ℕ)) → list_all is_within texts ≡ true → AreShort texts
all_short [] h k d low = absurd (omega (arith, low))
all_short (bytes ∷ texts) h zero d low =
    let here = (both (is_within bytes) (list_all is_within texts) h).0 in
    omega (arith, leb-true (length bytes) file_limit here)
all_short (bytes ∷ texts) h (suc k) d low =
    all_short texts (both (is_within bytes) (list_all is_within texts) h).1 k d (omega (arith, low))

-- No text is longer than files may be.
pub short_texts : (texts : List (List ℕ)) (count : ℕ) → AreWithin count texts → AreShort texts
short_texts texts count (within, size) = all_short texts within

-- There are no more than a LID file may name.
pub few_texts : (texts : List (List ℕ)) (count : ℕ) → AreWithin count texts → count ≤ files_limit → AreFew texts
few_texts texts count (within, size) few = omega arith

-- ---- places

pub slice_get-map : (names : List (List ℕ)) (f : List ℕ → List ℕ) (i : ℕ) → slice_get (map f names) i ≡ option_map f (slice_get names i)
slice_get-map [] f i = refl
slice_get-map (name ∷ names) f zero = refl
slice_get-map (name ∷ names) f (suc i) = slice_get-map names f i

pub printable_got : (names : List (List ℕ)) (i : ℕ) (file : List ℕ) → slice_get names i ≡ Some file → are_printable names ≡ true → is_printable file ≡ true
printable_got [] i file e all = absurd cc
printable_got (name ∷ names) zero file e all =
    let same : name ≡ file = cc in
    ap is_printable (sym same) ∙ (both (is_printable name) (are_printable names) all).0
printable_got (name ∷ names) (suc i) file e all = printable_got names i file e (both (is_printable name) (are_printable names) all).1

-- the place in a file of a name in the LID file
pub place_got : (lid : List ℕ) (names texts : List (List ℕ)) (i offset : ℕ) (file bytes : List ℕ) → slice_get names i ≡ Some file → slice_get texts i ≡ Some bytes
    → position_in (slice_get (map (source_name lid) names) i) (slice_get texts i) offset ≡ Some (position_at (source_name lid file) (point_at bytes offset))
place_got lid names texts i offset file bytes e f = rw (slice_get-map names (source_name lid) i, e, f) refl

-- there is no such file
pub no_name : (lid : List ℕ) (names texts : List (List ℕ)) (i offset : ℕ) → slice_get names i ≡ None → position_in (slice_get (map (source_name lid) names) i) (slice_get texts i) offset ≡ None
no_name lid names texts i offset e = rw (slice_get-map names (source_name lid) i, e) refl

pub no_text : (lid : List ℕ) (names texts : List (List ℕ)) (i offset : ℕ) (file : List ℕ) → slice_get names i ≡ Some file → slice_get texts i ≡ None → position_in (slice_get (map (source_name lid) names) i) (slice_get texts i) offset ≡ None
no_text lid names texts i offset file e f = rw (slice_get-map names (source_name lid) i, e, f) refl
