-- The line of a refusal (own).
use Rattle.std.specs.Prelude.{ℕ, List, [], ◌∷◌, ◌++◌, Option, Some, None, codes, decimal}
use Rattle.std.specs.Prelude.{if◌then◌else◌, slice_get}
use Rattle.std.specs.Option.{option_map}
use Rattle.dy_base.specs.Folding.{folded}
use Rattle.dy_base.specs.Kinds.{code_of, name_of}
use Rattle.dy_base.specs.declared.kind.Kind.{Kind}
use Rattle.dy_base.specs.declared.kind.Kind.TheVariants.{NoFile, Limit, UnknownLibrary}
use Rattle.dy_sources.specs.Layout.{is_same}
use Rattle.dy_sources.specs.Points.{start}
use Rattle.dy_sources.specs.declared.point.Point.{Point}
use Rattle.dy_sources.specs.declared.refused.Position.{Position}
use Rattle.dy_sources.specs.declared.refused.Refused.{Refused}

abbrev pub position_text : Option Position → List ℕ
position_text None = []
position_text (Some at) =
    codes " at " ++ at.file ++ codes ":" ++ decimal at.line ++ codes ":" ++ decimal at.column

abbrev pub spaced : List (List ℕ) → List ℕ
spaced [] = []
spaced (item ∷ items) = codes " " ++ item ++ spaced items

abbrev pub shown_text : List (List ℕ) → List ℕ
shown_text [] = []
shown_text (item ∷ items) = codes ":" ++ spaced (item ∷ items)

-- the number and the name of a kind
abbrev pub kind_text : Kind → List ℕ
kind_text kind = decimal (code_of kind) ++ codes " " ++ name_of kind

-- `refused SUBJECT: NUMBER NAME at FILE:LINE:COLUMN: ITEMS`
abbrev pub refusal_line : Refused → List ℕ
refusal_line refused =
    codes "refused " ++ refused.subject ++ codes ": " ++ kind_text refused.kind
    ++ position_text refused.position ++ shown_text refused.shown ++ codes "\n"

-- A file is absent. It is shown, but where it is the subject itself.
abbrev pub no_file : List ℕ → List ℕ → Refused
no_file subject file =
    record {
      kind = NoFile;
      subject = subject;
      position = None;
      shown = if is_same file subject then [] else file ∷ [];
    }

abbrev pub position_at : List ℕ → Point → Position
position_at file point = record { file = file; line = point.line; column = point.column }

-- the begin of a file
abbrev pub begin_of : List ℕ → Position
begin_of file = position_at file start

-- A limit is passed, which is shown with its number.
abbrev pub past_limit : List ℕ → Option Position → List ℕ → List ℕ → Refused
past_limit subject position quantity most =
    record {
      kind = Limit;
      subject = subject;
      position = position;
      shown = quantity ∷ most ∷ [];
    }

-- A file is over a limit. The place is the file's begin.
abbrev pub over_limit : List ℕ → List ℕ → List ℕ → List ℕ → Refused
over_limit subject file quantity most = past_limit subject (Some (begin_of file)) quantity most

-- A file is longer than a file may be.
abbrev pub long_file : List ℕ → List ℕ → Refused
long_file subject file = over_limit subject file (codes "file") (codes "4194304")

-- A LID file names more files than it may.
abbrev pub many_files : List ℕ → Refused
many_files lid = over_limit lid lid (codes "files") (codes "64")

-- A command has no room for this library, whose files have these names. The place is the begin of
-- the first of them.
abbrev pub many_libraries : List ℕ → List (List ℕ) → Refused
many_libraries library names =
    past_limit library (option_map begin_of (slice_get names 0)) (codes "libraries") (codes "64")

-- A command has no library of the name that it is to run.
abbrev pub unknown_main : List ℕ → Refused
unknown_main name =
    record {
      kind = UnknownLibrary;
      subject = folded name;
      position = None;
      shown = folded name ∷ [];
    }
