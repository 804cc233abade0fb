-- The definitions at examples, which they compute.
use Rattle.std.proofs.Common.{◌≡◌, false, [], ◌∷◌, Some, None, refl}
use Rattle.std.specs.Prelude.{codes}
use Rattle.std.specs.Fmt.{digits}
use Rattle.dy_lexer.specs.Headers.{is_printable}
use Rattle.dy_sources.specs.Layout.{source_name}
use Rattle.dy_sources.specs.Points.{point_at}
use Rattle.dy_sources.specs.Refusals.{refusal_line, no_file, long_file, many_files, many_libraries, unknown_main}
use Rattle.dy_sources.specs.Verdicts.{position_of}

-- the escape of a line end in a text is the byte 10
line_end : codes "\n" ≡ 10 ∷ []
line_end = refl

control_in_file_name : is_printable (codes "my\nfile") ≡ false
control_in_file_name = refl

beside_lid : source_name (codes "a/b/hello.lid") (codes "library.dylan") ≡ codes "a/b/library.dylan"
beside_lid = refl

absent : refusal_line (no_file (codes "a.lid") (codes "b.dylan")) ≡ codes "refused a.lid: 35 NoFile: b.dylan\n"
unfolding digits
absent = refl

absent_subject : refusal_line (no_file (codes "a.lid") (codes "a.lid")) ≡ codes "refused a.lid: 35 NoFile\n"
unfolding digits
absent_subject = refl

too_long : refusal_line (long_file (codes "hello") (codes "b.dylan")) ≡ codes "refused hello: 31 Limit at b.dylan:1:1: file 4194304\n"
unfolding digits
too_long = refl

too_many : refusal_line (many_files (codes "a.lid")) ≡ codes "refused a.lid: 31 Limit at a.lid:1:1: files 64\n"
unfolding digits
too_many = refl

no_room : refusal_line (many_libraries (codes "hello") (codes "a/b.dylan" ∷ codes "a/c.dylan" ∷ [])) ≡ codes "refused hello: 31 Limit at a/b.dylan:1:1: libraries 64\n"
unfolding digits
no_room = refl

no_room_without_files : refusal_line (many_libraries (codes "hello") []) ≡ codes "refused hello: 31 Limit: libraries 64\n"
unfolding digits
no_room_without_files = refl

no_main : refusal_line (unknown_main (codes "Hello")) ≡ codes "refused hello: 12 UnknownLibrary: hello\n"
unfolding digits
no_main = refl

second_line : point_at (codes "one\n two\n") 5 ≡ record { line = 2; column = 2 }
second_line = refl

after_return : point_at (codes "one\r\ntwo") 5 ≡ record { line = 2; column = 1 }
after_return = refl

second_file : position_of (codes "a.dylan" ∷ codes "b.dylan" ∷ []) (codes "one" ∷ codes "a\nbc" ∷ []) (Some (record { file = 1; offset = 3 })) ≡ Some (record { file = codes "b.dylan"; line = 2; column = 2 })
second_file = refl

-- a place in a file that is not there is none
no_third_file : position_of (codes "a.dylan" ∷ codes "b.dylan" ∷ []) (codes "one" ∷ codes "a\nbc" ∷ []) (Some (record { file = 2; offset = 3 })) ≡ None
no_third_file = refl
