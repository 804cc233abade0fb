use Rattle.std.proofs.Common.{◌≡◌, map}
use Rattle.std.specs.Prelude.{None}
use Rattle.dy_library_rows.specs.Libraries.{seen_form}
use Rattle.dy_verdict.specs.Pieces.{seen_piece}
use Rattle.dy_verdict.specs.Forms.{first_refused, forms_of}
use Rattle.dy_verdict.proofs.forms.forms_of.Given as goal

abbrev pub invariant-loop-piece : goal.invariant-loop-piece
invariant-loop-piece l = record {
  fine : first_refused (map seen_piece l.yielded) ≡ None;
  read : map seen_form l.forms.items ≡ forms_of (map seen_piece l.yielded);
}
