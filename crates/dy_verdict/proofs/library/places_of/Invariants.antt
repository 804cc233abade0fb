use Rattle.std.proofs.Common.{◌≡◌, take, get_or, None}
use Rattle.dy_views.specs.Views.{places_by}
use Rattle.dy_verdict.proofs.library.places_of.Given as goal

abbrev pub invariant-loop-library : goal.invariant-loop-library
invariant-loop-library l = l.found ≡ places_by (λ library. get_or l.places library None) (take l.library-index l.libraries)
