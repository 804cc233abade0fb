use Rattle.std.proofs.Common.{◌≡◌, map, take, get_or, None}
use Rattle.dy_views.specs.Views.{exports_by}
use Rattle.dy_views.proofs.view.used_exports.Given as goal

abbrev pub invariant-loop-library : goal.invariant-loop-library
invariant-loop-library l = l.used.items ≡ map (exports_by (λ library. get_or l.places library None) l.compiled) (take l.library-index l.uses)
