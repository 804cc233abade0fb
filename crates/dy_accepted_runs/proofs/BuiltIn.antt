-- The libraries that are built in are known.
use Rattle.std.proofs.Common.{◌≡◌, ℕ, zero, suc, List, [], ◌∷◌, refl, arith}
use Rattle.dy_prims.specs.Rows.{dylan_row, io_row}
use Rattle.dy_called_generics.proofs.Views.{dylan_calls, io_calls}
use Rattle.dy_module_generics.proofs.BuiltIn.{dylan_is_there, io_is_there}
use Rattle.dy_libraries.specs.Commands.{built_in}
use Rattle.dy_accepted_runs.proofs.Known.{IsKnown, AreKnown}

dylan_known : IsKnown built_in 0
dylan_known = record {
  named = refl;
  scoped = refl;
  lowered = refl;
  mentions = tt;
  calls = dylan_calls (dylan_row ∷ []);
  exports = dylan_is_there [];
}

io_known : IsKnown built_in 1
io_known = record {
  named = refl;
  scoped = refl;
  lowered = refl;
  mentions = tt;
  calls = io_calls (dylan_row ∷ io_row ∷ []);
  exports = io_is_there [];
}

pub built_in_known : AreKnown built_in
built_in_known zero low = dylan_known
built_in_known (suc zero) low = io_known
built_in_known (suc (suc k)) low = absurd (omega (arith, low))
