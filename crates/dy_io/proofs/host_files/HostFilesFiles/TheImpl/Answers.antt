use Rattle.std.proofs.Common.{Result, Ok, Err, OnOk, OnErr, refl}
use Rattle.dy_io.proofs.host_files.HostFilesFiles.TheImpl.Goals as goal

claims_nothing_of_ok : {A E : Type 0} (result : Result A E) → OnOk result (Unit {0})
claims_nothing_of_ok (Ok value) = tt
claims_nothing_of_ok (Err error) = tt

claims_nothing_of_err : {A E : Type 0} (result : Result A E) → OnErr result (Unit {0})
claims_nothing_of_err (Ok value) = tt
claims_nothing_of_err (Err error) = tt

-- the files tell no contents, so of these the trait claims nothing
pub write-tells : goal.write-tells
write-tells g c = record {
  written = claims_nothing_of_ok c.result;
  others = claims_nothing_of_err c.result;
  memory = λ _. refl;
  failed = c.ensures.failed;
  misses = c.ensures.misses;
  faults = c.ensures.faults;
}
