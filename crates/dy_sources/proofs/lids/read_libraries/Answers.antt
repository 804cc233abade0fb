use Rattle.std.proofs.Common.{◌+◌, rules, ℕ, List, Option, map, drop, string_bytes, sym, subst, ◌∙◌}
use Rattle.std.proofs.lemmas.Result.{err_from_is_err_and}
use Rattle.dy_io.specs.Files.{FileMap}
use Rattle.dy_libraries.specs.declared.libraries.Libraries.{Libraries}
use Rattle.dy_libraries.specs.Commands.{built_in}
use Rattle.dy_sources.specs.Judged.{TellsName, NamesFile}
use Rattle.dy_sources.specs.Libraries.{AreRead, AreAccepted, none_read, one_more}
use Rattle.dy_sources.proofs.Chains.{GoOn, goes_on, ends, lids_left, lid_there, named_of}
use Rattle.dy_sources.proofs.lids.read_libraries.Goals as goal

pub loop-lid-init : goal.loop-lid-init
loop-lid-init g c = record {
  read = λ held told result more. subst (λ (l : Libraries). AreRead held l (map string_bytes c.args.lids.now) result) c.in_ok-libraries.ensures.is more;
  accepted = subst AreAccepted (sym c.in_ok-libraries.ensures.is) none_read;
  libraries = c.in_ok-libraries.ensures.libraries;
  contents = search rules;
  misses = search rules;
  faults = search rules;
}

pub returns-in_err-read-clause-verdict : goal.returns-in_err-read-clause-verdict
returns-in_err-read-clause-verdict g c = λ held told.
    let p = err_from_is_err_and c.from_residual-in_err-read.result c.from_residual-in_err-read.ensures.1 in
    let all = map string_bytes c.args.lids.now in
    let lid = c.as_str.result.now in
    let rest = map string_bytes (drop (c.loop-lid.lid-index + 1) c.args.lids.now) in
    let left = lids_left string_bytes c.args.lids.now c.loop-lid.lid-index c.lid-item.result lid c.loop-lid-test.true c.lid-item.is c.as_str.ensures.value in
    rw (p.1, p.2)
    (ends held c.loop-lid.libraries built_in lid rest all c.in_err-read.field-0.0
    (subst (λ (lids : List (List ℕ)). GoOn held c.loop-lid.libraries built_in lids all) left (c.loop-lid.invariant.read held told))
    (c.in_err-read.ensures.verdict held (c.loop-lid.invariant.contents ∙ told)))

pub returns-in_err-read-clause-named : goal.returns-in_err-read-clause-named
returns-in_err-read-clause-named g c =
    let p = err_from_is_err_and c.from_residual-in_err-read.result c.from_residual-in_err-read.ensures.1 in
    let lid = c.as_str.result.now in
    rw (p.1, p.2)
    (named_of (g.F.Files.contents c.args.files.now) (map string_bytes c.args.lids.now) lid c.in_err-read.field-0.0
    (lid_there string_bytes c.args.lids.now c.loop-lid.lid-index c.lid-item.result lid c.loop-lid-test.true c.lid-item.is c.as_str.ensures.value)
    (subst (λ (contents : Option FileMap). TellsName (NamesFile contents lid) c.in_err-read.field-0.0) c.loop-lid.invariant.contents c.in_err-read.ensures.named))

pub loop-lid-preserved : goal.loop-lid-preserved
loop-lid-preserved g c =
    let all = map string_bytes c.args.lids.now in
    let lid = c.as_str.result.now in
    let rest = map string_bytes (drop (c.loop-lid.lid-index + 1) c.args.lids.now) in
    let left = lids_left string_bytes c.args.lids.now c.loop-lid.lid-index c.lid-item.result lid c.loop-lid-test.true c.lid-item.is c.as_str.ensures.value in
    let added = c.in_ok-add_read.ensures.added in
    record {
      read = λ held told.
          subst (λ (l : Libraries). GoOn held l built_in rest all) (sym added)
          (goes_on held c.loop-lid.libraries built_in lid rest all c.in_ok-read.read
          (subst (λ (lids : List (List ℕ)). GoOn held c.loop-lid.libraries built_in lids all) left (c.loop-lid.invariant.read held told))
          (c.in_ok-read.ensures.verdict held (c.loop-lid.invariant.contents ∙ told)));
      accepted = subst AreAccepted (sym added) (one_more c.loop-lid.libraries c.in_ok-read.read c.loop-lid.invariant.accepted c.in_ok-read.ensures.accepted);
      libraries = c.in_ok-add_read.ensures.libraries;
      contents = c.in_ok-read.ensures.contents ∙ c.loop-lid.invariant.contents;
      misses = search rules;
      faults = search rules;
    }
