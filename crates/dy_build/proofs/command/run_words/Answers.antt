use Rattle.std.proofs.Common.{arith}
use Rattle.dy_sources.proofs.Points.{point_at-front}
use Rattle.dy_build.proofs.Closings.{line_unended}
use Rattle.dy_build.proofs.Halts.{complete_done, complete_front, usage_done, usage_front, told_of, ran_of}
use Rattle.dy_build.proofs.command.run_words.Goals as goal

pub returns-in-Some-Build-clause-outcome : goal.returns-in-Some-Build-clause-outcome
returns-in-Some-Build-clause-outcome g c = λ held told four five six.
    let is = rw c.in-Some-Build.field-0-is at c.in-Some-Build.ensures in
    complete_done held _ _ c.build.result _ is (c.build.ensures.completes held told) four five six

pub returns-in-Some-Build-clause-cut_short : goal.returns-in-Some-Build-clause-cut_short
returns-in-Some-Build-clause-cut_short g c = λ held told which.
    let is = rw c.in-Some-Build.field-0-is at c.in-Some-Build.ensures in
    complete_front held _ _ c.build.result _ is (c.build.ensures.completes held told) which

pub returns-in-Some-Build-clause-ran : goal.returns-in-Some-Build-clause-ran
returns-in-Some-Build-clause-ran g c = λ ended.
    let is = rw c.in-Some-Build.field-0-is at c.in-Some-Build.ensures in
    ran_of _ _ _ _ is (c.build.ensures.ran ended)

pub returns-in-Some-Build-clause-failed_line : goal.returns-in-Some-Build-clause-failed_line
returns-in-Some-Build-clause-failed_line g c = λ four.
    let is = rw c.in-Some-Build.field-0-is at c.in-Some-Build.ensures in
    told_of _ _ _ _ is (c.build.ensures.failed_line four)

pub returns-in-Some-Build-clause-places : goal.returns-in-Some-Build-clause-places
returns-in-Some-Build-clause-places g c = λ front rest. point_at-front front rest

pub returns-in-Some-Check-clause-outcome : goal.returns-in-Some-Check-clause-outcome
returns-in-Some-Check-clause-outcome g c = λ held told four five six.
    let is = rw c.in-Some-Check.field-0-is at c.in-Some-Check.ensures in
    complete_done held _ _ c.check_lids.result _ is (c.check_lids.ensures.completes _ held told) four five six

pub returns-in-Some-Check-clause-cut_short : goal.returns-in-Some-Check-clause-cut_short
returns-in-Some-Check-clause-cut_short g c = λ held told which.
    let is = rw c.in-Some-Check.field-0-is at c.in-Some-Check.ensures in
    complete_front held _ _ c.check_lids.result _ is (c.check_lids.ensures.completes _ held told) which

pub returns-in-Some-Check-clause-ran : goal.returns-in-Some-Check-clause-ran
returns-in-Some-Check-clause-ran g c = λ ended.
    let is = rw c.in-Some-Check.field-0-is at c.in-Some-Check.ensures in
    ran_of _ _ _ _ is (c.check_lids.ensures.ran _ ended)

pub returns-in-Some-Check-clause-failed_line : goal.returns-in-Some-Check-clause-failed_line
returns-in-Some-Check-clause-failed_line g c = λ four.
    let is = rw c.in-Some-Check.field-0-is at c.in-Some-Check.ensures in
    told_of _ _ _ _ is (c.check_lids.ensures.failed_line _ four)

pub returns-in-Some-Check-clause-places : goal.returns-in-Some-Check-clause-places
returns-in-Some-Check-clause-places g c = λ front rest. point_at-front front rest

pub returns-in-None-clause-outcome : goal.returns-in-None-clause-outcome
returns-in-None-clause-outcome g c = λ held told four five six.
    usage_done held _ _ c.put_line.result _ _ _ c.in-None.ensures c.usage.ensures c.put_line.ensures.puts five six

pub returns-in-None-clause-cut_short : goal.returns-in-None-clause-cut_short
returns-in-None-clause-cut_short g c = λ held told which. usage_front held _ _ c.put_line.result _ _ _ c.in-None.ensures c.usage.ensures c.put_line.ensures.puts which

pub returns-in-None-clause-ran : goal.returns-in-None-clause-ran
returns-in-None-clause-ran g c = λ ended. line_unended 3 _ c.put_line.result _ _ (omega arith) (omega arith) c.put_line.ensures.puts ended

pub returns-in-None-clause-places : goal.returns-in-None-clause-places
returns-in-None-clause-places g c = λ front rest. point_at-front front rest
