use Rattle.std.proofs.Common.{rules, ◌≡◌, ℕ, List, Vec, subst, sym}
use Rattle.std.specs.declared.alloc.Global.{Global}
use Rattle.dy_classes.specs.Counters.{count_at}
use Rattle.dy_classes.proofs.Tables.{count_push}
use Rattle.dy_classes.proofs.counts.ClassCounts.new.Goals as goal

pub loop-library-preserved : goal.loop-library-preserved
loop-library-preserved c = λ class.
    subst (λ (v : List (Vec ℕ Global)). count_at v class ≡ 0) (sym c.in_ok-push.ensures.items)
    (count_push c.loop-library.rows.items c.in_ok-vec.field-0 c.len-count.result class (c.in_ok-vec.ensures.items_if_clones_equal (λ y q. search rules)) (c.loop-library.invariant class))
