use Rattle.std.proofs.Common.{List, ◌++◌, sym, subst}
use Rattle.dy_base.specs.declared.ids.MethodId.{MethodId}
use Rattle.dy_classes.specs.Lists.{Once}
use Rattle.dy_order.specs.Precedence.{IsApplicable, Precedes}
use Rattle.dy_order.specs.Sorting.{SortedInto}
use Rattle.dy_order.proofs.Answered.{finished}
use Rattle.dy_order.proofs.Lists.{sub_once, filtered_sub}
use Rattle.dy_order.proofs.Methods.{methods_once}
use Rattle.dy_order.proofs.Sorts.{turn}
use Rattle.dy_order.proofs.sorting.sorted.Goals as goal

pub loop-place-init : goal.loop-place-init
loop-place-init c =
    record {
      all = c.in_ok-rest.rest.items;
      filtered = c.in_ok-rest.ensures;
      once = sub_once (filtered_sub (IsApplicable c.args.program.now c.args.generic c.args.args.now) c.in_ok-rest.ensures) (methods_once c.args.program.now);
      same = λ taken left s. subst (λ (v : List MethodId). SortedInto (Precedes c.args.program.now c.args.args.now) c.in_ok-rest.rest.items (v ++ taken) left) (sym c.new-first.ensures.items) s;
    }

pub loop-place-preserved : goal.loop-place-preserved
loop-place-preserved c =
    let t = turn (Precedes c.args.program.now c.args.args.now) c.loop-place.invariant.all c.loop-place.rest.items c.as_slice.result.now c.remove.new.self.items c.loop-place.first.items c.push.new.self.items c.in-Some.place
    c.index.result.now c.as_slice.ensures.value c.loop-place.invariant.once c.in-Some.ensures c.remove.ensures.items c.index.ensures c.in_ok-push.ensures.items c.loop-place.invariant.same in
    record { all = c.loop-place.invariant.all; filtered = c.loop-place.invariant.filtered; once = t.0; same = t.1 }

pub returns : goal.returns
returns c =
    finished c.args.program.now c.args.generic c.args.args.now c.loop-place.first.items c.loop-place.rest.items c.from_vec.result c.from_vec-2.result c.as_slice.result.now c.loop-place.invariant.all
    c.from_vec.ensures c.from_vec-2.ensures c.as_slice.ensures.value c.loop-place.invariant.filtered c.loop-place.invariant.same c.in_default.ensures

pub first_place-requires : goal.first_place-requires
first_place-requires c = subst (λ (v : List MethodId). Once v) (sym c.as_slice.ensures.value) c.loop-place.invariant.once
