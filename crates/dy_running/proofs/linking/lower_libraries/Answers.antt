use Rattle.std.proofs.Common.{◌≡◌, List, true, subst}
use Rattle.std.specs.List.{list_all}
use Rattle.std.specs.Vec.Iter.{into_iter_items}
use Rattle.dy_code.specs.declared.unit.Library.{Library}
use Rattle.dy_running.proofs.Libraries.{item_reached, each_passes, is_lowered}
use Rattle.dy_running.proofs.linking.lower_libraries.Goals as goal

pub lower_library-requires : goal.lower_library-requires
lower_library-requires c =
    let reached = item_reached c.args.libraries.items c.into_iter-library-iterator.result
    c.loop-library.yielded c.loop-library.library-iterator c.next.new.self c.in-Some.library
    c.into_iter-library-iterator.ensures.into_iter_gives.0 c.loop-library.yielded_by
    c.in-Some.ensures.steps in
    each_passes is_lowered c.loop-library.yielded c.in-Some.library
    (into_iter_items c.next.new.self)
    (subst (λ (all : List Library). list_all is_lowered all ≡ true) reached c.requires)
