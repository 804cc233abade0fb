use Rattle.std.proofs.Common.{◌≡◌, rules, ◌∷◌, Some, option_map, sym, ap, ◌∙◌}
use Rattle.dy_tree.specs.Fragments.{seen_fragments}
use Rattle.dy_rules.specs.SeenTypes.{seen_bound}
use Rattle.dy_rules.specs.TypeReading.{bound_in}
use Rattle.dy_read_types.proofs.Bounds.{bounds_step}
use Rattle.dy_read_types.proofs.limits.bounds_behind.Goals as goal

pub loop-behind-preserved : goal.loop-behind-preserved
loop-behind-preserved c =
    let rest = c.loop-behind.rest.now in
    let behind = c.in-Some.behind.now in
    let piece = c.split_piece.result.0.now in
    let others = c.split_piece.result.1.now in
    let is : rest ≡ c.in-Some.field-0-0.now ∷ behind = search rules in
    let found : Some (seen_bound c.in-Some-2.bound) ≡ bound_in (seen_fragments piece) = ap (option_map seen_bound) (sym c.in-Some-2.is) ∙ c.in_ok-bound.ensures in
    c.loop-behind.invariant
    ∙ bounds_step c.loop-behind.bounds.items c.push.new.self.items c.in-Some-2.bound c.in-Some.field-0-0.now rest behind piece others is c.in_ok-push-in-Some-2.ensures.items c.split_piece.ensures.pieces found
