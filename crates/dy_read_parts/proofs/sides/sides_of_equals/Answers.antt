use Rattle.std.proofs.Common.{◌≡◌, suc, ◌+◌, option_map, refl, sym, ap, ◌∙◌, arith}
use Rattle.std.proofs.lemmas.List.{take_rest}
use Rattle.dy_rules.specs.Bodies.{is_equals_at}
use Rattle.dy_read_parts.proofs.Nesting.{take_nesting, drop_nesting}
use Rattle.dy_read_parts.proofs.FirstCuts.{around, sides_found}
use Rattle.dy_read_parts.proofs.sides.sides_of_equals.Goals as goal

pub returns-in-Some-clause-sides : goal.returns-in-Some-clause-sides
returns-in-Some-clause-sides c =
    let fragments = c.args.fragments.now in
    let found = sides_found is_equals_at fragments ∙ ap (option_map (around fragments)) (sym c.in-Some.ensures.place) in
    let next : c.in-Some.at + 1 ≡ suc c.in-Some.at = omega arith in
    rw (take_rest fragments (c.in-Some.at + 1), found, next) refl

pub returns-in-Some-clause-before : goal.returns-in-Some-clause-before
returns-in-Some-clause-before c = take_nesting c.in-Some.at c.args.fragments.now

pub returns-in-Some-clause-after : goal.returns-in-Some-clause-after
returns-in-Some-clause-after c = rw (take_rest c.args.fragments.now (c.in-Some.at + 1)) (drop_nesting (c.in-Some.at + 1) c.args.fragments.now)
