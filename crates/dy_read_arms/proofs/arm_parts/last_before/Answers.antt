use Rattle.std.proofs.Common.{◌≡◌, Bool, Some, None, reverse, option_map, sym, ap, ◌∙◌, arith}
use Rattle.std.specs.Global.{Vec}
use Rattle.dy_tree.specs.declared.expression.Item.{Item}
use Rattle.dy_rules.specs.Choices.{last_with}
use Rattle.dy_read_arms.specs.Arms.{read_behind}
use Rattle.dy_read_arms.specs.ReadBodies.{read_items, read_list}
use Rattle.dy_read_arms.specs.ReadArms.{body_before, read_first, last_if}
use Rattle.dy_read_arms.proofs.ArmParts.{last_is, last_none, ends_deep}
use Rattle.dy_read_arms.proofs.ArmsBehind.{before_deep}
use Rattle.dy_read_arms.proofs.arm_parts.last_before.Goals as goal

pub last_body-requires : goal.last_body-requires
last_body-requires c is =
    let behind = read_behind c.args.behind in
    let some : Some (read_items c.in-Some.body) ≡ body_before behind.lead (read_first c.args.first) =
    ap (option_map read_items) (sym c.in-Some.is) ∙ c.in_ok-body.ensures ∙ ap (λ (lead : Vec Item). body_before (read_list (reverse lead.items)) (read_first c.args.first)) c.lead_of.ensures
    in
    let old = ends_deep behind.lead behind.arms behind.last (sym c.ends-alone.ensures ∙ is) in
    let body = before_deep (read_first c.args.first) behind.lead (read_items c.in-Some.body) some in
    omega (arith, c.requires, c.args.behind.depth_is, c.deepest-depth.ensures, old, body)

pub returns-in-Some : goal.returns-in-Some
returns-in-Some c =
    let behind = read_behind c.args.behind in
    let some : Some (read_items c.in-Some.body) ≡ body_before behind.lead (read_first c.args.first) =
    ap (option_map read_items) (sym c.in-Some.is) ∙ c.in_ok-body.ensures ∙ ap (λ (lead : Vec Item). body_before (read_list (reverse lead.items)) (read_first c.args.first)) c.lead_of.ensures
    in
    c.last_body.ensures ∙ ap (λ (alone : Bool). last_if alone (read_items c.in-Some.body)) c.ends-alone.ensures ∙ last_is behind.arms behind.last (read_items c.in-Some.body) ∙ ap (last_with behind.arms behind.last) some

pub returns-in-None : goal.returns-in-None
returns-in-None c =
    let behind = read_behind c.args.behind in
    let none : None ≡ body_before behind.lead (read_first c.args.first) =
    ap (option_map read_items) (sym c.in-None.is) ∙ c.in_ok-body.ensures ∙ ap (λ (lead : Vec Item). body_before (read_list (reverse lead.items)) (read_first c.args.first)) c.lead_of.ensures
    in
    last_none behind.arms behind.last ∙ ap (last_with behind.arms behind.last) none
