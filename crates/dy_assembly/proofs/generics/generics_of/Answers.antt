use Rattle.std.proofs.Common.{◌≡◌, List, map, Bor, ap, ◌∙◌}
use Rattle.std.proofs.lemmas.Result.{IfOk-weaker}
use Rattle.dy_tree.specs.declared.token.Token.{Token}
use Rattle.dy_term.specs.Rows.{seen_draft}
use Rattle.dy_assembly.specs.Seen.{seen_token}
use Rattle.dy_assembly.proofs.Gathering.{gathered_in_turn}
use Rattle.dy_assembly.proofs.generics.generics_of.Goals as goal

pub returns : goal.returns
returns g c =
    let owner = (g.E.Environment.outside c.args.environment.now).owner in
    let forms = map (λ f. seen_draft f.1) c.args.forms.now in
    let rows = gathered_in_turn c.args.library owner forms c.args.defined
    (map seen_token c.deref.result.now)
    c.new-rows.result.entries c.offer_defined.new.rows.entries c.offer_all_made.new.rows.entries
    c.new-rows.ensures.empty
    (ap (λ (l : List (Bor Token)). map seen_token l) c.deref.ensures.value ∙ c.in_ok-names.ensures)
    c.in_ok-offer_defined.ensures
    c.in_ok-offer_all_made.ensures in
    IfOk-weaker c.in_order.result
    (λ all. all ≡ map (λ e. e.1) c.offer_all_made.new.rows.entries)
    _
    (λ all is. is ∙ rows)
    c.in_order.ensures
