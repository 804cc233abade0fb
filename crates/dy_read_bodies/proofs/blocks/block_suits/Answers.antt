use Rattle.std.proofs.Common.{◌≡◌, true, false, List, Some, map, option_map, sym, ap, ◌∙◌}
use Rattle.dy_tree.specs.declared.expression.BlockClause.{BlockClause}
use Rattle.dy_rules.specs.Productions.{suit_block}
use Rattle.dy_rules.specs.SeenForms.{seen_clause}
use Rattle.dy_rules_depth.specs.Capping.{capped}
use Rattle.dy_read_arms.specs.ReadBodies.{read_items}
use Rattle.dy_read_statements.proofs.Blocks.{suits, unsuited}
use Rattle.dy_read_bodies.proofs.blocks.block_suits.Goals as goal

pub returns-in_ok-block_within : goal.returns-in_ok-block_within
returns-in_ok-block_within c =
    let is : suit_block (map seen_clause c.args.clauses.items) ≡ true = ap (λ (list : List BlockClause). suit_block (map seen_clause list)) (sym c.deref.ensures.value) ∙ sym c.if-suit_block.ensures in
    ap Some c.in_ok-block_within.ensures ∙ ap (option_map capped) (sym (suits c.args.word.now c.args.exit (read_items c.args.body) (map seen_clause c.args.clauses.items) is))

pub returns-else-suit_block : goal.returns-else-suit_block
returns-else-suit_block c =
    let is : suit_block (map seen_clause c.args.clauses.items) ≡ false = ap (λ (list : List BlockClause). suit_block (map seen_clause list)) (sym c.deref.ensures.value) ∙ sym c.if-suit_block.ensures in
    ap (option_map capped) (sym (unsuited c.args.word.now c.args.exit (read_items c.args.body) (map seen_clause c.args.clauses.items) is))
