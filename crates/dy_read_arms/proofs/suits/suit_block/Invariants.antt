use Rattle.std.proofs.Common.{◌≡◌, not, ◌&&◌, drop, map}
use Rattle.std.specs.List.{list_any}
use Rattle.dy_rules.specs.Productions.{is_afterwards, is_cleanup, suit_block}
use Rattle.dy_rules.specs.SeenForms.{seen_clause}
use Rattle.dy_read_arms.proofs.suits.suit_block.Given as goal

abbrev pub invariant-loop-clause : goal.invariant-loop-clause
invariant-loop-clause l =
    let rest = map seen_clause (drop l.clause-index l.clauses) in
    suit_block (map seen_clause l.clauses) ≡ (not (l.has_afterwards && list_any is_afterwards rest) && (not (l.has_cleanup && list_any is_cleanup rest) && suit_block rest))
