use Rattle.dy_fragment.proofs.Calls.{is_grouping, gives_trees, gives_fault}
use Rattle.dy_fragment.proofs.grouping.group.Goals as goal

pub returns : goal.returns
returns c = record {
  grouping = is_grouping c.args.words.now c.args.tokens.now c.grouped.result c.grouped.ensures;
  trees = gives_trees c.args.words.now c.args.tokens.now c.grouped.result c.grouped.ensures;
  fault = gives_fault c.args.words.now c.args.tokens.now c.grouped.result c.grouped.ensures;
}
