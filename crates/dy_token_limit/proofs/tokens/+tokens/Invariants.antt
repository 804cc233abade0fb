use Rattle.std.proofs.Common.{◌≡◌, ◌+◌, drop}
use Rattle.dy_tree.specs.Fragments.{seen_fragments}
use Rattle.dy_token_limit.specs.Tokens.{tokens_of}
use Rattle.dy_token_limit.proofs.tokens.+tokens.Given as goal

abbrev pub invariant-left_behind_all-loop-fragment : goal.invariant-left_behind_all-loop-fragment
invariant-left_behind_all-loop-fragment l =
    tokens_of (seen_fragments l.fragments) + l.left
    ≡ tokens_of (seen_fragments (drop l.fragment-index l.fragments)) + l.fn.most
