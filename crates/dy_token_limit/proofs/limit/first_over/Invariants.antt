use Rattle.std.proofs.Common.{◌≡◌, ◌+◌, map}
use Rattle.dy_tree.specs.Fragments.{seen_fragments}
use Rattle.dy_token_limit.specs.Limit.{tokens_of_first}
use Rattle.dy_token_limit.proofs.limit.first_over.Given as goal

abbrev pub invariant-loop-number : goal.invariant-loop-number
invariant-loop-number l =
    tokens_of_first l.number (map (λ form. seen_fragments form.now) l.forms) + l.left ≡ l.fn.most
