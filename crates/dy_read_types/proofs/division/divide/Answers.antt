use Rattle.std.proofs.Common.{◌≡◌, ◌≤◌, max, List, drop, sym, ap, ◌∙◌, arith}
use Rattle.dy_tree.specs.declared.fragment.Fragment.{Fragment}
use Rattle.dy_tree.specs.Fragments.{seen_fragment, seen_fragments}
use Rattle.dy_read_parts.specs.Nesting.{group_nesting, nesting}
use Rattle.dy_read_parts.proofs.Nesting.{drop_nesting}
use Rattle.dy_read_types.proofs.division.divide.Goals as goal

pub returns-in-Some-clause-behind : goal.returns-in-Some-clause-behind
returns-in-Some-clause-behind c =
    let fragments = c.args.fragments.now in
    let len = c.piece_len.result in
    let others : nesting (seen_fragments (drop len fragments)) ≡ max (group_nesting (seen_fragment c.in-Some.first.now)) (nesting (seen_fragments c.in-Some.behind.now)) = ap (λ (list : List Fragment). nesting (seen_fragments list)) (sym c.split_at.ensures.back ∙ c.in-Some.ensures.cases.0) in
    let behind : nesting (seen_fragments c.in-Some.behind.now) ≤ nesting (seen_fragments fragments) = let less = drop_nesting len fragments in omega arith in
    behind
