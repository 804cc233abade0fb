use Rattle.std.proofs.Common.{◌≤◌, List, Option, Some, option_map, sym, ap, subst, ◌∙◌, arith}
use Rattle.std.specs.Borrow.{Bor}
use Rattle.dy_tree.specs.declared.fragment.Fragment.{Fragment}
use Rattle.dy_tree.specs.Fragments.{seen_fragments}
use Rattle.dy_rules.specs.Trees.{Listed}
use Rattle.dy_read_shapes.specs.declared.list_heads.ListHeads.{ListHeads}
use Rattle.dy_read_shapes.specs.ListHeads.{capped_listed, read_each_required, heads_before, heads_read, HeadsDepth}
use Rattle.dy_read_shapes.specs.ListParts.{listed_left}
use Rattle.dy_read_parts.specs.Nesting.{nesting}
use Rattle.dy_read_parts.specs.Pieces.{IsWithin}
use Rattle.dy_read_shapes.proofs.ListHeads.{nothing_before}
use Rattle.dy_read_parts.proofs.Nesting.{within_more}
use Rattle.dy_read_shapes.proofs.list_heads.list_front.Goals as goal

pub loop-behind-preserved : goal.loop-behind-preserved
loop-behind-preserved c =
    let heads = c.loop-behind.heads in
    let others = c.in-One.others in
    let more = c.in-Some-2.more in
    let n = nesting (seen_fragments c.args.fragments.now) in
    let within : IsWithin n (Some c.in-Some.list) = subst (λ (behind : Option (Bor (List Fragment))). IsWithin n behind) c.in-Some.is c.loop-behind.invariant.nested in
    let deep : HeadsDepth c.args.depth.now c.with_part.new.depth (Some more) = subst (λ (found : Option ListHeads). HeadsDepth c.args.depth.now c.with_part.new.depth found) c.in-Some-2.is (c.in_ok-more-in-One.ensures.depth c.args.depth.now c.loop-behind.invariant.depth) in
    record {
      read =
          c.loop-behind.invariant.read ∙ ap (λ (behind : Option (Bor (List Fragment))). heads_before heads (option_map capped_listed (listed_left behind))) c.in-Some.is
          ∙ ap (λ (found : Option Listed). heads_before heads (option_map capped_listed found)) c.in-One.ensures.part
          ∙ sym (c.in_ok-more-in-One.ensures.part (listed_left others))
          ∙ ap (λ (found : Option ListHeads). heads_read found (option_map capped_listed (listed_left others))) c.in-Some-2.is;
      depth = deep;
      nested = within_more (nesting (seen_fragments c.in-Some.list.now)) n others within c.in-One.ensures.nested;
    }

pub returns-in-None-clause-front : goal.returns-in-None-clause-front
returns-in-None-clause-front c =
    let heads = c.loop-behind.heads in
    let others = c.in-One.others in
    c.loop-behind.invariant.read ∙ ap (λ (behind : Option (Bor (List Fragment))). heads_before heads (option_map capped_listed (listed_left behind))) c.in-Some.is
    ∙ ap (λ (found : Option Listed). heads_before heads (option_map capped_listed found)) c.in-One.ensures.part
    ∙ sym (c.in_ok-more-in-One.ensures.part (listed_left others))
    ∙ ap (λ (found : Option ListHeads). heads_read found (option_map capped_listed (listed_left others))) c.in-None.is

pub returns-in-Keys-clause-front : goal.returns-in-Keys-clause-front
returns-in-Keys-clause-front c =
    let heads = c.loop-behind.heads in
    c.loop-behind.invariant.read ∙ ap (λ (behind : Option (Bor (List Fragment))). heads_before heads (option_map capped_listed (listed_left behind))) c.in-Some.is
    ∙ ap (λ (found : Option Listed). heads_before heads (option_map capped_listed found)) c.in-Keys.ensures.part

pub returns-in-Keys-clause-nested : goal.returns-in-Keys-clause-nested
returns-in-Keys-clause-nested c =
    let n = nesting (seen_fragments c.args.fragments.now) in
    let within : nesting (seen_fragments c.in-Some.list.now) ≤ n = subst (λ (behind : Option (Bor (List Fragment))). IsWithin n behind) c.in-Some.is c.loop-behind.invariant.nested in
    let less = c.in-Keys.ensures.nested in
    omega arith

pub returns-in-Nothing-clause-front : goal.returns-in-Nothing-clause-front
returns-in-Nothing-clause-front c =
    let heads = c.loop-behind.heads in
    c.loop-behind.invariant.read ∙ ap (λ (behind : Option (Bor (List Fragment))). heads_before heads (option_map capped_listed (listed_left behind))) c.in-Some.is
    ∙ ap (λ (found : Option Listed). heads_before heads (option_map capped_listed found)) c.in-Nothing.ensures.part
    ∙ sym (nothing_before (read_each_required heads.required.items) heads.next heads.rest)
