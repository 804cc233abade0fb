use Rattle.std.proofs.Common.{◌≡◌, ℕ, max, Option, option_map, option_and_then, ap, ◌∙◌}
use Rattle.std.proofs.lemmas.Result.{IfOk-weaker}
use Rattle.dy_tree.specs.Fragments.{seen_fragments}
use Rattle.dy_rules.specs.Depth.{required_depth}
use Rattle.dy_rules.specs.Fragments.{items_of}
use Rattle.dy_rules.specs.Signatures.{required_items, after_required}
use Rattle.dy_rules.specs.Trees.{Listed}
use Rattle.dy_rules.specs.Types.{RequiredTree}
use Rattle.dy_read_shapes.specs.declared.list_heads.ListHeads.{ListHeads}
use Rattle.dy_read_shapes.specs.ListHeads.{capped_listed, read_each_required, heads_before, heads_read, HeadsDepth}
use Rattle.dy_read_shapes.specs.ListParts.{plain_part}
use Rattle.dy_read_shapes.proofs.ListHeads.{required_changed, plain_required}
use Rattle.dy_read_shapes.proofs.list_heads.with_part.Goals as goal

pub returns-in_ok-required_items-in_default : goal.returns-in_ok-required_items-in_default
returns-in_ok-required_items-in_default c =
    let heads = c.args.heads in
    let items = items_of (seen_fragments c.args.piece.now) in
    record {
      part = IfOk-weaker c.with_required.result _ (λ (more : Option ListHeads). (found : Option Listed) → heads_read more (option_map capped_listed found) ≡ heads_before heads (option_map capped_listed (plain_part c.args.word items found)))
          (λ more e found.
          e (option_map capped_listed found) ∙ ap (λ (required : Option RequiredTree). heads_before heads (option_and_then (after_required (option_map capped_listed found)) required)) c.in_ok-required_items-in_default.ensures.found
          ∙ ap (heads_before heads) (required_changed (required_items items) found ∙ ap (option_map capped_listed) (plain_required c.args.word c.in_default.not-Next c.in_default.not-Rest items found))) c.with_required.ensures.part;
      depth = IfOk-weaker c.with_required.result _ (λ (more : Option ListHeads). (outer : ℕ) → c.args.depth.now ≡ max outer (required_depth (read_each_required heads.required.items)) → HeadsDepth outer c.required_items.new.depth more)
          (λ more e outer old. e outer c.args.depth.now c.required_items.new.depth c.in_ok-required_items-in_default.ensures.depth old) c.with_required.ensures.depth;
    }
