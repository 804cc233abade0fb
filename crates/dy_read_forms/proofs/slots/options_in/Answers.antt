use Rattle.std.proofs.Common.{◌≡◌, ◌<◌, length, [], ◌∷◌, ◌++◌, Option, Some, option_map, sym, ap, subst, ◌∙◌, arith}
use Rattle.dy_tree.specs.declared.form.SlotOption.{SlotOption}
use Rattle.dy_tree.specs.Fragments.{seen_fragments}
use Rattle.dy_rules.specs.FormReading.{option_items}
use Rattle.dy_rules.specs.Fragments.{items_of}
use Rattle.dy_read_forms.specs.ReadForms.{read_option, read_options, capped_option, OptionDepth}
use Rattle.dy_read_forms.proofs.SlotParts.{option_read, options_grow, options_deeper}
use Rattle.dy_read_forms.proofs.slots.options_in.Goals as goal

pub loop-piece-preserved : goal.loop-piece-preserved
loop-piece-preserved c =
    let pieces = c.args.pieces.now in
    let i = c.loop-piece.piece-index in
    let lt : i < length pieces = omega arith in
    let before = read_options c.loop-piece.options.items in
    let some : Some (read_option c.in-Some.option) ≡ option_map capped_option (option_items (items_of (seen_fragments c.piece-item.result.fragments.now))) = ap (option_map read_option) (sym c.in-Some.is) ∙ c.in_ok-option.ensures.found in
    let pushed : read_options c.push.new.self.items ≡ before ++ read_option c.in-Some.option ∷ [] = ap read_options c.in_ok-push-in-Some.ensures.items ∙ options_grow c.loop-piece.options.items c.in-Some.option in
    let more : OptionDepth c.loop-piece.depth c.option_items.new.depth (Some c.in-Some.option) = subst (λ (found : Option SlotOption). OptionDepth c.loop-piece.depth c.option_items.new.depth found) c.in-Some.is c.in_ok-option.ensures.depth in
    record {
      read = c.loop-piece.invariant.read ∙ option_read pieces i c.piece-item.result lt c.piece-item.is before (read_options c.push.new.self.items) (read_option c.in-Some.option) some pushed;
      depth = options_deeper c.args.depth.now c.loop-piece.depth c.option_items.new.depth before (read_options c.push.new.self.items) (read_option c.in-Some.option) pushed c.loop-piece.invariant.depth more;
    }
