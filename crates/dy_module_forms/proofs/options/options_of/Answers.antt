use Rattle.std.proofs.Common.{◌≡◌, codes, refl, sym, ◌∙◌}
use Rattle.dy_tree.specs.Fragments.{seen_fragments}
use Rattle.dy_module_forms.specs.Clauses.{option_of}
use Rattle.dy_module_forms.proofs.Parts.{read_turn, read_stop, read_end}
use Rattle.dy_module_forms.proofs.options.options_of.Goals as goal

pub loop-next-preserved : goal.loop-next-preserved
loop-next-preserved c =
    read_turn option_of (codes ",") c.loop-next.next c.loop-next.options _ c.in-Some.rest _ _ c.in-Some-2.option c.push.new.self c.in-Some.is c.split_part.ensures.parts (sym c.in-Some-2.is ∙ c.in_ok-option.ensures) c.in_ok-push-in-Some-2.ensures.ok c.loop-next.invariant

pub returns : goal.returns
returns c = read_end option_of (codes ",") c.loop-next.next c.loop-next.options _ c.in_default.is c.loop-next.invariant
