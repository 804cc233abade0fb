use Rattle.std.proofs.Common.{◌≡◌, codes, refl, sym, ◌∙◌}
use Rattle.dy_tree.specs.Fragments.{seen_fragments}
use Rattle.dy_module_forms.specs.Clauses.{name_alone}
use Rattle.dy_module_forms.proofs.Parts.{read_turn, read_stop, read_end}
use Rattle.dy_module_forms.proofs.names.names_of.Goals as goal

pub loop-next-preserved : goal.loop-next-preserved
loop-next-preserved c =
    read_turn name_alone (codes ",") c.loop-next.next c.loop-next.names _ c.in-Some.rest _ _ c.in-Some-2.name c.push.new.self c.in-Some.is c.split_part.ensures.parts (sym c.in-Some-2.is ∙ c.in_ok-name.ensures) c.in_ok-push-in-Some-2.ensures.ok c.loop-next.invariant

pub returns : goal.returns
returns c = read_end name_alone (codes ",") c.loop-next.next c.loop-next.names _ c.in_default.is c.loop-next.invariant
