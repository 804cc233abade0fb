use Rattle.std.proofs.Common.{◌≡◌, ◌++◌, ◌∷◌, [], List, refl, ap, ◌∙◌, codes}
use Rattle.std.proofs.lemmas.Result.{on_ok_weaker}
use Rattle.dy_tree.specs.Fragments.{seen_fragments, SeenFragment}
use Rattle.dy_tree.specs.declared.fragment.Fragment.{Fragment}
use Rattle.dy_rules.specs.Marks.{in_round, word_mark}
use Rattle.dy_rules.specs.SeenTypes.{seen_type}
use Rattle.dy_rules.specs.Writing.{written_caught}
use Rattle.dy_writer.proofs.Appends.{two_parts}
use Rattle.dy_writer.proofs.write.blocks.push_exception.Goals as goal

pub returns : goal.returns
returns c =
    let caught = written_caught c.args.variable.now (seen_type c.args.condition.now) in
    let inner : seen_fragments c.push_caught.new.out.items ≡ caught = c.in_ok-push_caught.ensures ∙ ap (λ (fragments : List Fragment). seen_fragments fragments ++ caught) c.new-inner.ensures.items in
    on_ok_weaker c.push_round.result
    (λ round.
    two_parts (seen_fragments c.args.out.now.items) _ (seen_fragments c.push_round.new.out.items) (word_mark (codes "exception") ∷ []) (in_round caught ∷ []) _ refl c.in_ok-push_word.ensures
    (round ∙ ap (λ (fs : List SeenFragment). seen_fragments c.push_word.new.out.items ++ in_round fs ∷ []) inner))
    c.push_round.ensures
