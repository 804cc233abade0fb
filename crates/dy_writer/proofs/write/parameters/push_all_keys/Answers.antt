use Rattle.std.proofs.Common.{◌≡◌, ◌++◌, ◌∷◌, [], refl, ap, ◌∙◌}
use Rattle.std.proofs.lemmas.Result.{on_ok_weaker}
use Rattle.dy_tree.specs.Fragments.{one, seen_fragments}
use Rattle.dy_tree.specs.declared.token.Token.{Token}
use Rattle.dy_rules.specs.Marks.{all_keys_mark, comma_mark}
use Rattle.dy_rules.specs.Writing.{written_all}
use Rattle.dy_writer.proofs.Appends.{two_parts}
use Rattle.dy_writer.proofs.write.parameters.push_all_keys.Goals as goal

pub returns : goal.returns
returns c =
    let from : written_all c.args.takes_all ≡ comma_mark ∷ all_keys_mark ∷ [] = rw c.if-not-takes_all.false refl in
    on_ok_weaker c.push_token.result
    (λ token.
    two_parts (seen_fragments c.args.out.now.items) _ (seen_fragments c.push_token.new.out.items) (comma_mark ∷ []) (all_keys_mark ∷ []) _ from c.in_ok-push_mark.ensures
    (token ∙ ap (λ (t : Token). seen_fragments c.push_mark.new.out.items ++ one t ∷ []) c.in_ok-token.ensures))
    c.push_token.ensures
