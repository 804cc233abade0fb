use Rattle.std.proofs.Common.{◌<◌, ◌≡◌, ◌++◌, ◌∷◌, [], length, take, ◌+◌, sym, ap, ◌∙◌, List, arith}
use Rattle.std.proofs.lemmas.List.{take_more}
use Rattle.dy_tree.specs.declared.token.Token.{Token}
use Rattle.dy_tree.specs.Fragments.{one, seen_fragments}
use Rattle.dy_rules.specs.Marks.{comma_mark}
use Rattle.dy_rules.specs.FormWriting.{written_names}
use Rattle.dy_write_parts.specs.Parts.{is_none_of}
use Rattle.dy_write_parts.proofs.Steps.{not_none}
use Rattle.dy_write_parts.proofs.Separated.{separated_next}
use Rattle.dy_write_parts.proofs.Lists.{name_part, names_separated}
use Rattle.dy_write_parts.proofs.names.push_names.Goals as goal

pub loop-name-preserved : goal.loop-name-preserved
loop-name-preserved c =
    let names = c.deref-name-items.result.now in
    let i = c.loop-name.name-index in
    let lt : i < length names = omega arith in
    let more : take (i + 1) names ≡ take i names ++ c.name-item.result ∷ [] = take_more names i c.name-item.result lt ∙ ap (λ (token : Token). take i names ++ token ∷ []) (sym c.name-item.is) in
    let named = c.in_ok-push_token.ensures ∙ ap (λ (token : Token). seen_fragments c.push_comma.new.out.items ++ one token ∷ []) c.in_ok-copy.ensures in
    record {
      first = sym (ap is_none_of more ∙ not_none (take i names) c.name-item.result);
      out =
          separated_next comma_mark name_part written_names names_separated _ _ _ _ c.loop-name.first (take i names) c.name-item.result c.loop-name.invariant.first c.loop-name.invariant.out c.in_ok-push_comma.ensures named
          ∙ ap (λ (list : List Token). seen_fragments c.args.out.now.items ++ written_names list) (sym more);
    }
