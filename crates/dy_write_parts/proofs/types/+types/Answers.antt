use Rattle.std.proofs.Common.{rules, ◌≡◌, ◌++◌, List, [], ◌∷◌, ◌<◌, length, map, ap, ◌∙◌, arith}
use Rattle.dy_tree.specs.declared.types.TypeForm.TheViews.{the_lemmas}
use Rattle.std.proofs.lemmas.Result.{on_ok_weaker}
use Rattle.dy_tree.specs.declared.token.Token.{Token}
use Rattle.dy_tree.specs.declared.fragment.Fragment.{Fragment}
use Rattle.dy_tree.specs.Fragments.{one, seen_fragments}
use Rattle.dy_rules.specs.Marks.{comma_mark, in_round}
use Rattle.dy_rules.specs.Types.{types_of}
use Rattle.dy_rules.specs.TypeWriting.{written_type, written_types}
use Rattle.dy_rules.specs.SeenTypes.{seen_type}
use Rattle.dy_write_parts.proofs.Steps.{word_and_round}
use Rattle.dy_rules.proofs.HeldTypes.{inner_types}
use Rattle.dy_write_parts.proofs.Lists.{types_separated}
use Rattle.dy_write_parts.proofs.Separated.{separated_step, some_seen}
use Rattle.dy_write_parts.proofs.types.+types.Goals as goal

pub push_type-returns-in_ok-push_types-in-Union : goal.push_type-returns-in_ok-push_types-in-Union
push_type-returns-in_ok-push_types-in-Union t c =
    let from : written_type (seen_type c.args.form.now) ≡ one c.in-Union.word ∷ in_round (written_types (types_of (map seen_type c.in-Union.types.items))) ∷ [] = rw c.in-Union.is (search (rules, the_lemmas, inner_types)) in
    let inner : seen_fragments c.push_types.new.out.items ≡ written_types (types_of (map seen_type c.in-Union.types.items)) =
    c.in_ok-push_types-in-Union.ensures ∙ ap (λ (fragments : List Fragment). seen_fragments fragments ++ written_types (types_of (map seen_type c.in-Union.types.items))) c.new-inner-in-Union.ensures.items
    in
    on_ok_weaker c.push_round-in-Union.result
    (λ round.
    word_and_round (seen_fragments c.args.out.now.items) (seen_fragments c.push_token-in-Union.new.out.items) (seen_fragments c.push_round-in-Union.new.out.items) (seen_fragments c.push_types.new.out.items) _ _ c.in-Union.word from
    (c.in_ok-push_token-in-Union.ensures ∙ ap (λ (token : Token). seen_fragments c.args.out.now.items ++ one token ∷ []) c.in_ok-copy-in-Union.ensures) inner round)
    c.push_round-in-Union.ensures

pub push_types-loop-form-preserved : goal.push_types-loop-form-preserved
push_types-loop-form-preserved t c =
    let lt : c.loop-form.form-index < length c.deref-form-items.result.now = omega arith in
    record {
      first = some_seen seen_type c.deref-form-items.result.now c.loop-form.form-index c.form-item.result lt;
      out =
          separated_step comma_mark written_type (λ types. written_types (types_of types)) types_separated seen_type _ _ _ _ c.loop-form.first c.deref-form-items.result.now c.loop-form.form-index c.form-item.result lt c.form-item.is c.loop-form.invariant.first
          c.loop-form.invariant.out c.in_ok-push_comma.ensures c.in_ok-push_type.ensures;
    }
