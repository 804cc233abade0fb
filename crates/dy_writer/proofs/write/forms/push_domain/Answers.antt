use Rattle.std.proofs.Common.{◌≡◌, ◌++◌, [], ◌∷◌, map, codes, ap, ◌∙◌, List}
use Rattle.std.proofs.lemmas.Result.{on_ok_weaker}
use Rattle.dy_tree.specs.declared.token.Token.{Token}
use Rattle.dy_tree.specs.declared.fragment.Fragment.{Fragment}
use Rattle.dy_tree.specs.Fragments.{SeenFragment, one, seen_fragments}
use Rattle.dy_rules.specs.Types.{types_of}
use Rattle.dy_rules.specs.Marks.{in_round, word_mark}
use Rattle.dy_rules.specs.TypeWriting.{written_types}
use Rattle.dy_rules.specs.SeenTypes.{seen_type}
use Rattle.dy_write_parts.proofs.Separated.{two_parts}
use Rattle.dy_writer.proofs.write.forms.push_domain.Goals as goal

pub returns : goal.returns
returns c =
    let old = seen_fragments c.args.out.now.items in
    let define = one c.args.define.now in
    let sealed = word_mark (codes "sealed") in
    let domain = word_mark (codes "domain") in
    let name = one c.args.name.now in
    let types = written_types (types_of (map seen_type c.args.types.now.items)) in
    let defined : seen_fragments c.push_token.new.out.items ≡ old ++ define ∷ [] = c.in_ok-push_token.ensures ∙ ap (λ (token : Token). old ++ one token ∷ []) c.in_ok-copy.ensures in
    let named : seen_fragments c.push_token-2.new.out.items ≡ seen_fragments c.push_word-2.new.out.items ++ name ∷ [] =
    c.in_ok-push_token-2.ensures ∙ ap (λ (token : Token). seen_fragments c.push_word-2.new.out.items ++ one token ∷ []) c.in_ok-copy-2.ensures in
    let inner : seen_fragments c.push_types.new.out.items ≡ types = c.in_ok-push_types.ensures ∙ ap (λ (fragments : List Fragment). seen_fragments fragments ++ types) c.new-inner.ensures.items in
    on_ok_weaker c.push_round.result
    (λ round.
    two_parts old _ _ (define ∷ sealed ∷ domain ∷ name ∷ []) (in_round types ∷ [])
    (two_parts old _ _ (define ∷ sealed ∷ domain ∷ []) (name ∷ []) (two_parts old _ _ (define ∷ sealed ∷ []) (domain ∷ []) (two_parts old _ _ (define ∷ []) (sealed ∷ []) defined c.in_ok-push_word.ensures) c.in_ok-push_word-2.ensures) named)
    (round ∙ ap (λ (fs : List SeenFragment). seen_fragments c.push_token-2.new.out.items ++ in_round fs ∷ []) inner))
    c.push_round.ensures
