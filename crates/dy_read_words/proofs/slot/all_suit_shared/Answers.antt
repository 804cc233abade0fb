use Rattle.std.proofs.Common.{rules, ◌≡◌, ◌∙◌, sym, refl}
use Rattle.std.specs.List.{list_all}
use Rattle.std.proofs.lemmas.Iterator.Search.{all_from_yields_List}
use Rattle.std.proofs.lemmas.Iterator.{YieldsList-from_slice}
use Rattle.dy_rules.specs.Forms as spec
use Rattle.dy_rules.specs.SeenForms.{seen_option}
use Rattle.dy_rules.proofs.Lists.{all_seen}
use Rattle.dy_read_words.proofs.slot.all_suit_shared.Goals as goal

pub returns : goal.returns
returns c =
    let told : c.all.result ≡ list_all (λ option. spec.suits_shared (seen_option option)) c.args.options.now =
    all_from_yields_List {v = λ b. b.now} {s = c.iter.result} {all = c.args.options.now} (λ option. spec.suits_shared (seen_option option)) _ _ c.all.result c.all.ensures.ran
    (YieldsList-from_slice c.args.options.now c.iter.ensures.rest) (λ x b q called. (refl, search rules))
    in
    told ∙ sym (all_seen spec.suits_shared seen_option c.args.options.now)
