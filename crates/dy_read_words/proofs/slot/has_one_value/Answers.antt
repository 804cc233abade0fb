use Rattle.std.proofs.Common.{rules, ◌≡◌, ◌∙◌, sym, ap, not, map, subst, refl}
use Rattle.std.specs.List.{list_any}
use Rattle.std.proofs.lemmas.Iterator.Search.{any_from_yields_List}
use Rattle.std.proofs.lemmas.Iterator.{YieldsList-from_slice}
use Rattle.dy_rules.specs.Forms as spec
use Rattle.dy_rules.specs.SeenForms.{seen_option, seen_initial}
use Rattle.dy_rules.proofs.Lists.{any_seen}
use Rattle.dy_read_words.proofs.slot.has_one_value.Goals as goal

pub returns-in-Some : goal.returns-in-Some
returns-in-Some c =
    let told : c.any.result ≡ list_any (λ option. spec.gives_value (seen_option option)) c.args.options.now =
    any_from_yields_List {v = λ b. b.now} {s = c.iter-in-Some.result} {all = c.args.options.now} (λ option. spec.gives_value (seen_option option)) _ _ c.any.result c.any.ensures.ran
    (YieldsList-from_slice c.args.options.now c.iter-in-Some.ensures.rest) (λ x b q called. (refl, search rules))
    in
    let same : not c.any.result ≡ not (list_any spec.gives_value (map seen_option c.args.options.now)) =
    ap not (told ∙ sym (any_seen spec.gives_value seen_option c.args.options.now))
    in
    subst (λ value. not c.any.result ≡ spec.one_value (seen_initial value) (map seen_option c.args.options.now)) (sym c.in-Some.is) same
