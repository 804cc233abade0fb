use Rattle.std.proofs.Common.{◌≡◌, ◌++◌, List, sym, ap, ◌∙◌, subst}
use Rattle.dy_tree.specs.declared.fragment.Fragment.{Fragment}
use Rattle.dy_tree.specs.Fragments.{SeenFragment, seen_fragments}
use Rattle.dy_rules.specs.Forms.{IsForm}
use Rattle.dy_rules.specs.FormWriting.{written_form}
use Rattle.dy_rules.specs.SeenForms.{seen_form}
use Rattle.dy_rules.specs.Parsing.{parsed}
use Rattle.dy_rules.proofs.FormWritten.{form_writes}
use Rattle.dy_rules.proofs.Parsing as parsing
use Rattle.dy_grammar.proofs.unparsing.unparse.Goals as goal

pub returns-clause-stands : goal.returns-clause-stands
returns-clause-stands c fragments h =
    let tree = seen_form c.args.form.now in
    let written : seen_fragments c.push_form.new.out.items ≡ written_form tree = c.in_ok-push_form.ensures ∙ ap (λ (items : List Fragment). seen_fragments items ++ written_form tree) c.new-out.ensures.items in
    subst (λ (all : List SeenFragment). IsForm tree all) (sym written) (form_writes tree fragments h)

pub returns-clause-again : goal.returns-clause-again
returns-clause-again c fragments h le =
    let tree = seen_form c.args.form.now in
    let written : seen_fragments c.push_form.new.out.items ≡ written_form tree = c.in_ok-push_form.ensures ∙ ap (λ (items : List Fragment). seen_fragments items ++ written_form tree) c.new-out.ensures.items in
    ap parsed written ∙ parsing.again fragments tree h le
