use Rattle.std.proofs.Common.{rules, ◌≡◌, IfOk, codes, Bool, cond, true, None, refl, ap, sym, subst, ◌∙◌}
use Rattle.dy_tree.specs.declared.fragment.Fragment.TheViews.{the_lemmas}
use Rattle.dy_tree.specs.Fragments.{group, pack, row, seen_fragment, seen_fragments}
use Rattle.dy_tree.specs.Spelling.{is_word}
use Rattle.dy_tree.proofs.Rows.{inner_packs}
use Rattle.dy_rules.proofs.Lists.{row_pack}
use Rattle.dy_module_forms.specs.Forms as spec
use Rattle.dy_module_forms.proofs.forms.form_of.Goals as goal

pub returns-then-is_word : goal.returns-then-is_word
returns-then-is_word c =
    let inner = seen_fragments c.in-Group.inner.items in
    let from : seen_fragment c.args.fragment.now ≡ group c.in-Group.opener (pack inner) c.in-Group.closer = rw c.in-Group.is (search (rules, the_lemmas, inner_packs)) in
    let defines : is_word (codes "define") c.in-Group.opener ≡ true = search rules in
    subst (λ form. IfOk c.form_in.result (λ found. found ≡ form))
    (ap (λ list. spec.form_in c.in-Group.opener.place list) (ap seen_fragments c.as_slice.ensures.value ∙ sym (row_pack inner)) ∙ ap (λ (b : Bool). cond b (spec.form_in c.in-Group.opener.place (row (pack inner))) None) (sym defines) ∙ ap spec.form_of (sym from)) c.form_in.ensures
