use Rattle.std.proofs.Common.{rules, ◌≡◌, IfOk, codes, Bool, cond, true, None, refl, ap, sym, subst, ◌∙◌}
use Rattle.dy_tree.specs.declared.fragment.Fragment.TheViews.{the_lemmas}
use Rattle.dy_tree.specs.Fragments.{group, pack, row, seen_fragment, seen_fragments}
use Rattle.dy_tree.specs.Spelling.{is_sign}
use Rattle.dy_tree.proofs.Rows.{inner_packs}
use Rattle.dy_rules.proofs.Lists.{row_pack}
use Rattle.dy_module_forms.specs.Clauses as spec
use Rattle.dy_module_forms.proofs.sets.names_set.Goals as goal

pub returns-then-is_sign : goal.returns-then-is_sign
returns-then-is_sign c =
    let inner = seen_fragments c.in-Group.inner.items in
    let from : seen_fragment c.args.fragment.now ≡ group c.in-Group.opener (pack inner) c.in-Group.closer = rw c.in-Group.is (search (rules, the_lemmas, inner_packs)) in
    let opens : is_sign (codes "{") c.in-Group.opener ≡ true = search rules in
    subst (λ set. IfOk c.names_in.result (λ found. found ≡ set))
    (ap (λ list. spec.members_in spec.name_alone list) (ap seen_fragments c.as_slice.ensures.value ∙ sym (row_pack inner)) ∙ ap (λ (b : Bool). cond b (spec.members_in spec.name_alone (row (pack inner))) None) (sym opens) ∙ ap (spec.set_of spec.name_alone) (sym from)) c.names_in.ensures
