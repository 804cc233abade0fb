use Rattle.std.proofs.Common.{◌≡◌, ◌++◌, [], ◌∷◌, length, List, replicate, sym, ap, ◌∙◌, arith}
use Rattle.dy_modules.specs.declared.clause.ModuleForm.{ModuleForm}
use Rattle.dy_module_numbers.specs.Numbers.{given_form, after_seen, after_exported, library_numbers}
use Rattle.dy_module_numbers.proofs.Outsides.{forms_behind, seen_count, all_count}
use Rattle.dy_module_numbers.proofs.outside.modules_outside.Goals as goal

pub returns : goal.returns
returns c =
    let own = c.args.own in
    let used = c.args.used.now in
    let empty : List ModuleForm = replicate own (given_form []) in
    let seen : c.add_seen.new.forms.items ≡ after_seen empty used = c.in_ok-add_seen.ensures ∙ ap (λ l. after_seen l used) c.in_ok-forms.ensures in
    let all : c.add_exported.new.forms.items ≡ after_exported (after_seen empty used) used = c.in_ok-libraries.ensures.forms ∙ ap (λ l. after_exported l used) seen in
    let last : c.given_form.result ≡ given_form [] = c.given_form.ensures ∙ ap given_form c.new.ensures in
    record {
      forms_are = c.in_ok-push.ensures.items ∙ ap (λ l. l ++ c.given_form.result ∷ []) all ∙ ap (λ d. after_exported (after_seen empty used) used ++ d ∷ []) last ∙ forms_behind own used;
      libraries_are = c.in_ok-libraries.ensures.libraries ∙ ap (λ k. library_numbers k used) (ap length seen ∙ seen_count own used);
      nothing_is = omega (arith, c.len-nothing.ensures, c.add_exported.new.forms.ok.0, ap length all, all_count own used);
    }
