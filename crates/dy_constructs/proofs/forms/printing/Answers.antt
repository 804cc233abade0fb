use Rattle.std.proofs.Common.{◌≡◌, Bool, true, List, None, map, if◌then◌else◌, sym, ap, ◌∙◌}
use Rattle.dy_tree.specs.declared.expression.Expression.{Expression}
use Rattle.dy_tree.specs.declared.expression.Argument.{Argument}
use Rattle.dy_rules.specs.Trees.{arguments_of}
use Rattle.dy_rules.specs.SeenForms.{seen_tree, seen_argument}
use Rattle.dy_constructs.specs.Forms.{printing, names_format_out, text_first}
use Rattle.dy_constructs.proofs.Links.{at_printing}
use Rattle.dy_constructs.proofs.forms.printing.Goals as goal

pub returns-then-names_format_out : goal.returns-then-names_format_out
returns-then-names_format_out c =
    let found = text_first (arguments_of (map seen_argument c.in-Call.arguments.items)) in
    let from : printing (seen_tree c.args.expression.now) ≡ (if names_format_out (seen_tree c.in-Call.function.value) then found else None) = rw c.in-Call.is (at_printing c.in-Call.function c.in-Call.arguments) in
    let named : names_format_out (seen_tree c.in-Call.function.value) ≡ true = sym (ap (λ (e : Expression). names_format_out (seen_tree e)) c.deref.ensures) ∙ sym c.names_format_out.ensures ∙ c.if-names_format_out.true in
    c.text_first.ensures
    ∙ ap (λ (list : List Argument). text_first (arguments_of (map seen_argument list))) c.deref-then-names_format_out.ensures.value
    ∙ sym (from ∙ ap (λ (b : Bool). if b then found else None) named)
