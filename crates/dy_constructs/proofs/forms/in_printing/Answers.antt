use Rattle.std.proofs.Common.{◌≡◌, ℕ, Bool, not, List, length, map, sym, ap, ◌∙◌}
use Rattle.dy_rules.specs.Trees.{arguments_of}
use Rattle.dy_rules.specs.SeenForms.{seen_argument}
use Rattle.dy_construct_parts.specs.declared.construct.Construct.TheVariants as constructs
use Rattle.dy_construct_parts.specs.Table.{first_absent, where_true}
use Rattle.dy_construct_parts.specs.Directives.{has_directives}
use Rattle.dy_constructs.specs.Bodies.{in_each_argument}
use Rattle.dy_constructs.specs.Forms.{count_arguments}
use Rattle.dy_construct_parts.proofs.Firsts.{parts_2}
use Rattle.dy_constructs.proofs.Rows.{arguments_count}
use Rattle.dy_constructs.proofs.forms.in_printing.Goals as goal

pub returns : goal.returns
returns c =
    let values = c.args.rest.now in
    let rest = arguments_of (map seen_argument values) in
    let text = c.args.text.now.text in
    let fits : c.has_directives-fits.result ≡ has_directives text (count_arguments rest) =
    c.has_directives-fits.ensures ∙ ap (λ (bytes : List ℕ). has_directives bytes (length values)) c.bytes.ensures ∙ ap (has_directives text) (sym (arguments_count values)) in
    parts_2 _ _ _ _ _ constructs.PrintingCall (where_true constructs.OtherDirectives (not (has_directives text (count_arguments rest)))) (in_each_argument rest)
    c.absent.ensures (c.where_true.ensures ∙ ap (λ (b : Bool). first_absent (where_true constructs.OtherDirectives (not b))) fits) c.or.ensures c.in_rest.ensures c.or-2.ensures
