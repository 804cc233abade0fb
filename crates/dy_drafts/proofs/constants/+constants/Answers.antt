use Rattle.std.proofs.Common.{◌≡◌, List, Option, map, option_map, sym, ap, ◌∙◌}
use Rattle.std.proofs.lemmas.Result.{IfOk-weaker}
use Rattle.dy_term.specs.declared.literal.Literal.{Literal}
use Rattle.dy_term.specs.declared.literal.Literal.TheVariants as literals
use Rattle.dy_drafts.specs.Literals.{literal_in, last_in}
use Rattle.dy_drafts.specs.Shapes.{list_of}
use Rattle.dy_drafts.proofs.Rows.{at_list, at_vector}
use Rattle.dy_drafts.proofs.constants.+constants.Goals as goal

pub constant_of-returns-in_ok-tail-in-List : goal.constant_of-returns-in_ok-tail-in-List
constant_of-returns-in_ok-tail-in-List t c =
    let items = map literal_in c.in-List.items.items in
    let last = last_in (option_map (λ form. form.value) c.in-List.tail) in
    let from : literal_in c.args.form.now ≡ list_of items last = rw c.in-List.is (at_list c.in-List.opener c.in-List.items c.in-List.tail) in
    let same : list_of c.in_ok-items-in-List.items c.in_ok-tail-in-List.tail ≡ literal_in c.args.form.now =
    ap (λ (xs : List Literal). list_of xs c.in_ok-tail-in-List.tail) c.in_ok-items-in-List.ensures
    ∙ ap (λ (end : Option Literal). list_of items end) c.in_ok-tail-in-List.ensures
    ∙ sym from
    in
    IfOk-weaker c.list_from.result (λ (literal : Literal). literal ≡ list_of c.in_ok-items-in-List.items c.in_ok-tail-in-List.tail) (λ (literal : Literal). literal ≡ literal_in c.args.form.now)
    (λ literal made. made ∙ same) c.list_from.ensures

pub constant_of-returns-in_ok-constants_of-in-Vector : goal.constant_of-returns-in_ok-constants_of-in-Vector
constant_of-returns-in_ok-constants_of-in-Vector t c =
    let items = map literal_in c.in-Vector.items.items in
    let from : literal_in c.args.form.now ≡ literals.Vector items = rw c.in-Vector.is (at_vector c.in-Vector.opener c.in-Vector.items) in
    ap (λ (xs : List Literal). literals.Vector xs) c.in_ok-constants_of-in-Vector.ensures ∙ sym from
