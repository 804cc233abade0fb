use Rattle.std.proofs.Common.{◌≡◌, List, map, sym, ap, ◌∙◌}
use Rattle.dy_tree.specs.declared.token.Token.{Token}
use Rattle.dy_term.specs.Types.{CoreType, union, types_of, seen_type as seen_draft}
use Rattle.dy_rules.specs.SeenTypes.{seen_type}
use Rattle.dy_drafts.specs.Shapes.{type_of}
use Rattle.dy_drafts.proofs.Rows.{at_union}
use Rattle.dy_drafts.proofs.types.+types.Goals as goal

pub type_of-returns-in_ok-copy-in-Union : goal.type_of-returns-in_ok-copy-in-Union
type_of-returns-in_ok-copy-in-Union t c =
    let parts = map (λ form. type_of (seen_type form)) c.in-Union.types.items in
    let from : type_of (seen_type c.args.form.now) ≡ union c.in-Union.word (types_of parts) = rw c.in-Union.is (at_union c.in-Union.word c.in-Union.types) in
    c.union_draft.ensures
    ∙ ap (λ (word : Token). union word (types_of (map seen_draft c.in_ok-types-in-Union.types.items))) c.in_ok-copy-in-Union.ensures
    ∙ ap (λ (types : List CoreType). union c.in-Union.word (types_of types)) c.in_ok-types-in-Union.ensures
    ∙ sym from
