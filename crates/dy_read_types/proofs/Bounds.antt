-- One bound more of a limited type.
use Rattle.std.proofs.Common.{◌≡◌, false, List, [], ◌∷◌, ◌++◌, map, Option, Some, sym, ap, ◌∙◌}
use Rattle.std.proofs.lemmas.List.{map-append}
use Rattle.dy_tree.specs.declared.fragment.Fragment.{Fragment}
use Rattle.dy_tree.specs.declared.types.BoundForm.{BoundForm}
use Rattle.dy_tree.specs.Fragments.{seen_fragment, seen_fragments}
use Rattle.dy_rules.specs.Arguments.{is_comma_fragment}
use Rattle.dy_rules.specs.Cutting.{cut, with_others, each_other}
use Rattle.dy_rules.specs.Fragments.{items_of}
use Rattle.dy_rules.specs.SeenTypes.{seen_bound}
use Rattle.dy_rules.specs.Types.{Bound}
use Rattle.dy_rules.specs.TypeReading.{bound_in, bound_items}
use Rattle.dy_rules.proofs.Lists.{fragments_back}
use Rattle.dy_read_parts.specs.Pieces.{others_in, pieces_behind, read_before}
use Rattle.dy_read_parts.proofs.PieceRows.{each_behind, read_one_more}

pub bounds_step : (before after : List BoundForm) (next : BoundForm) (separator : Fragment) (rest behind piece others : List Fragment) → rest ≡ separator ∷ behind → after ≡ before ++ next ∷ []
    → cut is_comma_fragment false (items_of (seen_fragments behind)) ≡ pieces_behind is_comma_fragment (items_of (seen_fragments piece)) (seen_fragments others) → Some (seen_bound next) ≡ bound_in (seen_fragments piece)
    → read_before (map seen_bound before) (each_other bound_items (others_in is_comma_fragment (seen_fragments rest))) ≡ read_before (map seen_bound after) (each_other bound_items (others_in is_comma_fragment (seen_fragments others)))
bounds_step before after next separator rest behind piece others is more e h =
    let found = each_other bound_items (others_in is_comma_fragment (seen_fragments others)) in
    rw (is, more, map-append seen_bound before (next ∷ []))
    (ap (read_before (map seen_bound before))
    (each_behind is_comma_fragment bound_items (seen_fragment separator) (seen_fragments behind) (items_of (seen_fragments piece)) (seen_fragments others) e
    ∙ ap (λ (o : Option Bound). with_others o found) (ap bound_in (fragments_back (seen_fragments piece)) ∙ sym h))
    ∙ read_one_more (map seen_bound before) (seen_bound next) found)
