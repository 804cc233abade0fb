-- What the fragments of a top-level form are told to be (own): a form that is within the limit, too
-- deep, or none.
use Rattle.std.specs.Prelude.{Bool, true, false, nat_lt, List, Option, Some, None}
use Rattle.dy_tree.specs.Fragments.{SeenFragment}
use Rattle.dy_rules.specs.Depth.{depth_limit}
use Rattle.dy_rules.specs.Forms.{FormTree}
use Rattle.dy_rules.specs.FormReading.{form_of}
use Rattle.dy_rules.specs.FormDepth.{form_depth}

pub data Parsed : Type 0 where
  accepted : (form : FormTree) → Parsed
  too_deep : Parsed
  no_form : Parsed

abbrev pub limited : Bool → FormTree → Parsed
limited true form = too_deep
limited false form = accepted form

abbrev pub parsed_if : Option FormTree → Parsed
parsed_if None = no_form
parsed_if (Some form) = limited (nat_lt depth_limit (form_depth form)) form

abbrev pub parsed : List SeenFragment → Parsed
parsed fragments = parsed_if (form_of fragments)
