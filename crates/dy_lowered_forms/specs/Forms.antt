-- The gate of constructs and what is lowered agree.
use Rattle.std.specs.Prelude.{◌≡◌, Bool, true}
use Rattle.std.specs.List.{list_all}
use Rattle.dy_rules.specs.Forms.{FormTree}
use Rattle.dy_constructs.specs.Forms.{in_form}
use Rattle.dy_term.specs.declared.literal.Literal.{Literal}
use Rattle.dy_surface.specs.Forms.{draft_of}
use Rattle.dy_lowered_forms.specs.drafts.Kinds.{form_with}
use Rattle.dy_lowered_forms.specs.Table.{runs}

-- Every construct that the form holds runs.
abbrev pub AllRun : FormTree → Type 0
AllRun form = list_all runs (in_form form) ≡ true

abbrev pub any_literal : Literal → Bool
any_literal literal = true

-- The parts of its draft are of kinds that are lowered. That its numbers have 64 bits is told
-- apart.
abbrev pub RunningFormsAreLowered : Type 0
RunningFormsAreLowered = (form : FormTree) → AllRun form
    → form_with any_literal (draft_of form) ≡ true
