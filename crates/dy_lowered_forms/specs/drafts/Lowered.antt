-- That what is read of plain drafts is lowered.
use Rattle.std.specs.Prelude.{◌≡◌, Bool, true, false, List, []}
use Rattle.std.specs.List.{list_all}
use Rattle.dy_term.specs.Drafts.{Core, CoreLambda}
use Rattle.dy_names.specs.declared.denotation.Denotation.{Denotation}
use Rattle.dy_names.specs.Outside.{Outside}
use Rattle.dy_binding.specs.declared.progress.Progress.{Progress}
use Rattle.dy_resolution.specs.Terms.{core_term, core_lambda}
use Rattle.dy_library_rows.specs.Libraries.{Form, rows_of}
use Rattle.dy_lowering_whole.specs.Lowered.{is_lowered, is_lambda_lowered}
use Rattle.dy_scoped_rows.specs.Scoped.{is_row_lowered}
use Rattle.dy_lowered_forms.specs.drafts.Plain.{is_plain, is_lambda_plain, is_form_plain}

-- a term that runs by itself
abbrev pub PlainTermsAreLowered : Outside → Type 0
PlainTermsAreLowered out = (draft : Core) (p : Progress) → is_plain draft ≡ true
    → is_lowered (core_term out draft [] p).0 ≡ true

-- a lambda around which no names stand for locals
abbrev pub PlainLambdasAreLowered : Outside → Type 0
PlainLambdasAreLowered out = (draft : CoreLambda) (next : Denotation) (p : Progress)
    → is_lambda_plain draft ≡ true
    → is_lambda_lowered (core_lambda out draft next [] p).0 ≡ true

-- The rows of plain forms are lowered, whether something is wrong with the forms or not.
abbrev pub PlainFormsAreLowered : Outside → Type 0
PlainFormsAreLowered out = (forms : List Form)
    → list_all (λ form. is_form_plain form.1) forms ≡ true
    → list_all is_row_lowered (rows_of out forms) ≡ true
