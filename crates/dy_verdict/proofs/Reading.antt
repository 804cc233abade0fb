-- What a form is read as, by what the parser says.
use Rattle.std.proofs.Common.{◌≡◌, List, refl, sym, ap, ◌∙◌}
use Rattle.std.specs.Prelude.{Result, Ok, Err, IfOk}
use Rattle.std.specs.declared.alloc.AllocError.{AllocError}
use Rattle.dy_base.specs.declared.kind.Kind.{Kind}
use Rattle.dy_base.specs.declared.kind.Kind.TheVariants.{Syntax, TooDeep}
use Rattle.dy_base.specs.declared.fault.Fault.{Fault}
use Rattle.dy_base.specs.declared.fault.Refusal.{Refusal}
use Rattle.dy_base.specs.declared.fault.Refusal.TheVariants as refusals
use Rattle.dy_tree.specs.declared.form.Form.{Form}
use Rattle.dy_tree.specs.Fragments.{SeenFragment}
use Rattle.dy_rules.specs.SeenForms.{seen_form as seen_tree}
use Rattle.dy_rules.specs.Parsing.{Parsed, accepted, too_deep, no_form, parsed}
use Rattle.dy_reader.specs.Answers.{Accepts, RefusesFor, fault_of}
use Rattle.dy_construct_parts.specs.Table.{first_absent}
use Rattle.dy_constructs.specs.Forms.{in_form}
use Rattle.dy_verdict.specs.declared.forms.Reading.{Reading as Held}
use Rattle.dy_verdict.specs.Forms.{Reading, faulty, form_reading, told_reading, reading}
use Rattle.dy_verdict.specs.Readings.{seen_reading, Tells}

-- of a form that the parser gives
pub form_read : (fragments : List SeenFragment) (found : Form) (result : Result Held AllocError) → Accepts fragments (Ok found)
    → IfOk result (λ held. seen_reading held ≡ form_reading (seen_tree found) (first_absent (in_form (seen_tree found))))
    → IfOk result (λ held. seen_reading held ≡ reading fragments)
form_read fragments found (Ok held) accepts is = is ∙ sym (ap told_reading (accepts.only found refl))
form_read fragments found (Err error) accepts is = tt

fault_read : (fragments : List SeenFragment) (fault : Fault) (found : Reading) → Accepts fragments (Err (refusals.Fault fault)) → RefusesFor no_form Syntax fragments (Err (refusals.Fault fault)) → RefusesFor too_deep TooDeep fragments (Err (refusals.Fault fault))
    → found ≡ faulty fault.kind → found ≡ reading fragments
fault_read fragments fault found accepts syntax deep is = go (parsed fragments) refl
  where
    told : (kind : Kind) → fault ≡ fault_of kind fragments → found ≡ faulty kind
    told kind same = is ∙ ap (λ (f : Fault). faulty f.kind) same

    go : (all : Parsed) → parsed fragments ≡ all → found ≡ reading fragments
    go no_form all = told Syntax (syntax.refused all) ∙ sym (ap told_reading all)
    go too_deep all = told TooDeep (deep.refused all) ∙ sym (ap told_reading all)
    go (accepted tree) all = absurd (accepts.given tree all)

told_read : (fragments : List SeenFragment) (refusal : Refusal) (found : Reading) → Accepts fragments (Err refusal) → RefusesFor no_form Syntax fragments (Err refusal) → RefusesFor too_deep TooDeep fragments (Err refusal) → Tells refusal found
    → found ≡ reading fragments
told_read fragments (refusals.Fault fault) found accepts syntax deep tells = fault_read fragments fault found accepts syntax deep tells
told_read fragments refusals.Memory found accepts syntax deep tells = absurd tells

-- of a form that the parser refuses
pub refusal_read : (fragments : List SeenFragment) (refusal : Refusal) (result : Result Held AllocError) → Accepts fragments (Err refusal) → RefusesFor no_form Syntax fragments (Err refusal) → RefusesFor too_deep TooDeep fragments (Err refusal)
    → IfOk result (λ held. Tells refusal (seen_reading held)) → IfOk result (λ held. seen_reading held ≡ reading fragments)
refusal_read fragments refusal (Ok held) accepts syntax deep tells = told_read fragments refusal (seen_reading held) accepts syntax deep tells
refusal_read fragments refusal (Err error) accepts syntax deep tells = tt
