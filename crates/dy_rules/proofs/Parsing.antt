-- What is told of the fragments of a form is right.
use Rattle.std.proofs.Common.{◌≡◌, ◌<◌, ◌≤◌, nat_lt, Bool, true, false, List, Option, Some, None, refl, sym, ap, ◌∙◌, arith, subst}
use Rattle.std.proofs.lemmas.Bool.{lt-ltb, ltb-true, le-ltb, ltb-false}
use Rattle.dy_tree.specs.Fragments.{SeenFragment}
use Rattle.dy_rules.specs.Depth.{depth_limit}
use Rattle.dy_rules.specs.Forms.{FormTree, IsForm}
use Rattle.dy_rules.specs.FormReading.{form_of}
use Rattle.dy_rules.specs.FormDepth.{form_depth}
use Rattle.dy_rules.specs.FormWriting.{written_form}
use Rattle.dy_rules.specs.Parsing.{Parsed, accepted, too_deep, no_form, limited, parsed_if, parsed}
use Rattle.dy_rules.proofs.FormSound.{form_sound}
use Rattle.dy_rules.proofs.FormComplete.{form_complete}
use Rattle.dy_rules.proofs.FormWritten.{form_writes}

-- what was read, from what is told
found : (fragments : List SeenFragment) (P : Option FormTree → Type 0) → P None → ((form : FormTree) → form_of fragments ≡ Some form → P (Some form)) → P (form_of fragments)
found fragments P none some = go (form_of fragments) refl
  where
    go : (read : Option FormTree) → form_of fragments ≡ read → P read
    go None e = none
    go (Some form) e = some form e

accepted_is : (deep : Bool) (form other : FormTree) → limited deep form ≡ accepted other → (deep ≡ false) × (form ≡ other)
accepted_is true form other e = absurd cc
accepted_is false form other e = (refl, cc)

deep_is : (deep : Bool) (form : FormTree) → limited deep form ≡ too_deep → deep ≡ true
deep_is true form e = refl
deep_is false form e = absurd cc

never_none : (deep : Bool) (form : FormTree) → limited deep form ≡ no_form → ⊥
never_none true form e = cc
never_none false form e = cc

pub accepts : (fragments : List SeenFragment) (form : FormTree) → parsed fragments ≡ accepted form → IsForm form fragments × (form_depth form ≤ depth_limit)
accepts fragments form =
    found fragments (λ read. parsed_if read ≡ accepted form → IsForm form fragments × (form_depth form ≤ depth_limit)) (λ e. absurd cc)
    (λ read is e.
    let (within, same) = accepted_is (nat_lt depth_limit (form_depth read)) read form e in
    let le : form_depth read ≤ depth_limit = ltb-false depth_limit (form_depth read) within in
    (form_sound fragments form (is ∙ ap (λ (f : FormTree). Some f) same), subst (λ (f : FormTree). form_depth f ≤ depth_limit) same le))

pub accepts_all : (fragments : List SeenFragment) (form : FormTree) → IsForm form fragments → form_depth form ≤ depth_limit → parsed fragments ≡ accepted form
accepts_all fragments form h le = ap parsed_if (form_complete form fragments h) ∙ ap (λ (b : Bool). limited b form) (le-ltb depth_limit (form_depth form) le)

pub deep : (fragments : List SeenFragment) → parsed fragments ≡ too_deep → (form : FormTree) × IsForm form fragments × (depth_limit < form_depth form)
deep fragments =
    found fragments (λ read. parsed_if read ≡ too_deep → (form : FormTree) × IsForm form fragments × (depth_limit < form_depth form)) (λ e. absurd cc)
    (λ read is e. (read, form_sound fragments read is, ltb-true depth_limit (form_depth read) (deep_is (nat_lt depth_limit (form_depth read)) read e)))

pub all_deep : (fragments : List SeenFragment) (form : FormTree) → IsForm form fragments → depth_limit < form_depth form → parsed fragments ≡ too_deep
all_deep fragments form h lt = ap parsed_if (form_complete form fragments h) ∙ ap (λ (b : Bool). limited b form) (lt-ltb depth_limit (form_depth form) lt)

pub none : (fragments : List SeenFragment) → parsed fragments ≡ no_form → (form : FormTree) → IsForm form fragments → ⊥
none fragments e form h = never_none (nat_lt depth_limit (form_depth form)) form (sym (ap parsed_if (form_complete form fragments h)) ∙ e)

pub all_none : (fragments : List SeenFragment) → ((form : FormTree) → IsForm form fragments → ⊥) → parsed fragments ≡ no_form
all_none fragments never = found fragments (λ read. parsed_if read ≡ no_form) refl (λ form e. absurd (never form (form_sound fragments form e)))

pub again : (fragments : List SeenFragment) (form : FormTree) → IsForm form fragments → form_depth form ≤ depth_limit → parsed (written_form form) ≡ accepted form
again fragments form h le = accepts_all (written_form form) form (form_writes form fragments h) le
