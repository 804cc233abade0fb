-- What is told of fragments does not depend on what stands in the place of trees that are too deep.
use Rattle.std.proofs.Common.{◌≡◌, ◌≤◌, nat_lt, Bool, true, false, List, Option, Some, None, refl, sym, ap, ◌∙◌}
use Rattle.std.proofs.lemmas.Bool.{le-ltb, ltb-false}
use Rattle.dy_tree.specs.Fragments.{SeenFragment}
use Rattle.dy_rules.specs.Cutting.{Item}
use Rattle.dy_rules.specs.Depth.{depth_limit}
use Rattle.dy_rules.specs.Forms.{FormTree}
use Rattle.dy_rules.specs.FormReading.{FormFront, form_front}
use Rattle.dy_rules.specs.FormDepth.{form_depth}
use Rattle.dy_rules.specs.Parsing.{limited, parsed_if, parsed}
use Rattle.dy_rules_depth.specs.Changes.{changed_form}
use Rattle.dy_rules_depth.specs.ReaderChanges.{changed_items}
use Rattle.dy_rules_depth.specs.Capping.{capping, filling}
use Rattle.dy_rules_depth.specs.FormItems.{items_at, form_items}
use Rattle.dy_rules_depth.proofs.CutsSame.{reads_on}
use Rattle.dy_rules_depth.proofs.FormCaps.{form_kept, form_deep}
use Rattle.dy_rules_depth.proofs.FilledNodes.{form_filled}
use Rattle.dy_rules_depth.proofs.FormsSame.{SameForm, form_same, form_of_items}

module _ (form other : FormTree) (same : changed_form capping form ≡ changed_form capping other) where
  pub deep_same : nat_lt depth_limit (form_depth form) ≡ nat_lt depth_limit (form_depth other)
  deep_same = sym (form_deep form) ∙ ap (λ (f : FormTree). nat_lt depth_limit (form_depth f)) same ∙ form_deep other

  pub within_same : form_depth other ≤ depth_limit → form ≡ other
  within_same le =
      let first : form_depth form ≤ depth_limit = ltb-false depth_limit (form_depth form) (deep_same ∙ le-ltb depth_limit (form_depth other) le) in
      sym (form_kept form first) ∙ same ∙ form_kept other le

  limited_same : limited (nat_lt depth_limit (form_depth form)) form ≡ limited (nat_lt depth_limit (form_depth other)) other
  limited_same = ap (λ (deep : Bool). limited deep form) deep_same ∙ go (nat_lt depth_limit (form_depth other)) refl
    where
      go : (deep : Bool) → nat_lt depth_limit (form_depth other) ≡ deep → limited deep form ≡ limited deep other
      go true e = refl
      go false e = ap (limited false) (within_same (ltb-false depth_limit (form_depth other) e))

pub told_same : (form other : Option FormTree) → SameForm form other → parsed_if form ≡ parsed_if other
told_same None None e = refl
told_same (Some form) (Some other) e = let same : changed_form capping form ≡ changed_form capping other = cc in limited_same form other same
told_same form other e = absurd cc

pub items_told : (front : FormFront) (items others : List Item) → changed_items capping items ≡ changed_items capping others → parsed_if (form_items front items) ≡ parsed_if (form_items front others)
items_told front items others e = told_same (form_items front items) (form_items front others) (reads_on (changed_form capping) (form_items front) (form_same front) items others e)

pub fragments_told : (fragments : List SeenFragment) (items : List Item) → changed_items capping items ≡ changed_items capping (items_at (form_front fragments) fragments) → parsed fragments ≡ parsed_if (form_items (form_front fragments) items)
fragments_told fragments items e = ap parsed_if (form_of_items fragments) ∙ sym (items_told (form_front fragments) items (items_at (form_front fragments) fragments) e)

-- of a form with leaves that stand for trees that are too deep
pub filled_told : (form other : FormTree) → changed_form capping (changed_form filling form) ≡ changed_form capping other → limited (nat_lt depth_limit (form_depth (changed_form filling form))) form ≡ parsed_if (Some other)
filled_told form other e = go (nat_lt depth_limit (form_depth (changed_form filling form))) refl ∙ limited_same (changed_form filling form) other e
  where
    go : (deep : Bool) → nat_lt depth_limit (form_depth (changed_form filling form)) ≡ deep → limited deep form ≡ limited deep (changed_form filling form)
    go true f = refl
    go false f = ap (limited false) (sym (form_filled form (ltb-false depth_limit (form_depth (changed_form filling form)) f)))
