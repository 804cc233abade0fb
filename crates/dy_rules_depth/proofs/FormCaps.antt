-- A form within the limit is kept, and one that is not is not within it with other trees in the place of those that are too deep either.
use Rattle.std.proofs.Common.{◌≡◌, ◌<◌, ◌≤◌, nat_lt, Bool, true, false, refl, sym, ap, ◌∙◌, arith}
use Rattle.std.proofs.lemmas.Bool.{lt-ltb, ltb-true, ltb-false}
use Rattle.dy_rules.specs.Forms.{FormTree}
use Rattle.dy_rules.specs.Depth.{depth_limit}
use Rattle.dy_rules.specs.FormDepth.{form_depth}
use Rattle.dy_rules_depth.specs.Changes.{changed_form}
use Rattle.dy_rules_depth.specs.Capping.{capping}
use Rattle.dy_rules_depth.proofs.Capped.{capped_parts}
use Rattle.dy_rules_depth.proofs.FormParts.{FormParts, related_form}

pub form_kept : (form : FormTree) → form_depth form ≤ depth_limit → changed_form capping form ≡ form
form_kept form le = let parts : FormParts capped_parts form (changed_form capping form) = related_form capped_parts form in parts.related.kept (omega (arith, parts.is_before))

pub form_deep : (form : FormTree) → nat_lt depth_limit (form_depth (changed_form capping form)) ≡ nat_lt depth_limit (form_depth form)
form_deep form = go (nat_lt depth_limit parts.depth_before) refl
  where
    parts : FormParts capped_parts form (changed_form capping form)
    parts = related_form capped_parts form

    go : (deeper : Bool) → nat_lt depth_limit parts.depth_before ≡ deeper → nat_lt depth_limit (form_depth (changed_form capping form)) ≡ nat_lt depth_limit (form_depth form)
    go true e =
        let lt : depth_limit < parts.depth_before = ltb-true depth_limit parts.depth_before e in
        let more : depth_limit < parts.depth_after = parts.related.deep lt in
        lt-ltb depth_limit (form_depth (changed_form capping form)) (omega (arith, parts.is_after)) ∙ sym (lt-ltb depth_limit (form_depth form) (omega (arith, parts.is_before)))
    go false e = ap (λ (other : FormTree). nat_lt depth_limit (form_depth other)) (parts.related.kept (ltb-false depth_limit parts.depth_before e))
