-- A relation of trees to others in their places, in forms.
use Rattle.std.proofs.Common.{◌≡◌, ℕ, ◌+◌, refl, arith}
use Rattle.dy_rules.specs.Forms.{FormTree, expression_form, class_form, constant_form, variable_form, generic_form, method_form, function_form, domain_form}
use Rattle.dy_rules.specs.FormDepth.{form_depth}
use Rattle.dy_rules_depth.specs.Changes.{changed_form}
use Rattle.dy_rules_depth.proofs.Parts.{Parts, related_target, related_parameters, related_body, related_slots, related_domain}

-- with how much deeper than its parts the form is
pub record FormParts (parts : Parts) (before after : FormTree) : Type 0 where
  pub levels : ℕ
  pub depth_before : ℕ
  pub depth_after : ℕ
  pub is_before : form_depth before ≡ levels + depth_before
  pub is_after : form_depth after ≡ levels + depth_after
  pub related : parts.Related FormTree before after depth_before depth_after

module _ (parts : Parts) where
  whole : (levels m n : ℕ) (before after : FormTree) → form_depth before ≡ levels + m → form_depth after ≡ levels + n → parts.Related FormTree before after m n → FormParts parts before after
  whole levels m n before after is is_after h = record { levels = levels; depth_before = m; depth_after = n; is_before = is; is_after = is_after; related = h }

  pub related_form : (form : FormTree) → FormParts parts form (changed_form parts.change form)
  related_form (expression_form tree) = whole 0 _ _ _ _ (omega arith) (omega arith) (parts.one expression_form (parts.tree tree))
  related_form (class_form define adjectives token superclasses slots) = whole 1 _ _ _ _ refl refl (parts.one (class_form define adjectives token superclasses) (related_slots parts slots))
  related_form (constant_form define target assigned) = whole 1 _ _ _ _ refl refl (parts.two (constant_form define) (related_target parts target) (parts.tree assigned))
  related_form (variable_form define target assigned) = whole 1 _ _ _ _ refl refl (parts.two (variable_form define) (related_target parts target) (parts.tree assigned))
  related_form (generic_form define adjectives token signature) = whole 1 _ _ _ _ refl refl (parts.one (generic_form define adjectives token) (related_parameters parts signature))
  related_form (method_form define adjectives word token signature body) = whole 1 _ _ _ _ refl refl (parts.two (method_form define adjectives word token) (related_parameters parts signature) (related_body parts body))
  related_form (function_form define adjectives token signature body) = whole 1 _ _ _ _ refl refl (parts.two (function_form define adjectives token) (related_parameters parts signature) (related_body parts body))
  related_form (domain_form define token types) = whole 1 _ _ _ _ refl refl (parts.one (domain_form define token) (related_domain parts types))
