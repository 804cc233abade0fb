-- What is put in front of arms that were read, where nothing is left of the arm that began before.
use Rattle.std.proofs.Common.{◌≡◌, ◌==◌, ◌<◌, ◌&&◌, ◌||◌, not, ℕ, Bool, true, false, List, [], ◌∷◌, length, reverse, map, Option, Some, None, is_some, option_map, refl, sym, ap, ◌∙◌, arith}
use Rattle.std.proofs.lemmas.Bool.{eqb-true}
use Rattle.std.proofs.lemmas.List.{length-reverse, length-map}
use Rattle.std.specs.Global.{Vec}
use Rattle.dy_tree.specs.declared.expression.Arm.{Arm}
use Rattle.dy_tree.specs.declared.expression.Expression.{Expression}
use Rattle.dy_tree.specs.declared.expression.Item.{Item}
use Rattle.dy_rules.specs.Choices.{Choices, choices_of, arm_of, arm_if, finished_choices, finished_lead, last_with}
use Rattle.dy_rules.specs.SeenForms.{seen_item}
use Rattle.dy_rules.specs.Depth.{body_depth}
use Rattle.dy_rules.specs.Productions.{suits}
use Rattle.dy_rules.specs.Trees as trees
use Rattle.dy_rules.specs.Trees.{Tree, ItemTree, body_of}
use Rattle.dy_rules_depth.specs.Changes.{changed_item}
use Rattle.dy_rules_depth.specs.Capping.{filling}
use Rattle.dy_read_arms.specs.ReadArms.{read_arm, choices_behind, choices_depth, choices_in, body_without, body_before, arm_read, ends_with, last_if}
use Rattle.dy_read_arms.specs.ReadBodies.{read_last, read_list}
use Rattle.dy_read_outers.specs.ReadTrees.{read_tree}

list_length : (lead : List Item) → length (read_list (reverse lead)) ≡ length lead
list_length lead = omega (arith, length-map (map seen_item (reverse lead)) (changed_item filling), length-map (reverse lead) seen_item, length-reverse lead)

some_items : (lead : List Item) → (length lead == 0) ≡ false → 0 < length lead
some_items [] e = absurd cc
some_items (first ∷ rest) e = omega arith

-- a body that nothing stands in, behind an arrow that nothing stands behind
pub without_none : (lead : List Item) → (length lead == 0) ≡ true → Some (read_list lead) ≡ body_without (read_list (reverse lead))
without_none [] e = refl
without_none (first ∷ rest) e = absurd (omega (arith, eqb-true (length (first ∷ rest)) 0 e))

without_trees : (trees : List ItemTree) → 0 < length trees → None ≡ body_without trees
without_trees [] h = absurd (omega (arith, h))
without_trees (first ∷ rest) h = refl

pub without_some : (lead : List Item) → (length lead == 0) ≡ false → None ≡ body_without (read_list (reverse lead))
without_some lead e = without_trees (read_list (reverse lead)) (omega (arith, some_items lead e, list_length lead))

lead_trees : (trees : List ItemTree) (found : Choices) → 0 < length trees → None ≡ finished_lead trees found
lead_trees [] found h = absurd (omega (arith, h))
lead_trees (first ∷ rest) found h = refl

module _ (lead : List Item) (arms : List Arm) (last : Option (Vec Item)) where
  pub lead_left : (length lead == 0) ≡ false → None ≡ finished_choices (choices_behind lead arms last)
  lead_left e = lead_trees (read_list (reverse lead)) (choices_behind lead arms last) (omega (arith, some_items lead e, list_length lead))

  no_lead : (length lead == 0) ≡ true → choices_behind lead arms last ≡ choices_in (reverse arms) last
  no_lead e = none lead e
    where
      none : (list : List Item) → (length list == 0) ≡ true → choices_behind list arms last ≡ choices_in (reverse arms) last
      none [] e = refl
      none (first ∷ rest) e = absurd (omega (arith, eqb-true (length (first ∷ rest)) 0 e))

  pub all_finished : (length lead == 0) ≡ true → finished_choices (choices_behind lead arms last) ≡ Some (choices_in (reverse arms) last)
  all_finished e = ap finished_choices (no_lead e)

  pub all_deep : (length lead == 0) ≡ true → choices_depth (choices_behind lead arms last) ≡ choices_depth (choices_in (reverse arms) last)
  all_deep e = ap choices_depth (no_lead e)

-- as many tests as an arm may have

pub suits_is : (single : Bool) (list : List Expression) → (not single || (length list == 1)) ≡ suits single (map read_tree list)
suits_is false list = refl
suits_is true [] = refl
suits_is true (first ∷ []) = refl
suits_is true (first ∷ second ∷ rest) = more (length (first ∷ second ∷ rest) == 1) refl
  where
    more : (one : Bool) → (length (first ∷ second ∷ rest) == 1) ≡ one → one ≡ false
    more false e = refl
    more true e = absurd (omega (arith, eqb-true (length (first ∷ second ∷ rest)) 1 e))

module _ (single : Bool) (rest : Choices) (trees : List Tree) where
  pub arm_suits : (first : Option ItemTree) → true ≡ suits single trees → option_map (arm_of trees rest.arms rest.last) (body_before rest.lead first) ≡ arm_read single rest (Some trees) (Some first)
  arm_suits first e = ap (λ (is : Bool). arm_if is trees rest (body_before rest.lead first)) e

  pub arm_fails : (first : Option ItemTree) → false ≡ suits single trees → None ≡ arm_read single rest (Some trees) (Some first)
  arm_fails first e = ap (λ (is : Bool). arm_if is trees rest (body_before rest.lead first)) e

  pub arm_without : None ≡ arm_read single rest (Some trees) None
  arm_without = none (suits single trees)
    where
      none : (is : Bool) → None ≡ arm_if is trees rest None
      none true = refl
      none false = refl

-- an `otherwise` stands behind all arms

ends_empty : (list : List trees.Arm) (last : Option (Vec Item)) (empty : Bool) → (length list == 0) ≡ empty → (empty && not (is_some last)) ≡ ends_with list (read_last last)
ends_empty [] None true e = refl
ends_empty [] (Some body) true e = refl
ends_empty [] last false e = absurd cc
ends_empty (first ∷ rest) last true e = absurd (omega (arith, eqb-true (length (first ∷ rest)) 0 e))
ends_empty (first ∷ rest) last false e = refl

pub ends_is : (arms : List Arm) (last : Option (Vec Item)) → ((length arms == 0) && not (is_some last)) ≡ ends_with (map read_arm (reverse arms)) (read_last last)
ends_is arms last =
    ap (λ (n : ℕ). (n == 0) && not (is_some last)) (sym (length-map (reverse arms) read_arm ∙ length-reverse arms)) ∙ ends_empty (map read_arm (reverse arms)) last (length (map read_arm (reverse arms)) == 0) refl

pub last_is : (arms : List trees.Arm) (last : trees.Otherwise) (body : List ItemTree) → last_if (ends_with arms last) body ≡ last_with arms last (Some body)
last_is [] trees.no_otherwise body = refl
last_is [] (trees.otherwise inner) body = refl
last_is (first ∷ rest) last body = refl

pub last_none : (arms : List trees.Arm) (last : trees.Otherwise) → None ≡ last_with arms last None
last_none [] trees.no_otherwise = refl
last_none [] (trees.otherwise inner) = refl
last_none (first ∷ rest) last = refl

pub ends_deep : (lead : List ItemTree) (arms : List trees.Arm) (last : trees.Otherwise) → ends_with arms last ≡ true → choices_depth (choices_of lead arms last) ≡ body_depth (body_of lead)
ends_deep lead [] trees.no_otherwise e = omega arith
ends_deep lead [] (trees.otherwise inner) e = absurd cc
ends_deep lead (first ∷ rest) last e = absurd cc
