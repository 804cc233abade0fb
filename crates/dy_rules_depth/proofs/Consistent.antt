-- What is written of a slot fits together just as well with other trees in the place of its own, where those are as plain.
use Rattle.std.proofs.Common.{◌≡◌, ℕ, zero, suc, ◌+◌, max, ◌<◌, ◌≤◌, nat_lt, Bool, true, false, not, ◌&&◌, if◌then◌else◌, List, map, Option, refl, sym, ap, ◌∙◌, arith}
use Rattle.std.proofs.lemmas.Bool.{ltb-true, ltb-false}
use Rattle.dy_tree.specs.declared.token.Token.{Token}
use Rattle.dy_rules.specs.Trees.{Tree, literal, name, list, MaybeTree, no_tree, some_tree}
use Rattle.dy_rules.specs.ConstantTrees.{Constants, no_constant, Tail, no_tail, is_nil}
use Rattle.dy_rules.specs.Tests.{at_most_one, if_passes, only_if}
use Rattle.dy_rules.specs.Forms.{SlotOption, init_keyword, required_init_keyword, init_value, init_function, setter, SlotTree, names_keyword, gives_value, names_setter, one_value, is_written_once, is_plain, is_plain_default, suits_shared, is_written, is_shared, is_virtual, suits_allocation, is_consistent}
use Rattle.dy_rules.specs.Depth.{depth, constants_depth, tail_depth, depth_limit}
use Rattle.dy_rules.proofs.Lists.{at_most_one_as, any_as, all_as}
use Rattle.dy_rules_depth.specs.Changes.{Change, changed_maybe, changed_option, changed_slot}
use Rattle.dy_rules_depth.specs.Capping.{nested, is_absent, deep_tree, capped, capping, filled, filling}
use Rattle.dy_rules_depth.proofs.DeepTrees.{capped_kept, capped_beyond}

-- What is plain is no deeper than a name.

nil_depth : (items : Constants) (last : Tail) → is_nil items last ≡ true → 1 + max (constants_depth items) (tail_depth last) ≡ 1
nil_depth no_constant no_tail e = refl
nil_depth items last e = absurd cc

plain_depth : (tree : Tree) → is_plain tree ≡ true → depth tree ≡ 1
plain_depth (literal form) e = refl
plain_depth (list opener items last) e = nil_depth items last e
plain_depth tree e = absurd cc

nested_plain : (levels : ℕ) → is_plain (nested levels) ≡ false
unfolding nested
nested_plain zero = refl
nested_plain (suc levels) = refl

deep_tree_plain : is_plain deep_tree ≡ false
unfolding deep_tree
deep_tree_plain = nested_plain depth_limit

capped_plain : (tree : Tree) → is_plain (capped tree) ≡ is_plain tree
capped_plain tree = sym (go (is_plain tree) refl)
  where
    deep : (b : Bool) → nat_lt depth_limit (depth tree) ≡ b → is_plain tree ≡ false → is_plain (capped tree) ≡ false
    deep true f e = ap is_plain (capped_beyond tree (ltb-true depth_limit (depth tree) f)) ∙ deep_tree_plain
    deep false f e = ap is_plain (capped_kept tree (ltb-false depth_limit (depth tree) f)) ∙ e

    go : (plain : Bool) → is_plain tree ≡ plain → plain ≡ is_plain (capped tree)
    go true e = let one = plain_depth tree e in sym (ap is_plain (capped_kept tree (omega arith)) ∙ e)
    go false e = sym (deep (nat_lt depth_limit (depth tree)) refl e)

filled_plain : (tree : Tree) → is_plain (filled tree) ≡ is_plain tree
filled_plain (name token) = go (is_absent token)
  where
    go : (absent : Bool) → is_plain (if absent then deep_tree else name token) ≡ false
    go true = deep_tree_plain
    go false = refl
filled_plain tree = refl

module _ (change : Change) (plain : (tree : Tree) → is_plain (change.on_tree tree) ≡ is_plain tree) where
  keyword_kept : (option : SlotOption) → names_keyword (changed_option change option) ≡ names_keyword option
  keyword_kept (init_keyword token) = refl
  keyword_kept (required_init_keyword token) = refl
  keyword_kept (init_value tree) = refl
  keyword_kept (init_function tree) = refl
  keyword_kept (setter token) = refl

  value_kept : (option : SlotOption) → gives_value (changed_option change option) ≡ gives_value option
  value_kept (init_keyword token) = refl
  value_kept (required_init_keyword token) = refl
  value_kept (init_value tree) = refl
  value_kept (init_function tree) = refl
  value_kept (setter token) = refl

  setter_kept : (option : SlotOption) → names_setter (changed_option change option) ≡ names_setter option
  setter_kept (init_keyword token) = refl
  setter_kept (required_init_keyword token) = refl
  setter_kept (init_value tree) = refl
  setter_kept (init_function tree) = refl
  setter_kept (setter token) = refl

  shared_kept : (option : SlotOption) → suits_shared (changed_option change option) ≡ suits_shared option
  shared_kept (init_keyword token) = refl
  shared_kept (required_init_keyword token) = refl
  shared_kept (init_value tree) = plain tree
  shared_kept (init_function tree) = refl
  shared_kept (setter token) = refl

  default_kept : (default : MaybeTree) → is_plain_default (changed_maybe change default) ≡ is_plain_default default
  default_kept no_tree = refl
  default_kept (some_tree tree) = plain tree

  written_kept : (default : MaybeTree) → is_written (changed_maybe change default) ≡ is_written default
  written_kept no_tree = refl
  written_kept (some_tree tree) = refl

  one_value_kept : (default : MaybeTree) (options : List SlotOption) → one_value (changed_maybe change default) (map (changed_option change) options) ≡ one_value default options
  one_value_kept no_tree options = at_most_one_as gives_value (changed_option change) gives_value value_kept options
  one_value_kept (some_tree tree) options = ap not (any_as gives_value (changed_option change) gives_value value_kept options)

  once_kept : (slot : SlotTree) → is_written_once (changed_slot change slot) ≡ is_written_once slot
  once_kept slot =
      let keywords = at_most_one_as names_keyword (changed_option change) names_keyword keyword_kept slot.options in
      let values = one_value_kept slot.default slot.options in
      let setters = at_most_one_as names_setter (changed_option change) names_setter setter_kept slot.options in
      rw (keywords, values, setters) refl

  allocation_kept : (slot : SlotTree) → suits_allocation (changed_slot change slot) ≡ suits_allocation slot
  allocation_kept slot =
      let plain_kept = default_kept slot.default in
      let shared = all_as suits_shared (changed_option change) suits_shared shared_kept slot.options in
      let written = written_kept slot.default in
      let setters = all_as names_setter (changed_option change) names_setter setter_kept slot.options in
      rw (plain_kept, shared, written, setters) refl

  consistent_kept : (slot : SlotTree) → is_consistent (changed_slot change slot) ≡ is_consistent slot
  consistent_kept slot = rw (once_kept slot, allocation_kept slot) refl

pub consistent_capped : (slot : SlotTree) → is_consistent (changed_slot capping slot) ≡ is_consistent slot
consistent_capped slot = consistent_kept capping capped_plain slot

pub consistent_filled : (slot : SlotTree) → is_consistent (changed_slot filling slot) ≡ is_consistent slot
consistent_filled slot = consistent_kept filling filled_plain slot
