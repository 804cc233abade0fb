-- What is read of fragments is the form that they stand for, and only that.
use Rattle.std.proofs.Common.{◌≡◌, List, Some, sym, subst, ◌∙◌}
use Rattle.dy_tree.specs.Fragments.{SeenFragment}
use Rattle.dy_rules.specs.Types.{TypeTree, a_type, IsType, TargetTree, IsTarget}
use Rattle.dy_rules.specs.TypeReading.{type_items, target_items}
use Rattle.dy_rules.specs.Fragments.{items_of}
use Rattle.dy_rules.specs.Forms.{FormTree, IsForm}
use Rattle.dy_rules.specs.FormReading.{form_of}
use Rattle.dy_rules.specs.FormWriting.{written_form}
use Rattle.dy_rules.proofs.Lists.{some_one, fragments_back}
use Rattle.dy_rules.proofs.TypeSound.{type_sound, target_sound}
use Rattle.dy_rules.proofs.TypeComplete.{type_complete, whole_type_reads, target_complete}
use Rattle.dy_rules.proofs.FragmentsSound.{items_sound}
use Rattle.dy_rules.proofs.FormSound.{form_sound}
use Rattle.dy_rules.proofs.FormComplete.{form_complete}
use Rattle.dy_rules.proofs.FormWritten.{form_writes}

pub one_form : (fragments : List SeenFragment) (form other : FormTree) → IsForm form fragments → IsForm other fragments → form ≡ other
one_form fragments form other h k = some_one form other (sym (form_complete form fragments h) ∙ form_complete other fragments k)

pub form_again : (fragments : List SeenFragment) (form : FormTree) → form_of fragments ≡ Some form → form_of (written_form form) ≡ Some form
form_again fragments form e = form_complete form (written_form form) (form_writes form fragments (form_sound fragments form e))

pub reads_type : (fragments : List SeenFragment) (type : TypeTree) → type_items (items_of fragments) ≡ Some type → IsType (a_type type) fragments
reads_type fragments type e = subst (IsType (a_type type)) (fragments_back fragments) (type_sound (items_of fragments) type (items_sound fragments) e)

pub reads_all_types : (fragments : List SeenFragment) (type : TypeTree) → IsType (a_type type) fragments → type_items (items_of fragments) ≡ Some type
reads_all_types fragments type h = whole_type_reads type fragments (type_complete (a_type type) fragments h)

pub one_type : (fragments : List SeenFragment) (type other : TypeTree) → IsType (a_type type) fragments → IsType (a_type other) fragments → type ≡ other
one_type fragments type other h k = some_one type other (sym (reads_all_types fragments type h) ∙ reads_all_types fragments other k)

pub reads_target : (fragments : List SeenFragment) (target : TargetTree) → target_items (items_of fragments) ≡ Some target → IsTarget target fragments
reads_target fragments target e = subst (IsTarget target) (fragments_back fragments) (target_sound (items_of fragments) target (items_sound fragments) e)

pub reads_all_targets : (fragments : List SeenFragment) (target : TargetTree) → IsTarget target fragments → target_items (items_of fragments) ≡ Some target
reads_all_targets fragments target h = target_complete target fragments h

pub one_target_alone : (fragments : List SeenFragment) (target other : TargetTree) → IsTarget target fragments → IsTarget other fragments → target ≡ other
one_target_alone fragments target other h k = some_one target other (sym (target_complete target fragments h) ∙ target_complete other fragments k)
