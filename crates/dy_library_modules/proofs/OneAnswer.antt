-- A library has modules or a fault, and where the answer of `graph` is one, it has one answer.
use Rattle.std.proofs.Common.{◌≡◌, List, [], ◌∷◌, Result, Ok, Err, sym, subst, ◌∙◌, inl, inr}
use Rattle.dy_base.specs.declared.fault.Fault.{Fault}
use Rattle.dy_base.specs.declared.fault.Place.{Place}
use Rattle.dy_tree.specs.declared.words.Words.{Words}
use Rattle.dy_tree.specs.Fragments.{SeenFragment}
use Rattle.dy_lexer.specs.declared.source.Source.{Source}
use Rattle.dy_module_forms.specs.declared.written.Form.{Form}
use Rattle.dy_module_forms.specs.Forms.{forms_of}
use Rattle.dy_modules.specs.Clauses.{Name}
use Rattle.dy_module_numbers.specs.Sorting.{libraries}
use Rattle.dy_module_tables.specs.Graphs.{Graph}
use Rattle.dy_graph.specs.Judged.{Given, given, Gives, Refuses}
use Rattle.dy_views.specs.declared.compiled.Compiled.{Compiled}
use Rattle.dy_library_modules.specs.declared.own_modules.LibraryModules.{LibraryModules}
use Rattle.dy_library_modules.specs.Modules.{headers_of, used_by, taken_by, HasModules, RefusesForms, RefusesRead, GivesRead, RefusesModules, GivesModules, TablesAreOne, TableFaultsAreOne}
use Rattle.dy_library_modules.proofs.Uniqueness.{same_some, not_both, users_one, users_same, users_apart}

table_apart : (g : Given) (forms : List Form) (table : Graph) (fault : Fault) → Gives g forms table → Refuses g forms fault → ⊥
table_apart g [] table fault e f = e
table_apart g (form ∷ forms) table fault e (f, told, is) = e.0 f told.fault

module _ (library : Name) (headers : List Name) (compiled : Compiled) where
  forms_apart : (forms : List Form) (found : LibraryModules) (fault : Fault) → HasModules library headers compiled forms found → RefusesForms library headers compiled forms fault → ⊥
  forms_apart forms found fault has (inl refuses) = table_apart (given library headers forms (used_by compiled forms)) (libraries forms) found.table fault has.table refuses
  forms_apart forms found fault has (inr (table, gives, taken)) = not_both (taken_by library compiled forms).library fault has.untaken taken

  read_apart : (read : Result (List Form) Place) (found : LibraryModules) (fault : Fault) → GivesRead library headers compiled read found → RefusesRead library headers compiled read fault → ⊥
  read_apart (Ok forms) found fault e f = forms_apart forms found fault e f
  read_apart (Err place) found fault e f = e

  same_modules : (one other : LibraryModules) → one.table ≡ other.table → one.names ≡ other.names → one.doubled ≡ other.doubled → one.order ≡ other.order → one.uses ≡ other.uses → one ≡ other
  same_modules one other table names doubled order uses = λ i. record { table = table i; names = names i; doubled = doubled i; order = order i; uses = uses i }

  read_one : TablesAreOne → (read : Result (List Form) Place) (one other : LibraryModules) → GivesRead library headers compiled read one → GivesRead library headers compiled read other → one ≡ other
  read_one tables (Ok forms) one other e f =
      same_modules one other (tables (given library headers forms (used_by compiled forms)) one.table other.table e.table f.table) (e.names ∙ sym f.names) (e.doubled ∙ sym f.doubled) (e.order ∙ sym f.order) (e.uses ∙ sym f.uses)
  read_one tables (Err place) one other e f = absurd e

  refused_one : TableFaultsAreOne → (read : Result (List Form) Place) (one other : Fault) → RefusesRead library headers compiled read one → RefusesRead library headers compiled read other → one ≡ other
  refused_one faults (Ok forms) one other (inl e) (inl f) = faults (given library headers forms (used_by compiled forms)) one other e f
  refused_one faults (Ok forms) one other (inl e) (inr (table, gives, taken)) = absurd (table_apart (given library headers forms (used_by compiled forms)) (libraries forms) table one gives e)
  refused_one faults (Ok forms) one other (inr (table, gives, taken)) (inl f) = absurd (table_apart (given library headers forms (used_by compiled forms)) (libraries forms) table other gives f)
  refused_one faults (Ok forms) one other (inr (table, gives, taken)) (inr (table2, gives2, taken2)) = same_some (taken_by library compiled forms).library one other taken taken2
  refused_one faults (Err place) one other e f = e ∙ sym f

module _ (words : Words) (library : Name) (sources : List Source) (compiled : Compiled) where
  pub modules_apart : (found : LibraryModules) (fault : Fault) → GivesModules words library sources compiled found → RefusesModules words library sources compiled fault → ⊥
  modules_apart found fault (trees, users, gives) (inl faulty) = users_apart words sources trees fault users faulty
  modules_apart found fault (trees, users, gives) (inr (others, also, refuses)) =
      read_apart library (headers_of sources) compiled (forms_of trees) found fault gives
      (subst (λ (ts : List SeenFragment). RefusesRead library (headers_of sources) compiled (forms_of ts) fault) (users_same words sources others trees also users) refuses)

  pub one_modules : TablesAreOne → (one other : LibraryModules) → GivesModules words library sources compiled one → GivesModules words library sources compiled other → one ≡ other
  one_modules tables one other (trees, users, gives) (others, also, too) =
      read_one library (headers_of sources) compiled tables (forms_of trees) one other gives
      (subst (λ (ts : List SeenFragment). GivesRead library (headers_of sources) compiled (forms_of ts) other) (users_same words sources others trees also users) too)

  same_error : (f g : Fault) → ◌≡◌ {A = Result (List SeenFragment) Fault} (Err f) (Err g) → f ≡ g
  same_error f g e = cc

  pub one_modules_fault : TableFaultsAreOne → (one other : Fault) → RefusesModules words library sources compiled one → RefusesModules words library sources compiled other → one ≡ other
  one_modules_fault faults one other (inl e) (inl f) = same_error one other (users_one words sources (Err one) (Err other) e f)
  one_modules_fault faults one other (inl e) (inr (trees, users, refuses)) = absurd (users_apart words sources trees one users e)
  one_modules_fault faults one other (inr (trees, users, refuses)) (inl f) = absurd (users_apart words sources trees other users f)
  one_modules_fault faults one other (inr (trees, users, refuses)) (inr (others, also, too)) =
      refused_one library (headers_of sources) compiled faults (forms_of trees) one other refuses
      (subst (λ (ts : List SeenFragment). RefusesRead library (headers_of sources) compiled (forms_of ts) other) (users_same words sources others trees also users) too)
