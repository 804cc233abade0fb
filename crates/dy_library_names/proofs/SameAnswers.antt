-- What a library is named is one thing.
use Rattle.std.proofs.Common.{◌≡◌, true≢false, is_some, List, [], ◌∷◌, ◌++◌, map, Option, Some}
use Rattle.std.proofs.Common.{None, Result, Ok, Err, sym, ap, subst, ◌∙◌}
use Rattle.dy_base.specs.declared.fault.Fault.{Fault as FaultData}
use Rattle.dy_base.specs.declared.fault.Refusal.{Refusal}
use Rattle.dy_base.specs.declared.fault.Refusal.TheVariants.{Fault, Memory}
use Rattle.dy_tree.specs.declared.words.Word.{Word}
use Rattle.dy_names.specs.Outside.{Outside}
use Rattle.dy_library_rows.specs.Libraries.{Form}
use Rattle.dy_assembly.specs.declared.library.Heading.{Heading}
use Rattle.dy_modules.specs.declared.owner.Owner.{Owner}
use Rattle.dy_module_tables.specs.Graphs.{Graph, definition}
use Rattle.dy_definitions.specs.Means.{meanings_of}
use Rattle.dy_definitions.specs.Redefined.{all_redefined}
use Rattle.dy_module_names.specs.Definitions.{Modules, definitions}
use Rattle.dy_library_names.specs.declared.library.Named.{Named}
use Rattle.dy_library_names.specs.Early.{early_faults}
use Rattle.dy_library_names.specs.Named.{undefined, form_faults, limits, Reading, phases}
use Rattle.dy_library_names.specs.Named.{IsFirstFault, library_from, IsNamed}
use Rattle.dy_library_names.specs.Told.{IsFirst}
use Rattle.dy_library_names.specs.Laws.{ReadingsAreOne, IsSameAnswer, AnswersAreOne}
use Rattle.dy_library_names.proofs.Once.{modules_once, defined_once, meant_once, lacking_once}
use Rattle.dy_library_names.proofs.Once.{first_once}

pub same_reading : ReadingsAreOne
same_reading g library forms r s = record {
  modules = same;
  defined = defined;
  out = meant_once g.modules r.defs s.defs defined r.out s.out r.meant s.meant;
  lacking = lacking_once g.modules r.defs s.defs defined g.promised r.lacking s.lacking r.lacks
      s.lacks;
}
  where
    same : r.modules ≡ s.modules
    same = modules_once g r.modules s.modules r.are s.are

    defined : (k : Owner) → definition r.defs k ≡ definition s.defs k
    defined = defined_once g.modules r.defs s.defs
        (meanings_of library (definitions r.modules forms))
        (meanings_of library (definitions s.modules forms)) r.defined s.defined
        (ap (λ (modules : Modules). meanings_of library (definitions modules forms)) same)

none_some : (f : FaultData) → None ≡ Some f → ⊥
none_some f e = true≢false (sym (ap is_some e))

module _ (g : Graph) (heading : Heading) (words : List Word) (doubled : List FaultData)
    (forms : List Form) where
  abbrev Read : Type 0
  Read = Reading g heading.number forms

  same_phases : (r s : Read) → phases g heading.number words doubled forms r
      ≡ phases g heading.number words doubled forms s
  same_phases r s = let same = same_reading g heading.number forms r s in
      λ i. early_faults forms (definitions (same.modules i) forms)
      ∷ (form_faults (same.out i) forms
      ++ ((doubled ++ all_redefined words (definitions (same.modules i) forms))
      ++ map undefined (same.lacking i)))
      ∷ limits (same.out i) forms ∷ []

  same_first : (r s : Read) (a b : Option FaultData)
      → IsFirstFault g heading.number words doubled forms r a
      → IsFirstFault g heading.number words doubled forms s b → a ≡ b
  same_first r s a b is other =
      first_once (phases g heading.number words doubled forms s) a b
      (subst (λ (ps : List (List FaultData)). IsFirst ps a) (same_phases r s) is) other

  same_library : (r s : Read) → library_from heading r.out forms
      ≡ library_from heading s.out forms
  same_library r s = ap (λ (out : Outside). library_from heading out forms)
      (same_reading g heading.number forms r s).out

  some_is : (f e : FaultData) → Some f ≡ Some e → f ≡ e
  some_is f e is = ap (or_else f) is
    where
      or_else : FaultData → Option FaultData → FaultData
      or_else f None = f
      or_else f (Some e) = e

  answers : (a b : Result Named Refusal) → IsNamed g heading words doubled forms a
      → IsNamed g heading words doubled forms b → IsSameAnswer a b
  answers (Err Memory) b is other = tt
  answers (Ok a) (Err Memory) is other = tt
  answers (Err (Fault a)) (Err Memory) is other = tt
  answers (Ok a) (Ok b) (r, first, library, table) (s, second, also, there) =
      library ∙ same_library r s ∙ sym also
  answers (Err (Fault a)) (Err (Fault b)) (r, first) (s, second) =
      some_is a b (same_first r s (Some a) (Some b) first second)
  answers (Ok a) (Err (Fault b)) (r, first, library, table) (s, second) =
      none_some b (same_first r s None (Some b) first second)
  answers (Err (Fault a)) (Ok b) (r, first) (s, second, library, table) =
      none_some a (sym (same_first r s (Some a) None first second))

pub same_answer : AnswersAreOne
same_answer g heading words doubled forms a b is other =
    answers g heading words doubled forms a b is other
