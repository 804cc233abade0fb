-- What is judged of a library, from what its parts come to.
use Rattle.std.proofs.Common.{◌≡◌, ℕ, List, [], ◌∷◌, ◌++◌, map as list_map, length, replicate}
use Rattle.std.proofs.Common.{Option, Some, None, Ok, Err, true≢false, is_some, refl, sym, ap}
use Rattle.std.proofs.Common.{subst, ◌∙◌}
use Rattle.std.specs.FinMap as map
use Rattle.dy_base.specs.declared.fault.Fault.{Fault as FaultData}
use Rattle.dy_base.specs.declared.fault.Place.{Place}
use Rattle.dy_base.specs.declared.fault.Refusal.TheVariants.{Fault}
use Rattle.dy_tree.specs.declared.words.Word.{Word}
use Rattle.dy_term.specs.declared.draft.Draft.{Draft}
use Rattle.dy_term.specs.Rows.{CoreDraft, seen_draft}
use Rattle.dy_names.specs.Outside.{Outside}
use Rattle.dy_binding.specs.declared.progress.Progress.{Progress}
use Rattle.dy_library_rows.specs.Libraries.{Form, seen_form, or_fault}
use Rattle.dy_assembly.specs.declared.library.Heading.{Heading}
use Rattle.dy_assembly.specs.Libraries.{library_of, drafts_of}
use Rattle.dy_modules.specs.Clauses.{Name}
use Rattle.dy_modules.proofs.Clear.{length-replicate}
use Rattle.dy_module_tables.specs.Graphs.{Graph}
use Rattle.dy_module_tables.specs.Lacking.{AreLacking}
use Rattle.dy_definitions.specs.declared.definitions.Definition.{Definition}
use Rattle.dy_definitions.specs.Means.{Meanings, meanings_of}
use Rattle.dy_definitions.specs.Redefined.{all_redefined}
use Rattle.dy_definitions.specs.Seen.{meanings_in}
use Rattle.dy_module_names.specs.declared.library.LibraryDefinitions.{LibraryDefinitions}
use Rattle.dy_module_names.specs.Definitions.{definitions}
use Rattle.dy_module_names.specs.Given.{IsGiven, IsLaidOpen}
use Rattle.dy_module_names.specs.Means.{AreMeant}
use Rattle.dy_library_names.specs.Closing.{Definitions, put_all, with_definitions}
use Rattle.dy_library_names.specs.declared.library.Judged.{Judged}
use Rattle.dy_library_names.specs.declared.library.Named.{Named}
use Rattle.dy_library_names.specs.declared.reading.Read.{Read}
use Rattle.dy_library_names.specs.Early.{early_faults}
use Rattle.dy_library_names.specs.Named.{undefined, form_faults, limits, Reading, IsFirstFault}
use Rattle.dy_library_names.specs.Named.{IsNamed, IsJudged, IsAssembled}
use Rattle.dy_library_names.specs.Passes.{told_all, first_of, first_in, nothing_read, with_forms}
use Rattle.dy_library_names.specs.Told.{IsFirst}
use Rattle.dy_library_names.proofs.Once.{meant_once}
use Rattle.dy_library_names.proofs.Puts.{length_all, all_defined, means_nothing}
use Rattle.dy_library_names.proofs.FormFaults.{names_are, limits_are, rows_are}
use Rattle.dy_library_names.proofs.FormFaults.{all_sound}
use Rattle.dy_library_names.proofs.Tells.{told_both, told_first, none_told}
use Rattle.dy_library_names.proofs.Firsts.{first_is}

first_none : (a b : Option FaultData) → or_fault a b ≡ None → a ≡ None
first_none None b e = refl
first_none (Some fault) b e = e

second_none : (a b : Option FaultData) → or_fault a b ≡ None → b ≡ None
second_none None b e = e
second_none (Some fault) b e = absurd (true≢false (ap is_some e))

or_none : (a : Option FaultData) → a ≡ or_fault a None
or_none None = refl
or_none (Some fault) = refl

drafts_seen : (forms : List (Place × Draft))
    → list_map (λ (f : Place × Draft). seen_draft f.1) forms ≡ drafts_of (list_map seen_form forms)
drafts_seen [] = refl
drafts_seen (form ∷ forms) =
    ap (λ (l : List CoreDraft). seen_draft form.1 ∷ l) (drafts_seen forms)

-- the table that is made of the open one, with what these definitions define
abbrev pub closed_with : LibraryDefinitions → List Definition → Graph
closed_with given ds = record {
  modules = given.modules.modules;
  own = given.modules.own;
  defined = put_all (meanings_in given.defined.meanings) ds
      (replicate (length given.modules.modules) map.empty);
  promised = given.modules.promised;
  shown = given.modules.shown;
}

module _ (g : Graph) (library : ℕ) (words : List Word) (doubled : List FaultData)
    (forms : List Form) (given : LibraryDefinitions) (is : IsGiven g library words forms given)
    (laid : IsLaidOpen g given.modules) where
  abbrev ds : List Definition
  ds = definitions is.modules forms

  abbrev meanings : Meanings
  meanings = meanings_of library ds

  -- the definitions that are put into the table
  abbrev stored : Definitions
  stored = put_all (meanings_in given.defined.meanings) given.definitions
      (replicate (length given.modules.modules) map.empty)

  abbrev defs : Definitions
  defs = put_all meanings ds (replicate (length g.modules) map.empty)

  same_defs : stored ≡ defs
  same_defs = λ i. put_all (is.meanings i) (is.listed i)
      (replicate (length (laid.modules i)) map.empty)

  same_table : closed_with given given.definitions ≡ with_definitions g defs
  same_table = λ i. record {
    modules = laid.modules i;
    own = laid.own i;
    defined = same_defs i;
    promised = laid.promised i;
    shown = laid.shown i;
  }

  module _ (lacking : List (Name × Place)) (t : Graph)
      (closed : t ≡ closed_with given given.definitions)
      (lacks : AreLacking t.modules t.defined t.promised lacking) (read : Read) (out : Outside)
      (meant : AreMeant t.modules t.defined out)
      (here : read ≡ with_forms out forms nothing_read) where
    whole : t ≡ with_definitions g defs
    whole = closed ∙ same_table

    abbrev reading : Reading g library forms
    reading = record {
      modules = is.modules;
      are = is.are;
      defs = defs;
      defined = record {
        count = length_all meanings ds (replicate (length g.modules) map.empty)
            ∙ length-replicate (length g.modules) map.empty;
        each = λ c a h. all_defined meanings ds (λ x y e. means_nothing library ds x y e)
            (length g.modules) c a h;
      };
      out = out;
      meant = subst (λ (x : Graph). AreMeant x.modules x.defined out) whole meant;
      lacking = lacking;
      lacks = subst (λ (x : Graph). AreLacking x.modules x.defined x.promised lacking) whole lacks;
    }

    abbrev faults : List FaultData
    faults = form_faults out forms
        ++ ((doubled ++ all_redefined words ds) ++ list_map undefined lacking)

    abbrev early : List FaultData
    early = early_faults forms ds

    abbrev behind : List (List FaultData)
    behind = faults ∷ limits out forms ∷ []

    abbrev phases : List (List FaultData)
    phases = early ∷ behind

    -- the first fault of names
    first_name : (told_all (list_map undefined lacking)
        (told_all given.defined.redefined (told_all doubled read.names))).first ≡ first_of faults
    first_name =
        let fs = form_faults out forms in
        let rs = doubled ++ all_redefined words ds in
        let ls = list_map undefined lacking in
        (λ i. (told_all ls (told_all (is.redefined i) (told_all doubled (here i).names))).first)
        ∙ ap (λ (p : Progress). (told_all ls p).first) (sym (told_both doubled
        (all_redefined words ds) (with_forms out forms nothing_read).names))
        ∙ ap (λ (p : Progress). (told_all ls (told_all rs p)).first)
        (names_are out forms nothing_read)
        ∙ ap (λ (p : Progress). p.first) (sym (told_both rs ls (told_all fs nothing_read.names)))
        ∙ ap (λ (p : Progress). p.first) (sym (told_both fs (rs ++ ls) nothing_read.names))
        ∙ told_first (fs ++ (rs ++ ls)) nothing_read.names

    first_limit : read.limits.first ≡ first_of (limits out forms)
    first_limit =
        ap (λ (r : Read). r.limits.first) here
        ∙ ap (λ (p : Progress). p.first) (limits_are out forms nothing_read)
        ∙ told_first (limits out forms) nothing_read.limits

    pub judging : (judged : Judged)
        → judged.first ≡ or_fault (first_of (early_faults forms given.definitions))
        (or_fault (told_all (list_map undefined lacking)
        (told_all given.defined.redefined (told_all doubled read.names))).first read.limits.first)
        → judged.rows ≡ read.rows → judged.table ≡ t
        → IsJudged g library words doubled forms judged
    judging judged first rows kept = (
      reading,
      subst (λ o. IsFirst phases o) (sym is_first) (first_is phases),
      λ none. rows ∙ ap (λ (r : Read). r.rows) here ∙ rows_are out forms nothing_read
          ∙ all_sound out forms (none_told (form_faults out forms)
          ((doubled ++ all_redefined words ds) ++ list_map undefined lacking)
          (first_none (first_of faults) (first_in (limits out forms ∷ []))
          (second_none (first_of early) (first_in behind) (sym is_first ∙ none)))),
      kept ∙ whole,
    )
      where
        is_first : judged.first ≡ first_in phases
        is_first = first
            ∙ (λ i. or_fault (first_of (early_faults forms (is.listed i)))
            (or_fault (first_name i) (first_limit i)))
            ∙ ap (λ o. or_fault (first_of early) (or_fault (first_of faults) o))
            (or_none (first_of (limits out forms)))

-- what is answered by that
module _ (g : Graph) (heading : Heading) (words : List Word) (doubled : List FaultData)
    (drafts : List (Place × Draft)) (judged : Judged)
    (is : IsJudged g heading.number words doubled (list_map seen_form drafts) judged) where
  abbrev forms : List Form
  forms = list_map seen_form drafts

  abbrev Firstly : Option FaultData → Type 0
  Firstly first = IsFirstFault g heading.number words doubled forms is.0 first

  pub named_of : (named : Named) → judged.first ≡ None
      → IsAssembled judged.table heading (list_map (λ (f : Place × Draft). seen_draft f.1) drafts)
      judged.rows named → IsNamed g heading words doubled forms (Ok named)
  named_of named e (out, meant, library, table) = (
    is.0,
    subst Firstly e is.1,
    library ∙ (λ i. library_of heading (same i).owner (drafts_seen drafts i) (is.2 e i)),
    table ∙ is.3,
  )
    where
      same : out ≡ is.0.out
      same = meant_once g.modules is.0.defs is.0.defs (λ k. refl) out is.0.out
          (subst (λ (x : Graph). AreMeant x.modules x.defined out) is.3 meant) is.0.meant

  pub refused_of : (fault : FaultData) → judged.first ≡ Some fault
      → IsNamed g heading words doubled forms (Err (Fault fault))
  refused_of fault e = (is.0, subst Firstly e is.1)
