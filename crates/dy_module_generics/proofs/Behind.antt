-- Behind others, in front of which what a library uses is there, each generic function is there that the
-- code of the library calls, and each that it exports.
use Rattle.std.proofs.Common.{◌≡◌, ◌⊎◌, inl, inr, ℕ, ◌<◌, ◌≤◌, true, true≢false, List, [], ◌∷◌, ◌++◌, length, map, Option, Some, None, slice_get, refl, sym, ap, ◌∙◌, subst, arith}
use Rattle.std.proofs.lemmas.Option.{slice_get_within}
use Rattle.dy_base.specs.Folding.{folded}
use Rattle.dy_base.specs.Tables.{NamedList}
use Rattle.dy_base.specs.declared.fault.Fault.{Fault}
use Rattle.dy_base.specs.declared.fault.Place.{Place}
use Rattle.dy_base.specs.declared.exports.Exports.{Exports}
use Rattle.dy_base.specs.declared.ids.BindingId.{BindingId}
use Rattle.dy_base.specs.declared.ids.What.TheVariants as whats
use Rattle.dy_tree.specs.declared.token.Token.{Token}
use Rattle.dy_tree.specs.declared.words.Word.{Word}
use Rattle.dy_term.specs.declared.rows.LibraryRow.{LibraryRow}
use Rattle.dy_code.specs.Validity.{Every}
use Rattle.dy_library_rows.specs.Libraries.{Form}
use Rattle.dy_assembly.specs.declared.library.Heading.{Heading}
use Rattle.dy_lowering_whole.specs.valid.Valid.{GenericsAreThere}
use Rattle.dy_lowering_whole.proofs.valid.Securing.{scoped_programs_may_run}
use Rattle.dy_machine_laws.proofs.Built.{valid_programs_end}
use Rattle.dy_module_forms.specs.declared.written.Form.{Form as WrittenForm}
use Rattle.dy_modules.specs.declared.owner.Owner.{Owner}
use Rattle.dy_modules.specs.declared.owner.Owner.TheVariants.{Outside, Own}
use Rattle.dy_modules.specs.declared.clause.ModuleForm.{ModuleForm}
use Rattle.dy_modules.specs.Clauses.{Name, IsIn, given_at}
use Rattle.dy_modules.specs.Sees.{exports}
use Rattle.dy_module_tables.specs.Graphs.{Graph, definition, Visible, IsExported, AreExported, AllExported}
use Rattle.dy_graph.specs.Judged.{Given, own_names, reading, nothing}
use Rattle.dy_definitions.specs.declared.definitions.Definition.{Definition}
use Rattle.dy_definitions.specs.Names.{what_made}
use Rattle.dy_definitions.specs.Means.{no_rows, with_rows, meanings_of}
use Rattle.dy_definitions.specs.Redefined.{all_redefined}
use Rattle.dy_module_names.specs.Definitions.{DefinedName, definitions}
use Rattle.dy_module_names.specs.Definitions as defining
use Rattle.dy_library_names.specs.Named.{Reading, IsFirstFault, form_faults, undefined, library_from}
use Rattle.dy_called_generics.specs.Views.{program_of, IsGenericOf, CallsAreThere}
use Rattle.dy_called_generics.proofs.Names.{IsOwn, own, IsNamed}
use Rattle.dy_called_generics.proofs.Views.{generic_kept}
use Rattle.dy_called_generics.proofs.Generics.{IsOffered, offered, all_tested}
use Rattle.dy_called_generics.proofs.Programs.{placed, calls_are_there, generics_are_there}
use Rattle.dy_module_generics.specs.Behind.{IsThere, NamesAreThere, ModulesAreThere, ExportsAreThere, AreReadBehind, FaultlessAreReadBehind, with_library, CallsAreThereBehind, GenericsAreThereBehind, ExportsAreThereBehind, ExportsStay, ProgramsMayRunBehind, ProgramsEndBehind}
use Rattle.dy_module_generics.proofs.Lists.{rows_mapped}
use Rattle.dy_module_generics.proofs.Numbered.{generic_count, meaning_below, IsSound, HasGiver, all_given}
use Rattle.dy_module_generics.proofs.Owners.{all_owners, all_visible, open_owned}
use Rattle.dy_module_generics.proofs.Outsides.{IsKnown, given_known, own_within}
use Rattle.dy_module_generics.proofs.Offered.{all_sound}

same_id : (a b : BindingId) → (◌≡◌ {A = Option BindingId} (Some a) (Some b)) → a ≡ b
same_id a b e = cc

module _ (before : List LibraryRow) (number : ℕ) (given : Given) (form : WrittenForm) (table : Graph) (words : List Word) (forms : List Form) (read : Reading table number forms)
    (are : AreReadBehind before number given form table words forms read) where
  abbrev ms : List ModuleForm
  ms = table.modules

  abbrev ds : List Definition
  ds = definitions read.modules forms

  abbrev Knows : Owner → Type 0
  Knows = IsKnown before ms

  abbrev KnowsGiven : List ModuleForm → Type 0
  KnowsGiven all = (m : ℕ) (d : ModuleForm) (n : Name) (k : Owner) → slice_get all m ≡ Some d → given_at d n ≡ Some k → IsKnown before all k

  given_here : KnowsGiven ms
  given_here = subst KnowsGiven (sym are.made.modules) (given_known before (own_names given) (reading given form).imported (nothing given) given.modules given.used are.used)

  own_here : (m : ℕ) (d : ModuleForm) (n : Name) → slice_get ms m ≡ Some d → Knows (Own m n)
  own_here m d n at = slice_get_within ms m d at

  visible_known : (m : ℕ) (n : Name) (k : Owner) → Visible ms m n k → Knows k
  visible_known = all_visible ms Knows given_here own_here

  within : table.own ≤ length ms
  within =
      let all = own_within (own_names given) (reading given form).imported (nothing given) given.modules given.used in
      let place = ap length are.made.modules in
      let count = are.made.own in
      omega (arith, all, place, count)

  -- what an owned name of the library is defined as
  meaning_is : (c : ℕ) (a : Name) → Knows (Own c a) → definition read.defs (Own c a) ≡ meanings_of number ds c a
  meaning_is c a less = read.defined.each c a less

  -- each name of a generic function is one of a library in front, or has a number
  abbrev IsKnownName : BindingId → Type 0
  IsKnownName b = IsGenericOf before b ⊎ IsOwn number (generic_count ds) b

  pub by_owner : (b : BindingId) → b.what ≡ whats.Generic → (k : Owner) → Knows k → definition read.defs k ≡ Some b → IsKnownName b
  by_owner b is (Outside id) known e = let same = same_id id b e in inl (subst (IsGenericOf before) same (known (ap (λ (x : BindingId). x.what) same ∙ is)))
  by_owner b is (Own c a) known e = inr (meaning_below number ds c a b (sym (meaning_is c a known) ∙ e) is)

  pub rows : (token : Token) (b : BindingId) → read.out.owner token ≡ Some b → b.what ≡ whats.Generic → IsKnownName b
  rows token b e is =
      let means = (read.meant.owner token b).0 e in
      by_owner b is means.0 (visible_known token.«module» (folded token.text) means.0 means.1) means.2

  -- each definition is of a name of its module, and is offered a row where it makes a generic function
  abbrev Offers : Token → Type 0
  Offers token = IsOffered token (offered read.out forms)

  pub record IsHere (d : Definition) : Type 0 where
    pub offers : Offers d.name
    pub owner : d.owner ≡ read.modules.owner d.name.«module» (folded d.name.text)

  owned : (m : ℕ) (n : Name) → read.modules.is_open m n ≡ true → (c : ℕ) × (a : Name) × (read.modules.owner m n ≡ Some (Own c a))
  owned m n is =
      open_owned ms table.own within m n (read.modules.owner m n) (read.are.owner m n) (λ barred. true≢false (sym is ∙ (read.are.is_open m n).1 barred))

  sound : (place : Place) (pair : DefinedName) → (what_made pair.1 ≡ whats.Generic → Offers pair.0) → IsSound IsHere (defining.definition read.modules place pair)
  sound place pair passes = record {
    tested = λ is. record { offers = passes is; owner = refl };
    owned = λ is. owned pair.0.«module» (folded pair.0.text) is;
  }

  all_here : Every (IsSound IsHere) ds
  all_here = all_sound Offers read.modules (IsSound IsHere) sound forms (all_tested read.out forms)

  -- so each number is that of a name that is offered a row
  named_by : (n : ℕ) → HasGiver number ds IsHere words [] no_rows (with_rows ds [] ds) n → IsNamed Offers number read.out.owner n
  named_by n h =
      let d = h.definition in
      let g = h.giver in
      let seen : Visible ms d.name.«module» (folded d.name.text) (Own g.«module» g.name) = (read.are.owner d.name.«module» (folded d.name.text) (Own g.«module» g.name)).0 (sym h.tested.owner ∙ g.owner) in
      let known = visible_known d.name.«module» (folded d.name.text) (Own g.«module» g.name) seen in
      record {
        token = d.name;
        tested = h.tested.offers;
        meant = (read.meant.owner d.name (own number n)).1 (Own g.«module» g.name, seen, meaning_is g.«module» g.name known ∙ g.meant);
      }

  pub each : (n : ℕ) → n < generic_count ds → IsNamed Offers number read.out.owner n
  each n low = named_by n (all_given number ds IsHere words all_here are.once n low)

  -- who owns what the modules export is known too
  pub exported_name : (m : ℕ) (n : Name) (b : BindingId) → b.what ≡ whats.Generic → IsExported ms read.defs m n b → IsKnownName b
  exported_name m n b is shown = by_owner b is shown.0 (all_owners ms Knows given_here own_here exports m n shown.0 shown.1) shown.2

-- The library of these forms behind the others.
module _ (before : List LibraryRow) (heading : Heading) (given : Given) (form : WrittenForm) (table : Graph) (words : List Word) (forms : List Form) (read : Reading table heading.number forms)
    (are : AreReadBehind before heading.number given form table words forms read) where
  abbrev libraries : List LibraryRow
  libraries = with_library before heading read.out forms

  abbrev count : ℕ
  count = generic_count (definitions read.modules forms)

  meant : (token : Token) (b : BindingId) → read.out.owner token ≡ Some b → b.what ≡ whats.Generic → IsGenericOf before b ⊎ IsOwn heading.number count b
  meant = rows before heading.number given form table words forms read are

  named : (n : ℕ) → n < count → IsNamed (λ (token : Token). IsOffered token (offered read.out forms)) heading.number read.out.owner n
  named = each before heading.number given form table words forms read are

  pub calls_there : CallsAreThere libraries (library_from heading read.out forms)
  calls_there = calls_are_there before heading are.behind read.out forms count meant named

  pub generics_there : GenericsAreThere (program_of before) → GenericsAreThere (program_of libraries)
  generics_there = generics_are_there before heading are.behind read.out forms count meant named

  exported_there : (m : ℕ) (n : Name) (b : BindingId) → IsExported table.modules read.defs m n b → IsThere libraries b
  exported_there m n b shown is =
      placed before heading are.behind read.out forms count meant named b (exported_name before heading.number given form table words forms read are m n b is shown)

  names_there : (m : ℕ) (names some : NamedList BindingId) → ((n : Name) (b : BindingId) → IsIn (n, b) some → IsIn (n, b) names) → AreExported table.modules read.defs m names → NamesAreThere libraries some
  names_there m names [] among all = tt
  names_there m names (row ∷ some) among all = (exported_there m row.0 row.1 (all.exact_to row.0 row.1 (among row.0 row.1 (inl refl))), names_there m names some (λ n b h. among n b (inr h)) all)

  pub modules_there : (shown : List (Name × ℕ)) (list : List (Name × NamedList BindingId)) → AllExported table.modules read.defs shown list → ModulesAreThere libraries list
  modules_there [] list all = subst (ModulesAreThere libraries) (sym all) tt
  modules_there (one ∷ shown) [] all = tt
  modules_there (one ∷ shown) (row ∷ list) all = (names_there one.1 row.1 row.1 (λ n b h. h) all.1, modules_there shown list all.2)

-- parts of a list without items have none
both_empty : {A : Type 0} (xs ys : List A) → xs ++ ys ≡ [] → (xs ≡ []) × (ys ≡ [])
both_empty [] ys e = (refl, e)
both_empty (x ∷ xs) ys e = absurd cc

-- no definition is one too many where no fault of names is told
pub none_redefined : (table : Graph) (number : ℕ) (words : List Word) (doubled : List Fault) (forms : List Form) (read : Reading table number forms) → IsFirstFault table number words doubled forms read None
    → all_redefined words (definitions read.modules forms) ≡ []
none_redefined table number words doubled forms read first =
    let ds = definitions read.modules forms in
    let names = (both_empty (form_faults read.out forms) ((doubled ++ all_redefined words ds) ++ map undefined read.lacking) first.1.0).1 in
    let defined = (both_empty (doubled ++ all_redefined words ds) (map undefined read.lacking) names).0 in
    (both_empty doubled (all_redefined words ds) defined).1

pub faultless_are_read_behind : FaultlessAreReadBehind
faultless_are_read_behind before number given form table words doubled forms read behind used made first =
    record { behind = behind; used = used; made = made; once = none_redefined table number words doubled forms read first }

pub calls_are_there_behind : CallsAreThereBehind
calls_are_there_behind before heading given form table words forms read are = calls_there before heading given form table words forms read are

pub generics_are_there_behind : GenericsAreThereBehind
generics_are_there_behind before heading given form table words forms read are = generics_there before heading given form table words forms read are

pub exports_are_there_behind : ExportsAreThereBehind
exports_are_there_behind before heading given form table words forms read are list all = modules_there before heading given form table words forms read are table.shown list all

pub programs_may_run_behind : ProgramsMayRunBehind
programs_may_run_behind before heading given form table words forms read are all scoped =
    scoped_programs_may_run (program_of (with_library before heading read.out forms)) scoped (generics_are_there_behind before heading given form table words forms read are all)

pub programs_end_behind : ProgramsEndBehind
programs_end_behind before heading given form table words forms read are fuel all scoped =
    valid_programs_end (program_of (with_library before heading read.out forms)) fuel (programs_may_run_behind before heading given form table words forms read are all scoped)

-- what is there stays
id_stays : (front more : List LibraryRow) (b : BindingId) → IsThere front b → IsThere (front ++ more) b
id_stays front more b there is = generic_kept front more b (there is)

modules_stay : (front more : List LibraryRow) (modules : List (Name × NamedList BindingId)) → ModulesAreThere front modules → ModulesAreThere (front ++ more) modules
modules_stay front more [] all = tt
modules_stay front more (row ∷ modules) all = (rows_mapped (IsThere front) (IsThere (front ++ more)) (id_stays front more) row.1 all.0, modules_stay front more modules all.1)

pub exports_stay : ExportsStay
exports_stay front more [] all = tt
exports_stay front more (library ∷ used) all = ((modules_stay front more library.modules all.0.0, modules_stay front more library.seen all.0.1), exports_stay front more used all.1)
