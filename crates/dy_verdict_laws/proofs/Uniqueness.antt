-- The files of a library have one verdict.
use Rattle.std.proofs.Common.{◌≡◌, ℕ, List, [], ◌∷◌, ◌++◌, map, flat_map, slice_get, Option, Some, None, Ok, Err, nat_cmp, refl, sym, ap, ◌∙◌, subst, inl, inr}
use Rattle.std.specs.Prelude.{Result}
use Rattle.std.specs.Cmp.Lexicographic.{slice_cmp, nat_list_cmp_total}
use Rattle.std.specs.FinMap.{find, nat_cmp-IsAntisymmetric, slice_cmp-IsAntisymmetric}
use Rattle.std.specs.FinMap.Entries.{same_entries}
use Rattle.dy_base.specs.Tables.{NameMap, NamedList, by_bytes}
use Rattle.dy_base.specs.declared.exports.Exports.{Exports}
use Rattle.dy_base.specs.declared.ids.BindingId.{BindingId}
use Rattle.dy_base.specs.declared.fault.Fault.{Fault}
use Rattle.dy_base.specs.declared.fault.Place.{Place}
use Rattle.dy_base.specs.declared.fault.Refusal.{Refusal}
use Rattle.dy_base.specs.declared.fault.Refusal.TheVariants as refusals
use Rattle.dy_tree.specs.declared.token.Token.{Token}
use Rattle.dy_tree.specs.declared.words.Words.{Words}
use Rattle.dy_tree.specs.Fragments.{SeenFragment}
use Rattle.dy_lexer.specs.declared.source.Source.{Source}
use Rattle.dy_fragment.specs.Steps.{Grouping, group_of}
use Rattle.dy_fragment.specs.Faults.{Refused}
use Rattle.dy_fragment.proofs.Verdicts.{given_all, unique}
use Rattle.dy_fragment.proofs.Telling.{determined}
use Rattle.dy_module_forms.specs.declared.written.Form.{Form as Written}
use Rattle.dy_module_forms.specs.Forms as written
use Rattle.dy_modules.specs.Clauses.{Name}
use Rattle.dy_module_numbers.specs.Sorting.{libraries}
use Rattle.dy_modules.specs.declared.clause.ModuleForm.{ModuleForm}
use Rattle.dy_modules.specs.declared.owner.Owner.{Owner}
use Rattle.dy_module_tables.specs.Graphs.{Graph, definition, IsExported, AreExported, AllExported}
use Rattle.dy_graph.specs.Judged.{given, Gives, Refuses}
use Rattle.dy_graph.proofs.OneAnswer.{one_answer}
use Rattle.dy_graph.proofs.Rising.{find_sorted, found_in}
use Rattle.dy_token_limit.specs.Limit.{most_tokens, too_many_tokens}
use Rattle.dy_token_limit.proofs.Taking.{first_once as over_once}
use Rattle.dy_views.specs.declared.compiled.Compiled.{Compiled}
use Rattle.dy_names.specs.Outside.{Outside}
use Rattle.dy_library_rows.specs.Libraries.{Form}
use Rattle.dy_definitions.specs.declared.definitions.Definition.{Definition}
use Rattle.dy_definitions.specs.Redefined.{all_redefined}
use Rattle.dy_module_names.specs.Definitions.{Modules, definitions}
use Rattle.dy_library_modules.specs.declared.own_modules.LibraryModules.{LibraryModules}
use Rattle.dy_library_modules.specs.Texts.{RefusesTexts, GivesSources}
use Rattle.dy_library_modules.specs.Users.{AreUsers}
use Rattle.dy_library_modules.specs.Words.{words}
use Rattle.dy_library_modules.specs.Modules.{headers_of, used_by, taken_by, RefusesForms, RefusesRead, GivesRead, RefusesModules, GivesModules}
use Rattle.dy_library_modules.proofs.Uniqueness as texts
use Rattle.dy_library_modules.proofs.Uniqueness.{users_one, users_same, users_apart}
use Rattle.dy_library_names.specs.Early.{early_faults}
use Rattle.dy_library_names.specs.Told.{IsFirst}
use Rattle.dy_library_names.specs.Named.{undefined, form_faults, limits, Reading, library_from}
use Rattle.dy_library_names.proofs.Once.{first_once}
use Rattle.dy_library_names.proofs.SameAnswers.{same_reading}
use Rattle.dy_verdict.specs.declared.library.ReadLibrary.{ReadLibrary}
use Rattle.dy_verdict.specs.Pieces.{Piece, place_of, pieces_of}
use Rattle.dy_verdict.specs.Forms.{first_refused, forms_of}
use Rattle.dy_verdict.specs.Trees.{Trees, form_tokens, IsGrouped, AreGrouped}
use Rattle.dy_verdict.specs.Limits.{fragments_in, AreWithin, HaveTooMany}
use Rattle.dy_verdict.specs.Libraries.{heading_in, place_by, IsReadAs}
use Rattle.dy_verdict.specs.Verdicts.{Verdict, refused, accepted, JudgesNames, JudgesForms, JudgesRead, JudgesPieces, JudgesTrees, JudgesGroups, JudgesSources, IsVerdict}
use Rattle.dy_verdict_laws.specs.Accepted.{VerdictsAreOne}

same_some : (a b : Fault) → Some a ≡ Some b → a ≡ b
same_some a b is = cc

never_some : (told : Option Fault) (fault : Fault) → told ≡ None → told ≡ Some fault → ⊥
never_some told fault none is = absurd cc

-- ---- modules

same_refusal : (one other : Result (List SeenFragment) Fault) (a b : Fault) → one ≡ Err a → other ≡ Err b → one ≡ other → a ≡ b
same_refusal one other a b is also same = cc

-- of one answer that is a fault, or a table
same_fault : (one other : Result Graph Refusal) (a b : Fault) → one ≡ Err (refusals.Fault a) → other ≡ Err (refusals.Fault b) → one ≡ other → a ≡ b
same_fault one other a b is also same = cc

same_table : (one other : Result Graph Refusal) (a b : Graph) → one ≡ Ok a → other ≡ Ok b → one ≡ other → a ≡ b
same_table one other a b is also same = cc

never_same : (one other : Result Graph Refusal) (a : Graph) (b : Fault) → one ≡ Ok a → other ≡ Err (refusals.Fault b) → one ≡ other → ⊥
never_same one other a b is also same = absurd cc

-- what libraries that are used export
module _ (library : Name) (headers : List Name) (used : List Exports) where
  table_or_fault : (forms : List Written) (a : Graph) (b : Fault) → Gives (given library headers forms used) (libraries forms) a → Refuses (given library headers forms used) (libraries forms) b → ⊥
  table_or_fault forms a b g r =
      never_same (Ok a) (Err (refusals.Fault b)) a b refl refl (one_answer library headers (Ok forms) used (Ok a) (Err (refusals.Fault b)) g r (λ e. cc) (λ e. cc))

  fault_once : (forms : List Written) (a b : Fault) → Refuses (given library headers forms used) (libraries forms) a → Refuses (given library headers forms used) (libraries forms) b → a ≡ b
  fault_once forms a b r s =
      same_fault (Err (refusals.Fault a)) (Err (refusals.Fault b)) a b refl refl (one_answer library headers (Ok forms) used (Err (refusals.Fault a)) (Err (refusals.Fault b)) r s (λ e. cc) (λ e. cc))

  table_once : (forms : List Written) (a b : Graph) → Gives (given library headers forms used) (libraries forms) a → Gives (given library headers forms used) (libraries forms) b → a ≡ b
  table_once forms a b g h = same_table (Ok a) (Ok b) a b refl refl (one_answer library headers (Ok forms) used (Ok a) (Ok b) g h (λ e. cc) (λ e. cc))

module _ (library : Name) (headers : List Name) (compiled : Compiled) where
  forms_refused_once : (forms : List Written) (a b : Fault) → RefusesForms library headers compiled forms a → RefusesForms library headers compiled forms b → a ≡ b
  forms_refused_once forms a b (inl r) (inl s) = fault_once library headers (used_by compiled forms) forms a b r s
  forms_refused_once forms a b (inl r) (inr (table, gives, is)) = absurd (table_or_fault library headers (used_by compiled forms) forms table a gives r)
  forms_refused_once forms a b (inr (table, gives, is)) (inl r) = absurd (table_or_fault library headers (used_by compiled forms) forms table b gives r)
  forms_refused_once forms a b (inr (table, gives, is)) (inr (other, also, same)) = same_some a b (sym is ∙ same)

  read_refused_once : (read : Result (List Written) Place) (a b : Fault) → RefusesRead library headers compiled read a → RefusesRead library headers compiled read b → a ≡ b
  read_refused_once (Ok forms) a b r s = forms_refused_once forms a b r s
  read_refused_once (Err place) a b r s = r ∙ sym s

  read_given_once : (read : Result (List Written) Place) (a b : LibraryModules) → GivesRead library headers compiled read a → GivesRead library headers compiled read b → a ≡ b
  read_given_once (Ok forms) a b g h =
      let table = table_once library headers (used_by compiled forms) forms a.table b.table g.table h.table in
      let names = g.names ∙ sym h.names in
      let doubled = g.doubled ∙ sym h.doubled in
      let order = g.order ∙ sym h.order in
      let uses = g.uses ∙ sym h.uses in
      λ i. record { table = table i; names = names i; doubled = doubled i; order = order i; uses = uses i }
  read_given_once (Err place) a b g h = absurd g

  read_given_or_refused : (read : Result (List Written) Place) (a : LibraryModules) (b : Fault) → GivesRead library headers compiled read a → RefusesRead library headers compiled read b → ⊥
  read_given_or_refused (Ok forms) a b g (inl r) = table_or_fault library headers (used_by compiled forms) forms a.table b g.table r
  read_given_or_refused (Ok forms) a b g (inr (table, gives, is)) = never_some (taken_by library compiled forms).library b g.untaken is
  read_given_or_refused (Err place) a b g r = g

module _ (known : Words) (library : Name) (sources : List Source) (compiled : Compiled) where
  refused_once : (a b : Fault) → RefusesModules known library sources compiled a → RefusesModules known library sources compiled b → a ≡ b
  refused_once a b (inl r) (inl s) = same_refusal (Err a) (Err b) a b refl refl (users_one known sources (Err a) (Err b) r s)
  refused_once a b (inl r) (inr (trees, users, s)) = absurd (users_apart known sources trees a users r)
  refused_once a b (inr (trees, users, r)) (inl s) = absurd (users_apart known sources trees b users s)
  refused_once a b (inr (trees, users, r)) (inr (others, also, s)) =
      read_refused_once library (headers_of sources) compiled (written.forms_of others) a b
      (subst (λ (t : List SeenFragment). RefusesRead library (headers_of sources) compiled (written.forms_of t) a) (users_same known sources trees others users also) r) s

  given_once : (a b : LibraryModules) → GivesModules known library sources compiled a → GivesModules known library sources compiled b → a ≡ b
  given_once a b (trees, users, g) (others, also, h) =
      read_given_once library (headers_of sources) compiled (written.forms_of others) a b
      (subst (λ (t : List SeenFragment). GivesRead library (headers_of sources) compiled (written.forms_of t) a) (users_same known sources trees others users also) g) h

  given_or_refused : (a : LibraryModules) (b : Fault) → GivesModules known library sources compiled a → RefusesModules known library sources compiled b → ⊥
  given_or_refused a b (trees, users, g) (inl r) = users_apart known sources trees b users r
  given_or_refused a b (trees, users, g) (inr (others, also, r)) =
      read_given_or_refused library (headers_of sources) compiled (written.forms_of others) a b
      (subst (λ (t : List SeenFragment). GivesRead library (headers_of sources) compiled (written.forms_of t) a) (users_same known sources trees others users also) g) r

-- ---- groups

same_trees : (one other : Trees) (a b : List (List SeenFragment)) → one ≡ Ok a → other ≡ Ok b → one ≡ other → a ≡ b
same_trees one other a b is also same = cc

never_trees : (one other : Trees) (a : List (List SeenFragment)) (b : Fault) → one ≡ Ok a → other ≡ Err b → one ≡ other → ⊥
never_trees one other a b is also same = absurd cc

one_fault : (found : Grouping) (f g : Fault) → found ≡ Err f → found ≡ Err g → f ≡ g
one_fault found f g e h = cc

apart : (found : Grouping) (trees : List SeenFragment) (f : Fault) → found ≡ Ok trees → found ≡ Err f → ⊥
apart found trees f e h = absurd cc

grouped_or_refused : (known : Words) (tokens : List Token) (trees : List SeenFragment) (fault : Fault) → IsGrouped known tokens trees → Refused 200 known tokens fault → ⊥
grouped_or_refused known tokens trees fault g r = apart (group_of known tokens) trees fault (given_all 200 known tokens trees g.0 g.1) (determined 200 known tokens fault r)

grouped_once : (known : Words) (files : List (List Token)) (a b : Trees) → AreGrouped known files a → AreGrouped known files b → a ≡ b
grouped_once known [] (Ok a) (Ok b) g h = ap Ok (g ∙ sym h)
grouped_once known [] (Ok a) (Err f) g h = absurd h
grouped_once known [] (Err f) b g h = absurd g
grouped_once known (tokens ∷ files) (Ok a) (Ok b) (t, ts, one, rest, is) (u, us, other, more, also) =
    let same = same_trees (Ok ts) (Ok us) ts us refl refl (grouped_once known files (Ok ts) (Ok us) rest more) in
    ap Ok (is ∙ (λ i. unique known tokens t u one.0 other.0 i ∷ same i) ∙ sym also)
grouped_once known (tokens ∷ files) (Ok a) (Err f) (t, ts, one, rest, is) (inl r) = absurd (grouped_or_refused known tokens t f one r)
grouped_once known (tokens ∷ files) (Ok a) (Err f) (t, ts, one, rest, is) (inr (u, other, more)) = absurd (never_trees (Ok ts) (Err f) ts f refl refl (grouped_once known files (Ok ts) (Err f) rest more))
grouped_once known (tokens ∷ files) (Err f) (Ok b) (inl r) (u, us, other, more, also) = absurd (grouped_or_refused known tokens u f other r)
grouped_once known (tokens ∷ files) (Err f) (Ok b) (inr (t, one, rest)) (u, us, other, more, also) = absurd (never_trees (Ok us) (Err f) us f refl refl (grouped_once known files (Ok us) (Err f) more rest))
grouped_once known (tokens ∷ files) (Err f) (Err g) (inl r) (inl s) = ap Err (one_fault (group_of known tokens) f g (determined 200 known tokens f r) (determined 200 known tokens g s))
grouped_once known (tokens ∷ files) (Err f) (Err g) (inl r) (inr (u, other, more)) = absurd (grouped_or_refused known tokens u f other r)
grouped_once known (tokens ∷ files) (Err f) (Err g) (inr (t, one, rest)) (inl s) = absurd (grouped_or_refused known tokens t g one s)
grouped_once known (tokens ∷ files) (Err f) (Err g) (inr (t, one, rest)) (inr (u, other, more)) = grouped_once known files (Err f) (Err g) rest more

-- ---- what is exported

same_option : (o p : Option BindingId) → ((v : BindingId) → o ≡ Some v → p ≡ Some v) → ((v : BindingId) → p ≡ Some v → o ≡ Some v) → o ≡ p
same_option None None to from = refl
same_option None (Some v) to from = from v refl
same_option (Some v) p to from = sym (to v refl)

module _ (ms : List ModuleForm) where
  exported_too : (a b : List (NameMap BindingId)) → ((k : Owner) → definition a k ≡ definition b k) → (m : ℕ) (n : Name) (id : BindingId) → IsExported ms a m n id → IsExported ms b m n id
  exported_too a b same m n id (k, owned, is) = (k, owned, sym (same k) ∙ is)

  found_too : (a b : List (NameMap BindingId)) → ((k : Owner) → definition a k ≡ definition b k) → (m : ℕ) (xs ys : NamedList BindingId) → AreExported ms a m xs → AreExported ms b m ys
      → (n : Name) (id : BindingId) → find by_bytes n xs ≡ Some id → find by_bytes n ys ≡ Some id
  found_too a b same m xs ys x y n id e = find_sorted ys y.sorted (n, id) (y.exact_from n id (exported_too a b same m n id (x.exact_to n id (found_in n id xs e))))

  names_once : (a b : List (NameMap BindingId)) → ((k : Owner) → definition a k ≡ definition b k) → (m : ℕ) (xs ys : NamedList BindingId) → AreExported ms a m xs → AreExported ms b m ys → xs ≡ ys
  names_once a b same m xs ys x y =
      same_entries (slice_cmp nat_cmp) nat_list_cmp_total (slice_cmp-IsAntisymmetric nat_cmp-IsAntisymmetric) xs ys x.sorted y.sorted
      (λ n. same_option (find by_bytes n xs) (find by_bytes n ys) (found_too a b same m xs ys x y n) (found_too b a (λ k. sym (same k)) m ys xs y x n))

  exported_once : (a b : List (NameMap BindingId)) → ((k : Owner) → definition a k ≡ definition b k) → (shown : List (Name × ℕ)) (xs ys : List (Name × NamedList BindingId))
      → AllExported ms a shown xs → AllExported ms b shown ys → xs ≡ ys
  exported_once a b same [] xs ys e f = e ∙ sym f
  exported_once a b same (one ∷ shown) [] ys e f = absurd e
  exported_once a b same (one ∷ shown) (x ∷ xs) [] e f = absurd f
  exported_once a b same (one ∷ shown) (x ∷ xs) (y ∷ ys) (e, all, more) (f, also, rest) =
      let name = e ∙ sym f in
      let names = names_once a b same one.1 x.1 y.1 all also in
      let others = exported_once a b same shown xs ys more rest in
      λ i. (name i, names i) ∷ others i

-- ---- pieces

same_number : (a b : ℕ) → Some a ≡ Some b → a ≡ b
same_number a b is = cc

same_piece : (a b : Piece) → Some a ≡ Some b → a ≡ b
same_piece a b is = cc

never_number : (a : ℕ) → Some a ≡ None → ⊥
never_number a is = absurd cc

too_many_once : (pieces : List Piece) (a b : Fault) → HaveTooMany pieces a → HaveTooMany pieces b → a ≡ b
too_many_once pieces a b (number, piece, over, at, is) (other, also, too, there, same) =
    let numbers = same_number number other (over_once most_tokens (fragments_in pieces) (Some number) (Some other) over too) in
    let one = same_piece piece also (sym at ∙ ap (λ (n : ℕ). slice_get pieces n) numbers ∙ there) in
    is ∙ ap (λ (p : Piece). too_many_tokens (place_of p)) one ∙ sym same

within_or_not : (pieces : List Piece) (fault : Fault) → HaveTooMany pieces fault → AreWithin pieces → ⊥
within_or_not pieces fault (number, piece, over, at, is) within = never_number number (over_once most_tokens (fragments_in pieces) (Some number) None over within)

-- ---- forms

module _ (library : List ℕ) where
  library_once : (modules : LibraryModules) (forms : List Form) (r s : Reading modules.table (place_by modules) forms) (a b : ReadLibrary) → IsReadAs library modules forms r a → IsReadAs library modules forms s b → a ≡ b
  library_once modules forms r s a b x y =
      let same = same_reading modules.table (place_by modules) forms r s in
      let row = x.row ∙ ap (λ (out : Outside). library_from (heading_in library modules) out forms) same.out ∙ sym y.row in
      let name = x.name ∙ sym y.name in
      let exported = exported_once modules.table.modules r.defs s.defs same.defined modules.table.shown a.exports.modules b.exports.modules x.exported y.exported in
      let seen = x.seen ∙ sym y.seen in
      let exports : a.exports ≡ b.exports = λ i. record { library = name i; modules = exported i; seen = seen i } in
      let uses = x.uses ∙ sym y.uses in
      let order = x.order ∙ sym y.order in
      λ i. record { row = row i; exports = exports i; uses = uses i; order = order i }

  names_one : (modules : LibraryModules) (forms : List Form) (r s : Reading modules.table (place_by modules) forms) (first : Option Fault) (a b : Verdict) → JudgesNames library modules forms r first a → JudgesNames library modules forms s first b
      → a ≡ b
  names_one modules forms r s (Some fault) a b e f = e ∙ sym f
  names_one modules forms r s None a b (x, reads, is) (y, also, too) = is ∙ ap accepted (library_once modules forms r s x y reads also) ∙ sym too

  forms_one : (modules : LibraryModules) (forms : List Form) (a b : Verdict) → JudgesForms library modules forms a → JudgesForms library modules forms b → a ≡ b
  forms_one modules forms a b (r, first, is_first, is) (s, other, also_first, also) =
      let same = same_reading modules.table (place_by modules) forms r s in
      let faults : (m : Modules) (out : Outside) (lacking : List (Name × Place)) → List (List Fault) =
      λ m out lacking. early_faults forms (definitions m forms)
      ∷ (form_faults out forms ++ ((modules.doubled ++ all_redefined words.items (definitions m forms)) ++ map undefined lacking)) ∷ limits out forms ∷ [] in
      let moved : IsFirst (faults s.modules s.out s.lacking) first = subst (λ (phases : List (List Fault)). IsFirst phases first) (λ i. faults (same.modules i) (same.out i) (same.lacking i)) is_first in
      let told : first ≡ other = first_once (faults s.modules s.out s.lacking) first other moved also_first in
      names_one modules forms r s other a b (subst (λ (f : Option Fault). JudgesNames library modules forms r f a) told is) also

  read_one : (modules : LibraryModules) (first : Option Fault) (forms : List Form) (a b : Verdict) → JudgesRead library modules first forms a → JudgesRead library modules first forms b → a ≡ b
  read_one modules (Some fault) forms a b e f = e ∙ sym f
  read_one modules None forms a b e f = forms_one modules forms a b e f

  pieces_one : (modules : LibraryModules) (pieces : List Piece) (a b : Verdict) → JudgesPieces library modules pieces a → JudgesPieces library modules pieces b → a ≡ b
  pieces_one modules pieces a b (inl (fault, over, is)) (inl (other, too, also)) = is ∙ ap refused (too_many_once pieces fault other over too) ∙ sym also
  pieces_one modules pieces a b (inl (fault, over, is)) (inr (within, judged)) = absurd (within_or_not pieces fault over within)
  pieces_one modules pieces a b (inr (within, judged)) (inl (fault, over, is)) = absurd (within_or_not pieces fault over within)
  pieces_one modules pieces a b (inr (within, judged)) (inr (also, too)) = read_one modules (first_refused pieces) (forms_of pieces) a b judged too

  trees_one : (modules : LibraryModules) (trees : Trees) (a b : Verdict) → JudgesTrees library modules trees a → JudgesTrees library modules trees b → a ≡ b
  trees_one modules (Err fault) a b e f = e ∙ sym f
  trees_one modules (Ok all) a b e f = pieces_one modules (flat_map pieces_of all) a b e f

  groups_one : (modules : LibraryModules) (sources : List Source) (a b : Verdict) → JudgesGroups library modules sources a → JudgesGroups library modules sources b → a ≡ b
  groups_one modules sources a b (trees, grouped, e) (others, also, f) =
      let same = grouped_once words (map (form_tokens modules.names) sources) trees others grouped also in
      trees_one modules others a b (subst (λ (t : Trees). JudgesTrees library modules t a) same e) f

  sources_one : (compiled : Compiled) (sources : List Source) (a b : Verdict) → JudgesSources compiled library sources a → JudgesSources compiled library sources b → a ≡ b
  sources_one compiled sources a b (inl (fault, r, is)) (inl (other, s, also)) = is ∙ ap refused (refused_once words library sources compiled fault other r s) ∙ sym also
  sources_one compiled sources a b (inl (fault, r, is)) (inr (modules, given, judged)) = absurd (given_or_refused words library sources compiled modules fault given r)
  sources_one compiled sources a b (inr (modules, given, judged)) (inl (fault, r, is)) = absurd (given_or_refused words library sources compiled modules fault given r)
  sources_one compiled sources a b (inr (modules, given, judged)) (inr (others, also, too)) =
      groups_one others sources a b (subst (λ (m : LibraryModules). JudgesGroups library m sources a) (given_once words library sources compiled modules others given also) judged) too

pub verdict_one : VerdictsAreOne
verdict_one compiled library all a b (inl (fault, r, is)) (inl (other, s, also)) = is ∙ ap refused (texts.one_fault all fault other r s) ∙ sym also
verdict_one compiled library all a b (inl (fault, r, is)) (inr (sources, gives, judged)) = absurd (texts.apart all sources fault gives r)
verdict_one compiled library all a b (inr (sources, gives, judged)) (inl (fault, r, is)) = absurd (texts.apart all sources fault gives r)
verdict_one compiled library all a b (inr (sources, gives, judged)) (inr (others, also, too)) =
    sources_one library compiled others a b (subst (λ (s : List Source). JudgesSources compiled library s a) (texts.one_reading all sources others gives also) judged) too
