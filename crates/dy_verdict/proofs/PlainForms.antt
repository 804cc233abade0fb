-- No verdict says that a file is absent.
use Rattle.std.proofs.Common.{◌≡◌, ◌≢◌, ℕ, ◌+◌, Bool, true, false, cond, List, [], ◌∷◌, ◌++◌, map, flat_map, Option, Some, None, Ok, Err, sym, ap, subst, ◌∙◌, inl, inr}
use Rattle.std.specs.Prelude.{Result, IfErr, is_some}
use Rattle.std.proofs.lemmas.Bool.{cond_both}
use Rattle.std.specs.List.{find, filter}
use Rattle.std.specs.Option.{option_or}
use Rattle.dy_base.specs.declared.exports.Exports.{Exports}
use Rattle.dy_base.specs.declared.fault.Fault.{Fault}
use Rattle.dy_base.specs.declared.fault.Place.{Place}
use Rattle.dy_base.specs.declared.fault.Refusal.{Refusal}
use Rattle.dy_base.specs.declared.fault.Refusal.TheVariants as refusals
use Rattle.dy_lexer.specs.declared.source.Source.{Source}
use Rattle.dy_rules.specs.Forms.{FormTree}
use Rattle.dy_rules.specs.Parsing.{Parsed, accepted as told_form, too_deep, no_form, parsed}
use Rattle.dy_tree.specs.declared.token.Token.{Token}
use Rattle.dy_tree.specs.declared.words.Word.{Word}
use Rattle.dy_tree.specs.declared.words.Words.{Words}
use Rattle.dy_tree.specs.Fragments.{SeenFragment}
use Rattle.dy_construct_parts.specs.declared.construct.Construct.{Construct}
use Rattle.dy_construct_parts.specs.Table.{first_absent}
use Rattle.dy_constructs.specs.Forms.{in_form}
use Rattle.dy_token_limit.specs.Limit.{too_many_tokens}
use Rattle.dy_views.specs.declared.compiled.Compiled.{Compiled}
use Rattle.dy_library_rows.specs.Libraries.{Form, or_fault}
use Rattle.dy_module_forms.specs.declared.written.Form.{Form as Written}
use Rattle.dy_module_forms.specs.Forms as written
use Rattle.dy_modules.specs.Clauses.{Name, IsIn}
use Rattle.dy_module_numbers.specs.Sorting.{libraries}
use Rattle.dy_module_tables.specs.Graphs.{Graph}
use Rattle.dy_graph.specs.Judged.{Given, Gives, Refuses, given}
use Rattle.dy_doubled.specs.Doubled.{redefined, is_doubled, doubled_behind, place_of as library_place, library_fault, first_form, imported_in, redefined_in}
use Rattle.dy_definitions.specs.declared.definitions.Definition.{Definition}
use Rattle.dy_definitions.specs.Redefined as definitions
use Rattle.dy_definitions.specs.Redefined.{is_redefined, redefined_among, all_redefined}
use Rattle.dy_library_modules.specs.declared.lexing.Lexed.{Lexed}
use Rattle.dy_library_modules.specs.declared.lexing.Lexed.TheVariants.{Read, Faulty}
use Rattle.dy_library_modules.specs.declared.own_modules.LibraryModules.{LibraryModules}
use Rattle.dy_library_modules.specs.Words.{words}
use Rattle.dy_library_modules.specs.Texts.{AreLexed, faults_of, is_header, first_of, RefusesTexts, GivesSources}
use Rattle.dy_library_modules.specs.Users.{is_user, first_told, IsFaulty, AreJoined}
use Rattle.dy_library_modules.specs.Modules.{headers_of, used_by, RefusesForms, RefusesRead, GivesRead, RefusesModules, GivesModules}
use Rattle.dy_library_names.specs.Early.{stands_for_type, early_if, adds_again, again_among, type_faults, early_faults}
use Rattle.dy_library_names.specs.Told.{or_more, IsTold, IsFirst}
use Rattle.dy_library_names.specs.Named.{undefined, Reading, IsFirstFault, form_faults, limits}
use Rattle.dy_module_names.specs.Definitions as names
use Rattle.dy_verdict.specs.declared.library.ReadLibrary.{ReadLibrary}
use Rattle.dy_verdict.specs.Pieces.{Piece, pieces_of, place_of}
use Rattle.dy_verdict.specs.Forms.{fault_in, form_reading, told_reading, reading, first_refused, forms_of}
use Rattle.dy_verdict.specs.Trees.{Trees, form_tokens, AreGrouped}
use Rattle.dy_verdict.specs.Limits.{HaveTooMany}
use Rattle.dy_verdict.specs.Libraries.{place_by}
use Rattle.dy_verdict.specs.Verdicts.{Verdict, refused, accepted, JudgesNames, JudgesForms, JudgesRead, JudgesPieces, JudgesTrees, JudgesGroups, JudgesSources, IsVerdict, Judged, IsPlain}
use Rattle.dy_verdict.proofs.PlainTokens.{IsPresent, present_same, source_present, groups_present}
use Rattle.dy_verdict.proofs.PlainNames.{Tells}
use Rattle.dy_verdict.proofs.PlainRows.{AllTell, all_tell, forms_tell, limits_tell}
use Rattle.dy_verdict.proofs.PlainModules.{fault_open}

-- ---- texts

lexed_tell : (number : ℕ) (texts : List (List ℕ)) (lexed : List Lexed) → AreLexed number texts lexed → AllTell (faults_of lexed)
lexed_tell number [] [] are = tt
lexed_tell number [] (found ∷ lexed) are = absurd are
lexed_tell number (text ∷ texts) [] are = absurd are
lexed_tell number (text ∷ texts) (Read source ∷ lexed) are = lexed_tell (number + 1) texts lexed are.1
lexed_tell number (text ∷ texts) (Faulty fault ∷ lexed) are = (source_present number text fault are.0, lexed_tell (number + 1) texts lexed are.1)

found_tells : (b : Bool) (fault : Fault) (rest : Option Fault) → IsPresent fault → Tells rest → Tells (cond b (Some fault) rest)
found_tells true fault rest f r = f
found_tells false fault rest f r = r

header_tells : (faults : List Fault) → AllTell faults → Tells (find is_header faults)
header_tells [] all = tt
header_tells (fault ∷ faults) all = found_tells (is_header fault) fault (find is_header faults) all.0 (header_tells faults all.1)

or_tells : (first other : Option Fault) → Tells first → Tells other → Tells (option_or first other)
or_tells None other f o = o
or_tells (Some fault) other f o = f

first_tells : (faults : List Fault) → AllTell faults → Tells (first_of faults)
first_tells [] all = tt
first_tells (fault ∷ faults) all = or_tells (find is_header (fault ∷ faults)) (Some fault) (header_tells (fault ∷ faults) all) all.0

texts_present : (texts : List (List ℕ)) (fault : Fault) → RefusesTexts texts fault → IsPresent fault
texts_present texts fault (lexed, are, is) = subst Tells is (first_tells (faults_of lexed) (lexed_tell 0 texts lexed are))

-- ---- modules

written_present : (read : Result (List Written) Place) (fault : Fault) → written.IsFault read fault → IsPresent fault
written_present (Ok forms) fault is = absurd is
written_present (Err place) fault is = present_same fault (written.syntax_at place) is (λ e. cc)

first_open : (read : Result (List Written) Place) (later : Fault) → IsPresent later → IsPresent (first_told read later)
first_open (Ok forms) later present = present
first_open (Err place) later present = λ e. cc

file_present : (words : Words) (file : Source) (fault : Fault) → IsFaulty words file fault → IsPresent fault
file_present known file fault (inl (later, trees, declined, complete, is)) =
    subst IsPresent (sym is) (first_open (written.forms_of trees) later (groups_present 200 known file.tokens later declined))
file_present known file fault (inr (trees, grouped, deep, is)) = written_present (written.forms_of trees) fault is

users_present : (words : Words) (files : List Source) (fault : Fault) → AreJoined words files (Err fault) → IsPresent fault
users_present known [] fault joined = absurd joined
users_present known (file ∷ files) fault (inl faulty) = file_present known file fault faulty
users_present known (file ∷ files) fault (inr (trees, defining, joined)) = users_present known files fault joined

refuses_present : (g : Given) (forms : List Written) (fault : Fault) → Refuses g forms fault → IsPresent fault
refuses_present g [] fault is = present_same fault _ is (λ e. cc)
refuses_present g (form ∷ forms) fault (f, told, is) = present_same fault _ is (fault_open g form f told.fault)

library_tells : (others : List Exports) (library : Name) (form : Option Written) → Tells (library_fault others library form)
library_tells others library None = tt
library_tells others library (Some form) = cond_both (is_some (library_place others library)) (Some (redefined form)) None Tells (λ t e. cc) (λ t. tt)

read_present : (library : Name) (headers : List Name) (compiled : Compiled) (read : Result (List Written) Place) (fault : Fault) → RefusesRead library headers compiled read fault → IsPresent fault
read_present library headers compiled (Ok forms) fault (inl refuses) = refuses_present (given library headers forms (used_by compiled forms)) (libraries forms) fault refuses
read_present library headers compiled (Ok forms) fault (inr (table, gives, is)) = subst Tells is (library_tells compiled.exports library (first_form (libraries forms)))
read_present library headers compiled (Err place) fault is = present_same fault (written.syntax_at place) is (λ e. cc)

modules_present : (known : Words) (library : Name) (sources : List Source) (compiled : Compiled) (fault : Fault) → RefusesModules known library sources compiled fault → IsPresent fault
modules_present known library sources compiled fault (inl users) = users_present known (filter is_user sources) fault users
modules_present known library sources compiled fault (inr (trees, users, refuses)) = read_present library (headers_of sources) compiled (written.forms_of trees) fault refuses

doubled_tell : (imported : List Name) (before forms : List Written) → AllTell (doubled_behind imported before forms)
doubled_tell imported before [] = tt
doubled_tell imported before (form ∷ forms) =
    let rest = doubled_behind imported (before ++ form ∷ []) forms in
    let more = doubled_tell imported (before ++ form ∷ []) forms in
    cond_both (is_doubled imported before form) (redefined form ∷ rest) rest AllTell (λ t. ((λ e. cc), more)) (λ t. more)

taken_tell : (library : Name) (headers : List Name) (compiled : Compiled) (read : Result (List Written) Place) (modules : LibraryModules) → GivesRead library headers compiled read modules → AllTell modules.doubled
taken_tell library headers compiled (Ok forms) modules has = subst AllTell (sym has.doubled) (doubled_tell (imported_in (used_by compiled forms) (first_form (libraries forms))) [] forms)
taken_tell library headers compiled (Err place) modules has = absurd has

-- ---- forms

form_tells : (place : Place) (form : FormTree) (found : Option Construct) → Tells (fault_in place (form_reading form found))
form_tells place form None = tt
form_tells place form (Some construct) = λ e. cc

told_tells : (place : Place) (told : Parsed) → Tells (fault_in place (told_reading told))
told_tells place no_form = λ e. cc
told_tells place too_deep = λ e. cc
told_tells place (told_form form) = form_tells place form (first_absent (in_form form))

pieces_tell : (first other : Option Fault) → Tells first → Tells other → Tells (or_fault first other)
pieces_tell None other f o = o
pieces_tell (Some fault) other f o = f

refused_tell : (pieces : List Piece) → Tells (first_refused pieces)
refused_tell [] = tt
refused_tell (piece ∷ pieces) = pieces_tell (fault_in (place_of piece) (reading piece.fragments)) (first_refused pieces) (told_tells (place_of piece) (parsed piece.fragments)) (refused_tell pieces)

over_present : (pieces : List Piece) (fault : Fault) → HaveTooMany pieces fault → IsPresent fault
over_present pieces fault (number, piece, over, at, is) = present_same fault (too_many_tokens (place_of piece)) is (λ e. cc)

-- ---- names

early_tells : (b : Bool) (place : Place) (faults : List Fault) → AllTell faults → AllTell (or_more (early_if b place) faults)
early_tells true place faults all = ((λ e. cc), all)
early_tells false place faults all = all

types_tell : (forms : List Form) → AllTell (type_faults forms)
types_tell [] = tt
types_tell (form ∷ forms) = early_tells (stands_for_type form.1) form.0 (type_faults forms) (types_tell forms)

again_tell : (before rest : List Definition) → AllTell (again_among before rest)
again_tell before [] = tt
again_tell before (d ∷ rest) = early_tells (adds_again before d) d.place (again_among (before ++ d ∷ []) rest) (again_tell (before ++ d ∷ []) rest)

redefined_tell : (known : List Word) (ds before rest : List Definition) → AllTell (redefined_among known ds before rest)
redefined_tell known ds before [] = tt
redefined_tell known ds before (d ∷ rest) =
    let others = redefined_among known ds (before ++ d ∷ []) rest in
    let more = redefined_tell known ds (before ++ d ∷ []) rest in
    cond_both (is_redefined known ds before d) (definitions.redefined d ∷ others) others AllTell (λ t. ((λ e. cc), more)) (λ t. more)

undefined_tell : (list : List (Name × Place)) → AllTell (map undefined list)
undefined_tell [] = tt
undefined_tell (name ∷ list) = ((λ e. cc), undefined_tell list)

at_tells : (before behind : List Fault) (fault : Fault) → AllTell (before ++ fault ∷ behind) → IsPresent fault
at_tells [] behind fault all = all.0
at_tells (first ∷ before) behind fault all = at_tells before behind fault all.1

told_present : (faults : List Fault) (fault : Fault) → IsTold faults fault → AllTell faults → IsPresent fault
told_present faults fault told all = at_tells told.before told.behind fault (subst AllTell told.all all)

first_present : (early named limit : List Fault) (first : Option Fault) → AllTell early → AllTell named → AllTell limit → IsFirst (early ∷ named ∷ limit ∷ []) first → Tells first
first_present early named limit None e n l is = tt
first_present early named limit (Some fault) e n l (inl told) = told_present early fault told e
first_present early named limit (Some fault) e n l (inr (none, inl told)) = told_present named fault told n
first_present early named limit (Some fault) e n l (inr (none, inr (also, inl told))) = told_present limit fault told l
first_present early named limit (Some fault) e n l (inr (none, inr (also, inr (last, is)))) = absurd cc

-- ---- verdicts

-- of a verdict that is a fault, no absent file
abbrev IsOpen : Verdict → Type 0
IsOpen (accepted library) = Unit {0}
IsOpen (refused fault) = IsPresent fault

refused_open : (verdict : Verdict) (fault : Fault) → verdict ≡ refused fault → IsPresent fault → IsOpen verdict
refused_open verdict fault is present = subst IsOpen (sym is) present

accepted_open : (verdict : Verdict) (read : ReadLibrary) → verdict ≡ accepted read → IsOpen verdict
accepted_open verdict read is = subst IsOpen (sym is) tt

names_open : (library : List ℕ) (modules : LibraryModules) (forms : List Form) (r : Reading modules.table (place_by modules) forms) (first : Option Fault) (verdict : Verdict) → Tells first → JudgesNames library modules forms r first verdict
    → IsOpen verdict
names_open library modules forms r None verdict tells (read, reads, is) = accepted_open verdict read is
names_open library modules forms r (Some fault) verdict tells is = refused_open verdict fault is tells

forms_open : (library : List ℕ) (modules : LibraryModules) (forms : List Form) (verdict : Verdict) → AllTell modules.doubled → JudgesForms library modules forms verdict → IsOpen verdict
forms_open library modules forms verdict taken (r, first, is_first, judged) =
    let ds = names.definitions r.modules forms in
    let early = all_tell (type_faults forms) (again_among [] ds) (types_tell forms) (again_tell [] ds) in
    let others = all_tell (modules.doubled ++ all_redefined words.items ds) (map undefined r.lacking) (all_tell modules.doubled (all_redefined words.items ds) taken (redefined_tell words.items ds [] ds)) (undefined_tell r.lacking) in
    let named = all_tell (form_faults r.out forms) ((modules.doubled ++ all_redefined words.items ds) ++ map undefined r.lacking) (forms_tell r.out r.meant.type forms) others in
    names_open library modules forms r first verdict (first_present _ _ (limits r.out forms) first early named (limits_tell r.out forms) is_first) judged

read_open : (library : List ℕ) (modules : LibraryModules) (told : Option Fault) (forms : List Form) (verdict : Verdict) → Tells told → AllTell modules.doubled → JudgesRead library modules told forms verdict → IsOpen verdict
read_open library modules None forms verdict tells taken judged = forms_open library modules forms verdict taken judged
read_open library modules (Some fault) forms verdict tells taken is = refused_open verdict fault is tells

pieces_open : (library : List ℕ) (modules : LibraryModules) (pieces : List Piece) (verdict : Verdict) → AllTell modules.doubled → JudgesPieces library modules pieces verdict → IsOpen verdict
pieces_open library modules pieces verdict taken (inl (fault, over, is)) = refused_open verdict fault is (over_present pieces fault over)
pieces_open library modules pieces verdict taken (inr (within, judged)) = read_open library modules (first_refused pieces) (forms_of pieces) verdict (refused_tell pieces) taken judged

grouped_present : (files : List (List Token)) (fault : Fault) → AreGrouped words files (Err fault) → IsPresent fault
grouped_present [] fault are = absurd are
grouped_present (tokens ∷ files) fault (inl first) = groups_present 200 words tokens fault first
grouped_present (tokens ∷ files) fault (inr (trees, grouped, are)) = grouped_present files fault are

trees_open : (library : List ℕ) (modules : LibraryModules) (files : List (List Token)) (trees : Trees) (verdict : Verdict) → AllTell modules.doubled → AreGrouped words files trees → JudgesTrees library modules trees verdict → IsOpen verdict
trees_open library modules files (Err fault) verdict taken grouped is = refused_open verdict fault is (grouped_present files fault grouped)
trees_open library modules files (Ok trees) verdict taken grouped judged = pieces_open library modules (flat_map pieces_of trees) verdict taken judged

sources_open : (compiled : Compiled) (library : List ℕ) (sources : List Source) (verdict : Verdict) → JudgesSources compiled library sources verdict → IsOpen verdict
sources_open compiled library sources verdict (inl (fault, refuses, is)) = refused_open verdict fault is (modules_present words library sources compiled fault refuses)
sources_open compiled library sources verdict (inr (modules, (all, users, gives), (trees, grouped, judged))) =
    trees_open library modules (map (form_tokens modules.names) sources) trees verdict (taken_tell library (headers_of sources) compiled (written.forms_of all) modules gives) grouped judged

pub verdict_open : (compiled : Compiled) (library : List ℕ) (texts : List (List ℕ)) (verdict : Verdict) → IsVerdict compiled library texts verdict → IsOpen verdict
verdict_open compiled library texts verdict (inl (fault, refuses, is)) = refused_open verdict fault is (texts_present texts fault refuses)
verdict_open compiled library texts verdict (inr (sources, gives, judged)) = sources_open compiled library sources verdict judged

-- what a call gave that judges so
pub judged_plain : (compiled : Compiled) (library : List ℕ) (texts : List (List ℕ)) (result : Result ReadLibrary Refusal) → Judged (IsVerdict compiled library texts) result → IfErr result IsPlain
judged_plain compiled library texts (Ok read) judged = tt
judged_plain compiled library texts (Err (refusals.Fault fault)) judged = verdict_open compiled library texts (refused fault) judged
judged_plain compiled library texts (Err refusals.Memory) judged = tt
