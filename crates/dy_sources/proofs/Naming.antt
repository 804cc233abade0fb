-- A library that is accepted uses libraries in front of it, and has a name that none of them has.
use Rattle.std.proofs.Common.{◌≡◌, ℕ, List, [], ◌∷◌, Option, Some, None, cond, Result, Ok, Err, refl, sym, ◌∙◌, subst}
use Rattle.std.specs.Prelude.{is_some}
use Rattle.dy_base.specs.declared.exports.Exports.{Exports}
use Rattle.dy_base.specs.declared.fault.Fault.{Fault}
use Rattle.dy_base.specs.declared.fault.Place.{Place}
use Rattle.dy_lexer.specs.declared.source.Source.{Source}
use Rattle.dy_module_forms.specs.declared.written.Form.{Form}
use Rattle.dy_module_forms.specs.Forms.{forms_of}
use Rattle.dy_module_tables.specs.Graphs.{Graph}
use Rattle.dy_module_numbers.specs.Sorting.{libraries}
use Rattle.dy_graph.specs.Judged.{Given, given, Gives}
use Rattle.dy_doubled.specs.Doubled.{first_form, library_fault}
use Rattle.dy_views.specs.declared.compiled.Compiled.{Compiled}
use Rattle.dy_views.specs.Views.{number_of}
use Rattle.dy_libraries.specs.declared.libraries.Libraries.{Libraries}
use Rattle.dy_libraries.specs.Commands.{AreLibraries, IsNext}
use Rattle.dy_library_modules.specs.declared.own_modules.LibraryModules.{LibraryModules}
use Rattle.dy_library_modules.specs.Words.{words}
use Rattle.dy_library_modules.specs.Modules.{headers_of, used_by, GivesRead, GivesModules}
use Rattle.dy_verdict.specs.declared.library.ReadLibrary.{ReadLibrary}
use Rattle.dy_verdict.proofs.Accepted.{accepted_modules, accepted_seen, accepted_lower}
use Rattle.dy_sources.specs.Libraries.{IsAccepted}

no_fault : (found : Option ℕ) (fault : Fault) → cond (is_some found) (Some fault) None ≡ None → found ≡ None
no_fault None fault e = refl
no_fault (Some place) fault e = absurd cc

-- Where its name is not taken, none has it.
untaken : (g : Given) (table : Graph) (exports : List Exports) (library : List ℕ) (forms : List Form) → Gives g forms table → library_fault exports library (first_form forms) ≡ None → number_of exports library ≡ None
untaken g table exports library [] gives e = absurd gives
untaken g table exports library (form ∷ forms) gives e = no_fault (number_of exports library) _ e

new_read : (library : List ℕ) (sources : List Source) (compiled : Compiled) (found : LibraryModules) (read : Result (List Form) Place) → GivesRead library (headers_of sources) compiled read found → number_of compiled.exports library ≡ None
new_read library sources compiled found (Ok forms) has =
    untaken (given library (headers_of sources) forms (used_by compiled forms)) found.table compiled.exports library (libraries forms) has.table has.untaken
new_read library sources compiled found (Err place) has = absurd has

new_modules : (library : List ℕ) (sources : List Source) (compiled : Compiled) (found : LibraryModules) → GivesModules words library sources compiled found → number_of compiled.exports library ≡ None
new_modules library sources compiled found (trees, users, gives) = new_read library sources compiled found (forms_of trees) gives

pub accepted_next : (before : Libraries) (read : ReadLibrary) → AreLibraries before → IsAccepted before read → IsNext before read.exports read.uses read.order
accepted_next before read are is =
    let of = accepted_modules before.compiled is.library read is.texts is.judged in
    let seen = accepted_seen before.compiled is.library read of in
    let new = new_modules is.library of.sources before.compiled of.modules of.given in
    record {
      there = seen.0;
      view = seen.1;
      lower = accepted_lower before.compiled is.library read are.lower of;
      new = subst (λ (name : List ℕ). number_of before.compiled.exports name ≡ None) (sym (of.is.name ∙ is.lower)) new;
    }
