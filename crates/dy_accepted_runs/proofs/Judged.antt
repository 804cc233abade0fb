-- A library that texts were judged to be was read so.
use Rattle.std.proofs.Common.{◌≡◌, ℕ, ◌-◌, List, [], ◌∷◌, length, map, Some, None, Ok, Err, refl, sym, ap, ◌∙◌}
use Rattle.std.specs.Prelude.{Result}
use Rattle.dy_base.specs.declared.fault.Place.{Place}
use Rattle.dy_base.specs.declared.exports.Exports.{Exports}
use Rattle.dy_lexer.specs.declared.source.Source.{Source}
use Rattle.dy_module_forms.specs.declared.written.Form.{Form as Written}
use Rattle.dy_module_forms.specs.Forms as written
use Rattle.dy_modules.specs.Clauses.{Name}
use Rattle.dy_module_numbers.specs.Sorting.{libraries}
use Rattle.dy_module_tables.specs.Graphs.{Graph}
use Rattle.dy_graph.specs.Judged.{Given, given, IsTable, Gives}
use Rattle.dy_views.specs.declared.compiled.Compiled.{Compiled}
use Rattle.dy_views.specs.Views.{exports_in}
use Rattle.dy_library_modules.specs.declared.own_modules.LibraryModules.{LibraryModules}
use Rattle.dy_library_modules.specs.Words.{words}
use Rattle.dy_library_modules.specs.Modules.{headers_of, uses_of, used_by, GivesRead, GivesModules}
use Rattle.dy_verdict.specs.declared.library.ReadLibrary.{ReadLibrary}
use Rattle.dy_verdict.specs.Libraries.{heading_in}
use Rattle.dy_verdict.specs.Verdicts.{accepted, IsVerdict}
use Rattle.dy_verdict_laws.proofs.Accepted.{IsOfForms, accepted_forms, accepted_lowered, accepted_viewed}
use Rattle.dy_accepted_runs.proofs.Read.{IsReadSo}

-- the modules of a table are those of the first form that defines the library, by what it uses
record IsMade (compiled : Compiled) (modules : LibraryModules) : Type 0 where
  pub of : Given
  pub form : Written
  pub used : of.used ≡ map (exports_in compiled modules.order) modules.uses
  pub made : IsTable of form modules.table

by_libraries : (library : Name) (headers : List Name) (compiled : Compiled) (forms all : List Written) (modules : LibraryModules) → used_by compiled forms ≡ map (exports_in compiled modules.order) modules.uses
    → Gives (given library headers forms (used_by compiled forms)) all modules.table → IsMade compiled modules
by_libraries library headers compiled forms [] modules used gives = absurd gives
by_libraries library headers compiled forms (form ∷ rest) modules used gives = record { of = given library headers forms (used_by compiled forms); form = form; used = used; made = gives.1 }

by_read : (library : Name) (headers : List Name) (compiled : Compiled) (read : Result (List Written) Place) (modules : LibraryModules) → GivesRead library headers compiled read modules → IsMade compiled modules
by_read library headers compiled (Ok forms) modules has =
    by_libraries library headers compiled forms (libraries forms) modules
    (ap (λ (order : List ℕ). map (exports_in compiled order) (uses_of compiled forms)) (sym has.order) ∙ ap (map (exports_in compiled modules.order)) (sym has.uses)) has.table
by_read library headers compiled (Err place) modules has = absurd has

made : (compiled : Compiled) (library : Name) (sources : List Source) (modules : LibraryModules) → GivesModules words library sources compiled modules → IsMade compiled modules
made compiled library sources modules (trees, users, gives) = by_read library (headers_of sources) compiled (written.forms_of trees) modules gives

pub read_so : (compiled : Compiled) (library : List ℕ) (texts : List (List ℕ)) (read : ReadLibrary) → IsVerdict compiled library texts (accepted read) → IsReadSo compiled read
read_so compiled library texts read judged =
    let of = accepted_forms compiled library read texts judged in
    let m = made compiled library of.sources of.modules of.given in
    let viewed = accepted_viewed compiled library texts read judged in
    let done = accepted_lowered compiled library texts read judged in
    record {
      there = viewed.0;
      order = viewed.1;
      heading = heading_in library of.modules;
      number = ap (λ (order : List ℕ). length order - 1) (sym of.is.order);
      given = m.of;
      form = m.form;
      table = of.modules.table;
      words = words.items;
      doubled = of.modules.doubled;
      forms = of.forms;
      reading = of.reading;
      used = m.used ∙ ap (λ (order : List ℕ). map (exports_in compiled order) of.modules.uses) (sym of.is.order) ∙ ap (map (exports_in compiled read.order)) (sym of.is.uses);
      made = m.made;
      fine = of.fine;
      row = of.is.row;
      exported = of.is.exported;
      seen = of.is.seen;
      name = ap (λ r. r.name) of.is.row ∙ sym of.is.name;
      scoped = done.0;
      lowered = done.1;
    }
