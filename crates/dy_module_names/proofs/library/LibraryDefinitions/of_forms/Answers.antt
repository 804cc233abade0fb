use Rattle.std.proofs.Common.{◌≤◌, List, length, map, sym, ap, subst, ◌∙◌}
use Rattle.dy_modules.specs.declared.clause.ModuleForm.{ModuleForm}
use Rattle.dy_modules.specs.Order.{AreRight}
use Rattle.dy_library_rows.specs.Libraries.{seen_form}
use Rattle.dy_definitions.specs.Means.{meanings_of}
use Rattle.dy_definitions.specs.Redefined.{all_redefined}
use Rattle.dy_module_names.specs.Given.{modules_in}
use Rattle.dy_module_names.proofs.Listed.{definitions_are}
use Rattle.dy_module_names.proofs.library.LibraryDefinitions.of_forms.Goals as goal

pub returns : goal.returns
returns c =
    let laid = c.lay_open-modules.ensures in
    let open_table = c.lay_open-modules.result in
    let modules = modules_in open_table in
    let forms = map seen_form c.args.forms.now in
    let listed = c.in_ok-definitions.ensures ∙ definitions_are modules forms in
    let given = c.as_slice.ensures ∙ listed in
    record {
      given = record {
        modules = modules;
        are = record { owner = laid.owners; is_open = laid.opens };
        listed = listed;
        meanings = c.in_ok-defined.ensures.meanings ∙ ap (meanings_of c.args.library) given;
        redefined = c.in_ok-defined.ensures.redefined
            ∙ ap (all_redefined c.args.words.now.items) given;
      };
      laid = record {
        modules = laid.modules;
        own = laid.own;
        promised = laid.promised;
        shown = laid.shown;
        within =
            subst (λ (ms : List ModuleForm). open_table.own ≤ length ms) (sym laid.modules)
            (subst (λ n. n ≤ length c.args.table.modules) (sym laid.own) laid.within);
        right = subst (λ (ms : List ModuleForm). AreRight ms open_table.tables.items)
            (sym laid.modules) laid.right;
        clear = laid.clear;
      };
    }
