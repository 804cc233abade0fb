-- What names mean outside of bodies.
use Rattle.std.specs.Prelude.{◌≡◌, ◌↔◌, List, Option, Some}
use Rattle.dy_base.specs.Folding.{folded}
use Rattle.dy_base.specs.Tables.{NameMap}
use Rattle.dy_base.specs.declared.ids.BindingId.{BindingId}
use Rattle.dy_tree.specs.declared.token.Token.{Token}
use Rattle.dy_term.specs.Types.{CoreType}
use Rattle.dy_modules.specs.declared.clause.ModuleForm.{ModuleForm}
use Rattle.dy_module_tables.specs.declared.lent.LentNames.{LentNames}
use Rattle.dy_module_tables.specs.Graphs.{Means}
use Rattle.dy_module_tables.specs.Seeing.{seen_in}
use Rattle.dy_names.specs.Naming.{Locals}
use Rattle.dy_names.specs.Outside.{Outside}
use Rattle.dy_library_rows.specs.Names.{plain_type}

-- A name means outside of bodies what the module of its token sees it defined as. No name means a
-- type.
pub record AreMeant (ms : List ModuleForm) (defs : List (NameMap BindingId)) (out : Outside)
    : Type 0 where
  pub owner : (name : Token) (id : BindingId) → (out.owner name ≡ Some id)
      ↔ Means ms defs name.module (folded name.text) id
  pub type : (locals : Locals) (declared : CoreType) → out.type locals declared
      ≡ plain_type declared

-- the same as lent tables say it
abbrev pub outside_in : LentNames → Outside
outside_in names = record {
  owner = λ name. seen_in names name.module (folded name.text);
  type = λ locals declared. plain_type declared;
}
