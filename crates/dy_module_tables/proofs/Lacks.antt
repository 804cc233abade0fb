-- Which promised names are not defined, as the tables say it.
use Rattle.std.proofs.Common.{◌≡◌, inl, inr, ℕ, List, [], ◌∷◌, ◌++◌, Option, Some, None, slice_get, refl, sym, ap, subst, ◌∙◌}
use Rattle.std.proofs.lemmas.List.{append_assoc, append-nil}
use Rattle.dy_base.specs.Tables.{NameMap}
use Rattle.dy_base.specs.declared.ids.BindingId.{BindingId}
use Rattle.dy_base.specs.declared.fault.Place.{Place}
use Rattle.dy_modules.specs.declared.clause.ModuleForm.{ModuleForm}
use Rattle.dy_modules.specs.declared.rounds.ModuleTables.{ModuleTables}
use Rattle.dy_modules.specs.Clauses.{Name}
use Rattle.dy_module_tables.specs.declared.promise.Promise.{Promise}
use Rattle.dy_module_tables.specs.Graphs.{IsExported}
use Rattle.dy_module_tables.specs.Looking.{IsWhole, maybe_definition, export_in}
use Rattle.dy_module_tables.specs.Lacking.{AreLacking, lacking_by, with_lacking}
use Rattle.dy_modules.proofs.Rows.{none_is}
use Rattle.dy_module_tables.proofs.Exported.{exported_to, exported_from}

module _ (ms : List ModuleForm) (own : ℕ) (done : List (Option ModuleTables))
    (defs : List (NameMap BindingId)) (whole : IsWhole ms own done defs) where
  abbrev Behind : List Promise → List (Name × Place) → Type 0
  Behind ps list = (rest : List (Name × Place)) × (with_lacking done defs ps list ≡ list ++ rest)
      × AreLacking ms defs ps rest

  by_found : (p : Promise) (ps : List Promise) (list : List (Name × Place)) (o : Option BindingId)
      → maybe_definition defs (export_in (slice_get done p.number) p.name) ≡ o
      → Behind ps (lacking_by o p list)
      → (rest : List (Name × Place)) × (with_lacking done defs ps (lacking_by o p list)
      ≡ list ++ rest) × AreLacking ms defs (p ∷ ps) rest
  by_found p ps list None is (rest, same, are) = (
    (p.name, p.place) ∷ rest,
    same ∙ append_assoc list ((p.name, p.place) ∷ []) rest,
    inl (
      λ id w. none_is id (sym is ∙ exported_from ms own done defs whole p.number p.name id w),
      rest,
      refl,
      are,
    ),
  )
  by_found p ps list (Some id) is (rest, same, are) = (
    rest,
    same,
    inr ((id, exported_to ms own done defs whole p.number p.name id is), are),
  )

  behind : (ps : List Promise) (list : List (Name × Place)) → Behind ps list
  behind [] list = ([], sym (append-nil list), refl)
  behind (p ∷ ps) list =
      let o = maybe_definition defs (export_in (slice_get done p.number) p.name) in
      by_found p ps list o refl (behind ps (lacking_by o p list))

  pub are_lacking : (ps : List Promise) → AreLacking ms defs ps (with_lacking done defs ps [])
  are_lacking ps = let b = behind ps [] in subst (AreLacking ms defs ps) (sym b.1) b.2
