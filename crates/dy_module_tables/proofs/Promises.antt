-- The first promised name without a definition.
use Rattle.std.proofs.Common.{◌≡◌, inl, inr, ℕ, zero, suc, ◌+◌, ◌<◌, List, [], ◌∷◌, length, drop, Option, Some, None, slice_get, refl, sym, ap, subst, ◌∙◌, arith}
use Rattle.dy_base.specs.Tables.{NameMap}
use Rattle.dy_base.specs.declared.ids.BindingId.{BindingId}
use Rattle.dy_base.specs.declared.fault.Place.{Place}
use Rattle.dy_modules.specs.declared.clause.ModuleForm.{ModuleForm}
use Rattle.dy_module_tables.specs.declared.promise.Promise.{Promise}
use Rattle.dy_modules.specs.Clauses.{Name}
use Rattle.dy_module_tables.specs.Graphs.{IsExported, FirstLacking}
use Rattle.dy_modules.proofs.Rows.{some_is, none_is, one_more, dropped}

module _ (ms : List ModuleForm) (defs : List (NameMap BindingId)) (ps : List Promise) (i : ℕ) (p : Promise) (at : slice_get ps i ≡ Some p) where
  pub rest_of : drop i ps ≡ p ∷ drop (i + 1) ps
  rest_of = dropped ps i p at ∙ ap (λ j. p ∷ drop j ps) (one_more i)

  -- a promise that is kept
  pub kept : (id : BindingId) → IsExported ms defs p.number p.name id → (o : Option (Name × Place)) → FirstLacking ms defs (drop (i + 1) ps) o → FirstLacking ms defs (drop i ps) o
  kept id w o h = subst (λ l. FirstLacking ms defs l o) (sym rest_of) (inr ((id, w), h))

  -- and the first that is not
  pub lacking : ((id : BindingId) → IsExported ms defs p.number p.name id → ⊥) → FirstLacking ms defs (drop i ps) (Some (p.name, p.place))
  lacking never = subst (λ l. FirstLacking ms defs l (Some (p.name, p.place))) (sym rest_of) (inl (never, refl))
