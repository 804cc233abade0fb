-- A definition of a name of no module.
use Rattle.std.proofs.Common.{◌≡◌, ℕ, zero, suc, ◌≤◌, List, [], ◌∷◌, length, Option, Result, Ok, Err, OnOk, OnErr, refl, sym, ap, subst, arith}
use Rattle.dy_base.specs.Tables.{NameMap}
use Rattle.dy_base.specs.declared.ids.BindingId.{BindingId}
use Rattle.dy_modules.specs.Clauses.{Name}
use Rattle.dy_modules.specs.declared.clause.ModuleForm.{ModuleForm}
use Rattle.dy_modules.specs.declared.rounds.ModuleTables.{ModuleTables}
use Rattle.dy_module_tables.specs.Graphs.{Graph, put_in}
use Rattle.dy_module_tables.specs.Looking.{IsWhole}
use Rattle.dy_module_tables.proofs.Targets.{whole_put}

pub put_past : (defs : List (NameMap BindingId)) (m : ℕ) (n : Name) (id : BindingId)
    → length defs ≤ m → put_in defs m n id ≡ defs
put_past [] m n id past = refl
put_past (t ∷ defs) zero n id past = absurd (omega (arith, past))
put_past (t ∷ defs) (suc m) n id past =
    ap (λ l. t ∷ l) (put_past defs m n id (omega (arith, past)))

-- a table with this definition
abbrev pub with_put : Graph → ℕ → Name → BindingId → Graph
with_put g m n id = record {
  modules = g.modules;
  own = g.own;
  defined = put_in g.defined m n id;
  promised = g.promised;
  shown = g.shown;
}

pub same_graph : (g : Graph) (m : ℕ) (n : Name) (id : BindingId) → put_in g.defined m n id ≡ g.defined
    → g ≡ with_put g m n id
same_graph g m n id same = ap (λ (l : List (NameMap BindingId)). let h : Graph = record {
  modules = g.modules;
  own = g.own;
  defined = l;
  promised = g.promised;
  shown = g.shown;
} in h) (sym same)

-- the tables of the modules stay, whatever is answered
pub whole_after : {A E : Type 0} (r : Result A E) (ms : List ModuleForm) (own : ℕ)
    (done : List (Option ModuleTables)) (old new : List (NameMap BindingId)) (m : ℕ) (n : Name)
    (id : BindingId) → OnOk r (new ≡ put_in old m n id) → OnErr r (new ≡ old)
    → IsWhole ms own done old → IsWhole ms own done new
whole_after (Ok x) ms own done old new m n id put err whole =
    subst (λ (l : List (NameMap BindingId)). IsWhole ms own done l) (sym put)
    (whole_put ms own done old m n id whole)
whole_after (Err e) ms own done old new m n id put err whole =
    subst (λ (l : List (NameMap BindingId)). IsWhole ms own done l) (sym err) whole
