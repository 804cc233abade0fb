use Rattle.std.proofs.Common.{◌≡◌, ◌↔◌, ◌≤◌, ℕ, false, length, ap, subst}
use Rattle.dy_modules.specs.Clauses.{Name}
use Rattle.dy_module_tables.specs.Graphs.{Graph}
use Rattle.dy_modules.specs.Order.{AreRight}
use Rattle.dy_module_tables.specs.Meant.{IsOwner, IsBarred, owner_of, is_open_in}
use Rattle.dy_module_tables.proofs.Standing.{owner_right, opening, whole_clear}
use Rattle.dy_module_tables.proofs.module_table.ModuleTable.lay_open.Goals as goal

pub returns : goal.returns
returns c =
    let t = c.self.inside in
    record {
      modules = ap (λ (g : Graph). g.modules) c.self.view_is;
      own = ap (λ (g : Graph). g.own) c.self.view_is;
      promised = ap (λ (g : Graph). g.promised) c.self.view_is;
      shown = ap (λ (g : Graph). g.shown) c.self.view_is;
      within = subst (λ (g : Graph). g.own ≤ length g.modules) c.self.view_is c.self.invariant.within;
      right = subst (λ (g : Graph). AreRight g.modules t.tables.items) c.self.view_is c.self.invariant.right;
      clear = whole_clear t.modules t.own t.tables.items t.defined.items c.self.invariant;
      owners = λ m n. subst (λ (g : Graph). IsOwner g.modules m n (owner_of t.modules t.tables.items m n)) c.self.view_is
          (owner_right t.modules t.own t.tables.items t.defined.items c.self.invariant m n);
      opens = λ m n. subst (λ (g : Graph). (is_open_in t.own t.modules t.tables.items m n ≡ false) ↔ IsBarred g.modules g.own m n) c.self.view_is
          (opening t.modules t.own t.tables.items t.defined.items c.self.invariant m n);
    }
