use Rattle.std.proofs.Common.{◌≡◌, ◌++◌, ap, sym, rules, ◌∙◌}
use Rattle.std.specs.FinMap as map
use Rattle.dy_base.specs.Tables.{named, table_of}
use Rattle.dy_base.proofs.Tables.{insert_hashed, insert_ordered}
use Rattle.dy_base.proofs.table.NameTable.set.Goals as goal

-- the entry that was put has the bytes of the name
pub returns-then-is_hashed-clause-set : goal.returns-then-is_hashed-clause-set
returns-then-is_hashed-clause-set g c =
    let key = c.in_ok-name.name in
    let is : key.items ≡ c.args.name.now = search rules in
    ap (λ es. table_of (named es ++ named c.self.inside.ordered.entries)) c.in_ok-insert.ensures.entries
    ∙ insert_hashed c.self.inside.hashed.entries c.self.inside.ordered.entries key c.args.value c.args.name.now is
    ∙ ap (λ table. map.insert table c.args.name.now c.args.value) c.self.view_is

-- no hashed entry has the name
pub returns-clause-set : goal.returns-clause-set
returns-clause-set g c =
    let key = c.in_ok-name.name in
    let is : key.items ≡ c.args.name.now = search rules in
    ap (λ es. table_of (named c.self.inside.hashed.entries ++ named es)) c.in_ok-insert-2.ensures.entries
    ∙ insert_ordered c.self.inside.hashed.entries c.self.inside.ordered.entries key c.args.value c.args.name.now is (sym c.contains_key-is_hashed.ensures ∙ c.if-is_hashed.false)
    ∙ ap (λ table. map.insert table c.args.name.now c.args.value) c.self.view_is
