use Rattle.std.proofs.Common.{◌≡◌, Some, None, length, position, ap, rules, ◌∙◌}
use Rattle.std.specs.Str.{bytes_eq}
use Rattle.dy_base.specs.Tables.{names, table_of}
use Rattle.dy_base.proofs.Tables.{table_of-insert}
use Rattle.dy_base.proofs.Lists.{gone, set_old, set_new, indexed_old, indexed_new}
use Rattle.dy_base.proofs.list.NameList.set.Goals as goal

-- a name that is there keeps its place
pub invariant_of-self : goal.invariant_of-self
invariant_of-self g c =
    let list = c.args.self.now in
    let at : position (bytes_eq c.args.name.now) (names list) ≡ Some c.in-Some.place = search rules in
    indexed_old c.self.inside.entries.items list c.self.inside.places c.args.name.now c.in-Some.place c.index_mut.result.now c.args.value c.self.view_is at c.index_mut.ensures.value c.self.invariant

pub returns-in-Some-clause-order : goal.returns-in-Some-clause-order
returns-in-Some-clause-order g c =
    let list = c.args.self.now in
    let at : position (bytes_eq c.args.name.now) (names list) ≡ Some c.in-Some.place = search rules in
    set_old c.self.inside.entries.items list c.args.name.now c.in-Some.place c.index_mut.result.now c.args.value c.self.view_is at c.index_mut.ensures.value

pub returns-in-Some-clause-table : goal.returns-in-Some-clause-table
returns-in-Some-clause-table g c = ap table_of (returns-in-Some-clause-order g c) ∙ table_of-insert c.args.self.now c.args.name.now c.args.value

-- a name that is there was found before any memory is asked for
pub returns-in_err-to_vec-clause-there : goal.returns-in_err-to_vec-clause-there
returns-in_err-to_vec-clause-there g c = λ there.
    let none : position (bytes_eq c.args.name.now) (names c.args.self.now) ≡ None = search rules in
    absurd (gone c.args.self.now c.args.name.now none there)

pub returns-in_err-push-clause-there : goal.returns-in_err-push-clause-there
returns-in_err-push-clause-there g c = λ there.
    let none : position (bytes_eq c.args.name.now) (names c.args.self.now) ≡ None = search rules in
    absurd (gone c.args.self.now c.args.name.now none there)

pub returns-in-Err-clause-there : goal.returns-in-Err-clause-there
returns-in-Err-clause-there g c = λ there.
    let none : position (bytes_eq c.args.name.now) (names c.args.self.now) ≡ None = search rules in
    absurd (gone c.args.self.now c.args.name.now none there)

-- a new name goes last, and its place is how many there were
pub invariant_of-self-in_default-set : goal.invariant_of-self-in_default-set
invariant_of-self-in_default-set g c =
    let list = c.args.self.now in
    let key = c.in_ok-to_vec.field-0 in
    let is : key.items ≡ c.args.name.now = search rules in
    let none : position (bytes_eq c.args.name.now) (names list) ≡ None = search rules in
    let count : c.len-place.result ≡ length c.self.inside.entries.items = search rules in
    indexed_new c.self.inside.entries.items c.push.new.self.items list c.self.inside.places c.set.new.self key c.args.name.now c.args.value c.len-place.result c.self.view_is
    c.in_ok-push.ensures.items is none c.in_default-set.ensures.set count c.self.invariant

pub returns-clause-order : goal.returns-clause-order
returns-clause-order g c =
    let list = c.args.self.now in
    let key = c.in_ok-to_vec.field-0 in
    let is : key.items ≡ c.args.name.now = search rules in
    let none : position (bytes_eq c.args.name.now) (names list) ≡ None = search rules in
    set_new c.self.inside.entries.items c.push.new.self.items list key c.args.name.now c.args.value c.self.view_is c.in_ok-push.ensures.items is none

pub returns-clause-table : goal.returns-clause-table
returns-clause-table g c = ap table_of (returns-clause-order g c) ∙ table_of-insert c.args.self.now c.args.name.now c.args.value
