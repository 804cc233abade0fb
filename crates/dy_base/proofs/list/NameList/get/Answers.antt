use Rattle.std.proofs.Common.{◌≡◌, Some, None, position, ap, sym, rules, ◌∙◌}
use Rattle.std.specs.Option.{option_copied}
use Rattle.std.specs.Str.{bytes_eq}
use Rattle.dy_base.specs.Tables.{names}
use Rattle.dy_base.proofs.Lists.{value_at, get_at, get_read}
use Rattle.dy_base.proofs.list.NameList.get.Goals as goal

-- a name with no place is not there
pub returns-in_err-place : goal.returns-in_err-place
returns-in_err-place g c =
    let list = c.args.self.now in
    let none : position (bytes_eq c.args.name.now) (names list) ≡ None = search rules in
    let nothing : option_copied c.from_residual.result ≡ None = search rules in
    nothing ∙ sym (get_at list c.args.name.now ∙ ap (value_at list) none)

-- and else the value stands at its place
pub returns : goal.returns
returns g c =
    let list = c.args.self.now in
    let at : position (bytes_eq c.args.name.now) (names list) ≡ Some c.in_ok-place.place = search rules in
    get_read c.self.inside.entries.items list c.args.name.now c.in_ok-place.place c.index.result.now c.self.view_is at c.index.ensures
