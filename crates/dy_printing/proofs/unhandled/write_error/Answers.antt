use Rattle.std.proofs.Common.{◌≡◌, ◌-◌, ◌<◌, suc, true, ◌++◌, codes, arith, rules}
use Rattle.dy_printing.specs.Printing.{behind, printed_within}
use Rattle.dy_printing.specs.Unhandled.{type_text}
use Rattle.dy_printing.proofs.Cuts.{type_unpaid, type_paid}
use Rattle.dy_printing.proofs.unhandled.write_error.Goals as goal

pub returns-then-not-take-2 : goal.returns-then-not-take-2
returns-then-not-take-2 c =
    let positive : 0 < c.args.fuel.now.left = search rules in
    let more : c.args.fuel.now.left ≡ suc (c.args.fuel.now.left - 1) = omega (arith, positive) in
    let printed : behind c.args.into.now.items (printed_within c.args.program.now c.args.store.now 99 true c.in-WrongType.value (c.args.fuel.now.left - 1)) ≡ (true, c.write_value.new.into.items, c.write_value.new.fuel.left) = search rules in
    let none : c.write_value.new.fuel.left ≡ 0 = search rules in
    let ends : c.take-in-WrongType.new.self.left ≡ 0 = search rules in
    type_unpaid c.args.program.now c.args.store.now c.args.error.now c.in-WrongType.value c.in-WrongType.expected c.args.into.now.items c.write_value.new.into.items c.extend_from_slice-in-WrongType.new.self.items
    c.args.fuel.now.left (c.args.fuel.now.left - 1) c.write_value.new.fuel.left c.take-in-WrongType.new.self.left c.in-WrongType.is more printed c.in_ok-extend_from_slice-in-WrongType.ensures.items none ends

pub returns-in_ok-write_type-in-WrongType : goal.returns-in_ok-write_type-in-WrongType
returns-in_ok-write_type-in-WrongType c =
    let positive : 0 < c.args.fuel.now.left = search rules in
    let more : c.args.fuel.now.left ≡ suc (c.args.fuel.now.left - 1) = omega (arith, positive) in
    let printed : behind c.args.into.now.items (printed_within c.args.program.now c.args.store.now 99 true c.in-WrongType.value (c.args.fuel.now.left - 1)) ≡ (true, c.write_value.new.into.items, c.write_value.new.fuel.left) = search rules in
    let rest : 0 < c.write_value.new.fuel.left = search rules in
    let end : c.take-in-WrongType.new.self.left ≡ c.write_value.new.fuel.left - 1 = c.take-in-WrongType.ensures.left in
    let next : c.write_value.new.fuel.left ≡ suc c.take-in-WrongType.new.self.left = omega (arith, rest, end) in
    let last : c.write_type.new.into.items ≡ (c.write_value.new.into.items ++ codes " is not of type ") ++ type_text c.args.program.now c.in-WrongType.expected.members = search rules in
    type_paid c.args.program.now c.args.store.now c.args.error.now c.in-WrongType.value c.in-WrongType.expected c.args.into.now.items c.write_value.new.into.items c.write_type.new.into.items
    c.args.fuel.now.left (c.args.fuel.now.left - 1) c.write_value.new.fuel.left c.take-in-WrongType.new.self.left c.in-WrongType.is more printed last next
