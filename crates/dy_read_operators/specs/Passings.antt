-- The reader of arguments, as the definitions see it.
use Rattle.dy_rules.specs.Reading as reading
use Rattle.dy_rules.specs.Reading.{whole, wants, has, State, nothing_passed, passes_next}
use Rattle.dy_rules.specs.Reading.{symbol_first, passing, at_token, arguments_in}
use Rattle.dy_read_outers.specs.Passed.{read_passed}
use Rattle.dy_read_operators.specs.declared.passing.Value.{Value}
use Rattle.dy_read_operators.specs.declared.passing.Passing.{Passing}
use Rattle.dy_read_operators.specs.declared.passing.Passing.TheVariants as passings
use Rattle.dy_read_operators.specs.Machines.{seen_machine}

abbrev pub seen_value : Value → reading.Passing
seen_value value = passing (read_passed value.passed) value.keyword (seen_machine value.machine)

abbrev pub seen_passing : Passing → reading.Passing
seen_passing (passings.Nothing) = nothing_passed
seen_passing (passings.Next passed) = passes_next (read_passed passed)
seen_passing (passings.SymbolFirst passed token) = symbol_first (read_passed passed) token
seen_passing (passings.Within value) = seen_value value
