use Rattle.std.proofs.Common.{◌≡◌, ◌+◌, ◌++◌, drop, take, length}
use Rattle.dy_module_numbers.specs.Modules.{module_forms}
use Rattle.dy_module_numbers.proofs.modules.put_modules.Given as goal

-- the first ones are put, and the others stand as they were
abbrev pub invariant-loop-m : goal.invariant-loop-m
invariant-loop-m l = record {
  put : l.modules.items ≡ module_forms l.naming.own l.naming.imported l.naming.nothing 0 (take l.m l.forms) ++ drop l.m l.fn.modules.items;
  count : length l.modules.items ≡ length l.fn.modules.items;
}
