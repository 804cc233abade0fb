use Rattle.std.proofs.Common.{◌≡◌, length, replicate, ap, ◌∙◌, rules}
use Rattle.dy_module_tables.specs.Looking.{IsWhole}
use Rattle.dy_modules.proofs.Clear.{all_are_made, all_are_single, length-replicate}
use Rattle.std.specs.FinMap as map
use Rattle.dy_module_tables.proofs.module_table.ModuleTable.of_tables.Goals as goal

pub invariant_of-result : goal.invariant_of-result
invariant_of-result c =
    let ms = c.args.modules in
    let done = c.args.tables.items in
    record {
      within = c.requires.within;
      right = c.requires.right;
      made = all_are_made ms done c.requires.right c.requires.clear;
      single = all_are_single ms done c.requires.right c.requires.clear;
      count = ap length c.in_ok-defined.ensures ∙ length-replicate c.len.result map.empty ∙ c.len.ensures;
    }
