use Rattle.std.proofs.Common.{◌≡◌, map, drop}
use Rattle.dy_term.specs.Types.{seen_typed}
use Rattle.dy_library_rows.specs.Names.{what_of}
use Rattle.dy_definitions.specs.declared.definitions.Role.TheVariants.{Makes}
use Rattle.dy_module_names.specs.Passes.{with_names}
use Rattle.dy_module_names.specs.Given.{modules_in}
use Rattle.dy_module_names.proofs.reading.add_variables.Given as goal

abbrev pub invariant-loop-name : goal.invariant-loop-name
invariant-loop-name l =
    with_names (modules_in l.modules) l.place
    (map (λ v. (v.0, Makes (what_of l.is_constant))) (map seen_typed l.name-items)) l.fn.list
    ≡ with_names (modules_in l.modules) l.place
    (map (λ v. (v.0, Makes (what_of l.is_constant)))
    (map seen_typed (drop l.name-index l.name-items))) l.list
