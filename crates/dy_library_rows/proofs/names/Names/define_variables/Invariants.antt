use Rattle.std.proofs.Common.{◌≡◌, map, drop}
use Rattle.dy_term.specs.Types.{seen_typed}
use Rattle.dy_library_rows.specs.Names.{with_names, what_of}
use Rattle.dy_library_rows.specs.Seen.{seen_names}
use Rattle.dy_library_rows.proofs.names.Names.define_variables.Given as goal

abbrev pub invariant-loop-name : goal.invariant-loop-name
invariant-loop-name l =
    with_names (map (λ v. (v.0, what_of l.is_constant)) (map seen_typed l.name-items))
    (seen_names l.fn.self)
    ≡ with_names (map (λ v. (v.0, what_of l.is_constant))
    (map seen_typed (drop l.name-index l.name-items))) (seen_names l.self)
