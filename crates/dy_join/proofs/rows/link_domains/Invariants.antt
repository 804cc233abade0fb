use Rattle.std.proofs.Common.{◌≡◌, map}
use Rattle.dy_linked_rows.specs.Rows.{linked_domain}
use Rattle.dy_join.specs.Numbering.{placed}
use Rattle.dy_join.proofs.rows.link_domains.Given as goal

abbrev pub invariant-loop-domain : goal.invariant-loop-domain
invariant-loop-domain l = l.linked ≡ map (linked_domain (placed l.places)) l.yielded
