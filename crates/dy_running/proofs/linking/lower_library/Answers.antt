use Rattle.std.proofs.Common.{subst}
use Rattle.dy_lower.specs.declared.refusal.Refusal.{Refusal}
use Rattle.dy_lower.specs.declared.refusal.Refusal.TheVariants.{Memory, NotYet}
use Rattle.dy_running.proofs.linking.lower_library.Goals as goal

abbrev Waits : Refusal → Type 0
Waits Memory = ⊥
Waits NotYet = Unit {0}

pub unreachable-requires : goal.unreachable-requires
unreachable-requires c =
    let memory = rw c.in-Err-NotYet.field-0-is at (c.in-Err-NotYet.ensures.lowers c.requires) in
    subst Waits memory tt
