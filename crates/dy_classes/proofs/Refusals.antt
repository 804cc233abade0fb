-- What a refusal says.
use Rattle.std.proofs.Common.{◌≡◌, List, [], ◌∷◌, inl, inr, Result, Ok, Err, MatchResult, None}
use Rattle.dy_base.specs.declared.ids.ClassId.{ClassId}
use Rattle.dy_base.specs.declared.ids.GenericId.{GenericId}
use Rattle.dy_base.specs.declared.kind.Kind.TheVariants as kinds
use Rattle.dy_base.specs.declared.fault.Refusal.{Refusal}
use Rattle.dy_base.specs.declared.fault.Refusal.TheVariants as refusals
use Rattle.dy_term.specs.declared.rows.Program.{Program}
use Rattle.dy_classes.specs.Lists.{Once}
use Rattle.dy_classes.specs.Orders.{IsCyclic, Order}
use Rattle.dy_classes.specs.Rows.{supers_at, order_at, name_at}
use Rattle.dy_classes.specs.Faults.{class_fault, IsRefused, OrderRefused}
use Rattle.dy_classes.specs.Legal.{FirstClash, Repeated, getters, generic_name, IsLegal, SlotRefused, ClassRefused, AllStored}
use Rattle.dy_classes.specs.Search.{clashes, first_pair}
use Rattle.dy_classes.proofs.Clashes.{no_clash, related}

pub order_refused : (program : Program) (class : ClassId) (r : Refusal) → IsRefused (class_fault kinds.Inconsistent (name_at program class ∷ [])) r
    → (IsCyclic (supers_at program) class → ⊥) → ((l : List ClassId) → Order (supers_at program) (order_at program) class l → ⊥) → OrderRefused program class r
order_refused program class (refusals.Fault told) e alone none = inr (e, alone, none)
order_refused program class refusals.Memory e alone none = tt

pub two_refused : (program : Program) (class a b : ClassId) (r : Refusal)
    → IsRefused (class_fault kinds.TwoPrimaries (name_at program class ∷ name_at program a ∷ name_at program b ∷ [])) r
    → FirstClash program (order_at program class) a b → ClassRefused program class r
two_refused program class a b (refusals.Fault told) e clash = inl (a, b, clash, e)
two_refused program class a b refusals.Memory e clash = tt

pub slot_refused : (program : Program) (class : ClassId) (g : GenericId) (r : Refusal)
    → IsRefused (class_fault kinds.SlotClash (name_at program class ∷ generic_name program g ∷ [])) r
    → Repeated (getters program (order_at program class)) g → SlotRefused program class r
slot_refused program class g (refusals.Fault told) e repeated = (g, repeated, e)
slot_refused program class g refusals.Memory e repeated = tt

-- without a clash the slots decide
pub legal_by : (program : Program) (class : ClassId) (r : Result (Unit {0}) Refusal) → AllStored program class
    → first_pair (clashes program) (order_at program class) ≡ None
    → MatchResult r (λ _. Once (getters program (order_at program class))) (λ refusal. SlotRefused program class refusal)
    → MatchResult r (λ _. IsLegal program class) (λ refusal. ClassRefused program class refusal)
legal_by program class (Ok u) stored e once = record { related = related program class stored e; distinct = once }
legal_by program class (Err (refusals.Fault told)) stored e refused = inr (no_clash program class stored e, refused)
legal_by program class (Err refusals.Memory) stored e refused = tt
