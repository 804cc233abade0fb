use Rattle.std.proofs.Common.{◌≡◌, ◌↔◌, ℕ, zero, suc, ◌<◌, ◌∷◌, [], Bool, true, List, length, get_or, slice_get, Some, refl, sym, ap, subst, ◌∙◌, arith}
use Rattle.dy_rings.specs.declared.ring.State.{State}
use Rattle.dy_rings.specs.declared.ring.State.TheVariants.{Unseen, Open, Closed}
use Rattle.dy_rings.specs.Rings.{Leads, IsBehindUsed}
use Rattle.dy_rings.specs.Walks.{Progress, progress}
use Rattle.dy_rings.proofs.Weights.{work}
use Rattle.dy_rings.proofs.UnderWay.{IsUnderWay, IsClosed}
use Rattle.dy_rings.proofs.Popping.{passed}
use Rattle.dy_rings.proofs.Opening.{opened_way}
use Rattle.dy_rings.proofs.Joining.{joined_way}
use Rattle.dy_rings.proofs.Closing.{closed_way}
use Rattle.dy_rings.proofs.Ending.{begins, are_told, is_behind, less_opened, less_closed, all_opened, some_group, last_begins}
use Rattle.dy_rings.proofs.ring.find_rings.Goals as goal

-- a state that is not Closed was read, and not put for a number that names no node
was_read : (states : List State) (i : ℕ) (s : State) → get_or states i Closed ≡ s → (Closed ≡ s → ⊥) → slice_get states i ≡ Some s
was_read [] i s e other = absurd (other e)
was_read (t ∷ ts) zero s e other = ap Some e
was_read (t ∷ ts) (suc i) s e other = was_read ts i s e other

closed_there : (states : List State) (i : ℕ) → get_or states i Closed ≡ Closed → i < length states → IsClosed states i
closed_there [] i e l = absurd (omega arith)
closed_there (t ∷ ts) zero e l = ap Some e
closed_there (t ∷ ts) (suc i) e l = closed_there ts i e (omega (arith, l))

not_unseen : Closed ≡ Unseen → ⊥
not_unseen e = cc

not_open : (p : ℕ) → Closed ≡ Open p → ⊥
not_open p e = cc

pub loop-group-init : goal.loop-group-init
loop-group-init c = subst (λ (walk : Progress). IsUnderWay c.args.uses.now walk) (sym c.in_ok-walk.ensures) (begins c.args.uses.now (length c.args.uses.now) refl)

pub close-requires-clause-begins : goal.close-requires-clause-begins
close-requires-clause-begins c =
    let (left, under, parts) = c.in-Some.ensures.some in
    last_begins c.args.uses.now (progress c.loop-group.walk) under c.in-Some.group parts c.loop-group.invariant

pub close-requires-clause-states : goal.close-requires-clause-states
close-requires-clause-states c = all_opened c.args.uses.now (progress c.loop-group.walk) (length c.loop-group.walk.states.items) c.loop-group.invariant.kept.count_is c.loop-group.invariant

pub close-requires-clause-marks : goal.close-requires-clause-marks
close-requires-clause-marks c = all_opened c.args.uses.now (progress c.loop-group.walk) (length c.loop-group.walk.on_ring.items) c.loop-group.invariant.kept.marks_are c.loop-group.invariant

pub loop-group-smaller-in-Some : goal.loop-group-smaller-in-Some
loop-group-smaller-in-Some c =
    let (left, under, parts) = c.in-Some.ensures.some in
    let uses = c.args.uses.now in
    let walk = progress c.loop-group.walk in
    subst (λ (after : Progress). work uses after < work uses walk) (sym c.in_ok-close.ensures) (less_closed uses walk under c.in-Some.group parts)

pub loop-group-preserved-in-Some : goal.loop-group-preserved-in-Some
loop-group-preserved-in-Some c =
    let (left, under, parts) = c.in-Some.ensures.some in
    let uses = c.args.uses.now in
    let walk = progress c.loop-group.walk in
    subst (λ (after : Progress). IsUnderWay uses after) (sym c.in_ok-close.ensures) (closed_way uses walk under c.in-Some.group parts left c.loop-group.invariant)

pub loop-group-smaller-in-Continue-branch-3 : goal.loop-group-smaller-in-Continue-branch-3
loop-group-smaller-in-Continue-branch-3 c =
    let uses = c.args.uses.now in
    let walk = progress c.loop-group.walk in
    let node = c.in-Some-pop.node in
    let new = was_read walk.states node Unseen (sym c.state_of.ensures ∙ c.in-Unseen.is) not_unseen in
    subst (λ (after : Progress). work uses after < work uses walk) (sym c.in_ok-open-in-Unseen.ensures) (less_opened uses walk c.pop.new.self.items node c.in-Some-pop.ensures.items new)

pub loop-group-preserved-in-Continue-branch-3 : goal.loop-group-preserved-in-Continue-branch-3
loop-group-preserved-in-Continue-branch-3 c =
    let uses = c.args.uses.now in
    let walk = progress c.loop-group.walk in
    let node = c.in-Some-pop.node in
    let new = was_read walk.states node Unseen (sym c.state_of.ensures ∙ c.in-Unseen.is) not_unseen in
    subst (λ (after : Progress). IsUnderWay uses after) (sym c.in_ok-open-in-Unseen.ensures) (opened_way uses walk c.pop.new.self.items node c.in-Some-pop.ensures.items c.loop-group.invariant c.in_default.ensures.none new)

pub join-requires : goal.join-requires
join-requires c =
    let walk = progress c.loop-group.walk in
    let node = c.in-Some-pop.node in
    let place = c.in-Open.place in
    some_group c.args.uses.now walk node place c.loop-group.invariant (was_read walk.states node (Open place) (sym c.state_of.ensures ∙ c.in-Open.is) (not_open place))

pub loop-group-preserved-in-Continue-branch-4 : goal.loop-group-preserved-in-Continue-branch-4
loop-group-preserved-in-Continue-branch-4 c =
    let walk = progress c.loop-group.walk in
    let node = c.in-Some-pop.node in
    let place = c.in-Open.place in
    let there = was_read walk.states node (Open place) (sym c.state_of.ensures ∙ c.in-Open.is) (not_open place) in
    joined_way c.args.uses.now walk c.pop.new.self.items node place c.join.new.groups.items c.in-Some-pop.ensures.items c.loop-group.invariant c.in_default.ensures.none there c.in_ok-join-in-Open.ensures

pub loop-group-preserved : goal.loop-group-preserved
loop-group-preserved c =
    let walk = progress c.loop-group.walk in
    let node = c.in-Some-pop.node in
    let count = c.loop-group.invariant.kept.count_is in
    passed c.args.uses.now walk c.pop.new.self.items node c.in-Some-pop.ensures.items c.loop-group.invariant c.in_default.ensures.none
    (λ l. closed_there walk.states node (sym c.state_of.ensures ∙ c.in-Closed.is) (omega (arith, count, l)))

none_left : (todo : List ℕ) → length todo ≡ 0 → todo ≡ []
none_left [] e = refl
none_left (x ∷ xs) e = absurd (omega arith)

pub returns-clause-rings : goal.returns-clause-rings
returns-clause-rings c =
    let uses = c.args.uses.now in
    let walk = progress c.loop-group.walk in
    let none = none_left walk.todo (omega (arith, c.in_default-pop.ensures.cases.0, c.loop-group.walk.todo.ok.0)) in
    subst (λ (marks : List Bool). (i : ℕ) → (slice_get marks i ≡ Some true) ↔ Leads uses i i) (sym c.from_vec.ensures) (are_told uses walk c.loop-group.invariant c.in_default.ensures.none none)

pub returns-clause-order : goal.returns-clause-order
returns-clause-order c =
    let uses = c.args.uses.now in
    let walk = progress c.loop-group.walk in
    let none = none_left walk.todo (omega (arith, c.in_default-pop.ensures.cases.0, c.loop-group.walk.todo.ok.0)) in
    subst (λ (order : List ℕ). IsBehindUsed uses order) (sym c.from_vec-2.ensures) (is_behind uses walk c.loop-group.invariant c.in_default.ensures.none none)
