use Rattle.std.proofs.Common.{rules, ◌≡◌, ◌≤◌, length, cond, Some, None, position, slice_get, sym, ap, subst, ◌∙◌, refl, arith}
use Rattle.std.proofs.lemmas.List.Sorted.{IsPartitionPoint-from_clause}
use Rattle.std.proofs.lemmas.Option.{slice_get_past, slice_get_read}
use Rattle.dy_base.specs.Orders.{is_class}
use Rattle.dy_base.proofs.Orders.{answer, before, found_by}
use Rattle.dy_base.proofs.class_order.ClassOrder.place_of.Goals as goal

-- no entry is left
pub returns-in_err-entry : goal.returns-in_err-entry
returns-in_err-entry c =
    let class = c.args.class in
    let copy = c.self.inside.sorted.items in
    let k = c.partition_point-at.result in
    let past : length copy ≤ k = omega (arith, c.in_err-entry.ensures, ap length c.deref-2.ensures.value) in
    let found =
    found_by c.self.inside.classes.items copy c.self.invariant class _ c.deref.ensures.value k
    (λ parted. IsPartitionPoint-from_clause (before class) _ _ c.partition_point-at.ensures.partitioned parted (λ a r q k. search rules))
    in
    c.from_residual.ensures ∙ sym (ap (answer class) (slice_get_past copy k past)) ∙ found ∙ ap (position (is_class class)) c.self.view_is

-- the entry is of the class
pub returns-then-eq : goal.returns-then-eq
returns-then-eq c =
    let class = c.args.class in
    let k = c.partition_point-at.result in
    let entry = c.in_ok-entry.entry.now in
    let at = c.in_ok-entry.ensures.lookup in
    let stands = slice_get_read c.deref-2.result.now _ k entry refl (omega (arith, at)) at.1 in
    let found =
    found_by c.self.inside.classes.items c.self.inside.sorted.items c.self.invariant class _ c.deref.ensures.value k
    (λ parted. IsPartitionPoint-from_clause (before class) _ _ c.partition_point-at.ensures.partitioned parted (λ a r q k. search rules))
    in
    ap (λ b. cond b (Some entry.1) None) (sym c.if-eq.true ∙ c.eq.ensures)
    ∙ sym (ap (answer class) (subst (λ l. slice_get l k ≡ Some entry) c.deref-2.ensures.value stands))
    ∙ found
    ∙ ap (position (is_class class)) c.self.view_is

-- it is of another class
pub returns-else-eq : goal.returns-else-eq
returns-else-eq c =
    let class = c.args.class in
    let k = c.partition_point-at.result in
    let entry = c.in_ok-entry.entry.now in
    let at = c.in_ok-entry.ensures.lookup in
    let stands = slice_get_read c.deref-2.result.now _ k entry refl (omega (arith, at)) at.1 in
    let found =
    found_by c.self.inside.classes.items c.self.inside.sorted.items c.self.invariant class _ c.deref.ensures.value k
    (λ parted. IsPartitionPoint-from_clause (before class) _ _ c.partition_point-at.ensures.partitioned parted (λ a r q k. search rules))
    in
    ap (λ b. cond b (Some entry.1) None) (sym c.if-eq.false ∙ c.eq.ensures)
    ∙ sym (ap (answer class) (subst (λ l. slice_get l k ≡ Some entry) c.deref-2.ensures.value stands))
    ∙ found
    ∙ ap (position (is_class class)) c.self.view_is
