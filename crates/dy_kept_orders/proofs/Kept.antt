-- What a class keeps where classes get other names.
use Rattle.std.proofs.Common.{◌≡◌, List, [], ◌∷◌, map, inl, inr, refl, sym, ap, subst, ◌∙◌}
use Rattle.dy_base.specs.declared.ids.ClassId.{ClassId}
use Rattle.dy_classes.specs.Lists.{In, first, next, Before, Sub, Once}
use Rattle.dy_classes.specs.Orders.{Above, itself, higher, IsCyclic, lists_of, Admissible, Later, Chosen, Order}
use Rattle.dy_kept_orders.specs.Kept.{AreRenamed, OrdersAreKept}
use Rattle.dy_classes.proofs.Lists.{in_map, in_mapped, sub_in, before_first, before_last}
use Rattle.dy_kept_orders.proofs.Lists.{before_map, before_mapped, sub_map}

trans : {supers : ClassId → List ClassId} {a b c : ClassId} → Above supers a b → Above supers b c → Above supers a c
trans itself w = w
trans (higher i v) w = higher i (trans v w)

module _ (new : ClassId → ClassId) (supers order new_supers new_order : ClassId → List ClassId) (class : ClassId)
    (k : AreRenamed new supers order new_supers new_order class) where
  abbrev Is : ClassId → Type 0
  Is x = Above supers class x

  abbrev All : List ClassId → Type 0
  All xs = (x : ClassId) → In x xs → Is x

  super_is : (x s : ClassId) → Is x → In s (supers x) → Is s
  super_is x s u i = trans u (higher i itself)

  -- what is above in the new names
  down : (a y : ClassId) → Above new_supers a y → (x : ClassId) → Is x → a ≡ new x → (z : ClassId) × Above supers x z × (y ≡ new z)
  down a y itself x u e = (x, itself, e)
  down a y (higher {s = s} i w) x u e =
      let (t, j, f) = in_mapped (supers x) new s (subst (λ (m : List ClassId). In s m) (ap new_supers e ∙ k.above x u) i) in
      let (z, v, g) = down s y w t (super_is x t u j) f in
      (z, higher j v, g)

  pub above_kept : (y : ClassId) → Above new_supers (new class) y → (x : ClassId) × Above supers class x × (y ≡ new x)
  above_kept y w = down (new class) y w class itself refl

  up : (x z : ClassId) → Is x → Above supers x z → Above new_supers (new x) (new z)
  up x z u itself = itself
  up x z u (higher {s = s} i w) =
      higher (subst (λ (m : List ClassId). In (new s) m) (sym (k.above x u)) (in_map new i)) (up s z (super_is x s u i) w)

  in_back : (xs : List ClassId) → All xs → (x : ClassId) → Is x → In (new x) (map new xs) → In x xs
  in_back xs all x u i =
      let (y, j, e) = in_mapped xs new (new x) i in
      subst (λ (v : ClassId). In v xs) (sym (k.apart x y u (all y j) e)) j

  once_map : (xs : List ClassId) → All xs → Once xs → Once (map new xs)
  once_map [] all o = o
  once_map (x ∷ xs) all o = (λ i. o.0 (in_back xs (λ y j. all y (next j)) x (all x first) i), once_map xs (λ y j. all y (next j)) o.1)

  -- of later direct subclasses
  not_super : (z y : ClassId) → Is z → Is y → (In y (supers z) → ⊥) → In (new y) (new_supers (new z)) → ⊥
  not_super z y u v none i =
      none (in_back (supers z) (λ s j. super_is z s u j) y v (subst (λ (m : List ClassId). In (new y) m) (k.above z u) i))

  later_map : (listed : List ClassId) → All listed → (x y : ClassId) → Is x → Is y → Later supers listed x y → Later new_supers (map new listed) (new x) (new y)
  later_map [] all x y u v l = l
  later_map (z ∷ listed) all x y u v l = (
    not_super z y (all z first) v l.0,
    elim l.1 [
      | inl i ↦ inl (subst (λ (m : List ClassId). In (new x) m) (sym (k.above z (all z first))) (in_map new i))
      | inr m ↦ inr (later_map listed (λ w j. all w (next j)) x y u v m)
    ],
  )

  module _ (lists : List (List ClassId)) (alls : (m : List ClassId) → In m lists → All m) where
    abbrev new_lists : List (List ClassId)
    new_lists = map (map new) lists

    ready_map : (listed : List ClassId) (x : ClassId) → Is x → Admissible lists listed x → (m : List ClassId) → In m new_lists → (z : ClassId) → Before z (new x) m → In z (map new listed)
    ready_map listed x u a m i z b =
        let (n, j, e) = in_mapped lists (map new) m i in
        let (w, y, c, f, g) = before_mapped new n z (new x) (subst (λ (l : List ClassId). Before z (new x) l) e b) in
        let same = k.apart x y u (alls n j y (before_last c)) g in
        let d : Before w x n = subst (λ (v : ClassId). Before w v n) (sym same) c in
        subst (λ (v : ClassId). In v (map new listed)) (sym f) (in_map new (a.ready n j w d))

    admissible_map : (listed : List ClassId) → All listed → (x : ClassId) → Is x → Admissible lists listed x → Admissible new_lists (map new listed) (new x)
    admissible_map listed all x u a = record {
      fresh = λ i. a.fresh (in_back listed all x u i);
      found = let (m, i, j) = a.found in (map new m, in_map (map new) i, in_map new j);
      ready = ready_map listed x u a;
    }

    admissible_back : (listed : List ClassId) → All listed → (y : ClassId) → Admissible new_lists (map new listed) y → (x : ClassId) × Is x × (y ≡ new x) × Admissible lists listed x
    admissible_back listed all y a =
        let (m, i, j) = a.found in
        let (n, p, e) = in_mapped lists (map new) m i in
        let (x, q, f) = in_mapped n new y (subst (λ (l : List ClassId). In y l) e j) in (
          x,
          alls n p x q,
          f,
          record {
            fresh = λ r. a.fresh (subst (λ (v : ClassId). In v (map new listed)) (sym f) (in_map new r));
            found = (n, p, q);
            ready = λ l s z b. in_back listed all z (alls l s z (before_first b))
                (a.ready (map new l) (in_map (map new) s) (new z) (subst (λ (v : ClassId). Before (new z) v (map new l)) (sym f) (before_map new b)));
          },
        )

    last_map : (listed : List ClassId) → All listed → (x : ClassId) → Is x
        → ((y : ClassId) → Admissible lists listed y → (y ≡ x → ⊥) → Later supers listed x y)
        → (y : ClassId) → Admissible new_lists (map new listed) y → (y ≡ new x → ⊥) → Later new_supers (map new listed) (new x) y
    last_map listed all x u h y a none =
        let (z, v, e, b) = admissible_back listed all y a in
        subst (λ (w : ClassId). Later new_supers (map new listed) (new x) w) (sym e)
        (later_map listed all x z u v (h z b (λ f. none (e ∙ ap new f))))

    chosen_map : (listed rest : List ClassId) → All listed → All rest → Chosen supers lists listed rest → Chosen new_supers new_lists (map new listed) (map new rest)
    chosen_map listed [] all rests h = h
    chosen_map listed (x ∷ rest) all rests h =
        let u = rests x first in (
          admissible_map listed all x u h.0,
          last_map listed all x u h.1,
          chosen_map (x ∷ listed) rest (with_first listed x u all) (λ y j. rests y (next j)) h.2,
        )
      where
        with_first : (xs : List ClassId) (x : ClassId) → Is x → All xs → All (x ∷ xs)
        with_first xs x u all y first = u
        with_first xs x u all y (next i) = all y i

  orders_map : (xs : List ClassId) → All xs → map new_order (map new xs) ≡ map (map new) (map order xs)
  orders_map [] all = refl
  orders_map (x ∷ xs) all = λ i. k.stored x (all x first) i ∷ orders_map xs (λ y j. all y (next j)) i

  supers_are : All (supers class)
  supers_are s i = super_is class s itself i

  lists_map : lists_of new_supers new_order (new class) ≡ map (map new) (lists_of supers order class)
  lists_map =
      ap (λ (m : List ClassId). m ∷ map new_order m) (k.above class itself)
      ∙ ap (λ (m : List (List ClassId)). map new (supers class) ∷ m) (orders_map (supers class) supers_are)

  module _ (list : List ClassId) (o : Order supers order class list) where
    alls : (m : List ClassId) → In m (lists_of supers order class) → All m
    alls m first x j = supers_are x j
    alls m (next i) x j =
        let (s, p, e) = in_mapped (supers class) order m i in
        o.only x (sub_in (o.above s p) (subst (λ (l : List ClassId). In x l) e j))

    rest_are : All o.rest
    rest_are x i = o.only x (subst (λ (l : List ClassId). In x l) (sym o.begins) (next i))

    class_is : All (class ∷ [])
    class_is x first = itself
    class_is x (next i) = elim i [ ]

    above_map : (s : ClassId) → In s (new_supers (new class)) → Sub (new_order s) (map new list)
    above_map s i =
        let (t, j, e) = in_mapped (supers class) new s (subst (λ (m : List ClassId). In s m) (k.above class itself) i) in
        subst (λ (m : List ClassId). Sub m (map new list)) (sym (ap new_order e ∙ k.stored t (supers_are t j))) (sub_map new (o.above t j))

    only_map : (x : ClassId) → In x (map new list) → Above new_supers (new class) x
    only_map x i =
        let (y, j, e) = in_mapped list new x i in
        subst (λ (v : ClassId). Above new_supers (new class) v) (sym e) (up class y itself (o.only y j))

    all_map : (x : ClassId) → Above new_supers (new class) x → In x (map new list)
    all_map x w =
        let (y, v, e) = above_kept x w in
        subst (λ (v : ClassId). In v (map new list)) (sym e) (in_map new (o.all y v))

    pub order_kept : Order new_supers new_order (new class) (map new list)
    order_kept = record {
      rest = map new o.rest;
      begins = ap (map new) o.begins;
      once = once_map list o.only o.once;
      only = only_map;
      all = all_map;
      above = above_map;
      direct = subst (λ (m : List ClassId). Sub m (map new list)) (sym (k.above class itself)) (sub_map new o.direct);
      chosen = subst (λ (l : List (List ClassId)). Chosen new_supers l (new class ∷ []) (map new o.rest)) (sym lists_map)
          (chosen_map (lists_of supers order class) alls (class ∷ []) o.rest class_is rest_are o.chosen);
    }

  pub ring_kept : (IsCyclic supers class → ⊥) → IsCyclic new_supers (new class) → ⊥
  ring_kept none r =
      let (t, j, e) = in_mapped (supers class) new r.0 (subst (λ (m : List ClassId). In r.0 m) (k.above class itself) r.1) in
      let (z, v, f) = down r.0 (new class) r.2 t (supers_are t j) e in
      let same = k.apart class z itself (trans (higher j itself) v) f in
      none (t, j, subst (λ (w : ClassId). Above supers t w) (sym same) v)

pub orders_kept : OrdersAreKept
orders_kept new supers order new_supers new_order class list k o = order_kept new supers order new_supers new_order class k list o
