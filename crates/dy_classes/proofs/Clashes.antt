-- What the search for a clash decides.
use Rattle.std.proofs.Common.{◌≡◌, ℕ, ◌+◌, ◌<◌, length, get_or, drop, Bool, true, false, true≢false, cond, not, List, [], ◌∷◌, ◌⊎◌, inl, inr, Option, Some, None, IsTrue, refl, sym, ap, subst, ◌∙◌}
use Rattle.std.proofs.lemmas.List.{at_drop_more}
use Rattle.dy_base.specs.declared.ids.ClassId.{ClassId}
use Rattle.dy_term.specs.declared.rows.Program.{Program}
use Rattle.dy_classes.specs.Lists.{In, Before, Once}
use Rattle.dy_classes.specs.Orders.{Above, itself, Order}
use Rattle.dy_classes.specs.Rows.{supers_at, order_at}
use Rattle.dy_classes.specs.Merge.{mem, find}
use Rattle.dy_classes.specs.Legal.{primary_at, AreUnrelated, Clash, FirstClash, AllStored}
use Rattle.dy_classes.specs.Search.{clashes, first_pair}
use Rattle.dy_classes.proofs.Lists.{pairs, before_first, before_last}
use Rattle.dy_classes.proofs.Decisions.{tells, mem_in, in_mem, not_mem}
use Rattle.dy_classes.proofs.Pairs.{FirstPair, first_pair_some, first_pair_none}

-- the four tests of a clash
four : (a b c d : Bool) → cond a (cond b (cond c false (not d)) false) false ≡ true → (a ≡ true) × (b ≡ true) × (c ≡ false) × (d ≡ false)
four true true true d e = absurd cc
four true true false true e = absurd cc
four true true false false e = (refl, refl, refl, refl)
four true false c d e = absurd cc
four false b c d e = absurd cc

four_back : (a b c d : Bool) → a ≡ true → b ≡ true → c ≡ false → d ≡ false → cond a (cond b (cond c false (not d)) false) false ≡ true
four_back true true false false p q r s = refl
four_back true true false true p q r s = absurd cc
four_back true true true d p q r s = absurd cc
four_back true false c d p q r s = absurd cc
four_back false b c d p q r s = absurd cc

not_in_mem : (x : ClassId) (list : List ClassId) → (In x list → ⊥) → mem x list ≡ false
not_in_mem x list out = elim (tells (mem x list)) [ inl e ↦ absurd (out (mem_in x list e)) | inr e ↦ e ]

module _ (program : Program) (class : ClassId) (stored : AllStored program class) where
  abbrev list : List ClassId
  list = order_at program class

  above : (x : ClassId) → In x list → Above (supers_at program) class x
  above x i = (stored class itself).only x i

  pub list_once : Once list
  list_once = (stored class itself).once

  clash_of : (a b : ClassId) → Before a b list → clashes program a b ≡ true → Clash program list a b
  clash_of a b w e =
      let t = four (primary_at program a) (primary_at program b) (mem b (order_at program a)) (mem a (order_at program b)) e in
      record {
        before = w;
        primary = t.0;
        other = t.1;
        unrelated = (λ u. not_mem b (order_at program a) t.2 ((stored a (above a (before_first w))).all b u), λ u. not_mem a (order_at program b) t.3 ((stored b (above b (before_last w))).all a u));
      }

  of_clash : (a b : ClassId) → Clash program list a b → clashes program a b ≡ true
  of_clash a b k =
      four_back (primary_at program a) (primary_at program b) (mem b (order_at program a)) (mem a (order_at program b)) k.primary k.other
      (not_in_mem b (order_at program a) (λ i. k.unrelated.0 ((stored a (above a (before_first k.before))).only b i)))
      (not_in_mem a (order_at program b) (λ i. k.unrelated.1 ((stored b (above b (before_last k.before))).only a i)))

  pub first_clash : (a b : ClassId) → first_pair (clashes program) list ≡ Some (a, b) → FirstClash program list a b
  first_clash a b e =
      let f = first_pair_some (clashes program) list a b list_once e in
      record {
        clash = clash_of a b f.before f.passes;
        first = λ x y k i. f.first x y k.before (of_clash x y k) i;
        second = λ y k i. f.second y k.before (of_clash a y k) i;
      }

  pub no_clash : first_pair (clashes program) list ≡ None → (a b : ClassId) → Clash program list a b → ⊥
  no_clash e a b k = first_pair_none (clashes program) list a b e (of_clash a b k) k.before

  -- where two primary classes do not clash, one is above the other
  ordered : (a b : ClassId) → In a list → In b list → primary_at program a ≡ true → primary_at program b ≡ true → (clashes program a b ≡ true → ⊥)
      → Above (supers_at program) a b ⊎ Above (supers_at program) b a
  ordered a b in_a in_b p q none =
      elim (tells (mem b (order_at program a))) [
        | inl e ↦ inl ((stored a (above a in_a)).only b (mem_in b (order_at program a) e))
        | inr e ↦ elim (tells (mem a (order_at program b))) [
          | inl f ↦ inr ((stored b (above b in_b)).only a (mem_in a (order_at program b) f))
          | inr f ↦ absurd (none (four_back (primary_at program a) (primary_at program b) (mem b (order_at program a)) (mem a (order_at program b)) p q e f))
        ]
      ]

  swapped : (a b : ClassId) → Above (supers_at program) b a ⊎ Above (supers_at program) a b → Above (supers_at program) a b ⊎ Above (supers_at program) b a
  swapped a b (inl u) = inr u
  swapped a b (inr u) = inl u

  pub related : first_pair (clashes program) list ≡ None → (a b : ClassId) → Above (supers_at program) class a → Above (supers_at program) class b
      → IsTrue (primary_at program a) → IsTrue (primary_at program b) → Above (supers_at program) a b ⊎ Above (supers_at program) b a
  related e a b u v p q =
      let in_a = (stored class itself).all a u in
      let in_b = (stored class itself).all b v in
      elim (pairs in_a in_b) [
        | inl same ↦ inl (subst (λ (x : ClassId). Above (supers_at program) a x) same itself)
        | inr w ↦ elim w [
          | inl w ↦ ordered a b in_a in_b p q (λ t. first_pair_none (clashes program) list a b e t w)
          | inr w ↦ swapped a b (ordered b a in_b in_a q p (λ t. first_pair_none (clashes program) list b a e t w))
        ]
      ]

find_nothing : (q : ClassId → Bool) (xs : List ClassId) → ((y : ClassId) → q y ≡ false) → find q xs ≡ None
find_nothing q [] h = refl
find_nothing q (y ∷ xs) h = ap (λ b. cond b (Some y) (find q xs)) (h y) ∙ find_nothing q xs h

-- a class that is not primary clashes with none
pub none_primary : (program : Program) (class : ClassId) (others : List ClassId) → primary_at program class ≡ false → find (clashes program class) others ≡ None
none_primary program class others e =
    find_nothing (clashes program class) others
    (λ y. ap (λ b. cond b (cond (primary_at program y) (cond (mem y (order_at program class)) false (not (mem class (order_at program y)))) false) false) e)

module _ (p : ClassId → ClassId → Bool) where
  pair_turn : (x : ClassId) (xs : List ClassId) (o : Option ClassId) → find (p x) xs ≡ o
      → first_pair p (x ∷ xs) ≡ elim o as (λ _. Option (ClassId × ClassId)) [ Some y ↦ Some (x, y) | None ↦ first_pair p xs ]
  pair_turn x xs o e = ap (λ (o : Option ClassId). elim o as (λ _. Option (ClassId × ClassId)) [ Some y ↦ Some (x, y) | None ↦ first_pair p xs ]) e

  pub pair_here : (xs : List ClassId) (i : ℕ) (d y : ClassId) → i < length xs → find (p (get_or xs i d)) (drop (i + 1) xs) ≡ Some y → first_pair p (drop i xs) ≡ Some (get_or xs i d, y)
  pair_here xs i d y h e = at_drop_more (first_pair p) xs i d h ∙ pair_turn (get_or xs i d) (drop (i + 1) xs) (Some y) e

  pub pair_later : (xs : List ClassId) (i : ℕ) (d : ClassId) → i < length xs → find (p (get_or xs i d)) (drop (i + 1) xs) ≡ None → first_pair p (drop i xs) ≡ first_pair p (drop (i + 1) xs)
  pair_later xs i d h e = at_drop_more (first_pair p) xs i d h ∙ pair_turn (get_or xs i d) (drop (i + 1) xs) None e
