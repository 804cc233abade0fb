-- The walk over the getters of slots.
use Rattle.std.proofs.Common.{◌≡◌, ℕ, zero, suc, ◌+◌, ◌<◌, ◌≤◌, nat_eq, Bool, true, false, true≢false, cond, ◌&&◌, List, [], ◌∷◌, ◌++◌, ◌⊎◌, inl, inr, length, get_or, take, drop, map, refl, sym, ap, subst, ◌∙◌, arith, Option, Some, None}
use Rattle.std.specs.Option.{is_some, MatchOption}
use Rattle.std.proofs.lemmas.Bool.Decides.{nat_tests}
use Rattle.std.proofs.lemmas.Cmp.{nat_eq_equiv}
use Rattle.std.proofs.lemmas.List.{append_assoc, append-nil, at_drop_more, at_drop_all, take_all, map_more, take-append-drop, map-append}
use Rattle.dy_base.specs.declared.ids.ClassId.{ClassId}
use Rattle.dy_base.specs.declared.ids.GenericId.{GenericId}
use Rattle.dy_term.specs.declared.rows.SlotRow.{SlotRow}
use Rattle.dy_term.specs.declared.rows.Program.{Program}
use Rattle.dy_classes.specs.Lists.{In, first, next, Once}
use Rattle.dy_classes.specs.Legal.{getters_of, getters, slots_at, Repeated}
use Rattle.dy_classes.specs.Search.{is_generic, has_generic}
use Rattle.dy_classes.proofs.Decisions.{tells}

and_true : (a b : Bool) → (a && b) ≡ true → (a ≡ true) × (b ≡ true)
and_true true b e = (refl, e)
and_true false b e = absurd (true≢false (sym e))

same_number : (m n : ℕ) → nat_eq m n ≡ true → m ≡ n
same_number m n e = grind (arith, nat_tests)

same_generic : (a b : GenericId) → is_generic a b ≡ true → a ≡ b
same_generic a b e =
    let parts = and_true _ _ e in
    let library = same_number _ _ parts.0 in
    let row = same_number _ _ parts.1 in
    λ i. record { 0 = record { library = library i; row = row i } }

generic_itself : (a : GenericId) → is_generic a a ≡ true
generic_itself a = λ i. nat_eq_equiv.refl a.0.library i && nat_eq_equiv.refl a.0.row i

pub has_in : (g : GenericId) (gs : List GenericId) → has_generic g gs ≡ true → In g gs
has_in g [] e = absurd (true≢false (sym e))
has_in g (h ∷ gs) e =
    elim (tells (is_generic g h)) [
      | inl t ↦ subst (λ (v : GenericId). In g (v ∷ gs)) (same_generic g h t) first
      | inr t ↦ next (has_in g gs (rw t at e))
    ]

in_has : (g : GenericId) (gs : List GenericId) → In g gs → has_generic g gs ≡ true
in_has g [] i = elim i [ ]
in_has g (h ∷ gs) first = rw (generic_itself g) refl
in_has g (h ∷ gs) (next i) = elim (tells (is_generic g h)) [ inl t ↦ rw t refl | inr t ↦ rw t (in_has g gs i) ]

pub not_has : (g : GenericId) (gs : List GenericId) → has_generic g gs ≡ false → In g gs → ⊥
not_has g gs e i = true≢false (sym (in_has g gs i) ∙ e)

pub has_here : (g : GenericId) (gs : List GenericId) (i : ℕ) (d : GenericId) → i < length gs → is_generic g (get_or gs i d) ≡ true → has_generic g (drop i gs) ≡ true
has_here g gs i d h t = at_drop_more (has_generic g) gs i d h ∙ ap (λ b. cond b true (has_generic g (drop (i + 1) gs))) t

pub has_later : (g : GenericId) (gs : List GenericId) (i : ℕ) (d : GenericId) → i < length gs → is_generic g (get_or gs i d) ≡ false
    → has_generic g (drop i gs) ≡ has_generic g (drop (i + 1) gs)
has_later g gs i d h t = at_drop_more (has_generic g) gs i d h ∙ ap (λ b. cond b true (has_generic g (drop (i + 1) gs))) t

in_push : (gs : List GenericId) (x y : GenericId) → In y (gs ++ x ∷ []) → In y gs ⊎ (y ≡ x)
in_push [] x y first = inr refl
in_push [] x y (next i) = elim i [ ]
in_push (z ∷ gs) x y first = inl first
in_push (z ∷ gs) x y (next i) = elim (in_push gs x y i) [ inl j ↦ inl (next j) | inr e ↦ inr e ]

once_push : (gs : List GenericId) (x : GenericId) → Once gs → (In x gs → ⊥) → Once (gs ++ x ∷ [])
once_push [] x o out = (λ i. elim i [ ], tt)
once_push (z ∷ gs) x o out =
    (λ i. elim (in_push gs x z i) [ inl j ↦ o.0 j | inr e ↦ out (subst (λ (v : GenericId). In v (z ∷ gs)) e first) ], once_push gs x o.1 (λ i. out (next i)))

-- the slots of one class: the getter of x is among those seen, or goes to their end
module _ (old seen : List GenericId) (slots : List SlotRow) (i : ℕ) (x : SlotRow) (h : i < length slots) (at : x ≡ get_or slots i x)
    (same : seen ≡ old ++ getters_of (take i slots)) (once : Once seen) where
  slots_split : getters_of slots ≡ getters_of (take i slots) ++ x.getter ∷ getters_of (drop (i + 1) slots)
  slots_split =
      ap getters_of (sym (take-append-drop i slots))
      ∙ map-append (λ (slot : SlotRow). slot.getter) (take i slots) (drop i slots)
      ∙ ap (λ (l : List GenericId). getters_of (take i slots) ++ l)
      (at_drop_more getters_of slots i x h ∙ ap (λ (v : SlotRow). v.getter ∷ getters_of (drop (i + 1) slots)) (sym at))

  pub repeats : has_generic x.getter seen ≡ true → Repeated (old ++ getters_of slots) x.getter
  repeats t = record {
    before = seen;
    after = getters_of (drop (i + 1) slots);
    whole = ap (λ (l : List GenericId). old ++ l) slots_split
        ∙ sym (append_assoc old (getters_of (take i slots)) (x.getter ∷ getters_of (drop (i + 1) slots)))
        ∙ ap (λ (l : List GenericId). l ++ x.getter ∷ getters_of (drop (i + 1) slots)) (sym same);
    again = has_in x.getter seen t;
    once = once;
  }

  pub seen_more : (pushed : List GenericId) → pushed ≡ seen ++ x.getter ∷ [] → pushed ≡ old ++ getters_of (take (i + 1) slots)
  seen_more pushed e =
      e ∙ ap (λ (l : List GenericId). l ++ x.getter ∷ []) same
      ∙ append_assoc old (getters_of (take i slots)) (x.getter ∷ [])
      ∙ ap (λ (l : List GenericId). old ++ l)
      (ap (λ (v : SlotRow). getters_of (take i slots) ++ v.getter ∷ []) at ∙ sym (map_more (λ (slot : SlotRow). slot.getter) slots i x h))

  pub seen_once : (pushed : List GenericId) → pushed ≡ seen ++ x.getter ∷ [] → has_generic x.getter seen ≡ false → Once pushed
  seen_once pushed e t = subst (λ (l : List GenericId). Once l) (sym e) (once_push seen x.getter once (not_has x.getter seen t))

pub seen_all : (old seen : List GenericId) (slots : List SlotRow) (i : ℕ) → length slots ≤ i → seen ≡ old ++ getters_of (take i slots) → seen ≡ old ++ getters_of slots
seen_all old seen slots i end same = same ∙ ap (λ (l : List SlotRow). old ++ getters_of l) (take_all i slots end)

-- the walk over the classes, from the last one
module _ (program : Program) where
  pub getters_end : (classes : List ClassId) (i : ℕ) → length classes ≤ i → getters program (drop i classes) ≡ []
  getters_end classes i h = at_drop_all (getters program) classes i h

  pub getters_back : (classes : List ClassId) (j i : ℕ) (d : ClassId) → j + 1 ≡ i → j < length classes
      → getters program (drop j classes) ≡ getters program (drop i classes) ++ getters_of (slots_at program (get_or classes j d))
  getters_back classes j i d e h =
      at_drop_more (getters program) classes j d h
      ∙ ap (λ (n : ℕ). getters program (drop n classes) ++ getters_of (slots_at program (get_or classes j d))) e

  getters_front : (classes : List ClassId) (j : ℕ) → (more : List GenericId) × (getters program classes ≡ getters program (drop j classes) ++ more)
  getters_front classes zero = ([], sym (append-nil (getters program classes)))
  getters_front [] (suc j) = ([], refl)
  getters_front (class ∷ classes) (suc j) =
      let (more, same) = getters_front classes j in (
        more ++ getters_of (slots_at program class),
        ap (λ (l : List GenericId). l ++ getters_of (slots_at program class)) same ∙ append_assoc (getters program (drop j classes)) more (getters_of (slots_at program class)),
      )

  pub repeated_front : (classes : List ClassId) (j : ℕ) (list : List GenericId) (g : GenericId) → list ≡ getters program (drop j classes) → Repeated list g → Repeated (getters program classes) g
  repeated_front classes j list g same r =
      let (more, front) = getters_front classes j in
      record {
        before = r.before;
        after = r.after ++ more;
        whole = front ∙ ap (λ (l : List GenericId). l ++ more) (sym same ∙ r.whole) ∙ append_assoc r.before (g ∷ r.after) more;
        again = r.again;
        once = r.once;
      }

-- a getter that repeats one of the classes seen so far
pub found_front : (program : Program) (classes : List ClassId) (j i : ℕ) (d : ClassId) (found : Option GenericId) (old seen : List GenericId) (slots : List SlotRow)
    → j + 1 ≡ i → j < length classes → old ≡ getters program (drop i classes) → slots ≡ slots_at program (get_or classes j d) → is_some found ≡ true
    → MatchOption found ((seen ≡ old ++ getters_of slots) × Once seen) (λ g. Repeated (old ++ getters_of slots) g)
    → MatchOption found (Once (getters program classes)) (λ g. Repeated (getters program classes) g)
found_front program classes j i d None old seen slots e h is at some r = absurd cc
found_front program classes j i d (Some g) old seen slots e h is at some r =
    repeated_front program classes j (old ++ getters_of slots) g
    (ap (λ (l : List GenericId). l ++ getters_of slots) is ∙ ap (λ (s : List SlotRow). getters program (drop i classes) ++ getters_of s) at ∙ sym (getters_back program classes j i d e h)) r
