-- Laws of the sorted methods of a program.
use Rattle.std.proofs.Common.{◌≡◌, List, [], ◌∷◌, ◌++◌, ◌↔◌, sym, subst, ◌∙◌, append-nil}
use Rattle.dy_base.specs.declared.ids.GenericId.{GenericId}
use Rattle.dy_base.specs.declared.ids.MethodId.{MethodId}
use Rattle.dy_term.specs.declared.types.Shape1.{Shape1}
use Rattle.dy_term.specs.declared.rows.Program.{Program}
use Rattle.dy_classes.specs.Lists.{In, Once, Sub}
use Rattle.dy_order.specs.Methods.{methods_of}
use Rattle.dy_order.specs.Precedence.{IsApplicable, Precedes}
use Rattle.dy_order.specs.Sorting.{Filtered, IsFirst, SortedInto, remains, Dispatched, IsSorted}
use Rattle.dy_order.proofs.Lists.{sub_in, sub_once, sub_trans, filtered_sub, filtered_holds, filtered_has, filtered_one, put_in, leave_out}
use Rattle.dy_order.proofs.Methods.{methods_once}
use Rattle.dy_order.proofs.Order.{asymmetric}
use Rattle.dy_order.proofs.Sorts.{rest_sub, all_there, none_else, each_once, none_left, one_taken, one_rest}

module _ (program : Program) (generic : GenericId) (args : List Shape1) where
  abbrev P : MethodId → MethodId → Type 0
  P = Precedes program args

  abbrev Applies : MethodId → Type 0
  Applies = IsApplicable program generic args

  pub one : (first rest others left : List MethodId) → IsSorted program generic args first rest → IsSorted program generic args others left → (first ≡ others) × (rest ≡ left)
  one first rest others left s t =
      let same = filtered_one Applies s.filtered t.filtered in
      let t2 = subst (λ (v : List MethodId). SortedInto P v others left) (sym same) t.sorted in
      (one_taken P (asymmetric program args) (λ m. (λ i. i, λ i. i)) s.sorted t2, one_rest P (asymmetric program args) s.sorted t2)

  pub whole : (first rest : List MethodId) → IsSorted program generic args first rest → (m : MethodId) → (In m (methods_of program) × Applies m) ↔ In m (first ++ rest)
  whole first rest s m = (
    λ p. all_there P s.sorted m (filtered_has Applies s.filtered m p.0 p.1),
    λ i. (let j = none_else P s.sorted m i in (sub_in (filtered_sub Applies s.filtered) j, filtered_holds Applies s.filtered m j)),
  )

  pub once : (first rest : List MethodId) → IsSorted program generic args first rest → Once (first ++ rest)
  once first rest s = each_once P (sub_once (filtered_sub Applies s.filtered) (methods_once program)) s.sorted

  pub in_order : (first rest : List MethodId) → IsSorted program generic args first rest → Sub rest (methods_of program)
  in_order first rest s = sub_trans (rest_sub P s.sorted) (filtered_sub Applies s.filtered)

  pub none : (first rest : List MethodId) → IsSorted program generic args first rest → (m : MethodId) → IsFirst P rest m → ⊥
  none first rest s m f = none_left P s.sorted m f

  -- the end of the loop that sorts
  pub finished : (first rest a b lent all : List MethodId) → a ≡ first → b ≡ rest → lent ≡ rest → Filtered Applies (methods_of program) all
      → ((taken left : List MethodId) → SortedInto P rest taken left → SortedInto P all (first ++ taken) left) → ((m : MethodId) → IsFirst P lent m → ⊥) → IsSorted program generic args a b
  finished first rest a b lent all e f lend filtered same none =
      let s : SortedInto P all (first ++ []) rest = same [] rest (remains (λ m g. none m (subst (λ (v : List MethodId). IsFirst P v m) (sym lend) g))) in
      let t = subst (λ (v : List MethodId). SortedInto P all v rest) (append-nil first ∙ sym e) s in
      record { applicable = all; filtered = filtered; sorted = subst (λ (v : List MethodId). SortedInto P all a v) (sym f) t }

module _ (Applies : MethodId → Type 0) (P : MethodId → MethodId → Type 0) where
  pub others : (before after first rest : List MethodId) (m : MethodId) → (Applies m → ⊥) → Dispatched Applies P (before ++ m ∷ after) first rest ↔ Dispatched Applies P (before ++ after) first rest
  others before after first rest m out = (
    λ d. record { applicable = d.applicable; filtered = leave_out Applies before after m d.applicable out d.filtered; sorted = d.sorted },
    λ d. record { applicable = d.applicable; filtered = put_in Applies before after m d.applicable out d.filtered; sorted = d.sorted },
  )
