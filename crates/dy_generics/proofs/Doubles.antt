-- When two methods are duplicates.
use Rattle.std.proofs.Common.{◌≡◌, ◌↔◌, Bool, IsTrue, List, Option, Some, sym, ap, subst, ◌∙◌}
use Rattle.dy_base.specs.declared.ids.MethodId.{MethodId}
use Rattle.dy_term.specs.declared.types.DyType.{DyType}
use Rattle.dy_term.specs.declared.rows.MethodRow.{MethodRow}
use Rattle.dy_term.specs.declared.rows.Program.{Program}
use Rattle.dy_order.specs.Methods.{method_at}
use Rattle.dy_generics.specs.Duplicates.{AreDuplicates, AreEquivalent}

one_row : (o : Option MethodRow) (r s : MethodRow) → o ≡ Some r → o ≡ Some s → s ≡ r
one_row o r s e f = cc

module _ (program : Program) (method other : MethodId) (row second : MethodRow) (types others : List DyType) (e : types ≡ row.params.required) (f : others ≡ second.params.required)
    (at : method_at program method ≡ Some row) (other_at : method_at program other ≡ Some second) where
  there : AreDuplicates program method other → AreEquivalent program types others
  there d =
      let r : d.row ≡ row = one_row (method_at program method) row d.row at d.at in
      let q : d.second ≡ second = one_row (method_at program other) second d.second other_at d.second_at in
      subst (λ (v : List DyType). AreEquivalent program v others) (ap (λ (v : MethodRow). v.params.required) r ∙ sym e)
      (subst (λ (v : List DyType). AreEquivalent program d.row.params.required v) (ap (λ (v : MethodRow). v.params.required) q ∙ sym f) d.types)

  back : row.generic ≡ second.generic → AreEquivalent program types others → AreDuplicates program method other
  back same equivalent =
      record {
        row = row;
        second = second;
        at = at;
        second_at = other_at;
        generic = same;
        types = subst (λ (v : List DyType). AreEquivalent program row.params.required v) f (subst (λ (v : List DyType). AreEquivalent program v others) e equivalent);
      }

  pub duplicates_by : (t : Bool) → row.generic ≡ second.generic → IsTrue t ↔ AreEquivalent program types others → IsTrue t ↔ AreDuplicates program method other
  duplicates_by t same told = (λ h. back same (told.0 h), λ d. told.1 (there d))
