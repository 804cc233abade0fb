-- Methods of one generic function with the same specializers, but for how these are written.
use Rattle.std.specs.Prelude.{ℕ, ◌≡◌, List, ◌∷◌, ◌++◌, length, All, zip}
use Rattle.std.specs.declared.option.Option.TheVariants.{Some}
use Rattle.dy_base.specs.declared.ids.MethodId.{MethodId}
use Rattle.dy_term.specs.declared.types.DyType.{DyType}
use Rattle.dy_term.specs.declared.rows.MethodRow.{MethodRow}
use Rattle.dy_term.specs.declared.rows.Program.{Program}
use Rattle.dy_types.specs.Types.{IsSubtype}
use Rattle.dy_classes.specs.Lists.{In}
use Rattle.dy_order.specs.Methods.{method_at, methods_upto, methods_below}

-- each type of the one list is a subtype of that of the other, and the other way round
abbrev pub AreEquivalent : Program → List DyType → List DyType → Type 0
AreEquivalent program types others =
    (length types ≡ length others) × All (λ pair. IsSubtype program pair.0 pair.1 × IsSubtype program pair.1 pair.0) (zip types others)

-- two methods of one generic function whose specializers are subtypes of each other
pub record AreDuplicates (program : Program) (method other : MethodId) : Type 0 where
  pub row : MethodRow
  pub second : MethodRow
  pub at : method_at program method ≡ Some row
  pub second_at : method_at program other ≡ Some second
  pub generic : row.generic ≡ second.generic
  pub types : AreEquivalent program row.params.required second.params.required

-- the methods that stand before a method in the program
abbrev pub earlier : Program → MethodId → List MethodId
earlier program method = methods_below program method.0.library ++ methods_upto method.0.library method.0.row

-- the first element of a list of which P holds
pub record FirstOf {A : Type 0} (P : A → Type 0) (xs : List A) (x : A) : Type 0 where
  pub before : List A
  pub after : List A
  pub whole : xs ≡ before ++ x ∷ after
  pub holds : P x
  pub none : (y : A) → In y before → P y → ⊥
