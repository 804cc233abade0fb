-- Closures, and local methods.
use Rattle.std.specs.Prelude.{◌≡◌, ℕ, List, [], ◌∷◌, length, flat_map}
use Rattle.dy_term.specs.declared.term.Lambda.{Lambda}
use Rattle.dy_term.specs.declared.rows.Program.{Program}
use Rattle.dy_outcome.specs.declared.place.Place.{Place}
use Rattle.dy_outcome.specs.Parts.{Closing, closing, local_methods}
use Rattle.dy_meaning.specs.Lambdas.{with_inner}
use Rattle.dy_meaning.specs.Layouts.{Layout, place_of}
use Rattle.dy_meaning.specs.Meaning as means
use Rattle.dy_lowered.specs.Parts as parts
use Rattle.dy_lowered.specs.Parts.{Method}
use Rattle.dy_lowered.specs.Terms.{methods_from}
use Rattle.dy_lowering_law.specs.Behaving.{IsNumbered, AreNumberedFrom}
use Rattle.dy_lowering_law.specs.Following.{Follows, Prepares}
use Rattle.dy_lowering_law.specs.parts.Lets.{IsOwn}

-- a closure, whatever it captures
abbrev pub ClosuresFollow : Type 0
ClosuresFollow = (program : Program) (n before locals body : ℕ) (lambda : Closing)
    → IsNumbered program before lambda.number body
    → Follows program n before locals (parts.closing body lambda.captured) (closing lambda)

-- Local methods and their closures, one by one: they stand at the same places of the body, and
-- capture the same.
abbrev pub AreMethods : Program → (before locals : ℕ) → List Method → List (Place × Closing)
    → Type 0
AreMethods program before locals [] [] = Unit {0}
AreMethods program before locals (method ∷ methods) (made ∷ others) =
    (method.place ≡ made.0) × (method.captured ≡ made.1.captured) × IsOwn locals made.0
    × IsNumbered program before made.1.number method.body
    × AreMethods program before locals methods others
AreMethods program before locals methods others = ⊥

abbrev pub LocalMethodsFollow : Type 0
LocalMethodsFollow = (program : Program) (n before locals : ℕ) (methods : List Method)
    (closings : List (Place × Closing)) → AreMethods program before locals methods closings
    → Prepares program n before locals (parts.local_methods methods) (local_methods closings)

-- local methods by the locals that they are, in a body with this layout
abbrev pub Methods : Type 0
Methods = List (ℕ × (Lambda × Unit {0}))

abbrev pub StandThere : ℕ → Layout → Methods → Type 0
StandThere locals layout [] = Unit {0}
StandThere locals layout (method ∷ methods) =
    IsOwn locals (place_of layout method.0) × StandThere locals layout methods

-- all lambdas of local methods: each of theirs, and those inside of it
abbrev pub lambdas_among : Methods → List Lambda
lambdas_among methods = flat_map (λ method. with_inner method.1.0) methods

-- local methods as a part of a body has them, from the numbers of the first lambda and its body on
abbrev pub MethodItemsFollow : Type 0
MethodItemsFollow = (program : Program) (n before locals lambda body : ℕ) (layout : Layout)
    (methods : Methods) → StandThere locals layout methods
    → AreNumberedFrom program before lambda body (length (lambdas_among methods))
    → Prepares program n before locals (parts.local_methods (methods_from layout methods body))
    (local_methods (means.methods_from layout methods lambda))
