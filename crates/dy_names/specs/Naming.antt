-- What a name means: the innermost local of its text and its origin, else what a table has for it
-- (DRM 4, "Bindings").
use Rattle.std.specs.Prelude.{Bool, false, List, [], ◌∷◌, Option, Some, None, nat_eq, ◌&&◌, cond}
use Rattle.std.specs.Str.{bytes_eq}
use Rattle.dy_base.specs.declared.ids.BindingId.{BindingId}
use Rattle.dy_tree.specs.declared.token.Token.{Token}
use Rattle.dy_term.specs.declared.draft.Local.{Local}
use Rattle.dy_term.specs.declared.draft.Local.TheVariants.{Named, Hidden}
use Rattle.dy_names.specs.declared.denotation.Denotation.{Denotation}
use Rattle.dy_names.specs.declared.denotation.Meaning.{Meaning}
use Rattle.dy_names.specs.declared.denotation.Meaning.TheVariants.{InForce, Owned, Unbound}

-- whether two locals have one name: one text and one origin, wherever they stand, or one number of
-- a hidden one
abbrev pub is_same : Local → Local → Bool
is_same (Named a) (Named b) = nat_eq a.origin b.origin && bytes_eq a.text b.text
is_same (Named a) (Hidden n) = false
is_same (Hidden m) (Named b) = false
is_same (Hidden m) (Hidden n) = nat_eq m n

-- the locals in force with what they stand for, the innermost first
abbrev pub Locals : Type 0
Locals = List (Local × Denotation)

unfoldable pub innermost : Locals → Local → Option Denotation
innermost [] name = None
innermost (inner ∷ outer) name = cond (is_same inner.0 name) (Some inner.1) (innermost outer name)

-- what names mean outside of all bodies
abbrev pub Table : Type 0
Table = Token → Option BindingId

abbrev pub in_force_or : Option Denotation → Option BindingId → Meaning
in_force_or (Some denotation) owner = InForce denotation
in_force_or None (Some owner) = Owned owner
in_force_or None None = Unbound

unfoldable pub means : Table → Locals → Token → Meaning
means table locals name = in_force_or (innermost locals (Named name)) (table name)
