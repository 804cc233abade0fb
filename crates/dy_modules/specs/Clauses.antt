-- What a use clause makes of a name (DRM 4, "Modules").
use Rattle.std.specs.Prelude.{◌≡◌, ◌⊎◌, ℕ, Bool, true, false, cond, ◌||◌, ◌&&◌, nat_eq, List, []}
use Rattle.std.specs.Prelude.{◌∷◌, ◌++◌, Option, Some, None}
use Rattle.std.specs.List.{list_any}
use Rattle.std.specs.Str.{bytes_eq}
use Rattle.std.specs.FinMap as finite
use Rattle.dy_base.specs.Tables.{table_of}
use Rattle.dy_base.specs.declared.ids.BindingId.{BindingId}
use Rattle.dy_base.specs.declared.ids.What.{What}
use Rattle.dy_base.specs.declared.ids.What.TheVariants.{Class, Generic, Variable, Constant}
use Rattle.dy_base.specs.declared.ids.What.TheVariants.{Function, Macro}
use Rattle.dy_modules.specs.declared.owner.Owner.{Owner}
use Rattle.dy_modules.specs.declared.owner.Owner.TheVariants.{Outside, Own}
use Rattle.dy_modules.specs.declared.clause.UseClause.{UseClause}
use Rattle.dy_modules.specs.declared.clause.ModuleForm.{ModuleForm}

abbrev pub Name : Type 0
Name = List ℕ

abbrev pub IsIn : {X : Type 0} → X → List X → Type 0
IsIn x [] = ⊥
IsIn x (y ∷ ys) = (x ≡ y) ⊎ IsIn x ys

abbrev pub is_one_of : List Name → Name → Bool
is_one_of names a = list_any (bytes_eq a) names

-- a name that is renamed takes its new name, and every other one the prefix
abbrev pub named_anew : Name → Name → Option Name → Name
named_anew prefix a None = prefix ++ a
named_anew prefix a (Some new) = new

abbrev pub new_name : UseClause → Name → Name
new_name u a = named_anew u.prefix a (finite.get (table_of u.renamed) a)

-- without a set of chosen names all are
abbrev pub is_chosen : Option (List Name) → Name → Bool
is_chosen None a = true
is_chosen (Some names) a = is_one_of names a

-- the new name of an exported name, or None where the clause leaves it out
unfoldable pub brought : UseClause → Name → Option Name
brought u a = cond (is_one_of u.excluded a) None
    (cond (is_chosen u.chosen a) (Some (new_name u a)) None)

-- a name that the clause brings is exported again
unfoldable pub is_again : UseClause → Name → Bool
is_again u n = u.again_all || is_one_of u.again n

-- the owner that a name of a module has whatever its clauses bring: its own where it creates it,
-- and for a module of a used library what that exports
abbrev pub given_at : ModuleForm → Name → Option Owner
given_at d n = finite.get (table_of d.given) n

abbrev pub what_number : What → ℕ
what_number Class = 0
what_number Generic = 1
what_number Variable = 2
what_number Constant = 3
what_number Function = 4
what_number Macro = 5

abbrev pub is_same_binding : BindingId → BindingId → Bool
is_same_binding a b = nat_eq (what_number a.what) (what_number b.what)
    && (nat_eq a.at.library b.at.library && nat_eq a.at.row b.at.row)

abbrev pub is_same_owner : Owner → Owner → Bool
is_same_owner (Outside a) (Outside b) = is_same_binding a b
is_same_owner (Outside a) (Own k n) = false
is_same_owner (Own m a) (Outside b) = false
is_same_owner (Own m a) (Own k b) = nat_eq m k && bytes_eq a b
