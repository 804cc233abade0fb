-- Worked examples of the definitions, by computing.
use Rattle.std.proofs.Common.{◌≡◌, ℕ, List, [], ◌∷◌, Option, Some, None, Ok, refl}
use Rattle.std.specs.Prelude.{pos, cond, nat_eq}
use Rattle.dy_base.specs.declared.ids.BindingId.{BindingId}
use Rattle.dy_base.specs.declared.ids.What.{What}
use Rattle.dy_base.specs.declared.ids.What.TheVariants.{Variable, Constant}
use Rattle.dy_base.specs.declared.kind.Kind.TheVariants.{Unbound, NotAssignable}
use Rattle.dy_tree.specs.declared.token.Token.{Token}
use Rattle.dy_tree.specs.declared.token.TokenKind.TheVariants as kinds
use Rattle.dy_term.specs.declared.draft.Local.TheVariants.{Named, Hidden}
use Rattle.dy_term.specs.declared.types.DyType.{DyType}
use Rattle.dy_term.specs.declared.term.Term.{Local, Global, SetGlobal, Next}
use Rattle.dy_term.specs.declared.term.Item.{Run, Let}
use Rattle.dy_term.specs.Types.{object}
use Rattle.dy_term.specs.Drafts.{name, hidden, set, no_core, core_and, no_item, item_and, run}
use Rattle.dy_term.specs.Drafts.{let_values, clause_and, no_clause, then_clause, in_clause}
use Rattle.dy_names.specs.declared.denotation.Denotation.TheVariants as stands
use Rattle.dy_names.specs.Naming.{innermost, means}
use Rattle.dy_names.specs.Outside.{Outside}
use Rattle.dy_binding.specs.Faults.{fault_at}
use Rattle.dy_binding.specs.Reads.{none}
use Rattle.dy_binding.specs.Bound.{kept_bound}
use Rattle.dy_resolution.specs.Terms.{core_term, core_terms, core_items, core_firsts}

-- a name of one byte, by its origin and its place
abbrev token : ℕ → ℕ → ℕ → Token
token byte origin offset =
    record {
      kind = kinds.Name;
      text = byte ∷ [];
      number = pos 0;
      place = record { file = 0; offset = offset };
      origin = origin;
      «module» = 0;
    }

abbrev any : DyType
any = record { members = [] }

abbrev binding : What → ℕ → BindingId
binding what row = record { what = what; at = record { library = 2; row = row } }

-- outside, `g` (103) is a variable, `c` (99) a constant, and no other name has an owner
abbrev owner_at : List ℕ → Option BindingId
owner_at [] = None
owner_at (byte ∷ rest) = cond (nat_eq byte 103) (Some (binding Variable 0))
    (cond (nat_eq byte 99) (Some (binding Constant 1)) None)

abbrev out : Outside
out = record { owner = λ t. owner_at t.text; type = λ locals declared. Ok any }

-- let g = g; g: the value is the outer one
a_let : core_items out (item_and
    (let_values ((Named (token 103 0 4), object) ∷ []) None (name (token 103 0 8)))
    (item_and (run (name (token 103 0 11))) no_item)) [] none
    ≡ (
      Let ((0, any) ∷ []) None (Global (binding Variable 0)) ∷ Run (Local 0)
          ∷ [],
      record { next = 1; first = None },
    )
unfolding innermost means
a_let = refl

-- a name of another origin does not mean the local
another_origin : core_term out (name (token 103 1 20))
    ((Named (token 103 0 4), stands.Local 0) ∷ []) none ≡ (Global (binding Variable 0), none)
unfolding innermost means
another_origin = refl

-- the innermost of two
two_locals : core_term out (name (token 120 0 20))
    ((Named (token 120 0 9), stands.Local 1) ∷ (Named (token 120 0 4), stands.Local 0) ∷ []) none
    ≡ (Local 1, none)
unfolding innermost means
two_locals = refl

-- a hidden local, among names and others
a_hidden_local : core_term out (hidden 0)
    ((Named (token 120 0 9), stands.Local 3) ∷ (Hidden 1, stands.Local 2)
    ∷ (Hidden 0, stands.Local 1) ∷ (Hidden 0, stands.Local 0) ∷ []) none ≡ (Local 1, none)
unfolding innermost
a_hidden_local = refl

-- of two names without a binding the one at the earlier place is told, whichever stands in front
earlier_told : (core_terms out
    (core_and (name (token 120 0 9)) (core_and (name (token 121 0 4)) no_core)) [] none).1.first
    ≡ Some (fault_at Unbound (token 121 0 4) ((121 ∷ []) ∷ []))
unfolding innermost means
earlier_told = refl

-- at one place the smaller kind is told
smaller_told : (core_terms out (core_and (set (token 99 0 4) (name (token 120 0 4))) no_core)
    [] none).1.first ≡ Some (fault_at Unbound (token 120 0 4) ((120 ∷ []) ∷ []))
unfolding innermost means
smaller_told = refl

-- an assignment to a constant, and to a variable
a_constant : (core_term out (set (token 99 0 4) (name (token 103 0 9))) [] none).1.first
    ≡ Some (fault_at NotAssignable (token 99 0 4) ((99 ∷ []) ∷ []))
unfolding innermost means
a_constant = refl

a_variable : core_term out (set (token 103 0 4) (name (token 103 0 9))) [] none
    ≡ (SetGlobal (binding Variable 0) (Global (binding Variable 0)), none)
unfolding innermost means
a_variable = refl

-- for (g = g then g): the first expression sees no variable of the loop
first_expressions : core_firsts out
    (clause_and (then_clause (token 103 0 5) object (name (token 103 0 9)) (name (token 103 0 16)))
    no_clause) [] 1
    ≡ (
      record {
        declared = any;
        first = Global (binding Variable 0);
        limit = None;
        step = None;
        fault = None;
      } ∷ [],
      1,
    )
unfolding innermost means
first_expressions = refl

-- what gives the result of a loop does not see a walked variable
without_walked : core_term out (name (token 103 0 40))
    (kept_bound (clause_and (in_clause (token 103 0 5) object (name (token 99 0 9))) no_clause) 0
    []) none ≡ (Global (binding Variable 0), none)
unfolding innermost means
without_walked = refl

-- the next method by its name, and its absence
a_next_method : core_term out (name (token 110 0 9))
    ((Named (token 110 0 2), stands.NextMethod) ∷ []) none ≡ (Next None, none)
unfolding innermost means
a_next_method = refl

not_assigned : (core_term out (set (token 110 0 9) (name (token 103 0 12)))
    ((Named (token 110 0 2), stands.NoMethod) ∷ []) none).1.first
    ≡ Some (fault_at NotAssignable (token 110 0 9) ((110 ∷ []) ∷ []))
unfolding innermost means
not_assigned = refl
