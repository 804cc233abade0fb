-- A name, an assignment to one, and the call of one, by what the name means.
use Rattle.std.specs.Prelude.{Bool, true, false, List, [], ◌∷◌, Option, Some, None, if◌then◌else◌}
use Rattle.dy_base.specs.declared.kind.Kind.TheVariants.{Unbound as AsUnbound, NotAssignable}
use Rattle.dy_base.specs.declared.ids.What.{What}
use Rattle.dy_base.specs.declared.ids.What.TheVariants as whats
use Rattle.dy_base.specs.declared.ids.BindingId.{BindingId}
use Rattle.dy_tree.specs.declared.token.Token.{Token}
use Rattle.dy_term.specs.declared.literal.Literal.TheVariants.{Bool as a_truth}
use Rattle.dy_term.specs.declared.term.Term.{Term, Lit, Local, Global, ClassName, GenericName}
use Rattle.dy_term.specs.declared.term.Term.{SetLocal, SetGlobal, Call, Site, Next}
use Rattle.dy_term.specs.Drafts.{Core, name}
use Rattle.dy_names.specs.declared.denotation.Denotation.{Denotation}
use Rattle.dy_names.specs.declared.denotation.Denotation.TheVariants as stands
use Rattle.dy_names.specs.declared.denotation.Meaning.{Meaning}
use Rattle.dy_names.specs.declared.denotation.Meaning.TheVariants.{InForce, Owned, Unbound}
use Rattle.dy_names.specs.Naming.{Locals, means}
use Rattle.dy_names.specs.Outside.{Outside}
use Rattle.dy_binding.specs.declared.progress.Progress.{Progress}
use Rattle.dy_binding.specs.declared.names.Head.{Head}
use Rattle.dy_binding.specs.declared.names.Head.TheVariants as heads
use Rattle.dy_binding.specs.Faults.{fault_at}
use Rattle.dy_binding.specs.Reads.{Reads, told}

-- `#f`
abbrev pub no_value : Term
no_value = Lit (a_truth false)

abbrev pub denoted : Denotation → Term
denoted (stands.Local number) = Local number
denoted stands.NextMethod = Next None
denoted stands.NoMethod = no_value

-- whether the name of a next method stands for one
abbrev pub is_next : Denotation → Bool
is_next (stands.Local number) = false
is_next stands.NextMethod = true
is_next stands.NoMethod = false

-- that a name has no binding
abbrev pub unbound : Token → Progress → Progress
unbound token p = told (fault_at AsUnbound token (token.text ∷ [])) p

-- that it can't be assigned
abbrev pub not_assignable : Token → Progress → Progress
not_assignable token p = told (fault_at NotAssignable token (token.text ∷ [])) p

-- what its module has; a macro is no value
abbrev pub owned : Token → BindingId → What → Progress → Term × Progress
owned token binding whats.Class p = (ClassName (record { 0 = binding.at }), p)
owned token binding whats.Generic p = (GenericName (record { 0 = binding.at }), p)
owned token binding whats.Variable p = (Global binding, p)
owned token binding whats.Constant p = (Global binding, p)
owned token binding whats.Function p = (Global binding, p)
owned token binding whats.Macro p = (no_value, unbound token p)

-- a name; the term of one with a fault is never given to anyone
abbrev pub named : Token → Meaning → Progress → Term × Progress
named token (InForce denotation) p = (denoted denotation, p)
named token (Owned binding) p = owned token binding binding.what p
named token Unbound p = (no_value, unbound token p)

-- a hidden local
abbrev pub hidden_term : Option Denotation → Term
hidden_term None = no_value
hidden_term (Some denotation) = denoted denotation

abbrev pub is_variable : What → Bool
is_variable whats.Variable = true
is_variable whats.Class = false
is_variable whats.Generic = false
is_variable whats.Constant = false
is_variable whats.Function = false
is_variable whats.Macro = false

-- the fault of an assignment to a name
abbrev pub placed : Token → Meaning → Progress → Progress
placed token (InForce (stands.Local number)) p = p
placed token (InForce stands.NextMethod) p = not_assignable token p
placed token (InForce stands.NoMethod) p = not_assignable token p
placed token (Owned binding) p = if is_variable binding.what then p else not_assignable token p
placed token Unbound p = unbound token p

-- an assignment
abbrev pub assigned : Meaning → Term → Term
assigned (InForce (stands.Local number)) value = SetLocal number value
assigned (InForce stands.NextMethod) value = value
assigned (InForce stands.NoMethod) value = value
assigned (Owned binding) value = SetGlobal binding value
assigned Unbound value = value

-- what is called: a generic function, the next method, or the value of a term
abbrev pub head_owned : BindingId → What → Head
head_owned binding whats.Generic = heads.Generic (record { 0 = binding.at })
head_owned binding whats.Class = heads.Value
head_owned binding whats.Variable = heads.Value
head_owned binding whats.Constant = heads.Value
head_owned binding whats.Function = heads.Value
head_owned binding whats.Macro = heads.Value

abbrev pub head_meant : Meaning → Head
head_meant (InForce (stands.Local number)) = heads.Value
head_meant (InForce stands.NextMethod) = heads.NextMethod
head_meant (InForce stands.NoMethod) = heads.Value
head_meant (Owned binding) = head_owned binding binding.what
head_meant Unbound = heads.Value

abbrev pub head_of : Outside → Core → Locals → Head
head_of out (name token) locals = head_meant (means out.owner locals token)
head_of out _ locals = heads.Value

-- a call
abbrev pub called : Head → Reads Term → Reads (List Term) → Reads Term
called (heads.Generic generic) function arguments locals p =
    let a = arguments locals p in
    (Site generic a.0, a.1)
called heads.NextMethod function arguments locals p =
    let a = arguments locals p in
    (Next (Some a.0), a.1)
called heads.Value function arguments locals p =
    let f = function locals p in
    let a = arguments locals f.1 in
    (Call f.0 a.0, a.1)
