-- What is read of a type: part by part, and by what its names stand for.
use Rattle.std.proofs.Common.{◌≡◌, ℕ, ◌+◌, ◌-◌, Bool, true, false, nat_lt, length, length-append, arith, List, ◌++◌, append_assoc, append-nil, inl, refl, sym, ap, ◌∙◌}
use Rattle.std.specs.Prelude.{Option, Some, None, if◌then◌else◌}
use Rattle.dy_base.specs.declared.fault.Fault.{Fault}
use Rattle.dy_base.specs.declared.ids.BindingId.{BindingId}
use Rattle.dy_tree.specs.declared.token.Token.{Token}
use Rattle.dy_term.specs.declared.draft.Local.TheVariants.{Named}
use Rattle.dy_term.specs.declared.types.Member.{Member}
use Rattle.dy_term.specs.Types.{CoreType, object, integer, named, single, single_name, union, range}
use Rattle.dy_term.specs.Types.{CoreTypes, no_type, type_and}
use Rattle.dy_names.specs.declared.denotation.Denotation.{Denotation}
use Rattle.dy_names.specs.declared.denotation.Meaning.{Meaning}
use Rattle.dy_names.specs.declared.denotation.Meaning.TheVariants.{InForce, Owned, Unbound}
use Rattle.dy_names.specs.Naming.{Locals, Table, innermost, in_force_or, means}
use Rattle.dy_rings.specs.Rings.{In}
use Rattle.dy_type_names.specs.declared.standing.Standing.{Standing}
use Rattle.dy_type_names.specs.declared.reading.Reading.{Reading}
use Rattle.dy_type_names.specs.Members.{ReadType, nothing, wrong, too_many, both, first_of_both, first_of, bound_read, name_read, union_read, read_members, read_parts}
use Rattle.dy_type_names.specs.Constants.{names_in, names_of}
use Rattle.dy_type_names.specs.Readings.{read_on}
use Rattle.dy_type_names.proofs.FirstFaults.{first_of_three, none_first, first_append}
use Rattle.dy_type_names.proofs.Ins.{in_left, in_right}

-- ---- one part behind the other

pub read_on_both : (r : Reading) (a b : ReadType) → read_on (read_on r a) b ≡ read_on r (both a b)
read_on_both r a b =
    ap (λ (ms : List Member). record { members = ms; first = first_of_both (first_of_both r.first (first_of a.faults)) (first_of b.faults) }) (append_assoc r.members a.members b.members)
    ∙ ap (λ (first : Option Fault). record { members = r.members ++ (a.members ++ b.members); first = first })
    (first_of_three r.first (first_of a.faults) (first_of b.faults) ∙ ap (first_of_both r.first) (sym (first_append a.faults b.faults)))

pub read_on_nothing : (r : Reading) → read_on r nothing ≡ r
read_on_nothing r = ap (λ (ms : List Member). record { members = ms; first = r.first }) (append-nil r.members)

-- ---- the parts of a union

union_first : (r : Reading) (told : Token) (parts : ReadType) (b : Bool)
    → record { members = r.members ++ parts.members; first = first_of_both r.first (if b then first_of_both (Some (too_many told)) (first_of parts.faults) else first_of parts.faults) }
    ≡ read_on r (if b then both (wrong (too_many told)) parts else parts)
union_first r told parts true = refl
union_first r told parts false = refl

-- what is read with a union, by what is read with its parts where no fault was before
pub union_done : (r after : Reading) (told : Token) (parts : ReadType) (count : ℕ) → after ≡ read_on (record { members = r.members; first = None }) parts → count ≡ length after.members - length r.members
    → record { members = after.members; first = first_of_both r.first (if nat_lt 16 count then first_of_both (Some (too_many told)) after.first else after.first) }
    ≡ read_on r (union_read told parts)
union_done r after told parts count e c =
    let long : length after.members ≡ length (r.members ++ parts.members) = ap (λ (x : Reading). length x.members) e in
    let sum : length (r.members ++ parts.members) ≡ length r.members + length parts.members = length-append r.members parts.members in
    let same : count ≡ length parts.members = omega (arith, c, long, sum) in
    ap (λ (n : ℕ). record { members = after.members; first = first_of_both r.first (if nat_lt 16 n then first_of_both (Some (too_many told)) after.first else after.first) }) same
    ∙ ap (λ (x : Reading). record { members = x.members; first = first_of_both r.first (if nat_lt 16 (length parts.members) then first_of_both (Some (too_many told)) x.first else x.first) }) e
    ∙ ap (λ (f : Option Fault). record { members = r.members ++ parts.members; first = first_of_both r.first (if nat_lt 16 (length parts.members) then first_of_both (Some (too_many told)) f else f) }) (none_first (first_of parts.faults))
    ∙ union_first r told parts (nat_lt 16 (length parts.members))

-- ---- by what its names stand for

meant_owned : (found : Option Denotation) (owner : Option BindingId) (b : BindingId) → in_force_or found owner ≡ Owned b → owner ≡ Some b
meant_owned (Some denotation) owner b e = absurd cc
meant_owned None (Some other) b e = let k : other ≡ b = cc in ap Some k
meant_owned None None b e = absurd cc

module _ (table : Table) (locals : Locals) where
  owned_is : (name : Token) (b : BindingId) → means table locals name ≡ Owned b → table name ≡ Some b
  unfolding means
  owned_is name b e = meant_owned (innermost locals (Named name)) (table name) b e

  name_same : (f g : BindingId → Standing) (name : Token) (m : Meaning) → ((b : BindingId) → m ≡ Owned b → f b ≡ g b) → name_read f name m ≡ name_read g name m
  name_same f g name (InForce denotation) h = refl
  name_same f g name (Owned b) h = ap (λ (s : Standing). bound_read name b b.what s) (h b refl)
  name_same f g name Unbound h = refl

  mutual
    pub read_same : (f g : BindingId → Standing) (type : CoreType) → ((name : Token) (b : BindingId) → In name (names_in type) → table name ≡ Some b → f b ≡ g b) → read_members f table locals type ≡ read_members g table locals type
    read_same f g object h = refl
    read_same f g integer h = refl
    read_same f g (named name) h = name_same f g name (means table locals name) (λ b e. h name b (inl refl) (owned_is name b e))
    read_same f g (single value) h = refl
    read_same f g (single_name told name) h = refl
    read_same f g (union told types) h = ap (λ (r : ReadType). union_read told r) (parts_same f g types h)
    read_same f g (range told least greatest) h = refl

    parts_same : (f g : BindingId → Standing) (types : CoreTypes) → ((name : Token) (b : BindingId) → In name (names_of types) → table name ≡ Some b → f b ≡ g b) → read_parts f table locals types ≡ read_parts g table locals types
    parts_same f g no_type h = refl
    parts_same f g (type_and first rest) h =
        ap (λ (r : ReadType). both r (read_parts f table locals rest)) (read_same f g first (λ name b i. h name b (in_left name (names_in first) (names_of rest) i)))
        ∙ ap (λ (r : ReadType). both (read_members g table locals first) r) (parts_same f g rest (λ name b i. h name b (in_right name (names_in first) (names_of rest) i)))
