-- Methods that are entered in a table.
use Rattle.std.proofs.Common.{◌≡◌, ◌∙◌, ◌<◌, ◌+◌, ℕ, zero, suc, Bool, true, false, List, [], ◌∷◌}
use Rattle.std.proofs.Common.{◌++◌, length, drop, get_or, map, cond, ap, sym, subst, append_assoc}
use Rattle.std.specs.Prelude.{IfSome, slice_get}
use Rattle.std.specs.Global.{Vec}
use Rattle.std.specs.List.{filter}
use Rattle.std.specs.Option.{option_map}
use Rattle.std.proofs.lemmas.List.{append-nil, drop_more}
use Rattle.std.proofs.lemmas.Option.{IfSome_then}
use Rattle.std.specs.declared.option.Option.{Option}
use Rattle.std.specs.declared.option.Option.TheVariants.{None, Some}
use Rattle.dy_base.specs.declared.ids.GenericId.{GenericId}
use Rattle.dy_base.specs.declared.ids.MethodId.{MethodId}
use Rattle.dy_term.specs.declared.rows.MethodRow.{MethodRow}
use Rattle.dy_term.specs.declared.rows.LibraryRow.{LibraryRow}
use Rattle.dy_term.specs.declared.rows.Program.{Program}
use Rattle.dy_code.specs.Programs.{if_there}
use Rattle.dy_meaning.specs.Globals.{is_same_ref}
use Rattle.dy_lowering_law.specs.Machines.{methods_from, all_methods_from}
use Rattle.dy_program_world.specs.Tables.{all_methods, own, list_at, entry, IsTable, AreEmpty}
use Rattle.dy_program_world.specs.Tables.{IsEmpty, IsEntered, Awaits, entered_if}

-- an empty list behind others
pub empty_behind : (lists : List (Vec MethodId)) (list : Vec MethodId) → AreEmpty lists
    → list.items ≡ [] → AreEmpty (lists ++ list ∷ [])
empty_behind [] list are is zero = is
empty_behind [] list are is (suc place) = tt
empty_behind (x ∷ xs) list are is zero = are zero
empty_behind (x ∷ xs) list are is (suc place) =
    empty_behind xs list (λ p. are (suc p)) is place

empty_rows_at : (table : List (Vec (Vec MethodId))) (lists : Vec (Vec MethodId)) (row : ℕ)
    → AreEmpty lists.items
    → ((place : ℕ) → IfSome (if_there (slice_get table place) (λ l. list_at l.items row))
    (λ methods. methods ≡ [])) → (place : ℕ)
    → IfSome (if_there (slice_get (table ++ lists ∷ []) place) (λ l. list_at l.items row))
    (λ methods. methods ≡ [])
empty_rows_at [] lists row are is zero = are row
empty_rows_at [] lists row are is (suc place) = tt
empty_rows_at (x ∷ xs) lists row are is zero = is zero
empty_rows_at (x ∷ xs) lists row are is (suc place) =
    empty_rows_at xs lists row are (λ p. is (suc p)) place

pub empty_rows_behind : (table : List (Vec (Vec MethodId))) (lists : Vec (Vec MethodId))
    → IsEmpty table → AreEmpty lists.items → IsEmpty (table ++ lists ∷ [])
empty_rows_behind table lists is are = λ generic.
    empty_rows_at table lists generic.0.row are
    (λ place. is (record { 0 = record { library = place; row = generic.0.row } }))
    generic.0.library

-- an empty table awaits all methods
pub awaits_all : (all : List (MethodId × MethodRow)) (table : List (Vec (Vec MethodId)))
    → IsEmpty table → Awaits all all table
awaits_all all table is = λ generic.
    IfSome_then (entry table generic) (is generic) (λ methods e.
    ap (λ (ms : List MethodId). ms ++ own generic all) e)

-- a table that awaits none has them
pub awaits_none : (program : Program) (table : List (Vec (Vec MethodId)))
    → Awaits (all_methods program) [] table → IsTable program table
awaits_none program table awaits = λ generic.
    IfSome_then (entry table generic) (awaits generic)
    (λ methods e. sym (append-nil methods) ∙ e)

-- a method comes to its list, or to another one
module _ (id : MethodId) (method : MethodRow) (wanted : List MethodId) where
  awaits_on : (same : Bool) (list : Option (List MethodId)) (others : List (MethodId × MethodRow))
      → IfSome list (λ methods.
      methods ++ map (λ m. m.0) (cond same ((id, method) ∷ others) others) ≡ wanted)
      → IfSome (option_map (entered_if same id) list)
      (λ methods. methods ++ map (λ m. m.0) others ≡ wanted)
  awaits_on same None others is = tt
  awaits_on true (Some methods) others is =
      append_assoc methods (id ∷ []) (map (λ m. m.0) others) ∙ is
  awaits_on false (Some methods) others is = is

-- a method that is entered is awaited no longer
pub entered : (all last : List (MethodId × MethodRow)) (id : MethodId) (method : MethodRow)
    (old new : List (Vec (Vec MethodId))) → Awaits all ((id, method) ∷ last) old
    → IsEntered method.generic id old new → Awaits all last new
entered all last id method old new awaits is = λ generic.
    subst (λ (list : Option (List MethodId)).
    IfSome list (λ methods. methods ++ own generic last ≡ own generic all))
    (sym (is generic))
    (awaits_on id method (own generic all) (is_same_ref method.generic.0 generic.0)
    (entry old generic)
    (filter (λ m. is_same_ref m.1.generic.0 generic.0) last) (awaits generic))

-- the first of those that are left in a list, and those behind it
pub first_left : {A : Type 0} (xs : List A) (index : ℕ) (x : A) → index < length xs
    → x ≡ get_or xs index x → drop index xs ≡ x ∷ drop (index + 1) xs
first_left {A} xs index x within is =
    drop_more xs index x within ∙ ap (λ (y : A). y ∷ drop (index + 1) xs) (sym is)

-- the next method of a library is entered
pub next_entered : (library row next index : ℕ) (methods : List MethodRow) (method : MethodRow)
    (all last : List (MethodId × MethodRow)) (old new : List (Vec (Vec MethodId)))
    → drop index methods ≡ method ∷ drop (index + 1) methods → next ≡ row + 1
    → Awaits all (methods_from library row (drop index methods) ++ last) old
    → IsEntered method.generic (record { 0 = record { library = library; row = row } }) old new
    → Awaits all (methods_from library next (drop (index + 1) methods) ++ last) new
next_entered library row next index methods method all last old new first is awaits enters =
    subst (λ (n : ℕ). Awaits all (methods_from library n (drop (index + 1) methods) ++ last) new)
    (sym is)
    (entered all (methods_from library (row + 1) (drop (index + 1) methods) ++ last)
    (record { 0 = record { library = library; row = row } }) method old new
    (subst (λ (ms : List MethodRow). Awaits all (methods_from library row ms ++ last) old) first
    awaits) enters)

-- the methods of the next library are entered
pub library_entered : (place next index : ℕ) (libraries : List LibraryRow) (library : LibraryRow)
    (methods : List MethodRow) (all : List (MethodId × MethodRow))
    (old new : List (Vec (Vec MethodId)))
    → drop index libraries ≡ library ∷ drop (index + 1) libraries → next ≡ place + 1
    → methods ≡ library.methods
    → ((all last : List (MethodId × MethodRow)) → Awaits all (methods_from place 0 methods ++ last) old
    → Awaits all last new)
    → Awaits all (all_methods_from place (drop index libraries)) old
    → Awaits all (all_methods_from next (drop (index + 1) libraries)) new
library_entered place next index libraries library methods all old new first is own enters awaits =
    let others = drop (index + 1) libraries in
    subst (λ (n : ℕ). Awaits all (all_methods_from n others) new) (sym is)
    (enters all (all_methods_from (place + 1) others)
    (subst (λ (ms : List MethodRow).
    Awaits all (methods_from place 0 ms ++ all_methods_from (place + 1) others) old) (sym own)
    (subst (λ (ls : List LibraryRow). Awaits all (all_methods_from place ls) old) first awaits)))
