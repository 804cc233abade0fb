-- What is gathered one by one is the first row of each number.
use Rattle.std.proofs.Common.{◌≡◌, ℕ, map, flat_map, zip, List, [], ◌∷◌, ◌++◌, Option, Some, None, append_assoc, append-nil, sym, ap, ◌∙◌}
use Rattle.std.specs.FinMap.{entries}
use Rattle.dy_term.specs.declared.rows.GenericRow.{GenericRow}
use Rattle.dy_tree.specs.declared.token.Token.{Token}
use Rattle.dy_term.specs.Rows.{CoreDraft}
use Rattle.dy_names.specs.Naming.{Table}
use Rattle.dy_assembly.specs.Generics.{Offer, number_in, with_number, numbered, defined_by, made_by, offers, generics_of}
use Rattle.dy_assembly.specs.Gathered.{Entries, with_offer, gathered}
use Rattle.dy_assembly.proofs.Offering.{gathered_twice}
use Rattle.dy_assembly.proofs.Firsts.{firsts, kept_is, none_first}

with_offer_is : (rows : Entries) (number : Option ℕ) (row : GenericRow) → with_offer (entries (firsts rows)) number row ≡ entries (firsts (rows ++ with_number number row))
with_offer_is rows None row = ap (λ (l : Entries). entries (firsts l)) (sym (append-nil rows))
with_offer_is rows (Some k) row = kept_is rows k row

gathered_behind : (library : ℕ) (owner : Table) (rows : Entries) (more : List Offer)
    → gathered library owner (entries (firsts rows)) more ≡ entries (firsts (rows ++ numbered library owner more))
gathered_behind library owner rows [] = ap (λ (l : Entries). entries (firsts l)) (sym (append-nil rows))
gathered_behind library owner rows (offer ∷ more) =
    let number = number_in library (owner offer.0) in
    let here = with_number number offer.1 in
    ap (λ (es : Entries). gathered library owner es more) (with_offer_is rows number offer.1)
    ∙ gathered_behind library owner (rows ++ here) more
    ∙ ap (λ (l : Entries). entries (firsts l)) (append_assoc rows here (numbered library owner more))

gathered_whole : (library : ℕ) (owner : Table) (more : List Offer) → gathered library owner [] more ≡ entries (firsts (numbered library owner more))
gathered_whole library owner more =
    ap (λ (es : Entries). gathered library owner es more) (sym none_first)
    ∙ gathered_behind library owner [] more

-- The rows that are gathered are the generic functions.
gathered_is : (library : ℕ) (owner : Table) (forms : List CoreDraft) (defined : List GenericRow)
    → map (λ (e : ℕ × GenericRow). e.1) (gathered library owner [] (offers forms defined)) ≡ generics_of library owner forms defined
gathered_is library owner forms defined =
    ap (λ (es : Entries). map (λ (e : ℕ × GenericRow). e.1) es) (gathered_whole library owner (offers forms defined))

-- Those that forms define are gathered before those that they make.
pub gathered_in_turn : (library : ℕ) (owner : Table) (forms : List CoreDraft) (defined : List GenericRow) (names : List Token) (start between after : Entries)
    → start ≡ []
    → names ≡ flat_map defined_by forms
    → between ≡ gathered library owner start (zip names defined)
    → after ≡ gathered library owner between (flat_map made_by forms)
    → map (λ (e : ℕ × GenericRow). e.1) after ≡ generics_of library owner forms defined
gathered_in_turn library owner forms defined names start between after empty named first second =
    ap (λ (es : Entries). map (λ (e : ℕ × GenericRow). e.1) es)
    (second
    ∙ ap (λ (es : Entries). gathered library owner es (flat_map made_by forms))
    (first
    ∙ ap (λ (es : Entries). gathered library owner es (zip names defined)) empty
    ∙ ap (λ (ns : List Token). gathered library owner [] (zip ns defined)) named)
    ∙ sym (gathered_twice library owner [] (zip (flat_map defined_by forms) defined) (flat_map made_by forms)))
    ∙ gathered_is library owner forms defined
