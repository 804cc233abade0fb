-- The generic functions of plain forms have no keywords.
use Rattle.std.proofs.Common.{◌≡◌, ℕ, Bool, true, false, not, ◌&&◌, List, [], ◌∷◌, ◌++◌, map, flat_map, length, Option, Some, None, is_some, Ordering, Less, Equal, Greater, nat_cmp, refl, sym, ◌∙◌, subst}
use Rattle.std.specs.Prelude.{zip}
use Rattle.std.specs.List.{list_all}
use Rattle.std.specs.Cmp.{nat_cmp_total}
use Rattle.std.specs.FinMap.{entries, put, from_entries, entries-insert, len-empty, len-entries}
use Rattle.std.specs.FinMap.Entries.{by_order}
use Rattle.dy_base.specs.Folding.{folded}
use Rattle.dy_tree.specs.declared.token.Token.{Token}
use Rattle.dy_term.specs.declared.rows.GenericRow.{GenericRow}
use Rattle.dy_term.specs.Drafts.{CoreLambda, lambda}
use Rattle.dy_term.specs.Rows.{CoreDraft, class_row, generic_row, method_row, domain_row}
use Rattle.dy_term.specs.Rows.{variable_row, top_term}
use Rattle.dy_names.specs.Naming.{Table}
use Rattle.dy_generics.specs.Implicit.{plain_generic}
use Rattle.dy_lowering_law.specs.Ready.{generic_ready}
use Rattle.dy_scoped_rows.proofs.terms.Facts.{untrue, both_true, and_true}
use Rattle.dy_lowered_forms.specs.drafts.Kinds.{takes_plainly, is_usual}
use Rattle.dy_lowered_forms.specs.drafts.Plain.{is_plain, is_lambda_plain, is_form_plain}
use Rattle.dy_assembly.specs.Generics.{Offer, number_in, made_by_method, made_by, defined_by, offers, with_number, numbered, generics_of}

abbrev Ready : List (ℕ × GenericRow) → Type 0
Ready rows = list_all (λ (e : ℕ × GenericRow). generic_ready e.1) rows ≡ true

abbrev AreReady : List Offer → Type 0
AreReady found = list_all (λ (offer : Offer). generic_ready offer.1) found ≡ true

ordered_ready : (o : Ordering) (k : ℕ) (v : GenericRow) (e : ℕ × GenericRow) (es more : List (ℕ × GenericRow)) → generic_ready v ≡ true → Ready (e ∷ es) → Ready more
    → Ready (by_order o ((k, v) ∷ e ∷ es) ((e.0, v) ∷ es) (e ∷ more))
ordered_ready Less k v e es more is all after = and_true (generic_ready v) _ is all
ordered_ready Equal k v e es more is all after =
    and_true (generic_ready v) _ is (both_true (generic_ready e.1) (list_all (λ (x : ℕ × GenericRow). generic_ready x.1) es) all).1
ordered_ready Greater k v e es more is all after =
    and_true (generic_ready e.1) _ (both_true (generic_ready e.1) (list_all (λ (x : ℕ × GenericRow). generic_ready x.1) es) all).0 after

put_ready : (es : List (ℕ × GenericRow)) (k : ℕ) (v : GenericRow) → generic_ready v ≡ true → Ready es → Ready (put nat_cmp k v es)
put_ready [] k v is all = and_true (generic_ready v) true is refl
put_ready (e ∷ es) k v is all =
    ordered_ready (nat_cmp k e.0) k v e es (put nat_cmp k v es) is all
    (put_ready es k v is (both_true (generic_ready e.1) (list_all (λ (x : ℕ × GenericRow). generic_ready x.1) es) all).1)

no_rows : (es : List (ℕ × GenericRow)) → length es ≡ 0 → Ready es
no_rows [] is = refl
no_rows (e ∷ es) is = absurd cc

-- a table of such rows
table_ready : (rows : List (ℕ × GenericRow)) → Ready rows → Ready (entries (from_entries {R = nat_cmp} rows))
table_ready [] all = no_rows _ (sym (len-entries (from_entries {R = nat_cmp} [])) ∙ len-empty nat_cmp GenericRow)
table_ready (e ∷ rows) all =
    let h = both_true (generic_ready e.1) (list_all (λ (x : ℕ × GenericRow). generic_ready x.1) rows) all in
    let table = from_entries {R = nat_cmp} rows in
    subst Ready (sym (entries-insert nat_cmp_total table e.0 e.1)) (put_ready (entries table) e.0 e.1 h.0 (table_ready rows h.1))

rows_ready : (es : List (ℕ × GenericRow)) → Ready es → list_all generic_ready (map (λ (e : ℕ × GenericRow). e.1) es) ≡ true
rows_ready [] all = refl
rows_ready (e ∷ es) all =
    let h = both_true (generic_ready e.1) (list_all (λ (x : ℕ × GenericRow). generic_ready x.1) es) all in
    and_true (generic_ready e.1) _ h.0 (rows_ready es h.1)

behind : (some more : List Offer) → AreReady some → AreReady more → AreReady (some ++ more)
behind [] more h g = g
behind (offer ∷ some) more h g =
    let p = both_true (generic_ready offer.1) (list_all (λ (o : Offer). generic_ready o.1) some) h in
    and_true (generic_ready offer.1) _ p.0 (behind some more p.1 g)

-- those that forms define, by their rows
zip_ready : (names : List Token) (defined : List GenericRow) → list_all generic_ready defined ≡ true → AreReady (zip names defined)
zip_ready [] defined all = refl
zip_ready (name ∷ names) [] all = refl
zip_ready (name ∷ names) (row ∷ defined) all =
    let h = both_true (generic_ready row) (list_all generic_ready defined) all in
    and_true (generic_ready row) _ h.0 (zip_ready names defined h.1)

-- those that methods make
keyless : (name : List ℕ) (count : ℕ) (rest keys : Bool) → not keys ≡ true → generic_ready (plain_generic name count rest keys) ≡ true
keyless name count rest true is = untrue is
keyless name count rest false is = refl

method_ready : (name : Token) (code : CoreLambda) → is_lambda_plain code ≡ true → generic_ready (made_by_method name code).1 ≡ true
method_ready name (lambda params defaults inner results) is =
    let h = both_true (takes_plainly params) (is_plain inner) is in
    let g = both_true (not (is_some params.next)) (not (is_some params.keys) && not params.all_keys) h.0 in
    keyless (folded name.text) (length params.required) (is_some params.rest) (is_some params.keys)
    (both_true (not (is_some params.keys)) (not params.all_keys) g.1).0

made_ready : (draft : CoreDraft) → is_form_plain draft ≡ true → AreReady (made_by draft)
made_ready (class_row class) is = untrue is
made_ready (generic_row generic) is = refl
made_ready (method_row method) is =
    let h = both_true (is_usual method.next) (is_lambda_plain method.code) is in
    and_true (generic_ready (made_by_method method.generic method.code).1) true (method_ready method.generic method.code h.1) refl
made_ready (domain_row domain) is = refl
made_ready (variable_row variable) is = refl
made_ready (top_term top) is = refl

all_made_ready : (drafts : List CoreDraft) → list_all is_form_plain drafts ≡ true → AreReady (flat_map made_by drafts)
all_made_ready [] are = refl
all_made_ready (draft ∷ drafts) are =
    let h = both_true (is_form_plain draft) (list_all is_form_plain drafts) are in
    behind (made_by draft) (flat_map made_by drafts) (made_ready draft h.0) (all_made_ready drafts h.1)

number_ready : (number : Option ℕ) (row : GenericRow) (rest : List (ℕ × GenericRow)) → generic_ready row ≡ true → Ready rest → Ready (with_number number row ++ rest)
number_ready None row rest is all = all
number_ready (Some number) row rest is all = and_true (generic_ready row) _ is all

numbers_ready : (library : ℕ) (owner : Table) (found : List Offer) → AreReady found → Ready (numbered library owner found)
numbers_ready library owner [] all = refl
numbers_ready library owner (offer ∷ found) all =
    let h = both_true (generic_ready offer.1) (list_all (λ (o : Offer). generic_ready o.1) found) all in
    number_ready (number_in library (owner offer.0)) offer.1 (numbered library owner found) h.0 (numbers_ready library owner found h.1)

pub generics_ready : (library : ℕ) (owner : Table) (drafts : List CoreDraft) (defined : List GenericRow) → list_all is_form_plain drafts ≡ true
    → list_all generic_ready defined ≡ true → list_all generic_ready (generics_of library owner drafts defined) ≡ true
generics_ready library owner drafts defined are all =
    let found = offers drafts defined in
    let ready = behind (zip (flat_map defined_by drafts) defined) (flat_map made_by drafts) (zip_ready (flat_map defined_by drafts) defined all) (all_made_ready drafts are) in
    let table = from_entries {R = nat_cmp} (numbered library owner found) in
    rows_ready (entries table) (table_ready (numbered library owner found) (numbers_ready library owner found ready))
