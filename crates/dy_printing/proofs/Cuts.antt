-- Texts that are cut at the end of the units.
use Rattle.std.proofs.Common.{◌≡◌, ℕ, suc, Bool, true, false, List, ◌++◌, codes, sym, ap, ◌∙◌, append_assoc, append-nil}
use Rattle.dy_term.specs.declared.rows.Program.{Program}
use Rattle.dy_term.specs.declared.types.DyType.{DyType}
use Rattle.dy_values.specs.declared.value.Variant.{Variant}
use Rattle.dy_values.specs.declared.store.Store.{Store}
use Rattle.dy_values.specs.declared.error.ErrorRow.{ErrorRow}
use Rattle.dy_values.specs.declared.error.ErrorRow.TheVariants.{WrongType}
use Rattle.dy_printing.specs.Printing.{Printed, Text, Spent, after_text, and_print, costing, printed_within, behind}
use Rattle.dy_printing.specs.Unhandled.{type_text, error_printed, cut_text}
use Rattle.dy_printing.proofs.Printed.{false_true, behind_all, behind_after}

pub cut_all : (old new : List ℕ) (p : Printed) (units : ℕ) → behind old p ≡ (true, new, units) → new ≡ old ++ cut_text p
cut_all old new (Text text n) units e = sym (ap (λ (x : Bool × List ℕ × ℕ). x.1) e)
cut_all old new (Spent text) units e = absurd (false_true (ap (λ (x : Bool × List ℕ × ℕ). x.0) e))

pub cut_spent : (old mid : List ℕ) (p : Printed) (units : ℕ) → behind old p ≡ (false, mid, units) → mid ++ codes "..." ≡ old ++ cut_text p
cut_spent old mid (Text text n) units e = absurd (false_true (sym (ap (λ (x : Bool × List ℕ × ℕ). x.0) e)))
cut_spent old mid (Spent text) units e =
    ap (λ (m : List ℕ). m ++ codes "...") (sym (ap (λ (x : Bool × List ℕ × ℕ). x.1) e)) ∙ append_assoc old text (codes "...")

pub ruleset cuts = (cut_all, cut_spent)

-- the first unit that is wanted is left, and what is printed then
paid : (old : List ℕ) (units left : ℕ) (go : ℕ → Printed) → units ≡ suc left → behind old (costing units go) ≡ behind old (go left)
paid old units left go is = ap (λ (n : ℕ). behind old (costing n go)) is

-- the unit for a type is wanted, and none is left
pub type_unpaid : (program : Program) (store : Store) (error : ErrorRow) (value : Variant) (type : DyType) (old mid new : List ℕ) (units n left end : ℕ)
    → error ≡ WrongType value type → units ≡ suc n → behind old (printed_within program store 99 true value n) ≡ (true, mid, left) → new ≡ mid ++ codes " is not of type " → left ≡ 0 → end ≡ 0
    → behind old (error_printed program store error units) ≡ (false, new, end)
type_unpaid program store error value type old mid new units n left end is more printed last none ends =
    let last_unit : ℕ → Printed = λ m. after_text (codes " is not of type ") (costing m (Text (type_text program type.members))) in
    ap (λ (e : ErrorRow). behind old (error_printed program store e units)) is
    ∙ paid old units n (λ m. and_print (printed_within program store 99 true value m) last_unit) more
    ∙ behind_all old mid (printed_within program store 99 true value n) last_unit left printed
    ∙ behind_after mid (codes " is not of type ") (costing left (Text (type_text program type.members)))
    ∙ ap (λ (m : ℕ). behind (mid ++ codes " is not of type ") (costing m (Text (type_text program type.members)))) none
    ∙ ap (λ (t : List ℕ). (false, t, 0)) (append-nil (mid ++ codes " is not of type ") ∙ sym last)
    ∙ ap (λ (m : ℕ). (false, new, m)) (sym ends)

-- all of the text of a wrong type is printed
pub type_paid : (program : Program) (store : Store) (error : ErrorRow) (value : Variant) (type : DyType) (old mid new : List ℕ) (units n left end : ℕ)
    → error ≡ WrongType value type → units ≡ suc n → behind old (printed_within program store 99 true value n) ≡ (true, mid, left)
    → new ≡ (mid ++ codes " is not of type ") ++ type_text program type.members → left ≡ suc end
    → behind old (error_printed program store error units) ≡ (true, new, end)
type_paid program store error value type old mid new units n left end is more printed last paid_for =
    let last_unit : ℕ → Printed = λ m. after_text (codes " is not of type ") (costing m (Text (type_text program type.members))) in
    ap (λ (e : ErrorRow). behind old (error_printed program store e units)) is
    ∙ paid old units n (λ m. and_print (printed_within program store 99 true value m) last_unit) more
    ∙ behind_all old mid (printed_within program store 99 true value n) last_unit left printed
    ∙ behind_after mid (codes " is not of type ") (costing left (Text (type_text program type.members)))
    ∙ paid (mid ++ codes " is not of type ") left end (Text (type_text program type.members)) paid_for
    ∙ ap (λ (t : List ℕ). (true, t, end)) (sym last)
