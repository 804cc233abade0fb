-- What a name means, by places in the list of locals.
use Rattle.std.proofs.Common.{◌≡◌, Bool, true, false, true≢false, cond, [], ◌∷◌, ◌++◌, Some, None, refl, sym, ap, ◌∙◌}
use Rattle.dy_tree.specs.declared.token.Token.{Token}
use Rattle.dy_term.specs.declared.draft.Local.{Local}
use Rattle.dy_term.specs.declared.draft.Local.TheVariants.{Named, Hidden}
use Rattle.dy_names.specs.declared.denotation.Denotation.{Denotation}
use Rattle.dy_names.specs.Naming.{is_same, Locals, Table, innermost, in_force_or, means}
use Rattle.dy_names.specs.Places.{AreOthers, IsInnermost, StaysWhereOthersAreRenamed, KeepsOrigin}
use Rattle.dy_names.proofs.Kept.{equal_parts}

split : (l : Local × Denotation) (outer : Locals) (name : Local) (b : Bool) → is_same l.0 name ≡ b → (innermost outer name ≡ None → AreOthers outer name) → cond b (Some l.1) (innermost outer name) ≡ None → (is_same l.0 name ≡ false) × AreOthers outer name
split l outer name true s more e = cc
split l outer name false s more e = (s, more e)

pub none_others : (locals : Locals) (name : Local) → innermost locals name ≡ None → AreOthers locals name
unfolding innermost
none_others [] name e = tt
none_others (l ∷ outer) name e = split l outer name (is_same l.0 name) refl (none_others outer name) e

passed : (inner locals : Locals) (name : Local) → AreOthers inner name → innermost (inner ++ locals) name ≡ innermost locals name
unfolding innermost
passed [] locals name o = refl
passed (l ∷ inner) locals name o = ap (λ b. cond b (Some l.1) (innermost (inner ++ locals) name)) o.0 ∙ passed inner locals name o.1

pub others_none : (locals : Locals) (name : Local) → AreOthers locals name → innermost locals name ≡ None
unfolding innermost
others_none [] name o = refl
others_none (l ∷ outer) name o = ap (λ b. cond b (Some l.1) (innermost outer name)) o.0 ∙ others_none outer name o.1

place : (l : Local × Denotation) (outer : Locals) (name : Local) (d : Denotation) (b : Bool) → is_same l.0 name ≡ b → (innermost outer name ≡ Some d → IsInnermost outer name d) → cond b (Some l.1) (innermost outer name) ≡ Some d → IsInnermost (l ∷ outer) name d
place l outer name d true s more e = let n : l.1 ≡ d = cc in ([], l.0, outer, (λ i. (l.0, n i) ∷ outer), s, tt)
place l outer name d false s more e = let p = more e in (l ∷ p.0, p.1, p.2, ap (λ ls. l ∷ ls) p.3, p.4, (s, p.5))

pub found_place : (locals : Locals) (name : Local) (d : Denotation) → innermost locals name ≡ Some d → IsInnermost locals name d
unfolding innermost
found_place [] name d e = cc
found_place (l ∷ outer) name d e = place l outer name d (is_same l.0 name) refl (found_place outer name d) e

pub place_found : (locals : Locals) (name : Local) (d : Denotation) → IsInnermost locals name d → innermost locals name ≡ Some d
unfolding innermost
place_found locals name d p = ap (λ ls. innermost ls name) p.3 ∙ passed p.0 ((p.1, d) ∷ p.2) name p.5 ∙ ap (λ b. cond b (Some d) (innermost p.2 name)) p.4

other_name : (inner outer : Locals) (before after name : Local) (d : Denotation) → is_same before name ≡ false → is_same after name ≡ false → innermost (inner ++ (before, d) ∷ outer) name ≡ innermost (inner ++ (after, d) ∷ outer) name
unfolding innermost
other_name [] outer before after name d b a = λ i. cond ((b ∙ sym a) i) (Some d) (innermost outer name)
other_name (l ∷ inner) outer before after name d b a = ap (cond (is_same l.0 name) (Some l.1)) (other_name inner outer before after name d b a)

pub stays : (table : Table) → StaysWhereOthersAreRenamed table
unfolding means
stays table inner outer before after name d b a = ap (λ o. in_force_or o (table name)) (other_name inner outer before after (Named name) d b a)

-- what is the same as a name is a name of its origin and its text
named : (l : Local) (name : Token) → is_same l (Named name) ≡ true → (t : Token) × (l ≡ Named t) × (t.origin ≡ name.origin) × (t.text ≡ name.text)
named (Named t) name e = let q = equal_parts t.origin name.origin t.text name.text e in (t, refl, q.0, q.1)
named (Hidden n) name e = absurd (true≢false (sym e))

pub keeps_origin : KeepsOrigin
keeps_origin locals name d e =
    let p = found_place locals (Named name) d e in
    let q = named p.1 name p.4 in
    (p.0, q.0, p.2, p.3 ∙ ap (λ (l : Local). p.0 ++ (l, d) ∷ p.2) q.1, q.2, q.3)
