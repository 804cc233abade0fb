-- Calls that print one after the other.
use Rattle.std.proofs.Common.{◌≡◌, ℕ, zero, suc, ◌<◌, Bool, true, false, true≢false, List, [], ◌∷◌, ◌++◌, codes, refl, sym, ap, ◌∙◌, append_assoc, arith}
use Rattle.std.specs.declared.option.Option.{Option}
use Rattle.std.specs.declared.option.Option.TheVariants.{None, Some}
use Rattle.dy_term.specs.declared.rows.Program.{Program}
use Rattle.dy_values.specs.declared.value.Variant.{Variant}
use Rattle.dy_values.specs.declared.store.Store.{Store}
use Rattle.dy_printing.specs.Printing.{Printed, Text, Spent, Element, after_text, and_print, costing, text_of, behind_commas, vector_printed, list_printed, end_printed, next_printed, rest_within, rest_printed, held_printed, inside, printed_within, behind}
use Rattle.dy_values.specs.Objects.{pair_at, vector_at}
use Rattle.dy_printing.proofs.Costs.{Costs, within_costs}

pub false_true : false ≡ true → ⊥
false_true e = true≢false (sym e)

-- a text in front was written before
pub behind_after : (old text : List ℕ) (p : Printed) → behind old (after_text text p) ≡ behind (old ++ text) p
behind_after old text (Text rest units) = ap (λ (t : List ℕ). (true, t, units)) (sym (append_assoc old text rest))
behind_after old text (Spent rest) = ap (λ (t : List ℕ). (false, t, 0)) (sym (append_assoc old text rest))

-- what is printed behind something whose text is all there
pub behind_all : (old mid : List ℕ) (p : Printed) (go : ℕ → Printed) (units : ℕ) → behind old p ≡ (true, mid, units) → behind old (and_print p go) ≡ behind mid (go units)
behind_all old mid (Text text n) go units e =
    behind_after old text (go n)
    ∙ ap (λ (t : Bool × List ℕ × ℕ). behind t.1 (go t.2)) e
behind_all old mid (Spent text) go units e = absurd (false_true (ap (λ (t : Bool × List ℕ × ℕ). t.0) e))

-- nothing is printed behind something that came to the end of the units
pub behind_spent : (old mid : List ℕ) (p : Printed) (go : ℕ → Printed) (units : ℕ) → behind old p ≡ (false, mid, units) → behind old (and_print p go) ≡ (false, mid, units)
behind_spent old mid (Text text n) go units e = absurd (false_true (sym (ap (λ (t : Bool × List ℕ × ℕ). t.0) e)))
behind_spent old mid (Spent text) go units e = e

-- a text in front, and then something whose text is all there
pub front_all : (old text mid : List ℕ) (p : Printed) (go : ℕ → Printed) (units : ℕ) → behind (old ++ text) p ≡ (true, mid, units) → behind old (after_text text (and_print p go)) ≡ behind mid (go units)
front_all old text mid p go units e = behind_after old text (and_print p go) ∙ behind_all (old ++ text) mid p go units e

-- a text in front, and then something that came to the end of the units
pub front_spent : (old text mid : List ℕ) (p : Printed) (go : ℕ → Printed) (units : ℕ) → behind (old ++ text) p ≡ (false, mid, units) → behind old (after_text text (and_print p go)) ≡ (false, mid, units)
front_spent old text mid p go units e = behind_after old text (and_print p go) ∙ behind_spent (old ++ text) mid p go units e

pub ruleset prints = (behind_after, behind_all, behind_spent, front_all, front_spent)

-- all of a text is printed behind nothing
pub all_there : (p : Printed) (text : List ℕ) (units : ℕ) → behind [] p ≡ (true, text, units) → p ≡ Text text units
all_there (Text t n) text units e = ap (λ (x : Bool × List ℕ × ℕ). Text x.1 x.2) e
all_there (Spent t) text units e = absurd (false_true (ap (λ (x : Bool × List ℕ × ℕ). x.0) e))

-- the units end, and none is left
pub spent_there : (p : Printed) (text : List ℕ) (units : ℕ) → behind [] p ≡ (false, text, units) → p ≡ Spent text
spent_there (Text t n) text units e = absurd (false_true (sym (ap (λ (x : Bool × List ℕ × ℕ). x.0) e)))
spent_there (Spent t) text units e = ap (λ (x : Bool × List ℕ × ℕ). Spent x.1) e

pub none_left : (p : Printed) (text : List ℕ) (units : ℕ) → behind [] p ≡ (false, text, units) → units ≡ 0
none_left (Text t n) text units e = absurd (false_true (sym (ap (λ (x : Bool × List ℕ × ℕ). x.0) e)))
none_left (Spent t) text units e = sym (ap (λ (x : Bool × List ℕ × ℕ). x.2) e)

pub ruleset theres = (all_there, spent_there, none_left)

-- what is printed behind nothing stands behind other bytes too
pub rebase : (old text : List ℕ) (p : Printed) (done : Bool) (units : ℕ) → behind [] p ≡ (done, text, units) → behind old p ≡ (done, old ++ text, units)
rebase old text (Text t n) done units e = ap (λ (x : Bool × List ℕ × ℕ). (x.0, old ++ x.1, x.2)) e
rebase old text (Spent t) done units e = ap (λ (x : Bool × List ℕ × ℕ). (x.0, old ++ x.1, x.2)) e

-- where a unit is left
pub costing_more : (units left : ℕ) (go : ℕ → Printed) → units ≡ suc left → costing units go ≡ go left
costing_more units left go e = ap (λ (n : ℕ). costing n go) e

-- where levels are left
pub inside_more : (program : Program) (store : Store) (levels inner : ℕ) (escaped : Bool) (value : Variant) (units : ℕ) → levels ≡ suc inner
    → inside program store levels escaped value units ≡ held_printed (printed_within program store inner true) store (vector_at store value) (pair_at store value) (text_of program store escaped value) units
inside_more program store levels inner escaped value units e = ap (λ (l : ℕ). inside program store l escaped value units) e

-- a vector
pub inside_vector : (program : Program) (store : Store) (levels inner : ℕ) (escaped : Bool) (value : Variant) (items : List Variant) (units : ℕ) → levels ≡ suc inner → vector_at store value ≡ Some items
    → inside program store levels escaped value units ≡ vector_printed (printed_within program store inner true) items units
inside_vector program store levels inner escaped value items units e is =
    inside_more program store levels inner escaped value units e
    ∙ ap (λ (o : Option (List Variant)). held_printed (printed_within program store inner true) store o (pair_at store value) (text_of program store escaped value) units) is

-- a pair
pub inside_list : (program : Program) (store : Store) (levels inner : ℕ) (escaped : Bool) (value head tail : Variant) (units : ℕ) → levels ≡ suc inner → vector_at store value ≡ None → pair_at store value ≡ Some (head, tail)
    → inside program store levels escaped value units ≡ list_printed (printed_within program store inner true) store head tail units
inside_list program store levels inner escaped value head tail units e none is =
    inside_more program store levels inner escaped value units e
    ∙ ap (λ (o : Option (List Variant)). held_printed (printed_within program store inner true) store o (pair_at store value) (text_of program store escaped value) units) none
    ∙ ap (λ (o : Option (Variant × Variant)). held_printed (printed_within program store inner true) store None o (text_of program store escaped value) units) is

pub ruleset insides = (inside_more, behind_after)

-- an element behind a comma
pub commas_all : (element : Element) (close old mid : List ℕ) (value : Variant) (values more : List Variant) (units left : ℕ) → more ≡ value ∷ values → behind (old ++ codes ", ") (element value units) ≡ (true, mid, left)
    → behind old (behind_commas element close more units) ≡ behind mid (behind_commas element close values left)
commas_all element close old mid value values more units left is e =
    ap (λ (m : List Variant). behind old (behind_commas element close m units)) is
    ∙ front_all old (codes ", ") mid (element value units) (behind_commas element close values) left e

pub commas_spent : (element : Element) (close old mid : List ℕ) (value : Variant) (values more : List Variant) (units left : ℕ) → more ≡ value ∷ values → behind (old ++ codes ", ") (element value units) ≡ (false, mid, left)
    → behind old (behind_commas element close more units) ≡ (false, mid, left)
commas_spent element close old mid value values more units left is e =
    ap (λ (m : List Variant). behind old (behind_commas element close m units)) is
    ∙ front_spent old (codes ", ") mid (element value units) (behind_commas element close values) left e

-- what follows is the same wherever fewer units are left
alike_then : (p : Printed) (units : ℕ) (go on : ℕ → Printed) → Costs 1 units p → ((n : ℕ) → n < units → go n ≡ on n) → and_print p go ≡ and_print p on
alike_then (Text text n) units go on cost h = ap (after_text text) (h n (omega (arith, cost)))
alike_then (Spent text) units go on cost h = refl

module _ (element : Element) (costs : (value : Variant) (units : ℕ) → Costs 1 units (element value units)) (store : Store) where
  alike_next : (pair : Option (Variant × Variant)) (rest : Variant) (units : ℕ) (go on : Element) → ((value : Variant) (n : ℕ) → n < units → go value n ≡ on value n)
      → next_printed element pair rest units go ≡ next_printed element pair rest units on
  alike_next None rest units go on h = refl
  alike_next (Some pair) rest units go on h = ap (after_text (codes ", ")) (alike_then (element pair.0 units) units (go pair.1) (on pair.1) (costs pair.0 units) (h pair.1))

  -- every bound above the units does as well
  alike : (b c : ℕ) (rest : Variant) (units : ℕ) → units < b → units < c → rest_within element store b rest units ≡ rest_within element store c rest units
  alike zero c rest units h k = absurd (omega (arith, h))
  alike (suc b) zero rest units h k = absurd (omega (arith, k))
  alike (suc b) (suc c) rest units h k =
      alike_next (pair_at store rest) rest units (rest_within element store b) (rest_within element store c)
      (λ value n less. alike b c value n (omega (arith, h, less)) (omega (arith, k, less)))

  next_rest : (rest : Variant) (pair : Variant × Variant) (units : ℕ) → pair_at store rest ≡ Some pair
      → rest_printed element store rest units ≡ after_text (codes ", ") (and_print (element pair.0 units) (rest_printed element store pair.1))
  next_rest rest pair units is =
      ap (λ (o : Option (Variant × Variant)). next_printed element o rest units (rest_within element store units)) is
      ∙ ap (after_text (codes ", ")) (alike_then (element pair.0 units) units (rest_within element store units pair.1) (rest_printed element store pair.1) (costs pair.0 units)
      (λ n less. alike units (suc n) pair.1 n less (omega arith)))

-- the rest of a list that begins with a pair
pub rest_next : (program : Program) (store : Store) (levels : ℕ) (rest head tail : Variant) (units : ℕ) → pair_at store rest ≡ Some (head, tail)
    → rest_printed (printed_within program store levels true) store rest units
    ≡ after_text (codes ", ") (and_print (printed_within program store levels true head units) (rest_printed (printed_within program store levels true) store tail))
rest_next program store levels rest head tail units is =
    next_rest (printed_within program store levels true) (within_costs program store levels true) store rest (head, tail) units is

-- and its first element behind a comma
pub rest_all : (program : Program) (store : Store) (levels : ℕ) (old mid : List ℕ) (rest head tail : Variant) (units left : ℕ) → pair_at store rest ≡ Some (head, tail)
    → behind (old ++ codes ", ") (printed_within program store levels true head units) ≡ (true, mid, left)
    → behind old (rest_printed (printed_within program store levels true) store rest units) ≡ behind mid (rest_printed (printed_within program store levels true) store tail left)
rest_all program store levels old mid rest head tail units left is e =
    ap (behind old) (rest_next program store levels rest head tail units is)
    ∙ front_all old (codes ", ") mid (printed_within program store levels true head units) (rest_printed (printed_within program store levels true) store tail) left e

-- and of one that does not
pub rest_end : (element : Element) (store : Store) (rest : Variant) (units : ℕ) → pair_at store rest ≡ None → rest_printed element store rest units ≡ end_printed element rest units
rest_end element store rest units is = ap (λ (o : Option (Variant × Variant)). next_printed element o rest units (rest_within element store units)) is

pub ruleset rests = (rest_next, rest_end, behind_after, behind_all, behind_spent, front_all, front_spent)
