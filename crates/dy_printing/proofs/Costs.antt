-- What printing costs.
use Rattle.std.proofs.Common.{◌≡◌, ℕ, zero, suc, ◌+◌, ◌≤◌, Bool, true, false, List, [], ◌∷◌, codes, cond, refl, sym, ap, ◌∙◌, subst, arith}
use Rattle.std.proofs.lemmas.Grind.{common_steps}
use Rattle.std.specs.declared.option.Option.{Option}
use Rattle.std.specs.declared.option.Option.TheVariants.{None, Some}
use Rattle.dy_term.specs.declared.rows.Program.{Program}
use Rattle.dy_values.specs.declared.value.Variant.{Variant}
use Rattle.dy_values.specs.declared.value.Variant.TheVariants as variants
use Rattle.dy_values.specs.declared.store.Store.{Store}
use Rattle.dy_values.specs.declared.error.ErrorRow.{ErrorRow}
use Rattle.dy_printing.specs.declared.formatting.Directive.{Directive}
use Rattle.dy_printing.specs.declared.formatting.Directive.TheVariants.{Integer, Character, Any, Unknown}
use Rattle.dy_printing.specs.declared.formatting.Part.{Part}
use Rattle.dy_printing.specs.declared.formatting.Part.TheVariants.{Byte, Field}
use Rattle.dy_printing.specs.Printing.{Printed, Text, Spent, Element, after_text, and_print, costing, text_of, behind_commas, vector_printed, is_nil, next_printed, rest_within, list_printed, held_printed, inside, printed_within, printed}
use Rattle.dy_values.specs.Objects.{pair_at, vector_at}
use Rattle.dy_printing.specs.Formatting.{misfit, or_else, first_error, numeral, field, filled, fields}

-- of these units so many are spent at least where all is printed
abbrev pub Costs : ℕ → ℕ → Printed → Type 0
Costs cost units (Text text left) = cost + left ≤ units
Costs cost units (Spent text) = Unit {0}

-- what follows costs more, where fewer units are left
then_more : (cost first more units left : ℕ) (p : Printed) → cost ≡ first + more → first + left ≤ units → Costs more left p → Costs cost units p
then_more cost first more units left (Text text n) is le h = omega (arith, is, le, h)
then_more cost first more units left (Spent text) is le h = tt

front_costs : (cost units : ℕ) (text : List ℕ) (p : Printed) → Costs cost units p → Costs cost units (after_text text p)
front_costs cost units text (Text rest left) h = h
front_costs cost units text (Spent rest) h = tt

-- one after the other
then_costs : (cost first more units : ℕ) (p : Printed) (go : ℕ → Printed) → cost ≡ first + more → Costs first units p → ((n : ℕ) → Costs more n (go n)) → Costs cost units (and_print p go)
then_costs cost first more units (Text text n) go is h k = front_costs cost units text (go n) (then_more cost first more units n (go n) is h (k n))
then_costs cost first more units (Spent text) go is h k = tt

text_costs : (text : List ℕ) (units : ℕ) → Costs 0 units (Text text units)
text_costs text units = omega arith

costing_costs : (units : ℕ) (go : ℕ → Printed) → ((n : ℕ) → Costs 0 n (go n)) → Costs 1 units (costing units go)
costing_costs zero go h = tt
costing_costs (suc units) go h = then_more 1 1 0 (suc units) units (go units) refl (omega arith) (h units)

module _ (element : Element) (costs : (value : Variant) (units : ℕ) → Costs 0 units (element value units)) where
  -- an element, and what follows it
  item_costs : (value : Variant) (go : ℕ → Printed) (units : ℕ) → ((n : ℕ) → Costs 0 n (go n)) → Costs 0 units (and_print (element value units) go)
  item_costs value go units h = then_costs 0 0 0 units (element value units) go refl (costs value units) h

  behind_costs : (close : List ℕ) (values : List Variant) (units : ℕ) → Costs 0 units (behind_commas element close values units)
  behind_costs close [] units = text_costs close units
  behind_costs close (value ∷ values) units = front_costs 0 units (codes ", ") _ (item_costs value (behind_commas element close values) units (behind_costs close values))

  vector_costs : (values : List Variant) (units : ℕ) → Costs 0 units (vector_printed element values units)
  vector_costs [] units = front_costs 0 units (codes "#[") (Text (codes "]") units) (text_costs (codes "]") units)
  vector_costs (value ∷ values) units = front_costs 0 units (codes "#[") _ (item_costs value (behind_commas element (codes "]") values) units (behind_costs (codes "]") values))

  end_cases : (is_end : Bool) (value : Variant) (units : ℕ) → Costs 0 units (cond is_end (Text (codes ")") units) (after_text (codes " . ") (and_print (element value units) (Text (codes ")")))))
  end_cases true value units = text_costs (codes ")") units
  end_cases false value units = front_costs 0 units (codes " . ") _ (item_costs value (Text (codes ")")) units (text_costs (codes ")")))

  next_costs : (pair : Option (Variant × Variant)) (rest : Variant) (units : ℕ) (go : Element) → ((value : Variant) (n : ℕ) → Costs 0 n (go value n)) → Costs 0 units (next_printed element pair rest units go)
  next_costs (Some pair) rest units go h = front_costs 0 units (codes ", ") _ (item_costs pair.0 (go pair.1) units (h pair.1))
  next_costs None rest units go h = end_cases (is_nil rest) rest units

  rest_costs : (store : Store) (bound : ℕ) (rest : Variant) (units : ℕ) → Costs 0 units (rest_within element store bound rest units)
  rest_costs store zero rest units = tt
  rest_costs store (suc bound) rest units = next_costs (pair_at store rest) rest units (rest_within element store bound) (rest_costs store bound)

  list_costs : (store : Store) (head tail : Variant) (units : ℕ) → Costs 0 units (list_printed element store head tail units)
  list_costs store head tail units = front_costs 0 units (codes "#(") _ (item_costs head (λ n. rest_within element store (suc n) tail n) units (λ n. rest_costs store (suc n) tail n))

  held_costs : (store : Store) (items : Option (List Variant)) (pair : Option (Variant × Variant)) (text : List ℕ) (units : ℕ) → Costs 0 units (held_printed element store items pair text units)
  held_costs store (Some items) pair text units = vector_costs items units
  held_costs store None (Some pair) text units = list_costs store pair.0 pair.1 units
  held_costs store None None text units = text_costs text units

one_none : (units : ℕ) (p : Printed) → Costs 1 units p → Costs 0 units p
one_none units (Text text left) h = omega (arith, h)
one_none units (Spent text) h = tt

inside_costs : (program : Program) (store : Store) (levels : ℕ) (escaped : Bool) (value : Variant) (units : ℕ) → Costs 0 units (inside program store levels escaped value units)
inside_costs program store zero escaped value units = text_costs (codes "...") units
inside_costs program store (suc levels) escaped value units =
    held_costs (printed_within program store levels true)
    (λ v n. one_none n (printed_within program store levels true v n) (costing_costs n (inside program store levels true v) (inside_costs program store levels true v)))
    store (vector_at store value) (pair_at store value) (text_of program store escaped value) units

pub within_costs : (program : Program) (store : Store) (levels : ℕ) (escaped : Bool) (value : Variant) (units : ℕ) → Costs 1 units (printed_within program store levels escaped value units)
within_costs program store levels escaped value units = costing_costs units (inside program store levels escaped value) (inside_costs program store levels escaped value)

told : (cost units : ℕ) (p : Printed) (text : List ℕ) (left : ℕ) → p ≡ Text text left → Costs cost units p → cost + left ≤ units
told cost units p text left e h = subst (λ (q : Printed). Costs cost units q) e h

-- a printed value costs a unit at least
pub value_costs : (program : Program) (store : Store) (escaped : Bool) (value : Variant) (units : ℕ) (text : List ℕ) (left : ℕ) → printed program store escaped value units ≡ Text text left → 1 + left ≤ units
value_costs program store escaped value units text left e = told 1 units _ text left e (within_costs program store 100 escaped value units)

plain_costs : (units : ℕ) (shown text : List ℕ) (left : ℕ) → costing units (Text shown) ≡ Text text left → units ≡ 1 + left
plain_costs zero shown text left e = grind (arith, common_steps)
plain_costs (suc units) shown text left e = grind (arith, common_steps)

-- a value that holds no others costs one
pub alone_costs : (program : Program) (store : Store) (escaped : Bool) (value : Variant) (units : ℕ) (text : List ℕ) (left : ℕ)
    → vector_at store value ≡ None → pair_at store value ≡ None → printed program store escaped value units ≡ Text text left → units ≡ 1 + left
alone_costs program store escaped value units text left no_items no_pair e =
    plain_costs units (text_of program store escaped value) text left
    (ap (λ (items : Option (List Variant)). costing units (held_printed (printed_within program store 99 true) store items None (text_of program store escaped value))) (sym no_items)
    ∙ ap (λ (pair : Option (Variant × Variant)). costing units (held_printed (printed_within program store 99 true) store (vector_at store value) pair (text_of program store escaped value))) (sym no_pair)
    ∙ e)

-- an argument that a directive takes
field_costs : (program : Program) (store : Store) (directive : Directive) (value : Variant) (units : ℕ) → Costs 1 units (field program store directive value units)
field_costs program store (Integer base) (variants.Int number) units = costing_costs units (Text (numeral base number)) (text_costs (numeral base number))
field_costs program store (Integer base) (variants.Char code) units = within_costs program store 100 false (variants.Char code) units
field_costs program store (Integer base) (variants.Bool truth) units = within_costs program store 100 false (variants.Bool truth) units
field_costs program store (Integer base) (variants.Symbol place) units = within_costs program store 100 false (variants.Symbol place) units
field_costs program store (Integer base) variants.Nil units = within_costs program store 100 false variants.Nil units
field_costs program store (Integer base) (variants.Class class) units = within_costs program store 100 false (variants.Class class) units
field_costs program store (Integer base) (variants.TypeValue place) units = within_costs program store 100 false (variants.TypeValue place) units
field_costs program store (Integer base) (variants.Generic generic) units = within_costs program store 100 false (variants.Generic generic) units
field_costs program store (Integer base) (variants.Function named) units = within_costs program store 100 false (variants.Function named) units
field_costs program store (Integer base) (variants.Builtin number) units = within_costs program store 100 false (variants.Builtin number) units
field_costs program store (Integer base) (variants.Object place) units = within_costs program store 100 false (variants.Object place) units
field_costs program store Character value units = within_costs program store 100 false value units
field_costs program store (Any escaped) value units = within_costs program store 100 escaped value units
field_costs program store Unknown value units = within_costs program store 100 false value units

else_none : (error other : Option ErrorRow) → or_else error other ≡ None → other ≡ None
else_none None other e = e
else_none (Some error) other e = grind (arith, common_steps)

some_none : (error : ErrorRow) → Some error ≡ None → ⊥
some_none error e = grind (arith, common_steps)

filled_costs : (program : Program) (store : Store) (parts : List Part) (arguments : List Variant) (units : ℕ) → first_error parts arguments ≡ None → Costs (fields parts) units (filled program store parts arguments units)
filled_costs program store [] arguments units e = text_costs [] units
filled_costs program store (Byte byte ∷ parts) arguments units e = front_costs (fields parts) units (byte ∷ []) _ (filled_costs program store parts arguments units e)
filled_costs program store (Field directive ∷ parts) [] units e = absurd (some_none _ e)
filled_costs program store (Field directive ∷ parts) (value ∷ values) units e =
    then_costs (suc (fields parts)) 1 (fields parts) units (field program store directive value units) (filled program store parts values) (omega arith)
    (field_costs program store directive value units)
    (λ n. filled_costs program store parts values n (else_none (misfit directive value) (first_error parts values) e))

-- a text without errors costs a unit for each directive at least
pub parts_cost : (program : Program) (store : Store) (parts : List Part) (arguments : List Variant) (units : ℕ) (text : List ℕ) (left : ℕ)
    → first_error parts arguments ≡ None → filled program store parts arguments units ≡ Text text left → fields parts + left ≤ units
parts_cost program store parts arguments units text left none e = told (fields parts) units _ text left e (filled_costs program store parts arguments units none)
