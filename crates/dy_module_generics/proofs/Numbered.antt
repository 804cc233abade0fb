-- Each number of a generic function of a library is what a name means by its definition.
use Rattle.std.proofs.Common.{◌≡◌, ℕ, ◌+◌, ◌<◌, ◌≤◌, Bool, true, false, true≢false, not, ◌&&◌, ◌||◌, cond, List, [], ◌∷◌, ◌++◌, Option, Some, None, option_map, find, append_assoc, refl, sym, ap, ◌∙◌, subst, arith}
use Rattle.std.specs.Prelude.{nat_lt, is_some}
use Rattle.std.specs.List.{list_any}
use Rattle.std.proofs.lemmas.List.Folds.{list_any-append}
use Rattle.dy_base.specs.Folding.{folded}
use Rattle.dy_base.specs.declared.ids.BindingId.{BindingId}
use Rattle.dy_base.specs.declared.ids.What.{What}
use Rattle.dy_base.specs.declared.ids.What.TheVariants as whats
use Rattle.dy_base.specs.declared.fault.Fault.{Fault}
use Rattle.dy_tree.specs.declared.words.Word.{Word}
use Rattle.dy_code.specs.Validity.{Every}
use Rattle.dy_modules.specs.declared.owner.Owner.{Owner}
use Rattle.dy_modules.specs.declared.owner.Owner.TheVariants.{Outside, Own}
use Rattle.dy_modules.proofs.Says.{both_true, and_true, owner_same}
use Rattle.dy_definitions.specs.declared.meanings.RowCounts.{RowCounts}
use Rattle.dy_definitions.specs.declared.definitions.Role.{Role}
use Rattle.dy_definitions.specs.declared.definitions.Role.TheVariants.{Makes, Adds}
use Rattle.dy_definitions.specs.declared.definitions.Definition.{Definition}
use Rattle.dy_definitions.specs.Names.{is_generic, is_owned, is_of, is_placed, is_form, is_leading, is_method, is_generic_name, what_made, what_is, first_made, is_function, has_form, makes_generic, may_give, gives}
use Rattle.dy_definitions.specs.Means.{is_first, has_row, with_rows, next_row, one_more, no_rows, row_id, first_row, meanings_of}
use Rattle.dy_definitions.specs.Redefined.{go_together, clashes, is_misplaced, is_word, is_redefined, redefined, redefined_among, all_redefined}

-- how many rows there are behind these
abbrev counted : RowCounts → List Definition → RowCounts
counted rows [] = rows
counted rows (d ∷ ds) = counted (one_more (what_made d.role) rows) ds

-- how many generic functions of a library these definitions number
abbrev pub generic_count : List Definition → ℕ
generic_count ds = (counted no_rows (with_rows ds [] ds)).generics

-- the generic function of this number of a library
abbrev pub generic_id : ℕ → ℕ → BindingId
generic_id library number = record { what = whats.Generic; at = record { library = library; row = number } }

one_grows : (w : What) (rows : RowCounts) → rows.generics ≤ (one_more w rows).generics
one_grows whats.Class rows = omega arith
one_grows whats.Generic rows = omega arith
one_grows whats.Variable rows = omega arith
one_grows whats.Constant rows = omega arith
one_grows whats.Function rows = omega arith
one_grows whats.Macro rows = omega arith

all_grow : (ds : List Definition) (rows : RowCounts) → rows.generics ≤ (counted rows ds).generics
all_grow [] rows = omega arith
all_grow (d ∷ ds) rows = omega (arith, one_grows (what_made d.role) rows, all_grow ds (one_more (what_made d.role) rows))

-- only a generic function takes the next number of one
only_next : (w : What) (rows : RowCounts) (n : ℕ) → rows.generics ≤ n → n < (one_more w rows).generics → (w ≡ whats.Generic) × (rows.generics ≡ n)
only_next whats.Class rows n low high = absurd (omega (arith, low, high))
only_next whats.Generic rows n low high = (refl, omega (arith, low, high))
only_next whats.Variable rows n low high = absurd (omega (arith, low, high))
only_next whats.Constant rows n low high = absurd (omega (arith, low, high))
only_next whats.Function rows n low high = absurd (omega (arith, low, high))
only_next whats.Macro rows n low high = absurd (omega (arith, low, high))

less_of : (n m : ℕ) → nat_lt n m ≡ true → n < m
less_of n m e = grind (arith, e)

not_less : (n m : ℕ) → nat_lt n m ≡ false → m ≤ n
not_less n m e = grind (arith, e)

none_some : {A : Type 0} (x : A) → (◌≡◌ {A = Option A} None (Some x)) → ⊥
none_some x e = cc

same_Some : {A : Type 0} (x y : A) → (◌≡◌ {A = Option A} (Some x) (Some y)) → x ≡ y
same_Some x y e = cc

-- The number that a name has is below the count.
module _ (library : ℕ) (ds : List Definition) (c : ℕ) (a : List ℕ) where
  row_below : (w : What) (rows : RowCounts) (b : BindingId) → b ≡ record { what = w; at = record { library = library; row = next_row w rows } } → w ≡ whats.Generic
      → (b.at.library ≡ library) × (b.at.row < (one_more w rows).generics)
  row_below whats.Generic rows b e is = let row = ap (λ (x : BindingId). x.at.row) e in (ap (λ (x : BindingId). x.at.library) e, omega (arith, row))
  row_below whats.Class rows b e is = absurd cc
  row_below whats.Variable rows b e is = absurd cc
  row_below whats.Constant rows b e is = absurd cc
  row_below whats.Function rows b e is = absurd cc
  row_below whats.Macro rows b e is = absurd cc

  first_below : (rows : RowCounts) (list : List Definition) (b : BindingId) → first_row library ds c a rows list ≡ Some b → b.what ≡ whats.Generic
      → (b.at.library ≡ library) × (b.at.row < (counted rows list).generics)
  first_below rows [] b e is = absurd (none_some b e)
  first_below rows (d ∷ list) b e is = step (gives ds c a d) e (λ later. first_below (one_more (what_made d.role) rows) list b later is)
    where
      step : (t : Bool) → cond t (Some (row_id library rows d)) (first_row library ds c a (one_more (what_made d.role) rows) list) ≡ Some b
          → (first_row library ds c a (one_more (what_made d.role) rows) list ≡ Some b → (b.at.library ≡ library) × (b.at.row < (counted rows (d ∷ list)).generics))
          → (b.at.library ≡ library) × (b.at.row < (counted rows (d ∷ list)).generics)
      step true here later =
          let same = sym (same_Some (row_id library rows d) b here) in
          let low = row_below (what_made d.role) rows b same (sym (ap (λ (x : BindingId). x.what) same) ∙ is) in
          let less = low.1 in
          (low.0, omega (arith, less, all_grow list (one_more (what_made d.role) rows)))
      step false there later = later there

pub meaning_below : (library : ℕ) (ds : List Definition) (c : ℕ) (a : List ℕ) (b : BindingId) → meanings_of library ds c a ≡ Some b → b.what ≡ whats.Generic
    → (b.at.library ≡ library) × (b.at.row < generic_count ds)
meaning_below library ds c a b e is = first_below library ds c a no_rows (with_rows ds [] ds) b e is

-- A definition that makes a generic function gives its name that one, where no definition is one
-- too many.
or_false : (x y : Bool) → (x || y) ≡ false → (x ≡ false) × (y ≡ false)
or_false true y e = absurd (true≢false e)
or_false false y e = (refl, e)

not_false : (x : Bool) → not x ≡ false → x ≡ true
not_false true e = refl
not_false false e = absurd (true≢false e)

not_true : (x : Bool) → not x ≡ true → x ≡ false
not_true true e = absurd (true≢false (sym e))
not_true false e = refl

and_nothing : (x : Bool) → (x && false) ≡ false
and_nothing true = refl
and_nothing false = refl

some_function : (w : Option What) → is_function w ≡ true → is_some w ≡ true
some_function None e = absurd (true≢false (sym e))
some_function (Some w) e = refl

generic_is : (w : What) → w ≡ whats.Generic → is_generic w ≡ true
generic_is w e = ap is_generic e

module _ (c : ℕ) (a : List ℕ) where
  abbrev apart : Definition → Bool
  apart e = is_of c a e && not (go_together e.role (Makes whats.Generic))

  -- what goes together with one makes its name a generic function too
  together : (b : Bool) (r : Role) → b ≡ true → (b && not (go_together r (Makes whats.Generic))) ≡ false → is_generic (what_made r) ≡ true
  together true Adds is e = refl
  together true (Makes w) is e = absurd (true≢false e)
  together false r is e = absurd (true≢false (sym is))

  -- and gives it no row
  silent : (b o function form : Bool) (r : Role) → form ≡ true → (b && not (go_together r (Makes whats.Generic))) ≡ false → (b && may_give r o function form) ≡ false
  silent false o function form r is e = refl
  silent true o function form Adds is e = ap (λ x. function && not x) is ∙ and_nothing function
  silent true o function form (Makes w) is e = absurd (true≢false e)

  none_gives : (ds before : List Definition) → has_form ds c a ≡ true → list_any apart before ≡ false → list_any (gives ds c a) before ≡ false
  none_gives ds [] form e = refl
  none_gives ds (d ∷ before) form e =
      let p = or_false (apart d) (list_any apart before) e in
      ap (λ x. x || list_any (gives ds c a) before) (silent (is_of c a d) d.is_open (is_generic_name ds c a) (has_form ds c a) d.role form p.0)
      ∙ none_gives ds before form p.1

  -- of the definitions that count, the first that there is makes the name a generic function
  module _ (counts : Definition → Bool) (x : Definition) (stands : (is_of c a x && counts x) ≡ true) (makes : x.role ≡ Makes whats.Generic) (rest : List Definition) where
    abbrev found : List Definition → Option What
    found ds = option_map (λ (d : Definition). what_made d.role) (find (λ d. is_of c a d && counts d) ds)

    functions : (before : List Definition) → list_any apart before ≡ false → is_function (found (before ++ x ∷ rest)) ≡ true
    functions [] e =
        ap (λ t. is_function (option_map (λ (d : Definition). what_made d.role) (cond t (Some x) (find (λ d. is_of c a d && counts d) rest)))) stands ∙ ap (λ r. is_generic (what_made r)) makes
    functions (d ∷ before) e =
        let p = or_false (apart d) (list_any apart before) e in
        step (is_of c a d && counts d) refl p.0 (functions before p.1)
      where
        step : (t : Bool) → (is_of c a d && counts d) ≡ t → apart d ≡ false → is_function (found (before ++ x ∷ rest)) ≡ true
            → is_function (option_map (λ (e : Definition). what_made e.role) (cond t (Some d) (find (λ d. is_of c a d && counts d) (before ++ x ∷ rest)))) ≡ true
        step true is never later = together (is_of c a d) d.role (both_true (is_of c a d) (counts d) is).0 never
        step false is never later = later

  module _ (x : Definition) (placed : is_placed c a x ≡ true) (makes : x.role ≡ Makes whats.Generic) (rest : List Definition) where
    leading : is_leading c a x ≡ true
    leading =
        let p = both_true (is_of c a x) x.is_open placed in
        and_true (is_of c a x) (x.is_open || is_method x.role) p.0 (ap (λ t. t || is_method x.role) p.1)

    named : (before : List Definition) → list_any apart before ≡ false → is_generic_name (before ++ x ∷ rest) c a ≡ true
    named before e =
        let all = before ++ x ∷ rest in
        and_true (is_some (what_is all c a)) (is_function (first_made all c a))
        (some_function (what_is all c a) (functions (λ d. d.is_open) x placed makes rest before e))
        (functions (λ d. d.is_open || is_method d.role) x leading makes rest before e)

    forms : (before : List Definition) → has_form (before ++ x ∷ rest) c a ≡ true
    forms before =
        list_any-append (is_form c a) before (x ∷ rest)
        ∙ ap (λ t. list_any (is_form c a) before || (t || list_any (is_form c a) rest)) (and_true (is_placed c a x) (makes_generic x.role) placed (ap makes_generic makes))
        ∙ or_anything (list_any (is_form c a) before)
      where
        or_anything : (t : Bool) → (t || true) ≡ true
        or_anything true = refl
        or_anything false = refl

-- what is known of a definition
pub record IsSound (P : Definition → Type 0) (d : Definition) : Type 0 where
  pub tested : what_made d.role ≡ whats.Generic → P d
  pub owned : d.is_open ≡ true → (c : ℕ) × (a : List ℕ) × (d.owner ≡ Some (Own c a))

module _ (library : ℕ) (ds : List Definition) where
  -- The definition gives its name the row of this number: none of those before it gives the name one,
  -- and the name means it by the rest, which have rows from these on.
  pub record IsGiver (before : List Definition) (rows : RowCounts) (list : List Definition) (number : ℕ) (d : Definition) : Type 0 where
    pub «module» : ℕ
    pub name : List ℕ
    pub owner : d.owner ≡ Some (Own «module» name)
    pub first : list_any (gives ds «module» name) before ≡ false
    pub meant : first_row library ds «module» name rows list ≡ Some (generic_id library number)

  -- it owns its name's row
  record Owns (before : List Definition) (d : Definition) : Type 0 where
    number : ℕ
    name : List ℕ
    owner : d.owner ≡ Some (Own number name)
    first : list_any (gives ds number name) before ≡ false
    given : gives ds number name d ≡ true

  module _ (words : List Word) (before rest : List Definition) (x : Definition) (all : before ++ x ∷ rest ≡ ds) where
    first_owns : (k : Option Owner) → x.owner ≡ k → is_first ds before k x ≡ true → Owns before x
    first_owns None same e = absurd (true≢false (sym e))
    first_owns (Some (Outside id)) same e = absurd (true≢false (sym e))
    first_owns (Some (Own c a)) same e =
        let p = both_true (gives ds c a x) (not (list_any (gives ds c a) before)) e in
        record { number = c; name = a; owner = same; first = not_true (list_any (gives ds c a) before) p.1; given = p.0 }

    module _ (makes : x.role ≡ Makes whats.Generic) (is_open : x.is_open ≡ true) (c : ℕ) (a : List ℕ) (owner : x.owner ≡ Some (Own c a)) (once : clashes before x.owner x.role ≡ false) where
      of_name : is_of c a x ≡ true
      of_name = ap (λ k. is_owned k c a) owner ∙ owner_same (Own c a) (Own c a) refl

      placed : is_placed c a x ≡ true
      placed = and_true (is_of c a x) x.is_open of_name is_open

      none_apart : list_any (apart c a) before ≡ false
      none_apart = sym (λ i. clashes before (owner i) (makes i)) ∙ once

      form_there : has_form ds c a ≡ true
      form_there = subst (λ (l : List Definition). has_form l c a ≡ true) all (forms c a x placed makes rest before)

      function_there : is_generic_name ds c a ≡ true
      function_there = subst (λ (l : List Definition). is_generic_name l c a ≡ true) all (named c a x placed makes rest before none_apart)

      given_here : gives ds c a x ≡ true
      given_here = and_true (is_of c a x) (may_give x.role x.is_open (is_generic_name ds c a) (has_form ds c a)) of_name
          (ap (λ r. may_give r x.is_open (is_generic_name ds c a) (has_form ds c a)) makes ∙ and_true x.is_open (is_generic_name ds c a) is_open function_there)

      form_owns : Owns before x
      form_owns = record { number = c; name = a; owner = owner; first = none_gives c a ds before form_there none_apart; given = given_here }

    module _ (P : Definition → Type 0) (sound : IsSound P x) where
      makes_owns : x.role ≡ Makes whats.Generic → is_redefined words ds before x ≡ false → Owns before x
      makes_owns makes once =
          let p = or_false (is_misplaced (what_is ds) x x.role) (clashes before x.owner x.role) (or_false (is_word words (folded x.name.text)) (is_misplaced (what_is ds) x x.role || clashes before x.owner x.role) once).1 in
          let is_open = not_false x.is_open (sym (ap (is_misplaced (what_is ds) x) makes) ∙ p.0) in
          let k = sound.owned is_open in
          form_owns makes is_open k.0 k.1 k.2 p.1

      owns : (r : Role) → x.role ≡ r → has_row ds before x r ≡ true → what_made r ≡ whats.Generic → is_redefined words ds before x ≡ false → Owns before x
      owns Adds same has makes once = first_owns x.owner refl has
      owns (Makes w) same has makes once = makes_owns (same ∙ ap Makes makes) once

  module _ (P : Definition → Type 0) (words : List Word) where
    -- a definition among these gives a name the row of this number
    pub record HasGiver (before : List Definition) (rows : RowCounts) (list : List Definition) (number : ℕ) : Type 0 where
      pub definition : Definition
      pub tested : P definition
      pub giver : IsGiver before rows list number definition

    abbrev Goes : List Definition → RowCounts → List Definition → Type 0
    Goes before rows list = (number : ℕ) → rows.generics ≤ number → number < (counted rows list).generics → HasGiver before rows list number

    module _ (before : List Definition) (x : Definition) (rows : RowCounts) (later : List Definition) where
      abbrev more : RowCounts
      more = one_more (what_made x.role) rows

      apart_from : (c : ℕ) (a : List ℕ) → list_any (gives ds c a) (before ++ x ∷ []) ≡ false → (list_any (gives ds c a) before ≡ false) × (gives ds c a x ≡ false)
      apart_from c a e =
          let p = or_false (list_any (gives ds c a) before) (gives ds c a x || false) (sym (list_any-append (gives ds c a) before (x ∷ [])) ∙ e) in
          (p.0, (or_false (gives ds c a x) false p.1).0)

      -- behind a definition that has no row
      skips : (number : ℕ) → HasGiver (before ++ x ∷ []) rows later number → HasGiver before rows later number
      skips number h =
          let g = h.giver in
          record {
            definition = h.definition;
            tested = h.tested;
            giver = record { «module» = g.«module»; name = g.name; owner = g.owner; first = (apart_from g.«module» g.name g.first).0; meant = g.meant };
          }

      -- behind one that has one
      passes : (number : ℕ) → HasGiver (before ++ x ∷ []) more later number → HasGiver before rows (x ∷ later) number
      passes number h =
          let g = h.giver in
          let p = apart_from g.«module» g.name g.first in
          record {
            definition = h.definition;
            tested = h.tested;
            giver = record {
              «module» = g.«module»;
              name = g.name;
              owner = g.owner;
              first = p.0;
              meant = ap (λ t. cond t (Some (row_id library rows x)) (first_row library ds g.«module» g.name more later)) p.1 ∙ g.meant;
            };
          }

      -- at this one
      here : P x → Owns before x → (number : ℕ) → what_made x.role ≡ whats.Generic → rows.generics ≡ number → HasGiver before rows (x ∷ later) number
      here tested o number is at = record {
        definition = x;
        tested = tested;
        giver = record {
          «module» = o.number;
          name = o.name;
          owner = o.owner;
          first = o.first;
          meant =
              ap (λ t. cond t (Some (row_id library rows x)) (first_row library ds o.number o.name more later)) o.given
              ∙ ap (λ w. Some (record { what = w; at = record { library = library; row = next_row w rows } })) is ∙ ap (λ n. Some (generic_id library n)) at;
        };
      }

      choose : IsSound P x → (what_made x.role ≡ whats.Generic → Owns before x) → Goes (before ++ x ∷ []) more later → Goes before rows (x ∷ later)
      choose sound mine rest number low high = by_less (nat_lt number more.generics) refl
        where
          by_less : (t : Bool) → nat_lt number more.generics ≡ t → HasGiver before rows (x ∷ later) number
          by_less true less = let p = only_next (what_made x.role) rows number low (less_of number more.generics less) in here (sound.tested p.0) (mine p.0) number p.0 p.1
          by_less false less = passes number (rest number (not_less number more.generics less) high)

      by_row : (t : Bool) → IsSound P x → (t ≡ true → what_made x.role ≡ whats.Generic → Owns before x) → ((now : RowCounts) → Goes (before ++ x ∷ []) now later) → Goes before rows (cond t (x ∷ later) later)
      by_row true sound mine rest number low high = choose sound (mine refl) (rest more) number low high
      by_row false sound mine rest number low high = skips number (rest rows number low high)

    none_here : (t : Bool) (f : Fault) (fs : List Fault) → cond t (f ∷ fs) fs ≡ [] → (t ≡ false) × (fs ≡ [])
    none_here true f fs e = absurd cc
    none_here false f fs e = (refl, e)

    abbrev AreSound : List Definition → Type 0
    AreSound list = Every (IsSound P) list

    go : (rest before : List Definition) → before ++ rest ≡ ds → AreSound rest → redefined_among words ds before rest ≡ [] → (rows : RowCounts) → Goes before rows (with_rows ds before rest)
    go [] before all sound once rows number low high = absurd (omega (arith, low, high))
    go (x ∷ rest) before all sound once rows number low high =
        let later = with_rows ds (before ++ x ∷ []) rest in
        let p = none_here (is_redefined words ds before x) (redefined x) (redefined_among words ds (before ++ x ∷ []) rest) once in
        by_row before x rows later (has_row ds before x x.role) sound.0 (λ has makes. owns words before rest x all P sound.0 x.role refl has makes p.0)
        (go rest (before ++ x ∷ []) (append_assoc before (x ∷ []) rest ∙ all) sound.1 p.1) number low high

    pub all_given : AreSound ds → all_redefined words ds ≡ [] → (number : ℕ) → number < generic_count ds → HasGiver [] no_rows (with_rows ds [] ds) number
    all_given sound once number low = go ds [] refl sound once no_rows number (omega arith) low
