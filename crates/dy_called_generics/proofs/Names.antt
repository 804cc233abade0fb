-- The names of generic functions of an own library: each is one of `dylan`, or has a number of the
-- program's own library, and each number below the count of these has a name that a form defines.
use Rattle.std.proofs.Common.{◌≡◌, ◌⊎◌, inl, inr, ℕ, suc, ◌+◌, ◌<◌, ◌≤◌, Bool, true, false, ◌&&◌, cond, List, [], ◌∷◌, ◌++◌, length, map, Option, Some, None, refl, sym, ap, ◌∙◌, subst, arith}
use Rattle.std.specs.Prelude.{nat_eq, nat_lt}
use Rattle.std.specs.Str.{bytes_eq}
use Rattle.std.proofs.lemmas.List.{length-map}
use Rattle.std.proofs.lemmas.Slice.Eq.{bytes_eq-Decides}
use Rattle.dy_base.specs.declared.ids.BindingId.{BindingId}
use Rattle.dy_base.specs.declared.ids.What.{What}
use Rattle.dy_base.specs.declared.ids.What.TheVariants as whats
use Rattle.dy_tree.specs.declared.token.Token.{Token}
use Rattle.dy_term.specs.declared.rows.GenericRow.{GenericRow}
use Rattle.dy_term.specs.declared.rows.VariableRow.{VariableRow}
use Rattle.dy_term.specs.Rows.{CoreDraft}
use Rattle.dy_prims.specs.Rows.{dylan_row, io_row}
use Rattle.dy_names.specs.Naming.{Table}
use Rattle.dy_code.specs.Validity.{Every}
use Rattle.dy_lowering_whole.proofs.valid.Sameness.{both_true, and_true}
use Rattle.dy_library_rows.specs.Names.{bound, owning, exports, defined, next_row, counted, Names, with_name_by, with_name, with_names, with_forms, no_rows, names_of}
use Rattle.dy_library_rows.specs.declared.names.RowCounts.{RowCounts}

-- a name means what others of its module and text mean
abbrev IsByText : Table → Type 0
IsByText table = (a b : Token) → a.module ≡ b.module → a.text ≡ b.text → table a ≡ table b

-- a generic function of `dylan`
abbrev pub IsOfDylan : BindingId → Type 0
IsOfDylan b = (b.at.library ≡ 0) × (b.at.row < length dylan_row.generics)

-- one of so many of the library of this number
abbrev pub IsOwn : (library count : ℕ) → BindingId → Type 0
IsOwn library count b = (b.at.library ≡ library) × (b.at.row < count)

abbrev pub own : (library number : ℕ) → BindingId
own library number = record { what = whats.Generic; at = record { library = library; row = number } }

-- a name for which a test holds has this number in the library
pub record IsNamed (Test : Token → Type 0) (library : ℕ) (table : Table) (number : ℕ) : Type 0 where
  pub token : Token
  pub tested : Test token
  pub meant : table token ≡ Some (own library number)

-- what holds of the names so far
pub record AreWhole (Test : Token → Type 0) (names : Names) : Type 0 where
  pub by_text : IsByText names.0
  pub rows : (token : Token) (b : BindingId) → names.0 token ≡ Some b → b.what ≡ whats.Generic → IsOfDylan b ⊎ IsOwn 2 names.1.generics b
  pub each : (number : ℕ) → number < names.1.generics → IsNamed Test 2 names.0 number

same_Some : {A : Type 0} (x y : A) → Some x ≡ Some y → x ≡ y
same_Some x y e = cc

none_some : {A : Type 0} (x : A) → None ≡ Some x → ⊥
none_some x e = cc

not_function : (w : What) → w ≡ whats.Function → w ≡ whats.Generic → ⊥
not_function w e f = cc

-- what a table has with one more name
bound_by_text : (m : ℕ) (text : List ℕ) (owner : BindingId) (table : Table) → IsByText table → IsByText (bound m text owner table)
bound_by_text m text owner table h a b p q = λ i. cond (nat_eq m (p i) && bytes_eq text (q i)) (Some owner) (h a b p q i)

bound_is : (t : Bool) (owner b : BindingId) (other : Option BindingId) → cond t (Some owner) other ≡ Some b → (b ≡ owner) ⊎ (other ≡ Some b)
bound_is true owner b other e = inl (same_Some b owner (sym e))
bound_is false owner b other e = inr e

owning_by_text : (library : ℕ) (w : What) (row : ℕ) (texts : List (List ℕ)) (table : Table) → IsByText table → IsByText (owning library w row texts table)
owning_by_text library w row [] table h = h
owning_by_text library w row (text ∷ texts) table h = owning_by_text library w (row + 1) texts _ (bound_by_text 0 text _ table h)

-- one of the rows of a library from one on
record IsAmong (library : ℕ) (w : What) (end : ℕ) (b : BindingId) : Type 0 where
  what : b.what ≡ w
  place : b.at.library ≡ library
  low : b.at.row < end

owning_is : (library : ℕ) (w : What) (row : ℕ) (texts : List (List ℕ)) (table : Table) (token : Token) (b : BindingId) → owning library w row texts table token ≡ Some b
    → IsAmong library w (row + length texts) b ⊎ (table token ≡ Some b)
owning_is library w row [] table token b e = inr e
owning_is library w row (text ∷ texts) table token b e = step (owning_is library w (row + 1) texts (bound 0 text here table) token b e)
  where
    here : BindingId
    here = record { what = w; at = record { library = library; row = row } }

    later : (b ≡ here) ⊎ (table token ≡ Some b) → IsAmong library w (row + length (text ∷ texts)) b ⊎ (table token ≡ Some b)
    later (inl same) = inl (record {
      what = ap (λ (x : BindingId). x.what) same;
      place = ap (λ (x : BindingId). x.at.library) same;
      low = let e = ap (λ (x : BindingId). x.at.row) same in omega (arith, e);
    })
    later (inr before) = inr before

    step : IsAmong library w (row + 1 + length texts) b ⊎ (bound 0 text here table token ≡ Some b) → IsAmong library w (row + length (text ∷ texts)) b ⊎ (table token ≡ Some b)
    step (inl among) = let low = among.low in inl (record { what = among.what; place = among.place; low = omega (arith, low) })
    step (inr at) = later (bound_is (nat_eq 0 token.module && bytes_eq text token.text) here b (table token) at)

-- what the built-in libraries export
abbrev generic_names : List (List ℕ)
generic_names = map (λ (g : GenericRow). g.name) dylan_row.generics

abbrev dylan_functions : List (List ℕ)
dylan_functions = map (λ (v : VariableRow). v.name) dylan_row.variables

abbrev io_functions : List (List ℕ)
io_functions = map (λ (v : VariableRow). v.name) io_row.variables

abbrev nothing : Table
nothing = λ name. None

module _ (gs fs hs : List (List ℕ)) where
  abbrev of_generics : Table
  of_generics = owning 0 whats.Generic 0 gs nothing

  abbrev of_dylan : Table
  of_dylan = owning 0 whats.Function 0 fs of_generics

  abbrev of_both : Table
  of_both = owning 1 whats.Function 0 hs of_dylan

  generic_among : (token : Token) (b : BindingId) → of_both token ≡ Some b → b.what ≡ whats.Generic → IsAmong 0 whats.Generic (0 + length gs) b
  generic_among token b e is = outer (owning_is 1 whats.Function 0 hs of_dylan token b e)
    where
      last : IsAmong 0 whats.Generic (0 + length gs) b ⊎ (nothing token ≡ Some b) → IsAmong 0 whats.Generic (0 + length gs) b
      last (inl among) = among
      last (inr none) = absurd (none_some b none)

      inner : IsAmong 0 whats.Function (0 + length fs) b ⊎ (of_generics token ≡ Some b) → IsAmong 0 whats.Generic (0 + length gs) b
      inner (inl among) = absurd (not_function b.what among.what is)
      inner (inr at) = last (owning_is 0 whats.Generic 0 gs nothing token b at)

      outer : IsAmong 1 whats.Function (0 + length hs) b ⊎ (of_dylan token ≡ Some b) → IsAmong 0 whats.Generic (0 + length gs) b
      outer (inl among) = absurd (not_function b.what among.what is)
      outer (inr at) = inner (owning_is 0 whats.Function 0 fs of_generics token b at)

  both_by_text : IsByText of_both
  both_by_text =
      owning_by_text 1 whats.Function 0 hs of_dylan
      (owning_by_text 0 whats.Function 0 fs of_generics (owning_by_text 0 whats.Generic 0 gs nothing (λ a b p q. refl)))

exported : (token : Token) (b : BindingId) → exports token ≡ Some b → b.what ≡ whats.Generic → IsOfDylan b
exported token b e is =
    let among = generic_among generic_names dylan_functions io_functions token b e is in
    let low = among.low in
    let many = length-map dylan_row.generics (λ (g : GenericRow). g.name) in
    (among.place, omega (arith, low, many))

exports_by_text : IsByText exports
exports_by_text = both_by_text generic_names dylan_functions io_functions

eq_of : (n m : ℕ) → nat_eq n m ≡ true → n ≡ m
eq_of n m e = grind (arith, e)

eq_is : (n : ℕ) → nat_eq n n ≡ true
eq_is n = grind arith

less_of : (n m : ℕ) → nat_lt n m ≡ true → n < m
less_of n m e = grind (arith, e)

not_less : (n m : ℕ) → nat_lt n m ≡ false → m ≤ n
not_less n m e = grind (arith, e)

abbrev is_same : Token → Token → Bool
is_same a b = nat_eq a.module b.module && bytes_eq a.text b.text

-- What has a meaning keeps it.
stays : (owner : BindingId) (table : Table) (token other : Token) (b : BindingId) → IsByText table → table token ≡ None → table other ≡ Some b → bound token.module token.text owner table other ≡ Some b
stays owner table token other b same none e = step (is_same token other) refl
  where
    step : (t : Bool) → is_same token other ≡ t → cond t (Some owner) (table other) ≡ Some b
    step true f =
        let h = both_true (nat_eq token.module other.module) (bytes_eq token.text other.text) f in
        absurd (none_some b (sym none ∙ same token other (eq_of token.module other.module h.0) ((bytes_eq-Decides token.text other.text).0 h.1) ∙ e))
    step false f = e

itself : (owner : BindingId) (table : Table) (token : Token) → bound token.module token.text owner table token ≡ Some owner
itself owner table token =
    ap (λ (t : Bool). cond t (Some owner) (table token)) (and_true (nat_eq token.module token.module) (bytes_eq token.text token.text) (eq_is token.module) ((bytes_eq-Decides token.text token.text).1 refl))

module _ (Test : Token → Type 0) where
  -- the generic functions among these are names for which the test holds
  abbrev pub AreTested : List (Token × What) → Type 0
  AreTested pairs = Every (λ (pair : Token × What). pair.1 ≡ whats.Generic → Test pair.0) pairs

  kept_named : (owner : BindingId) (table : Table) (token : Token) (number : ℕ) → IsByText table → table token ≡ None → IsNamed Test 2 table number → IsNamed Test 2 (bound token.module token.text owner table) number
  kept_named owner table token number same none named = record { token = named.token; tested = named.tested; meant = stays owner table token named.token (own 2 number) same none named.meant }

  one_more : (token : Token) (names : Names) → names.0 token ≡ None → Test token → AreWhole Test names
      → AreWhole Test (bound token.module token.text (own 2 names.1.generics) names.0, counted whats.Generic names.1)
  one_more token names none tested h =
      let count = names.1.generics in
      let table = bound token.module token.text (own 2 count) names.0 in
      let row_of : (other : Token) (b : BindingId) → b.what ≡ whats.Generic → (b ≡ own 2 count) ⊎ (names.0 other ≡ Some b) → IsOfDylan b ⊎ IsOwn 2 (count + 1) b = λ other b is found. placed other b is found in
      let numbered : (number : ℕ) → number < count + 1 → IsNamed Test 2 table number = λ number low. named number low (nat_lt number count) refl in
      record {
        by_text = bound_by_text token.module token.text (own 2 count) names.0 h.by_text;
        rows = λ other b e is. row_of other b is (bound_is (is_same token other) (own 2 count) b (names.0 other) e);
        each = numbered;
      }
    where
      older : (b : BindingId) → IsOfDylan b ⊎ IsOwn 2 names.1.generics b → IsOfDylan b ⊎ IsOwn 2 (names.1.generics + 1) b
      older b (inl dylan) = inl dylan
      older b (inr own) = let low = own.1 in inr (own.0, omega (arith, low))

      placed : (other : Token) (b : BindingId) → b.what ≡ whats.Generic → (b ≡ own 2 names.1.generics) ⊎ (names.0 other ≡ Some b) → IsOfDylan b ⊎ IsOwn 2 (names.1.generics + 1) b
      placed other b is (inl same) = let row = ap (λ (x : BindingId). x.at.row) same in inr (ap (λ (x : BindingId). x.at.library) same, omega (arith, row))
      placed other b is (inr at) = older b (h.rows other b at is)

      named : (number : ℕ) → number < names.1.generics + 1 → (t : Bool) → nat_lt number names.1.generics ≡ t → IsNamed Test 2 (bound token.module token.text (own 2 names.1.generics) names.0) number
      named number low true less = kept_named (own 2 names.1.generics) names.0 token number h.by_text none (h.each number (less_of number names.1.generics less))
      named number low false less =
          let last : names.1.generics ≡ number = omega (arith, low, not_less number names.1.generics less) in
          record { token = token; tested = tested; meant = itself (own 2 names.1.generics) names.0 token ∙ ap (λ (n : ℕ). Some (own 2 n)) last }

  other_more : (token : Token) (owner : BindingId) (names : Names) (rows : RowCounts) → (owner.what ≡ whats.Generic → ⊥) → rows.generics ≡ names.1.generics → names.0 token ≡ None → AreWhole Test names
      → AreWhole Test (bound token.module token.text owner names.0, rows)
  other_more token owner names rows differs same none h = record {
    by_text = bound_by_text token.module token.text owner names.0 h.by_text;
    rows = λ other b e is. placed other b is (bound_is (is_same token other) owner b (names.0 other) e);
    each = λ number low. kept_named owner names.0 token number h.by_text none (h.each number (omega (arith, low, same)));
  }
    where
      placed : (other : Token) (b : BindingId) → b.what ≡ whats.Generic → (b ≡ owner) ⊎ (names.0 other ≡ Some b) → IsOfDylan b ⊎ IsOwn 2 rows.generics b
      placed other b is (inl e) = absurd (differs (ap (λ (x : BindingId). x.what) (sym e) ∙ is))
      placed other b is (inr at) = subst (λ (n : ℕ). IsOfDylan b ⊎ IsOwn 2 n b) (sym same) (h.rows other b at is)

  with_one : (o : Option BindingId) (token : Token) (w : What) (names : Names) → names.0 token ≡ o → (w ≡ whats.Generic → Test token) → AreWhole Test names → AreWhole Test (with_name_by o token w names)
  with_one (Some b) token w names e tested h = h
  with_one None token whats.Generic names e tested h = one_more token names e (tested refl) h
  with_one None token whats.Class names e tested h = other_more token _ names _ (λ f. absurd cc) refl e h
  with_one None token whats.Variable names e tested h = other_more token _ names _ (λ f. absurd cc) refl e h
  with_one None token whats.Constant names e tested h = other_more token _ names _ (λ f. absurd cc) refl e h
  with_one None token whats.Function names e tested h = other_more token _ names _ (λ f. absurd cc) refl e h
  with_one None token whats.Macro names e tested h = other_more token _ names _ (λ f. absurd cc) refl e h

  with_all : (pairs : List (Token × What)) (names : Names) → AreTested pairs → AreWhole Test names → AreWhole Test (with_names pairs names)
  with_all [] names all h = h
  with_all (pair ∷ pairs) names all h = with_all pairs (with_name pair names) all.1 (with_one (names.0 pair.0) pair.0 pair.1 names refl all.0 h)

  forms_whole : (forms : List CoreDraft) (names : Names) → Every (λ (form : CoreDraft). AreTested (defined form)) forms → AreWhole Test names → AreWhole Test (with_forms forms names)
  forms_whole [] names all h = h
  forms_whole (form ∷ forms) names all h = forms_whole forms (with_names (defined form) names) all.1 (with_all (defined form) names all.0 h)

  first_whole : AreWhole Test (exports, no_rows)
  first_whole = record {
    by_text = exports_by_text;
    rows = λ token b e is. inl (exported token b e is);
    each = λ number low. absurd (omega (arith, low));
  }

  pub names_whole : (forms : List CoreDraft) → Every (λ (form : CoreDraft). AreTested (defined form)) forms → AreWhole Test (with_forms forms (exports, no_rows))
  names_whole forms all = forms_whole forms (exports, no_rows) all first_whole
