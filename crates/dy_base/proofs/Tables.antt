-- A table by name, against its entries.
use Rattle.std.proofs.Common.{◌≡◌, ℕ, Bool, true, false, true≢false, cond, if◌then◌else◌, List, [], ◌∷◌, ◌++◌, Option, Some, None, is_some, Vec, Ordering, Less, Equal, Greater, nat_cmp, nat_eq, is_eq, refl, sym, ap, ◌∙◌}
use Rattle.std.specs.Str.{bytes_eq}
use Rattle.std.specs.Cmp.Lexicographic.{slice_cmp, pointwise, nat_list_cmp_total, texts_ties, bytes_decides}
use Rattle.std.specs.Map.{lookup}
use Rattle.std.specs.BTreeMap as tree
use Rattle.std.specs.BTreeMap.{is_at}
use Rattle.std.specs.FinMap.{find, put, get, insert, get-from_entries, get-insert, same_map, nat_cmp-IsAntisymmetric, slice_cmp-IsAntisymmetric}
use Rattle.std.specs.FinMap.Entries.{by_order, find-put, find_tied}
use Rattle.indexmap.specs.IndexMap as hash
use Rattle.dy_base.specs.Tables.{NameMap, NamedList, named, table_of}

-- two tables that answer alike are equal
pub same_tables : {V : Type 0} (m n : NameMap V) → ((name : List ℕ) → get m name ≡ get n name) → m ≡ n
same_tables = same_map nat_list_cmp_total (slice_cmp-IsAntisymmetric nat_cmp-IsAntisymmetric)

-- the first of two that is there
abbrev pub or_else : {V : Type 0} → Option V → Option V → Option V
or_else (Some v) other = Some v
or_else None other = other

pub or_else-Some : {V : Type 0} (o other : Option V) (v : V) → Some v ≡ o → Some v ≡ or_else o other
or_else-Some (Some w) other v is = is
or_else-Some None other v is = absurd cc

pub or_else-None : {V : Type 0} (o other : Option V) → None ≡ o → other ≡ or_else o other
or_else-None (Some w) other is = absurd cc
or_else-None None other is = refl

nothing : {V : Type 0} (o : Option V) → is_some o ≡ false → o ≡ None
nothing (Some v) is = absurd (true≢false is)
nothing None is = refl

chosen : {V : Type 0} (b : Bool) (v : V) (o other : Option V) → or_else (cond b (Some v) o) other ≡ cond b (Some v) (or_else o other)
chosen true v o other = refl
chosen false v o other = refl

equal : (o : Ordering) → is_eq o ≡ true → o ≡ Equal
equal Less e = absurd (true≢false (sym e))
equal Equal e = refl
equal Greater e = absurd (true≢false (sym e))

module _ {V : Type 0} where
  -- what is found after a value is put at a name
  abbrev pub Puts : List ℕ → V → NamedList V → NamedList V → Type 0
  Puts key v before after = (q : List ℕ) → find (slice_cmp nat_cmp) q after ≡ cond (is_eq (slice_cmp nat_cmp q key)) (Some v) (find (slice_cmp nat_cmp) q before)

  pub find-join : (q : List ℕ) (a b : NamedList V) → find (slice_cmp nat_cmp) q (a ++ b) ≡ or_else (find (slice_cmp nat_cmp) q a) (find (slice_cmp nat_cmp) q b)
  find-join q [] b = refl
  find-join q (e ∷ a) b = ap (cond (is_eq (slice_cmp nat_cmp q e.0)) (Some e.1)) (find-join q a b) ∙ sym (chosen (is_eq (slice_cmp nat_cmp q e.0)) e.1 (find (slice_cmp nat_cmp) q a) (find (slice_cmp nat_cmp) q b))

  -- a value is put in the first of two lists
  pub puts_first : (key : List ℕ) (v : V) (a after b : NamedList V) → Puts key v a after → Puts key v (a ++ b) (after ++ b)
  puts_first key v a after b puts q =
      find-join q after b
      ∙ ap (λ o. or_else o (find (slice_cmp nat_cmp) q b)) (puts q)
      ∙ chosen (is_eq (slice_cmp nat_cmp q key)) v (find (slice_cmp nat_cmp) q a) (find (slice_cmp nat_cmp) q b)
      ∙ ap (cond (is_eq (slice_cmp nat_cmp q key)) (Some v)) (sym (find-join q a b))

  beyond : (key : List ℕ) (v : V) (a b : NamedList V) (q : List ℕ) (t : Bool) → is_eq (slice_cmp nat_cmp q key) ≡ t → find (slice_cmp nat_cmp) key a ≡ None
      → or_else (find (slice_cmp nat_cmp) q a) (cond t (Some v) (find (slice_cmp nat_cmp) q b)) ≡ cond t (Some v) (or_else (find (slice_cmp nat_cmp) q a) (find (slice_cmp nat_cmp) q b))
  beyond key v a b q true is none = ap (λ o. or_else o (Some v)) (sym (find_tied (slice_cmp nat_cmp) nat_list_cmp_total q key (equal _ is) a) ∙ none)
  beyond key v a b q false is none = refl

  -- a value is put in the second of two lists, where the first has not the name
  pub puts_second : (key : List ℕ) (v : V) (a b after : NamedList V) → find (slice_cmp nat_cmp) key a ≡ None → Puts key v b after → Puts key v (a ++ b) (a ++ after)
  puts_second key v a b after none puts q =
      find-join q a after
      ∙ ap (or_else (find (slice_cmp nat_cmp) q a)) (puts q)
      ∙ beyond key v a b q _ refl none
      ∙ ap (cond (is_eq (slice_cmp nat_cmp q key)) (Some v)) (sym (find-join q a b))

  pub table_of-puts : (key : List ℕ) (v : V) (before after : NamedList V) → Puts key v before after → table_of after ≡ insert (table_of before) key v
  table_of-puts key v before after puts = same_tables _ _ (λ q.
      get-from_entries nat_list_cmp_total after q
      ∙ puts q
      ∙ ap (cond (is_eq (slice_cmp nat_cmp q key)) (Some v)) (sym (get-from_entries nat_list_cmp_total before q))
      ∙ sym (get-insert nat_list_cmp_total (table_of before) key v q))

-- entries that are hashed
module _ {B V : Type 0} where
  pub find-hashed : (q : List ℕ) (es : List (Vec ℕ B × V)) → lookup (λ k. pointwise nat_eq q k.items) es ≡ find (slice_cmp nat_cmp) q (named es)
  find-hashed q [] = refl
  find-hashed q (e ∷ es) = λ i. cond (texts_ties q e.0.items i) (Some e.1) (find-hashed q es i)

replaced : {V : Type 0} (b : Bool) (v w : V) (rest : Option V) → cond b (Some w) rest ≡ cond b (Some w) (cond b (Some v) rest)
replaced true v w rest = refl
replaced false v w rest = refl

-- a name is at one of two different names only
apart : {V : Type 0} (a b : Bool) (v w : V) (rest : Option V) → (a ≡ true → b ≡ true → ⊥) → cond a (Some v) (cond b (Some w) rest) ≡ cond b (Some w) (cond a (Some v) rest)
apart true true v w rest never = absurd (never refl refl)
apart true false v w rest never = refl
apart false b v w rest never = refl

-- names with their values, in the order in which they came
module _ {V : Type 0} where
  listed_at : (key : List ℕ) (v : V) (e : List ℕ × V) (rest more : NamedList V) (b : Bool) → bytes_eq key e.0 ≡ b
      → Puts key v rest more → Puts key v (e ∷ rest) (if b then (e.0, v) ∷ rest else e ∷ more)
  listed_at key v e rest more true is puts q =
      let same : key ≡ e.0 = (bytes_decides key e.0).0 is in
      replaced (is_eq (slice_cmp nat_cmp q e.0)) e.1 v (find (slice_cmp nat_cmp) q rest)
      ∙ ap (λ (k : List ℕ). cond (is_eq (slice_cmp nat_cmp q k)) (Some v) (find (slice_cmp nat_cmp) q (e ∷ rest))) (sym same)
  listed_at key v e rest more false is puts q =
      ap (cond (is_eq (slice_cmp nat_cmp q e.0)) (Some e.1)) (puts q)
      ∙ apart (is_eq (slice_cmp nat_cmp q e.0)) (is_eq (slice_cmp nat_cmp q key)) e.1 v (find (slice_cmp nat_cmp) q rest)
      (λ a b. true≢false (sym ((bytes_decides key e.0).1 (sym ((bytes_decides q key).0 (texts_ties q key ∙ b)) ∙ (bytes_decides q e.0).0 (texts_ties q e.0 ∙ a))) ∙ is))

  puts_listed : (list : NamedList V) (key : List ℕ) (v : V) → Puts key v list (hash.insert_entry bytes_eq list key v)
  puts_listed [] key v = λ q. refl
  puts_listed (e ∷ list) key v = listed_at key v e list _ (bytes_eq key e.0) refl (puts_listed list key v)

  pub table_of-insert : (list : NamedList V) (key : List ℕ) (v : V) → table_of (hash.insert_entry bytes_eq list key v) ≡ insert (table_of list) key v
  table_of-insert list key v = table_of-puts key v list _ (puts_listed list key v)

module _ {B V : Type 0} where
  insert_at : (b : Bool) (e : Vec ℕ B × V) (v : V) (rest more : List (Vec ℕ B × V)) (after : NamedList V) → named more ≡ after
      → named (if b then (e.0, v) ∷ rest else e ∷ more) ≡ (if b then (e.0.items, v) ∷ named rest else (e.0.items, e.1) ∷ after)
  insert_at true e v rest more after is = refl
  insert_at false e v rest more after is = ap (λ (l : NamedList V). (e.0.items, e.1) ∷ l) is

  named-hashed : (es : List (Vec ℕ B × V)) (key : Vec ℕ B) (v : V) → named (hash.insert_entry (λ a b. pointwise nat_eq a.items b.items) es key v) ≡ hash.insert_entry bytes_eq (named es) key.items v
  named-hashed [] key v = refl
  named-hashed (e ∷ es) key v = insert_at (pointwise nat_eq key.items e.0.items) e v es _ _ (named-hashed es key v)

  puts_hashed : (es : List (Vec ℕ B × V)) (key : Vec ℕ B) (v : V) → Puts key.items v (named es) (named (hash.insert_entry (λ a b. pointwise nat_eq a.items b.items) es key v))
  puts_hashed es key v q = ap (find (slice_cmp nat_cmp) q) (named-hashed es key v) ∙ puts_listed (named es) key.items v q

-- entries in the order of their names
module _ {B V : Type 0} where
  pub find-ordered : (q : List ℕ) (es : List (Vec ℕ B × V)) → lookup (is_at (λ k. slice_cmp nat_cmp q k.items)) es ≡ find (slice_cmp nat_cmp) q (named es)
  find-ordered q [] = refl
  find-ordered q (e ∷ es) = ap (cond (is_eq (slice_cmp nat_cmp q e.0.items)) (Some e.1)) (find-ordered q es)

  ordered_at : (o : Ordering) (key : Vec ℕ B) (v : V) (e : Vec ℕ B × V) (es more : List (Vec ℕ B × V)) (after : NamedList V) → named more ≡ after
      → named (by_order o ((key, v) ∷ e ∷ es) ((e.0, v) ∷ es) (e ∷ more)) ≡ by_order o ((key.items, v) ∷ (e.0.items, e.1) ∷ named es) ((e.0.items, v) ∷ named es) ((e.0.items, e.1) ∷ after)
  ordered_at Less key v e es more after is = refl
  ordered_at Equal key v e es more after is = refl
  ordered_at Greater key v e es more after is = ap (λ (l : NamedList V). (e.0.items, e.1) ∷ l) is

  named-ordered : (es : List (Vec ℕ B × V)) (key : Vec ℕ B) (v : V) → named (tree.insert_entry (λ a b. slice_cmp nat_cmp a.items b.items) es key v) ≡ put (slice_cmp nat_cmp) key.items v (named es)
  named-ordered [] key v = refl
  named-ordered (e ∷ es) key v = ordered_at (slice_cmp nat_cmp key.items e.0.items) key v e es _ _ (named-ordered es key v)

  pub puts_ordered : (es : List (Vec ℕ B × V)) (key : Vec ℕ B) (v : V) → Puts key.items v (named es) (named (tree.insert_entry (λ a b. slice_cmp nat_cmp a.items b.items) es key v))
  puts_ordered es key v q = ap (find (slice_cmp nat_cmp) q) (named-ordered es key v) ∙ find-put (slice_cmp nat_cmp) nat_list_cmp_total q key.items v (named es)

module _ {B V : Type 0} (hashed ordered : List (Vec ℕ B × V)) where
  pub get_hashed : (q : List ℕ) (v : V) → lookup (λ k. pointwise nat_eq q k.items) hashed ≡ Some v → Some v ≡ get (table_of (named hashed ++ named ordered)) q
  get_hashed q v is = or_else-Some _ _ v (sym is ∙ find-hashed q hashed) ∙ sym (find-join q (named hashed) (named ordered)) ∙ sym (get-from_entries nat_list_cmp_total _ q)

  pub get_ordered : (q : List ℕ) → lookup (λ k. pointwise nat_eq q k.items) hashed ≡ None → lookup (is_at (λ k. slice_cmp nat_cmp q k.items)) ordered ≡ get (table_of (named hashed ++ named ordered)) q
  get_ordered q none =
      find-ordered q ordered
      ∙ or_else-None _ _ (sym none ∙ find-hashed q hashed)
      ∙ sym (find-join q (named hashed) (named ordered)) ∙ sym (get-from_entries nat_list_cmp_total _ q)

  pub insert_hashed : (key : Vec ℕ B) (v : V) (name : List ℕ) → key.items ≡ name
      → table_of (named (hash.insert_entry (λ a b. pointwise nat_eq a.items b.items) hashed key v) ++ named ordered) ≡ insert (table_of (named hashed ++ named ordered)) name v
  insert_hashed key v name is = table_of-puts key.items v _ _ (puts_first key.items v (named hashed) _ (named ordered) (puts_hashed hashed key v)) ∙ ap (λ n. insert (table_of (named hashed ++ named ordered)) n v) is

  pub insert_ordered : (key : Vec ℕ B) (v : V) (name : List ℕ) → key.items ≡ name → is_some (lookup (λ k. pointwise nat_eq name k.items) hashed) ≡ false
      → table_of (named hashed ++ named (tree.insert_entry (λ a b. slice_cmp nat_cmp a.items b.items) ordered key v)) ≡ insert (table_of (named hashed ++ named ordered)) name v
  insert_ordered key v name is absent =
      let none = ap (λ n. find (slice_cmp nat_cmp) n (named hashed)) is ∙ sym (find-hashed name hashed) ∙ nothing _ absent in
      table_of-puts key.items v _ _ (puts_second key.items v (named hashed) (named ordered) _ none (puts_ordered ordered key v)) ∙ ap (λ n. insert (table_of (named hashed ++ named ordered)) n v) is
