-- The tables of innermost locals, as locals come and go.
use Rattle.std.proofs.Common.{◌≡◌, ℕ, Bool, true, false, true≢false, cond, List, [], ◌∷◌, Option, Some, None, Result, Ok, Err, OnOk, OnErr, Vec, Ordering, Less, Equal, Greater, nat_cmp, is_eq, nat_eq, bytes_eq, ◌&&◌, refl, sym, ap, ◌∙◌}
use Rattle.std.proofs.lemmas.Bool.{eqb-true, eq-eqb}
use Rattle.std.specs.Ordering.{ordering_then, match_ordering}
use Rattle.std.specs.Cmp.{unsigned_ties}
use Rattle.std.specs.Cmp.Lexicographic.{slice_cmp, texts_ties, bytes_decides}
use Rattle.std.specs.Map.{lookup}
use Rattle.std.specs.BTreeMap.{is_at, insert_entry}
use Rattle.dy_tree.specs.declared.token.Token.{Token}
use Rattle.dy_term.specs.declared.draft.Local.{Local}
use Rattle.dy_term.specs.declared.draft.Local.TheVariants.{Named, Hidden}
use Rattle.dy_names.specs.declared.denotation.Denotation.{Denotation}
use Rattle.dy_names.specs.declared.scope.Bound.{Bound}
use Rattle.dy_names.specs.Naming.{is_same, Locals, innermost}
use Rattle.dy_names.specs.Tables.{Keyed, entry_at, entry_of, flat, locals_in, KnowOuter, IsKept}

then_eq : (o p : Ordering) → is_eq (ordering_then o p) ≡ is_eq o && is_eq p
then_eq Less p = refl
then_eq Equal p = refl
then_eq Greater p = refl

both_true : (a b : Bool) → a && b ≡ true → (a ≡ true) × (b ≡ true)
both_true true b e = (refl, e)
both_true false b e = absurd (true≢false (sym e))

-- keys compare as equal exactly where numbers and texts are equal
same_key : (i j : ℕ) (s t : List ℕ) → is_eq (ordering_then (nat_cmp i j) (slice_cmp nat_cmp s t)) ≡ nat_eq i j && bytes_eq s t
same_key i j s t = then_eq (nat_cmp i j) (slice_cmp nat_cmp s t) ∙ (λ k. sym (unsigned_ties i j) k && sym (texts_ties s t) k)

pub equal_parts : (i j : ℕ) (s t : List ℕ) → nat_eq i j && bytes_eq s t ≡ true → (i ≡ j) × (s ≡ t)
equal_parts i j s t e = let p = both_true (nat_eq i j) (bytes_eq s t) e in (eqb-true i j p.0, (bytes_decides s t).0 p.1)

parts_equal : (i j : ℕ) (s t : List ℕ) → i ≡ j → s ≡ t → nat_eq i j && bytes_eq s t ≡ true
parts_equal i j s t e f = (λ k. eq-eqb i j e k && (bytes_decides s t).1 f k)

alike : (a b : Bool) → (a ≡ true → b ≡ true) → (b ≡ true → a ≡ true) → a ≡ b
alike true b f g = sym (f refl)
alike false true f g = g refl
alike false false f g = refl

same_turned : (i j : ℕ) (s t : List ℕ) → nat_eq i j && bytes_eq s t ≡ nat_eq j i && bytes_eq t s
same_turned i j s t = alike _ _ (λ e. let p = equal_parts i j s t e in parts_equal j i t s (sym p.0) (sym p.1)) (λ e. let p = equal_parts j i t s e in parts_equal i j s t (sym p.0) (sym p.1))

number_turned : (m n : ℕ) → nat_eq m n ≡ nat_eq n m
number_turned m n = alike _ _ (λ e. eq-eqb n m (sym (eqb-true m n e))) (λ e. eq-eqb m n (sym (eqb-true n m e)))

-- a name is the same as each other one of its name
same_as : (l a b : Local) → is_same a b ≡ true → is_same l a ≡ is_same l b
same_as (Named l) (Named a) (Named b) e = let p = equal_parts a.origin b.origin a.text b.text e in λ i. nat_eq l.origin (p.0 i) && bytes_eq l.text (p.1 i)
same_as (Hidden l) (Named a) (Named b) e = refl
same_as (Named l) (Hidden a) (Hidden b) e = refl
same_as (Hidden l) (Hidden a) (Hidden b) e = ap (nat_eq l) (eqb-true a b e)
same_as l (Named a) (Hidden b) e = absurd (true≢false (sym e))
same_as l (Hidden a) (Named b) e = absurd (true≢false (sym e))

innermost_same : (a b : Local) → is_same a b ≡ true → (locals : Locals) → innermost locals a ≡ innermost locals b
unfolding innermost
innermost_same a b e [] = refl
innermost_same a b e (l ∷ outer) = λ i. cond (same_as l.0 a b e i) (Some l.1) (innermost_same a b e outer i)

pub same_itself : (a : Local) → is_same a a ≡ true
same_itself (Named a) = parts_equal a.origin a.origin a.text a.text refl refl
same_itself (Hidden a) = eq-eqb a a refl

replaced : {V : Type 0} (b : Bool) (v w : V) (rest : Option V) → cond b (Some v) rest ≡ cond b (Some v) (cond b (Some w) rest)
replaced true v w rest = refl
replaced false v w rest = refl

-- a name is at one of two different keys only
apart : {V : Type 0} (a b : Bool) (v w : V) (rest : Option V) → (a ≡ true → b ≡ true → ⊥) → cond a (Some w) (cond b (Some v) rest) ≡ cond b (Some v) (cond a (Some w) rest)
apart true true v w rest never = absurd (never refl refl)
apart true false v w rest never = refl
apart false b v w rest never = refl

abbrev pub key_cmp : {B : Type 0} → ℕ × Vec ℕ B → ℕ × Vec ℕ B → Ordering
key_cmp a b = ordering_then (nat_cmp a.0 b.0) (slice_cmp nat_cmp a.1.items b.1.items)

-- whether a number and a text are at a key
abbrev at : {B : Type 0} → ℕ → List ℕ → ℕ × Vec ℕ B → Bool
at number text k = is_eq (ordering_then (nat_cmp number k.0) (slice_cmp nat_cmp text k.1.items))

-- what entries have after a value was put at a number and a text
abbrev pub PutsAt : {B V : Type 0} → Keyed B V → Keyed B V → ℕ → List ℕ → V → Type 0
PutsAt before after number text value = (n : ℕ) (t : List ℕ) → entry_at after n t ≡ cond (nat_eq number n && bytes_eq text t) (Some value) (entry_at before n t)

module _ {B : Type 0} where
  at_both : (n : ℕ) (t : List ℕ) (k e : ℕ × Vec ℕ B) → at n t k ≡ true → at n t e ≡ true → key_cmp k e ≡ Greater → ⊥
  at_both n t k e p q greater =
      let a = equal_parts n k.0 t k.1.items (sym (same_key n k.0 t k.1.items) ∙ p) in
      let b = equal_parts n e.0 t e.1.items (sym (same_key n e.0 t e.1.items) ∙ q) in
      true≢false (sym (parts_equal k.0 e.0 k.1.items e.1.items (sym a.0 ∙ b.0) (sym a.1 ∙ b.1)) ∙ sym (same_key k.0 e.0 k.1.items e.1.items) ∙ ap is_eq greater)

  at_equal : (n : ℕ) (t : List ℕ) (k e : ℕ × Vec ℕ B) → key_cmp k e ≡ Equal → at n t e ≡ at n t k
  at_equal n t k e equal =
      let p = equal_parts k.0 e.0 k.1.items e.1.items (sym (same_key k.0 e.0 k.1.items e.1.items) ∙ ap is_eq equal) in
      λ i. is_eq (ordering_then (nat_cmp n (sym p.0 i)) (slice_cmp nat_cmp t (sym p.1 i)))

module _ {B V : Type 0} where
  put_at : (n : ℕ) (t : List ℕ) (k : ℕ × Vec ℕ B) (v : V) (e : (ℕ × Vec ℕ B) × V) (rest after : Keyed B V) (o : Ordering) → key_cmp k e.0 ≡ o
      → entry_at after n t ≡ cond (at n t k) (Some v) (entry_at rest n t)
      → entry_at (match_ordering o ((k, v) ∷ e ∷ rest) ((e.0, v) ∷ rest) (e ∷ after)) n t ≡ cond (at n t k) (Some v) (entry_at (e ∷ rest) n t)
  put_at n t k v e rest after Less is put = refl
  put_at n t k v e rest after Equal is put =
      ap (λ b. cond b (Some v) (entry_at rest n t)) (at_equal n t k e.0 is) ∙ replaced (at n t k) v e.1 _
      ∙ ap (λ b. cond (at n t k) (Some v) (cond b (Some e.1) (entry_at rest n t))) (sym (at_equal n t k e.0 is))
  put_at n t k v e rest after Greater is put =
      ap (cond (at n t e.0) (Some e.1)) put ∙ apart (at n t e.0) (at n t k) v e.1 (entry_at rest n t) (λ p q. at_both n t k e.0 q p is)

  put : (n : ℕ) (t : List ℕ) (k : ℕ × Vec ℕ B) (v : V) (entries : Keyed B V) → entry_at (insert_entry key_cmp entries k v) n t ≡ cond (at n t k) (Some v) (entry_at entries n t)
  put n t k v [] = refl
  put n t k v (e ∷ rest) = put_at n t k v e rest (insert_entry key_cmp rest k v) (key_cmp k e.0) refl (put n t k v rest)

  pub puts : (before after : Keyed B V) (k : ℕ × Vec ℕ B) (number : ℕ) (text : List ℕ) (v : V) → k.0 ≡ number → k.1.items ≡ text → after ≡ insert_entry key_cmp before k v → PutsAt before after number text v
  puts before after k number text v o s is n t =
      ap (λ es. entry_at es n t) is ∙ put n t k v before
      ∙ ap (λ b. cond b (Some v) (entry_at before n t)) (same_key n k.0 t k.1.items ∙ (λ i. nat_eq n (o i) && bytes_eq t (s i)) ∙ same_turned n number t text)

-- the same for hidden locals, which are by number
number_at : (n k : ℕ) → is_eq (nat_cmp n k) ≡ nat_eq k n
number_at n k = sym (unsigned_ties n k) ∙ number_turned n k

module _ {V : Type 0} where
  hidden_at : (n k : ℕ) (v : V) (e : ℕ × V) (rest after : List (ℕ × V)) (o : Ordering) → nat_cmp k e.0 ≡ o
      → lookup (is_at (nat_cmp n)) after ≡ cond (nat_eq k n) (Some v) (lookup (is_at (nat_cmp n)) rest)
      → lookup (is_at (nat_cmp n)) (match_ordering o ((k, v) ∷ e ∷ rest) ((e.0, v) ∷ rest) (e ∷ after)) ≡ cond (nat_eq k n) (Some v) (lookup (is_at (nat_cmp n)) (e ∷ rest))
  hidden_at n k v e rest after Less is put = ap (λ b. cond b (Some v) (lookup (is_at (nat_cmp n)) (e ∷ rest))) (number_at n k)
  hidden_at n k v e rest after Equal is put =
      let same : k ≡ e.0 = eqb-true k e.0 (unsigned_ties k e.0 ∙ ap is_eq is) in
      let there : is_eq (nat_cmp n e.0) ≡ nat_eq k n = number_at n e.0 ∙ ap (λ m. nat_eq m n) (sym same) in
      ap (λ b. cond b (Some v) (lookup (is_at (nat_cmp n)) rest)) there ∙ replaced (nat_eq k n) v e.1 _
      ∙ ap (λ b. cond (nat_eq k n) (Some v) (cond b (Some e.1) (lookup (is_at (nat_cmp n)) rest))) (sym there)
  hidden_at n k v e rest after Greater is put =
      let never : (p : is_eq (nat_cmp n e.0) ≡ true) (q : nat_eq k n ≡ true) → ⊥ = λ p q.
      let a : e.0 ≡ n = eqb-true e.0 n (sym (number_at n e.0) ∙ p) in
      let b : k ≡ n = eqb-true k n q in
      true≢false (sym (eq-eqb k e.0 (b ∙ sym a)) ∙ unsigned_ties k e.0 ∙ ap is_eq is) in
      ap (cond (is_eq (nat_cmp n e.0)) (Some e.1)) put ∙ apart (is_eq (nat_cmp n e.0)) (nat_eq k n) v e.1 (lookup (is_at (nat_cmp n)) rest) never

  pub hidden_put : (n k : ℕ) (v : V) (entries : List (ℕ × V)) → lookup (is_at (nat_cmp n)) (insert_entry nat_cmp entries k v) ≡ cond (nat_eq k n) (Some v) (lookup (is_at (nat_cmp n)) entries)
  hidden_put n k v [] = ap (λ b. cond b (Some v) None) (number_at n k)
  hidden_put n k v (e ∷ rest) = hidden_at n k v e rest (insert_entry nat_cmp rest k v) (nat_cmp k e.0) refl (hidden_put n k v rest)

-- what two tables have after a value was put at a local
abbrev pub Puts : {B V : Type 0} → Keyed B V → List (ℕ × V) → Keyed B V → List (ℕ × V) → Local → V → Type 0
Puts named hidden more others local value = (name : Local) → entry_of more others name ≡ cond (is_same local name) (Some value) (entry_of named hidden name)

module _ {B V : Type 0} where
  pub puts_named : (named more : Keyed B V) (hidden : List (ℕ × V)) (k : ℕ × Vec ℕ B) (token : Token) (v : V) → k.0 ≡ token.origin → k.1.items ≡ token.text → more ≡ insert_entry key_cmp named k v → Puts named hidden more hidden (Named token) v
  puts_named named more hidden k token v o t is (Named name) = puts named more k token.origin token.text v o t is name.origin name.text
  puts_named named more hidden k token v o t is (Hidden n) = refl

  pub puts_hidden : (named : Keyed B V) (hidden others : List (ℕ × V)) (k : ℕ) (v : V) → others ≡ insert_entry nat_cmp hidden k v → Puts named hidden named others (Hidden k) v
  puts_hidden named hidden others k v is (Named name) = refl
  puts_hidden named hidden others k v is (Hidden n) = ap (λ es. lookup (is_at (nat_cmp n)) es) is ∙ hidden_put n k v hidden

module _ {B : Type 0} where
  pub bound_kept : (outer : List Bound) (b : Bound) (named more : Keyed B (Option Denotation)) (hidden others : List (ℕ × Option Denotation)) → IsKept outer named hidden → b.outer ≡ innermost (locals_in outer) b.local
      → Puts named hidden more others b.local (Some b.denotation) → IsKept (b ∷ outer) more others
  unfolding innermost
  bound_kept outer b named more hidden others kept hides p = record {
    found = λ name. ap flat (p name) ∙ by_case (is_same b.local name) name (kept.found name);
    outer = (hides, kept.outer);
  }
    where
      by_case : (same : Bool) (name : Local) → flat (entry_of named hidden name) ≡ innermost (locals_in outer) name → flat (cond same (Some (Some b.denotation)) (entry_of named hidden name)) ≡ cond same (Some b.denotation) (innermost (locals_in outer) name)
      by_case true name e = refl
      by_case false name e = e

  pub left_kept : (outer : List Bound) (b : Bound) (named more : Keyed B (Option Denotation)) (hidden others : List (ℕ × Option Denotation)) → IsKept (b ∷ outer) named hidden
      → Puts named hidden more others b.local b.outer → IsKept outer more others
  unfolding innermost
  left_kept outer b named more hidden others kept p = record {
    found = λ name. ap flat (p name) ∙ by_case (is_same b.local name) name refl (kept.found name);
    outer = kept.outer.1;
  }
    where
      by_case : (same : Bool) (name : Local) → is_same b.local name ≡ same → flat (entry_of named hidden name) ≡ cond same (Some b.denotation) (innermost (locals_in outer) name) → flat (cond same (Some b.outer) (entry_of named hidden name)) ≡ innermost (locals_in outer) name
      by_case true name s e = kept.outer.0 ∙ innermost_same b.local name s (locals_in outer)
      by_case false name s e = e

  pub begins_kept : (bound : List Bound) (named : Keyed B (Option Denotation)) (hidden : List (ℕ × Option Denotation)) → bound ≡ [] → named ≡ [] → hidden ≡ [] → IsKept bound named hidden
  unfolding innermost
  begins_kept bound named hidden b e f = record {
    found = λ name. (λ i. flat (entry_of (e i) (f i) name)) ∙ nothing name ∙ ap (λ bs. innermost (locals_in bs) name) (sym b);
    outer = none bound b;
  }
    where
      nothing : (name : Local) → flat (entry_of {B = B} [] [] name) ≡ None
      nothing (Named name) = refl
      nothing (Hidden n) = refl

      none : (bound : List Bound) → bound ≡ [] → KnowOuter bound
      none [] e = tt
      none (b ∷ bs) e = cc

  -- the innermost local has an entry
  has_entry : (outer : List Bound) (b : Bound) (named : Keyed B (Option Denotation)) (hidden : List (ℕ × Option Denotation)) → IsKept (b ∷ outer) named hidden → entry_of named hidden b.local ≡ None → ⊥
  unfolding innermost
  has_entry outer b named hidden kept none =
      some≢none (sym (ap (λ e. cond e (Some b.denotation) (innermost (locals_in outer) b.local)) (same_itself b.local)) ∙ sym (kept.found b.local) ∙ ap flat none)
    where
      some≢none : Some b.denotation ≡ None → ⊥
      some≢none e = cc

  -- however an insertion ends: it can't fail
  pub named_back : {E : Type 0} (result : Result (Option (Option Denotation)) E) (outer : List Bound) (b : Bound) (token : Token) (named more : Keyed B (Option Denotation)) (hidden : List (ℕ × Option Denotation)) (k : ℕ × Vec ℕ B) → b.local ≡ Named token
      → IsKept (b ∷ outer) named hidden → k.0 ≡ token.origin → k.1.items ≡ token.text
      → OnOk result (more ≡ insert_entry key_cmp named k b.outer) → OnErr result (lookup (is_at (key_cmp k)) named ≡ None) → IsKept outer more hidden
  named_back (Ok x) outer b token named more hidden k l kept o t ok err =
      left_kept outer b named more hidden hidden kept (λ name. puts_named named more hidden k token b.outer o t ok name ∙ ap (λ (l : Local). cond (is_same l name) (Some b.outer) (entry_of named hidden name)) (sym l))
  named_back (Err y) outer b token named more hidden k l kept o t ok err =
      absurd (has_entry outer b named hidden kept (ap (entry_of named hidden) l ∙ (λ i. lookup (is_at (λ e. ordering_then (nat_cmp (sym o i) e.0) (slice_cmp nat_cmp (sym t i) e.1.items))) named) ∙ err))

  pub hidden_back : {E : Type 0} (result : Result (Option (Option Denotation)) E) (outer : List Bound) (b : Bound) (n : ℕ) (named : Keyed B (Option Denotation)) (hidden others : List (ℕ × Option Denotation)) → b.local ≡ Hidden n
      → IsKept (b ∷ outer) named hidden
      → OnOk result (others ≡ insert_entry nat_cmp hidden n b.outer) → OnErr result (lookup (is_at (nat_cmp n)) hidden ≡ None) → IsKept outer named others
  hidden_back (Ok x) outer b n named hidden others l kept ok err =
      left_kept outer b named named hidden others kept (λ name. puts_hidden named hidden others n b.outer ok name ∙ ap (λ (l : Local). cond (is_same l name) (Some b.outer) (entry_of named hidden name)) (sym l))
  hidden_back (Err y) outer b n named hidden others l kept ok err = absurd (has_entry outer b named hidden kept (ap (entry_of named hidden) l ∙ err))
