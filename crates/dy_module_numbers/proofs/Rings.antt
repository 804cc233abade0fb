-- A search that marks what a module leads to.
use Rattle.std.proofs.Common.{◌≡◌, ◌⊎◌, inl, inr, ℕ, zero, suc, ◌+◌, ◌<◌, Bool, true, false, true≢false, if◌then◌else◌, cond, List, [], ◌∷◌, ◌++◌, length, replicate, Option, Some, None, slice_get, slice_set, refl, sym, ap, subst, ◌∙◌, arith}
use Rattle.std.proofs.lemmas.Option.{slice_get_within}
use Rattle.dy_modules.specs.declared.clause.UseClause.{UseClause}
use Rattle.dy_modules.specs.declared.clause.ModuleForm.{ModuleForm}
use Rattle.dy_modules.specs.Clauses.{IsIn}
use Rattle.dy_modules.proofs.Ins.{IsIn-append, IsIn-left, IsIn-right}
use Rattle.dy_modules.proofs.Rows.{some_is, none_is}
use Rattle.dy_modules.proofs.Clear.{length-replicate}
use Rattle.dy_module_numbers.specs.Rings.{Leads, straight, further, Search, is_unmarked, is_marked, marked, marked_all, marked_by}

-- how many modules are not marked
abbrev pub unmarked : List Bool → ℕ
unmarked [] = 0
unmarked (true ∷ marks) = unmarked marks
unmarked (false ∷ marks) = suc (unmarked marks)

abbrev pub IsMarked : Search → ℕ → Type 0
IsMarked s k = slice_get s.marks k ≡ Some true

-- all that is marked or looked at is led to, and what is marked and not to be looked at has its sources marked
pub record Walks (ms : List ModuleForm) (m : ℕ) (s : Search) : Type 0 where
  pub count : length s.marks ≡ length ms
  pub sound : (k : ℕ) → IsMarked s k → Leads ms m k
  pub todo : (k : ℕ) → IsIn k s.todo → (k ≡ m) ⊎ IsMarked s k
  pub done : (k : ℕ) → (k ≡ m) ⊎ IsMarked s k
      → IsIn k s.todo ⊎ ((d : ModuleForm) (u : UseClause) → slice_get ms k ≡ Some d → IsIn u d.uses → u.source < length ms → IsMarked s u.source)

-- a list in which one place is set
pub set_here : (xs : List Bool) (k : ℕ) (b : Bool) → slice_get xs k ≡ Some b → slice_get (slice_set xs k true) k ≡ Some true
set_here [] k b at = absurd (none_is b at)
set_here (x ∷ xs) zero b at = refl
set_here (x ∷ xs) (suc k) b at = set_here xs k b at

pub set_there : (xs : List Bool) (k j : ℕ) → slice_get xs j ≡ Some true → slice_get (slice_set xs k true) j ≡ Some true
set_there [] k j at = absurd (none_is true at)
set_there (x ∷ xs) zero zero at = refl
set_there (x ∷ xs) zero (suc j) at = at
set_there (x ∷ xs) (suc k) zero at = at
set_there (x ∷ xs) (suc k) (suc j) at = set_there xs k j at

pub set_back : (xs : List Bool) (k j : ℕ) → slice_get (slice_set xs k true) j ≡ Some true → (slice_get xs j ≡ Some true) ⊎ (k ≡ j)
set_back [] k j at = inl at
set_back (x ∷ xs) zero zero at = inr refl
set_back (x ∷ xs) zero (suc j) at = inl at
set_back (x ∷ xs) (suc k) zero at = inl at
set_back (x ∷ xs) (suc k) (suc j) at = elim (set_back xs k j at) [ inl a ↦ inl a | inr e ↦ inr (ap suc e) ]

pub set_length : (xs : List Bool) (k : ℕ) → length (slice_set xs k true) ≡ length xs
set_length [] k = refl
set_length (x ∷ xs) zero = refl
set_length (x ∷ xs) (suc k) = ap suc (set_length xs k)

pub set_fewer : (xs : List Bool) (k : ℕ) → slice_get xs k ≡ Some false → suc (unmarked (slice_set xs k true)) ≡ unmarked xs
set_fewer [] k at = absurd (none_is false at)
set_fewer (true ∷ xs) zero at = absurd (true≢false (some_is true false at))
set_fewer (false ∷ xs) zero at = refl
set_fewer (true ∷ xs) (suc k) at = set_fewer xs k at
set_fewer (false ∷ xs) (suc k) at = ap suc (set_fewer xs k at)

unmarked_at : (o : Option Bool) → is_unmarked o ≡ true → o ≡ Some false
unmarked_at None e = absurd (true≢false (sym e))
unmarked_at (Some true) e = absurd (true≢false (sym e))
unmarked_at (Some false) e = refl

marked_at : (o : Option Bool) (b : Bool) → o ≡ Some b → is_unmarked o ≡ false → o ≡ Some true
marked_at None b at e = absurd (none_is b at)
marked_at (Some true) b at e = refl
marked_at (Some false) b at e = absurd (true≢false e)

pub length-more : (xs : List ℕ) (k : ℕ) → length (xs ++ k ∷ []) ≡ suc (length xs)
length-more [] k = refl
length-more (x ∷ xs) k = ap suc (length-more xs k)

-- what a search has after these modules were marked
record Grows (from : ℕ → Type 0) (s t : Search) : Type 0 where
  count : length t.marks ≡ length s.marks
  kept : (k : ℕ) → IsMarked s k → IsMarked t k
  todo : (k : ℕ) → IsIn k s.todo → IsIn k t.todo
  new : (k : ℕ) → IsMarked t k → IsMarked s k ⊎ (from k × IsIn k t.todo)
  back : (k : ℕ) → IsIn k t.todo → IsIn k s.todo ⊎ IsMarked t k
  all : (k : ℕ) → from k → (b : Bool) → slice_get s.marks k ≡ Some b → IsMarked t k
  size : unmarked t.marks + length t.todo ≡ unmarked s.marks + length s.todo

grows_one : (s : Search) (k : ℕ) → Grows (λ j. k ≡ j) s (marked s k)
grows_one s k = by_mark (is_unmarked (slice_get s.marks k)) refl
  where
    by_mark : (b : Bool) → is_unmarked (slice_get s.marks k) ≡ b
        → Grows (λ j. k ≡ j) s (if b then record { marks = slice_set s.marks k true; todo = s.todo ++ k ∷ [] } else s)
    by_mark true e =
        let here = unmarked_at (slice_get s.marks k) e in
        record {
          count = set_length s.marks k;
          kept = λ j at. set_there s.marks k j at;
          todo = λ j is. IsIn-left s.todo (k ∷ []) j is;
          new = λ j at. elim (set_back s.marks k j at) [ inl a ↦ inl a | inr same ↦ inr (same, subst (λ x. IsIn x (s.todo ++ k ∷ [])) same (IsIn-right s.todo (k ∷ []) k (inl refl))) ];
          back = λ j is. elim (IsIn-append s.todo (k ∷ []) j is) [
            | inl a ↦ inl a
            | inr b ↦ inr (elim b [ inl same ↦ subst (λ x. slice_get (slice_set s.marks k true) x ≡ Some true) (sym same) (set_here s.marks k false here) | inr never ↦ absurd never ])
          ];
          all = λ j same b at. subst (λ x. slice_get (slice_set s.marks k true) x ≡ Some true) same (set_here s.marks k false here);
          size = omega (arith, set_fewer s.marks k here, length-more s.todo k);
        }
    by_mark false e = record {
      count = refl;
      kept = λ j at. at;
      todo = λ j is. is;
      new = λ j at. inl at;
      back = λ j is. inl is;
      all = λ j same b at. marked_at (slice_get s.marks j) b at (subst (λ x. is_unmarked (slice_get s.marks x) ≡ false) same e);
      size = refl;
    }

-- one of these clauses uses the module
abbrev Uses : List UseClause → ℕ → Type 0
Uses us k = (u : UseClause) × IsIn u us × (u.source ≡ k)

pub value_at : (xs : List Bool) (k : ℕ) → k < length xs → (b : Bool) × (slice_get xs k ≡ Some b)
value_at [] k h = absurd (omega (arith, h))
value_at (x ∷ xs) zero h = (x, refl)
value_at (x ∷ xs) (suc k) h = value_at xs k (omega (arith, h))

grows_all : (us : List UseClause) (s : Search) → Grows (Uses us) s (marked_all s us)
grows_all [] s = record {
  count = refl;
  kept = λ k at. at;
  todo = λ k is. is;
  new = λ k at. inl at;
  back = λ k is. inl is;
  all = λ k from b at. absurd from.1;
  size = refl;
}
grows_all (u ∷ us) s =
    let one = grows_one s u.source in
    let rest = grows_all us (marked s u.source) in
    record {
      count = rest.count ∙ one.count;
      kept = λ k at. rest.kept k (one.kept k at);
      todo = λ k is. rest.todo k (one.todo k is);
      new = λ k at. elim (rest.new k at) [
        | inl a ↦ elim (one.new k a) [ inl b ↦ inl b | inr b ↦ inr ((u, inl refl, b.0), rest.todo k b.1) ]
        | inr b ↦ inr ((b.0.0, inr b.0.1, b.0.2), b.1)
      ];
      back = λ k is. elim (rest.back k is) [
        | inl a ↦ elim (one.back k a) [ inl b ↦ inl b | inr b ↦ inr (rest.kept k b) ]
        | inr b ↦ inr b
      ];
      all = λ k from b at. by_clause k b at from.0 from.1 from.2 rest;
      size = rest.size ∙ one.size;
    }
  where
    by_clause : (k : ℕ) (b : Bool) → slice_get s.marks k ≡ Some b → (v : UseClause) → IsIn v (u ∷ us) → v.source ≡ k → Grows (Uses us) (marked s u.source) (marked_all (marked s u.source) us)
        → IsMarked (marked_all (marked s u.source) us) k
    by_clause k b at v (inl same) e rest = rest.kept k ((grows_one s u.source).all k (ap (λ (x : UseClause). x.source) (sym same) ∙ e) b at)
    by_clause k b at v (inr is) e rest =
        let one = grows_one s u.source in
        let w = value_at (marked s u.source).marks k (subst (λ l. k < l) (sym one.count) (slice_get_within s.marks k b at)) in
        rest.all k (v, is, e) w.0 w.1

module _ (ms : List ModuleForm) (m : ℕ) where
  -- one clause more at the end of a chain
  lead_on : (j k : ℕ) (d e : ModuleForm) (u : UseClause) → Leads ms j k → slice_get ms k ≡ Some d → IsIn u d.uses → slice_get ms u.source ≡ Some e → Leads ms j u.source
  lead_on _ _ d e u (straight j c f v is at there) is_d at_u there_u =
      further j c f v u.source is at there (straight v.source d e u is_d at_u there_u)
  lead_on _ _ d e u (further j c f v k is at there rest) is_d at_u there_u =
      further j c f v u.source is at there (lead_on v.source k d e u rest is_d at_u there_u)

  module_at : (s : Search) → length s.marks ≡ length ms → (k : ℕ) → IsMarked s k → (e : ModuleForm) × (slice_get ms k ≡ Some e)
  module_at s count k at = find ms k (subst (λ l. k < l) count (slice_get_within s.marks k true at))
    where
      find : (xs : List ModuleForm) (i : ℕ) → i < length xs → (e : ModuleForm) × (slice_get xs i ≡ Some e)
      find [] i h = absurd (omega (arith, h))
      find (x ∷ xs) zero h = (x, refl)
      find (x ∷ xs) (suc i) h = find xs i (omega (arith, h))

  module _ (s : Search) (rest : List ℕ) (k : ℕ) (popped : s.todo ≡ rest ++ k ∷ []) (w : Walks ms m s) where
    abbrev left : Search
    left = record { marks = s.marks; todo = rest }

    in_todo : (j : ℕ) → IsIn j rest → IsIn j s.todo
    in_todo j is = subst (IsIn j) (sym popped) (IsIn-left rest (k ∷ []) j is)

    last_in : IsIn k s.todo
    last_in = subst (IsIn k) (sym popped) (IsIn-right rest (k ∷ []) k (inl refl))

    rest_or_last : (j : ℕ) → IsIn j s.todo → IsIn j rest ⊎ (j ≡ k)
    rest_or_last j is = elim (IsIn-append rest (k ∷ []) j (subst (IsIn j) popped is)) [ inl a ↦ inl a | inr b ↦ elim b [ inl same ↦ inr same | inr never ↦ absurd never ] ]

    -- a module that is not there is passed over
    pub walk_skip : slice_get ms k ≡ None → Walks ms m left
    walk_skip none = record {
      count = w.count;
      sound = w.sound;
      todo = λ j is. w.todo j (in_todo j is);
      done = λ j h. elim (w.done j h) [
        | inl is ↦ elim (rest_or_last j is) [
          | inl a ↦ inl a
          | inr same ↦ inr (λ d u at_d at_u within. absurd (none_is d (sym none ∙ ap (slice_get ms) (sym same) ∙ at_d)))
        ]
        | inr f ↦ inr f
      ];
    }

    module _ (d : ModuleForm) (at_d : slice_get ms k ≡ Some d) where
      abbrev after : Search
      after = marked_all left d.uses

      g : Grows (Uses d.uses) left after
      g = grows_all d.uses left

      count_after : length after.marks ≡ length ms
      count_after = g.count ∙ w.count

      lead_here : (u : UseClause) (e : ModuleForm) → IsIn u d.uses → slice_get ms u.source ≡ Some e → (k ≡ m) ⊎ IsMarked s k → Leads ms m u.source
      lead_here u e at_u there (inl same) = straight m d e u (ap (slice_get ms) (sym same) ∙ at_d) at_u there
      lead_here u e at_u there (inr at) = lead_on m k d e u (w.sound k at) at_d at_u there

      sound_after : (j : ℕ) → IsMarked after j → Leads ms m j
      sound_after j at = elim (g.new j at) [
        | inl a ↦ w.sound j a
        | inr b ↦ (let e = module_at after count_after j at in
            subst (Leads ms m) b.0.2 (lead_here b.0.0 e.0 b.0.1 (ap (slice_get ms) b.0.2 ∙ e.1) (w.todo k last_in)))
      ]

      todo_after : (j : ℕ) → IsIn j after.todo → (j ≡ m) ⊎ IsMarked after j
      todo_after j is = elim (g.back j is) [
        | inl a ↦ elim (w.todo j (in_todo j a)) [ inl same ↦ inl same | inr at ↦ inr (g.kept j at) ]
        | inr b ↦ inr b
      ]

      abbrev Done : ℕ → Type 0
      Done j = (c : ModuleForm) (u : UseClause) → slice_get ms j ≡ Some c → IsIn u c.uses → u.source < length ms → IsMarked after u.source

      done_here : (j : ℕ) → j ≡ k → Done j
      done_here j same c u at_c at_u within =
          let e : c ≡ d = some_is c d (sym at_c ∙ ap (slice_get ms) same ∙ at_d) in
          let v = value_at s.marks u.source (subst (λ l. u.source < l) (sym w.count) within) in
          g.all u.source (u, subst (λ (x : ModuleForm). IsIn u x.uses) e at_u, refl) v.0 v.1

      done_before : (j : ℕ) → (j ≡ m) ⊎ IsMarked s j → IsIn j after.todo ⊎ Done j
      done_before j h = elim (w.done j h) [
        | inl is ↦ elim (rest_or_last j is) [ inl a ↦ inl (g.todo j a) | inr same ↦ inr (done_here j same) ]
        | inr f ↦ inr (λ c u at_c at_u within. g.kept u.source (f c u at_c at_u within))
      ]

      done_after : (j : ℕ) → (j ≡ m) ⊎ IsMarked after j → IsIn j after.todo ⊎ Done j
      done_after j (inl same) = done_before j (inl same)
      done_after j (inr at) = elim (g.new j at) [ inl a ↦ done_before j (inr a) | inr b ↦ inl b.1 ]

      pub walk_size : unmarked after.marks + length after.todo ≡ unmarked s.marks + length rest
      walk_size = g.size

      pub walk_turn : Walks ms m after
      walk_turn = record { count = count_after; sound = sound_after; todo = todo_after; done = done_after }

    -- a module is looked at, whether or not it is there
    pub walk_by : (o : Option ModuleForm) → slice_get ms k ≡ o → Walks ms m (marked_by left o)
    walk_by None at = walk_skip at
    walk_by (Some d) at = walk_turn d at

    pub size_by : (o : Option ModuleForm) → slice_get ms k ≡ o → unmarked (marked_by left o).marks + length (marked_by left o).todo ≡ unmarked s.marks + length rest
    size_by None at = refl
    size_by (Some d) at = walk_size d at

  pub unmarked_all : (n k : ℕ) → slice_get (replicate n false) k ≡ Some true → ⊥
  unmarked_all zero k at = none_is true at
  unmarked_all (suc n) zero at = true≢false (sym (some_is false true at))
  unmarked_all (suc n) (suc k) at = unmarked_all n k at

  pub walk_begin : Walks ms m (record { marks = replicate (length ms) false; todo = m ∷ [] })
  walk_begin = record {
    count = length-replicate (length ms) false;
    sound = λ k at. absurd (unmarked_all (length ms) k at);
    todo = λ k is. elim is [ inl same ↦ inl same | inr never ↦ absurd never ];
    done = λ k h. elim h [ inl same ↦ inl (inl same) | inr at ↦ absurd (unmarked_all (length ms) k at) ];
  }

  module _ (s : Search) (none : s.todo ≡ []) (w : Walks ms m s) where
    sources : (j : ℕ) → (j ≡ m) ⊎ IsMarked s j → (d e : ModuleForm) (u : UseClause) → slice_get ms j ≡ Some d → IsIn u d.uses → slice_get ms u.source ≡ Some e → IsMarked s u.source
    sources j h d e u at_d at_u there = elim (w.done j h) [
      | inl is ↦ absurd (subst (IsIn j) none is)
      | inr f ↦ f d u at_d at_u (slice_get_within ms u.source e there)
    ]

    reached : (j k : ℕ) → (j ≡ m) ⊎ IsMarked s j → Leads ms j k → IsMarked s k
    reached _ _ h (straight j d e u is at there) = sources j h d e u is at there
    reached _ _ h (further j d e u k is at there rest) = reached u.source k (inr (sources j h d e u is at there)) rest

    pub walk_to : IsMarked s m → Leads ms m m
    walk_to at = w.sound m at

    pub walk_from : Leads ms m m → IsMarked s m
    walk_from leads = reached m m (inl refl) leads

pub marked_is : (o : Option Bool) → is_marked o ≡ true → o ≡ Some true
marked_is None e = absurd (true≢false (sym e))
marked_is (Some true) e = refl
marked_is (Some false) e = absurd (true≢false (sym e))

pub no_length : (xs : List ℕ) → length xs ≡ 0 → xs ≡ []
no_length [] e = refl
no_length (x ∷ xs) e = absurd (omega (arith, e))
