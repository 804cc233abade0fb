-- Where no module stands on a ring, the tables of all modules are made.
use Rattle.std.proofs.Common.{◌≡◌, inl, inr, ℕ, zero, suc, ◌<◌, Bool, true, false, true≢false, List, length, replicate, Option, Some, slice_get, slice_set, refl, sym, subst, ◌∙◌, arith}
use Rattle.std.proofs.lemmas.Option.{slice_get_cases}
use Rattle.dy_modules.specs.declared.clause.UseClause.{UseClause}
use Rattle.dy_modules.specs.declared.clause.ModuleForm.{ModuleForm}
use Rattle.dy_modules.specs.declared.rounds.ModuleTables.{ModuleTables}
use Rattle.dy_modules.specs.Clauses.{IsIn}
use Rattle.dy_modules.specs.Sees.{IsGrounded, grounded}
use Rattle.dy_modules.specs.Order.{is_made, is_ready}
use Rattle.dy_modules.proofs.Rows.{some_is, none_is}
use Rattle.dy_modules.proofs.Loop.{made_has, ready_has, stuck_has}
use Rattle.dy_modules.proofs.Clear.{length-replicate}
use Rattle.dy_module_numbers.specs.Rings.{Leads, straight, further}
use Rattle.dy_module_numbers.proofs.Rings.{unmarked, set_back, set_length, set_fewer, value_at}
use Rattle.dy_graph.specs.Faults.{AreMade}

-- chains that follow each other
pub leads_on : (ms : List ModuleForm) (a b c : ℕ) → Leads ms a b → Leads ms b c → Leads ms a c
leads_on ms _ _ c (straight m d e u at is there) rest = further m d e u c at is there rest
leads_on ms _ _ c (further m d e u b at is there chain) rest = further m d e u c at is there (leads_on ms u.source b c chain rest)

-- what leads to no ring stands on none
abbrev OffRing : List ModuleForm → ℕ → Type 0
OffRing ms m = (k : ℕ) → Leads ms m k → k ≡ m → ⊥

no_chain : (ms : List ModuleForm) (m k : ℕ) (d : ModuleForm) → slice_get ms m ≡ Some d → ((u : UseClause) → IsIn u d.uses → OffRing ms u.source) → Leads ms m k → k ≡ m → ⊥
no_chain ms _ _ d at below (straight m c e u here is there) same =
    let in_d = subst (λ (x : ModuleForm). IsIn u x.uses) (some_is c d (sym here ∙ at)) is in
    below u in_d u.source (subst (λ x. Leads ms x u.source) (sym same) (straight m c e u here is there)) refl
no_chain ms _ _ d at below (further m c e u k here is there rest) same =
    let in_d = subst (λ (x : ModuleForm). IsIn u x.uses) (some_is c d (sym here ∙ at)) is in
    below u in_d u.source (leads_on ms u.source m u.source (subst (λ x. Leads ms u.source x) same rest) (straight m c e u here is there)) refl

pub off_ring : (ms : List ModuleForm) (m : ℕ) → IsGrounded ms m → OffRing ms m
off_ring ms _ (grounded m d at below) k leads same = no_chain ms m k d at (λ u is. off_ring ms u.source (below u is)) leads same

-- a module that uses another one of which the tables are made
pub source_grounded : (ms : List ModuleForm) (m : ℕ) (d : ModuleForm) (u : UseClause) → IsGrounded ms m → slice_get ms m ≡ Some d → IsIn u d.uses → IsGrounded ms u.source
source_grounded ms _ d u (grounded m c at below) here is = below u (subst (λ (x : ModuleForm). IsIn u x.uses) (some_is d c (sym here ∙ at)) is)

module _ (ms : List ModuleForm) (done : List (Option ModuleTables)) (made : AreMade ms done) where
  pub grounded_of : (m : ℕ) → is_made (slice_get done m) ≡ true → IsGrounded ms m
  grounded_of m e = let w = made_has (slice_get done m) e in (made.right.each m w.0 w.1).grounded

  pub source_made : (m : ℕ) (d : ModuleForm) (u : UseClause) → IsGrounded ms m → slice_get ms m ≡ Some d → IsIn u d.uses → is_made (slice_get done u.source) ≡ true
  source_made m d u g at is = made.all u.source (source_grounded ms m d u g at is)

  -- a module whose sources are all made is made
  made_of : (m : ℕ) (d : ModuleForm) → slice_get ms m ≡ Some d → is_ready done d.uses ≡ true → is_made (slice_get done m) ≡ true
  made_of m d at ready = made.all m (grounded m d at (λ u is. grounded_of u.source (ready_has done d.uses ready u is)))

  not_true : (b : Bool) → (b ≡ true → ⊥) → b ≡ false
  not_true true never = absurd (never refl)
  not_true false never = refl

  -- and one that is not has a source that is not
  stuck_at : (m : ℕ) (d : ModuleForm) → slice_get ms m ≡ Some d → is_made (slice_get done m) ≡ false → (u : UseClause) × IsIn u d.uses × (is_made (slice_get done u.source) ≡ false)
  stuck_at m d at never = stuck_has done d.uses (not_true (is_ready done d.uses) (λ e. true≢false (sym (made_of m d at e) ∙ never)))

  module _ (no_ring : (m : ℕ) → Leads ms m m → ⊥) (inside : (m : ℕ) (d : ModuleForm) (u : UseClause) → slice_get ms m ≡ Some d → IsIn u d.uses → u.source < length ms) where
    at_of : (m : ℕ) → m < length ms → (d : ModuleForm) × (slice_get ms m ≡ Some d)
    at_of m h = elim (slice_get_cases ms m).1 [ inl a ↦ (a.0, a.2) | inr a ↦ absurd (omega (arith, h, a.0)) ]

    -- a walk over modules that are not made, where those before it are marked
    abbrev Walk : ℕ → Type 0
    Walk fuel = (marks : List Bool) (m : ℕ) → length marks ≡ length ms → unmarked marks ≡ fuel → m < length ms → is_made (slice_get done m) ≡ false
        → ((k : ℕ) → slice_get marks k ≡ Some true → Leads ms k m) → ⊥

    module _ (fuel : ℕ) (rest : (j : ℕ) → suc j ≡ fuel → Walk j) (marks : List Bool) (m : ℕ) (count : length marks ≡ length ms) (size : unmarked marks ≡ fuel) (within : m < length ms)
        (never : is_made (slice_get done m) ≡ false) (leads : (k : ℕ) → slice_get marks k ≡ Some true → Leads ms k m) where
      by_mark : (b : Bool) → slice_get marks m ≡ Some b → ⊥
      by_mark true at = no_ring m (leads m at)
      by_mark false at =
          let d = at_of m within in
          let s = stuck_at m d.0 d.1 never in
          let there = inside m d.0 s.0 d.1 s.1 in
          let e = at_of s.0.source there in
          let step = straight m d.0 e.0 s.0 d.1 s.1 e.1 in
          rest (unmarked (slice_set marks m true)) (set_fewer marks m at ∙ size) (slice_set marks m true) s.0.source (set_length marks m ∙ count) refl there s.2
          (λ k is. elim (set_back marks m k is) [
            | inl before ↦ leads_on ms k m s.0.source (leads k before) step
            | inr same ↦ subst (λ x. Leads ms x s.0.source) same step
          ])

      next : ⊥
      next = let mark = value_at marks m (subst (λ l. m < l) (sym count) within) in by_mark mark.0 mark.1

    walk : (fuel : ℕ) → Walk fuel
    walk zero = next zero (λ j e. absurd (omega (arith, e)))
    walk (suc fuel) = next (suc fuel) (λ j e. subst Walk (omega (arith, e)) (walk fuel))

    none_marked : (n k : ℕ) → slice_get (replicate n false) k ≡ Some true → ⊥
    none_marked zero k at = none_is true at
    none_marked (suc n) zero at = true≢false (sym (some_is false true at))
    none_marked (suc n) (suc k) at = none_marked n k at

    made_or : (m : ℕ) → m < length ms → (b : Bool) → is_made (slice_get done m) ≡ b → b ≡ true
    made_or m within true e = refl
    made_or m within false e = absurd (walk (unmarked (replicate (length ms) false)) (replicate (length ms) false) m (length-replicate (length ms) false) refl within e (λ k at. absurd (none_marked (length ms) k at)))

    pub all_are_made : (m : ℕ) → m < length ms → is_made (slice_get done m) ≡ true
    all_are_made m within = made_or m within (is_made (slice_get done m)) refl
