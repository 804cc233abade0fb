-- Straight code, by how many operands and lists on the side lie there while it runs.
use Rattle.std.proofs.Common.{◌≡◌, ℕ, zero, suc, ◌+◌, ◌-◌, ◌≤◌, Bool, true, false, List, [], ◌∷◌, Option, Some, None, refl, sym, ap, subst, arith}
use Rattle.std.specs.Prelude.{nat_le}
use Rattle.std.proofs.lemmas.Option.{same_Some, none-some}
use Rattle.dy_code.specs.Fetching.{Instruction}
use Rattle.dy_code.specs.Fetching as instr
use Rattle.dy_code.specs.Layouts.{Layout}
use Rattle.dy_lowered.specs.Flat.{Plain, Code}
use Rattle.dy_lowering_whole.specs.valid.Shapes.{Lays}
use Rattle.dy_lowering_whole.proofs.valid.Laying.{Goes, Stays, Takes, lays_nothing, lays_first, goes_const, goes_local, goes_set_local, goes_new_cell, goes_cell_get, goes_cell_set, goes_free, goes_free_get, goes_free_set, goes_op, goes_push, goes_restore, goes_save, goes_spread, goes_values}

-- so many operands, and so many lists on the side
abbrev pub lay : ℕ → ℕ → Layout → Layout
lay n s l = record l { operands = n; saved = s }

-- so many more
abbrev pub more : ℕ → ℕ → ℕ
more zero n = n
more (suc k) n = suc (more k n)

pub more_is : (k n : ℕ) → more k n ≡ k + n
more_is zero n = omega arith
more_is (suc k) n = omega (arith, more_is k n)

-- operands and lists over those that lay there
abbrev pub Lying : Type 0
Lying = ℕ × ℕ

abbrev taken : Bool → ℕ → Lying → Option Lying
taken true n a = Some (a.0 - n, a.1)
taken false n a = None

abbrev restored : ℕ → ℕ → Option Lying
restored n zero = None
restored n (suc s) = Some (n, s)

abbrev pub moved : Instruction → Lying → Option Lying
moved (instr.Const value) a = Some a
moved (instr.Local local) a = Some a
moved (instr.SetLocal local) a = Some a
moved (instr.NewCell local) a = Some a
moved (instr.CellGet local) a = Some a
moved (instr.FreeGet capture) a = Some a
moved instr.Push a = Some (suc a.0, a.1)
moved (instr.Values count) a = taken (nat_le count a.0) count a
moved (instr.Spread count false) a = Some (count + a.0, a.1)
moved (instr.Op operation count) a = taken (nat_le count a.0) count a
moved instr.Save a = Some (a.0, suc a.1)
moved instr.Restore a = restored a.0 a.1
moved _ a = None

abbrev pub along : Option Lying → (Lying → Option Lying) → Option Lying
along None rest = None
along (Some a) rest = rest a

abbrev pub moves : Code → Lying → Option Lying
moves [] a = Some a
moves (Plain i ∷ code) a = along (moved i a) (moves code)
moves _ a = None

le_of : (n m : ℕ) → nat_le n m ≡ true → n ≤ m
le_of n m e = grind (arith, e)

module _ (n s : ℕ) (l : Layout) where
  abbrev pub over : Lying → Layout
  over a = lay (more a.0 n) (more a.1 s) l

  to_same : (i : Instruction) (a b c : Lying) → Some b ≡ Some c → Goes i (over a) (over b) → Goes i (over a) (over c)
  to_same i a b c e h = subst (λ (m : Lying). Goes i (over a) (over m)) (same_Some b c e) h

  stays : (i : Instruction) (a b : Lying) → Some a ≡ Some b → Stays i → Goes i (over a) (over b)
  stays i a b e h = to_same i a a b e (h (over a))

  takes : (count : ℕ) (i : Instruction) (a b : Lying) → taken (nat_le count a.0) count a ≡ Some b → Takes count i → Goes i (over a) (over b)
  takes count i a b e h = step (nat_le count a.0) refl e
    where
      step : (c : Bool) → nat_le count a.0 ≡ c → taken c count a ≡ Some b → Goes i (over a) (over b)
      step true f e =
          let low = le_of count a.0 f in
          to_same i a (a.0 - count, a.1) b e (h (more a.0 n) (more (a.0 - count) n) (lay 0 (more a.1 s) l) (omega (arith, low, more_is a.0 n, more_is (a.0 - count) n)))
      step false f e = absurd (none-some b e)

  restores : (k t : ℕ) (b : Lying) → restored k t ≡ Some b → Goes instr.Restore (over (k, t)) (over b)
  restores k zero b e = absurd (none-some b e)
  restores k (suc t) b e = to_same instr.Restore (k, suc t) (k, t) b e (goes_restore (over (k, t)))

  goes_moved : (i : Instruction) (a b : Lying) → moved i a ≡ Some b → Goes i (over a) (over b)
  goes_moved (instr.Const value) a b e = stays (instr.Const value) a b e (goes_const value)
  goes_moved (instr.Local local) a b e = stays (instr.Local local) a b e (goes_local local)
  goes_moved (instr.SetLocal local) a b e = stays (instr.SetLocal local) a b e (goes_set_local local)
  goes_moved (instr.NewCell local) a b e = stays (instr.NewCell local) a b e (goes_new_cell local)
  goes_moved (instr.CellGet local) a b e = stays (instr.CellGet local) a b e (goes_cell_get local)
  goes_moved (instr.FreeGet capture) a b e = stays (instr.FreeGet capture) a b e (goes_free_get capture)
  goes_moved instr.Push a b e = to_same instr.Push a (suc a.0, a.1) b e (goes_push (more a.0 n) (suc (more a.0 n)) (lay 0 (more a.1 s) l) (omega arith))
  goes_moved (instr.Values count) a b e = takes count (instr.Values count) a b e (goes_values count)
  goes_moved (instr.Spread count false) a b e =
      to_same (instr.Spread count false) a (count + a.0, a.1) b e (goes_spread count (more a.0 n) (more (count + a.0) n) (lay 0 (more a.1 s) l) (omega (arith, more_is a.0 n, more_is (count + a.0) n)))
  goes_moved (instr.Spread count true) a b e = absurd (none-some b e)
  goes_moved (instr.Op operation count) a b e = takes count (instr.Op operation count) a b e (goes_op operation count)
  goes_moved instr.Save a b e = to_same instr.Save a (a.0, suc a.1) b e (goes_save (over a))
  goes_moved instr.Restore a b e = restores a.0 a.1 b e
  goes_moved _ a b e = absurd (none-some b e)

  pub straight : (code : Code) (a b : Lying) → moves code a ≡ Some b → Lays code (over a) (over b)
  straight [] a b e = subst (λ (m : Lying). Lays [] (over a) (over m)) (same_Some a b e) (lays_nothing (over a))
  straight (Plain i ∷ code) a b e = step (moved i a) refl e (λ m. straight code m b)
    where
      step : (o : Option Lying) → moved i a ≡ o → along o (moves code) ≡ Some b → ((m : Lying) → moves code m ≡ Some b → Lays code (over m) (over b)) → Lays (Plain i ∷ code) (over a) (over b)
      step None f e others = absurd (none-some b e)
      step (Some m) f e others = lays_first i code (over a) (over m) (over b) (goes_moved i a m f) (others m e)
  straight (_ ∷ code) a b e = absurd (none-some b e)
