-- Instructions one by one, and code behind other code.
use Rattle.std.proofs.Common.{◌≡◌, ℕ, zero, suc, ◌+◌, ◌-◌, ◌<◌, ◌≤◌, Bool, true, false, List, [], ◌∷◌, ◌++◌, length, Option, Some, refl, sym, ap, ◌∙◌, subst, arith, length-append}
use Rattle.std.specs.Prelude.{nat_le}
use Rattle.std.specs.Option.{option_map}
use Rattle.dy_base.specs.declared.ids.BindingId.{BindingId}
use Rattle.dy_base.specs.declared.ids.GenericId.{GenericId}
use Rattle.dy_base.specs.declared.ids.MethodId.{MethodId}
use Rattle.dy_term.specs.declared.literal.Literal.{Literal}
use Rattle.dy_term.specs.declared.types.DyType.{DyType}
use Rattle.dy_term.specs.declared.types.Params.{Params}
use Rattle.dy_term.specs.declared.types.Results.{Results}
use Rattle.dy_code.specs.Fetching.{Instruction}
use Rattle.dy_code.specs.Fetching as instr
use Rattle.dy_code.specs.Layouts.{Layout, Row, Leaves, Cleans, Handles, Catches, Way, less_if, takes, with_row, unhandled, follows, exits_by, exits}
use Rattle.dy_code.specs.Validity.{Every, Known, IsLower, Falls}
use Rattle.dy_lowered.specs.Flat.{Plain, Code, one}
use Rattle.dy_lowered.specs.Stretches as stretches
use Rattle.dy_lowering_whole.specs.valid.Shapes.{Shape, HasAt, Has, AreFine, OnlyHandlers, IsUnder, Lays, IsEven}

abbrev pub shape : Layout → ℕ → Shape
shape layout rank = record { layout = layout; rank = rank }

pub every_append : {A : Type 0} (P : A → Type 0) (xs ys : List A) → Every P xs → Every P ys → Every P (xs ++ ys)
every_append P [] ys one two = two
every_append P (x ∷ xs) ys one two = (one.0, every_append P xs ys one.1 two)

pub every_under : (n m : ℕ) (shapes : List Shape) → n ≤ m → Every (IsUnder n) shapes → Every (IsUnder m) shapes
every_under n m [] h all = tt
every_under n m (s ∷ shapes) h all = (omega (arith, h, all.0), every_under n m shapes h all.1)

pub has_at : (known : Known) (p q : ℕ) (s : Shape) → p ≡ q → HasAt known p s → HasAt known q s
has_at known p q s e h = subst (λ (n : ℕ). HasAt known n s) e h

pub has_front : (known : Known) (place : ℕ) (a b : List Shape) → Has known place (a ++ b) → Has known place a
has_front known place [] b h = tt
has_front known place (s ∷ a) b h = (h.0, has_front known (place + 1) a b h.1)

pub has_back : (known : Known) (place n : ℕ) (a b : List Shape) → length a ≡ n → Has known place (a ++ b) → Has known (place + n) b
has_back known place n [] b e h =
    let same : place ≡ place + n = omega (arith, e) in
    subst (λ (m : ℕ). Has known m b) same h
has_back known place n (s ∷ a) b e h =
    let same : place + 1 + length a ≡ place + n = omega (arith, e) in
    subst (λ (m : ℕ). Has known m b) same (has_back known (place + 1) (length a) a b refl h.1)

pub fine_at : (known : Known) (p q : ℕ) (shapes : List Shape) (code : Code) → p ≡ q → AreFine known p shapes code → AreFine known q shapes code
fine_at known p q shapes code e h = subst (λ (n : ℕ). AreFine known n shapes code) e h

pub fine_join : (known : Known) (place : ℕ) (a b : List Shape) (c d : Code) → AreFine known place a c → AreFine known (place + length c) b d → AreFine known place (a ++ b) (c ++ d)
fine_join known place [] b [] d h k = let same : place + 0 ≡ place = omega arith in fine_at known (place + 0) place b d same k
fine_join known place [] b (i ∷ c) d h k = absurd h
fine_join known place (s ∷ a) b [] d h k = absurd h
fine_join known place (s ∷ a) b (i ∷ c) d h k =
    let same : place + length (i ∷ c) ≡ place + 1 + length c = omega arith in
    (h.0, fine_join known (place + 1) a b c d h.1 (fine_at known (place + length (i ∷ c)) (place + 1 + length c) b d same k))

-- handlers alone lead nowhere
pub no_exits : (l : Layout) (rows : List Row) → OnlyHandlers rows → exits_by l rows ≡ []
no_exits l [] h = refl
no_exits l (Handles ∷ rows) h = no_exits l rows h
no_exits l (Leaves to ∷ rows) h = absurd h
no_exits l (Cleans to ∷ rows) h = absurd h
no_exits l (Catches to ∷ rows) h = absurd h

pub with_exits : (P : Way → Type 0) (ways : List Way) (l : Layout) → OnlyHandlers l.rows → Every P ways → Every P (ways ++ exits l)
with_exits P ways l only all = every_append P ways (exits l) all (subst (Every P) (sym (no_exits l l.rows only)) tt)

-- nothing
pub lays_nothing : (l : Layout) → Lays [] l l
lays_nothing l place rank =
    let same : place + 0 ≡ place = omega arith in
    record {
      shapes = [];
      start = rank;
      long = refl;
      low = omega arith;
      under = tt;
      keeps = λ h. h;
      starts = λ known has end. has_at known (place + 0) place (shape l rank) same end;
      fine = λ known has end only. tt;
    }

-- an instruction that the next one follows
pub record Goes (i : Instruction) (from to : Layout) : Type 0 where
  pub follow : (next : ℕ) → follows i next from ≡ Some ((next, to) ∷ [])
  pub places : (next : ℕ) → next ∷ [] ≡ stretches.ways next i
  pub falls : (known : Known) (rank : ℕ) (ways : List Way) → (0 < rank) × Every (IsLower known rank) ways → Falls known rank i ways
  pub keeps : OnlyHandlers from.rows → OnlyHandlers to.rows

pub lays_one : (i : Instruction) (from to : Layout) → Goes i from to → Lays (one i) from to
lays_one i from to goes place rank =
    let next : place + length (one i) ≡ place + 1 = omega arith in
    record {
      shapes = shape from (rank + 1) ∷ [];
      start = rank + 1;
      long = refl;
      low = omega arith;
      under = (omega arith, tt);
      keeps = goes.keeps;
      starts = λ known has end. has.0;
      fine = λ known has end only.
          let to_next = has_at known (place + length (one i)) (place + 1) (shape to rank) next end in
          let behind = to_next.1 in (
            record {
              ways = (place + 1, to) ∷ [];
              follow = goes.follow (place + 1);
              places = goes.places (place + 1);
              arrive = (to_next.0, tt);
              handlers = only;
              falls = goes.falls known (rank + 1) ((place + 1, to) ∷ []) (omega arith, (omega (arith, behind), tt));
            },
            tt,
          );
    }

-- code behind other code
pub lays_join : (first second : Code) (from through to : Layout) → Lays first from through → Lays second through to → Lays (first ++ second) from to
lays_join first second from through to a b place rank =
    let y = b (place + length first) rank in
    let x = a place y.start in
    let long = length-append first second in
    let end_is : place + length (first ++ second) ≡ place + length first + length second = omega (arith, long) in
    record {
      shapes = x.shapes ++ y.shapes;
      start = x.start;
      long = length-append x.shapes y.shapes ∙ omega (arith, x.long, y.long, long);
      low = omega (arith, x.low, y.low, long);
      under = every_append (IsUnder (rank + length (first ++ second))) x.shapes y.shapes
          (every_under (y.start + length first) (rank + length (first ++ second)) x.shapes (omega (arith, y.low, long)) x.under)
          (every_under (rank + length second) (rank + length (first ++ second)) y.shapes (omega (arith, long)) y.under);
      keeps = λ h. y.keeps (x.keeps h);
      starts = λ known has end.
          let last = has_at known (place + length (first ++ second)) (place + length first + length second) (shape to rank) end_is end in
          x.starts known (has_front known place x.shapes y.shapes has) (y.starts known (has_back known place (length first) x.shapes y.shapes x.long has) last);
      fine = λ known has end only.
          let last = has_at known (place + length (first ++ second)) (place + length first + length second) (shape to rank) end_is end in
          let front = has_front known place x.shapes y.shapes has in
          let back = has_back known place (length first) x.shapes y.shapes x.long has in
          fine_join known place x.shapes y.shapes first second (x.fine known front (y.starts known back last) only) (y.fine known back last (x.keeps only));
    }

-- one instruction before other code
pub lays_first : (i : Instruction) (code : Code) (from through to : Layout) → Goes i from through → Lays code through to → Lays (Plain i ∷ code) from to
lays_first i code from through to goes h = lays_join (one i) code from through to (lays_one i from through goes) h

pub lays_last : (code : Code) (i : Instruction) (from through to : Layout) → Lays code from through → Goes i through to → Lays (code ++ one i) from to
lays_last code i from through to h goes = lays_join code (one i) from through to h (lays_one i through to goes)

-- layouts with so many operands
abbrev pub at : ℕ → Layout → Layout
at n l = record l { operands = n }

pub lays_from : (code : Code) (n m : ℕ) (l to : Layout) → n ≡ m → Lays code (at n l) to → Lays code (at m l) to
lays_from code n m l to e h = subst (λ (k : ℕ). Lays code (at k l) to) e h

pub lays_to : (code : Code) (n m : ℕ) (from l : Layout) → n ≡ m → Lays code from (at n l) → Lays code from (at m l)
lays_to code n m from l e h = subst (λ (k : ℕ). Lays code from (at k l)) e h

pub takes_at : (n k o : ℕ) (l : Layout) → k ≡ n + o → takes n (at k l) ≡ Some (at o l)
takes_at n k o l e =
    let enough : nat_le n k ≡ true = le_true n k (omega (arith, e)) in
    let left : k - n ≡ o = omega (arith, e) in
    ap (λ (b : Bool). option_map (λ (m : ℕ). at m l) (less_if b n k)) enough ∙ ap (λ (m : ℕ). Some (at m l)) left
  where
    le_true : (n m : ℕ) → n ≤ m → nat_le n m ≡ true
    le_true n m h = grind (arith, h)

abbrev way_on : ℕ → Layout → Option (List Way)
way_on next l = Some ((next, l) ∷ [])

-- an instruction that changes nothing in the frame but the register and the locals
abbrev pub Stays : Instruction → Type 0
Stays i = (l : Layout) → Goes i l l

-- one that takes operands
abbrev pub Takes : ℕ → Instruction → Type 0
Takes n i = (k o : ℕ) (l : Layout) → k ≡ n + o → Goes i (at k l) (at o l)

-- one that puts one there, or several
abbrev pub Puts : ℕ → Instruction → Type 0
Puts n i = (k o : ℕ) (l : Layout) → o ≡ n + k → Goes i (at k l) (at o l)

abbrev taken : ℕ → Option Layout → Option (List Way)
taken next o = option_map (λ (m : Layout). (next, m) ∷ []) o

pub goes_const : (literal : Literal) → Stays (instr.Const literal)
goes_const literal l = record { follow = λ next. refl; places = λ next. refl; falls = λ known rank ways h. h; keeps = λ h. h }

pub goes_local : (local : ℕ) → Stays (instr.Local local)
goes_local local l = record { follow = λ next. refl; places = λ next. refl; falls = λ known rank ways h. h; keeps = λ h. h }

pub goes_set_local : (local : ℕ) → Stays (instr.SetLocal local)
goes_set_local local l = record { follow = λ next. refl; places = λ next. refl; falls = λ known rank ways h. h; keeps = λ h. h }

pub goes_new_cell : (local : ℕ) → Stays (instr.NewCell local)
goes_new_cell local l = record { follow = λ next. refl; places = λ next. refl; falls = λ known rank ways h. h; keeps = λ h. h }

pub goes_cell_get : (local : ℕ) → Stays (instr.CellGet local)
goes_cell_get local l = record { follow = λ next. refl; places = λ next. refl; falls = λ known rank ways h. h; keeps = λ h. h }

pub goes_cell_set : (local : ℕ) → Stays (instr.CellSet local)
goes_cell_set local l = record { follow = λ next. refl; places = λ next. refl; falls = λ known rank ways h. h; keeps = λ h. h }

pub goes_free : (capture : ℕ) → Stays (instr.Free capture)
goes_free capture l = record { follow = λ next. refl; places = λ next. refl; falls = λ known rank ways h. h; keeps = λ h. h }

pub goes_free_get : (capture : ℕ) → Stays (instr.FreeGet capture)
goes_free_get capture l = record { follow = λ next. refl; places = λ next. refl; falls = λ known rank ways h. h; keeps = λ h. h }

pub goes_free_set : (capture : ℕ) → Stays (instr.FreeSet capture)
goes_free_set capture l = record { follow = λ next. refl; places = λ next. refl; falls = λ known rank ways h. h; keeps = λ h. h }

pub goes_global : (named : BindingId) → Stays (instr.Global named)
goes_global named l = record { follow = λ next. refl; places = λ next. refl; falls = λ known rank ways h. h; keeps = λ h. h }

pub goes_set_global : (named : BindingId) → Stays (instr.SetGlobal named)
goes_set_global named l = record { follow = λ next. refl; places = λ next. refl; falls = λ known rank ways h. h; keeps = λ h. h }

pub goes_check : (type : DyType) → Stays (instr.Check type)
goes_check type l = record { follow = λ next. refl; places = λ next. refl; falls = λ known rank ways h. h; keeps = λ h. h }

pub goes_check_results : (results : Results) → Stays (instr.CheckResults results)
goes_check_results results l = record { follow = λ next. refl; places = λ next. refl; falls = λ known rank ways h. h; keeps = λ h. h }

pub goes_args : (params : Params) → Stays (instr.Args params)
goes_args params l = record { follow = λ next. refl; places = λ next. refl; falls = λ known rank ways h. h; keeps = λ h. h }

pub goes_next_value : Stays (instr.NextValue)
goes_next_value l = record { follow = λ next. refl; places = λ next. refl; falls = λ known rank ways h. h; keeps = λ h. h }

pub goes_tick : Stays instr.Tick
goes_tick l = record { follow = λ next. refl; places = λ next. refl; falls = λ known rank ways h. tt; keeps = λ h. h }

pub goes_values : (count : ℕ) → Takes count (instr.Values count)
goes_values count k o l e = record { follow = λ next. ap (taken next) (takes_at count k o l e); places = λ next. refl; falls = λ known rank ways h. h; keeps = λ h. h }

pub goes_closure : (body count : ℕ) → Takes count (instr.Closure body count)
goes_closure body count k o l e = record { follow = λ next. ap (taken next) (takes_at count k o l e); places = λ next. refl; falls = λ known rank ways h. h; keeps = λ h. h }

pub goes_search : (generic : GenericId) (count : ℕ) → Takes count (instr.Search generic count)
goes_search generic count k o l e = record { follow = λ next. ap (taken next) (takes_at count k o l e); places = λ next. refl; falls = λ known rank ways h. h; keeps = λ h. h }

pub goes_call_direct : (sorted ambiguous : List MethodId) (count : ℕ) → Takes count (instr.CallDirect sorted ambiguous count)
goes_call_direct sorted ambiguous count k o l e = record { follow = λ next. ap (taken next) (takes_at count k o l e); places = λ next. refl; falls = λ known rank ways h. h; keeps = λ h. h }

pub goes_call_known : (named : BindingId) (count : ℕ) → Takes count (instr.CallKnown named count)
goes_call_known named count k o l e = record { follow = λ next. ap (taken next) (takes_at count k o l e); places = λ next. refl; falls = λ known rank ways h. h; keeps = λ h. h }

pub goes_call_value : (count : ℕ) → Takes (suc count) (instr.CallValue count)
goes_call_value count k o l e = record { follow = λ next. ap (taken next) (takes_at (suc count) k o l e); places = λ next. refl; falls = λ known rank ways h. h; keeps = λ h. h }

pub goes_op : (operation count : ℕ) → Takes count (instr.Op operation count)
goes_op operation count k o l e = record { follow = λ next. ap (taken next) (takes_at count k o l e); places = λ next. refl; falls = λ known rank ways h. h; keeps = λ h. h }

pub goes_next : (count : ℕ) → Takes count (instr.Next count)
goes_next count k o l e = record { follow = λ next. ap (taken next) (takes_at count k o l e); places = λ next. refl; falls = λ known rank ways h. h; keeps = λ h. h }

pub goes_push : Puts 1 instr.Push
goes_push k o l e = record { follow = λ next. ap (λ (n : ℕ). way_on next (at n l)) (sym e); places = λ next. refl; falls = λ known rank ways h. h; keeps = λ h. h }

pub goes_spread : (count : ℕ) → Puts count (instr.Spread count false)
goes_spread count k o l e = record { follow = λ next. ap (λ (n : ℕ). way_on next (at n l)) (sym e); places = λ next. refl; falls = λ known rank ways h. h; keeps = λ h. h }

pub goes_collect : (count : ℕ) → Puts (suc count) (instr.Spread count true)
goes_collect count k o l e = record { follow = λ next. ap (λ (n : ℕ). way_on next (at n l)) (sym e); places = λ next. refl; falls = λ known rank ways h. h; keeps = λ h. h }

-- the side list
abbrev pub saving : Layout → Layout
saving l = record l { saved = suc l.saved }

pub goes_save : (l : Layout) → Goes instr.Save l (saving l)
goes_save l = record { follow = λ next. refl; places = λ next. refl; falls = λ known rank ways h. h; keeps = λ h. h }

pub goes_restore : (l : Layout) → Goes instr.Restore (saving l) l
goes_restore l = record { follow = λ next. refl; places = λ next. refl; falls = λ known rank ways h. h; keeps = λ h. h }

-- handlers
abbrev pub handled : ℕ → List Row → List Row
handled zero rows = rows
handled (suc n) rows = handled n (Handles ∷ rows)

abbrev pub handling : ℕ → Layout → Layout
handling n l = record l { rows = handled n l.rows }

handled_first : (n : ℕ) (rows : List Row) → handled n (Handles ∷ rows) ≡ Handles ∷ handled n rows
handled_first zero rows = refl
handled_first (suc n) rows = handled_first n (Handles ∷ rows)

unhandled_all : (n : ℕ) (rows : List Row) → unhandled n (handled n rows) ≡ Some rows
unhandled_all zero rows = refl
unhandled_all (suc n) rows = ap (unhandled (suc n)) (handled_first n rows) ∙ unhandled_all n rows

only_handled : (n : ℕ) (rows : List Row) → OnlyHandlers rows → OnlyHandlers (handled n rows)
only_handled zero rows h = h
only_handled (suc n) rows h = only_handled n (Handles ∷ rows) h

only_within : (n : ℕ) (rows : List Row) → OnlyHandlers (handled n rows) → OnlyHandlers rows
only_within zero rows h = h
only_within (suc n) rows h = only_within n (Handles ∷ rows) h

pub goes_handle : (condition : DyType) (k o : ℕ) (l : Layout) → k ≡ 1 + o → Goes (instr.Handle condition) (at k l) (handling 1 (at o l))
goes_handle condition k o l e = record {
  follow = λ next. ap (λ (m : Option Layout). taken next (option_map (with_row Handles) m)) (takes_at 1 k o l e);
  places = λ next. refl;
  falls = λ known rank ways h. h;
  keeps = λ h. h;
}

pub goes_unhandle : (count : ℕ) (l : Layout) → Goes (instr.Unhandle count) (handling count l) l
goes_unhandle count l = record {
  follow = λ next. ap (λ (rows : Option (List Row)). taken next (option_map (λ (r : List Row). record l { rows = r }) rows)) (unhandled_all count l.rows);
  places = λ next. refl;
  falls = λ known rank ways h. h;
  keeps = only_within count l.rows;
}

-- An error that no instruction follows.
pub goes_no_match : IsEven (one instr.NoMatch)
goes_no_match l place rank =
    record {
      shapes = shape l (rank + 1) ∷ [];
      start = rank + 1;
      long = refl;
      low = omega arith;
      under = (omega arith, tt);
      keeps = λ h. h;
      starts = λ known has end. has.0;
      fine = λ known has end only. (
        record {
          ways = [];
          follow = refl;
          places = refl;
          arrive = tt;
          handlers = only;
          falls = (omega arith, tt);
        },
        tt,
      );
    }
