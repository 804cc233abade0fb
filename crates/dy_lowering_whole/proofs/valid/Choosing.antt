-- Code that goes on at one of two places, choices and loops.
use Rattle.std.proofs.Common.{◌≡◌, ℕ, ◌+◌, ◌-◌, ◌≤◌, false, negsuc, List, [], ◌∷◌, ◌++◌, length, refl, sym, ◌∙◌, subst, arith, append_assoc, length-append}
use Rattle.dy_code.specs.Fetching as instr
use Rattle.dy_code.specs.Layouts.{Layout, Way}
use Rattle.dy_code.specs.Validity.{Every, Known}
use Rattle.dy_lowered.specs.Flat.{Plain, Jump, Code, past, past_if_false}
use Rattle.dy_lowered.specs.Parts.{truth, choice, loop}
use Rattle.dy_lowering_whole.specs.valid.Shapes.{Shape, HasAt, Has, AreFine, OnlyHandlers, IsUnder, Lays, IsEven}
use Rattle.dy_lowering_whole.proofs.valid.Laying.{shape, every_append, every_under, has_at, has_front, has_back, fine_join}

-- Code at a place, behind which lies one thing, and another so many places further on.
pub record Split (place : ℕ) (code : Code) (distance : ℕ) (from near far : Layout) (rank other most : ℕ) : Type 0 where
  pub shapes : List Shape
  pub start : ℕ
  pub long : length shapes ≡ length code
  pub low : start ≤ most + length code
  pub under : Every (IsUnder (most + length code)) shapes
  pub keeps_near : OnlyHandlers from.rows → OnlyHandlers near.rows
  pub keeps_far : OnlyHandlers from.rows → OnlyHandlers far.rows
  pub starts : (known : Known) → Has known place shapes → HasAt known (place + length code) (shape near rank) → HasAt known (place + length code + distance) (shape far other)
      → HasAt known place (shape from start)
  pub fine : (known : Known) → Has known place shapes → HasAt known (place + length code) (shape near rank) → HasAt known (place + length code + distance) (shape far other)
      → OnlyHandlers from.rows → AreFine known place shapes code

abbrev pub Splits : Code → ℕ → (from near far : Layout) → Type 0
Splits code distance from near far = (place rank other most : ℕ) → rank ≤ most → other ≤ most → Split place code distance from near far rank other most

pub splits_if : (distance : ℕ) (l : Layout) → Splits (past_if_false distance ∷ []) distance l l l
splits_if distance l place rank other most one two =
    let code = past_if_false distance ∷ [] in
    let next : place + length code ≡ place + 1 = omega arith in
    let away : place + length code + distance ≡ place + 1 + distance = omega arith in
    record {
      shapes = shape l (most + 1) ∷ [];
      start = most + 1;
      long = refl;
      low = omega arith;
      under = (omega arith, tt);
      keeps_near = λ h. h;
      keeps_far = λ h. h;
      starts = λ known has near far. has.0;
      fine = λ known has near far only.
          let n = has_at known (place + length code) (place + 1) (shape l rank) next near in
          let f = has_at known (place + length code + distance) (place + 1 + distance) (shape l other) away far in
          let n_rank = n.1 in
          let f_rank = f.1 in
          let ways : List Way = (place + 1, l) ∷ (place + 1 + distance, l) ∷ [] in (
            record {
              ways = ways;
              follow = refl;
              places = refl;
              arrive = (n.0, (f.0, tt));
              handlers = only;
              falls = (omega arith, (omega (arith, n_rank, one), (omega (arith, f_rank, two), tt)));
            },
            tt,
          );
    }

pub splits_past : (distance : ℕ) (l : Layout) → Splits (past distance ∷ []) distance l l l
splits_past distance l place rank other most one two =
    let code = past distance ∷ [] in
    let away : place + length code + distance ≡ place + 1 + distance = omega arith in
    record {
      shapes = shape l (other + 1) ∷ [];
      start = other + 1;
      long = refl;
      low = omega (arith, two);
      under = (omega (arith, two), tt);
      keeps_near = λ h. h;
      keeps_far = λ h. h;
      starts = λ known has near far. has.0;
      fine = λ known has near far only.
          let f = has_at known (place + length code + distance) (place + 1 + distance) (shape l other) away far in
          let f_rank = f.1 in
          let ways : List Way = (place + 1 + distance, l) ∷ [] in (
            record {
              ways = ways;
              follow = refl;
              places = refl;
              arrive = (f.0, tt);
              handlers = only;
              falls = (omega arith, (omega (arith, f_rank), tt));
            },
            tt,
          );
    }

pub splits_join : (first second : Code) (distance : ℕ) (from through near far : Layout) → Lays first from through → Splits second distance through near far → Splits (first ++ second) distance from near far
splits_join first second distance from through near far a b place rank other most one two =
    let y = b (place + length first) rank other most one two in
    let x = a place y.start in
    let long = length-append first second in
    let end_is : place + length (first ++ second) ≡ place + length first + length second = omega (arith, long) in
    let away_is : place + length (first ++ second) + distance ≡ place + length first + length second + distance = omega (arith, long) in
    record {
      shapes = x.shapes ++ y.shapes;
      start = x.start;
      long = length-append x.shapes y.shapes ∙ omega (arith, x.long, y.long, long);
      low = omega (arith, x.low, y.low, long);
      under = every_append (IsUnder (most + length (first ++ second))) x.shapes y.shapes
          (every_under (y.start + length first) (most + length (first ++ second)) x.shapes (omega (arith, y.low, long)) x.under)
          (every_under (most + length second) (most + length (first ++ second)) y.shapes (omega (arith, long)) y.under);
      keeps_near = λ h. y.keeps_near (x.keeps h);
      keeps_far = λ h. y.keeps_far (x.keeps h);
      starts = λ known has n f.
          let n1 = has_at known (place + length (first ++ second)) (place + length first + length second) (shape near rank) end_is n in
          let f1 = has_at known (place + length (first ++ second) + distance) (place + length first + length second + distance) (shape far other) away_is f in
          x.starts known (has_front known place x.shapes y.shapes has) (y.starts known (has_back known place (length first) x.shapes y.shapes x.long has) n1 f1);
      fine = λ known has n f only.
          let n1 = has_at known (place + length (first ++ second)) (place + length first + length second) (shape near rank) end_is n in
          let f1 = has_at known (place + length (first ++ second) + distance) (place + length first + length second + distance) (shape far other) away_is f in
          let front = has_front known place x.shapes y.shapes has in
          let back = has_back known place (length first) x.shapes y.shapes x.long has in
          fine_join known place x.shapes y.shapes first second (x.fine known front (y.starts known back n1 f1) only) (y.fine known back n1 f1 (x.keeps only));
    }

-- Where a test holds, the others are passed over.
pub splits_or : (others : Code) (distance : ℕ) (l : Layout) → Splits others distance l l l → Splits (past_if_false 1 ∷ past (length others) ∷ others) distance l l l
splits_or others distance l h place rank other most one two =
    let code = past_if_false 1 ∷ past (length others) ∷ others in
    let o = length others in
    let y = h (place + 1 + 1) rank other most one two in
    let top = most + o + 2 in
    let behind : place + length code ≡ place + 1 + 1 + o = omega arith in
    let away : place + length code + distance ≡ place + 1 + 1 + o + distance = omega arith in
    record {
      shapes = shape l top ∷ shape l (rank + 1) ∷ y.shapes;
      start = top;
      long = omega (arith, y.long);
      low = omega arith;
      under = (omega arith, (omega (arith, one), every_under (most + o) (most + length code) y.shapes (omega arith) y.under));
      keeps_near = λ h. h;
      keeps_far = λ h. h;
      starts = λ known has near far. has.0;
      fine = λ known has near far only.
          let n = has_at known (place + length code) (place + 1 + 1 + o) (shape l rank) behind near in
          let f = has_at known (place + length code + distance) (place + 1 + 1 + o + distance) (shape l other) away far in
          let s = y.starts known has.1.1 n f in
          let n_rank = n.1 in
          let s_rank = s.1 in
          let p_rank = has.1.0.1 in
          let low = y.low in
          let either : List Way = (place + 1, l) ∷ (place + 1 + 1, l) ∷ [] in
          let beyond : List Way = (place + 1 + 1 + o, l) ∷ [] in (
            record {
              ways = either;
              follow = refl;
              places = refl;
              arrive = (has.1.0.0, (s.0, tt));
              handlers = only;
              falls = (omega arith, (omega (arith, p_rank, one), (omega (arith, s_rank, low), tt)));
            },
            (
              record {
                ways = beyond;
                follow = refl;
                places = refl;
                arrive = (n.0, tt);
                handlers = only;
                falls = (omega arith, (omega (arith, n_rank), tt));
              },
              y.fine known has.1.1 n f only,
            ),
          );
    }

-- what is guarded, and what is done otherwise
pub lays_fork : (head guarded other : Code) (from one two to : Layout) → Splits head (length guarded + 1) from one two → Lays guarded one to → Lays other two to
    → Lays (head ++ (guarded ++ (past (length other) ∷ other))) from to
lays_fork head guarded other from one two to split first second place rank =
    let n = length head in
    let g = length guarded in
    let o = length other in
    let tail = past o ∷ other in
    let code = head ++ (guarded ++ tail) in
    let z = second (place + n + g + 1) rank in
    let y = first (place + n) (rank + 1) in
    let x = split place y.start z.start (rank + 1 + g + o) (omega (arith, y.low)) (omega (arith, z.low)) in
    let jump = shape to (rank + 1) in
    let inner = y.shapes ++ (jump ∷ z.shapes) in
    let long_inner = length-append guarded tail in
    let long_code = length-append head (guarded ++ tail) in
    let size : length code ≡ n + g + 1 + o = omega (arith, long_code, long_inner) in
    let end_is : place + length code ≡ place + n + g + 1 + o = omega (arith, size) in
    let skip : place + n + g + 1 ≡ place + n + (g + 1) = omega arith in
    let known_front : (known : Known) → Has known place (x.shapes ++ inner) → Has known (place + n) inner = λ known has. has_back known place n x.shapes inner x.long has in
    let known_jump : (known : Known) → Has known place (x.shapes ++ inner) → Has known (place + n + g) (jump ∷ z.shapes) = λ known has. has_back known (place + n) g y.shapes (jump ∷ z.shapes) y.long (known_front known has) in
    let z_starts : (known : Known) → Has known place (x.shapes ++ inner) → HasAt known (place + length code) (shape to rank) → HasAt known (place + n + g + 1) (shape two z.start) =
    λ known has end. z.starts known (known_jump known has).1 (has_at known (place + length code) (place + n + g + 1 + o) (shape to rank) end_is end) in
    let y_starts : (known : Known) → Has known place (x.shapes ++ inner) → HasAt known (place + n) (shape one y.start) =
    λ known has. y.starts known (has_front known (place + n) y.shapes (jump ∷ z.shapes) (known_front known has)) (known_jump known has).0 in
    record {
      shapes = x.shapes ++ inner;
      start = x.start;
      long = length-append x.shapes inner ∙ omega (arith, x.long, y.long, z.long, length-append y.shapes (jump ∷ z.shapes), size);
      low = omega (arith, x.low, size);
      under = every_append (IsUnder (rank + length code)) x.shapes inner
          (every_under (rank + 1 + g + o + n) (rank + length code) x.shapes (omega (arith, size)) x.under)
          (every_append (IsUnder (rank + length code)) y.shapes (jump ∷ z.shapes)
          (every_under (rank + 1 + g) (rank + length code) y.shapes (omega (arith, size)) y.under)
          (omega (arith, size), every_under (rank + o) (rank + length code) z.shapes (omega (arith, size)) z.under));
      keeps = λ h. y.keeps (x.keeps_near h);
      starts = λ known has end.
          x.starts known (has_front known place x.shapes inner has) (y_starts known has) (has_at known (place + n + g + 1) (place + n + (g + 1)) (shape two z.start) skip (z_starts known has end));
      fine = λ known has end only.
          let last = has_at known (place + length code) (place + n + g + 1 + o) (shape to rank) end_is end in
          let near = y_starts known has in
          let far = has_at known (place + n + g + 1) (place + n + (g + 1)) (shape two z.start) skip (z_starts known has end) in
          let jumps = known_jump known has in
          let last_rank = last.1 in
          let beyond : List Way = (place + n + g + 1 + o, to) ∷ [] in
          fine_join known place x.shapes inner head (guarded ++ tail)
          (x.fine known (has_front known place x.shapes inner has) near far only)
          (fine_join known (place + n) y.shapes (jump ∷ z.shapes) guarded tail
          (y.fine known (has_front known (place + n) y.shapes (jump ∷ z.shapes) (known_front known has)) jumps.0 (x.keeps_near only)) (
            record {
              ways = beyond;
              follow = refl;
              places = refl;
              arrive = (last.0, tt);
              handlers = (y.keeps (x.keeps_near only));
              falls = (omega arith, (omega (arith, last_rank), tt));
            },
            z.fine known jumps.1 last (x.keeps_far only),
          ));
    }

pub lays_choice : (test guarded other : Code) (from through to : Layout) → Lays test from through → Lays guarded through to → Lays other through to → Lays (choice test guarded other) from to
lays_choice test guarded other from through to a b c =
    let skip = past_if_false (length guarded + 1) ∷ [] in
    let rest = guarded ++ (past (length other) ∷ other) in
    subst (λ (code : Code). Lays code from to) (append_assoc test skip rest)
    (lays_fork (test ++ skip) guarded other from through through to (splits_join test skip (length guarded + 1) from through through through a (splits_if (length guarded + 1) through)) b c)

-- Behind its `Tick` a loop begins anew.
pub lays_loop : (test inner : Code) (l : Layout) → IsEven test → IsEven inner → Lays (loop test inner) l l
lays_loop test inner l a b place rank =
    let n = length test in
    let k = length inner in
    let x = a l place (rank + 2) in
    let again = x.start + 1 in
    let y = b l (place + n + 1 + 1) again in
    let back = Jump (negsuc (n + k + 2)) in
    let last = back ∷ truth false in
    let turn = inner ++ last in
    let code = loop test inner in
    let long_turn = length-append inner last in
    let long_code = length-append test (past_if_false (k + 2) ∷ Plain instr.Tick ∷ turn) in
    let size : length code ≡ n + k + 4 = omega (arith, long_turn, long_code) in
    let ends = shape l again ∷ shape l (rank + 1) ∷ [] in
    let turns = shape l (rank + 2) ∷ shape l (rank + 1) ∷ (y.shapes ++ ends) in
    let p = place + n + 1 + 1 + k in
    let end_is : place + length code ≡ p + 1 + 1 = omega (arith, size) in
    let to_start : p - (n + k + 2) ≡ place = omega arith in
    let skip : place + n + 1 + (k + 2) ≡ p + 1 = omega arith in
    let known_turns : (known : Known) → Has known place (x.shapes ++ turns) → Has known (place + n) turns = λ known has. has_back known place n x.shapes turns x.long has in
    let known_ends : (known : Known) → Has known place (x.shapes ++ turns) → Has known p ends = λ known has. has_back known (place + n + 1 + 1) k y.shapes ends y.long (known_turns known has).1.1 in
    let x_starts : (known : Known) → Has known place (x.shapes ++ turns) → HasAt known place (shape l x.start) = λ known has. x.starts known (has_front known place x.shapes turns has) (known_turns known has).0 in
    record {
      shapes = x.shapes ++ turns;
      start = x.start;
      long = length-append x.shapes turns ∙ omega (arith, x.long, y.long, length-append y.shapes ends, size);
      low = omega (arith, x.low, size);
      under = every_append (IsUnder (rank + length code)) x.shapes turns
          (every_under (rank + 2 + n) (rank + length code) x.shapes (omega (arith, size)) x.under) (
            omega (arith, size),
            (
              omega (arith, size),
              every_append (IsUnder (rank + length code)) y.shapes ends (every_under (again + k) (rank + length code) y.shapes (omega (arith, size, x.low)) y.under)
                  (omega (arith, size, x.low), (omega (arith, size), tt)),
            ),
          );
      keeps = λ h. h;
      starts = λ known has end. x_starts known has;
      fine = λ known has end only.
          let e = has_at known (place + length code) (p + 1 + 1) (shape l rank) end_is end in
          let at_turns = known_turns known has in
          let at_ends = known_ends known has in
          let s = x_starts known has in
          let inside = has_front known (place + n + 1 + 1) y.shapes ends at_turns.1.1 in
          let t = y.starts known inside at_ends.0 in
          let beyond = has_at known (p + 1) (place + n + 1 + (k + 2)) (shape l (rank + 1)) (sym skip) at_ends.1.0 in
          let first = has_at known place (p - (n + k + 2)) (shape l x.start) (sym to_start) s in
          let tick_rank = at_turns.1.0.1 in
          let beyond_rank = beyond.1 in
          let first_rank = first.1 in
          let e_rank = e.1 in
          let both : List Way = (place + n + 1, l) ∷ (place + n + 1 + (k + 2), l) ∷ [] in
          let ticks : List Way = (place + n + 1 + 1, l) ∷ [] in
          let backs : List Way = (p - (n + k + 2), l) ∷ [] in
          let ons : List Way = (p + 1 + 1, l) ∷ [] in
          fine_join known place x.shapes turns test (past_if_false (k + 2) ∷ Plain instr.Tick ∷ turn)
          (x.fine known (has_front known place x.shapes turns has) at_turns.0 only) (
            record {
              ways = both;
              follow = refl;
              places = refl;
              arrive = (at_turns.1.0.0, (beyond.0, tt));
              handlers = only;
              falls = (omega arith, (omega (arith, tick_rank), (omega (arith, beyond_rank), tt)));
            },
            (
              record {
                ways = ticks;
                follow = refl;
                places = refl;
                arrive = (t.0, tt);
                handlers = only;
                falls = tt;
              },
              fine_join known (place + n + 1 + 1) y.shapes ends inner last (y.fine known inside at_ends.0 only) (
                record {
                  ways = backs;
                  follow = refl;
                  places = refl;
                  arrive = (first.0, tt);
                  handlers = only;
                  falls = (omega arith, (omega (arith, first_rank), tt));
                },
                (
                  record {
                    ways = ons;
                    follow = refl;
                    places = refl;
                    arrive = (e.0, tt);
                    handlers = only;
                    falls = (omega arith, (omega (arith, e_rank), tt));
                  },
                  tt,
                ),
              ),
            ),
          );
    }
