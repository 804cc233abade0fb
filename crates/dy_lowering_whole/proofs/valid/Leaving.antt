-- Code that goes on behind itself, or leaves to places behind it, which are told by how far they
-- are behind one that all of it is before, and by what lies there.
use Rattle.std.proofs.Common.{◌≡◌, ℕ, zero, suc, ◌+◌, ◌-◌, ◌≤◌, Bool, true, false, negsuc, List, [], ◌∷◌, ◌++◌, length, refl, sym, ap, ◌∙◌, subst, arith, append_assoc, length-append}
use Rattle.dy_code.specs.Fetching.{Instruction}
use Rattle.dy_code.specs.Fetching as instr
use Rattle.dy_code.specs.Layouts.{Layout}
use Rattle.dy_code.specs.Validity.{Every, Known}
use Rattle.dy_lowered.specs.Flat.{Plain, Jump, Code, one, past, past_if_false}
use Rattle.dy_lowered.specs.Turns.{leaves_if}
use Rattle.dy_lowering_whole.specs.valid.Shapes.{Shape, HasAt, Has, AreFine, OnlyHandlers, IsUnder, Lays}
use Rattle.dy_lowering_whole.proofs.valid.Laying.{Goes, shape, every_append, every_under, has_at, has_front, has_back, fine_join, lays_one}

-- a place where this lies, with a rank that is not over a number
pub record IsAt (known : Known) (place : ℕ) (l : Layout) (most : ℕ) : Type 0 where
  pub rank : ℕ
  pub at : HasAt known place (shape l rank)
  pub few : rank ≤ most

pub is_at : (known : Known) (p q : ℕ) (l : Layout) (most : ℕ) → p ≡ q → IsAt known p l most → IsAt known q l most
is_at known p q l most e h = subst (λ (k : ℕ). IsAt known k l most) e h

-- where one leaves to, and what lies there
abbrev pub Exits : Type 1
Exits = ℕ → Layout → Type 0

module _ (exits : Exits) where
  abbrev pub Leads : Known → ℕ → ℕ → Type 0
  Leads known anchor most = (k : ℕ) (l : Layout) → exits k l → IsAt known (anchor + k) l most

  leads_more : (known : Known) (p q n m : ℕ) → p ≡ q → n ≤ m → Leads known p n → Leads known q m
  leads_more known p q n m e low leads k l h =
      let there = leads k l h in
      let at : p + k ≡ q + k = omega (arith, e) in
      record { rank = there.rank; at = has_at known (p + k) (q + k) (shape l there.rank) at there.at; few = omega (arith, there.few, low) }

  pub record Ended (place : ℕ) (code : Code) (distance : ℕ) (from to : Layout) (rank most : ℕ) : Type 0 where
    pub shapes : List Shape
    pub start : ℕ
    pub long : length shapes ≡ length code
    pub few : start ≤ most + length code
    pub under : Every (IsUnder (most + length code)) shapes
    pub keeps : OnlyHandlers from.rows → OnlyHandlers to.rows
    pub starts : (known : Known) → Has known place shapes → HasAt known (place + length code) (shape to rank) → HasAt known place (shape from start)
    pub fine : (known : Known) → Has known place shapes → HasAt known (place + length code) (shape to rank) → Leads known (place + length code + distance) most → OnlyHandlers from.rows → AreFine known place shapes code

  -- with what it leaves to so far behind it
  abbrev pub Ends : Code → ℕ → (from to : Layout) → Type 0
  Ends code distance from to = (place rank most : ℕ) → rank ≤ most → Ended place code distance from to rank most

  pub ends_lays : (code : Code) (distance : ℕ) (from to : Layout) → Lays code from to → Ends code distance from to
  ends_lays code distance from to h place rank most low =
      let x = h place rank in
      record {
        shapes = x.shapes;
        start = x.start;
        long = x.long;
        few = omega (arith, x.low, low);
        under = every_under (rank + length code) (most + length code) x.shapes (omega (arith, low)) x.under;
        keeps = x.keeps;
        starts = x.starts;
        fine = λ known has end leads only. x.fine known has end only;
      }

  pub ends_join : (first second : Code) (distance : ℕ) (from through to : Layout) → Ends first (length second + distance) from through → Ends second distance through to → Ends (first ++ second) distance from to
  ends_join first second distance from through to a b place rank most low =
      let y = b (place + length first) rank most low in
      let x = a place y.start (most + length second) y.few in
      let long = length-append first second in
      let end_is : place + length (first ++ second) ≡ place + length first + length second = omega (arith, long) in
      let far_is : place + length (first ++ second) + distance ≡ place + length first + length second + distance = omega (arith, long) in
      let far_too : place + length (first ++ second) + distance ≡ place + length first + (length second + distance) = omega (arith, long) in
      record {
        shapes = x.shapes ++ y.shapes;
        start = x.start;
        long = length-append x.shapes y.shapes ∙ omega (arith, x.long, y.long, long);
        few = omega (arith, x.few, long);
        under = every_append (IsUnder (most + length (first ++ second))) x.shapes y.shapes
            (every_under (most + length second + length first) (most + length (first ++ second)) x.shapes (omega (arith, long)) x.under)
            (every_under (most + length second) (most + length (first ++ second)) y.shapes (omega (arith, long)) y.under);
        keeps = λ h. y.keeps (x.keeps h);
        starts = λ known has end.
            let last = has_at known (place + length (first ++ second)) (place + length first + length second) (shape to rank) end_is end in
            x.starts known (has_front known place x.shapes y.shapes has) (y.starts known (has_back known place (length first) x.shapes y.shapes x.long has) last);
        fine = λ known has end leads only.
            let last = has_at known (place + length (first ++ second)) (place + length first + length second) (shape to rank) end_is end in
            let front = has_front known place x.shapes y.shapes has in
            let back = has_back known place (length first) x.shapes y.shapes x.long has in
            let near = leads_more known (place + length (first ++ second) + distance) (place + length first + (length second + distance)) most (most + length second) far_too (omega arith) leads in
            let far = leads_more known (place + length (first ++ second) + distance) (place + length first + length second + distance) most most far_is (omega arith) leads in
            fine_join known place x.shapes y.shapes first second (x.fine known front (y.starts known back last) near only) (y.fine known back last far (x.keeps only));
      }

  pub ends_even : (first second : Code) (distance : ℕ) (from through to : Layout) → Lays first from through → Ends second distance through to → Ends (first ++ second) distance from to
  ends_even first second distance from through to a b = ends_join first second distance from through to (ends_lays first (length second + distance) from through a) b

  pub ends_first : (i : Instruction) (code : Code) (distance : ℕ) (from through to : Layout) → Goes i from through → Ends code distance through to → Ends (Plain i ∷ code) distance from to
  ends_first i code distance from through to goes h = ends_even (one i) code distance from through to (lays_one i from through goes) h

  pub ends_at : (code : Code) (d e : ℕ) (from to : Layout) → d ≡ e → Ends code d from to → Ends code e from to
  ends_at code d e from to same h = subst (λ (k : ℕ). Ends code k from to) same h

  pub ends_from : (code : Code) (distance : ℕ) (from other to : Layout) → from ≡ other → Ends code distance from to → Ends code distance other to
  ends_from code distance from other to e h = subst (λ (m : Layout). Ends code distance m to) e h

  pub ends_to : (code : Code) (distance : ℕ) (from to other : Layout) → to ≡ other → Ends code distance from to → Ends code distance from other
  ends_to code distance from to other e h = subst (λ (m : Layout). Ends code distance from m) e h

  -- a jump that leaves, whatever would lie behind it
  pub ends_past : (away distance k : ℕ) (from to : Layout) → exits k from → away ≡ distance + k → (OnlyHandlers from.rows → OnlyHandlers to.rows) → Ends (past away ∷ []) distance from to
  ends_past away distance k from to exit same keeps place rank most low =
      let code = past away ∷ [] in
      let goal : place + length code + distance + k ≡ place + 1 + away = omega (arith, same) in
      record {
        shapes = shape from (most + 1) ∷ [];
        start = most + 1;
        long = refl;
        few = omega arith;
        under = (omega arith, tt);
        keeps = keeps;
        starts = λ known has end. has.0;
        fine = λ known has end leads only.
            let there = is_at known (place + length code + distance + k) (place + 1 + away) from most goal (leads k from exit) in
            let there_at = there.at in
            let there_rank = there_at.1 in (
              record {
                ways = (place + 1 + away, from) ∷ [];
                follow = refl;
                places = refl;
                arrive = (there_at.0, tt);
                handlers = only;
                falls = (omega arith, (omega (arith, there_rank, there.few), tt));
              },
              tt,
            );
      }

  pub ends_leaves_if : (test : Bool) (away distance k : ℕ) (l : Layout) → exits k l → away ≡ distance + k → Ends (leaves_if test away) distance l l
  ends_leaves_if true away distance k l exit same place rank most low =
      let code = leaves_if true away in
      let goal : place + length code + distance + k ≡ place + 1 + 1 + away = omega (arith, same) in
      let end_is : place + length code ≡ place + 1 + 1 = omega arith in
      record {
        shapes = shape l (most + 2) ∷ shape l (most + 1) ∷ [];
        start = most + 2;
        long = refl;
        few = omega arith;
        under = (omega arith, (omega arith, tt));
        keeps = λ h. h;
        starts = λ known has end. has.0;
        fine = λ known has end leads only.
            let last = has_at known (place + length code) (place + 1 + 1) (shape l rank) end_is end in
            let last_rank = last.1 in
            let jump_rank = has.1.0.1 in
            let there = is_at known (place + length code + distance + k) (place + 1 + 1 + away) l most goal (leads k l exit) in
            let there_at = there.at in
            let there_rank = there_at.1 in (
              record {
                ways = (place + 1, l) ∷ (place + 1 + 1, l) ∷ [];
                follow = refl;
                places = refl;
                arrive = (has.1.0.0, (last.0, tt));
                handlers = only;
                falls = (omega arith, (omega (arith, jump_rank), (omega (arith, last_rank, low), tt)));
              },
              (
                record {
                  ways = (place + 1 + 1 + away, l) ∷ [];
                  follow = refl;
                  places = refl;
                  arrive = (there_at.0, tt);
                  handlers = only;
                  falls = (omega arith, (omega (arith, there_rank, there.few), tt));
                },
                tt,
              ),
            );
      }
  ends_leaves_if false away distance k l exit same place rank most low =
      let code = leaves_if false away in
      let goal : place + length code + distance + k ≡ place + 1 + away = omega (arith, same) in
      let end_is : place + length code ≡ place + 1 = omega arith in
      record {
        shapes = shape l (most + 1) ∷ [];
        start = most + 1;
        long = refl;
        few = omega arith;
        under = (omega arith, tt);
        keeps = λ h. h;
        starts = λ known has end. has.0;
        fine = λ known has end leads only.
            let last = has_at known (place + length code) (place + 1) (shape l rank) end_is end in
            let last_rank = last.1 in
            let there = is_at known (place + length code + distance + k) (place + 1 + away) l most goal (leads k l exit) in
            let there_at = there.at in
            let there_rank = there_at.1 in (
              record {
                ways = (place + 1, l) ∷ (place + 1 + away, l) ∷ [];
                follow = refl;
                places = refl;
                arrive = (last.0, (there_at.0, tt));
                handlers = only;
                falls = (omega arith, (omega (arith, last_rank, low), (omega (arith, there_rank, there.few), tt)));
              },
              tt,
            );
      }

  -- what leaves where a test holds, and what is done otherwise
  pub ends_guard : (guarded other : Code) (distance : ℕ) (from to : Layout) → Ends guarded (length other + distance) from from → Lays other from to → Ends (past_if_false (length guarded) ∷ (guarded ++ other)) distance from to
  ends_guard guarded other distance from to a b place rank most low =
      let g = length guarded in
      let o = length other in
      let both = guarded ++ other in
      let code = past_if_false g ∷ both in
      let both_is = length-append guarded other in
      let size : length code ≡ 1 + g + o = omega (arith, both_is) in
      let z = b (place + 1 + g) rank in
      let y = a (place + 1) z.start (most + o) (omega (arith, z.low, low)) in
      let top = most + o + g + 1 in
      let rest = y.shapes ++ z.shapes in
      let end_is : place + length code ≡ place + 1 + g + o = omega (arith, size) in
      let far_is : place + length code + distance ≡ place + 1 + g + (o + distance) = omega (arith, size) in
      record {
        shapes = shape from top ∷ rest;
        start = top;
        long = omega (arith, size, y.long, z.long, length-append y.shapes z.shapes);
        few = omega (arith, size);
        under = (
          omega (arith, size),
          every_append (IsUnder (most + length code)) y.shapes z.shapes (every_under (most + o + g) (most + length code) y.shapes (omega (arith, size)) y.under) (every_under (rank + o) (most + length code) z.shapes (omega (arith, size, low)) z.under),
        );
        keeps = z.keeps;
        starts = λ known has end. has.0;
        fine = λ known has end leads only.
            let last = has_at known (place + length code) (place + 1 + g + o) (shape to rank) end_is end in
            let in_y = has_front known (place + 1) y.shapes z.shapes has.1 in
            let in_z = has_back known (place + 1) g y.shapes z.shapes y.long has.1 in
            let next = z.starts known in_z last in
            let first = y.starts known in_y next in
            let first_rank = first.1 in
            let next_rank = next.1 in
            let y_few = y.few in
            let z_low = z.low in (
              record {
                ways = (place + 1, from) ∷ (place + 1 + g, from) ∷ [];
                follow = refl;
                places = refl;
                arrive = (first.0, (next.0, tt));
                handlers = only;
                falls = (omega arith, (omega (arith, first_rank, y_few), (omega (arith, next_rank, z_low, low), tt)));
              },
              fine_join known (place + 1) y.shapes z.shapes guarded other
                  (y.fine known in_y next (leads_more known (place + length code + distance) (place + 1 + g + (o + distance)) most (most + o) far_is (omega arith) leads) only) (z.fine known in_z last only),
            );
      }

-- one place alone
abbrev pub Only : Layout → Exits
Only l zero m = l ≡ m
Only l (suc k) m = ⊥

-- what all ways from a turn lead to that do not lead back
pub record Landed (exits : Exits) (place : ℕ) (code : Code) (from to : Layout) (rank : ℕ) : Type 0 where
  pub shapes : List Shape
  pub long : length shapes ≡ length code
  pub under : Every (IsUnder (rank + length code)) shapes
  pub leads : (known : Known) → Has known place shapes → HasAt known (place + length code) (shape to rank) → Leads exits known place (rank + length code)
  pub fine : (known : Known) → Has known place shapes → HasAt known (place + length code) (shape to rank) → OnlyHandlers from.rows → AreFine known place shapes code

abbrev pub Lands : Exits → Code → (from to : Layout) → Type 0
Lands exits code from to = (place rank : ℕ) → Landed exits place code from to rank

-- a turn with a `Tick`, behind which it begins anew
abbrev pub turning : (pre post last : Code) → Code
turning pre post last =
    let turn = pre ++ (Plain instr.Tick ∷ post) in
    turn ++ (Jump (negsuc (length turn)) ∷ last)

pub lays_turning : (exits : Exits) (pre post last : Code) (from mid to : Layout) → Ends exits pre (1 + length post + 1) from mid → Ends exits post 1 mid from → Lands exits last from to → (OnlyHandlers from.rows → OnlyHandlers to.rows) → Lays (turning pre post last) from to
lays_turning exits pre post last from mid to a b c keeps place rank =
    let p = length pre in
    let q = length post in
    let r = length last in
    let turn = pre ++ (Plain instr.Tick ∷ post) in
    let turn_is = length-append pre (Plain instr.Tick ∷ post) in
    let back = Jump (negsuc (length turn)) in
    let code = turn ++ (back ∷ last) in
    let code_is = length-append turn (back ∷ last) in
    let size : length code ≡ p + 1 + q + 1 + r = omega (arith, turn_is, code_is) in
    let j = place + length turn in
    let z = c (j + 1) rank in
    let low = rank + r in
    let x = a place 0 low (omega arith) in
    let again = x.start + 1 in
    let most = low + p + 1 in
    let y = b (place + p + 1) again most (omega (arith, x.few)) in
    let ticks = shape mid 0 ∷ y.shapes in
    let insides = x.shapes ++ ticks in
    let insides_is = length-append x.shapes ticks in
    let insides_long : length insides ≡ length turn = omega (arith, insides_is, turn_is, x.long, y.long) in
    let jumps = shape from again ∷ z.shapes in
    let end_is : place + length code ≡ j + 1 + r = omega (arith, size, turn_is) in
    let jump_is : j ≡ place + p + 1 + q = omega (arith, turn_is) in
    record {
      shapes = insides ++ jumps;
      start = x.start;
      long = length-append insides jumps ∙ omega (arith, size, turn_is, insides_long, z.long);
      low = omega (arith, size, x.few);
      under = every_append (IsUnder (rank + length code)) insides jumps
          (every_append (IsUnder (rank + length code)) x.shapes ticks (every_under (low + p) (rank + length code) x.shapes (omega (arith, size)) x.under)
          (omega arith, every_under (most + q) (rank + length code) y.shapes (omega (arith, size)) y.under))
          (omega (arith, size, x.few), every_under (rank + r) (rank + length code) z.shapes (omega (arith, size)) z.under);
      keeps = keeps;
      starts = λ known has end.
          let front = has_front known place insides jumps has in
          x.starts known (has_front known place x.shapes ticks front) (has_back known place p x.shapes ticks x.long front).0;
      fine = λ known has end only.
          let front = has_front known place insides jumps has in
          let at_jumps = has_back known place (length turn) insides jumps insides_long has in
          let at_ticks = has_back known place p x.shapes ticks x.long front in
          let in_x = has_front known place x.shapes ticks front in
          let e = has_at known (place + length code) (j + 1 + r) (shape to rank) end_is end in
          let begin = x.starts known in_x at_ticks.0 in
          let leads = z.leads known at_jumps.1 e in
          let leads_pre = leads_more exits known (j + 1) (place + p + (1 + q + 1)) low low (omega (arith, turn_is)) (omega arith) leads in
          let leads_post = leads_more exits known (j + 1) (place + p + 1 + q + 1) low most (omega (arith, turn_is)) (omega arith) leads in
          let jump = has_at known j (place + p + 1 + q) (shape from again) jump_is at_jumps.0 in
          let first = y.starts known at_ticks.1 jump in
          let home : place ≡ j - length turn = omega arith in
          let back_to = has_at known place (j - length turn) (shape from x.start) home begin in
          let back_rank = back_to.1 in
          let only_mid = x.keeps only in
          fine_join known place insides jumps turn (back ∷ last)
          (fine_join known place x.shapes ticks pre (Plain instr.Tick ∷ post) (x.fine known in_x at_ticks.0 leads_pre only) (
            record {
              ways = (place + p + 1, mid) ∷ [];
              follow = refl;
              places = refl;
              arrive = (first.0, tt);
              handlers = only_mid;
              falls = tt;
            },
            y.fine known at_ticks.1 jump leads_post only_mid,
          )) (
            record {
              ways = (j - length turn, from) ∷ [];
              follow = refl;
              places = refl;
              arrive = (back_to.0, tt);
              handlers = only;
              falls = (omega arith, (omega (arith, back_rank), tt));
            },
            z.fine known at_jumps.1 e only,
          );
    }
