-- The stack of what an operand will be a part of.
use Rattle.std.proofs.Common.{◌≡◌, ℕ, ◌+◌, ◌-◌, Bool, true, false, List, [], ◌∷◌, ◌++◌, length, take, get_or, Option, Some, None, refl, sym, ap, ◌∙◌, arith, length-append}
use Rattle.std.proofs.lemmas.List.{append-nil}
use Rattle.std.proofs.lemmas.Option.{slice_get_read}
use Rattle.std.proofs.Math.Seq.{get_or-append_seam}
use Rattle.std.specs.List.{slice_get}
use Rattle.std.specs.Option.{option_to_list, MatchOption}
use Rattle.dy_tree.specs.declared.token.Token.{Token}
use Rattle.dy_tree.specs.declared.roles.Role.{Role}
use Rattle.dy_tree.specs.declared.roles.Role.TheVariants as roles
use Rattle.dy_rules.specs.Trees.{Tree}
use Rattle.dy_rules.specs.Trees as trees
use Rattle.dy_rules.specs.Roles.{role_of, positive, negative}
use Rattle.dy_rules.specs.Reading as reading
use Rattle.dy_rules.specs.Reading.{whole, Part, reduced, finished, under_sign, integer_part}
use Rattle.dy_rules_depth.specs.ReaderChanges.{changed_outer, changed_part}
use Rattle.dy_rules_depth.specs.Capping.{capped, capping}
use Rattle.dy_rules_depth.proofs.Twice.{tree_twice}
use Rattle.dy_rules_depth.proofs.Machine.{reduced_same, finished_same}
use Rattle.dy_read_outers.specs.declared.outer.Entry.{Entry}
use Rattle.dy_read_outers.specs.declared.outer.Entry.TheVariants as entries
use Rattle.dy_read_outers.specs.declared.grown.Grown.{Grown}
use Rattle.dy_read_outers.specs.Grown.{read_grown}
use Rattle.dy_read_outers.specs.Outers.{wrapped, outer_from, closed, is_tighter, is_minus, is_under_minus, holds, holds_last, signed, Pops, PopsTighter, PopsMinus, minus_in}
use Rattle.dy_read_outers.proofs.Fills.{filled_kept}

-- what is on the stack is within the limit

pub grown_kept : (grown : Grown) → capped (read_grown grown) ≡ read_grown grown
grown_kept grown = filled_kept _ grown.within

entry_kept : (entry : Entry) (outer : reading.Outer) → changed_outer capping outer ≡ outer → changed_outer capping (wrapped entry outer) ≡ wrapped entry outer
entry_kept (entries.Operated precedence left sign) outer e = cc (grown_kept left)
entry_kept (entries.Under sign) outer e = cc
entry_kept (entries.Assigned place sign) outer e = cc (grown_kept place)

kept_from : (stack : List Entry) (outer : reading.Outer) → changed_outer capping outer ≡ outer → changed_outer capping (outer_from outer stack) ≡ outer_from outer stack
kept_from [] outer e = e
kept_from (entry ∷ rest) outer e = kept_from rest (wrapped entry outer) (entry_kept entry outer e)

pub outer_kept : (stack : List Entry) → changed_outer capping (outer_from whole stack) ≡ outer_from whole stack
outer_kept stack = kept_from stack whole refl

-- an entry more

pub outer_push : (stack : List Entry) (outer : reading.Outer) (entry : Entry) → outer_from outer (stack ++ entry ∷ []) ≡ wrapped entry (outer_from outer stack)
outer_push [] outer entry = refl
outer_push (first ∷ rest) outer entry = outer_push rest (wrapped first outer) entry

-- an entry less

pub none_left : {A : Type 0} (old new : List A) (found : Option A) (len : ℕ) (P : Type 0) (Q : A → Type 0) → new ≡ take (len - 1) old → MatchOption found ((len ≡ 0) × P) Q → found ≡ None → new ≡ []
none_left old new None len P Q e (is, p) none = e ∙ ap (λ (n : ℕ). take (n - 1) old) is
none_left old new (Some x) len P Q e q none = absurd cc

pub popped : (old new : List Entry) (found : Option Entry) → old ≡ new ++ option_to_list found → ((found ≡ None) → new ≡ []) → Pops (outer_from whole old) found (outer_from whole new)
popped old new None e none =
    let same : new ≡ [] = none refl in
    (ap (outer_from whole) (e ∙ append-nil new ∙ same), ap (outer_from whole) same)
popped old new (Some entry) e none = ap (outer_from whole) e ∙ outer_push new whole entry

last_at : {A : Type 0} (xs : List A) (x : A) → slice_get (xs ++ x ∷ []) (length (xs ++ x ∷ []) - 1) ≡ Some x
last_at xs x =
    let long : length (xs ++ x ∷ []) ≡ length xs + 1 = length-append xs (x ∷ []) in
    let at : length (xs ++ x ∷ []) - 1 ≡ length xs = omega arith in
    slice_get_read (xs ++ x ∷ []) (length (xs ++ x ∷ [])) (length (xs ++ x ∷ []) - 1) x refl (omega arith) (sym (ap (λ (n : ℕ). get_or (xs ++ x ∷ []) n x) at ∙ get_or-append_seam xs x [] x))

-- a list is empty or has a last one
data Ends {A : Type 0} : List A → Type 0 where
  no_end : Ends []
  an_end : (front : List A) (x : A) → Ends (front ++ x ∷ [])

ends_more : {A : Type 0} (first : A) (rest : List A) → Ends rest → Ends (first ∷ rest)
ends_more first _ no_end = an_end [] first
ends_more first _ (an_end front x) = an_end (first ∷ front) x

ends : {A : Type 0} (list : List A) → Ends list
ends [] = no_end
ends (first ∷ rest) = ends_more first rest (ends rest)

pub reduced_tighter : (height : ℕ) (entry : Entry) (tree : Tree) (outer : reading.Outer) → is_tighter height entry ≡ true → reduced height tree (wrapped entry outer) ≡ reduced height (closed entry tree) outer
reduced_tighter height (entries.Operated precedence left sign) tree outer e = rw e refl
reduced_tighter height (entries.Under sign) tree outer e = refl
reduced_tighter height (entries.Assigned place sign) tree outer e = absurd cc

reduced_stops : (height : ℕ) (entry : Entry) (tree : Tree) (outer : reading.Outer) → is_tighter height entry ≡ false → reduced height tree (wrapped entry outer) ≡ (tree, wrapped entry outer)
reduced_stops height (entries.Operated precedence left sign) tree outer e = rw e refl
reduced_stops height (entries.Under sign) tree outer e = absurd cc
reduced_stops height (entries.Assigned place sign) tree outer e = refl

finished_closes : (entry : Entry) (tree : Tree) (outer : reading.Outer) → finished tree (wrapped entry outer) ≡ finished (closed entry tree) outer
finished_closes (entries.Operated precedence left sign) tree outer = refl
finished_closes (entries.Under sign) tree outer = refl
finished_closes (entries.Assigned place sign) tree outer = refl

pub last_holds : (test : Entry → Bool) (front : List Entry) (entry : Entry) → holds_last test (front ++ entry ∷ []) ≡ test entry
last_holds test front entry = ap (holds test) (last_at front entry)

pub tighter_popped : (height : ℕ) (old new : List Entry) (found : Option Entry) → old ≡ new ++ option_to_list found → ((found ≡ None) → new ≡ []) → holds_last (is_tighter height) old ≡ true → PopsTighter height (outer_from whole old) found (outer_from whole new)
tighter_popped height old new None e none is = absurd (let nothing : old ≡ [] = e ∙ append-nil new ∙ none refl in let not : holds_last (is_tighter height) old ≡ false = ap (holds_last (is_tighter height)) nothing in cc)
tighter_popped height old new (Some entry) e none is = (ap (outer_from whole) e ∙ outer_push new whole entry, sym (last_holds (is_tighter height) new entry) ∙ ap (holds_last (is_tighter height)) (sym e) ∙ is)

pub tighter_none : (height : ℕ) (stack : List Entry) → holds_last (is_tighter height) stack ≡ false → PopsTighter height (outer_from whole stack) None (outer_from whole stack)
tighter_none height stack is = (refl, by (ends stack) is)
  where
    by : {list : List Entry} → Ends list → holds_last (is_tighter height) list ≡ false → (tree : Tree) → reduced height tree (outer_from whole list) ≡ (tree, outer_from whole list)
    by no_end e tree = refl
    by (an_end front entry) e tree =
        let pushed : outer_from whole (front ++ entry ∷ []) ≡ wrapped entry (outer_from whole front) = outer_push front whole entry in
        rw pushed (reduced_stops height entry tree (outer_from whole front) (sym (last_holds (is_tighter height) front entry) ∙ e))

-- what is whole is put together

abbrev pub Reduces : ℕ → Tree → reading.Outer → Tree → reading.Outer → Type 0
Reduces height tree outer next rest = changed_part capping (reduced height next rest) ≡ changed_part capping (reduced height tree outer)

same_part : (tree next : Tree) (outer : reading.Outer) → next ≡ capped tree → changed_part capping (next, outer) ≡ changed_part capping (tree, outer)
same_part tree next outer e = ap (λ (t : Tree). (t, changed_outer capping outer)) (ap capped e ∙ tree_twice tree)

pub reduce_step : (height : ℕ) (tree : Tree) (outer : reading.Outer) (before after : Tree) (old new : reading.Outer) (entry : Entry) → Reduces height tree outer before old → old ≡ wrapped entry new → is_tighter height entry ≡ true → after ≡ capped (closed entry before)
    → Reduces height tree outer after new
reduce_step height tree outer before after old new entry h is tighter made =
    reduced_same height (after, new) (closed entry before, new) (same_part (closed entry before) after new made)
    ∙ ap (changed_part capping) (sym (ap (reduced height before) is ∙ reduced_tighter height entry before new tighter)) ∙ h

pub finish_step : (tree : Tree) (outer : reading.Outer) (before after : Tree) (old new : reading.Outer) (entry : Entry) → capped (finished before old) ≡ capped (finished tree outer) → old ≡ wrapped entry new → after ≡ capped (closed entry before)
    → capped (finished after new) ≡ capped (finished tree outer)
finish_step tree outer before after old new entry h is made =
    finished_same (after, new) (closed entry before, new) (same_part (closed entry before) after new made) ∙ ap capped (sym (ap (finished before) is ∙ finished_closes entry before new)) ∙ h

-- a minus that an integer takes in

by_sign : (role : Role) (sign digits : Token) (outer : reading.Outer) → is_minus role ≡ true → under_sign role sign digits outer ≡ (trees.literal (negative sign digits), outer)
by_sign roles.Minus sign digits outer e = refl
by_sign role sign digits outer e = absurd cc

by_other : (role : Role) (sign digits : Token) (outer : reading.Outer) → is_minus role ≡ false → under_sign role sign digits outer ≡ (trees.literal (positive digits), reading.under sign outer)
by_other roles.Minus sign digits outer e = absurd cc
by_other role sign digits outer e = refl

minus_stays : (entry : Entry) (outer : reading.Outer) (digits : Token) → is_under_minus entry ≡ false → integer_part digits (wrapped entry outer) ≡ (trees.literal (positive digits), wrapped entry outer)
minus_stays (entries.Operated precedence left sign) outer digits e = refl
minus_stays (entries.Under sign) outer digits e = by_other (role_of sign) sign digits outer e
minus_stays (entries.Assigned place sign) outer digits e = refl

pub minus_none : (stack : List Entry) → holds_last is_under_minus stack ≡ false → PopsMinus (outer_from whole stack) None (outer_from whole stack)
minus_none stack is = by (ends stack) is
  where
    by : {list : List Entry} → Ends list → holds_last is_under_minus list ≡ false → PopsMinus (outer_from whole list) None (outer_from whole list)
    by no_end e digits = refl
    by (an_end front entry) e digits =
        let pushed : outer_from whole (front ++ entry ∷ []) ≡ wrapped entry (outer_from whole front) = outer_push front whole entry in
        rw pushed (minus_stays entry (outer_from whole front) digits (sym (last_holds is_under_minus front entry) ∙ e))

pub minus_popped : (old new : List Entry) (found : Option Entry) → old ≡ new ++ option_to_list found → ((found ≡ None) → new ≡ []) → holds_last is_under_minus old ≡ true → PopsMinus (outer_from whole old) (minus_in found) (outer_from whole new)
minus_popped old new None e none is digits = absurd (let nothing : old ≡ [] = e ∙ append-nil new ∙ none refl in let not : holds_last is_under_minus old ≡ false = ap (holds_last is_under_minus) nothing in cc)
minus_popped old new (Some entry) e none is digits = by entry (ap (outer_from whole) e ∙ outer_push new whole entry) (sym (last_holds is_under_minus new entry) ∙ ap (holds_last is_under_minus) (sym e) ∙ is)
  where
    by : (one : Entry) → outer_from whole old ≡ wrapped one (outer_from whole new) → is_under_minus one ≡ true → integer_part digits (outer_from whole old) ≡ (trees.literal (signed (minus_in (Some one)) digits), outer_from whole new)
    by (entries.Operated precedence left sign) f h = absurd cc
    by (entries.Under sign) f h = rw f (by_sign (role_of sign) sign digits (outer_from whole new) h)
    by (entries.Assigned place sign) f h = absurd cc

-- the ends of the two loops

pub reduce_end : (height : ℕ) (grown : Grown) (tree : Tree) (outer : reading.Outer) (old new : List Entry) → Reduces height tree outer (read_grown grown) (outer_from whole old) → PopsTighter height (outer_from whole old) None (outer_from whole new)
    → (read_grown grown, outer_from whole new) ≡ changed_part capping (reduced height tree outer)
reduce_end height grown tree outer old new h (same, stays) =
    let kept : changed_part capping (read_grown grown, outer_from whole old) ≡ (read_grown grown, outer_from whole old) = cc (grown_kept grown, outer_kept old) in
    ap (λ (rest : reading.Outer). (read_grown grown, rest)) same ∙ sym kept ∙ sym (ap (changed_part capping) (stays (read_grown grown))) ∙ h

pub finish_end : (grown : Grown) (tree : Tree) (old : reading.Outer) → capped (finished (read_grown grown) old) ≡ tree → old ≡ whole → read_grown grown ≡ tree
finish_end grown tree old h is = sym (grown_kept grown) ∙ sym (ap (λ (outer : reading.Outer). capped (finished (read_grown grown) outer)) is) ∙ h
