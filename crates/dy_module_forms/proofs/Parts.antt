-- Fragments are cut at their first mark, and then what stands behind it is.
use Rattle.std.proofs.Common.{◌≡◌, ℕ, zero, suc, ◌+◌, Bool, true, false, true≢false, cond, List, [], ◌∷◌, ◌++◌, length, take, drop, map, Option, Some, None, Result, Ok, Err, option_map, refl, sym, ap, ◌∙◌, append_assoc, append-nil, arith}
use Rattle.std.specs.Borrow.{Bor}
use Rattle.dy_base.specs.declared.fault.Place.{Place}
use Rattle.dy_tree.specs.declared.fragment.Fragment.{Fragment}
use Rattle.dy_tree.specs.Fragments.{SeenFragment, seen_fragment, seen_fragments}
use Rattle.dy_module_forms.specs.Cuts.{is_mark, is_last, seen_slice, with_first, parts, parts_behind, behind_first, pieces, front_len, piece_len, ended, each, with_read, read_before}

module _ (mark : List ℕ) where
  abbrev IsCut : List Fragment → ℕ → Type 0
  IsCut fs at = parts mark (seen_fragments fs) ≡ seen_fragments (take at fs) ∷ parts_behind mark (behind_first (seen_fragments (drop at fs)))

  cut_by : (here : Bool) (f : Fragment) (fs : List Fragment) → is_mark mark (seen_fragment f) ≡ here → IsCut fs (front_len mark (seen_fragments fs)) → IsCut (f ∷ fs) (cond here 0 (suc (front_len mark (seen_fragments fs))))
  cut_by true f fs e rest = rw e refl
  cut_by false f fs e rest = rw (e, rest) refl

  pub cut_at : (fs : List Fragment) → IsCut fs (front_len mark (seen_fragments fs))
  cut_at [] = refl
  cut_at (f ∷ fs) = cut_by (is_mark mark (seen_fragment f)) f fs refl (cut_at fs)

-- one part more is read
pub with_none : {A : Type 0} (others : Option (List A)) → with_read None others ≡ None
with_none others = refl

read_more : {A : Type 0} (before : List A) (next : A) (others : Option (List A)) → read_before before (with_read (Some next) others) ≡ read_before (before ++ next ∷ []) others
read_more before next None = refl
read_more before next (Some others) = ap Some (sym (append_assoc before (next ∷ []) others))

pub read_part : {A : Type 0} (read : List SeenFragment → Option A) (all others : List (List SeenFragment)) (part : List SeenFragment) (before after : List A) (next : A)
    → all ≡ part ∷ others → Some next ≡ read part → after ≡ before ++ next ∷ []
    → read_before before (each read all) ≡ read_before after (each read others)
read_part read all others part before after next is found more =
    ap (λ ps. read_before before (each read ps)) is
    ∙ ap (λ o. read_before before (with_read o (each read others))) (sym found)
    ∙ read_more before next (each read others)
    ∙ ap (λ b. read_before b (each read others)) (sym more)

pub read_none : {A : Type 0} (read : List SeenFragment → Option A) (all others : List (List SeenFragment)) (part : List SeenFragment) (before : List A)
    → all ≡ part ∷ others → None ≡ read part → read_before before (each read all) ≡ None
read_none read all others part before is none =
    ap (λ ps. read_before before (each read ps)) is
    ∙ ap (λ o. read_before before (with_read o (each read others))) (sym none)

pub read_all : {A : Type 0} (before : List A) → read_before before (Some []) ≡ Some before
read_all before = ap Some (append-nil before)

pub before_nothing : {A : Type 0} (o : Option (List A)) → read_before [] o ≡ o
before_nothing None = refl
before_nothing (Some xs) = refl

-- a turn of a loop that reads part by part
module _ {A : Type 0} (read : List SeenFragment → Option A) (mark : List ℕ) (o : Option (Bor (List Fragment))) (before : List A) (total : Option (List A)) where
  abbrev Reads : Type 0
  Reads = read_before before (each read (parts_behind mark (option_map seen_slice o))) ≡ total

  at_slice : (slice : Bor (List Fragment)) → o ≡ Some slice → Reads → read_before before (each read (parts mark (seen_fragments slice.now))) ≡ total
  at_slice slice is reads = ap (λ p. read_before before (each read (parts_behind mark (option_map seen_slice p)))) (sym is) ∙ reads

  pub read_turn : (slice : Bor (List Fragment)) (part : List SeenFragment) (others : List (List SeenFragment)) (next : A) (after : List A) → o ≡ Some slice → parts mark (seen_fragments slice.now) ≡ part ∷ others
      → Some next ≡ read part → after ≡ before ++ next ∷ [] → Reads → read_before after (each read others) ≡ total
  read_turn slice part others next after is cut found more reads =
      sym (read_part read (parts mark (seen_fragments slice.now)) others part before after next cut found more) ∙ at_slice slice is reads

  pub read_stop : (slice : Bor (List Fragment)) (part : List SeenFragment) (others : List (List SeenFragment)) → o ≡ Some slice → parts mark (seen_fragments slice.now) ≡ part ∷ others
      → None ≡ read part → Reads → None ≡ total
  read_stop slice part others is cut none reads =
      sym (read_none read (parts mark (seen_fragments slice.now)) others part before cut none) ∙ at_slice slice is reads

  pub read_end : o ≡ None → Reads → Some before ≡ total
  read_end is reads = sym (read_all before) ∙ ap (λ p. read_before before (each read (parts_behind mark (option_map seen_slice p)))) (sym is) ∙ reads
