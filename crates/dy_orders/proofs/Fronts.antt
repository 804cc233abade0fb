-- Libraries that are read, one behind the other.
use Rattle.std.proofs.Common.{◌≡◌, ℕ, zero, suc, ◌+◌, ◌<◌, ◌≤◌, List, [], ◌∷◌, ◌++◌, append_assoc, append-nil, length, get_or, Result, Ok, sym, ap, subst, ◌∙◌, inl, inr, arith}
use Rattle.std.proofs.lemmas.Bool.{leb-false}
use Rattle.std.proofs.lemmas.List.{length_push, get_or_append_left, get_or_at}
use Rattle.dy_prims.specs.Rows.{dylan_row, io_row}
use Rattle.dy_io.specs.Files.{FileMap}
use Rattle.dy_libraries.specs.declared.libraries.Libraries.{Libraries}
use Rattle.dy_verdict.specs.declared.library.ReadLibrary.{ReadLibrary}
use Rattle.dy_sources.specs.declared.refused.Refused.{Refused}
use Rattle.dy_sources.specs.Verdicts.{accepted, IsVerdict}
use Rattle.dy_sources.specs.Libraries.{with_read, AreRead, AreAccepted, none_read, one_more}

-- so many libraries
pub record Sizes (libraries : Libraries) (count : ℕ) : Type 0 where
  pub rows : length libraries.rows ≡ count
  pub exports : length libraries.compiled.exports ≡ count
  pub uses : length libraries.compiled.uses ≡ count
  pub orders : length libraries.compiled.orders ≡ count

pub sizes_more : (libraries : Libraries) (count : ℕ) (read : ReadLibrary) → Sizes libraries count → Sizes (with_read libraries read) (count + 1)
sizes_more libraries count read sizes = record {
  rows = length_push libraries.rows read.row ∙ ap (λ (n : ℕ). n + 1) sizes.rows;
  exports = length_push libraries.compiled.exports read.exports ∙ ap (λ (n : ℕ). n + 1) sizes.exports;
  uses = length_push libraries.compiled.uses read.uses ∙ ap (λ (n : ℕ). n + 1) sizes.uses;
  orders = length_push libraries.compiled.orders read.order ∙ ap (λ (n : ℕ). n + 1) sizes.orders;
}

-- the first of others
abbrev pub IsFront : {X : Type 0} → List X → List X → Type 0
IsFront {X} front xs = (more : List X) × (xs ≡ front ++ more)

pub record Grown (before libraries : Libraries) : Type 0 where
  pub rows : IsFront before.rows libraries.rows
  pub exports : IsFront before.compiled.exports libraries.compiled.exports
  pub uses : IsFront before.compiled.uses libraries.compiled.uses
  pub orders : IsFront before.compiled.orders libraries.compiled.orders

front_same : {X : Type 0} (xs : List X) → IsFront xs xs
front_same xs = ([], sym (append-nil xs))

front_less : {X : Type 0} (front : List X) (x : X) (xs : List X) → IsFront (front ++ x ∷ []) xs → IsFront front xs
front_less front x xs (more, e) = (x ∷ more, e ∙ append_assoc front (x ∷ []) more)

pub at_front : {X : Type 0} (front xs : List X) (k : ℕ) (d : X) → IsFront front xs → k < length front → get_or xs k d ≡ get_or front k d
at_front {X} front xs k d (more, e) within = ap (λ (ys : List X). get_or ys k d) e ∙ get_or_append_left front more d k within

pub at_end : {X : Type 0} (front : List X) (x : X) (xs : List X) (k : ℕ) (d : X) → IsFront (front ++ x ∷ []) xs → length front ≡ k → get_or xs k d ≡ x
at_end {X} front x xs k d (more, e) long =
    ap (λ (ys : List X). get_or ys k d) (e ∙ append_assoc front (x ∷ []) more) ∙ get_or_at front x more d k long

grown_same : (libraries : Libraries) → Grown libraries libraries
grown_same libraries = record {
  rows = front_same libraries.rows;
  exports = front_same libraries.compiled.exports;
  uses = front_same libraries.compiled.uses;
  orders = front_same libraries.compiled.orders;
}

grown_less : (before libraries : Libraries) (read : ReadLibrary) → Grown (with_read before read) libraries → Grown before libraries
grown_less before libraries read grown = record {
  rows = front_less before.rows read.row libraries.rows grown.rows;
  exports = front_less before.compiled.exports read.exports libraries.compiled.exports grown.exports;
  uses = front_less before.compiled.uses read.uses libraries.compiled.uses grown.uses;
  orders = front_less before.compiled.orders read.order libraries.compiled.orders grown.orders;
}

-- the library of a LID file with this number, behind those in front of it
pub record Stands (files : FileMap) (libraries : Libraries) (lid : List ℕ) (number : ℕ) : Type 0 where
  pub before : Libraries
  pub read : ReadLibrary
  pub is : IsVerdict files before lid (accepted read)
  pub sizes : Sizes before number
  pub grown : Grown (with_read before read) libraries

module _ (files : FileMap) (libraries : Libraries) where
  same_read : (before : Libraries) → ◌≡◌ {A = Result Libraries Refused} (Ok libraries) (Ok before) → before ≡ libraries
  same_read before e = cc

  grown_by : (lids : List (List ℕ)) (before : Libraries) → AreRead files before lids (Ok libraries) → Grown before libraries
  grown_by [] before e = subst (Grown before) (same_read before e) (grown_same before)
  grown_by (lid ∷ lids) before (inl (why, is, e)) = absurd cc
  grown_by (lid ∷ lids) before (inr (read, is, more)) = grown_less before libraries read (grown_by lids (with_read before read) more)

  pub sizes_of : (lids : List (List ℕ)) (before : Libraries) (count : ℕ) → Sizes before count → AreRead files before lids (Ok libraries) → Sizes libraries (count + length lids)
  sizes_of [] before count sizes e = let same : count ≡ count + 0 = omega arith in subst (λ (n : ℕ). Sizes libraries n) same (subst (λ (l : Libraries). Sizes l count) (same_read before e) sizes)
  sizes_of (lid ∷ lids) before count sizes (inl (why, is, e)) = absurd cc
  sizes_of (lid ∷ lids) before count sizes (inr (read, is, more)) =
      let same : (count + 1) + length lids ≡ count + length (lid ∷ lids) = omega arith in
      subst (λ (n : ℕ). Sizes libraries n) same (sizes_of lids (with_read before read) (count + 1) (sizes_more before count read sizes) more)

  pub stands : (lids : List (List ℕ)) (before : Libraries) (count : ℕ) → Sizes before count → AreRead files before lids (Ok libraries) → (k : ℕ) → k < length lids → Stands files libraries (get_or lids k []) (count + k)
  stands [] before count sizes e k within = absurd (omega arith)
  stands (lid ∷ lids) before count sizes (inl (why, is, e)) k within = absurd cc
  stands (lid ∷ lids) before count sizes (inr (read, is, more)) zero within = record {
    before = before;
    read = read;
    is = is;
    sizes = let same : count ≡ count + 0 = omega arith in subst (λ (n : ℕ). Sizes before n) same sizes;
    grown = grown_by lids (with_read before read) more;
  }
  stands (lid ∷ lids) before count sizes (inr (read, is, more)) (suc k) within =
      let same : (count + 1) + k ≡ count + suc k = omega arith in
      subst (λ (n : ℕ). Stands files libraries (get_or lids k []) n) same (stands lids (with_read before read) (count + 1) (sizes_more before count read sizes) more k (omega arith))

two_fit : {X : Type 0} (x y : X) → length (x ∷ y ∷ []) ≤ 66
two_fit x y = omega arith

-- there are at most 64 beside the two that are built in
pub few_accepted : (libraries : Libraries) → AreAccepted libraries → length libraries.rows ≤ 66
few_accepted libraries none_read = two_fit dylan_row io_row
few_accepted libraries (one_more before read are is) =
    let less : length before.rows < 66 = leb-false 66 (length before.rows) is.room in
    let long = length_push before.rows read.row in
    omega (arith, less, long)
