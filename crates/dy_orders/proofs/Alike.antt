-- Libraries that correspond to others by their names come to the same programs.
use Rattle.std.proofs.Common.{◌≡◌, ℕ, ◌+◌, ◌<◌, Bool, true, false, cond, not, eqb, List, [], ◌∷◌, map, length, get_or, Contains, refl, sym, subst, ◌∙◌, arith}
use Rattle.std.specs.Prelude.{filter}
use Rattle.std.specs.List.{AllZip, IsDistinct}
use Rattle.std.specs.Str.{bytes_eq}
use Rattle.dy_load_order.specs.LoadOrder.{load_order}
use Rattle.dy_views.specs.declared.compiled.Compiled.{Compiled}
use Rattle.dy_views.specs.Laws.{view_at}
use Rattle.dy_views.specs.Views.{AreCompiled, no_exports}
use Rattle.dy_libraries.specs.declared.libraries.Libraries.{Libraries}
use Rattle.dy_libraries.specs.Commands.{names_of, AreLibraries}
use Rattle.dy_libraries.specs.Programs.{no_row, no_digest, name_at, others_in, library_at, libraries_of}
use Rattle.dy_orders.specs.Orders.{numbers_of}
use Rattle.dy_orders.proofs.Names.{name_of, one_number}
use Rattle.dy_orders.proofs.Loading.{zip_same, zip_mapped, test_alike, orders_alike}
use Rattle.dy_orders.proofs.Fronts.{Sizes}

module _ (libraries others : Libraries) where
  -- A number among the others and one among the libraries are of one name.
  abbrev pub Same : ℕ → ℕ → Type 0
  Same l k = (l < length others.compiled.exports) × (k < length libraries.compiled.exports) × (name_of others.compiled.exports l ≡ name_of libraries.compiled.exports k)

  -- The libraries there are one, by what they are and by what they use.
  pub record IsAlike (l k : ℕ) : Type 0 where
    pub row : get_or others.rows l no_row ≡ get_or libraries.rows k no_row
    pub exports : get_or others.compiled.exports l no_exports ≡ get_or libraries.compiled.exports k no_exports
    pub uses : AllZip Same (get_or others.compiled.uses l []) (get_or libraries.compiled.uses k [])

  -- The others are those of the LID files at these places.
  pub record AreOf (places : List ℕ) : Type 0 where
    pub compiled : AreCompiled others.compiled
    pub sizes : Sizes others (2 + length places)
    pub apart : IsDistinct bytes_eq (names_of others.compiled.exports)
    pub each : (l : ℕ) → l < length others.compiled.exports → (k : ℕ) × Same l k × IsAlike l k × Contains (numbers_of places) k
    pub there : (k : ℕ) → Contains (numbers_of places) k → (l : ℕ) × Same l k
    pub dylan : Same 0 0

module _ (libraries others : Libraries) (places : List ℕ) (are : AreLibraries libraries) (of : AreOf libraries others places) where
  abbrev R : ℕ → ℕ → Type 0
  R = Same libraries others

  pub to : (l k m : ℕ) → R l k → R l m → k ≡ m
  to l k m (within, inside, is) (also, here, same) = one_number libraries.compiled.exports k m are.apart inside here (sym is ∙ same)

  pub from : (l m k : ℕ) → R l k → R m k → l ≡ m
  from l m k (within, inside, is) (also, here, same) = one_number others.compiled.exports l m of.apart within also (is ∙ sym same)

  pub alike : (l k : ℕ) → R l k → IsAlike libraries others l k
  alike l k r =
      let (m, same, is, c) = of.each l r.0 in
      subst (IsAlike libraries others l) (to l m k same r) is

  view_loaded : (compiled : Compiled) → AreCompiled compiled → (k : ℕ) → k < length compiled.exports → view_at compiled k ≡ load_order compiled.uses k
  view_loaded compiled so k within = let long = so.orders in so.loaded k (omega (arith, long, within))

  pub views_alike : (l k : ℕ) → R l k → AllZip R (view_at others.compiled l) (view_at libraries.compiled k)
  views_alike l k r =
      zip_same R (load_order others.compiled.uses l) (view_at others.compiled l) (load_order libraries.compiled.uses k) (view_at libraries.compiled k)
      (sym (view_loaded others.compiled of.compiled l r.0)) (sym (view_loaded libraries.compiled are.compiled k r.1))
      (orders_alike R to from others.compiled.uses libraries.compiled.uses of.compiled.earlier are.compiled.earlier of.dylan (λ x y s. (alike x y s).uses) l k r)

  -- ---- the libraries of a program

  -- the others among a number and more, by whether the number is that of the library
  abbrev chosen : Compiled → (own number : ℕ) → List ℕ → Bool → List (List ℕ × List ℕ)
  chosen compiled own number numbers b =
      map (λ other. (name_at compiled other, no_digest)) (cond (not b) (number ∷ filter (λ other. not (eqb other own)) numbers) (filter (λ other. not (eqb other own)) numbers))

  others_same : (l k : ℕ) → R l k → (xs ys : List ℕ) → AllZip R xs ys → others_in others.compiled l xs ≡ others_in libraries.compiled k ys
  others_same l k r [] [] z = refl
  others_same l k r [] (y ∷ ys) z = absurd z
  others_same l k r (x ∷ xs) [] z = absurd z
  others_same l k r (x ∷ xs) (y ∷ ys) z =
      go (eqb x l) (eqb y k) (test_alike R to from x y l k z.0 r) (others_same l k r xs ys z.1)
    where
      name : name_at others.compiled x ≡ name_at libraries.compiled y
      name = z.0.2

      go : (b c : Bool) → b ≡ c → others_in others.compiled l xs ≡ others_in libraries.compiled k ys → chosen others.compiled l x xs b ≡ chosen libraries.compiled k y ys c
      go true true e rest = rest
      go true false e rest = absurd cc
      go false true e rest = absurd cc
      go false false e rest = λ i. (name i, no_digest) ∷ rest i

  library_same : (l k : ℕ) → R l k → library_at others l ≡ library_at libraries k
  library_same l k r = λ i. record {
    row = (alike l k r).row i;
    exports = (alike l k r).exports i;
    macros = [];
    uses = others_same l k r (view_at others.compiled l) (view_at libraries.compiled k) (views_alike l k r) i;
  }

  pub programs_same : (l k : ℕ) → R l k → libraries_of others l ≡ libraries_of libraries k
  programs_same l k r = zip_mapped R (library_at others) (library_at libraries) library_same (view_at others.compiled l) (view_at libraries.compiled k) (views_alike l k r)
