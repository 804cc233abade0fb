-- Lists of keys and of the items that they stand for.
use Rattle.std.proofs.Common.{◌≡◌, ℕ, ◌+◌, Bool, true, false, ◌||◌, cond, nat_lt, List, [], ◌∷◌, ◌++◌, map, length, Option, Some, None, refl, sym, ap, ◌∙◌, position}
use Rattle.std.specs.Prelude.{not, if◌then◌else◌}
use Rattle.std.specs.List.{list_any, prefix_len, position_or_len}
use Rattle.std.specs.Option.{unwrap_or}
use Rattle.std.proofs.lemmas.List.{map_push, length-map}
use Rattle.indexmap.specs.IndexSet.{insert_key}
use Rattle.dy_lowered.specs.Tables.{index_in}

module _ {A K : Type 0} (same : A → A → Bool) (item : K → A) where
  any_through : (a : A) (ks : List K) → list_any (λ (l : K). same a (item l)) ks ≡ list_any (same a) (map item ks)
  any_through a [] = refl
  any_through a (k ∷ ks) = ap (λ (b : Bool). same a (item k) || b) (any_through a ks)

  through_if : (b : Bool) (ks : List K) (k : K) → map item (if b then ks else ks ++ k ∷ []) ≡ (if b then map item ks else map item ks ++ item k ∷ [])
  through_if true ks k = refl
  through_if false ks k = map_push item ks k

  -- a key is put behind the others where its item is
  pub inserted : (ks : List K) (k : K) → map item (insert_key (λ (x y : K). same (item x) (item y)) ks k) ≡ insert_key same (map item ks) (item k)
  inserted ks k =
      through_if (list_any (λ (l : K). same (item k) (item l)) ks) ks k
      ∙ ap (λ (b : Bool). if b then map item ks else map item ks ++ item k ∷ []) (any_through (item k) ks)

  prefix_through : (a : A) (ks : List K) → position_or_len (λ (l : K). same a (item l)) ks ≡ position_or_len (same a) (map item ks)
  prefix_through a [] = refl
  prefix_through a (k ∷ ks) = ap (λ (n : ℕ). cond (not (same a (item k))) (1 + n) 0) (prefix_through a ks)

  position_through : (a : A) (ks : List K) → position (λ (l : K). same a (item l)) ks ≡ position (same a) (map item ks)
  position_through a ks =
      let p = prefix_through a ks in
      let n = sym (length-map ks item) in
      λ i. cond (nat_lt (p i) (n i)) (Some (p i)) None

  -- the place of a key is that of its item
  pub indexed : (a : A) (ks : List K) (found : Option ℕ) (i : ℕ) → found ≡ position (λ (l : K). same a (item l)) ks → found ≡ Some i → i ≡ index_in same a (map item ks)
  indexed a ks found i e f =
      ap (λ (o : Option ℕ). unwrap_or o (length (map item ks))) (sym f ∙ e ∙ position_through a ks)
