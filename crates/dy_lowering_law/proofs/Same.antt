-- What is done with states does not see the numbers of closures.
use Rattle.std.proofs.Common.{◌≡◌, ℕ, ◌+◌, Bool, true, false, List, [], ◌∷◌, ◌++◌, map, drop, length, Option, Some, None, refl, sym, ap, ◌∙◌}
use Rattle.std.specs.Prelude.{slice_get, slice_set}
use Rattle.std.specs.Option.{option_map}
use Rattle.std.proofs.lemmas.List.{length-map, map-append, map-set}
use Rattle.std.proofs.lemmas.Option.{slice_get-map}
use Rattle.dy_term.specs.declared.literal.Literal.{Literal, Literal-F, out-Literal}
use Rattle.dy_values.specs.declared.value.Variant.{Variant}
use Rattle.dy_values.specs.declared.value.Variant.TheVariants.{Int, Char, Bool as Truth, Symbol, Nil, Class, TypeValue, Generic, Function, Builtin, Object}
use Rattle.dy_values.specs.declared.object.ObjectRow.{ObjectRow}
use Rattle.dy_values.specs.declared.object.ObjectRow.TheVariants as object
use Rattle.dy_values.specs.declared.store.Store.{Store}
use Rattle.dy_values.specs.Spending.{first}
use Rattle.dy_values.specs.Stores.{with_object, next_object}
use Rattle.dy_outcome.specs.declared.place.Place.{Place}
use Rattle.dy_outcome.specs.declared.place.Place.TheVariants.{Own, Captured}
use Rattle.dy_outcome.specs.declared.state.State.{State}
use Rattle.dy_outcome.specs.Places.{cell_in, cell_of, or_itself, content, kept_at, read, put, put_in, put_through, with_row, assign, with_cell, bind, with_local}
use Rattle.dy_outcome.specs.Parts.{all_bound}
use Rattle.dy_lowering_law.specs.Renumbering.{renumbered_row, renumbered_store, renumbered}

module _ (number : ℕ → ℕ) where
  pub next_same : (store : Store) → next_object (renumbered_store number store) ≡ next_object store
  next_same store = ap Object (length-map store.objects (renumbered_row number))

  pub added_same : (store : Store) (row : ObjectRow) → with_object (renumbered_store number store) (renumbered_row number row) ≡ renumbered_store number (with_object store row)
  added_same store row = ap (λ (objects : List ObjectRow). record (renumbered_store number store) { objects = objects }) (sym (map-append (renumbered_row number) store.objects (row ∷ [])))

  in_row_same : (row : ObjectRow) → cell_in (Some (renumbered_row number row)) ≡ cell_in (Some row)
  in_row_same (object.Instance class slots) = refl
  in_row_same (object.Pair head tail) = refl
  in_row_same (object.Vector stretchy items) = refl
  in_row_same (object.Bytes bytes) = refl
  in_row_same (object.Table entries) = refl
  in_row_same (object.Range start step end) = refl
  in_row_same (object.Closure lambda captured) = refl
  in_row_same (object.Exit block) = refl
  in_row_same (object.NextMethod generic methods ambiguous arguments) = refl
  in_row_same (object.NextHandler block value) = refl
  in_row_same (object.Cell value) = refl

  in_option_same : (row : Option ObjectRow) → cell_in (option_map (renumbered_row number) row) ≡ cell_in row
  in_option_same None = refl
  in_option_same (Some row) = in_row_same row

  pub cell_same : (store : Store) (value : Variant) → cell_of (renumbered_store number store) value ≡ cell_of store value
  cell_same store (Object place) = ap cell_in (slice_get-map (renumbered_row number) store.objects place) ∙ in_option_same (slice_get store.objects place)
  cell_same store value = refl

  pub content_same : (store : Store) (value : Variant) → content (renumbered_store number store) value ≡ content store value
  content_same store value = ap (λ held. or_itself held value) (cell_same store value)

  kept_same : (place : Place) (s : State) → kept_at place (renumbered number s) ≡ kept_at place s
  kept_same (Own k in_cell) s = refl
  kept_same (Captured k) s = refl

  pub put_same : (place : Place) (value : Variant) (s : State) → put place value (renumbered number s) ≡ renumbered number (put place value s)
  put_same (Own k in_cell) value s = refl
  put_same (Captured k) value s = refl

  row_set_same : (store : Store) (place : ℕ) (value : Variant) → with_row (renumbered_store number store) place (object.Cell value) ≡ renumbered_store number (with_row store place (object.Cell value))
  row_set_same store place value = ap (λ (objects : List ObjectRow). record (renumbered_store number store) { objects = objects }) (sym (map-set (renumbered_row number) store.objects place (object.Cell value)))

  put_in_same : (held : Option Variant) (cell : Variant) (place : Place) (value : Variant) (s : State) → put_in held cell place value (renumbered number s) ≡ renumbered number (put_in held cell place value s)
  put_in_same None cell place value s = put_same place value s
  put_in_same (Some held) (Object k) place value s = ap (λ (store : Store). record s { store = store }) (row_set_same s.store k value)
  put_in_same (Some held) _ place value s = put_same place value s

  pub through_same : (place : Place) (value : Variant) (s : State) → put_through place value (renumbered number s) ≡ renumbered number (put_through place value s)
  through_same place value s =
      (λ i. put_in (cell_of (renumbered_store number s.store) (kept_same place s i)) (kept_same place s i) place value (renumbered number s))
      ∙ ap (λ held. put_in held (kept_at place s) place value (renumbered number s)) (cell_same s.store (kept_at place s))
      ∙ put_in_same (cell_of s.store (kept_at place s)) (kept_at place s) place value s

  pub assign_same : (place : Place) (value : Variant) (s : State) → assign place value (renumbered number s) ≡ renumbered number (assign place value s)
  assign_same (Own k false) value s = refl
  assign_same (Own k true) value s = through_same (Own k true) value s
  assign_same (Captured k) value s = through_same (Captured k) value s

  pub bind_same : (place : Place) (value : Variant) (s : State) → bind place value (renumbered number s) ≡ renumbered number (bind place value s)
  bind_same (Own k false) value s = refl
  bind_same (Own k true) value s =
      (λ i. with_local k (next_same s.store i) (record s { store = added_same s.store (object.Cell value) i }))
  bind_same (Captured k) value s = refl

  pub all_bound_same : (places : List Place) (values : List Variant) (s : State) → all_bound places values (renumbered number s) ≡ renumbered number (all_bound places values s)
  all_bound_same [] values s = refl
  all_bound_same (place ∷ places) values s =
      ap (λ (t : State). all_bound places (drop 1 values) t) (bind_same place (first values) s)
      ∙ all_bound_same places (drop 1 values) (bind place (first values) s)

  pub read_same : (place : Place) (s : State) → read place (renumbered number s) ≡ read place s
  read_same (Own k false) s = refl
  read_same (Own k true) s = content_same s.store (kept_at (Own k true) s)
  read_same (Captured k) s = content_same s.store (kept_at (Captured k) s)
