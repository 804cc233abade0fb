-- What is known of each of the libraries that are accepted.
use Rattle.std.proofs.Common.{◌≡◌, ◌⊎◌, inl, inr, ℕ, zero, suc, ◌+◌, ◌-◌, ◌<◌, ◌≤◌, true, false, List, [], ◌∷◌, ◌++◌, map, length, get_or, slice_get, Option, Some, None, Contains, refl, sym, ap, ◌∙◌, subst, arith}
use Rattle.std.proofs.lemmas.Bool.{cases_lt}
use Rattle.std.proofs.lemmas.List.{get_or_append_left, get_or_push, get_or-map, length_push, length-map, map_push}
use Rattle.std.proofs.lemmas.List.Elements.{All-contains, Contains-get_or}
use Rattle.std.proofs.lemmas.Option.{slice_get-get_or, slice_get_within, get_or_from_slice_get, slice_get-map, same_Some}
use Rattle.dy_base.specs.declared.exports.Exports.{Exports}
use Rattle.dy_term.specs.declared.rows.LibraryRow.{LibraryRow}
use Rattle.dy_code.specs.Validity.{Every}
use Rattle.dy_lowering_whole.specs.valid.Scoped.{is_library_scoped}
use Rattle.dy_lowering_whole.specs.Lowered.{is_library_lowered}
use Rattle.dy_lowered.specs.Linking.{linked_name}
use Rattle.dy_library_names.specs.Named.{library_from}
use Rattle.dy_called_generics.specs.Views.{CallsAreThere}
use Rattle.dy_module_generics.specs.Behind.{ModulesAreThere, ExportsAreThere, AreReadBehind, with_library}
use Rattle.dy_module_generics.specs.Carried.{StandAt, carried}
use Rattle.dy_module_generics.proofs.Behind.{faultless_are_read_behind, calls_are_there_behind, exports_are_there_behind}
use Rattle.dy_module_generics.proofs.Carried.{exports_are_carried}
use Rattle.dy_views.specs.declared.compiled.Compiled.{Compiled}
use Rattle.dy_views.specs.Views.{no_exports, exports_in, order_of, AreCompiled, AreThere, new_place, places_by}
use Rattle.dy_views.specs.Laws.{view_at, place_between}
use Rattle.dy_views.proofs.Standing.{places_are_kept}
use Rattle.dy_load_order.specs.LoadOrder.{place_in}
use Rattle.dy_libraries.specs.declared.libraries.Libraries.{Libraries}
use Rattle.dy_libraries.specs.Commands.{AreLibraries}
use Rattle.dy_libraries.specs.Programs.{no_row, name_at}
use Rattle.dy_viewed_rows.specs.Within.{MentionsAreWithin}
use Rattle.dy_viewed_rows.proofs.Used.{next_mentions_are_in_view}
use Rattle.dy_verdict.specs.declared.library.ReadLibrary.{ReadLibrary}
use Rattle.dy_sources.specs.Libraries.{with_read}
use Rattle.dy_accepted_runs.proofs.Lists.{map_on}
use Rattle.dy_accepted_runs.proofs.Views.{all_seen_low, next_last, others_low}
use Rattle.dy_accepted_runs.proofs.Read.{IsReadSo}

abbrev pub row_at : Libraries → ℕ → LibraryRow
row_at libraries k = get_or libraries.rows k no_row

abbrev pub exports_at : Libraries → ℕ → Exports
exports_at libraries k = get_or libraries.compiled.exports k no_exports

-- the rows of the libraries of a view
abbrev pub view_rows : Libraries → ℕ → List LibraryRow
view_rows libraries k = map (row_at libraries) (view_at libraries.compiled k)

pub record IsKnown (libraries : Libraries) (k : ℕ) : Type 0 where
  pub named : (row_at libraries k).name ≡ name_at libraries.compiled k
  pub scoped : is_library_scoped (row_at libraries k) ≡ true
  pub lowered : is_library_lowered (row_at libraries k) ≡ true
  pub mentions : MentionsAreWithin (length (view_at libraries.compiled k)) (row_at libraries k)
  pub calls : CallsAreThere (view_rows libraries k) (row_at libraries k)
  pub exports : ExportsAreThere (view_rows libraries k) (exports_at libraries k ∷ [])

abbrev pub AreKnown : Libraries → Type 0
AreKnown libraries = (k : ℕ) → k < length libraries.rows → IsKnown libraries k

-- ---- one library more

module _ (before : Libraries) (read : ReadLibrary) (are : AreLibraries before) (known : AreKnown before) (so : IsReadSo before.compiled read) where
  abbrev now : Libraries
  now = with_read before read

  abbrev c : Compiled
  c = before.compiled

  abbrev n : ℕ
  n = length before.rows

  count : n ≡ length c.exports
  count = are.rows

  old_row : (k : ℕ) → k < n → row_at now k ≡ row_at before k
  old_row k low = get_or_append_left before.rows (read.row ∷ []) no_row k low

  old_export : (k : ℕ) → k < n → exports_at now k ≡ exports_at before k
  old_export k low = get_or_append_left c.exports (read.exports ∷ []) no_exports k (omega (arith, count, low))

  old_view : (k : ℕ) → k < n → view_at now.compiled k ≡ view_at c k
  old_view k low = let long = are.compiled.orders in get_or_append_left c.orders (read.order ∷ []) [] k (omega (arith, count, low, long))

  old_name : (k : ℕ) → k < n → name_at now.compiled k ≡ name_at c k
  old_name k low = ap (λ (e : Exports). e.library) (old_export k low)

  new_row : row_at now n ≡ read.row
  new_row = get_or_push before.rows read.row no_row n refl

  new_export : exports_at now n ≡ read.exports
  new_export = get_or_push c.exports read.exports no_exports n (sym count)

  new_view : view_at now.compiled n ≡ read.order
  new_view = let long = are.compiled.orders in get_or_push c.orders read.order [] n (long ∙ sym count)

  low_rows : (m : ℕ) → m < length c.exports → row_at now m ≡ row_at before m
  low_rows m low = old_row m (omega (arith, count, low))

  old_rows : (k : ℕ) → k < n → view_rows now k ≡ view_rows before k
  old_rows k low =
      ap (map (row_at now)) (old_view k low)
      ∙ map_on (λ m. m < length c.exports) (row_at now) (row_at before) low_rows (view_at c k) (all_seen_low c are.compiled k (omega (arith, count, low)))

  old_known : (k : ℕ) → k < n → IsKnown now k
  old_known k low =
      let o = known k low in
      let row = sym (old_row k low) in
      let view = sym (old_rows k low) in
      record {
        named = ap (λ (r : LibraryRow). r.name) (old_row k low) ∙ o.named ∙ sym (old_name k low);
        scoped = ap is_library_scoped (old_row k low) ∙ o.scoped;
        lowered = ap is_library_lowered (old_row k low) ∙ o.lowered;
        mentions = subst (λ (r : LibraryRow). MentionsAreWithin (length (view_at now.compiled k)) r) row (subst (λ (v : List ℕ). MentionsAreWithin (length v) (row_at before k)) (sym (old_view k low)) o.mentions);
        calls = subst (CallsAreThere (view_rows now k)) row (subst (λ (v : List LibraryRow). CallsAreThere v (row_at before k)) view o.calls);
        exports = subst (λ (e : Exports). ExportsAreThere (view_rows now k) (e ∷ [])) (sym (old_export k low)) (subst (λ (v : List LibraryRow). ExportsAreThere v (exports_at before k ∷ [])) view o.exports);
      }

  -- its view: the others, and at last itself
  module _ (others : List ℕ) (is : order_of c read.uses ≡ others ++ length c.exports ∷ []) where
    abbrev front : List LibraryRow
    front = map (row_at before) others

    low_others : Every (λ m. m < length c.exports) others
    low_others = others_low c read.uses are.compiled so.there others is

    long : length read.order ≡ length others + 1
    long = ap length (so.order ∙ is) ∙ length_push others (length c.exports)

    new_rows : view_rows now n ≡ front ++ read.row ∷ []
    new_rows =
        ap (map (row_at now)) (new_view ∙ so.order ∙ is) ∙ map_push (row_at now) others (length c.exports)
        ∙ (λ i. map_on (λ m. m < length c.exports) (row_at now) (row_at before) low_rows others low_others i ++ (ap (row_at now) (sym count) ∙ new_row) i ∷ [])

    -- the place in front of a library that is not itself
    inside : (p q : ℕ) → p < length (order_of c read.uses) → get_or (order_of c read.uses) p 0 ≡ q → q < length c.exports → slice_get front p ≡ Some (row_at before q)
    inside p q within at low = go (cases_lt p (length others))
      where
        here : get_or (others ++ length c.exports ∷ []) p 0 ≡ q
        here = ap (λ (xs : List ℕ). get_or xs p 0) (sym is) ∙ at

        all : length (order_of c read.uses) ≡ length others + 1
        all = ap length is ∙ length_push others (length c.exports)

        go : (p < length others) ⊎ (length others ≤ p) → slice_get front p ≡ Some (row_at before q)
        go (inl less) =
            slice_get-map (row_at before) others p ∙ ap (λ (o : Option ℕ). option_of o) (slice_get-get_or others p 0 less) ∙ ap (λ (m : ℕ). Some (row_at before m)) (sym (get_or_append_left others (length c.exports ∷ []) 0 p less) ∙ here)
          where
            option_of : Option ℕ → Option LibraryRow
            option_of None = None
            option_of (Some m) = Some (row_at before m)
        go (inr more) =
            let last : get_or (others ++ length c.exports ∷ []) p 0 ≡ length c.exports = get_or_push others (length c.exports) 0 p (omega (arith, within, all, more)) in
            let same : q ≡ length c.exports = sym here ∙ last in
            absurd (omega (arith, same, low))

    -- each library of the view of one that is used stands in front
    stands : (library : ℕ) → Contains read.uses library → StandAt (place_between read.order (view_at c library)) (view_rows before library) front
    stands library used number row at = (row, subst (λ (xs : List ℕ). slice_get front (place_between xs (view_at c library) number) ≡ Some row) (sym so.order) found, refl)
      where
        there : library < length c.exports
        there = All-contains (λ m. m < length c.exports) read.uses library so.there used

        within : number < length (view_at c library)
        within = let long = length-map (view_at c library) (row_at before) in let low = slice_get_within (view_rows before library) number row at in omega (arith, long, low)

        seen : get_or (view_at c library) number 0 < length c.exports
        seen = low_of (view_at c library) number within (all_seen_low c are.compiled library there)
          where
            low_of : (xs : List ℕ) (j : ℕ) → j < length xs → Every (λ m. m < length c.exports) xs → get_or xs j 0 < length c.exports
            low_of [] j w all = absurd (omega (arith, w))
            low_of (x ∷ xs) zero w all = all.0
            low_of (x ∷ xs) (suc j) w all = low_of xs j (omega (arith, w)) all.1

        same : row_at before (get_or (view_at c library) number 0) ≡ row
        same = sym (get_or-map (row_at before) (view_at c library) number 0 no_row within) ∙ get_or_from_slice_get (view_rows before library) number row no_row at

        found : slice_get front (place_between (order_of c read.uses) (view_at c library) number) ≡ Some row
        found =
            let kept = places_are_kept c read.uses library are.compiled so.there used number within in
            inside (place_between (order_of c read.uses) (view_at c library) number) (get_or (view_at c library) number 0) kept.0 kept.1 seen ∙ ap Some same

    -- so what it uses is there
    used_there : (uses : List ℕ) → ((m : ℕ) → Contains uses m → Contains read.uses m) → ExportsAreThere front (map (exports_in c read.order) uses)
    used_there [] among = tt
    used_there (library ∷ uses) among =
        let here = among library (0, omega arith, refl) in
        let low : library < n = let l = All-contains (λ m. m < length c.exports) read.uses library so.there here in omega (arith, count, l) in
        let one = exports_are_carried (place_between read.order (view_at c library)) (view_rows before library) front (exports_at before library ∷ []) (stands library here) (known library low).exports in
        (one.0, used_there uses (λ m has. among m (suc has.0, omega (arith, has.1), has.2)))

    behind : AreReadBehind front so.heading.number so.given so.form so.table so.words so.forms so.reading
    behind =
        let number : so.heading.number ≡ length front = let l = length-map others (row_at before) in let m = so.number in omega (arith, l, m, long) in
        faultless_are_read_behind front so.heading.number so.given so.form so.table so.words so.doubled so.forms so.reading number (subst (ExportsAreThere front) (sym so.used) (used_there read.uses (λ m has. has))) so.made so.fine

    abbrev own : LibraryRow
    own = library_from so.heading so.reading.out so.forms

    whole : view_rows now n ≡ with_library front so.heading so.reading.out so.forms
    whole = new_rows ∙ ap (λ (r : LibraryRow). front ++ r ∷ []) so.row

    new_known : IsKnown now n
    new_known =
        let row : own ≡ row_at now n = sym (new_row ∙ so.row) in
        let view = sym whole in
        let mentions = next_mentions_are_in_view c read.uses so.heading so.given so.form so.table so.forms so.reading are.compiled so.there (so.number ∙ ap (λ (xs : List ℕ). length xs - 1) so.order) (so.used ∙ ap (λ (xs : List ℕ). map (exports_in c xs) read.uses) so.order) so.made in
        let exports = exports_are_there_behind front so.heading so.given so.form so.table so.words so.forms so.reading behind read.exports.modules so.exported in
        record {
          named = ap (λ (r : LibraryRow). r.name) new_row ∙ so.name ∙ ap (λ (e : Exports). e.library) (sym new_export);
          scoped = ap is_library_scoped new_row ∙ so.scoped;
          lowered = ap is_library_lowered new_row ∙ so.lowered;
          mentions = subst (λ (r : LibraryRow). MentionsAreWithin (length (view_at now.compiled n)) r) row (subst (λ (v : List ℕ). MentionsAreWithin (length v) own) (sym (new_view ∙ so.order)) mentions);
          calls = subst (CallsAreThere (view_rows now n)) row (subst (λ (v : List LibraryRow). CallsAreThere v own) view (calls_are_there_behind front so.heading so.given so.form so.table so.words so.forms so.reading behind));
          exports = subst (λ (e : Exports). ExportsAreThere (view_rows now n) (e ∷ [])) (sym new_export)
              (subst (λ (v : List LibraryRow). ExportsAreThere v (read.exports ∷ [])) view ((exports, subst (ModulesAreThere (with_library front so.heading so.reading.out so.forms)) (sym so.seen) tt), tt));
        }

  -- the next number is the last, or one before
  split : (k : ℕ) → k < length now.rows → (k < n) ⊎ (k ≡ n)
  split k low = go (cases_lt k n)
    where
      all : length now.rows ≡ n + 1
      all = length_push before.rows read.row

      go : (k < n) ⊎ (n ≤ k) → (k < n) ⊎ (k ≡ n)
      go (inl less) = inl less
      go (inr more) = inr (omega (arith, low, all, more))

  each_known : (k : ℕ) → (k < n) ⊎ (k ≡ n) → IsKnown now k
  each_known k (inl low) = old_known k low
  each_known k (inr last) = let (others, is) = next_last c read.uses are.compiled so.there in subst (IsKnown now) (sym last) (new_known others is)

  pub one_more_known : AreKnown now
  one_more_known k low = each_known k (split k low)
