-- The next library in another order: it is accepted there, as what it was.
use Rattle.std.proofs.Common.{◌≡◌, ◌⊎◌, ℕ, ◌+◌, ◌<◌, ◌≤◌, ◌^◌, List, [], ◌∷◌, ◌++◌, length, get_or, All, Contains, Some, None, refl, sym, ap, subst, ◌∙◌, inl, inr, arith}
use Rattle.std.specs.List.{AllZip, AllByRecursion}
use Rattle.std.proofs.lemmas.Bool.{cases_lt, lt-leb}
use Rattle.std.proofs.lemmas.List.{length_push, get_or_append_left, get_or_at, map-append}
use Rattle.std.proofs.lemmas.List.Elements.{Contains-append_left, Contains-push, Contains-push_cases}
use Rattle.dy_base.specs.Folding.{folded}
use Rattle.dy_base.specs.declared.exports.Exports.{Exports}
use Rattle.dy_io.specs.Files.{FileMap}
use Rattle.dy_load_order.specs.LoadOrder.{place_in}
use Rattle.dy_load_order.proofs.Members.{in_all}
use Rattle.dy_views.specs.Laws.{view_at}
use Rattle.dy_views.specs.Views.{Name, number_of, used_names, places_by, new_place, linked_exports, exports_in, no_exports}
use Rattle.dy_views.proofs.Standing.{next_there, one_more as compiled_more}
use Rattle.dy_libraries.specs.declared.libraries.Libraries.{Libraries}
use Rattle.dy_libraries.specs.Commands.{AreLibraries}
use Rattle.dy_libraries.specs.Programs.{no_row}
use Rattle.dy_libraries.proofs.Names.{apart_more}
use Rattle.dy_library_modules.specs.Modules.{clauses_of, uses_of, order_by, used_by}
use Rattle.dy_verdict.specs.declared.library.ReadLibrary.{ReadLibrary}
use Rattle.dy_verdict.specs.Verdicts as verdicts
use Rattle.dy_sources.specs.Verdicts.{accepted, IsVerdict}
use Rattle.dy_sources.specs.Libraries.{with_read}
use Rattle.dy_orders.specs.Orders.{numbers_of, uses_at}
use Rattle.dy_orders.proofs.Names.{name_of, numbered_so, one_number, name_found, none_named}
use Rattle.dy_orders.proofs.Loading.{zip_same, zip_weaker, zip_length, zip_mapped, places_alike, numbers_alike, each_number, AreNumbered}
use Rattle.dy_orders.proofs.Judging.{renumbered, Retold, retold}
use Rattle.dy_orders.proofs.Filing.{filed}
use Rattle.dy_orders.proofs.Fronts.{Sizes, sizes_more, at_front, at_end, Stands}
use Rattle.dy_orders.proofs.Alike.{Same, IsAlike, AreOf, to, from, alike, views_alike}

-- ---- others that are there

-- libraries correspond to others as before, where one more stands behind these
pub same_more : (libraries others : Libraries) (read : ReadLibrary) (l k : ℕ) → Same libraries others l k → Same libraries (with_read others read) l k
same_more libraries others read l k (within, inside, is) =
    let long = length_push others.compiled.exports read.exports in
    (omega (arith, long, within), inside, ap (λ (e : Exports). e.library) (get_or_append_left others.compiled.exports (read.exports ∷ []) no_exports l within) ∙ is)

alike_more : (libraries others : Libraries) (count : ℕ) (read : ReadLibrary) (l k : ℕ) → Sizes others count → Same libraries others l k → IsAlike libraries others l k → IsAlike libraries (with_read others read) l k
alike_more libraries others count read l k sizes same is = record {
  row = get_or_append_left others.rows (read.row ∷ []) no_row l (let r = sizes.rows in omega (arith, within, e, r)) ∙ is.row;
  exports = get_or_append_left others.compiled.exports (read.exports ∷ []) no_exports l within ∙ is.exports;
  uses = zip_same (Same libraries (with_read others read)) (get_or others.compiled.uses l []) (get_or (others.compiled.uses ++ read.uses ∷ []) l []) (get_or libraries.compiled.uses k []) (get_or libraries.compiled.uses k [])
      (sym (get_or_append_left others.compiled.uses (read.uses ∷ []) [] l (let u = sizes.uses in omega (arith, within, e, u)))) refl
      (zip_weaker (Same libraries others) (Same libraries (with_read others read)) (same_more libraries others read) (get_or others.compiled.uses l []) (get_or libraries.compiled.uses k []) is.uses);
}
  where
    within : l < length others.compiled.exports
    within = same.0

    e : length others.compiled.exports ≡ count
    e = sizes.exports

numbers_more : (places : List ℕ) (k : ℕ) → numbers_of (places ++ k ∷ []) ≡ numbers_of places ++ (2 + k) ∷ []
numbers_more places k = ap (λ (numbers : List ℕ). 0 ∷ 1 ∷ numbers) (map-append (λ (place : ℕ). 2 + place) places (k ∷ []))

-- ---- the next

module _ (files : FileMap) (libraries others : Libraries) (places : List ℕ) (are : AreLibraries libraries) (of : AreOf libraries others places)
    (k : ℕ) (lid : List ℕ) (stands : Stands files libraries lid (2 + k)) (within : 2 + k < length libraries.compiled.exports)
    (new : Contains (numbers_of places) (2 + k) → ⊥) (behind : All (Contains (numbers_of places)) (uses_at libraries (2 + k)))
    (room : length others.rows < 66) where
  abbrev before : Libraries
  before = stands.before

  abbrev read : ReadLibrary
  read = stands.read

  -- ---- what it is among the libraries

  row_is : get_or libraries.rows (2 + k) no_row ≡ read.row
  row_is = at_end before.rows read.row libraries.rows (2 + k) no_row stands.grown.rows stands.sizes.rows

  exports_is : get_or libraries.compiled.exports (2 + k) no_exports ≡ read.exports
  exports_is = at_end before.compiled.exports read.exports libraries.compiled.exports (2 + k) no_exports stands.grown.exports stands.sizes.exports

  uses_is : uses_at libraries (2 + k) ≡ read.uses
  uses_is = at_end before.compiled.uses read.uses libraries.compiled.uses (2 + k) [] stands.grown.uses stands.sizes.uses

  order_is : view_at libraries.compiled (2 + k) ≡ read.order
  order_is = at_end before.compiled.orders read.order libraries.compiled.orders (2 + k) [] stands.grown.orders stands.sizes.orders

  less_front : {X : Type 0} (x : X) (xs front : List X) (u : ℕ) (d : X) → (more : List X) × (xs ≡ (front ++ x ∷ []) ++ more) → u < length front → get_or xs u d ≡ get_or front u d
  less_front {X} x xs front u d is inside =
      let long = length_push front x in
      at_front (front ++ x ∷ []) xs u d is (omega (arith, long, inside)) ∙ get_or_append_left front (x ∷ []) d u inside

  exports_before : (u : ℕ) → u < 2 + k → get_or libraries.compiled.exports u no_exports ≡ get_or before.compiled.exports u no_exports
  exports_before u less = less_front read.exports libraries.compiled.exports before.compiled.exports u no_exports stands.grown.exports (let e = stands.sizes.exports in omega (arith, e, less))

  view_before : (u : ℕ) → u < 2 + k → view_at libraries.compiled u ≡ view_at before.compiled u
  view_before u less = less_front read.order libraries.compiled.orders before.compiled.orders u [] stands.grown.orders (let e = stands.sizes.orders in omega (arith, e, less))

  -- ---- none of the others has its name

  not_named : (name : Name) → read.exports.library ≡ name → number_of others.compiled.exports name ≡ None
  not_named name e = none_named others.compiled.exports name no
    where
      no : (l : ℕ) → l < length others.compiled.exports → name_of others.compiled.exports l ≡ name → ⊥
      no l inside is =
          let (m, same, what, c) = of.each l inside in
          let mine : name_of libraries.compiled.exports m ≡ name_of libraries.compiled.exports (2 + k) =
          sym same.2 ∙ is ∙ sym e ∙ ap (λ (x : Exports). x.library) (sym exports_is) in
          new (subst (Contains (numbers_of places)) (one_number libraries.compiled.exports m (2 + k) are.apart same.1 within mine) c)

  module _ (library : List ℕ) (texts : List (List ℕ)) (lower : folded library ≡ library) (tell : Retold before.compiled library texts read) where
    abbrev uses : List ℕ
    uses = uses_of others.compiled tell.forms

    abbrev order : List ℕ
    order = order_by others.compiled tell.forms

    abbrev next : ReadLibrary
    next = renumbered read uses order

    abbrev all : Libraries
    all = with_read others next

    -- ---- what it uses

    -- one of those that were compiled before it
    abbrev Earlier : ℕ → ℕ → Type 0
    Earlier l u = Same libraries others l u × (u < 2 + k)

    to_earlier : (l u v : ℕ) → Earlier l u → Earlier l v → u ≡ v
    to_earlier l u v r s = to libraries others places are of l u v r.0 s.0

    from_earlier : (l m u : ℕ) → Earlier l u → Earlier m u → l ≡ m
    from_earlier l m u r s = from libraries others places are of l m u r.0 s.0

    front_uses : All (Contains (numbers_of places)) (uses_of before.compiled tell.forms)
    front_uses = subst (All (Contains (numbers_of places))) (uses_is ∙ tell.uses) behind

    one_numbered : (name : Name) (u : ℕ) → number_of before.compiled.exports name ≡ Some u → Contains (numbers_of places) u
        → (l k : ℕ) × (number_of others.compiled.exports name ≡ Some l) × (number_of before.compiled.exports name ≡ Some k) × Earlier l k
    one_numbered name u e c =
        let (l, same) = of.there u c in
        let (inside, is) = name_found before.compiled.exports name u e in
        let long = stands.sizes.exports in
        let less : u < 2 + k = omega (arith, inside, long) in
        (l, u, numbered_so others.compiled.exports name l of.apart same.0 (same.2 ∙ ap (λ (x : Exports). x.library) (exports_before u less) ∙ is), e, (same, less))

    all_numbered : (names : List Name) → AllByRecursion (λ name. (u : ℕ) × (number_of before.compiled.exports name ≡ Some u) × Contains (numbers_of places) u) names
        → AreNumbered Earlier others.compiled.exports before.compiled.exports names
    all_numbered [] known = tt
    all_numbered (name ∷ names) ((u, e, c), rest) = (one_numbered name u e c, all_numbered names rest)

    uses_alike : AllZip Earlier uses (uses_of before.compiled tell.forms)
    uses_alike =
        let names = used_names (clauses_of tell.forms) in
        numbers_alike Earlier to_earlier from_earlier others.compiled.exports before.compiled.exports names [] []
        (all_numbered names (each_number (Contains (numbers_of places)) before.compiled.exports names [] tell.known
        (λ u i. in_all (Contains (numbers_of places)) (uses_of before.compiled tell.forms) u front_uses i))) tt

    -- ---- it stands behind the others

    abbrev count : ℕ
    count = length others.compiled.exports

    stay : (l u : ℕ) → Same libraries others l u → Same libraries all l u
    stay l u = same_more libraries others next l u

    last : Same libraries all count (2 + k)
    last =
        let long = length_push others.compiled.exports read.exports in
        (omega (arith, long), within, ap (λ (x : Exports). x.library) (get_or_at others.compiled.exports read.exports [] no_exports count refl ∙ sym exports_is))

    last_alike : IsAlike libraries all count (2 + k)
    last_alike = record {
      row = get_or_at others.rows read.row [] no_row count (of.sizes.rows ∙ sym of.sizes.exports) ∙ sym row_is;
      exports = get_or_at others.compiled.exports read.exports [] no_exports count refl ∙ sym exports_is;
      uses = zip_same (Same libraries all) uses (get_or (others.compiled.uses ++ uses ∷ []) count []) (uses_of before.compiled tell.forms) (uses_at libraries (2 + k))
          (sym (get_or_at others.compiled.uses uses [] [] count (of.sizes.uses ∙ sym of.sizes.exports))) (sym (uses_is ∙ tell.uses))
          (zip_weaker Earlier (Same libraries all) (λ l u r. stay l u r.0) uses (uses_of before.compiled tell.forms) uses_alike);
    }

    is_of : (m : ℕ) → Contains (numbers_of places ++ (2 + k) ∷ []) m → Contains (numbers_of (places ++ k ∷ [])) m
    is_of m = subst (λ (numbers : List ℕ). Contains numbers m) (sym (numbers_more places k))

    abbrev Each : ℕ → Type 0
    Each l = (m : ℕ) × Same libraries all l m × IsAlike libraries all l m × Contains (numbers_of (places ++ k ∷ [])) m

    each_of : (l : ℕ) → l < length all.compiled.exports → (l < count) ⊎ (count ≤ l) → Each l
    each_of l inside (inl less) =
        let (m, same, is, c) = of.each l less in
        (m, stay l m same, alike_more libraries others (2 + length places) next l m of.sizes same is, is_of m (Contains-append_left (numbers_of places) ((2 + k) ∷ []) m c))
    each_of l inside (inr past) =
        let long = length_push others.compiled.exports read.exports in
        let end : count ≡ l = omega (arith, long, inside, past) in
        subst Each end (2 + k, last, last_alike, is_of (2 + k) (Contains-push (numbers_of places) (2 + k)))

    there_of : (m : ℕ) → Contains (numbers_of places) m ⊎ (2 + k ≡ m) → (l : ℕ) × Same libraries all l m
    there_of m (inl c) = let (l, same) = of.there m c in (l, stay l m same)
    there_of m (inr e) = (count, subst (Same libraries all count) e last)

    fits : count + 1 < 2 ^ 32
    fits = let r = of.sizes.rows in let e = of.sizes.exports in omega (arith, r, e, room)

    sizes_all : Sizes all (2 + length (places ++ k ∷ []))
    sizes_all =
        let long = length_push places k in
        let e : 2 + length places + 1 ≡ 2 + length (places ++ k ∷ []) = omega (arith, long) in
        subst (Sizes all) e (sizes_more others (2 + length places) next of.sizes)

    pub all_are : AreOf libraries all (places ++ k ∷ [])
    all_are = record {
      compiled = compiled_more others.compiled read.exports uses order of.compiled (next_there others.compiled (clauses_of tell.forms) uses refl) refl fits;
      sizes = sizes_all;
      apart = apart_more others.compiled.exports read.exports of.apart (not_named read.exports.library refl);
      each = λ l inside. each_of l inside (cases_lt l count);
      there = λ m c. there_of m (Contains-push_cases (numbers_of places) (2 + k) m (subst (λ (numbers : List ℕ). Contains numbers m) (numbers_more places k) c));
      dylan = stay 0 0 of.dylan;
    }

    -- ---- it sees the same

    seen : AllZip (Same libraries all) order read.order
    seen =
        zip_same (Same libraries all) (view_at all.compiled count) order (view_at libraries.compiled (2 + k)) read.order
        (get_or_at others.compiled.orders order [] [] count (of.sizes.orders ∙ sym of.sizes.exports)) order_is
        (views_alike libraries all (places ++ k ∷ []) are all_are count (2 + k) last)

    seen_places : (xs ys : List ℕ) → AllZip (Same libraries all) xs ys → places_by (place_in order) xs ≡ places_by (place_in read.order) ys
    seen_places xs ys zip =
        places_alike (Same libraries all) (to libraries all (places ++ k ∷ []) are all_are) (from libraries all (places ++ k ∷ []) are all_are) order read.order xs ys seen zip

    places_same : places_by (place_in order) uses ≡ places_by (place_in read.order) read.uses
    places_same =
        seen_places uses (uses_of before.compiled tell.forms) (zip_weaker Earlier (Same libraries all) (λ l u r. stay l u r.0) uses (uses_of before.compiled tell.forms) uses_alike)
        ∙ ap (places_by (place_in read.order)) (sym tell.uses)

    exports_same : (l u : ℕ) → Earlier l u → exports_in others.compiled order l ≡ exports_in before.compiled (order_by before.compiled tell.forms) u
    exports_same l u r =
        ap (λ (numbers : List ℕ). linked_exports (new_place numbers) (get_or others.compiled.exports l no_exports)) placed
        ∙ ap (linked_exports (new_place (places_by (place_in (order_by before.compiled tell.forms)) (view_at before.compiled u)))) what
      where
        placed : places_by (place_in order) (view_at others.compiled l) ≡ places_by (place_in (order_by before.compiled tell.forms)) (view_at before.compiled u)
        placed =
            seen_places (view_at others.compiled l) (view_at libraries.compiled u)
            (zip_weaker (Same libraries others) (Same libraries all) stay (view_at others.compiled l) (view_at libraries.compiled u) (views_alike libraries others places are of l u r.0))
            ∙ ap (places_by (place_in read.order)) (view_before u r.1)
            ∙ ap (λ (seen_so : List ℕ). places_by (place_in seen_so) (view_at before.compiled u)) tell.order

        what : get_or others.compiled.exports l no_exports ≡ get_or before.compiled.exports u no_exports
        what = (alike libraries others places are of l u r.0).exports ∙ exports_before u r.1

    used_same : used_by others.compiled tell.forms ≡ used_by before.compiled tell.forms
    used_same =
        zip_mapped Earlier (exports_in others.compiled order) (exports_in before.compiled (order_by before.compiled tell.forms)) exports_same
        uses (uses_of before.compiled tell.forms) uses_alike

    pub judged_so : verdicts.IsVerdict others.compiled library texts (verdicts.accepted next)
    judged_so = tell.again others.compiled used_same (not_named library (tell.name ∙ lower)) (zip_length (Same libraries all) order read.order seen) places_same

  -- it is accepted behind the others, and they are those of one more place
  pub next_read : (one : ReadLibrary) × IsVerdict files others lid (accepted one) × AreOf libraries (with_read others one) (places ++ k ∷ [])
  next_read =
      let (library, texts, lower, judged, again) = filed files before lid read stands.is in
      let tell = retold before.compiled library texts read judged in
      (next library texts lower tell, again others (next library texts lower tell) (lt-leb 66 (length others.rows) room) (judged_so library texts lower tell), all_are library texts lower tell)
