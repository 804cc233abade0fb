-- The program of a main library among known ones.
use Rattle.std.proofs.Common.{◌≡◌, ◌⊎◌, inl, inr, ℕ, zero, suc, ◌+◌, ◌<◌, ◌≤◌, Bool, true, false, not, ◌&&◌, cond, true≢false, eqb, eq-eqb, eqb-true, List, [], ◌∷◌, ◌++◌, map, filter, length, get_or, slice_get, Option, Some, None, All, Contains, refl, sym, ap, ◌∙◌, subst, arith}
use Rattle.std.specs.Prelude.{unwrap_or}
use Rattle.std.specs.Option.{option_map}
use Rattle.std.specs.List.{IsDistinct, list_all, list_any}
use Rattle.std.specs.Str.{bytes_eq}
use Rattle.std.proofs.lemmas.Slice.Eq.{bytes_eq-Decides}
use Rattle.std.proofs.lemmas.Bool.{cases_lt}
use Rattle.std.proofs.lemmas.List.{get_or-map, get_or_append_left, get_or_push, length_push, length-map, map_push}
use Rattle.std.proofs.lemmas.List.{append-nil}
use Rattle.std.proofs.lemmas.List.Elements.{Contains-get_or, filter-append}
use Rattle.std.proofs.lemmas.List.Folds.{list_any_at}
use Rattle.std.proofs.lemmas.Iterator.Adapters.{position_from-zero}
use Rattle.std.proofs.lemmas.Option.{slice_get-get_or, slice_get_within, get_or_from_slice_get, slice_get-map}
use Rattle.std.proofs.lemmas.Map.Keys.{apart_from_distinct, IsDistinct-from_apart}
use Rattle.dy_term.specs.declared.rows.LibraryRow.{LibraryRow}
use Rattle.dy_term.specs.declared.rows.Program.{Program}
use Rattle.dy_code.specs.declared.unit.Library.{Library}
use Rattle.dy_code.specs.Validity.{Every}
use Rattle.dy_values.specs.Stores.{place_in, name_at as name_at_place}
use Rattle.dy_lowered.specs.Linking.{view_of, place_of}
use Rattle.dy_lowering_whole.specs.valid.Scoped.{is_library_scoped, IsScoped}
use Rattle.dy_lowering_whole.specs.valid.Valid.{GenericsAreThere}
use Rattle.dy_lowering_whole.specs.Lowered.{is_library_lowered, IsLowered}
use Rattle.dy_called_generics.specs.Views.{CallsAreThere}
use Rattle.dy_module_generics.specs.Carried.{StandAt}
use Rattle.dy_linked_rows.specs.Rows.{linked_library}
use Rattle.dy_linked_rows.specs.Programs.{Viewed, unit_of, units, places_of, row_in_program}
use Rattle.dy_linked_rows.proofs.Kept.{scope_stays, kinds_stay}
use Rattle.dy_linked_rows.proofs.Bare.{counts_stay}
use Rattle.dy_load_order.specs.Laws.{Reaches, itself, by_use}
use Rattle.dy_load_order.proofs.Lawful.{reached_are_loaded}
use Rattle.dy_views.specs.declared.compiled.Compiled.{Compiled}
use Rattle.dy_views.specs.Views.{Name, no_exports}
use Rattle.dy_views.specs.Laws.{view_at}
use Rattle.dy_views.proofs.Finding.{found}
use Rattle.dy_libraries.specs.declared.libraries.Libraries.{Libraries}
use Rattle.dy_libraries.specs.Commands.{names_of, AreLibraries}
use Rattle.dy_libraries.specs.Programs.{no_row, name_at, no_digest, others_of, library_at, libraries_of}
use Rattle.dy_running.specs.Runs.{viewed, program_of, AreApart}
use Rattle.dy_viewed_rows.specs.Programs.{IsSeen}
use Rattle.dy_viewed_rows.specs.Within.{MentionsAreWithin}
use Rattle.dy_viewed_rows.proofs.Apart.{some_place, name_is, programs_are_apart}
use Rattle.dy_accepted_runs.proofs.Lists.{every_of}
use Rattle.dy_accepted_runs.proofs.Views.{loaded, seen_low, all_seen_low, seen_once, own_last}
use Rattle.dy_accepted_runs.proofs.Known.{row_at, view_rows, IsKnown, AreKnown}
use Rattle.dy_accepted_runs.proofs.Carried.{calls_carried}

-- ---- lists of libraries

others_kept : (k : ℕ) (others : List ℕ) → Every (λ m. eqb m k ≡ false) others → filter (λ m. not (eqb m k)) others ≡ others
others_kept k [] all = refl
others_kept k (m ∷ others) all = ap (λ (b : Bool). cond (not b) (m ∷ filter (λ m. not (eqb m k)) others) (filter (λ m. not (eqb m k)) others)) all.0 ∙ ap (λ (xs : List ℕ). m ∷ xs) (others_kept k others all.1)

eqb_self : (k : ℕ) → eqb k k ≡ true
eqb_self k = eq-eqb k k refl

one_left : (k : ℕ) → filter (λ m. not (eqb m k)) (k ∷ []) ≡ []
one_left k = ap (λ (b : Bool). cond (not b) (k ∷ []) []) (eqb_self k)

own_out : (k : ℕ) (others : List ℕ) → Every (λ m. eqb m k ≡ false) others → filter (λ m. not (eqb m k)) (others ++ k ∷ []) ≡ others
own_out k others all = filter-append (λ m. not (eqb m k)) others (k ∷ []) ∙ (λ i. others_kept k others all i ++ one_left k i) ∙ append-nil others

every_at : {A : Type 0} (P : A → Type 0) (xs : List A) (k : ℕ) (d : A) → k < length xs → Every P xs → P (get_or xs k d)
every_at P [] k d low all = absurd (omega (arith, low))
every_at P (x ∷ xs) zero d low all = all.0
every_at P (x ∷ xs) (suc k) d low all = every_at P xs k d (omega (arith, low)) all.1

every_mapped : {A B : Type 0} (P : A → Type 0) (Q : B → Type 0) (f : A → B) → ((x : A) → P x → Q (f x)) → (xs : List A) → Every P xs → Every Q (map f xs)
every_mapped P Q f one [] all = tt
every_mapped P Q f one (x ∷ xs) all = (one x all.0, every_mapped P Q f one xs all.1)

all_true : {A : Type 0} (f : A → Bool) (xs : List A) → Every (λ x. f x ≡ true) xs → list_all f xs ≡ true
all_true f [] all = refl
all_true f (x ∷ xs) all = (λ i. all.0 i && all_true f xs all.1 i)

-- where a name of a program stands
place_there : (program : List Name) (name : Name) → Contains program name → (place_in program name < length program) × (get_or program (place_in program name) [] ≡ name)
place_there program name (i, within, same) =
    let test : Name → Bool = bytes_eq name in
    let (k, at) = some_place test 0 program (list_any_at test program i name within ((bytes_eq-Decides name (get_or program i name)).1 (sym same))) in
    let (inside, is) = found test [] k program at in
    let place : place_in program name ≡ k = ap (λ (o : Option ℕ). unwrap_or o (length program)) (position_from-zero test program ∙ at) in (
      subst (λ (n : ℕ). n < length program) (sym place) inside,
      ap (λ (n : ℕ). get_or program n []) place ∙ sym ((bytes_eq-Decides name (get_or program k [])).0 is),
    )

-- ---- chains of uses

reaches_on : (uses : List (List ℕ)) (a b d : ℕ) → Reaches uses a b → Reaches uses b d → Reaches uses a d
reaches_on uses a b d (itself library) more = more
reaches_on uses a b d (by_use library used other has rest) more = by_use library used d has (reaches_on uses used b d rest more)

module _ (L : Libraries) (are : AreLibraries L) (known : AreKnown L) where
  abbrev c : Compiled
  c = L.compiled

  abbrev n : ℕ
  n = length L.rows

  count : n ≡ length c.exports
  count = are.rows

  low_in : (k : ℕ) → k < n → k < length c.exports
  low_in k low = omega (arith, count, low)

  back : (k : ℕ) → k < length c.exports → k < n
  back k low = omega (arith, count, low)

  -- libraries of one name are one
  pub names_apart : (a b : ℕ) → a < n → b < n → name_at c a ≡ name_at c b → a ≡ b
  names_apart a b low less same = go (cases_lt a b) (cases_lt b a)
    where
      all : List Name
      all = names_of c.exports

      long : length all ≡ length c.exports
      long = length-map c.exports (λ e. e.library)

      at : (k : ℕ) → k < n → get_or all k [] ≡ name_at c k
      at k within = get_or-map (λ e. e.library) c.exports k no_exports [] (low_in k within)

      never : (i j : ℕ) → i < n → j < n → i < j → name_at c i ≡ name_at c j → ⊥
      never i j first second before is =
          let new = apart_from_distinct bytes_eq all i j [] are.apart before (let l = low_in j second in omega (arith, l, long)) in
          true≢false (sym ((bytes_eq-Decides (get_or all i []) (get_or all j [])).1 (at i first ∙ is ∙ sym (at j second))) ∙ new)

      go : (a < b) ⊎ (b ≤ a) → (b < a) ⊎ (a ≤ b) → a ≡ b
      go (inl before) other = absurd (never a b low less before same)
      go (inr one) (inl before) = absurd (never b a less low before (sym same))
      go (inr one) (inr other) = omega (arith, one, other)

  -- what a library of a view sees is in the view
  seen_on : (main m q : ℕ) → main < n → Contains (view_at c main) m → Contains (view_at c m) q → Contains (view_at c main) q
  seen_on main m q low has more =
      let le = seen_low c are.compiled main (low_in main low) m has in
      let first = loaded c are.compiled main (low_in main low) in
      let second = loaded c are.compiled m (omega (arith, low, count, le)) in
      let one = (reached_are_loaded c.uses main m are.compiled.earlier).0 (subst (λ (xs : List ℕ). Contains xs m) first has) in
      let two = (reached_are_loaded c.uses m q are.compiled.earlier).0 (subst (λ (xs : List ℕ). Contains xs q) second more) in
      subst (λ (xs : List ℕ). Contains xs q) (sym first) ((reached_are_loaded c.uses main q are.compiled.earlier).1 (reaches_on c.uses main m q one two))

  -- what a library sees, by names
  abbrev names_at : ℕ → List Name
  names_at k = map (name_at c) (view_at c k)

  others_apart : (k : ℕ) (others : List ℕ) → k < n → view_at c k ≡ others ++ k ∷ [] → Every (λ m. eqb m k ≡ false) others
  others_apart k others low is = every_of (λ m. eqb m k ≡ false) others each
    where
      once : IsDistinct eqb (others ++ k ∷ [])
      once = subst (IsDistinct eqb) is (seen_once c are.compiled k (low_in k low))

      each : All (λ m. eqb m k ≡ false) others
      each j d within =
          let long = length_push others k in
          let here : get_or (others ++ k ∷ []) j d ≡ get_or others j d = get_or_append_left others (k ∷ []) d j within in
          let last : get_or (others ++ k ∷ []) (length others) d ≡ k = get_or_push others k d (length others) refl in
          (λ i. eqb (sym here i) (sym last i)) ∙ apart_from_distinct eqb (others ++ k ∷ []) j (length others) d once within (omega (arith, long))

  view_names : (k : ℕ) → k < n → view_of (unit_of (viewed (library_at L k))) ≡ names_at k
  view_names k low = go (own_last c are.compiled k (low_in k low))
    where
      named : (row_at L k).name ≡ name_at c k
      named = (known k low).named

      first_names : (xs : List ℕ) → map (λ (used : Name × List ℕ). used.0) (map (λ other. (name_at c other, no_digest)) xs) ≡ map (name_at c) xs
      first_names [] = refl
      first_names (x ∷ xs) = ap (λ (rest : List Name). name_at c x ∷ rest) (first_names xs)

      go : (others : List ℕ) × (view_at c k ≡ others ++ k ∷ []) → view_of (unit_of (viewed (library_at L k))) ≡ names_at k
      go (others, is) =
          let left : filter (λ m. not (eqb m k)) (view_at c k) ≡ others = ap (filter (λ m. not (eqb m k))) is ∙ own_out k others (others_apart k others low is) in
          (λ i. first_names (filter (λ m. not (eqb m k)) (view_at c k)) i ++ named i ∷ [])
          ∙ ap (λ (xs : List ℕ). map (name_at c) xs ++ name_at c k ∷ []) left
          ∙ sym (map_push (name_at c) others k) ∙ ap (map (name_at c)) (sym is)

  -- names of a view are distinct
  names_once : (k : ℕ) → k < n → IsDistinct bytes_eq (names_at k)
  names_once k low = IsDistinct-from_apart bytes_eq (names_at k) each
    where
      view : List ℕ
      view = view_at c k

      low_at : (j : ℕ) → j < length view → get_or view j 0 < n
      low_at j within = back (get_or view j 0) (every_at (λ m. m < length c.exports) view j 0 within (all_seen_low c are.compiled k (low_in k low)))

      each : (i j : ℕ) (d : Name) → i < j → j < length (names_at k) → bytes_eq (get_or (names_at k) i d) (get_or (names_at k) j d) ≡ false
      each i j d less within = go (bytes_eq (get_or (names_at k) i d) (get_or (names_at k) j d)) refl
        where
          long : length (names_at k) ≡ length view
          long = length-map view (name_at c)

          high : j < length view
          high = omega (arith, long, within)

          first : i < length view
          first = omega (arith, high, less)

          go : (b : Bool) → bytes_eq (get_or (names_at k) i d) (get_or (names_at k) j d) ≡ b → b ≡ false
          go false is = refl
          go true is =
              let same = (bytes_eq-Decides (get_or (names_at k) i d) (get_or (names_at k) j d)).0 is in
              let one = get_or-map (name_at c) view i 0 d first in
              let two = get_or-map (name_at c) view j 0 d high in
              let numbers = names_apart (get_or view i 0) (get_or view j 0) (low_at i first) (low_at j high) (sym one ∙ same ∙ two) in
              let new = apart_from_distinct eqb view i j 0 (seen_once c are.compiled k (low_in k low)) less high in
              absurd (true≢false (sym (eq-eqb (get_or view i 0) (get_or view j 0) numbers) ∙ new))

  -- ---- the program of a main library

  module _ (main : ℕ) (low : main < n) where
    abbrev order : List ℕ
    order = view_at c main

    abbrev seen : List Viewed
    seen = map viewed (libraries_of L main)

    abbrev names : List Name
    names = map (λ unit. unit.name) (units seen)

    low_order : Every (λ m. m < length c.exports) order
    low_order = all_seen_low c are.compiled main (low_in main low)

    program_names : names ≡ names_at main
    program_names = all order low_order
      where
        all : (xs : List ℕ) → Every (λ m. m < length c.exports) xs → map (λ unit. unit.name) (units (map viewed (map (library_at L) xs))) ≡ map (name_at c) xs
        all [] every = refl
        all (x ∷ xs) every = λ i. (known x (back x every.0)).named i ∷ all xs every.1 i

    at_order : (p : ℕ) → p < length order → get_or order p 0 < n
    at_order p within = back (get_or order p 0) (every_at (λ m. m < length c.exports) order p 0 within low_order)

    has_name : (q : ℕ) → Contains order q → Contains names (name_at c q)
    has_name q (p, within, same) =
        let long = length-map order (name_at c) in
        let at = get_or-map (name_at c) order p q (name_at c q) within in
        subst (λ (xs : List Name). Contains xs (name_at c q)) (sym program_names)
        (subst (Contains (names_at main)) (at ∙ ap (name_at c) same) (Contains-get_or (names_at main) p (name_at c q) (omega (arith, long, within))))

    is_seen : (m : ℕ) → Contains order m → m < length c.exports → IsSeen names (viewed (library_at L m))
    is_seen m has less =
        let under = back m less in
        let view = view_names m under in
        let long = length-map (view_at c m) (name_at c) in
        record {
          once = subst (IsDistinct bytes_eq) (sym view) (names_once m under);
          there = subst (All (Contains names)) (sym view) (there m has under);
          mentions = subst (λ (k : ℕ). MentionsAreWithin k (row_at L m)) (sym (ap length view ∙ long)) (known m under).mentions;
        }
      where
        there : (m : ℕ) → Contains order m → m < n → All (Contains names) (names_at m)
        there m has under j d within =
            let long = length-map (view_at c m) (name_at c) in
            let inside : j < length (view_at c m) = omega (arith, long, within) in
            let at = get_or-map (name_at c) (view_at c m) j 0 d inside in
            subst (Contains names) (sym at) (has_name (get_or (view_at c m) j 0) (seen_on main m (get_or (view_at c m) j 0) low has (Contains-get_or (view_at c m) j 0 inside)))

    all_seen : (xs : List ℕ) → ((m : ℕ) → Contains xs m → Contains order m) → Every (λ m. m < length c.exports) xs → Every (IsSeen names) (map viewed (map (library_at L) xs))
    all_seen [] among all = tt
    all_seen (x ∷ xs) among all =
        (is_seen x (among x (0, omega arith, refl)) all.0, all_seen xs (λ m has. among m (suc has.0, omega (arith, has.1), has.2)) all.1)

    pub apart : AreApart (libraries_of L main)
    apart = programs_are_apart seen (all_seen order (λ m has. has) low_order)

    abbrev program : Program
    program = program_of (libraries_of L main)

    each_row : (P : LibraryRow → Type 0) → ((m : ℕ) → m < n → (places : ℕ → ℕ) → P (linked_library places (row_at L m))) → Every P program.libraries
    each_row P one = all order low_order
      where
        all : (xs : List ℕ) → Every (λ m. m < length c.exports) xs → Every P (map (row_in_program seen) (map viewed (map (library_at L) xs)))
        all [] every = tt
        all (x ∷ xs) every = (one x (back x every.0) (places_of seen (viewed (library_at L x))), all xs every.1)

    pub scoped : IsScoped program
    scoped = all_true is_library_scoped program.libraries (each_row (λ row. is_library_scoped row ≡ true) (λ m under places. scope_stays places (row_at L m) ∙ (known m under).scoped))

    pub lowered : IsLowered program
    lowered = all_true is_library_lowered program.libraries (each_row (λ row. is_library_lowered row ≡ true) (λ m under places. kinds_stay places (row_at L m) ∙ (known m under).lowered))

    -- ---- generic functions that code calls

    abbrev row_of : ℕ → LibraryRow
    row_of m = row_in_program seen (viewed (library_at L m))

    rows_are : (xs : List ℕ) → map (row_in_program seen) (map viewed (map (library_at L) xs)) ≡ map row_of xs
    rows_are [] = refl
    rows_are (x ∷ xs) = ap (λ (rest : List LibraryRow). row_of x ∷ rest) (rows_are xs)

    -- what stands in the program at the place of a name
    stands_at : (q : ℕ) → q < n → Contains order q → slice_get program.libraries (place_in names (name_at c q)) ≡ Some (row_of q)
    stands_at q under has =
        let (within, same) = place_there names (name_at c q) (has_name q has) in
        let p = place_in names (name_at c q) in
        let long : length names ≡ length order = ap length program_names ∙ length-map order (name_at c) in
        let inside : p < length order = omega (arith, long, within) in
        let at = get_or-map (name_at c) order p 0 [] inside in
        let number : get_or order p 0 ≡ q = names_apart (get_or order p 0) q (at_order p inside) under (sym at ∙ ap (λ (xs : List Name). get_or xs p []) (sym program_names) ∙ same) in
        ap (λ (rows : List LibraryRow). slice_get rows p) (rows_are order) ∙ slice_get-map row_of order p ∙ ap (option_map row_of) (slice_get-get_or order p 0 inside) ∙ ap (λ (m : ℕ). Some (row_of m)) number

    stand : (m : ℕ) → m < n → Contains order m → StandAt (places_of seen (viewed (library_at L m))) (view_rows L m) program.libraries
    stand m under has number row at =
        (row_of (get_or (view_at c m) number 0), ap (λ (name : Name). slice_get program.libraries (place_in names name)) name ∙ stands_at (get_or (view_at c m) number 0) low_q has_q, generics)
      where
        long : length (view_rows L m) ≡ length (view_at c m)
        long = length-map (view_at c m) (row_at L)

        within : number < length (view_at c m)
        within = let less = slice_get_within (view_rows L m) number row at in omega (arith, long, less)

        has_q : Contains order (get_or (view_at c m) number 0)
        has_q = seen_on main m (get_or (view_at c m) number 0) low has (Contains-get_or (view_at c m) number 0 within)

        low_q : (get_or (view_at c m) number 0) < n
        low_q = back (get_or (view_at c m) number 0) (every_at (λ k. k < length c.exports) (view_at c m) number 0 within (all_seen_low c are.compiled m (low_in m under)))

        name : name_at_place (view_of (unit_of (viewed (library_at L m)))) number ≡ name_at c (get_or (view_at c m) number 0)
        name = ap (λ (xs : List Name). name_at_place xs number) (view_names m under) ∙ name_is (names_at m) number ∙ get_or-map (name_at c) (view_at c m) number 0 [] within

        same : row_at L (get_or (view_at c m) number 0) ≡ row
        same = sym (get_or-map (row_at L) (view_at c m) number 0 no_row within) ∙ get_or_from_slice_get (view_rows L m) number row no_row at

        generics : length (row_of (get_or (view_at c m) number 0)).generics ≡ length row.generics
        generics = (counts_stay (places_of seen (viewed (library_at L (get_or (view_at c m) number 0)))) (row_at L (get_or (view_at c m) number 0))).generics ∙ ap (λ (r : LibraryRow). length r.generics) same

    calls_here : (m : ℕ) → m < n → Contains order m → CallsAreThere program.libraries (row_of m)
    calls_here m under has = calls_carried (places_of seen (viewed (library_at L m))) (view_rows L m) program.libraries (stand m under has) (row_at L m) (known m under).calls

    pub generics_there : GenericsAreThere program
    generics_there place library at =
        let same = sym (get_or-map row_of order place 0 no_row inside) ∙ ap (λ (rows : List LibraryRow). get_or rows place no_row) (sym (rows_are order)) ∙ get_or_from_slice_get program.libraries place library no_row at in
        subst (CallsAreThere program.libraries) same (calls_here (get_or order place 0) (at_order place inside) (Contains-get_or order place 0 inside))
      where
        long : length program.libraries ≡ length order
        long = ap length (rows_are order) ∙ length-map order row_of

        inside : place < length order
        inside = let less = slice_get_within program.libraries place library at in omega (arith, long, less)
