-- Names in the order in which they came, against the table of their places.
use Rattle.std.proofs.Common.{◌≡◌, ℕ, zero, suc, Bool, true, false, true≢false, cond, if◌then◌else◌, ◌||◌, List, [], ◌∷◌, ◌++◌, length, Option, Some, None, is_some, IsSome, Vec, position, slice_get, slice_set, slice_index_or, nat_cmp, refl, sym, ap, subst, ◌∙◌, ◌<◌, arith}
use Rattle.std.specs.Option.{option_map}
use Rattle.std.specs.List.{IsDistinct, list_any}
use Rattle.std.specs.Str.{bytes_eq}
use Rattle.std.specs.Cmp.Lexicographic.{slice_cmp, nat_list_cmp_total, nat_list_eq_equiv, texts_ties, bytes_decides}
use Rattle.std.specs.FinMap.{find, empty, get-empty, get, insert, get-from_entries, get-insert}
use Rattle.std.proofs.lemmas.Map.Keys.{IsDistinct-push}
use Rattle.std.proofs.lemmas.List.{map-append, map-set}
use Rattle.std.proofs.lemmas.Option.{none-some, same_Some, slice_get-map, slice_get_read}
use Rattle.indexmap.specs.IndexMap.{insert_entry}
use Rattle.dy_base.specs.Tables.{NameMap, NamedList, named, names, table_of, IsIndexed}
use Rattle.dy_base.proofs.Positions.{behind, position-cons, position_none, or_last, position-push, position_within}

data At : Bool → Option ℕ → ℕ → Type 0 where
  here : {o : Option ℕ} → At true o zero
  there : {i : ℕ} → At false (Some i) (suc i)

zero≢suc : {n : ℕ} → 0 ≡ suc n → ⊥
zero≢suc e = omega (arith, e)

found : (b : Bool) (o : Option ℕ) (i : ℕ) → cond b (Some 0) (behind o) ≡ Some i → At b o i
found true o zero is = here
found true o (suc i) is = absurd (zero≢suc (same_Some 0 (suc i) is))
found false None i is = absurd (none-some i is)
found false (Some j) zero is = absurd (zero≢suc (sym (same_Some (suc j) 0 is)))
found false (Some j) (suc i) is = let e : suc j ≡ suc i = same_Some (suc j) (suc i) is in let same : j ≡ i = omega (arith, e) in rw same there

module _ {V : Type 0} where
  -- no name has a place in no list
  pub indexed-new : {B : Type 0} (es : List (Vec ℕ B × V)) (places : NameMap ℕ) → es ≡ [] → places ≡ empty → IsIndexed (named es) places
  unfolding IsDistinct
  indexed-new es places none no_places = rw none (rw no_places (record { distinct = tt; placed = λ q. get-empty (slice_cmp nat_cmp) q }))

  -- the value at a place, if there is one
  abbrev pub value_at : NamedList V → Option ℕ → Option V
  value_at list None = None
  value_at list (Some i) = option_map (λ e. e.1) (slice_get list i)

  next_value : (b : Bool) (e : List ℕ × V) (list : NamedList V) (o : Option ℕ) → cond b (Some e.1) (value_at list o) ≡ value_at (e ∷ list) (cond b (Some 0) (behind o))
  next_value true e list o = refl
  next_value false e list None = refl
  next_value false e list (Some i) = refl

  find_at : (list : NamedList V) (q : List ℕ) → find (slice_cmp nat_cmp) q list ≡ value_at list (position (bytes_eq q) (names list))
  find_at [] q = refl
  find_at (e ∷ list) q =
      (λ i. cond (sym (texts_ties q e.0) i) (Some e.1) (find_at list q i))
      ∙ next_value (bytes_eq q e.0) e list (position (bytes_eq q) (names list))
      ∙ ap (value_at (e ∷ list)) (sym (position-cons (bytes_eq q) e.0 (names list)))

  pub get_at : (list : NamedList V) (q : List ℕ) → get (table_of list) q ≡ value_at list (position (bytes_eq q) (names list))
  get_at list q = get-from_entries nat_list_cmp_total list q ∙ find_at list q

  -- a new name goes last
  pub insert_new : (list : NamedList V) (q : List ℕ) (v : V) → position (bytes_eq q) (names list) ≡ None → insert_entry bytes_eq list q v ≡ list ++ (q, v) ∷ []
  insert_new [] q v is = refl
  insert_new (e ∷ list) q v is =
      let new = position_none (bytes_eq q) e.0 (names list) is in
      ap (λ b. if b then (e.0, v) ∷ list else e ∷ insert_entry bytes_eq list q v) new.0
      ∙ ap (λ l. e ∷ l) (insert_new list q v new.1)

  pub absent : (list : NamedList V) (q : List ℕ) → position (bytes_eq q) (names list) ≡ None → list_any (bytes_eq q) (names list) ≡ false
  absent [] q is = refl
  absent (e ∷ list) q is =
      let new = position_none (bytes_eq q) e.0 (names list) is in
      (λ i. new.0 i || absent list q new.1 i)

  names-push : (list : NamedList V) (q : List ℕ) (v : V) → names (list ++ (q, v) ∷ []) ≡ names list ++ q ∷ []
  names-push [] q v = refl
  names-push (e ∷ list) q v = ap (λ l. e.0 ∷ l) (names-push list q v)

  length-names : (list : NamedList V) → length (names list) ≡ length list
  length-names [] = refl
  length-names (e ∷ list) = ap suc (length-names list)

  last_place : (places : NameMap ℕ) (list : NamedList V) (q name : List ℕ) (b : Bool) → bytes_eq q name ≡ b → position (bytes_eq name) (names list) ≡ None
      → get places q ≡ position (bytes_eq q) (names list)
      → cond b (Some (length list)) (get places q) ≡ or_last (position (bytes_eq q) (names list)) b (length (names list))
  last_place places list q name true is none at =
      let same = (bytes_decides q name).0 is in
      ap Some (sym (length-names list)) ∙ ap (λ o. or_last o true (length (names list))) (sym (ap (λ n. position (bytes_eq n) (names list)) same ∙ none))
  last_place places list q name false is none at = at ∙ kept (position (bytes_eq q) (names list))
    where
      kept : (o : Option ℕ) → o ≡ or_last o false (length (names list))
      kept None = refl
      kept (Some i) = refl

  -- and its place is behind all others
  pub indexed-push : (list : NamedList V) (places : NameMap ℕ) (name : List ℕ) (v : V) → IsIndexed list places → position (bytes_eq name) (names list) ≡ None
      → IsIndexed (list ++ (name, v) ∷ []) (insert places name (length list))
  indexed-push list places name v is none = record {
    distinct = rw (names-push list name v) (IsDistinct-push nat_list_eq_equiv (names list) name is.distinct (absent list name none));
    placed = λ q.
        get-insert nat_list_cmp_total places name (length list) q
        ∙ ap (λ b. cond b (Some (length list)) (get places q)) (sym (texts_ties q name))
        ∙ last_place places list q name (bytes_eq q name) refl none (is.placed q)
        ∙ sym (position-push (bytes_eq q) (names list) name)
        ∙ ap (position (bytes_eq q)) (sym (names-push list name v));
  }

  pub indexed-same : (list other : NamedList V) (places : NameMap ℕ) → names other ≡ names list → IsIndexed list places → IsIndexed other places
  indexed-same list other places same is = record { distinct = rw same is.distinct; placed = λ q. is.placed q ∙ ap (position (bytes_eq q)) (sym same) }

  -- a value written where a name stands
  abbrev pub written : NamedList V → ℕ → V → NamedList V
  written [] i v = []
  written (e ∷ list) zero v = (e.0, v) ∷ list
  written (e ∷ list) (suc i) v = e ∷ written list i v

  pub names-written : (list : NamedList V) (i : ℕ) (v : V) → names (written list i v) ≡ names list
  names-written [] i v = refl
  names-written (e ∷ list) zero v = refl
  names-written (e ∷ list) (suc i) v = ap (λ l. e.0 ∷ l) (names-written list i v)

  write_at : (b : Bool) (o : Option ℕ) (i : ℕ) (e : List ℕ × V) (list more : NamedList V) (v : V) → At b o i → ((j : ℕ) → o ≡ Some j → more ≡ written list j v)
      → (if b then (e.0, v) ∷ list else e ∷ more) ≡ written (e ∷ list) i v
  write_at _ _ _ e list more v here rest = refl
  write_at _ _ _ e list more v (there {i}) rest = ap (λ l. e ∷ l) (rest i refl)

  pub insert_old : (list : NamedList V) (q : List ℕ) (v : V) (i : ℕ) → position (bytes_eq q) (names list) ≡ Some i → insert_entry bytes_eq list q v ≡ written list i v
  insert_old [] q v i is = absurd (none-some i is)
  insert_old (e ∷ list) q v i is =
      write_at (bytes_eq q e.0) (position (bytes_eq q) (names list)) i e list _ v
      (found (bytes_eq q e.0) (position (bytes_eq q) (names list)) i (sym (position-cons (bytes_eq q) e.0 (names list)) ∙ is))
      (λ j at. insert_old list q v j at)

  set_at : (list : NamedList V) (i : ℕ) (e : List ℕ × V) (v : V) → slice_get list i ≡ Some e → slice_set list i (e.0, v) ≡ written list i v
  set_at [] i e v at = absurd (none-some e at)
  set_at (f ∷ list) zero e v at = ap (λ (d : List ℕ × V). (d.0, v) ∷ list) (sym (same_Some f e at))
  set_at (f ∷ list) (suc i) e v at = ap (λ l. f ∷ l) (set_at list i e v at)

  -- a name with no place is not there
  pub gone : (list : NamedList V) (q : List ℕ) → position (bytes_eq q) (names list) ≡ None → IsSome (get (table_of list) q) → ⊥
  gone list q at held = true≢false (sym held ∙ ap is_some (get_at list q ∙ ap (value_at list) at))

-- the entries that are in memory, against the names and the values that they show
module _ {B V : Type 0} where
  length-named : (es : List (Vec ℕ B × V)) → length (named es) ≡ length es
  length-named [] = refl
  length-named (e ∷ es) = ap suc (length-named es)

  read_at : (es : List (Vec ℕ B × V)) (list : NamedList V) (q : List ℕ) (i : ℕ) (x : Vec ℕ B × V) → named es ≡ list → position (bytes_eq q) (names list) ≡ Some i
      → x ≡ slice_index_or es i x → slice_get list i ≡ Some (x.0.items, x.1)
  read_at es list q i x is at read =
      let within : i < length es = omega (arith, position_within (bytes_eq q) (names list) i at, length-names list, ap length is, length-named es) in
      ap (λ l. slice_get l i) (sym is)
      ∙ slice_get-map (λ (e : Vec ℕ B × V). (e.0.items, e.1)) es i
      ∙ ap (option_map (λ (e : Vec ℕ B × V). (e.0.items, e.1))) (slice_get_read es (length es) i x refl within read)

  -- what stands at the place of a name is its value
  pub get_read : (es : List (Vec ℕ B × V)) (list : NamedList V) (q : List ℕ) (i : ℕ) (x : Vec ℕ B × V) → named es ≡ list → position (bytes_eq q) (names list) ≡ Some i
      → x ≡ slice_index_or es i x → Some x.1 ≡ get (table_of list) q
  get_read es list q i x is at read = sym (get_at list q ∙ ap (value_at list) at ∙ ap (option_map (λ e. e.1)) (read_at es list q i x is at read))

  named-set : (es : List (Vec ℕ B × V)) (list : NamedList V) (q : List ℕ) (i : ℕ) (x : Vec ℕ B × V) (v : V) → named es ≡ list → position (bytes_eq q) (names list) ≡ Some i
      → x ≡ slice_index_or es i x → named (slice_set es i (x.0, v)) ≡ written list i v
  named-set es list q i x v is at read =
      map-set (λ (e : Vec ℕ B × V). (e.0.items, e.1)) es i (x.0, v)
      ∙ ap (λ (l : NamedList V). slice_set l i (x.0.items, v)) is
      ∙ set_at list i (x.0.items, x.1) v (read_at es list q i x is at read)

  -- a value that is written at the place of a name
  pub set_old : (es : List (Vec ℕ B × V)) (list : NamedList V) (q : List ℕ) (i : ℕ) (x : Vec ℕ B × V) (v : V) → named es ≡ list → position (bytes_eq q) (names list) ≡ Some i
      → x ≡ slice_index_or es i x → named (slice_set es i (x.0, v)) ≡ insert_entry bytes_eq list q v
  set_old es list q i x v is at read = named-set es list q i x v is at read ∙ sym (insert_old list q v i at)

  pub indexed_old : (es : List (Vec ℕ B × V)) (list : NamedList V) (places : NameMap ℕ) (q : List ℕ) (i : ℕ) (x : Vec ℕ B × V) (v : V) → named es ≡ list → position (bytes_eq q) (names list) ≡ Some i
      → x ≡ slice_index_or es i x → IsIndexed (named es) places → IsIndexed (named (slice_set es i (x.0, v))) places
  indexed_old es list places q i x v is at read indexed =
      indexed-same (named es) (named (slice_set es i (x.0, v))) places (ap names (named-set es list q i x v is at read) ∙ names-written list i v ∙ ap names (sym is)) indexed

  named-push : (es pushed : List (Vec ℕ B × V)) (list : NamedList V) (key : Vec ℕ B) (q : List ℕ) (v : V) → named es ≡ list → pushed ≡ es ++ (key, v) ∷ [] → key.items ≡ q
      → named pushed ≡ list ++ (q, v) ∷ []
  named-push es pushed list key q v is push same =
      ap named push ∙ map-append (λ (e : Vec ℕ B × V). (e.0.items, e.1)) es ((key, v) ∷ []) ∙ (λ i. is i ++ (same i, v) ∷ [])

  -- a new name that is pushed
  pub set_new : (es pushed : List (Vec ℕ B × V)) (list : NamedList V) (key : Vec ℕ B) (q : List ℕ) (v : V) → named es ≡ list → pushed ≡ es ++ (key, v) ∷ [] → key.items ≡ q
      → position (bytes_eq q) (names list) ≡ None → named pushed ≡ insert_entry bytes_eq list q v
  set_new es pushed list key q v is push same none = named-push es pushed list key q v is push same ∙ sym (insert_new list q v none)

  pub indexed_new : (es pushed : List (Vec ℕ B × V)) (list : NamedList V) (places after : NameMap ℕ) (key : Vec ℕ B) (q : List ℕ) (v : V) (n : ℕ) → named es ≡ list → pushed ≡ es ++ (key, v) ∷ [] → key.items ≡ q
      → position (bytes_eq q) (names list) ≡ None → after ≡ insert places q n → n ≡ length es → IsIndexed (named es) places → IsIndexed (named pushed) after
  indexed_new es pushed list places after key q v n is push same none put count indexed =
      let last : n ≡ length list = count ∙ sym (length-named es) ∙ ap length is in
      let before : IsIndexed list places = subst (λ l. IsIndexed l places) is indexed in
      rw (named-push es pushed list key q v is push same) (rw (put ∙ ap (insert places q) last) (indexed-push list places q v before none))
