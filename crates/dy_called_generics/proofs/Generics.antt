-- Each number of a generic function of a library has a row.
use Rattle.std.proofs.Common.{◌≡◌, ◌⊎◌, inl, inr, ℕ, zero, suc, ◌+◌, ◌<◌, ◌≤◌, Bool, true, false, cond, List, [], ◌∷◌, ◌++◌, length, map, flat_map, Option, Some, None, is_some, slice_get, Ordering, Less, Equal, Greater, nat_cmp, refl, sym, ap, ◌∙◌, subst, arith, length-append, append_assoc}
use Rattle.std.specs.Prelude.{zip, nat_eq, codes, IsSome}
use Rattle.std.specs.Cmp.{nat_cmp_total}
use Rattle.std.specs.FinMap.{entries, values, put, from_entries, entries-insert, nat_cmp-IsAntisymmetric}
use Rattle.std.specs.FinMap.Entries.{by_order}
use Rattle.std.proofs.lemmas.List.{length-map}
use Rattle.dy_base.specs.declared.ids.BindingId.{BindingId}
use Rattle.dy_base.specs.declared.ids.GenericId.{GenericId}
use Rattle.dy_base.specs.declared.ids.What.{What}
use Rattle.dy_base.specs.declared.ids.What.TheVariants as whats
use Rattle.dy_tree.specs.declared.token.Token.{Token}
use Rattle.dy_term.specs.declared.term.Lambda.{Lambda}
use Rattle.dy_term.specs.declared.rows.GenericRow.{GenericRow}
use Rattle.dy_term.specs.declared.rows.Row.{Row}
use Rattle.dy_term.specs.declared.rows.Row.TheVariants as rows
use Rattle.dy_term.specs.declared.rows.TopTerm.TheVariants as tops
use Rattle.dy_term.specs.Types.{CoreType}
use Rattle.dy_term.specs.Drafts.{CoreLambda, lambda}
use Rattle.dy_term.specs.Rows.{CoreDraft, CoreSlot, class_row, generic_row, method_row, domain_row}
use Rattle.dy_term.specs.Rows.{variable_row, top_term, CoreVariable, function, type_constant}
use Rattle.dy_term.specs.Rows.{CoreTop, init, run}
use Rattle.dy_names.specs.declared.denotation.Denotation.TheVariants.{NextMethod}
use Rattle.dy_names.specs.Naming.{Table}
use Rattle.dy_names.specs.Outside.{Outside}
use Rattle.dy_binding.specs.declared.progress.Progress.{Progress}
use Rattle.dy_binding.specs.Reads.{none}
use Rattle.dy_binding.specs.Bound.{standing}
use Rattle.dy_binding.specs.Types.{read_type}
use Rattle.dy_resolution.specs.Terms.{core_term, core_lambda}
use Rattle.dy_rows.specs.Rows.{has, bound_to, generic_of, method_rows, read_variables}
use Rattle.dy_library_rows.specs.Libraries.{Form, read_form, rows_of}
use Rattle.dy_library_rows.specs.Names.{slot_names, slots_names, setter_name, what_of, variable_names, top_names, defined}
use Rattle.dy_assembly.specs.Generics.{number_in, Offer, made_by_method, made_by_setter, made_by_slot, made_by, defined_by, offers, with_number, numbered, generics_of}
use Rattle.dy_assembly.specs.Libraries.{generic_in, drafts_of}
use Rattle.dy_code.specs.Validity.{Every}
use Rattle.dy_lowering_whole.proofs.valid.Laying.{every_append}
use Rattle.dy_lowering_whole.proofs.valid.Soundness.{got}
use Rattle.dy_called_generics.proofs.Names.{AreTested}

-- a name is offered a generic function
abbrev pub IsOffered : Token → List Offer → Type 0
IsOffered token [] = ⊥
IsOffered token (offer ∷ others) = (offer.0 ≡ token) ⊎ IsOffered token others

abbrev IsAmong : Token → List Token → Type 0
IsAmong token [] = ⊥
IsAmong token (other ∷ others) = (other ≡ token) ⊎ IsAmong token others

offered_front : (token : Token) (xs ys : List Offer) → IsOffered token xs → IsOffered token (xs ++ ys)
offered_front token [] ys h = absurd h
offered_front token (x ∷ xs) ys (inl e) = inl e
offered_front token (x ∷ xs) ys (inr h) = inr (offered_front token xs ys h)

offered_back : (token : Token) (xs ys : List Offer) → IsOffered token ys → IsOffered token (xs ++ ys)
offered_back token [] ys h = h
offered_back token (x ∷ xs) ys h = inr (offered_back token xs ys h)

among_front : (token : Token) (xs ys : List Token) → IsAmong token xs → IsAmong token (xs ++ ys)
among_front token [] ys h = absurd h
among_front token (x ∷ xs) ys (inl e) = inl e
among_front token (x ∷ xs) ys (inr h) = inr (among_front token xs ys h)

among_back : (token : Token) (xs ys : List Token) → IsAmong token ys → IsAmong token (xs ++ ys)
among_back token [] ys h = h
among_back token (x ∷ xs) ys h = inr (among_back token xs ys h)

-- those that forms define have rows
zip_offers : (token : Token) (names : List Token) (found : List GenericRow) → length names ≤ length found → IsAmong token names → IsOffered token (zip names found)
zip_offers token [] found fits h = absurd h
zip_offers token (name ∷ names) [] fits h = absurd (omega (arith, fits))
zip_offers token (name ∷ names) (row ∷ found) fits (inl e) = inl e
zip_offers token (name ∷ names) (row ∷ found) fits (inr h) = inr (zip_offers token names found (omega (arith, fits)) h)

-- each name of a generic function that a form defines is offered one
made_name : (name : Token) (code : CoreLambda) → (made_by_method name code).0 ≡ name
made_name name (lambda params defaults inner results) = refl

module _ (Test : Token → Type 0) where
  setter_tested : (setter : Option Token) → ((token : Token) → IsOffered token (made_by_setter setter) → Test token) → AreTested Test (setter_name setter)
  setter_tested None each = tt
  setter_tested (Some setter) each = (λ is. each setter (inl refl), tt)

  slots_tested : (slots : List CoreSlot) → ((token : Token) → IsOffered token (flat_map made_by_slot slots) → Test token) → AreTested Test (slots_names slots)
  slots_tested [] each = tt
  slots_tested (slot ∷ slots) each =
      every_append (λ (pair : Token × What). pair.1 ≡ whats.Generic → Test pair.0) (slot_names slot) (slots_names slots)
      (λ is. each slot.getter (inl refl), setter_tested slot.setter (λ token h. each token (inr (offered_front token (made_by_setter slot.setter) (flat_map made_by_slot slots) h))))
      (slots_tested slots (λ token h. each token (offered_back token (made_by_slot slot) (flat_map made_by_slot slots) h)))

  what_tested : (c : Bool) → what_of c ≡ whats.Generic → ⊥
  what_tested true e = absurd cc
  what_tested false e = absurd cc

  variables_tested : (c : Bool) (ts : List (Token × CoreType)) → AreTested Test (map (λ (v : Token × CoreType). (v.0, what_of c)) ts)
  variables_tested c [] = tt
  variables_tested c (t ∷ ts) = (λ is. absurd (what_tested c is), variables_tested c ts)

  variable_tested : (v : CoreVariable) → AreTested Test (variable_names v)
  variable_tested (function adjectives name code) = (λ is. absurd cc, tt)
  variable_tested (type_constant name declared meant) = (λ is. absurd cc, tt)

  top_tested : (t : CoreTop) → AreTested Test (top_names t)
  top_tested (init is_constant typed term) = variables_tested is_constant typed
  top_tested (run term) = tt

  form_tested : (d : CoreDraft) → ((token : Token) → IsOffered token (made_by d) → Test token) → ((token : Token) → IsAmong token (defined_by d) → Test token) → AreTested Test (defined d)
  form_tested (class_row class) made named = (λ is. absurd cc, slots_tested class.slots made)
  form_tested (generic_row generic) made named = (λ is. named generic.name (inl refl), tt)
  form_tested (method_row method) made named = (λ is. made method.generic (inl (made_name method.generic method.code)), tt)
  form_tested (domain_row domain) made named = tt
  form_tested (variable_row variable) made named = variable_tested variable
  form_tested (top_term top) made named = top_tested top

  forms_tested : (drafts : List CoreDraft) → ((token : Token) → IsOffered token (flat_map made_by drafts) → Test token) → ((token : Token) → IsAmong token (flat_map defined_by drafts) → Test token)
      → Every (λ (draft : CoreDraft). AreTested Test (defined draft)) drafts
  forms_tested [] made named = tt
  forms_tested (d ∷ drafts) made named = (
    form_tested d (λ token h. made token (offered_front token (made_by d) (flat_map made_by drafts) h)) (λ token h. named token (among_front token (defined_by d) (flat_map defined_by drafts) h)),
    forms_tested drafts (λ token h. made token (offered_back token (made_by d) (flat_map made_by drafts) h)) (λ token h. named token (among_back token (defined_by d) (flat_map defined_by drafts) h)),
  )

-- A form that defines a generic function gives one row of one, and another none.
flat_append : {A B : Type 0} (f : A → List B) (xs ys : List A) → flat_map f (xs ++ ys) ≡ flat_map f xs ++ flat_map f ys
flat_append f [] ys = refl
flat_append f (x ∷ xs) ys = ap (λ zs. f x ++ zs) (flat_append f xs ys) ∙ sym (append_assoc (f x) (flat_map f xs) (flat_map f ys))

method_none : (g : GenericId) (l : Lambda) (sealed : Bool) → flat_map generic_in (method_rows g l sealed) ≡ []
method_none g l false = refl
method_none g l true = refl

module _ (out : Outside) where
  variables_none : (c : Bool) (ts : List (Token × CoreType)) (p : Progress) → flat_map generic_in (read_variables out c ts [] p).0.0 ≡ []
  variables_none c [] p = refl
  variables_none c (t ∷ ts) p = variables_none c ts (bound_to t.0 (out.owner t.0) (read_type out t.1 [] p).1).1

  one_row : (d : CoreDraft) → length (defined_by d) ≡ length (flat_map generic_in (read_form out d).0)
  one_row (class_row class) = refl
  one_row (generic_row generic) = refl
  one_row (method_row method) =
      let g = generic_of method.generic (out.owner method.generic) none in
      let l = core_lambda out method.code NextMethod (standing NextMethod method.next []) g.1 in
      sym (ap length (method_none g.0 l.0 (has (codes "sealed") method.adjectives)))
  one_row (domain_row domain) = refl
  one_row (variable_row (function adjectives name code)) = refl
  one_row (variable_row (type_constant name declared meant)) = refl
  one_row (top_term (init is_constant typed term)) =
      let v = read_variables out is_constant typed [] none in
      let top = rows.Top (tops.Init v.0.1 (core_term out term [] v.1).0) in
      sym (ap length (flat_append generic_in v.0.0 (top ∷ []) ∙ ap (λ (l : List GenericRow). l ++ []) (variables_none is_constant typed none)))
  one_row (top_term (run term)) = refl

  as_many : (forms : List Form) → length (flat_map defined_by (drafts_of forms)) ≡ length (flat_map generic_in (rows_of out forms))
  as_many [] = refl
  as_many (form ∷ forms) =
      let here = (read_form out form.1).0 in
      omega (
        arith,
        length-append (defined_by form.1) (flat_map defined_by (drafts_of forms)),
        one_row form.1,
        as_many forms,
        ap length (flat_append generic_in here (rows_of out forms)),
        length-append (flat_map generic_in here) (flat_map generic_in (rows_of out forms)),
      )

  -- the generic functions that the forms of a library offer
  abbrev pub offered : List Form → List Offer
  offered forms = offers (drafts_of forms) (flat_map generic_in (rows_of out forms))

  pub all_tested : (forms : List Form) → Every (λ (draft : CoreDraft). AreTested (λ token. IsOffered token (offered forms)) (defined draft)) (drafts_of forms)
  all_tested forms =
      let drafts = drafts_of forms in
      let found = flat_map generic_in (rows_of out forms) in
      let front = zip (flat_map defined_by drafts) found in
      forms_tested (λ token. IsOffered token (offered forms)) drafts (λ token h. offered_back token front (flat_map made_by drafts) h)
      (λ token h. offered_front token front (flat_map made_by drafts) (zip_offers token (flat_map defined_by drafts) found (omega (arith, as_many forms)) h))

-- rows with this number
abbrev HasNumber : ℕ → List (ℕ × GenericRow) → Type 0
HasNumber n [] = ⊥
HasNumber n (e ∷ es) = (e.0 ≡ n) ⊎ HasNumber n es

has_here : (n : ℕ) (o : Option ℕ) (row : GenericRow) (es : List (ℕ × GenericRow)) → o ≡ Some n → HasNumber n (with_number o row ++ es)
has_here n None row es e = absurd cc
has_here n (Some k) row es e = inl (same k n e)
  where
    same : (a b : ℕ) → Some a ≡ Some b → a ≡ b
    same a b f = cc

has_later : (n : ℕ) (o : Option ℕ) (row : GenericRow) (es : List (ℕ × GenericRow)) → HasNumber n es → HasNumber n (with_number o row ++ es)
has_later n None row es h = h
has_later n (Some k) row es h = inr h

numbered_has : (library : ℕ) (owner : Table) (found : List Offer) (token : Token) (n : ℕ) → IsOffered token found → number_in library (owner token) ≡ Some n → HasNumber n (numbered library owner found)
numbered_has library owner [] token n h e = absurd h
numbered_has library owner (offer ∷ found) token n (inl same) e = has_here n (number_in library (owner offer.0)) offer.1 (numbered library owner found) (ap (λ (t : Token). number_in library (owner t)) same ∙ e)
numbered_has library owner (offer ∷ found) token n (inr h) e = has_later n (number_in library (owner offer.0)) offer.1 (numbered library owner found) (numbered_has library owner found token n h e)

-- a table keeps each number
put_new : (es : List (ℕ × GenericRow)) (k : ℕ) (v : GenericRow) → HasNumber k (put nat_cmp k v es)
put_new [] k v = inl refl
put_new (e ∷ es) k v = step (nat_cmp k e.0) refl (put_new es k v)
  where
    step : (o : Ordering) → nat_cmp k e.0 ≡ o → HasNumber k (put nat_cmp k v es) → HasNumber k (by_order o ((k, v) ∷ e ∷ es) ((e.0, v) ∷ es) (e ∷ put nat_cmp k v es))
    step Less is later = inl refl
    step Equal is later = inl (sym (nat_cmp-IsAntisymmetric k e.0 is))
    step Greater is later = inr later

put_old : (es : List (ℕ × GenericRow)) (k n : ℕ) (v : GenericRow) → HasNumber n es → HasNumber n (put nat_cmp k v es)
put_old [] k n v h = absurd h
put_old (e ∷ es) k n v h = step (nat_cmp k e.0) h (λ later. put_old es k n v later)
  where
    step : (o : Ordering) → HasNumber n (e ∷ es) → (HasNumber n es → HasNumber n (put nat_cmp k v es)) → HasNumber n (by_order o ((k, v) ∷ e ∷ es) ((e.0, v) ∷ es) (e ∷ put nat_cmp k v es))
    step Less h rest = inr h
    step Equal (inl same) rest = inl same
    step Equal (inr later) rest = inr later
    step Greater (inl same) rest = inl same
    step Greater (inr later) rest = inr (rest later)

table_has : (es : List (ℕ × GenericRow)) (n : ℕ) → HasNumber n es → HasNumber n (entries (from_entries {R = nat_cmp} es))
table_has [] n h = absurd h
table_has (e ∷ es) n h =
    let table = from_entries {R = nat_cmp} es in
    subst (HasNumber n) (sym (entries-insert nat_cmp_total table e.0 e.1)) (step h (λ later. put_old (entries table) e.0 n e.1 (table_has es n later)))
  where
    step : HasNumber n (e ∷ es) → (HasNumber n es → HasNumber n (put nat_cmp e.0 e.1 (entries (from_entries {R = nat_cmp} es)))) → HasNumber n (put nat_cmp e.0 e.1 (entries (from_entries {R = nat_cmp} es)))
    step (inl same) rest = subst (λ (k : ℕ). HasNumber k (put nat_cmp e.0 e.1 (entries (from_entries {R = nat_cmp} es)))) same (put_new (entries (from_entries {R = nat_cmp} es)) e.0 e.1)
    step (inr later) rest = rest later

-- A list that has each number below a count is no shorter.
abbrev without : ℕ → List (ℕ × GenericRow) → List (ℕ × GenericRow)
without n [] = []
without n (e ∷ es) = cond (nat_eq e.0 n) (without n es) (e ∷ without n es)

no_longer : (n : ℕ) (es : List (ℕ × GenericRow)) → length (without n es) ≤ length es
no_longer n [] = omega arith
no_longer n (e ∷ es) = step (nat_eq e.0 n) (no_longer n es)
  where
    step : (b : Bool) → length (without n es) ≤ length es → length (cond b (without n es) (e ∷ without n es)) ≤ length (e ∷ es)
    step true rest = omega (arith, rest)
    step false rest = omega (arith, rest)

shorter : (n : ℕ) (es : List (ℕ × GenericRow)) → HasNumber n es → length (without n es) < length es
shorter n [] h = absurd h
shorter n (e ∷ es) h = step (nat_eq e.0 n) refl h (λ later. shorter n es later)
  where
    differs : e.0 ≡ n → nat_eq e.0 n ≡ false → ⊥
    differs same is = grind (arith, same, is)

    step : (b : Bool) → nat_eq e.0 n ≡ b → HasNumber n (e ∷ es) → (HasNumber n es → length (without n es) < length es) → length (cond b (without n es) (e ∷ without n es)) < length (e ∷ es)
    step true is h rest = omega (arith, no_longer n es)
    step false is (inl same) rest = absurd (differs same is)
    step false is (inr later) rest = let less = rest later in omega (arith, less)

still_has : (n j : ℕ) (es : List (ℕ × GenericRow)) → j < n → HasNumber j es → HasNumber j (without n es)
still_has n j [] low h = absurd h
still_has n j (e ∷ es) low h = step (nat_eq e.0 n) refl h (λ later. still_has n j es low later)
  where
    differs : e.0 ≡ j → nat_eq e.0 n ≡ true → ⊥
    differs same is = grind (arith, same, is, low)

    step : (b : Bool) → nat_eq e.0 n ≡ b → HasNumber j (e ∷ es) → (HasNumber j es → HasNumber j (without n es)) → HasNumber j (cond b (without n es) (e ∷ without n es))
    step true is (inl same) rest = absurd (differs same is)
    step true is (inr later) rest = rest later
    step false is (inl same) rest = inl same
    step false is (inr later) rest = inr (rest later)

long_enough : (n : ℕ) (es : List (ℕ × GenericRow)) → ((j : ℕ) → j < n → HasNumber j es) → n ≤ length es
long_enough zero es each = omega arith
long_enough (suc n) es each =
    let more = long_enough n (without n es) (λ j low. still_has n j es low (each j (omega (arith, low)))) in
    let less = shorter n es (each n (omega arith)) in
    omega (arith, more, less)

-- So the generic functions of a library have a row at each number below which all are offered.
pub row_there : (library : ℕ) (owner : Table) (drafts : List CoreDraft) (found : List GenericRow) (n : ℕ)
    → ((j : ℕ) → j ≤ n → HasNumber j (numbered library owner (offers drafts found)))
    → IsSome (slice_get (generics_of library owner drafts found) n)
row_there library owner drafts found n each =
    let table = from_entries {R = nat_cmp} (numbered library owner (offers drafts found)) in
    let long = long_enough (suc n) (entries table) (λ j low. table_has (numbered library owner (offers drafts found)) j (each j (omega (arith, low)))) in
    let size = length-map (entries table) (λ (e : ℕ × GenericRow). e.1) in
    let g = got (values table) n (omega (arith, long, size)) in
    ap is_some g.same

pub number_there : (library : ℕ) (owner : Table) (found : List Offer) (token : Token) (n : ℕ) → IsOffered token found → number_in library (owner token) ≡ Some n → HasNumber n (numbered library owner found)
number_there = numbered_has
