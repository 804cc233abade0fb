-- What names mean after a pass is the row of the first definition that gives one.
use Rattle.std.proofs.Common.{◌≡◌, ℕ, Bool, true, false, true≢false, not, ◌&&◌, ◌||◌, cond}
use Rattle.std.proofs.Common.{List, [], ◌∷◌, ◌++◌, Option, Some, None, refl, sym}
use Rattle.std.proofs.Common.{ap, ◌∙◌}
use Rattle.std.specs.List.{list_any}
use Rattle.std.specs.Cmp.Lexicographic.{bytes_decides}
use Rattle.std.proofs.lemmas.Bool.{eq-eqb}
use Rattle.std.proofs.lemmas.List.Folds.{list_any-append}
use Rattle.dy_base.specs.declared.ids.BindingId.{BindingId}
use Rattle.dy_modules.specs.declared.owner.Owner.{Owner}
use Rattle.dy_modules.specs.declared.owner.Owner.TheVariants.{Outside, Own}
use Rattle.dy_names.proofs.Kept.{equal_parts}
use Rattle.dy_definitions.specs.declared.definitions.Role.{Role}
use Rattle.dy_definitions.specs.declared.definitions.Role.TheVariants.{Makes, Adds}
use Rattle.dy_definitions.specs.declared.definitions.Definition.{Definition}
use Rattle.dy_definitions.specs.declared.meanings.RowCounts.{RowCounts}
use Rattle.dy_definitions.specs.Names.{is_owned, is_of, is_generic_name, has_form, may_give}
use Rattle.dy_definitions.specs.Names.{gives, what_made}
use Rattle.dy_definitions.specs.Means.{is_first, has_row, with_rows, Meanings, no_rows, row_id}
use Rattle.dy_definitions.specs.Means.{first_row, meanings_of}
use Rattle.dy_definitions.specs.Passes.{Tallies, tally_of, tally_at, gives_in, is_unknown}
use Rattle.dy_definitions.specs.Passes.{meaning_at, with_meaning, needs_row, rows_after}
use Rattle.dy_definitions.specs.Passes.{meanings_with, no_meanings}
use Rattle.dy_definitions.specs.Passes.{no_tallies, with_all}
use Rattle.dy_definitions.proofs.Counts.{all_counted}

abbrev or_else : Option BindingId → Option BindingId → Option BindingId
or_else (Some id) other = Some id
or_else None other = other

owned_is : (k : Option Owner) (c : ℕ) (a : List ℕ) → is_owned k c a ≡ true → k ≡ Some (Own c a)
owned_is None c a e = absurd (true≢false (sym e))
owned_is (Some (Outside id)) c a e = absurd (true≢false (sym e))
owned_is (Some (Own x y)) c a e =
    let p = equal_parts x c y a e in λ i. Some (Own (p.0 i) (p.1 i))

own_itself : (c : ℕ) (a : List ℕ) → is_owned (Some (Own c a)) c a ≡ true
own_itself c a = λ i. eq-eqb c c refl i && (bytes_decides a a).1 refl i

module _ (id : BindingId) where
  unknown_more : (b given new : Bool) (known : Option BindingId) (any : Bool)
      → (b ≡ true → new ≡ (given && is_unknown known)) → is_unknown known ≡ not any
      → is_unknown (cond (new && b) (Some id) known) ≡ not (any || ((b && given) || false))
  unknown_more false given true known true e h = h
  unknown_more false given true known false e h = h
  unknown_more false given false known true e h = h
  unknown_more false given false known false e h = h
  unknown_more true true true None true e h = refl
  unknown_more true true true None false e h = refl
  unknown_more true true false None any e h = absurd (true≢false (sym (e refl)))
  unknown_more true true true (Some k) any e h = absurd (true≢false (e refl))
  unknown_more true true false (Some k) true e h = refl
  unknown_more true true false (Some k) false e h = refl
  unknown_more true false true known any e h = absurd (true≢false (e refl))
  unknown_more true false false known true e h = h
  unknown_more true false false known false e h = h

  row_more : (b given new : Bool) (known rest : Option BindingId)
      → (b ≡ true → new ≡ (given && is_unknown known))
      → or_else (cond (new && b) (Some id) known) rest
      ≡ or_else known (cond (b && given) (Some id) rest)
  row_more false given true known rest e = refl
  row_more false given false known rest e = refl
  row_more true true true None rest e = refl
  row_more true true false None rest e = absurd (true≢false (sym (e refl)))
  row_more true true true (Some k) rest e = absurd (true≢false (e refl))
  row_more true true false (Some k) rest e = refl
  row_more true false true known rest e = absurd (true≢false (e refl))
  row_more true false false known rest e = refl

given_at : (new : Bool) (k : Option Owner) (id : BindingId) (m : Meanings) (c : ℕ) (a : List ℕ)
    → with_meaning new k id m c a ≡ cond (new && is_owned k c a) (Some id) (m c a)
given_at true k id m c a = refl
given_at false k id m c a = refl

no_row : (r : Role) (new : Bool) → needs_row r new ≡ false → new ≡ false
no_row Adds new e = e
no_row (Makes what) new e = absurd (true≢false e)

nothing_else : (known : Option BindingId) → known ≡ or_else known None
nothing_else (Some id) = refl
nothing_else None = refl

module _ (library : ℕ) (ds : List Definition) where
  -- a name has a meaning where one of these definitions gave it one
  abbrev Knows : List Definition → Meanings → Type 0
  Knows before m = (c : ℕ) (a : List ℕ)
      → is_unknown (m c a) ≡ not (list_any (gives ds c a) before)

  module _ (before : List Definition) (m : Meanings) (knows : Knows before m)
      (d : Definition) where
    abbrev given_by : ℕ → List ℕ → Bool
    given_by c a = may_give d.role d.is_open (is_generic_name ds c a) (has_form ds c a)

    abbrev new_at : Option Owner → Bool
    new_at k = gives_in d (tally_at (tally_of ds) k) && is_unknown (meaning_at m k)

    new_is : (c : ℕ) (a : List ℕ) → is_of c a d ≡ true
        → new_at d.owner ≡ (given_by c a && is_unknown (m c a))
    new_is c a e = ap new_at (owned_is d.owner c a e)

    first_at : (k : Option Owner) → d.owner ≡ k → d.role ≡ Adds
        → is_first ds before k d ≡ new_at k
    first_at None e r = ap (λ x. may_give x d.is_open false false && true) (sym r)
    first_at (Some (Outside id)) e r = ap (λ x. may_give x d.is_open false false && true) (sym r)
    first_at (Some (Own c a)) e r = λ i. (own i && given_by c a) && sym (knows c a) i
      where
        own : is_of c a d ≡ true
        own = ap (λ k. is_owned k c a) e ∙ own_itself c a

    row_is : (r : Role) → d.role ≡ r → has_row ds before d r ≡ needs_row r (new_at d.owner)
    row_is Adds e = first_at d.owner refl e
    row_is (Makes what) e = refl

    module _ (rows : RowCounts) where
      abbrev id_is : BindingId
      id_is = row_id library rows d

      abbrev after : Meanings
      after = with_meaning (new_at d.owner) d.owner id_is m

      knows_more : Knows (before ++ d ∷ []) after
      knows_more c a =
          ap is_unknown (given_at (new_at d.owner) d.owner id_is m c a)
          ∙ unknown_more id_is (is_of c a d) (given_by c a) (new_at d.owner) (m c a)
          (list_any (gives ds c a) before) (new_is c a) (knows c a)
          ∙ ap not (sym (list_any-append (gives ds c a) before (d ∷ [])))

      row_given : (c : ℕ) (a : List ℕ) (rest : List Definition) (needs : Bool)
          → (needs ≡ false → new_at d.owner ≡ false)
          → or_else (after c a)
          (first_row library ds c a (rows_after needs (what_made d.role) rows) rest)
          ≡ or_else (m c a) (first_row library ds c a rows (cond needs (d ∷ rest) rest))
      row_given c a rest true none =
          let others = first_row library ds c a (rows_after true (what_made d.role) rows) rest in
          ap (λ known. or_else known others) (given_at (new_at d.owner) d.owner id_is m c a)
          ∙ row_more id_is (is_of c a d) (given_by c a) (new_at d.owner) (m c a) others (new_is c a)
      row_given c a rest false none =
          ap (λ new. or_else (with_meaning new d.owner id_is m c a)
          (first_row library ds c a rows rest)) (none refl)

  meanings_are : (rest before : List Definition) (rows : RowCounts) (m : Meanings)
      → Knows before m → (c : ℕ) (a : List ℕ)
      → meanings_with library (tally_of ds) rest rows m c a
      ≡ or_else (m c a) (first_row library ds c a rows (with_rows ds before rest))
  meanings_are [] before rows m knows c a = nothing_else (m c a)
  meanings_are (d ∷ rest) before rows m knows c a =
      let later = with_rows ds (before ++ d ∷ []) rest in
      let new = new_at before m knows d d.owner in
      meanings_are rest (before ++ d ∷ []) (rows_after (needs_row d.role new) (what_made d.role) rows)
      (after before m knows d rows) (knows_more before m knows d rows) c a
      ∙ row_given before m knows d rows c a later (needs_row d.role new) (no_row d.role new)
      ∙ ap (λ needs. or_else (m c a)
      (first_row library ds c a rows (cond needs (d ∷ later) later)))
      (sym (row_is before m knows d d.role refl))

  -- what names mean after all definitions
  pub meanings_is : meanings_with library (with_all ds no_tallies) ds no_rows no_meanings
      ≡ meanings_of library ds
  meanings_is = ap (λ (all : Tallies). meanings_with library all ds no_rows no_meanings) (all_counted ds)
      ∙ (λ i c a. meanings_are ds [] no_rows no_meanings (λ _ _. refl) c a i)
