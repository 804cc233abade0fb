-- The tallies of a pass are those of the definitions that it has seen.
use Rattle.std.proofs.Common.{◌≡◌, ℕ, Bool, true, false, not, ◌&&◌, ◌||◌, cond, List, [], ◌∷◌}
use Rattle.std.proofs.Common.{◌++◌, Option, Some, None, find, option_map, refl, sym, ap, ◌∙◌}
use Rattle.std.specs.List.{list_any}
use Rattle.std.proofs.lemmas.List.{append_assoc, append-nil}
use Rattle.std.proofs.lemmas.List.Folds.{list_any-append}
use Rattle.dy_base.specs.Folding.{folded}
use Rattle.dy_base.specs.declared.ids.What.{What}
use Rattle.dy_base.specs.declared.fault.Fault.{Fault}
use Rattle.dy_tree.specs.declared.words.Word.{Word}
use Rattle.dy_modules.specs.declared.owner.Owner.{Owner}
use Rattle.dy_modules.specs.declared.owner.Owner.TheVariants.{Outside, Own}
use Rattle.dy_definitions.specs.declared.definitions.Role.{Role}
use Rattle.dy_definitions.specs.declared.definitions.Role.TheVariants.{Makes, Adds}
use Rattle.dy_definitions.specs.declared.definitions.Definition.{Definition}
use Rattle.dy_definitions.specs.declared.tally.Tally.{Tally}
use Rattle.dy_definitions.specs.Names.{is_generic, is_of, what_made, what_is, is_method}
use Rattle.dy_definitions.specs.Names.{makes_generic, makes_other, has_form}
use Rattle.dy_definitions.specs.Redefined.{go_together, clashes, is_misplaced, is_word}
use Rattle.dy_definitions.specs.Redefined.{is_redefined, redefined, redefined_among}
use Rattle.dy_definitions.specs.Redefined.{all_redefined}
use Rattle.dy_definitions.specs.Passes.{tally_of, or_what, counted, no_tallies}
use Rattle.dy_definitions.specs.Passes.{with_definition, with_all, tally_at, clashes_with}
use Rattle.dy_definitions.specs.Passes.{is_refused, refused_by, with_refused}

or_same : (x b r : Bool) → (x || ((b && r) || false)) ≡ cond b (x || r) x
or_same x true true = refl
or_same x true false = refl
or_same true false r = refl
or_same false false r = refl

both_same : (b o g : Bool) → ((b && o) && g) ≡ (b && (o && g))
both_same true o g = refl
both_same false o g = refl

by_fields : (b : Bool) (t u : Tally) → record {
  what = cond b t.what u.what;
  first = cond b t.first u.first;
  form = cond b t.form u.form;
  adds = cond b t.adds u.adds;
  generic = cond b t.generic u.generic;
  other = cond b t.other u.other;
} ≡ cond b t u
by_fields true t u = refl
by_fields false t u = refl

module _ (c : ℕ) (a : List ℕ) (d : Definition) where
  abbrev what_with : Bool → Bool → Option What → Option What
  what_with b counts w = cond b (or_what w counts (what_made d.role)) w

  what_first : (b stands : Bool) → option_map (λ (x : Definition). what_made x.role)
      (cond (b && stands) (Some d) None) ≡ cond b (or_what None stands (what_made d.role)) None
  what_first true true = refl
  what_first true false = refl
  what_first false stands = refl

  kept : (b : Bool) (w : Option What) → w ≡ cond b w w
  kept true w = refl
  kept false w = refl

  -- what the first of the definitions that count makes the name
  abbrev made_by : (Definition → Bool) → List Definition → Option What
  made_by counts ds =
      option_map (λ x. what_made x.role) (find (λ x. is_of c a x && counts x) ds)

  -- the same with one more definition
  made_more : (counts : Definition → Bool) (ds : List Definition)
      → made_by counts (ds ++ d ∷ []) ≡ what_with (is_of c a d) (counts d) (made_by counts ds)
  made_more counts [] = what_first (is_of c a d) (counts d)
  made_more counts (e ∷ ds) = by_head (is_of c a e && counts e) (made_more counts ds)
    where
      by_head : (b : Bool)
          → made_by counts (ds ++ d ∷ []) ≡ what_with (is_of c a d) (counts d) (made_by counts ds)
          → option_map (λ (x : Definition). what_made x.role)
          (cond b (Some e) (find (λ x. is_of c a x && counts x) (ds ++ d ∷ [])))
          ≡ what_with (is_of c a d) (counts d)
          (option_map (λ (x : Definition). what_made x.role)
          (cond b (Some e) (find (λ x. is_of c a x && counts x) ds)))
      by_head true rest = kept (is_of c a d) (Some (what_made e.role))
      by_head false rest = rest

  any_more : (r : Definition → Bool) (ds : List Definition)
      → list_any (λ e. is_of c a e && r e) (ds ++ d ∷ [])
      ≡ cond (is_of c a d) (list_any (λ e. is_of c a e && r e) ds || r d)
      (list_any (λ e. is_of c a e && r e) ds)
  any_more r ds = list_any-append (λ e. is_of c a e && r e) ds (d ∷ [])
      ∙ or_same (list_any (λ e. is_of c a e && r e) ds) (is_of c a d) (r d)

  form_any : (ds : List Definition) → has_form ds c a
      ≡ list_any (λ e. is_of c a e && (e.is_open && makes_generic e.role)) ds
  form_any ds = λ i. list_any (λ e. both_same (is_of c a e) e.is_open (makes_generic e.role) i) ds

  form_more : (ds : List Definition) → has_form (ds ++ d ∷ []) c a
      ≡ cond (is_of c a d) (has_form ds c a || (d.is_open && makes_generic d.role))
      (has_form ds c a)
  form_more ds = form_any (ds ++ d ∷ [])
      ∙ any_more (λ e. e.is_open && makes_generic e.role) ds
      ∙ ap (λ x. cond (is_of c a d) (x || (d.is_open && makes_generic d.role)) x)
      (sym (form_any ds))

  tally_more : (ds : List Definition) → tally_of (ds ++ d ∷ []) c a
      ≡ with_definition d (tally_of ds) c a
  tally_more ds =
      (λ i. record {
        what = made_more (λ e. e.is_open) ds i;
        first = made_more (λ e. e.is_open || is_method e.role) ds i;
        form = form_more ds i;
        adds = any_more (λ e. is_method e.role) ds i;
        generic = any_more (λ e. makes_generic e.role) ds i;
        other = any_more (λ e. makes_other e.role) ds i;
      })
      ∙ by_fields (is_of c a d) (counted d.role d.is_open (tally_of ds c a)) (tally_of ds c a)

one_counted : (d : Definition) (ds : List Definition)
    → with_definition d (tally_of ds) ≡ tally_of (ds ++ d ∷ [])
one_counted d ds = λ i c a. sym (tally_more c a d ds) i

counted_with : (ds before : List Definition) → with_all ds (tally_of before)
    ≡ tally_of (before ++ ds)
counted_with [] before = ap tally_of (sym (nothing before))
  where
    nothing : (xs : List Definition) → xs ++ [] ≡ xs
    nothing [] = refl
    nothing (x ∷ xs) = ap (λ l. x ∷ l) (nothing xs)
counted_with (d ∷ ds) before = ap (with_all ds) (one_counted d before)
    ∙ counted_with ds (before ++ d ∷ [])
    ∙ ap tally_of (append_assoc before (d ∷ []) ds)

-- the tallies of all definitions
pub all_counted : (ds : List Definition) → with_all ds no_tallies ≡ tally_of ds
all_counted ds = counted_with ds []

mixed : (x y z n : Bool) → ((x || y) || n) ≡ (n || ((x || y) || (z && n)))
mixed true y z true = refl
mixed true y z false = refl
mixed false true z true = refl
mixed false true z false = refl
mixed false false z true = refl
mixed false false true false = refl
mixed false false false false = refl

made_clashes : (g x y z : Bool) → ((g || x) || (not g || y) || z) ≡ true
made_clashes true x y z = refl
made_clashes false true y z = refl
made_clashes false false y z = refl

other_is : (r : Role) → makes_other r ≡ not (go_together r Adds)
other_is Adds = refl
other_is (Makes what) = refl

module _ (c : ℕ) (a : List ℕ) (what : What) where
  step : (b : Bool) (r : Role) (x y z all : Bool)
      → (x || y || (z && not (is_generic what))) ≡ all
      → (((b && makes_generic r) || x) || ((b && makes_other r) || y)
      || (((b && is_method r) || z) && not (is_generic what)))
      ≡ ((b && not (go_together r (Makes what))) || all)
  step true Adds x y z all e = mixed x y z (not (is_generic what))
      ∙ ap (λ o. not (is_generic what) || o) e
  step true (Makes made) x y z all e = made_clashes (is_generic made) x y _
  step false r x y z all e = e

  made_is : (ds : List Definition) → clashes_with (Makes what) (tally_of ds c a)
      ≡ list_any (λ e. is_of c a e && not (go_together e.role (Makes what))) ds
  made_is [] = refl
  made_is (d ∷ ds) = step (is_of c a d) d.role _ _ _ _ (made_is ds)

clash_is : (ds : List Definition) (owner : Option Owner) (r : Role)
    → clashes_with r (tally_at (tally_of ds) owner) ≡ clashes ds owner r
clash_is ds None Adds = refl
clash_is ds None (Makes what) = refl
clash_is ds (Some (Outside id)) Adds = refl
clash_is ds (Some (Outside id)) (Makes what) = refl
clash_is ds (Some (Own c a)) Adds = λ i. list_any (λ e. is_of c a e && other_is e.role i) ds
clash_is ds (Some (Own c a)) (Makes what) = made_is c a what ds

module _ (words : List Word) (ds : List Definition) where
  refused_is : (before : List Definition) (d : Definition)
      → is_refused words (tally_of ds) (tally_of before) d ≡ is_redefined words ds before d
  refused_is before d = ap (λ b. is_word words (folded d.name.text)
      || (is_misplaced (what_is ds) d d.role || b)) (clash_is before d.owner d.role)

  joined : (d : Definition) (list more : List Fault) (b : Bool)
      → refused_by b d list ++ more ≡ list ++ cond b (redefined d ∷ more) more
  joined d list more true = append_assoc list (redefined d ∷ []) more
  joined d list more false = refl

  among_is : (rest before : List Definition) (list : List Fault)
      → with_refused words (tally_of ds) (tally_of before) rest list
      ≡ list ++ redefined_among words ds before rest
  among_is [] before list = sym (append-nil list)
  among_is (d ∷ rest) before list =
      let b = is_refused words (tally_of ds) (tally_of before) d in
      let more = redefined_among words ds (before ++ d ∷ []) rest in
      ap (λ earlier. with_refused words (tally_of ds) earlier rest (refused_by b d list))
      (one_counted d before)
      ∙ among_is rest (before ++ d ∷ []) (refused_by b d list)
      ∙ joined d list more b
      ∙ ap (λ x. list ++ cond x (redefined d ∷ more) more) (refused_is before d)

  -- the definitions that are one too many
  pub told_is : with_refused words (with_all ds no_tallies) no_tallies ds []
      ≡ all_redefined words ds
  told_is = ap (λ all. with_refused words all no_tallies ds []) (all_counted ds) ∙ among_is ds [] []
