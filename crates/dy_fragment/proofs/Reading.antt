-- What is grouped is read, unless it is too deep.
use Rattle.std.proofs.Common.{◌≡◌, ℕ, zero, suc, ◌+◌, ◌<◌, ◌≤◌, Bool, true, false, cond, ltb, List, [], ◌∷◌, ◌++◌, length, Option, Some, None, refl, sym, ap, ◌∙◌, arith, append_assoc}
use Rattle.std.specs.Prelude.{slice_get}
use Rattle.std.proofs.lemmas.List.{append-nil}
use Rattle.std.proofs.lemmas.Bool.{ltb-true, lt-ltb}
use Rattle.std.proofs.lemmas.Option.{slice_get_within}
use Rattle.dy_base.specs.declared.fault.Place.{Place}
use Rattle.dy_tree.specs.declared.token.Token.{Token}
use Rattle.dy_tree.specs.declared.words.Words.{Words}
use Rattle.dy_tree.specs.Fragments.{SeenFragment, one, group, pack}
use Rattle.dy_fragment.specs.declared.front.Context.{Context}
use Rattle.dy_fragment.specs.declared.front.Closer.{Closer}
use Rattle.dy_fragment.specs.declared.front.Front.TheVariants.{Leaf, Opens, Closes}
use Rattle.dy_fragment.specs.declared.closing.Closing.{Closing}
use Rattle.dy_fragment.specs.declared.closing.Closed.TheVariants.{At}
use Rattle.dy_fragment.specs.Fronts.{front_at}
use Rattle.dy_fragment.specs.Closings.{close}
use Rattle.dy_fragment.specs.Steps.{SeenOpen, SeenState, with_tree, deeper, run}
use Rattle.dy_fragment.specs.Groups.{Groups, nothing, leaf, closed, depth}
use Rattle.dy_fragment.proofs.Ahead.{close_ahead}

abbrev pub state_at : ℕ → Context → List SeenOpen → List SeenFragment → Option Place → SeenState
state_at at c os row deep = record { at = at; context = c; open_groups = os; row = row; deep = deep }

not_less : (depth limit : ℕ) (p : Place) (b : Bool) → ltb depth limit ≡ b → cond b None (Some p) ≡ None → depth < limit
not_less depth limit p true is e = ltb-true depth limit is
not_less depth limit p false is e = absurd cc

pub deeper_none : (limit : ℕ) (deep : Option Place) (depth : ℕ) (p : Place) → deeper limit deep depth p ≡ None → (deep ≡ None) × (depth < limit)
deeper_none limit None depth p e = (refl, not_less depth limit p (ltb depth limit) refl e)
deeper_none limit (Some q) depth p e = absurd cc

pub deeper_within : (limit : ℕ) (deep : Option Place) (depth : ℕ) (p : Place) → deep ≡ None → depth < limit → deeper limit deep depth p ≡ None
deeper_within limit None depth p e h = rw (lt-ltb depth limit h) refl
deeper_within limit (Some q) depth p e h = absurd cc

module _ (limit : ℕ) (words : Words) (tokens : List Token) where
  -- these trees are read: grouping goes on after them, with them in the row unless something was too deep
  pub record Reads (n at : ℕ) (c : Context) (to : ℕ) (e : Context) (fs : List SeenFragment) (os : List SeenOpen) (row : List SeenFragment) (deep : Option Place) : Type 0 where
    pub left : ℕ
    pub new_row : List SeenFragment
    pub new_deep : Option Place
    pub enough : length tokens ≤ left + to
    pub goes : run limit words tokens n (state_at at c os row deep) ≡ run limit words tokens left (state_at to e os new_row new_deep)
    pub same : new_deep ≡ None → new_row ≡ row ++ fs
    pub kept : new_deep ≡ None → deep ≡ None
    pub within : deep ≡ None → length os + depth fs ≤ limit → new_deep ≡ None
    pub beyond : new_deep ≡ None → length os ≤ limit → length os + depth fs ≤ limit

  abbrev pub ReadsAll : ℕ → Context → ℕ → Context → List SeenFragment → Type 0
  ReadsAll at c to e fs = (n : ℕ) (os : List SeenOpen) (row : List SeenFragment) (deep : Option Place) → length tokens ≤ n + at → Reads n at c to e fs os row deep

  reads_nothing : (at : ℕ) (c : Context) → ReadsAll at c at c []
  reads_nothing at c n os row deep enough = record {
    left = n;
    new_row = row;
    new_deep = deep;
    enough = enough;
    goes = refl;
    same = λ _. sym (append-nil row);
    kept = λ e. e;
    within = λ e _. e;
    beyond = λ _ h. omega arith;
  }

  leaf_goes : (m at : ℕ) (c d : Context) (t : Token) (os : List SeenOpen) (row : List SeenFragment) (deep : Option Place)
      → slice_get tokens at ≡ Some t → front_at words tokens t at c ≡ Leaf d
      → run limit words tokens (suc m) (state_at at c os row deep) ≡ run limit words tokens m (state_at (at + 1) d os (with_tree deep row (one t)) deep)
  leaf_goes m at c d t os row deep found front = rw (found, front) refl

  with_tree_none : (deep : Option Place) (row : List SeenFragment) (f : SeenFragment) → deep ≡ None → with_tree deep row f ≡ row ++ f ∷ []
  with_tree_none None row f e = refl
  with_tree_none (Some p) row f e = absurd cc

  joined : (row new fs : List SeenFragment) (f g : SeenFragment) (start : List SeenFragment) → new ≡ start ++ fs → start ≡ row ++ f ∷ [] → f ≡ g → new ≡ row ++ (g ∷ fs)
  joined row new fs f g start e d h = e ∙ ap (λ (x : List SeenFragment). x ++ fs) (d ∙ ap (λ (x : SeenFragment). row ++ x ∷ []) h) ∙ append_assoc row (g ∷ []) fs

  reads_leaf : (at to : ℕ) (c d e : Context) (t : Token) (fs : List SeenFragment) → slice_get tokens at ≡ Some t → front_at words tokens t at c ≡ Leaf d
      → ReadsAll (at + 1) d to e fs → ReadsAll at c to e (one t ∷ fs)
  reads_leaf at to c d e t fs found front more zero os row deep enough =
      let room = slice_get_within tokens at t found in absurd (omega arith)
  reads_leaf at to c d e t fs found front more (suc m) os row deep enough =
      let rest = more m os (with_tree deep row (one t)) deep (omega arith) in
      record {
        left = rest.left;
        new_row = rest.new_row;
        new_deep = rest.new_deep;
        enough = rest.enough;
        goes = leaf_goes m at c d t os row deep found front ∙ rest.goes;
        same = λ h. joined row rest.new_row fs (one t) (one t) (with_tree deep row (one t)) (rest.same h) (with_tree_none deep row (one t) (rest.kept h)) refl;
        kept = rest.kept;
        within = λ h fits. rest.within h (omega arith);
        beyond = λ h fits. let under = rest.beyond h fits in omega arith;
      }

  pub open_goes : (m at : ℕ) (c d : Context) (t : Token) (k : Closing) (os : List SeenOpen) (row : List SeenFragment) (deep : Option Place)
      → slice_get tokens at ≡ Some t → front_at words tokens t at c ≡ Opens k d
      → run limit words tokens (suc m) (state_at at c os row deep)
      ≡ run limit words tokens m (state_at (at + 1) d (record { opener = t; closing = k; before = row } ∷ os) [] (deeper limit deep (length os) t.place))
  open_goes m at c d t k os row deep found front = rw (found, front) refl

  close_goes : (m at after : ℕ) (c g : Context) (t : Token) (j : Closer) (o : SeenOpen) (os : List SeenOpen) (row : List SeenFragment) (deep : Option Place)
      → slice_get tokens at ≡ Some t → front_at words tokens t at c ≡ Closes j → close words tokens o.closing j t (at + 1) c ≡ At after g
      → run limit words tokens (suc m) (state_at at c (o ∷ os) row deep)
      ≡ run limit words tokens m (state_at after g os (with_tree deep o.before (group o.opener (pack row) t)) deep)
  close_goes m at after c g t j o os row deep found front closes = rw (found, front, closes) refl

  pub one_less : (n at : ℕ) → at < length tokens → length tokens ≤ n + at → (m : ℕ) × (n ≡ suc m)
  one_less zero at room enough = absurd (omega arith)
  one_less (suc m) at room enough = (m, refl)

  reads_group : (at end after to : ℕ) (c d e g h : Context) (opener closer : Token) (k : Closing) (j : Closer) (inner fs : List SeenFragment)
      → slice_get tokens at ≡ Some opener → front_at words tokens opener at c ≡ Opens k d → ReadsAll (at + 1) d end e inner
      → slice_get tokens end ≡ Some closer → front_at words tokens closer end e ≡ Closes j → close words tokens k j closer (end + 1) e ≡ At after g
      → ReadsAll after g to h fs → ReadsAll at c to h (group opener (pack inner) closer ∷ fs)
  reads_group at end after to c d e g h opener closer k j inner fs found front inside met ends closes more zero os row deep enough =
      let room = slice_get_within tokens at opener found in absurd (omega arith)
  reads_group at end after to c d e g h opener closer k j inner fs found front inside met ends closes more (suc m) os row deep enough =
      let o : SeenOpen = record { opener = opener; closing = k; before = row } in
      let deep1 : Option Place = deeper limit deep (length os) opener.place in
      let first = inside m (o ∷ os) [] deep1 (omega arith) in
      let (m1, left) = one_less first.left end (slice_get_within tokens end closer met) first.enough in
      let sum : length tokens ≤ first.left + end = first.enough in
      let ahead : end + 1 ≤ after = close_ahead words tokens k j closer (end + 1) e after g closes in
      let tree : SeenFragment = group opener (pack first.new_row) closer in
      let row2 : List SeenFragment = with_tree first.new_deep row tree in
      let rest = more m1 os row2 first.new_deep (omega arith) in
      let is : (new : Option Place) → new ≡ None → first.new_deep ≡ new → tree ≡ group opener (pack inner) closer =
      λ (new : Option Place) (x : new ≡ None) (y : first.new_deep ≡ new). ap (λ (r : List SeenFragment). group opener (pack r) closer) (first.same (y ∙ x)) in
      record {
        left = rest.left;
        new_row = rest.new_row;
        new_deep = rest.new_deep;
        enough = rest.enough;
        goes = open_goes m at c d opener k os row deep found front ∙ first.goes
            ∙ ap (λ (n : ℕ). run limit words tokens n (state_at end e (o ∷ os) first.new_row first.new_deep)) left
            ∙ close_goes m1 end after e g closer j o os first.new_row first.new_deep met ends closes ∙ rest.goes;
        same = λ x. joined row rest.new_row fs tree (group opener (pack inner) closer) row2 (rest.same x) (with_tree_none first.new_deep row tree (rest.kept x)) (is first.new_deep (rest.kept x) refl);
        kept = λ x. (deeper_none limit deep (length os) opener.place (first.kept (rest.kept x))).0;
        within = λ x fits.
            let none : deep1 ≡ None = deeper_within limit deep (length os) opener.place x (omega arith) in
            rest.within (first.within none (omega arith)) (omega arith);
        beyond = λ x fits.
            let less = (deeper_none limit deep (length os) opener.place (first.kept (rest.kept x))).1 in
            let under = first.beyond (rest.kept x) (omega arith) in
            let after_it = rest.beyond x fits in
            omega arith;
      }

  pub reads : (at : ℕ) (c : Context) (to : ℕ) (e : Context) (fs : List SeenFragment) → Groups words tokens at c to e fs → ReadsAll at c to e fs
  reads at c to e fs (nothing a b) = reads_nothing at c
  reads at c to e fs (leaf a b c2 d e2 t gs found front more) = reads_leaf at to c d e t gs found front (reads (at + 1) d to e gs more)
  reads at c to h fs (closed a end after b c2 d e g h2 opener closer k j inner gs found front inside met ends closes more) =
      reads_group at end after to c d e g h opener closer k j inner gs found front (reads (at + 1) d end e inner inside) met ends closes (reads after g to h gs more)
