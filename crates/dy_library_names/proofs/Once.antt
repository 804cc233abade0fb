-- Modules, forms and faults say one thing.
use Rattle.std.proofs.Common.{◌≡◌, ◌⊎◌, inl, inr, ◌↔◌, ℕ, zero, suc, ◌<◌, ◌≤◌, Bool, true, false}
use Rattle.std.proofs.Common.{true≢false, List, [], ◌∷◌, ◌++◌, length, Option, Some, None}
use Rattle.std.proofs.Common.{refl, sym, ap, subst, ◌∙◌, arith}
use Rattle.std.proofs.lemmas.Option.{slice_get_past}
use Rattle.dy_base.specs.Folding.{folded}
use Rattle.dy_base.specs.Tables.{NameMap}
use Rattle.dy_base.specs.declared.ids.BindingId.{BindingId}
use Rattle.dy_base.specs.declared.fault.Fault.{Fault}
use Rattle.dy_base.specs.declared.fault.Place.{Place}
use Rattle.dy_tree.specs.declared.token.Token.{Token}
use Rattle.dy_term.specs.Types.{CoreType}
use Rattle.dy_names.specs.Naming.{Locals}
use Rattle.dy_names.specs.Outside.{Outside}
use Rattle.dy_binding.specs.Faults.{comes_before}
use Rattle.dy_modules.specs.declared.owner.Owner.{Owner}
use Rattle.dy_modules.specs.declared.owner.Owner.TheVariants.{Outside as OfOther, Own}
use Rattle.dy_modules.specs.declared.clause.ModuleForm.{ModuleForm}
use Rattle.dy_modules.specs.Clauses.{Name, IsIn}
use Rattle.dy_module_tables.specs.declared.promise.Promise.{Promise}
use Rattle.dy_module_tables.specs.Graphs.{Graph, definition, defined_in, Means, IsExported}
use Rattle.dy_module_tables.specs.Lacking.{AreLacking}
use Rattle.dy_module_tables.specs.Meant.{IsOwner, IsBarred}
use Rattle.dy_definitions.specs.Means.{Meanings}
use Rattle.dy_module_names.specs.Definitions.{Modules}
use Rattle.dy_module_names.specs.Given.{AreModules}
use Rattle.dy_module_names.specs.Means.{AreMeant}
use Rattle.dy_library_names.specs.Closing.{Definitions, AreDefined}
use Rattle.dy_library_names.specs.Told.{IsTold, IsFirst}

same_some : {X : Type 0} (o p : Option X) → ((x : X) → o ≡ Some x → p ≡ Some x)
    → ((x : X) → p ≡ Some x → o ≡ Some x) → o ≡ p
same_some None None to from = refl
same_some None (Some x) to from = from x refl
same_some (Some x) p to from = sym (to x refl)

one_owner : (ms : List ModuleForm) (m : ℕ) (n : Name) (o p : Option Owner) → IsOwner ms m n o
    → IsOwner ms m n p → o ≡ p
one_owner ms m n o p is other =
    same_some o p (λ k e. (other k).1 ((is k).0 e)) (λ k e. (is k).1 ((other k).0 e))

one_answer : (P : Type 0) (b c : Bool) → (b ≡ false) ↔ P → (c ≡ false) ↔ P → b ≡ c
one_answer P true true is other = refl
one_answer P true false is other = is.1 (other.0 refl)
one_answer P false true is other = sym (other.1 (is.0 refl))
one_answer P false false is other = refl

-- what a table of modules says of names
pub modules_once : (g : Graph) (a b : Modules) → AreModules g a → AreModules g b → a ≡ b
modules_once g a b are other = λ i. record {
  owner = λ m n. one_owner g.modules m n (a.owner m n) (b.owner m n) (are.owner m n)
      (other.owner m n) i;
  is_open = λ m n. one_answer (IsBarred g.modules g.own m n) (a.is_open m n) (b.is_open m n)
      (are.is_open m n) (other.is_open m n) i;
}

nothing_past : (defs : Definitions) (c : ℕ) (a : Name) → length defs ≤ c
    → definition defs (Own c a) ≡ None
nothing_past defs c a h = ap (λ (o : Option (NameMap BindingId)). defined_in o a)
    (slice_get_past defs c h)

within_or_past : (c n : ℕ) → (c < n) ⊎ (n ≤ c)
within_or_past c zero = inr (omega arith)
within_or_past zero (suc n) = inl (omega arith)
within_or_past (suc c) (suc n) = elim (within_or_past c n) [
  | inl h ↦ inl (omega (arith, h))
  | inr h ↦ inr (omega (arith, h))
]

-- what owners are defined as
pub defined_once : (ms : List ModuleForm) (a b : Definitions) (x y : Meanings)
    → AreDefined ms a x → AreDefined ms b y → x ≡ y → (k : Owner)
    → definition a k ≡ definition b k
defined_once ms a b x y are other same (OfOther id) = refl
defined_once ms a b x y are other same (Own c n) = by_place (within_or_past c (length ms))
  where
    by_place : (c < length ms) ⊎ (length ms ≤ c)
        → definition a (Own c n) ≡ definition b (Own c n)
    by_place (inl h) = are.each c n h ∙ (λ i. same i c n) ∙ sym (other.each c n h)
    by_place (inr h) =
        nothing_past a c n (subst (λ l. l ≤ c) (sym are.count) h)
        ∙ sym (nothing_past b c n (subst (λ l. l ≤ c) (sym other.count) h))

module _ (ms : List ModuleForm) where
  abbrev Same : Definitions → Definitions → Type 0
  Same a b = (k : Owner) → definition a k ≡ definition b k

  meant_by : (a b : Definitions) → Same a b → (m : ℕ) (n : Name) (id : BindingId)
      → Means ms a m n id → Means ms b m n id
  meant_by a b same m n id (k, visible, is) = (k, visible, sym (same k) ∙ is)

  exported_by : (a b : Definitions) → Same a b → (m : ℕ) (n : Name) (id : BindingId)
      → IsExported ms a m n id → IsExported ms b m n id
  exported_by a b same m n id (k, owned, is) = (k, owned, sym (same k) ∙ is)

  -- what names mean
  pub meant_once : (a b : Definitions) → Same a b → (out other : Outside) → AreMeant ms a out
      → AreMeant ms b other → out ≡ other
  meant_once a b same out other is meant = λ i. record {
    owner = λ (name : Token). same_some (out.owner name) (other.owner name)
        (λ id e. (meant.owner name id).1
        (meant_by a b same name.«module» (folded name.text) id ((is.owner name id).0 e)))
        (λ id e. (is.owner name id).1
        (meant_by b a (λ k. sym (same k)) name.«module» (folded name.text) id
        ((meant.owner name id).0 e))) i;
    type = λ (locals : Locals) (declared : CoreType).
        (is.type locals declared ∙ sym (meant.type locals declared)) i;
  }

  -- which promised names are not defined
  pub lacking_once : (a b : Definitions) → Same a b → (ps : List Promise)
      (xs ys : List (Name × Place)) → AreLacking ms a ps xs → AreLacking ms b ps ys → xs ≡ ys
  lacking_once a b same [] xs ys is other = is ∙ sym other
  lacking_once a b same (p ∷ ps) xs ys (inl (never, rest, all, are))
      (inl (other, more, every, too)) =
      all ∙ ap (λ (l : List (Name × Place)). (p.name, p.place) ∷ l)
      (lacking_once a b same ps rest more are too) ∙ sym every
  lacking_once a b same (p ∷ ps) xs ys (inl (never, rest, all, are)) (inr ((id, is), too)) =
      absurd (never id (exported_by b a (λ k. sym (same k)) p.number p.name id is))
  lacking_once a b same (p ∷ ps) xs ys (inr ((id, is), are)) (inl (other, more, every, too)) =
      absurd (other id (exported_by a b same p.number p.name id is))
  lacking_once a b same (p ∷ ps) xs ys (inr (is, are)) (inr (there, too)) =
      lacking_once a b same ps xs ys are too

abbrev is_nil : List Fault → Bool
is_nil [] = true
is_nil (fault ∷ faults) = false

abbrev head_or : Fault → List Fault → Fault
head_or f [] = f
head_or f (x ∷ xs) = x

abbrev tail : List Fault → List Fault
tail [] = []
tail (x ∷ xs) = xs

not_nil : (before behind : List Fault) (f : Fault) → is_nil (before ++ f ∷ behind) ≡ false
not_nil [] behind f = refl
not_nil (x ∷ before) behind f = refl

none_told : (faults : List Fault) (f : Fault) → faults ≡ [] → IsTold faults f → ⊥
none_told faults f none told = true≢false
    (ap is_nil (sym none ∙ told.all) ∙ not_nil told.before told.behind f)

in_middle : (before behind : List Fault) (f : Fault) → IsIn f (before ++ f ∷ behind)
in_middle [] behind f = inl refl
in_middle (x ∷ before) behind f = inr (in_middle before behind f)

abbrev Firstly : List Fault → Fault → Type 0
Firstly before f = (other : Fault) → IsIn other before → comes_before f other ≡ true

abbrev Lastly : List Fault → Fault → Type 0
Lastly behind f = (other : Fault) → IsIn other behind → comes_before other f ≡ false

-- a fault in front of another one that is told
sooner : (f e : Fault) (here there after : List Fault) → f ∷ here ≡ there ++ e ∷ after
    → Lastly here f → Firstly there e → f ≡ e
sooner f e here [] after is last first = ap (head_or f) is
sooner f e here (x ∷ there) after is last first = absurd (true≢false
    (sym (first f (inl (ap (head_or f) is)))
    ∙ last e (subst (IsIn e) (sym (ap tail is)) (in_middle there after e))))

told_at : (before there here after : List Fault) (f e : Fault)
    → before ++ f ∷ here ≡ there ++ e ∷ after → Firstly before f → Lastly here f
    → Firstly there e → Lastly after e → f ≡ e
told_at [] there here after f e is first last sooner_all later = sooner f e here there after is
    last sooner_all
told_at (x ∷ before) [] here after f e is first last sooner_all later =
    sym (sooner e f after (x ∷ before) here (sym is) later first)
told_at (x ∷ before) (y ∷ there) here after f e is first last sooner_all later =
    told_at before there here after f e (ap tail is) (λ o h. first o (inr h)) last
    (λ o h. sooner_all o (inr h)) later

told_once : (faults : List Fault) (f e : Fault) → IsTold faults f → IsTold faults e → f ≡ e
told_once faults f e is other = told_at is.before other.before is.behind other.behind f e
    (sym is.all ∙ other.all) is.first is.least other.first other.least

-- the first fault of phases
pub first_once : (phases : List (List Fault)) (a b : Option Fault) → IsFirst phases a
    → IsFirst phases b → a ≡ b
first_once [] a b is other = is ∙ sym other
first_once (faults ∷ phases) None None is other = refl
first_once (faults ∷ phases) None (Some e) (none, is) (inl told) =
    absurd (none_told faults e none told)
first_once (faults ∷ phases) None (Some e) (none, is) (inr (also, other)) =
    first_once phases None (Some e) is other
first_once (faults ∷ phases) (Some f) None (inl told) (none, other) =
    absurd (none_told faults f none told)
first_once (faults ∷ phases) (Some f) None (inr (also, is)) (none, other) =
    first_once phases (Some f) None is other
first_once (faults ∷ phases) (Some f) (Some e) (inl told) (inl again) =
    ap Some (told_once faults f e told again)
first_once (faults ∷ phases) (Some f) (Some e) (inl told) (inr (none, other)) =
    absurd (none_told faults f none told)
first_once (faults ∷ phases) (Some f) (Some e) (inr (none, is)) (inl told) =
    absurd (none_told faults e none told)
first_once (faults ∷ phases) (Some f) (Some e) (inr (none, is)) (inr (also, other)) =
    first_once phases (Some f) (Some e) is other
