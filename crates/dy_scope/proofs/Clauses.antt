-- Clauses of a `for` from their parts, and one more clause of a list.
use Rattle.std.proofs.Common.{◌≡◌, ℕ, ◌+◌, ◌<◌, List, [], ◌∷◌, ◌++◌, length, map, drop, get_or, sym}
use Rattle.std.proofs.Common.{ap, ◌∙◌, append_assoc}
use Rattle.std.specs.Prelude.{Option, Some, None, Result}
use Rattle.std.specs.Option.{option_map}
use Rattle.std.proofs.lemmas.List.{drop_more}
use Rattle.dy_base.specs.declared.fault.Fault.{Fault}
use Rattle.dy_tree.specs.declared.token.Token.{Token}
use Rattle.dy_term.specs.declared.types.DyType.{DyType}
use Rattle.dy_term.specs.declared.term.Limit.{Limit}
use Rattle.dy_term.specs.declared.term.Term.{Term}
use Rattle.dy_term.specs.declared.term.ForClause.{ForClause, From}
use Rattle.dy_term.specs.declared.draft.Local.TheVariants.{Named}
use Rattle.dy_term.specs.declared.draft.DraftType.{DraftType}
use Rattle.dy_term.specs.declared.draft.DraftTerm.{DraftTerm}
use Rattle.dy_term.specs.declared.draft.DraftForClause.{DraftForClause}
use Rattle.dy_term.specs.declared.draft.DraftForClause.TheVariants as clauses
use Rattle.dy_term.specs.declared.draft.DraftBlockClause.{DraftBlockClause}
use Rattle.dy_term.specs.Types.{seen_type}
use Rattle.dy_term.specs.Drafts.{cores_of, core_and, catches_of, seen_term, seen_option, seen_clause}
use Rattle.dy_term.specs.Drafts.{seen_bound, seen_catch}
use Rattle.dy_term.proofs.Made.{seen_from}
use Rattle.dy_names.specs.declared.denotation.Denotation.TheVariants.{Local}
use Rattle.dy_names.specs.Naming.{Locals}
use Rattle.dy_names.specs.Outside.{Outside}
use Rattle.dy_binding.specs.declared.progress.Progress.{Progress}
use Rattle.dy_binding.specs.declared.progress.Apart.{Apart}
use Rattle.dy_binding.specs.Reads.{told_some}
use Rattle.dy_binding.specs.Bound.{bound_some, count, number_of}
use Rattle.dy_binding.specs.Types.{read_type, type_or, told_of}
use Rattle.dy_binding.proofs.Turns.{Goes}
use Rattle.dy_resolution.specs.Terms.{core_term, core_maybe, core_limit, core_first, core_clause}
use Rattle.dy_resolution.specs.Terms.{core_defaults, core_catches}
use Rattle.dy_scope.proofs.Next.{goes_on}

abbrev apart_of : DyType → Term → Option (Limit × Term) → Option Term → Apart
apart_of t f l s = record { declared = t; first = f; limit = l; step = s; fault = None }

module _ (out : Outside) (locals : Locals) (p : Progress) (d : DraftForClause) (v : Token)
    (declared : DraftType) (start : DraftTerm) (limit : Option (Limit × DraftTerm))
    (step : Option DraftTerm) (de : d ≡ clauses.From v declared start limit step) where
  pub first_from : (q1 q2 q3 q4 : Progress) (s1 s2 : Locals) (t : DyType) (f : Term)
      (l : Option (Limit × Term)) (s : Option Term)
      → t ≡ (read_type out (seen_type declared) locals p).0
      → q1 ≡ (read_type out (seen_type declared) locals p).1
      → f ≡ (core_term out (seen_term start) locals q1).0
      → q2 ≡ (core_term out (seen_term start) locals q1).1 → s1 ≡ locals
      → l ≡ (core_limit out (seen_bound limit) s1 q2).0
      → q3 ≡ (core_limit out (seen_bound limit) s1 q2).1 → s2 ≡ s1
      → s ≡ (core_maybe out (seen_option step) s2 q3).0
      → q4 ≡ (core_maybe out (seen_option step) s2 q3).1
      → (record { declared = t; first = f; limit = l; step = s; fault = None }
      ≡ (core_first out (seen_clause d) locals p).0)
      × (q4 ≡ (core_first out (seen_clause d) locals p).1)
  first_from q1 q2 q3 q4 s1 s2 t f l s te te' fe fe' se1 le le' se2 ee ee' =
      let f0 = fe ∙ (λ i. (core_term out (seen_term start) locals (te' i)).0) in
      let f1 = fe' ∙ (λ i. (core_term out (seen_term start) locals (te' i)).1) in
      let l0 = le ∙ (λ i. (core_limit out (seen_bound limit) (se1 i) (f1 i)).0) in
      let l1 = le' ∙ (λ i. (core_limit out (seen_bound limit) (se1 i) (f1 i)).1) in
      let w = se2 ∙ se1 in
      let e0 = ee ∙ (λ i. (core_maybe out (seen_option step) (w i) (l1 i)).0) in
      let e1 = ee' ∙ (λ i. (core_maybe out (seen_option step) (w i) (l1 i)).1) in
      let whole = ap (λ c. core_first out c locals p)
      (sym (ap seen_clause de ∙ seen_from v declared start limit step)) in (
        (λ i. apart_of (te i) (f0 i) (l0 i) (e0 i)) ∙ ap (λ r. r.0) whole,
        e1 ∙ ap (λ r. r.1) whole,
      )

  pub clause_from : (read : Apart) (n : ℕ) (q : Progress) → q ≡ told_some read.fault p
      → (From n read.declared read.first read.limit read.step
      ≡ (core_clause out (seen_clause d) read n locals p).0)
      × (q ≡ (core_clause out (seen_clause d) read n locals p).1)
  clause_from read n q qe =
      let whole = ap (λ c. core_clause out c read n locals p)
      (sym (ap seen_clause de ∙ seen_from v declared start limit step)) in
      (ap (λ r. r.0) whole, qe ∙ ap (λ r. r.1) whole)

-- one more `exception` clause
pub catch_next : (out : Outside) (xs : List DraftBlockClause) (i : ℕ) (x : DraftBlockClause)
    → i < length xs → x ≡ get_or xs i x
    → (whole : List (Option ℕ × DyType × Term) × Progress)
    (before after : List (Option ℕ × DyType × Term)) (n m : ℕ) (locals inner now : Locals)
    (p q r : Progress) (t : DyType) (b : Term)
    → t ≡ (read_type out (seen_type x.condition) locals p).0
    → q ≡ (read_type out (seen_type x.condition) locals p).1
    → inner ≡ bound_some n (option_map Named x.variable) locals
    → b ≡ (core_term out (seen_term x.body) inner q).0
    → r ≡ (core_term out (seen_term x.body) inner q).1 → now ≡ locals → m ≡ n + count x.variable
    → after ≡ before ++ (number_of x.variable n, t, b) ∷ []
    → Goes whole before (core_catches out (catches_of (map seen_catch (drop i xs))) n locals p)
    → Goes whole after (core_catches out (catches_of (map seen_catch (drop (i + 1) xs))) m now r)
catch_next out xs i x l e whole before after n m locals inner now p q r t b te qe ie be re ne me
    a =
    let b0 = be ∙ (λ j. (core_term out (seen_term x.body) (ie j) (qe j)).0) in
    let b1 = re ∙ (λ j. (core_term out (seen_term x.body) (ie j) (qe j)).1) in
    goes_on whole before after (number_of x.variable n, t, b) _ _
    (ap (λ ys. core_catches out (catches_of (map seen_catch ys)) n locals p)
    (drop_more xs i x l ∙ ap (λ y. y ∷ drop (i + 1) xs) (sym e))
    ∙ (λ j. let k = core_catches out (catches_of (map seen_catch (drop (i + 1) xs))) (sym me j)
    (sym ne j) (sym b1 j) in ((number_of x.variable n, sym te j, sym b0 j) ∷ k.0, k.1))) a

-- the whole of the defaults is what is done and then what the rest gives
abbrev pub Fills : (List (DyType × Term) × Locals) × Progress → List (DyType × Term)
    → (List (DyType × Term) × Locals) × Progress → Type 0
Fills whole done rest = whole ≡ ((done ++ rest.0.0, rest.0.1), rest.1)

pub default_next : (out : Outside) (xs : List DraftTerm) (i : ℕ) (x : DraftTerm) → i < length xs
    → x ≡ get_or xs i x → (whole : (List (DyType × Term) × Locals) × Progress)
    (before after : List (DyType × Term)) (keys rest : List (Token × Result DyType Fault))
    (key : Token × Result DyType Fault) (n m : ℕ) (locals s now : Locals) (p q r : Progress)
    (t : DyType) (b : Term)
    → keys ≡ key ∷ rest → t ≡ type_or key.1 → q ≡ told_of key.1 p
    → b ≡ (core_term out (seen_term x) locals q).0
    → r ≡ (core_term out (seen_term x) locals q).1 → s ≡ locals
    → now ≡ (Named key.0, Local n) ∷ s → m ≡ n + 1 → after ≡ before ++ (t, b) ∷ []
    → Fills whole before
    (core_defaults out (cores_of (map seen_term (drop i xs))) keys n locals p)
    → Fills whole after
    (core_defaults out (cores_of (map seen_term (drop (i + 1) xs))) rest m now r)
default_next out xs i x l e whole before after keys rest key n m locals s now p q r t b ke te qe
    be re se ne me a f =
    let others = cores_of (map seen_term (drop (i + 1) xs)) in
    let b0 = be ∙ (λ j. (core_term out (seen_term x) locals (qe j)).0) in
    let b1 = re ∙ (λ j. (core_term out (seen_term x) locals (qe j)).1) in
    let w = ne ∙ (λ j. (Named key.0, Local n) ∷ se j) in
    let left = core_defaults out others rest m now r in
    let read = ap (λ ys. core_defaults out (cores_of (map seen_term ys)) keys n locals p)
    (drop_more xs i x l ∙ ap (λ y. y ∷ drop (i + 1) xs) (sym e))
    ∙ ap (λ ks. core_defaults out (core_and (seen_term x) others) ks n locals p) ke
    ∙ (λ j. let k = core_defaults out others rest (sym me j) (sym w j) (sym b1 j) in
    (((sym te j, sym b0 j) ∷ k.0.0, k.0.1), k.1)) in
    f ∙ (λ j. ((before ++ (read j).0.0, (read j).0.1), (read j).1))
    ∙ (λ j. ((sym (append_assoc before ((t, b) ∷ []) left.0.0) j, left.0.1), left.1))
    ∙ (λ j. ((sym a j ++ left.0.0, left.0.1), left.1))
