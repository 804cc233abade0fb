-- Items that bind locals, from their parts, one after the other.
use Rattle.std.proofs.Common.{◌≡◌, ℕ, ◌+◌, List, [], ◌∷◌, length, map, refl, sym, ap, ◌∙◌, arith}
use Rattle.std.specs.Prelude.{Option}
use Rattle.std.proofs.lemmas.List.{length-map}
use Rattle.std.specs.declared.vec.Vec.{Vec}
use Rattle.std.specs.declared.alloc.Global.{Global}
use Rattle.dy_tree.specs.declared.token.Token.{Token}
use Rattle.dy_term.specs.declared.draft.Local.{Local as Name}
use Rattle.dy_term.specs.declared.draft.DraftType.{DraftType}
use Rattle.dy_term.specs.declared.draft.DraftItem.{DraftItem}
use Rattle.dy_term.specs.declared.draft.DraftItem.TheVariants as items
use Rattle.dy_term.specs.declared.draft.DraftLambda.{DraftLambda}
use Rattle.dy_term.specs.declared.types.DyType.{DyType}
use Rattle.dy_term.specs.declared.term.Term.{Term}
use Rattle.dy_term.specs.declared.term.Item.{Item, Let, LetMethods}
use Rattle.dy_term.specs.declared.term.Lambda.{Lambda}
use Rattle.dy_term.specs.Types.{CoreType, seen_typed}
use Rattle.dy_term.specs.Drafts.{Core, CoreLambda, let_values, let_methods, methods_of}
use Rattle.dy_term.specs.Drafts.{seen_method, seen_item}
use Rattle.dy_term.proofs.Made.{seen_local}
use Rattle.dy_names.specs.Naming.{Locals}
use Rattle.dy_names.specs.Outside.{Outside}
use Rattle.dy_binding.specs.declared.progress.Progress.{Progress}
use Rattle.dy_binding.specs.Reads.{numbered}
use Rattle.dy_binding.specs.Bound.{bound, bound_some, count, number_of, methods_bound}
use Rattle.dy_binding.specs.Bound.{method_count}
use Rattle.dy_binding.specs.Types.{read_numbered}
use Rattle.dy_resolution.specs.Terms.{core_term, core_item, core_methods}

-- an item, what comes after it, and the locals in force behind it
abbrev pub IsItem : Item → Progress → Locals → (Item × Locals) × Progress → Type 0
IsItem item after locals read =
    record { item : item ≡ read.0.0; after : after ≡ read.1; scope : locals ≡ read.0.1 }

methods_counted : (ms : List (Token × CoreLambda)) → method_count (methods_of ms) ≡ length ms
methods_counted [] = refl
methods_counted (m ∷ ms) = let h = methods_counted ms in omega (arith, h)

module _ (out : Outside) (locals : Locals) (p : Progress) where
  pub let_made : (typed : List (Name × DraftType)) (rest : Option Name) (value : Core)
      (first last : ℕ) (q1 q2 q3 q4 : Progress) (s1 s2 s3 : Locals)
      (types : List (ℕ × DyType)) (v : Term)
      → first ≡ p.next → q1 ≡ numbered (length typed) p
      → last ≡ q1.next → q2 ≡ numbered (count rest) q1
      → types ≡ (read_numbered out (map seen_typed typed) first locals q2).0
      → q3 ≡ (read_numbered out (map seen_typed typed) first locals q2).1
      → v ≡ (core_term out value locals q3).0 → q4 ≡ (core_term out value locals q3).1
      → s1 ≡ locals → s2 ≡ bound first (map (λ t. t.0) (map seen_typed typed)) s1
      → s3 ≡ bound_some last rest s2
      → IsItem (Let types (number_of rest last) v) q4 s3
      (core_item out (let_values (map seen_typed typed) rest value) locals p)
  let_made typed rest value first last q1 q2 q3 q4 s1 s2 s3 types v fe qe le qe' te te' ve ve'
      se be ce =
      let n : length typed ≡ length (map seen_typed typed) =
      sym (length-map {B = Name × CoreType} typed (λ x. seen_typed x)) in
      let own : q2 ≡ numbered (count rest) (numbered (length (map seen_typed typed)) p) =
      qe' ∙ ap (λ (q : Progress). numbered (count rest) q)
      (qe ∙ ap (λ (k : ℕ). numbered k p) n) in
      let l : last ≡ p.next + length (map seen_typed typed) =
      le ∙ ap (λ (q : Progress). q.next) qe ∙ ap (λ (k : ℕ). p.next + k) n in
      let t0 = te ∙ (λ i. (read_numbered out (map seen_typed typed) (fe i) locals (own i)).0) in
      let t1 = te' ∙ (λ i. (read_numbered out (map seen_typed typed) (fe i) locals (own i)).1) in
      let v0 = ve ∙ (λ i. (core_term out value locals (t1 i)).0) in
      let v1 = ve' ∙ (λ i. (core_term out value locals (t1 i)).1) in
      let b = be ∙ (λ i. bound (fe i) (map (λ t. t.0) (map seen_typed typed)) (se i)) in
      let c = ce ∙ (λ i. bound_some (l i) rest (b i)) in
      record { item = λ i. Let (t0 i) (number_of rest (l i)) (v0 i); after = v1; scope = c }

  pub methods_made : (d : DraftItem) (ms : Vec (Token × DraftLambda) Global) (first : ℕ)
      (q1 q2 : Progress) (s1 s2 : Locals) (found : List (ℕ × Lambda))
      → d ≡ items.LetMethods ms → first ≡ p.next → q1 ≡ numbered (length ms.items) p
      → s1 ≡ methods_bound (methods_of (map seen_method ms.items)) first locals
      → found ≡ (core_methods out (methods_of (map seen_method ms.items)) first s1 q1).0
      → q2 ≡ (core_methods out (methods_of (map seen_method ms.items)) first s1 q1).1
      → s2 ≡ s1 → IsItem (LetMethods found) q2 s2 (core_item out (seen_item d) locals p)
  methods_made d ms first q1 q2 s1 s2 found de fe qe be me me' se =
      let methods = methods_of (map seen_method ms.items) in
      let n : length ms.items ≡ method_count methods =
      sym (methods_counted (map seen_method ms.items)
      ∙ length-map {B = Token × CoreLambda} ms.items (λ x. seen_method x)) in
      let own : q1 ≡ numbered (method_count methods) p =
      qe ∙ ap (λ (k : ℕ). numbered k p) n in
      let group = be ∙ (λ i. methods_bound methods (fe i) locals) in
      let m0 = me ∙ (λ i. (core_methods out methods (fe i) (group i) (own i)).0) in
      let m1 = me' ∙ (λ i. (core_methods out methods (fe i) (group i) (own i)).1) in
      let whole : core_item out (let_methods methods) locals p
      ≡ core_item out (seen_item d) locals p =
      ap (λ x. core_item out x locals p) (sym (ap seen_item de ∙ seen_local ms)) in
      record {
        item = ap (λ (x : List (ℕ × Lambda)). LetMethods x) m0 ∙ ap (λ r. r.0.0) whole;
        after = m1 ∙ ap (λ r. r.1) whole;
        scope = se ∙ group ∙ ap (λ r. r.0.1) whole;
      }
