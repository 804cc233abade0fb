-- The arms of a draft that hold lists or rows, as what they are with these.
use Rattle.std.proofs.Common.{◌≡◌, List, map, sym, ap, ◌∙◌}
use Rattle.std.specs.Prelude.{Option, Some, None}
use Rattle.std.specs.Option.{option_map}
use Rattle.std.specs.declared.vec.Vec.{Vec}
use Rattle.std.specs.declared.boxed.Box.{Box}
use Rattle.std.specs.declared.alloc.Global.{Global}
use Rattle.dy_term.specs.declared.draft.DraftTerm.{DraftTerm}
use Rattle.dy_term.specs.declared.draft.DraftTerm.TheVariants as terms
use Rattle.dy_term.specs.declared.draft.DraftArm.{DraftArm}
use Rattle.dy_term.specs.declared.draft.DraftItem.{DraftItem}
use Rattle.dy_term.specs.declared.draft.DraftLambda.{DraftLambda}
use Rattle.dy_term.specs.declared.draft.DraftFor.{DraftFor}
use Rattle.dy_term.specs.declared.draft.DraftBlock.{DraftBlock}
use Rattle.dy_term.specs.declared.term.Term.{Term, Select as a_select}
use Rattle.dy_names.specs.Naming.{Locals}
use Rattle.dy_names.specs.Outside.{Outside}
use Rattle.dy_binding.specs.declared.progress.Progress.{Progress}
use Rattle.dy_resolution.specs.Terms.{core_term, core_maybe, core_arms}
use Rattle.dy_term.specs.Drafts.{nothing, just, call, cond, for, select, values, body, method}
use Rattle.dy_term.specs.Drafts.{cores_of, maybe_of, choice_of, arms_of, items_of, clauses_of}
use Rattle.dy_term.specs.Drafts.{seen_term, seen_pair, seen_arm, seen_item, seen_clause}
use Rattle.dy_term.specs.Drafts.{seen_ending, seen_option, seen_block, seen_lambda}
use Rattle.dy_term.proofs.Parts.{seen_call, seen_cond, seen_body}
use Rattle.dy_term.proofs.Made.{boxed_option, seen_values, seen_closure, seen_select, seen_for}
use Rattle.dy_term.proofs.Made.{seen_boxed_block}

pub call_is : (d : DraftTerm) (f : Box DraftTerm Global) (ts : Vec DraftTerm Global)
    → d ≡ terms.Call f ts
    → call (seen_term f.value) (cores_of (map seen_term ts.items)) ≡ seen_term d
call_is d f ts de = sym (ap seen_term de ∙ seen_call f ts)

pub cond_is : (d : DraftTerm) (bs : Vec (DraftTerm × DraftTerm) Global) (l : Box DraftTerm Global)
    → d ≡ terms.Cond bs l
    → cond (choice_of (map seen_pair bs.items) (seen_term l.value)) ≡ seen_term d
cond_is d bs l de = sym (ap seen_term de ∙ seen_cond bs l)

pub for_is : (d : DraftTerm) (r : Box DraftFor Global) (v : DraftFor) → d ≡ terms.For r
    → v ≡ r.value → for (clauses_of (map seen_clause v.clauses.items)) (seen_ending v.test)
    (seen_term v.body) (seen_option v.finally) ≡ seen_term d
for_is d r v de ve = ap (λ (x : DraftFor). for (clauses_of (map seen_clause x.clauses.items))
    (seen_ending x.test) (seen_term x.body) (seen_option x.finally)) ve ∙ sym
    (ap seen_term de ∙ seen_for r)

pub block_is : (d : DraftTerm) (r : Box DraftBlock Global) (v : DraftBlock) → d ≡ terms.Block r
    → v ≡ r.value → seen_block v ≡ seen_term d
block_is d r v de ve = ap seen_block ve ∙ sym (ap seen_term de ∙ seen_boxed_block r)

pub values_is : (d : DraftTerm) (ts : Vec DraftTerm Global) → d ≡ terms.Values ts
    → values (cores_of (map seen_term ts.items)) ≡ seen_term d
values_is d ts de = sym (ap seen_term de ∙ seen_values ts)

pub body_is : (d : DraftTerm) (is : Vec DraftItem Global) → d ≡ terms.Body is
    → body (items_of (map seen_item is.items)) ≡ seen_term d
body_is d is de = sym (ap seen_term de ∙ seen_body is)

pub method_is : (d : DraftTerm) (l : Box DraftLambda Global) (v : DraftLambda) → d ≡ terms.Method l
    → v ≡ l.value → method (seen_lambda v) ≡ seen_term d
method_is d l v de ve = ap (λ x. method (seen_lambda x)) ve ∙ sym (ap seen_term de ∙ seen_closure l)

-- a term in a box that may be left out
boxed_is : (o : Option (Box DraftTerm Global))
    → maybe_of (option_map (λ kept. seen_term kept.value) o) ≡ boxed_option o
boxed_is None = λ i. nothing
boxed_is (Some kept) = λ i. just (seen_term kept.value)

pub select_is : (d : DraftTerm) (b : Box DraftTerm Global) (v : DraftTerm)
    (test last : Option (Box DraftTerm Global)) (arms : Vec DraftArm Global)
    → d ≡ terms.Select b test arms last → v ≡ b.value
    → select (seen_term v) (maybe_of (option_map (λ kept. seen_term kept.value) test))
    (arms_of (map seen_arm arms.items))
    (maybe_of (option_map (λ kept. seen_term kept.value) last)) ≡ seen_term d
select_is d b v test last arms de ve =
    (λ i. select (seen_term (ve i)) (boxed_is test i) (arms_of (map seen_arm arms.items))
    (boxed_is last i)) ∙ sym (ap seen_term de ∙ seen_select b test arms last)

-- a `select` from its parts, one after the other
module _ (out : Outside) (d : DraftTerm) (locals s1 s2 s3 : Locals) (p q1 q2 q3 q4 : Progress) where
  pub select_made : (b : Box DraftTerm Global) (v : DraftTerm)
      (test last : Option (Box DraftTerm Global)) (arms : Vec DraftArm Global) (value : Term)
      (t l : Option Term) (found : List (List Term × Term))
      → d ≡ terms.Select b test arms last → v ≡ b.value
      → value ≡ (core_term out (seen_term v) locals p).0
      → q1 ≡ (core_term out (seen_term v) locals p).1 → s1 ≡ locals
      → t ≡ (core_maybe out (maybe_of (option_map (λ kept. seen_term kept.value) test)) s1 q1).0
      → q2 ≡ (core_maybe out (maybe_of (option_map (λ kept. seen_term kept.value) test)) s1 q1).1
      → s2 ≡ s1 → found ≡ (core_arms out (arms_of (map seen_arm arms.items)) s2 q2).0
      → q3 ≡ (core_arms out (arms_of (map seen_arm arms.items)) s2 q2).1 → s3 ≡ s2
      → l ≡ (core_maybe out (maybe_of (option_map (λ kept. seen_term kept.value) last)) s3 q3).0
      → q4 ≡ (core_maybe out (maybe_of (option_map (λ kept. seen_term kept.value) last)) s3 q3).1
      → (a_select value t found l ≡ (core_term out (seen_term d) locals p).0)
      × (q4 ≡ (core_term out (seen_term d) locals p).1)
  select_made b v test last arms value t l found de ve be be' se te te' ue ae ae' we le le' =
      let read_test = core_maybe out (maybe_of (option_map (λ kept. seen_term kept.value) test)) in
      let read_arms = core_arms out (arms_of (map seen_arm arms.items)) in
      let read_last = core_maybe out (maybe_of (option_map (λ kept. seen_term kept.value) last)) in
      let t0 = te ∙ (λ j. (read_test (se j) (be' j)).0) in
      let t1 = te' ∙ (λ j. (read_test (se j) (be' j)).1) in
      let u = ue ∙ se in
      let a0 = ae ∙ (λ j. (read_arms (u j) (t1 j)).0) in
      let a1 = ae' ∙ (λ j. (read_arms (u j) (t1 j)).1) in
      let w = we ∙ u in
      let l0 = le ∙ (λ j. (read_last (w j) (a1 j)).0) in
      let l1 = le' ∙ (λ j. (read_last (w j) (a1 j)).1) in
      let whole = ap (λ x. core_term out x locals p) (select_is d b v test last arms de ve) in
      ((λ i. a_select (be i) (t0 i) (a0 i) (l0 i)) ∙ ap (λ r. r.0) whole, l1 ∙ ap (λ r. r.1) whole)
