-- Closures, and local methods.
use Rattle.std.proofs.Common.{◌≡◌, ℕ, zero, suc, ◌+◌, ◌≤◌, ◌<◌, true, false, List, [], ◌∷◌, ◌++◌, length, refl, sym, ap, ◌∙◌, subst, arith, length-append}
use Rattle.std.specs.Prelude.{slice_set}
use Rattle.std.proofs.lemmas.List.{length-map}
use Rattle.dy_term.specs.declared.rows.Program.{Program}
use Rattle.dy_values.specs.declared.value.Variant.{Variant}
use Rattle.dy_values.specs.declared.value.Variant.TheVariants.{Bool as Truth}
use Rattle.dy_values.specs.declared.object.ObjectRow.TheVariants as object
use Rattle.dy_values.specs.declared.store.Store.{Store}
use Rattle.dy_values.specs.Spending.{first}
use Rattle.dy_values.specs.Stores.{with_object}
use Rattle.dy_outcome.specs.declared.state.State.{State}
use Rattle.dy_outcome.specs.declared.place.Place.{Place}
use Rattle.dy_outcome.specs.declared.place.Place.TheVariants.{Own, Captured}
use Rattle.dy_outcome.specs.States.{Outcome, Does, Scope, gave, unit_from, made}
use Rattle.dy_outcome.specs.Places.{value_at, kept_at, with_local, bind, assign, captured_at}
use Rattle.dy_outcome.specs.Parts.{Closing, closing, assigning, declared, defined, local_methods}
use Rattle.dy_outcome.proofs.Alike.{bind_units, closing_alike, methods_alike}
use Rattle.dy_meaning.specs.Lambdas.{with_inner}
use Rattle.dy_meaning.specs.Layouts.{Layout}
use Rattle.dy_meaning.specs.Meaning as meaning
use Rattle.dy_code.specs.Fetching.{Instruction}
use Rattle.dy_code.specs.Fetching as instr
use Rattle.dy_steps.specs.Configurations.{Step, Goes}
use Rattle.dy_steps.specs.Effects as effects
use Rattle.dy_steps.specs.Steps.{act, closure_made, new_closure}
use Rattle.dy_lowered.specs.Flat.{Plain, Code, one}
use Rattle.dy_lowered.specs.Parts as parts
use Rattle.dy_lowered.specs.Parts.{Method}
use Rattle.dy_lowered.specs.Terms.{methods_from}
use Rattle.dy_lowering_law.specs.Force.{RowsFit}
use Rattle.dy_lowering_law.specs.Behaving.{IsNumbered, AreNumberedFrom}
use Rattle.dy_lowering_law.specs.Following.{Spot, scope_of, standing, after, after_any, Comes, Reaches, numbered, Holds, AreWords, IsRight, IsRightAfter, Follows, Prepares}
use Rattle.dy_lowering_law.specs.Kinds.{push_all}
use Rattle.dy_lowering_law.specs.Machines.{linked_program, machine_of}
use Rattle.dy_lowering_law.specs.Renumbering.{body_of, renumbered, renumbered_store}
use Rattle.dy_lowering_law.proofs.Leading.{comes_at, comes_on, comes_by, comes_behind, stepped, holds_front, holds_back}
use Rattle.dy_lowering_law.proofs.Arguments.{taken_all, then_assoc}
use Rattle.dy_lowering_law.proofs.Cases.{then_keeps_words, first_word, kept_word}
use Rattle.dy_lowering_law.proofs.Exiting.{pushed}
use Rattle.dy_lowering_law.proofs.Literals.{truth_follows}
use Rattle.dy_lowering_law.proofs.Same.{bind_same, next_same, added_same}
use Rattle.dy_lowering_law.proofs.Values.{known_added, assign_right, assigning_follows}
use Rattle.dy_lowering_law.specs.parts.Lets.{IsOwn}
use Rattle.dy_lowering_law.specs.parts.Closures.{AreMethods, Methods, StandThere, lambdas_among}
use Rattle.dy_lowering_law.proofs.parts.Looping.{with_left, unit_keeps, left_right}
use Rattle.dy_lowering_law.proofs.parts.Binding.{laid_same, goes_at, cell_bound, bind_right}
use Rattle.dy_lowering_law.proofs.parts.Reaching.{reach_on, reach_then}

-- what is kept does not depend on units
kept_left : (place : Place) (left : ℕ) (s : State) → kept_at place (with_left left s) ≡ kept_at place s
kept_left (Own k in_cell) left s = refl
kept_left (Captured k) left s = refl

captured_left : (places : List Place) (left : ℕ) (s : State) → captured_at places (with_left left s) ≡ captured_at places s
captured_left [] left s = refl
captured_left (place ∷ places) left s = λ i. kept_left place left s i ∷ captured_left places left s i

module _ (program : Program) (n before locals : ℕ) where
  -- what is kept becomes an operand
  capture_comes : (i : Instruction) (value : Variant) (others : Code) (x : Spot) (place : ℕ) (register : List Variant) (s : State) (k : ℕ) (to : ℕ → Step)
      → Holds (linked_program program) before x.running.body place (Plain i ∷ Plain instr.Push ∷ others)
      → act (machine_of program) (numbered before i) (standing (body_of program) x (place + 1) register s k) ≡ Goes (standing (body_of program) x (place + 1) (value ∷ []) s k)
      → Comes (machine_of program) (standing (body_of program) (pushed value x) (place + 1 + 1) (value ∷ []) s k) to
      → Comes (machine_of program) (standing (body_of program) x place register s k) to
  capture_comes i value others x place register s k to holds acts next =
      let m = machine_of program in
      let number = body_of program in
      comes_behind m (standing number x place register s k) (standing number x (place + 1) (value ∷ []) s k) to
      (stepped m number x place before register s k (Plain i) (Plain instr.Push ∷ others) holds ∙ acts)
      (comes_behind m (standing number x (place + 1) (value ∷ []) s k) (standing number (pushed value x) (place + 1 + 1) (value ∷ []) s k) to
      (stepped m number x (place + 1) before (value ∷ []) s k (Plain instr.Push) others holds.1) next)

  captures_come : (places : List Place) (x : Spot) (place : ℕ) (register : List Variant) (s : State) (k : ℕ) (to : ℕ → Step)
      → Holds (linked_program program) before x.running.body place (parts.captures places)
      → ((register1 : List Variant) → Comes (machine_of program) (standing (body_of program) (push_all (captured_at places s) x) (place + length (parts.captures places)) register1 s k) to)
      → Comes (machine_of program) (standing (body_of program) x place register s k) to
  captures_come [] x place register s k to holds next =
      let e : place + 0 ≡ place = omega arith in
      subst (λ (p : ℕ). Comes (machine_of program) (standing (body_of program) x p register s k) to) e (next register)
  captures_come (Own i in_cell ∷ places) x place register s k to holds next =
      let value = value_at s.frame.locals i in
      let end : place + length (parts.captures (Own i in_cell ∷ places)) ≡ place + 1 + 1 + length (parts.captures places) = omega arith in
      capture_comes (instr.Local i) value (parts.captures places) x place register s k to holds refl
      (captures_come places (pushed value x) (place + 1 + 1) (value ∷ []) s k to holds.1.1
      (λ register1. subst (λ (p : ℕ). Comes (machine_of program) (standing (body_of program) (push_all (captured_at places s) (pushed value x)) p register1 s k) to) end (next register1)))
  captures_come (Captured i ∷ places) x place register s k to holds next =
      let value = value_at s.frame.captured i in
      let end : place + length (parts.captures (Captured i ∷ places)) ≡ place + 1 + 1 + length (parts.captures places) = omega arith in
      capture_comes (instr.Free i) value (parts.captures places) x place register s k to holds refl
      (captures_come places (pushed value x) (place + 1 + 1) (value ∷ []) s k to holds.1.1
      (λ register1. subst (λ (p : ℕ). Comes (machine_of program) (standing (body_of program) (push_all (captured_at places s) (pushed value x)) p register1 s k) to) end (next register1)))

  captured_words : (places : List Place) (s : State) → IsRight program locals s → AreWords (captured_at places s)
  captured_words [] s right = tt
  captured_words (place ∷ places) s right = (kept_word program locals place s right, captured_words places s right)

  module _ (body : ℕ) (lambda : Closing) (is : IsNumbered program before lambda.number body) where
    closure_same : (store : Store) (left : ℕ) (s : State)
        → with_object (renumbered_store (body_of program) store) (object.Closure (before + body) (captured_at lambda.captured s))
        ≡ renumbered_store (body_of program) (with_object store (object.Closure lambda.number (captured_at lambda.captured (with_left left s))))
    closure_same store left s =
        (λ i. with_object (renumbered_store (body_of program) store) (object.Closure (sym is.same i) (sym (captured_left lambda.captured left s) i)))
        ∙ added_same (body_of program) store (object.Closure lambda.number (captured_at lambda.captured (with_left left s)))

    closure_after : (units : ℕ) (x : Spot) (place : ℕ) (register : List Variant) (s : State) (k : ℕ)
        → effects.unit_from units (standing (body_of program) x place register s k) (closure_made (before + body) (captured_at lambda.captured s))
        ≡ after (body_of program) x place (unit_from units s (λ t. made (object.Closure lambda.number (captured_at lambda.captured t)) t)) k
    closure_after zero x place register s k = refl
    closure_after (suc left) x place register s k =
        λ i. Goes (record (standing (body_of program) x place (next_same (body_of program) s.store i ∷ []) (with_left left s) k) {
          state = record (renumbered (body_of program) (with_left left s)) { store = closure_same s.store left s i };
        })

    pub closing_follows : Follows program n before locals (parts.closing body lambda.captured) (closing lambda)
    closing_follows = record {
      falls = λ scope s. (closing_alike 0 lambda scope s).falls;
      keeps = λ scope s right. unit_keeps program n before locals s.fuel.left s (λ t. made (object.Closure lambda.number (captured_at lambda.captured t)) t)
          (λ left. (
            record {
              objects = known_added program s.store.objects (object.Closure lambda.number (captured_at lambda.captured (with_left left s))) right.objects (is.known, captured_words lambda.captured (with_left left s) (left_right program n before locals left s right));
              frame = right.frame;
              words = record { locals = right.words.locals; captured = right.words.captured; globals = right.words.globals };
            },
            (tt, tt),
          ));
      runs = λ x place register s k holds fit right few.
          let m = machine_of program in
          let number = body_of program in
          let linked = linked_program program in
          let values = captured_at lambda.captured s in
          let codes = parts.captures lambda.captured in
          let make = instr.Closure body (length lambda.captured) in
          let p1 = place + length codes in
          let end : p1 + 1 ≡ place + length (parts.closing body lambda.captured) = omega (arith, length-append codes (one make)) in
          let h = subst (λ (y : Spot). Holds linked before y.running.body p1 (one make)) (laid_same values x) (holds_back linked before x.running.body place codes (one make) holds) in
          subst (λ (p : ℕ). Comes m (standing number x place register s k) (after number x p (closing lambda (scope_of x) s))) end
          (captures_come lambda.captured x place register s k (after number x (p1 + 1) (closing lambda (scope_of x) s)) (holds_front linked before x.running.body place codes (one make) holds)
          (λ register1. comes_by m _ _ k (stepped m number (push_all values x) p1 before register1 s k (Plain make) [] h
          ∙ taken_all number values (length lambda.captured) x (p1 + 1) register1 s k (new_closure (before + body)) (length-map lambda.captured (λ place. kept_at place s))
          ∙ closure_after s.fuel.left x (p1 + 1) register1 s k)));
    }

  -- Local methods are `#f` first.
  declare_comes : (at : Place) (others : Code) → IsOwn locals at → (x : Spot) (place : ℕ) (s : State) (k : ℕ) → Holds (linked_program program) before x.running.body place ((parts.put at ++ parts.cell at) ++ others) → IsRight program locals s
      → Comes (machine_of program) (standing (body_of program) x place (Truth false ∷ []) s k) (λ j. Goes (standing (body_of program) x (place + length (parts.put at ++ parts.cell at)) (Truth false ∷ []) (bind at (Truth false) s) j))
  declare_comes (Captured i) others own x place s k holds right = absurd own
  declare_comes (Own i false) others own x place s k holds right =
      comes_by (machine_of program) _ _ k (stepped (machine_of program) (body_of program) x place before (Truth false ∷ []) s k (Plain (instr.SetLocal i)) others holds)
  declare_comes (Own i true) others own x place s k holds right =
      let m = machine_of program in
      let number = body_of program in
      let value = Truth false in
      let t = with_local i value s in
      let here : i < length s.frame.locals = subst (λ (l : ℕ). i < l) (sym right.frame) own in
      let end : place + 1 + 1 ≡ place + 2 = omega arith in
      comes_behind m (standing number x place (value ∷ []) s k) (standing number x (place + 1) (value ∷ []) t k) _
      (stepped m number x place before (value ∷ []) s k (Plain (instr.SetLocal i)) (Plain (instr.NewCell i) ∷ others) holds)
      (comes_by m _ _ k (stepped m number x (place + 1) before (value ∷ []) t k (Plain (instr.NewCell i)) others holds.1
      ∙ ap (λ (u : State). Goes (record (standing number x (place + 1 + 1) (value ∷ []) t k) { state = u })) (bind_same number (Own i true) (value_at (slice_set s.frame.locals i value) i) t ∙ ap (λ (u : State). renumbered number u) (cell_bound i value s here))
      ∙ ap (λ (p : ℕ). Goes (standing number x p (value ∷ []) (bind (Own i true) value s) k)) end))

  declared_come : (methods : List Method) (closings : List (Place × Closing)) → AreMethods program before locals methods closings → (x : Spot) (place : ℕ) (s : State) (k : ℕ)
      → Holds (linked_program program) before x.running.body place (parts.declared methods) → IsRight program locals s
      → Comes (machine_of program) (standing (body_of program) x place (Truth false ∷ []) s k) (λ j. Goes (standing (body_of program) x (place + length (parts.declared methods)) (Truth false ∷ []) (declared closings s) j))
  declared_come [] [] are x place s k holds right =
      goes_at program n before locals (standing (body_of program) x place (Truth false ∷ []) s k) x place (place + 0) (Truth false ∷ []) s (omega arith) (comes_at (machine_of program) _ _ k refl)
  declared_come [] (made ∷ others) are x place s k holds right = absurd are
  declared_come (method ∷ methods) [] are x place s k holds right = absurd are
  declared_come (method ∷ methods) (made ∷ others) are x place s k holds right =
      let m = machine_of program in
      let number = body_of program in
      let false_alone = Truth false ∷ [] in
      let code = parts.put method.place ++ parts.cell method.place in
      let p1 = place + length code in
      let t = bind made.0 (Truth false) s in
      let end : p1 + length (parts.declared methods) ≡ place + length (code ++ parts.declared methods) = omega (arith, length-append code (parts.declared methods)) in
      goes_at program n before locals (standing number x place false_alone s k) x (p1 + length (parts.declared methods)) (place + length (code ++ parts.declared methods)) false_alone (declared others t) end
      (comes_on m (standing number x place false_alone s k) (λ j. standing number x p1 false_alone t j) _
      (subst (λ (at : Place). Comes m (standing number x place false_alone s k) (λ j. Goes (standing number x p1 false_alone (bind at (Truth false) s) j))) are.0
      (declare_comes method.place (parts.declared methods) (subst (λ (at : Place). IsOwn locals at) (sym are.0) are.2) x place s k holds right))
      (λ j. declared_come methods others are.4 x p1 t j (holds_back (linked_program program) before x.running.body place code (parts.declared methods) holds) (bind_right program n before locals made.0 (Truth false) tt s right)))

  declared_right : (closings : List (Place × Closing)) (s : State) → IsRight program locals s → IsRight program locals (declared closings s)
  declared_right [] s right = right
  declared_right (made ∷ others) s right = declared_right others (bind made.0 (Truth false) s) (bind_right program n before locals made.0 (Truth false) tt s right)

  declared_left : (closings : List (Place × Closing)) (s : State) → (declared closings s).fuel.left ≡ s.fuel.left
  declared_left [] s = refl
  declared_left (made ∷ others) s = declared_left others (bind made.0 (Truth false) s) ∙ bind_units made.0 (Truth false) s

  -- a closure is made, and becomes the method
  method_follows : (method : Method) (made : Place × Closing) → method.place ≡ made.0 → method.captured ≡ made.1.captured → IsNumbered program before made.1.number method.body
      → Follows program n before locals (parts.assigning method.place (parts.closing method.body method.captured)) (assigning made.0 (closing made.1))
  method_follows method made stands captures is =
      subst (λ (does : Does). Follows program n before locals (parts.assigning method.place (parts.closing method.body method.captured)) does)
      (λ i. assigning (stands i) (closing (record { number = made.1.number; captured = captures i })))
      (assigning_follows program n before locals method.place (parts.closing method.body method.captured) (closing (record { number = made.1.number; captured = method.captured }))
      (closing_follows method.body (record { number = made.1.number; captured = method.captured }) is))

  defined_come : (methods : List Method) (closings : List (Place × Closing)) → AreMethods program before locals methods closings → (x : Spot) (place : ℕ) (register : List Variant) (s : State) (k : ℕ)
      → Holds (linked_program program) before x.running.body place (parts.defined methods) → RowsFit x.running → IsRight program locals s → s.fuel.left ≤ n
      → Reaches (machine_of program) (standing (body_of program) x place register s k) (after_any (body_of program) x (place + length (parts.defined methods)) (defined closings (scope_of x) s))
  defined_come [] [] are x place register s k holds fit right few = record {
    register = register;
    comes = goes_at program n before locals (standing (body_of program) x place register s k) x place (place + 0) register s (omega arith) (comes_at (machine_of program) _ _ k refl);
  }
  defined_come [] (made ∷ others) are x place register s k holds fit right few = absurd are
  defined_come (method ∷ methods) [] are x place register s k holds fit right few = absurd are
  defined_come (method ∷ methods) (made ∷ others) are x place register s k holds fit right few =
      let m = machine_of program in
      let number = body_of program in
      let linked = linked_program program in
      let scope = scope_of x in
      let code = parts.assigning method.place (parts.closing method.body method.captured) in
      let rest = parts.defined methods in
      let p1 = place + length code in
      let does = assigning made.0 (closing made.1) in
      let follows = method_follows method made are.0 are.1 are.3 in
      let less = follows.falls scope s in
      let end : p1 + length rest ≡ place + length (code ++ rest) = omega (arith, length-append code rest) in
      subst (λ (q : ℕ). Reaches m (standing number x place register s k) (after_any number x q (defined (made ∷ others) scope s))) end
      (subst (λ (o : Outcome). Reaches m (standing number x place register s k) (after_any number x (p1 + length rest) o))
      (then_assoc (closing made.1 scope s) (λ vs t. gave (first vs) (assign made.0 (first vs) t)) (λ vs t. defined others scope t))
      (reach_then program n locals (standing number x place register s k) x p1 (p1 + length rest) (does scope s) (λ vs t. defined others scope t)
      (follows.runs x place register s k (holds_front linked before x.running.body place code rest holds) fit right few) (omega (arith, less, few)) (follows.keeps scope s right)
      (λ values t j few1 right1. defined_come methods others are.4 x p1 values t j (holds_back linked before x.running.body place code rest holds) fit right1 few1)))

  defined_right : (methods : List Method) (closings : List (Place × Closing)) → AreMethods program before locals methods closings → (scope : Scope) (s : State) → IsRight program locals s → IsRightAfter program locals (defined closings scope s)
  defined_right [] [] are scope s right = (right, tt)
  defined_right [] (made ∷ others) are scope s right = absurd are
  defined_right (method ∷ methods) [] are scope s right = absurd are
  defined_right (method ∷ methods) (made ∷ others) are scope s right =
      then_keeps_words program locals (closing made.1 scope s) _ ((closing_follows method.body made.1 are.3).keeps scope s right)
      (λ vs t right1 words. defined_right methods others are.4 scope (assign made.0 (first vs) t) (assign_right program locals made.0 (first vs) (first_word vs words) t right1))

  pub methods_follow : (methods : List Method) (closings : List (Place × Closing)) → AreMethods program before locals methods closings
      → Prepares program n before locals (parts.local_methods methods) (local_methods closings)
  methods_follow methods closings are = record {
    falls = λ scope s. (methods_alike 0 closings scope s).falls;
    keeps = λ scope s right. defined_right methods closings are scope (declared closings s) (declared_right closings s right);
    runs = λ x place register s k holds fit right few.
        let m = machine_of program in
        let number = body_of program in
        let linked = linked_program program in
        let body = x.running.body in
        let t = declared closings s in
        let alone = Truth false ∷ [] in
        let makes = parts.declared methods in
        let fills = parts.defined methods in
        let p1 = place + 1 in
        let p2 = p1 + length makes in
        let end : p2 + length fills ≡ place + length (parts.local_methods methods) = omega (arith, length-append makes fills) in
        let few1 : t.fuel.left ≤ n = omega (arith, declared_left closings s, few) in
        subst (λ (q : ℕ). Reaches m (standing number x place register s k) (after_any number x q (defined closings (scope_of x) t))) end
        (reach_on program (standing number x place register s k) (λ j. standing number x p1 alone s j) _
        ((truth_follows program n before locals false).runs x place register s k (holds_front linked before body place (parts.truth false) (makes ++ fills) holds) fit right few)
        (λ j. reach_on program (standing number x p1 alone s j) (λ i. standing number x p2 alone t i) _
        (declared_come methods closings are x p1 s j (holds_front linked before body p1 makes fills holds.1) right)
        (λ i. defined_come methods closings are x p2 alone t i (holds_back linked before body p1 makes fills holds.1) fit (declared_right closings s right) few1)));
  }

  -- local methods, by the numbers of their lambdas
  numbered_methods : (layout : Layout) (methods : Methods) (lambda body : ℕ) → StandThere locals layout methods → AreNumberedFrom program before lambda body (length (lambdas_among methods))
      → AreMethods program before locals (methods_from layout methods body) (meaning.methods_from layout methods lambda)
  numbered_methods layout [] lambda body stand are = tt
  numbered_methods layout (method ∷ methods) lambda body stand are =
      let inner = with_inner method.1.0 in
      let count = length inner in
      let all = length-append inner (lambdas_among methods) in
      let first : IsNumbered program before lambda body =
      subst (λ (i : ℕ). IsNumbered program before i body) (add_none lambda) (subst (λ (i : ℕ). IsNumbered program before (lambda + 0) i) (add_none body) (are 0 (omega arith))) in (
        refl,
        refl,
        stand.0,
        first,
        numbered_methods layout methods (lambda + count) (body + count) stand.1
            (λ more under. subst (λ (i : ℕ). IsNumbered program before i (body + count + more)) (further lambda count more)
            (subst (λ (i : ℕ). IsNumbered program before (lambda + (count + more)) i) (further body count more) (are (count + more) (omega (arith, under, all))))),
      )
    where
      add_none : (i : ℕ) → i + 0 ≡ i
      add_none i = omega arith

      further : (i j k : ℕ) → i + (j + k) ≡ i + j + k
      further i j k = omega arith

  pub items_follow : (lambda body : ℕ) (layout : Layout) (methods : Methods) → StandThere locals layout methods → AreNumberedFrom program before lambda body (length (lambdas_among methods))
      → Prepares program n before locals (parts.local_methods (methods_from layout methods body)) (local_methods (meaning.methods_from layout methods lambda))
  items_follow lambda body layout methods stand are =
      methods_follow (methods_from layout methods body) (meaning.methods_from layout methods lambda) (numbered_methods layout methods lambda body stand are)
