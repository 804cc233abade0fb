-- What is to be done before a program has run are its forms, one by one.
use Rattle.std.proofs.Common.{◌≡◌, ℕ, zero, suc, ◌+◌, ◌-◌, ◌<◌, true, List, [], ◌∷◌, ◌++◌, length, map, take, Some, slice_get, refl, sym, ap, ◌∙◌, subst, arith, length-append}
use Rattle.std.specs.Prelude.{flat_map}
use Rattle.std.proofs.lemmas.Option.{none-some, same_Some}
use Rattle.dy_term.specs.declared.term.Term.{Term}
use Rattle.dy_term.specs.declared.rows.TopTerm.{TopTerm}
use Rattle.dy_term.specs.declared.rows.TopTerm.TheVariants as tops
use Rattle.dy_term.specs.declared.rows.LibraryRow.{LibraryRow}
use Rattle.dy_term.specs.declared.rows.Program.{Program}
use Rattle.dy_code.specs.Fetching.{Return}
use Rattle.dy_code.specs.Programs.{Located, located, bodies_in, dylan_methods, dylan_functions, Task, Runs, Defines, task_of, tasks_from, tasks}
use Rattle.dy_meaning.specs.Lambdas.{of_classes, of_methods, of_variables, of_top, of_library}
use Rattle.dy_meaning.specs.Layouts.{layout_of_term}
use Rattle.dy_meaning.specs.Numbering.{numbered_by, numbered_tops}
use Rattle.dy_meaning.specs.Numbers.{numbers_in}
use Rattle.dy_meaning.specs.Programs.{tops_of, meaning_within}
use Rattle.dy_lowered.specs.Bodies.{FlatBody, body_alone, top_body, bodies_of, start_count, init_count, all_slots, top_code, tops_from}
use Rattle.dy_lowered.specs.Flat.{one, placed_from}
use Rattle.dy_lowered.specs.Tables.{tables_of}
use Rattle.dy_lowered.specs.Terms.{code_of}
use Rattle.dy_lowered.specs.Units.{lowered, body_of as unit_body}
use Rattle.dy_lowering_law.specs.Following.{Holds, Follows}
use Rattle.dy_lowering_law.specs.Machines.{linked_program}
use Rattle.dy_lowering_law.specs.Renumbering.{library_numbers}
use Rattle.dy_lowering_law.specs.calls.Belonging.{bodies_before}
use Rattle.dy_lowering_law.proofs.calls.Binding.{length_from}
use Rattle.dy_lowering_law.proofs.calls.Numbers.{right_of, from_get, function_lambda, of_class_numbers, of_method_numbers, of_variable_numbers, of_form_numbers, classes_at, variables_at as variables_behind, forms_at as forms_behind, methods_long, numbers_long, before as before_of, before_same, has_number}
use Rattle.dy_lowering_whole.specs.valid.Scoped.{is_top_scoped, IsScoped}
use Rattle.dy_lowering_whole.proofs.valid.Fetched.{body_located}
use Rattle.dy_lowering_whole.proofs.valid.Positions.{give_top, get_before, get_behind, forms_at, methods_part, variables_part, slots_part, forms_part, closures_part, behind_slots, behind_variables, behind_methods, parts_are, methods_length, variables_length, slots_length}
use Rattle.dy_lowering_whole.proofs.valid.Readying.{all_at}
use Rattle.dy_lowering_whole.specs.Lowered.{is_top_lowered, IsLowered}
use Rattle.dy_lowering_whole.proofs.Laid.{body_holds, library_is, calls_stand}
use Rattle.dy_lowering_whole.proofs.Numbered.{Numbers}
use Rattle.dy_lowering_whole.proofs.Terms.{all_follow}

-- a term that runs by itself, with its body; the first lambda inside of it has this number
pub record Form (program : Program) (body : ℕ) (term : Term) (number : ℕ) : Type 0 where
  pub before : ℕ
  pub closure : ℕ
  pub at : Located
  pub here : located (linked_program program) body ≡ Some at
  pub locals : at.body.locals ≡ numbers_in term
  pub code : Holds (linked_program program) before body 0 (code_of (layout_of_term term) term closure ++ one Return)
  pub follows : (n : ℕ) → Follows program n before (numbers_in term - 0) (code_of (layout_of_term term) term closure) (meaning_within program n (layout_of_term term) term number)

pub record FormOf (program : Program) (make : ℕ → Task) (term : Term) (number : ℕ) (task : Task) : Type 0 where
  pub body : ℕ
  pub same : task ≡ make body
  pub form : Form program body term number

abbrev pub IsTask : Program → TopTerm → ℕ → Task → Type 0
IsTask program (tops.Run term) number task = FormOf program Runs term number task
IsTask program (tops.Init bindings term) number task = FormOf program (Defines bindings) term number task

abbrev pub AreTasks : Program → List (TopTerm × ℕ) → List Task → Type 0
AreTasks program [] [] = Unit {0}
AreTasks program (top ∷ tops) (task ∷ tasks) = IsTask program top.0 top.1 task × AreTasks program tops tasks
AreTasks _ _ _ = ⊥

abbrev tops_before : ℕ → List TopTerm → ℕ
tops_before i all = length (flat_map of_top (take i all))

-- a form among the bodies of its library
top_at : (all : List TopTerm) (number i : ℕ) (top : TopTerm) → slice_get all i ≡ Some top → slice_get (map give_top (numbered_by of_top all number)) i ≡ Some (top_body top (number + tops_before i all))
top_at [] number i top e = absurd (none-some top e)
top_at (t ∷ all) number zero top e =
    let none : number ≡ number + 0 = omega arith in
    ap (λ (x : TopTerm). Some (top_body x number)) (same_Some t top e) ∙ ap (λ (k : ℕ). Some (top_body top k)) none
top_at (t ∷ all) number (suc i) top e =
    let far : number + length (of_top t) + tops_before i all ≡ number + tops_before (suc i) (t ∷ all) = omega (arith, length-append (of_top t) (flat_map of_top (take i all))) in
    top_at all (number + length (of_top t)) i top e ∙ ap (λ (k : ℕ). Some (top_body top k)) far

form_stands : (library : LibraryRow) (i : ℕ) (top : TopTerm) → slice_get library.tops i ≡ Some top → slice_get (bodies_of library) (start_count library + i) ≡ Some (top_body top (forms_at library + tops_before i library.tops))
form_stands library i top e =
    let a = dylan_methods library.methods in
    let b = dylan_functions library.variables in
    let c = init_count (all_slots library) in
    let made = top_body top (forms_at library + tops_before i library.tops) in
    let place : a + b + c + i ≡ a + (b + (c + i)) = omega arith in
    (λ j. slice_get (parts_are library j) (place j)) ∙ get_behind (methods_part library) (behind_methods library) a (b + (c + i)) (methods_length library)
    ∙ get_behind (variables_part library) (behind_variables library) b (c + i) (variables_length library)
    ∙ get_behind (slots_part library) (behind_slots library) c i (slots_length library)
    ∙ get_before (forms_part library) (closures_part library) i made (top_at library.tops (forms_at library) i top e)

-- those before a form, and those inside of it, are among all
tops_within : (all : List TopTerm) (i : ℕ) (top : TopTerm) → slice_get all i ≡ Some top → (more : ℕ) → more < length (of_top top) → tops_before i all + more < length (flat_map of_top all)
tops_within [] i top e more less = absurd (none-some top e)
tops_within (t ∷ all) zero top e more less =
    let same = ap (λ (x : TopTerm). length (of_top x)) (same_Some t top e) in
    omega (arith, less, same, length-append (of_top t) (flat_map of_top all))
tops_within (t ∷ all) (suc i) top e more less =
    let rest = tops_within all i top e more less in
    omega (arith, rest, length-append (of_top t) (flat_map of_top all), length-append (of_top t) (flat_map of_top (take i all)))

-- how many lambdas stand before the forms of a library, and in the libraries before it
abbrev tops_at : LibraryRow → ℕ → ℕ
tops_at library number = number + length (of_classes library) + length (of_methods library) + length (of_variables library)

abbrev libraries_before : ℕ → List LibraryRow → ℕ
libraries_before place all = length (flat_map of_library (take place all))

libraries_within : (all : List LibraryRow) (place : ℕ) (library : LibraryRow) → slice_get all place ≡ Some library → (more : ℕ) → more < length (of_library library) → libraries_before place all + more < length (flat_map of_library all)
libraries_within [] place library e more less = absurd (none-some library e)
libraries_within (l ∷ all) zero library e more less =
    let same = ap (λ (x : LibraryRow). length (of_library x)) (same_Some l library e) in
    omega (arith, less, same, length-append (of_library l) (flat_map of_library all))
libraries_within (l ∷ all) (suc place) library e more less =
    let rest = libraries_within all place library e more less in
    omega (arith, rest, length-append (of_library l) (flat_map of_library all), length-append (of_library l) (flat_map of_library (take place all)))

module _ (program : Program) where
  tasks_append : (xs us : List (TopTerm × ℕ)) (ys vs : List Task) → AreTasks program xs ys → AreTasks program us vs → AreTasks program (xs ++ us) (ys ++ vs)
  tasks_append [] us [] vs h k = k
  tasks_append (x ∷ xs) us (y ∷ ys) vs h k = (h.0, tasks_append xs us ys vs h.1 k)
  tasks_append [] us (y ∷ ys) vs h k = absurd h
  tasks_append (x ∷ xs) us [] vs h k = absurd h

  tops_tasks : (all : List TopTerm) (number b n : ℕ) → ((i : ℕ) (top : TopTerm) → slice_get all i ≡ Some top → IsTask program top (number + tops_before i all) (task_of b (top_code top (n + i))))
      → AreTasks program (numbered_by of_top all number) (map (task_of b) (tops_from all n))
  tops_tasks [] number b n each = tt
  tops_tasks (top ∷ all) number b n each =
      let none : n + 0 ≡ n = omega arith in
      let zero_on : number + 0 ≡ number = omega arith in (
        subst (λ (k : ℕ). IsTask program top k (task_of b (top_code top n))) zero_on (subst (λ (k : ℕ). IsTask program top (number + 0) (task_of b (top_code top k))) none (each 0 top refl)),
        tops_tasks all (number + length (of_top top)) b (n + 1) (λ i t e.
            let next : n + suc i ≡ n + 1 + i = omega arith in
            let far : number + tops_before (suc i) (top ∷ all) ≡ number + length (of_top top) + tops_before i all = omega (arith, length-append (of_top top) (flat_map of_top (take i all))) in
            subst (λ (k : ℕ). IsTask program t k (task_of b (top_code t (n + 1 + i)))) far
            (subst (λ (k : ℕ). IsTask program t (number + tops_before (suc i) (top ∷ all)) (task_of b (top_code t k))) next (each (suc i) t e))),
      )

  abbrev bodies_to : ℕ → List LibraryRow → ℕ
  bodies_to place all = bodies_in (take place (map (lowered program) all))

  libraries_tasks : (all : List LibraryRow) (number b : ℕ)
      → ((place : ℕ) (library : LibraryRow) → slice_get all place ≡ Some library → (i : ℕ) (top : TopTerm) → slice_get library.tops i ≡ Some top
      → IsTask program top (tops_at library (number + libraries_before place all) + tops_before i library.tops) (task_of (b + bodies_to place all) (top_code top (start_count library + i))))
      → AreTasks program (flat_map numbered_tops (numbered_by of_library all number)) (tasks_from b (map (lowered program) all))
  libraries_tasks [] number b each = tt
  libraries_tasks (library ∷ all) number b each =
      let unit = lowered program library in
      let none : b + 0 ≡ b = omega arith in
      let zero_on : number + 0 ≡ number = omega arith in
      tasks_append (numbered_tops (library, number)) (flat_map numbered_tops (numbered_by of_library all (number + length (of_library library)))) (map (task_of b) unit.tops) (tasks_from (b + length unit.bodies) (map (lowered program) all))
      (tops_tasks library.tops (tops_at library number) b (start_count library) (λ i top e.
      subst (λ (k : ℕ). IsTask program top (tops_at library k + tops_before i library.tops) (task_of b (top_code top (start_count library + i)))) zero_on
      (subst (λ (k : ℕ). IsTask program top (tops_at library (number + 0) + tops_before i library.tops) (task_of k (top_code top (start_count library + i)))) none (each 0 library refl i top e))))
      (libraries_tasks all (number + length (of_library library)) (b + length unit.bodies) (λ place other e i top f.
      let next : b + (length unit.bodies + bodies_to place all) ≡ b + length unit.bodies + bodies_to place all = omega arith in
      let far : number + libraries_before (suc place) (library ∷ all) ≡ number + length (of_library library) + libraries_before place all = omega (arith, length-append (of_library library) (flat_map of_library (take place all))) in
      subst (λ (k : ℕ). IsTask program top (tops_at other k + tops_before i other.tops) (task_of (b + length unit.bodies + bodies_to place all) (top_code top (start_count other + i)))) far
      (subst (λ (k : ℕ). IsTask program top (tops_at other (number + libraries_before (suc place) (library ∷ all)) + tops_before i other.tops) (task_of k (top_code top (start_count other + i)))) next (each (suc place) other e i top f))))

  -- the lambdas inside of a form are numbered as their bodies are
  form_numbers : (place : ℕ) (library : LibraryRow) (there : slice_get program.libraries place ≡ Some library) (i : ℕ) (top : TopTerm) → slice_get library.tops i ≡ Some top
      → Numbers program (bodies_before program place) (forms_at library + tops_before i library.tops) (tops_at library (0 + libraries_before place program.libraries) + tops_before i library.tops) (of_top top)
  form_numbers place library there i top e more less =
      let n = length (of_classes library) in
      let m = length (of_methods library) in
      let v = length (of_variables library) in
      let before = before_of program place library there in
      let j = tops_before i library.tops + more in
      let number = tops_at library (0 + libraries_before place program.libraries) + tops_before i library.tops + more in
      let within = tops_within library.tops i top e more less in
      let a = of_classes library in
      let b = of_methods library in
      let c = of_variables library in
      let six = length-append (a ++ b ++ c) (flat_map of_top library.tops) in
      let seven = length-append (a ++ b) c in
      let eight = length-append a b in
      let inside : n + m + v + j < length (of_library library) = omega (arith, within, six, seven, eight) in
      let all = libraries_within program.libraries place library there (n + m + v + j) inside in
      let at : number ≡ libraries_before place program.libraries + (n + m + v + j) = omega arith in
      let value : forms_behind before library + j ≡ before + (forms_at library + tops_before i library.tops + more) = omega arith in
      let one = length-append (of_class_numbers before library ++ of_method_numbers before library) (of_variable_numbers before library) in
      let two = length-append (of_class_numbers before library) (of_method_numbers before library) in
      let three = length_from n (classes_at before library) in
      let four = methods_long before library in
      let five = numbers_long function_lambda library.variables (before + dylan_methods library.methods) (variables_behind before library) in
      let held : slice_get (library_numbers before library) (n + m + v + j) ≡ Some (before + (forms_at library + tops_before i library.tops + more)) =
      right_of (of_class_numbers before library ++ of_method_numbers before library ++ of_variable_numbers before library) (of_form_numbers before library) (n + m + v) j (n + m + v + j) _
      (omega (arith, one, two, three, four, five)) refl (from_get (length (flat_map of_top library.tops)) (forms_behind before library) j within)
      ∙ ap Some value in
      record {
        known = omega (arith, all);
        same = has_number program place library there (n + m + v + j) number (before + (forms_at library + tops_before i library.tops + more)) at held
            ∙ ap (λ (k : ℕ). k + (forms_at library + tops_before i library.tops + more)) (sym (before_same program place library there));
      }

  module _ (scoped : IsScoped program) (are : IsLowered program) where
    form_of : (place : ℕ) (library : LibraryRow) → slice_get program.libraries place ≡ Some library → (body closure number : ℕ) (term : Term) → slice_get (bodies_of library) body ≡ Some (body_alone term closure (one Return))
        → ((n : ℕ) → Follows program n (bodies_before program place) (numbers_in term - 0) (code_of (layout_of_term term) term closure) (meaning_within program n (layout_of_term term) term number))
        → Form program (0 + bodies_before program place + body) term number
    form_of place library there body closure number term stands follows =
        let flat = body_alone term closure (one Return) in
        let tables = tables_of (flat_map (λ (b : FlatBody). placed_from 0 b.code) (bodies_of library)) in
        let same : bodies_before program place + body ≡ 0 + bodies_before program place + body = omega arith in
        subst (λ (k : ℕ). Form program k term number) same (record {
          before = bodies_before program place;
          closure = closure;
          at = record { unit = lowered program library; before = bodies_before program place; body = unit_body tables flat };
          here = body_located program place library there body flat stands;
          locals = refl;
          code = body_holds program scoped are place library there body flat stands;
          follows = follows;
        })

    task_is : (place : ℕ) (library : LibraryRow) → slice_get program.libraries place ≡ Some library → (body closure number : ℕ) (top : TopTerm) → slice_get (bodies_of library) body ≡ Some (top_body top closure)
        → is_top_scoped top ≡ true → is_top_lowered top ≡ true → Numbers program (bodies_before program place) closure number (of_top top)
        → IsTask program top number (task_of (0 + bodies_before program place) (top_code top body))
    task_is place library there body closure number (tops.Run term) stands s k numbered =
        record {
          body = 0 + bodies_before program place + body;
          same = refl;
          form = form_of place library there body closure number term stands (λ n. all_follow program n (bodies_before program place) (numbers_in term) (layout_of_term term) (calls_stand program scoped are n) term closure number s k numbered);
        }
    task_is place library there body closure number (tops.Init bindings term) stands s k numbered =
        record {
          body = 0 + bodies_before program place + body;
          same = refl;
          form = form_of place library there body closure number term stands (λ n. all_follow program n (bodies_before program place) (numbers_in term) (layout_of_term term) (calls_stand program scoped are n) term closure number s k numbered);
        }

    pub all_tasks : AreTasks program (tops_of program) (tasks (linked_program program))
    all_tasks = libraries_tasks program.libraries 0 0 (λ place library there i top e.
        let fine = library_is program scoped are place library there in
        task_is place library there (start_count library + i) (forms_at library + tops_before i library.tops) (tops_at library (0 + libraries_before place program.libraries) + tops_before i library.tops) top (form_stands library i top e)
        (all_at is_top_scoped library.tops i top fine.scoped_tops e) (all_at is_top_lowered library.tops i top fine.tops e) (form_numbers place library there i top e))
