-- Each body of a library is code that leaves all as it was, and then its end.
use Rattle.std.proofs.Common.{ℕ, ◌+◌, List, [], ◌∷◌, ◌++◌, length, map, Option, Some, None, refl, sym, ap, ◌∙◌, subst, arith, append_assoc}
use Rattle.std.specs.Prelude.{flat_map}
use Rattle.dy_term.specs.declared.term.Term.{Term}
use Rattle.dy_term.specs.declared.term.Lambda.{Lambda, out-Lambda}
use Rattle.dy_term.specs.declared.rows.Init.{Init}
use Rattle.dy_term.specs.declared.rows.Init.TheVariants.{Each, Calling}
use Rattle.dy_term.specs.declared.rows.MethodCode.{MethodCode}
use Rattle.dy_term.specs.declared.rows.MethodCode.TheVariants.{Dylan}
use Rattle.dy_term.specs.declared.rows.TopTerm.{TopTerm}
use Rattle.dy_term.specs.declared.rows.TopTerm.TheVariants as tops
use Rattle.dy_term.specs.declared.rows.LibraryRow.{LibraryRow}
use Rattle.dy_code.specs.Fetching as instr
use Rattle.dy_code.specs.Validity.{Every}
use Rattle.dy_meaning.specs.Lambdas.{of_defaults, of_top}
use Rattle.dy_meaning.specs.Layouts.{layout_of, layout_of_term}
use Rattle.dy_meaning.specs.Numbering.{numbered_by}
use Rattle.dy_lowered.specs.Bodies.{FlatBody, inside_method, inside_variable, inside_slot, all_slots, closures_of, parameters, entry, lambda_body, body_alone, top_body, init_body, code_bodies, function_bodies, init_bodies, closure_bodies, bodies_of}
use Rattle.dy_lowered.specs.Flat.{Plain, Code, one}
use Rattle.dy_lowered.specs.Parts.{cells}
use Rattle.dy_lowered.specs.Terms.{code_of}
use Rattle.dy_lowering_whole.specs.valid.Shapes.{IsEven, IsWhole}
use Rattle.dy_lowering_whole.proofs.valid.Evenness.{even_code}
use Rattle.dy_lowering_whole.proofs.valid.Laying.{at, lays_first, lays_one, goes_tick, goes_args, goes_check_results, goes_push, goes_call_value, every_append}
use Rattle.dy_lowering_whole.proofs.valid.Pieces.{even_one, even_join, even_first, even_cells}
use Rattle.dy_lowering_whole.proofs.valid.Positions.{give_method, give_variable, give_slot, give_top, first, methods_at, variables_at, forms_at, methods_part, variables_part, slots_part, forms_part, closures_part, behind_slots, behind_variables, behind_methods, parts_are}

even_entry : (lambda : Lambda) → IsEven (entry lambda)
even_entry lambda =
    let params = (out-Lambda lambda).params in
    even_first instr.Tick (Plain (instr.Args params) ∷ cells (parameters lambda)) goes_tick
    (even_first (instr.Args params) (cells (parameters lambda)) (goes_args params) (even_cells (parameters lambda)))

pub lambda_whole : (lambda : Lambda) (number : ℕ) → IsWhole (lambda_body lambda number).code
lambda_whole lambda number =
    let row = out-Lambda lambda in
    let n = number + length (of_defaults row.keywords) in
    let first = entry lambda in
    let code = code_of (layout_of lambda) row.body n in
    let check = one (instr.CheckResults row.results) in
    let end = one instr.Return in
    record {
      front = first ++ (code ++ check);
      same = sym (append_assoc first (code ++ check) end ∙ ap (λ (rest : Code). first ++ rest) (append_assoc code check end));
      even = even_join first (code ++ check) (even_entry lambda) (even_join code check (even_code (layout_of lambda) row.body n) (even_one (instr.CheckResults row.results) (goes_check_results row.results)));
    }

alone_whole : (term : Term) (number : ℕ) → IsWhole (body_alone term number (one instr.Return)).code
alone_whole term number = record { front = code_of (layout_of_term term) term number; same = refl; even = even_code (layout_of_term term) term number }

calling_whole : (term : Term) (number : ℕ) → IsWhole (body_alone term number (Plain instr.Push ∷ Plain (instr.CallValue 0) ∷ one instr.Return)).code
calling_whole term number =
    let code = code_of (layout_of_term term) term number in
    let call = Plain instr.Push ∷ one (instr.CallValue 0) in
    record { front = code ++ call; same = sym (append_assoc code call (one instr.Return)); even = even_join code call (even_code (layout_of_term term) term number) even_call }
  where
    even_call : IsEven (Plain instr.Push ∷ one (instr.CallValue 0))
    even_call l =
        let n = l.operands in
        lays_first instr.Push (one (instr.CallValue 0)) l (at (1 + n) l) l (goes_push n (1 + n) l refl) (lays_one (instr.CallValue 0) (at (1 + n) l) l (goes_call_value 0 (1 + n) n l (omega arith)))

abbrev Whole : FlatBody → Type 0
Whole flat = IsWhole flat.code

every_flat_map : {A B : Type 0} (P : B → Type 0) (f : A → List B) (xs : List A) → ((x : A) → Every P (f x)) → Every P (flat_map f xs)
every_flat_map P f [] each = tt
every_flat_map P f (x ∷ xs) each = every_append P (f x) (flat_map f xs) (each x) (every_flat_map P f xs each)

every_map : {A B : Type 0} (P : B → Type 0) (f : A → B) (xs : List A) → ((x : A) → P (f x)) → Every P (map f xs)
every_map P f [] each = tt
every_map P f (x ∷ xs) each = (each x, every_map P f xs each)

code_wholes : (code : MethodCode) (number : ℕ) → Every Whole (code_bodies code number)
code_wholes (Dylan lambda) number = (lambda_whole lambda number, tt)
code_wholes _ number = tt

function_wholes : (function : Option Lambda) (number : ℕ) → Every Whole (function_bodies function number)
function_wholes None number = tt
function_wholes (Some lambda) number = (lambda_whole lambda number, tt)

init_whole : (init : Init) (number : ℕ) → Whole (init_body init number)
init_whole (Each term) number = alone_whole term number
init_whole (Calling term) number = calling_whole term number

init_wholes : (init : Option Init) (number : ℕ) → Every Whole (init_bodies init number)
init_wholes None number = tt
init_wholes (Some init) number = (init_whole init number, tt)

top_whole : (top : TopTerm) (number : ℕ) → Whole (top_body top number)
top_whole (tops.Init bindings term) number = alone_whole term number
top_whole (tops.Run term) number = alone_whole term number

closure_wholes : (lambdas : List Lambda) (number : ℕ) → Every Whole (closure_bodies lambdas number)
closure_wholes [] number = tt
closure_wholes (lambda ∷ lambdas) number = (lambda_whole lambda (number + 1), closure_wholes lambdas (number + 1))

pub all_whole : (library : LibraryRow) → Every (λ flat. IsWhole flat.code) (bodies_of library)
all_whole library =
    subst (Every Whole) (sym (parts_are library))
    (every_append Whole (methods_part library) (behind_methods library) (every_flat_map Whole give_method (numbered_by inside_method library.methods (methods_at library)) (λ m. code_wholes m.0.code m.1))
    (every_append Whole (variables_part library) (behind_variables library) (every_flat_map Whole give_variable (numbered_by inside_variable library.variables (variables_at library)) (λ v. function_wholes v.0.function v.1))
    (every_append Whole (slots_part library) (behind_slots library) (every_flat_map Whole give_slot (numbered_by inside_slot (all_slots library) (first library)) (λ s. init_wholes s.0.init s.1))
    (every_append Whole (forms_part library) (closures_part library) (every_map Whole give_top (numbered_by of_top library.tops (forms_at library)) (λ t. top_whole t.0 t.1)) (closure_wholes (closures_of library) (first library))))))
