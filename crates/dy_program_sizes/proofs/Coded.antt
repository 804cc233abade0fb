-- A library of forms has the code of their rows.
use Rattle.std.proofs.Common.{◌≡◌, List, [], ◌∷◌, ◌++◌, flat_map, refl, sym, ap, ◌∙◌}
use Rattle.dy_term.specs.declared.rows.Row.{Row}
use Rattle.dy_term.specs.declared.rows.Row.TheVariants as rows
use Rattle.dy_term.specs.declared.rows.ClassRow.{ClassRow}
use Rattle.dy_names.specs.Outside.{Outside}
use Rattle.dy_library_rows.specs.Libraries.{Form, rows_of}
use Rattle.dy_assembly.specs.declared.library.Heading.{Heading}
use Rattle.dy_assembly.specs.Libraries.{class_in, method_in, variable_in, top_in}
use Rattle.dy_library_names.specs.Named.{library_from}
use Rattle.dy_file_sizes.specs.Rows.{inits_of, method_lambdas, function_lambdas, row_inits, row_method, row_function, row_top, HasCodeOf}

together : {B : Type 0} (a b c : List B) → (a ++ b) ++ c ≡ a ++ (b ++ c)
together [] b c = refl
together (z ∷ a) b c = ap (λ rest. z ∷ rest) (together a b c)

joined : {A B : Type 0} (f : A → List B) (xs ys : List A) → flat_map f (xs ++ ys) ≡ flat_map f xs ++ flat_map f ys
joined f [] ys = refl
joined f (x ∷ xs) ys = ap (λ rest. f x ++ rest) (joined f xs ys) ∙ sym (together (f x) (flat_map f xs) (flat_map f ys))

last_none : {A : Type 0} (xs : List A) → xs ++ [] ≡ xs
last_none [] = refl
last_none (x ∷ xs) = ap (λ rest. x ∷ rest) (last_none xs)

-- what is in each row of a kind, one row behind the other
slots_coded : (all : List Row) → inits_of (flat_map (λ (class : ClassRow). class.slots) (flat_map class_in all)) ≡ flat_map row_inits all
slots_coded [] = refl
slots_coded (rows.Class class ∷ all) = joined _ class.slots (flat_map (λ (c : ClassRow). c.slots) (flat_map class_in all)) ∙ ap (λ rest. inits_of class.slots ++ rest) (slots_coded all)
slots_coded (rows.Generic row ∷ all) = slots_coded all
slots_coded (rows.Method row ∷ all) = slots_coded all
slots_coded (rows.Domain row ∷ all) = slots_coded all
slots_coded (rows.Variable row ∷ all) = slots_coded all
slots_coded (rows.Top top ∷ all) = slots_coded all

methods_coded : (all : List Row) → method_lambdas (flat_map method_in all) ≡ flat_map row_method all
methods_coded [] = refl
methods_coded (rows.Class class ∷ all) = methods_coded all
methods_coded (rows.Generic row ∷ all) = methods_coded all
methods_coded (rows.Method row ∷ all) = ap (λ rest. row_method (rows.Method row) ++ rest) (methods_coded all)
methods_coded (rows.Domain row ∷ all) = methods_coded all
methods_coded (rows.Variable row ∷ all) = methods_coded all
methods_coded (rows.Top top ∷ all) = methods_coded all

functions_coded : (all : List Row) → function_lambdas (flat_map variable_in all) ≡ flat_map row_function all
functions_coded [] = refl
functions_coded (rows.Class class ∷ all) = functions_coded all
functions_coded (rows.Generic row ∷ all) = functions_coded all
functions_coded (rows.Method row ∷ all) = functions_coded all
functions_coded (rows.Domain row ∷ all) = functions_coded all
functions_coded (rows.Variable row ∷ all) = ap (λ rest. row_function (rows.Variable row) ++ rest) (functions_coded all)
functions_coded (rows.Top top ∷ all) = functions_coded all

tops_coded : (all : List Row) → flat_map top_in all ≡ flat_map row_top all
tops_coded [] = refl
tops_coded (rows.Class class ∷ all) = tops_coded all
tops_coded (rows.Generic row ∷ all) = tops_coded all
tops_coded (rows.Method row ∷ all) = tops_coded all
tops_coded (rows.Domain row ∷ all) = tops_coded all
tops_coded (rows.Variable row ∷ all) = tops_coded all
tops_coded (rows.Top top ∷ all) = ap (λ rest. top ∷ rest) (tops_coded all)

pub has_code : (heading : Heading) (out : Outside) (forms : List Form) → HasCodeOf (rows_of out forms) (library_from heading out forms)
has_code heading out forms = record {
  slots = slots_coded (rows_of out forms);
  methods = methods_coded (rows_of out forms);
  functions = functions_coded (rows_of out forms);
  tops = tops_coded (rows_of out forms);
}
