-- A library is not much larger than its files.
use Rattle.std.proofs.Common.{◌≡◌, ℕ, ◌+◌, ◌-◌, ◌*◌, ◌^◌, ◌<◌, ◌≤◌, List, [], ◌∷◌, ◌++◌, length, map, sym, ap, subst, arith}
use Rattle.dy_tree.specs.Fragments.{SeenFragment}
use Rattle.dy_rules.specs.Forms.{FormTree}
use Rattle.dy_term.specs.declared.rows.SlotRow.{SlotRow}
use Rattle.dy_term.specs.declared.rows.MethodRow.{MethodRow}
use Rattle.dy_term.specs.declared.rows.VariableRow.{VariableRow}
use Rattle.dy_term.specs.declared.rows.Row.{Row}
use Rattle.dy_term.specs.declared.rows.LibraryRow.{LibraryRow}
use Rattle.dy_term.specs.Rows.{CoreDraft}
use Rattle.dy_surface.specs.Forms.{draft_of}
use Rattle.dy_names.specs.Outside.{Outside}
use Rattle.dy_binding.specs.Reads.{none}
use Rattle.dy_library_rows.specs.Libraries.{Form, read_form, rows_of}
use Rattle.dy_code.specs.Validity.{Every}
use Rattle.dy_lowered.specs.Bodies.{all_slots}
use Rattle.dy_lowering_whole.specs.sizes.Nodes.{nodes_of_code, nodes_of_function, nodes_of_init, nodes_of_top, nodes_of_library}
use Rattle.dy_lowering_whole.specs.sizes.Sizes.{IsSmall}
use Rattle.dy_unit_sizes.specs.Sizes.{PartsHaveAtMost}
use Rattle.dy_unit_sizes.proofs.Libraries.{units_small}
use Rattle.dy_file_sizes.specs.Drafts.{draft_size}
use Rattle.dy_file_sizes.specs.Rows.{nodes_of_row, nodes_of_rows}
use Rattle.dy_file_sizes.specs.Files.{File, AreForms, IsRead, AreRead, forms_of, bytes_of}
use Rattle.dy_file_sizes.specs.Sizes.{IsReadFrom}
use Rattle.dy_file_sizes.proofs.Tokens.{tokens_few, groups_small, tokens_in_all, pieces_small}
use Rattle.dy_file_sizes.proofs.Forms.{drafts_small}
use Rattle.dy_file_sizes.proofs.Parts.{every_join, has_small, rows_each}
use Rattle.dy_file_sizes.proofs.Rows.{join_rows, draft_small, library_nodes}

abbrev pub sizes : List CoreDraft → ℕ
sizes [] = 0
sizes (draft ∷ drafts) = draft_size draft + sizes drafts

join_sizes : (xs ys : List FormTree) → sizes (map draft_of (xs ++ ys)) ≡ sizes (map draft_of xs) + sizes (map draft_of ys)
join_sizes [] ys = omega arith
join_sizes (x ∷ xs) ys = omega (arith, join_sizes xs ys)

forms_small : (forms : List FormTree) (pieces : List (List SeenFragment)) → AreForms forms pieces → sizes (map draft_of forms) ≤ 4 * tokens_in_all pieces
forms_small [] [] h = omega arith
forms_small [] (piece ∷ pieces) h = absurd h
forms_small (form ∷ forms) [] h = absurd h
forms_small (form ∷ forms) (piece ∷ pieces) h = omega (arith, drafts_small form piece h.0, forms_small forms pieces h.1)

file_small : (file : File) → IsRead file → sizes (map draft_of file.forms) ≤ 4 * length file.text
file_small file read =
    omega (
      arith,
      forms_small file.forms read.pieces read.forms,
      pieces_small read.pieces read.fragments read.stand,
      groups_small read.known read.source.tokens read.fragments read.grouped,
      tokens_few file.number file.text read.source read.is_source,
    )

all_small : (files : List File) → AreRead files → sizes (map draft_of (forms_of files)) ≤ 4 * bytes_of files
all_small [] read = omega arith
all_small (file ∷ files) read = omega (arith, join_sizes file.forms (forms_of files), file_small file read.0, all_small files read.1)

pub rows_small : (out : Outside) (forms : List Form) → nodes_of_rows (rows_of out forms) ≤ sizes (map (λ (form : Form). form.1) forms)
rows_small out [] = omega arith
rows_small out (form ∷ forms) = omega (arith, join_rows (read_form out form.1).0 (rows_of out forms), draft_small out form.1 [] none, rows_small out forms)

pub libraries_small : (files : List File) (library : LibraryRow) → IsReadFrom files library → nodes_of_library library ≤ 4 * bytes_of files
libraries_small files library is =
    omega (arith, library_nodes (rows_of is.out is.forms) library is.code, rows_small is.out is.forms, ap sizes is.drafts, all_small files is.read)

-- each draft of a file, and so each row, is no larger than the file
abbrev DraftIsSmall : ℕ → CoreDraft → Type 0
DraftIsSmall most draft = draft_size draft ≤ most

drafts_each : (most : ℕ) (drafts : List CoreDraft) → sizes drafts ≤ most → Every (DraftIsSmall most) drafts
drafts_each most [] low = tt
drafts_each most (draft ∷ drafts) low = (omega (arith, low), drafts_each most drafts (omega (arith, low)))

every_mapped : (most : ℕ) (xs ys : List FormTree) → Every (DraftIsSmall most) (map draft_of xs) → Every (DraftIsSmall most) (map draft_of ys) → Every (DraftIsSmall most) (map draft_of (xs ++ ys))
every_mapped most [] ys a b = b
every_mapped most (x ∷ xs) ys a b = (a.0, every_mapped most xs ys a.1 b)

all_each : (most : ℕ) (files : List File) → AreRead files → Every (λ (file : File). length file.text ≤ most) files → Every (DraftIsSmall (4 * most)) (map draft_of (forms_of files))
all_each most [] read few = tt
all_each most (file ∷ files) read few =
    every_mapped (4 * most) file.forms (forms_of files) (drafts_each (4 * most) (map draft_of file.forms) (omega (arith, file_small file read.0, few.0))) (all_each most files read.1 few.1)

rows_each_small : (most : ℕ) (out : Outside) (forms : List Form) → Every (DraftIsSmall most) (map (λ (form : Form). form.1) forms) → Every (λ (row : Row). nodes_of_row row ≤ most) (rows_of out forms)
rows_each_small most out [] every = tt
rows_each_small most out (form ∷ forms) every =
    every_join (λ (row : Row). nodes_of_row row ≤ most) (read_form out form.1).0 (rows_of out forms) (rows_each most (read_form out form.1).0 (omega (arith, draft_small out form.1 [] none, every.0))) (rows_each_small most out forms every.1)

pub parts_small : (files : List File) (library : LibraryRow) (most : ℕ) → IsReadFrom files library → Every (λ (file : File). length file.text ≤ most) files → PartsHaveAtMost (4 * most) library
parts_small files library most is few =
    has_small (4 * most) (rows_of is.out is.forms) library is.code (rows_each_small (4 * most) is.out is.forms (subst (Every (DraftIsSmall (4 * most))) (sym is.drafts) (all_each most files is.read few)))

-- more may be allowed
every_more : {A : Type 0} (size : A → ℕ) (few many : ℕ) → few ≤ many → (xs : List A) → Every (λ (x : A). size x ≤ few) xs → Every (λ (x : A). size x ≤ many) xs
every_more size few many low [] every = tt
every_more size few many low (x ∷ xs) every = (omega (arith, low, every.0), every_more size few many low xs every.1)

parts_more : (few many : ℕ) (library : LibraryRow) → few ≤ many → PartsHaveAtMost few library → PartsHaveAtMost many library
parts_more few many library low has = record {
  methods = every_more (λ (method : MethodRow). nodes_of_code method.code) few many low library.methods has.methods;
  functions = every_more (λ (variable : VariableRow). nodes_of_function variable.function) few many low library.variables has.functions;
  slots = every_more (λ (slot : SlotRow). nodes_of_init slot.init) few many low (all_slots library) has.slots;
  tops = every_more nodes_of_top few many low library.tops has.tops;
}

every_less : (files : List File) → Every (λ (file : File). length file.text < 2 ^ 24) files → Every (λ (file : File). length file.text ≤ 2 ^ 24 - 1) files
every_less [] few = tt
every_less (file ∷ files) few = (omega (arith, few.0), every_less files few.1)

pub files_small : (files : List File) (library : LibraryRow) → IsReadFrom files library → bytes_of files ≤ 2 ^ 28 → Every (λ (file : File). length file.text < 2 ^ 24) files → IsSmall library
files_small files library is few each =
    units_small library (omega (arith, few, libraries_small files library is))
    (parts_more (4 * (2 ^ 24 - 1)) (2 ^ 26 - 1) library (omega arith) (parts_small files library (2 ^ 24 - 1) is (every_less files each)))

bytes_few : (files : List File) → Every (λ (file : File). length file.text ≤ 2 ^ 22) files → bytes_of files ≤ 2 ^ 22 * length files
bytes_few [] each = omega arith
bytes_few (file ∷ files) each = omega (arith, each.0, bytes_few files each.1)

each_less : (files : List File) → Every (λ (file : File). length file.text ≤ 2 ^ 22) files → Every (λ (file : File). length file.text < 2 ^ 24) files
each_less [] each = tt
each_less (file ∷ files) each = (omega (arith, each.0), each_less files each.1)

pub largest_small : (files : List File) (library : LibraryRow) → IsReadFrom files library → length files ≤ 64 → Every (λ (file : File). length file.text ≤ 2 ^ 22) files → IsSmall library
largest_small files library is few each = files_small files library is (omega (arith, few, bytes_few files each)) (each_less files each)
