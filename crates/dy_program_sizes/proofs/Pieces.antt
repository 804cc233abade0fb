-- A library that texts were judged to be has fewer nodes than 2^26.
use Rattle.std.proofs.Common.{◌≡◌, ℕ, ◌+◌, ◌-◌, ◌*◌, ◌^◌, ◌<◌, ◌≤◌, List, [], ◌∷◌, ◌++◌, flat_map, map, Option, Some, None, Ok, Err, refl, sym, ap, ◌∙◌, subst, inl, inr, arith}
use Rattle.std.specs.Prelude.{fold}
use Rattle.dy_base.specs.declared.fault.Fault.{Fault}
use Rattle.dy_base.specs.declared.fault.Place.{Place}
use Rattle.dy_lexer.specs.declared.source.Source.{Source}
use Rattle.dy_tree.specs.Fragments.{SeenFragment}
use Rattle.dy_token_limit.specs.Tokens.{tokens_of}
use Rattle.dy_rules.specs.Forms.{FormTree}
use Rattle.dy_rules.specs.Parsing.{Parsed, accepted as told_form, too_deep, no_form, parsed}
use Rattle.dy_rules.proofs.Parsing.{accepts}
use Rattle.dy_construct_parts.specs.declared.construct.Construct.{Construct}
use Rattle.dy_construct_parts.specs.Table.{first_absent}
use Rattle.dy_constructs.specs.Forms.{in_form}
use Rattle.dy_surface.specs.Forms.{draft_of}
use Rattle.dy_term.specs.Rows.{CoreDraft}
use Rattle.dy_names.specs.Outside.{Outside}
use Rattle.dy_library_rows.specs.Libraries.{Form, or_fault, rows_of}
use Rattle.dy_assembly.specs.declared.library.Heading.{Heading}
use Rattle.dy_lowering_whole.specs.sizes.Nodes.{nodes_of_library}
use Rattle.dy_lowering_whole.proofs.sizes.Libraries.{units_small}
use Rattle.dy_library_modules.specs.declared.own_modules.LibraryModules.{LibraryModules}
use Rattle.dy_library_names.specs.Named.{Reading, library_from}
use Rattle.dy_views.specs.declared.compiled.Compiled.{Compiled}
use Rattle.dy_verdict.specs.declared.library.ReadLibrary.{ReadLibrary}
use Rattle.dy_verdict.specs.Pieces.{Piece, pieces_of, place_of}
use Rattle.dy_verdict.specs.Forms.{form_reading, told_reading, form_in, fault_in, first_refused, forms_of}
use Rattle.dy_verdict.specs.Trees.{Trees}
use Rattle.dy_verdict.specs.Limits.{AreWithin}
use Rattle.dy_verdict.specs.Libraries.{heading_in, place_by, IsReadAs}
use Rattle.dy_verdict.specs.Verdicts.{refused, accepted, JudgesNames, JudgesForms, JudgesRead, JudgesPieces, JudgesTrees, IsVerdict}
use Rattle.dy_file_sizes.specs.Drafts.{draft_size}
use Rattle.dy_file_sizes.proofs.Forms.{drafts_small}
use Rattle.dy_file_sizes.proofs.Rows.{library_nodes}
use Rattle.dy_file_sizes.proofs.Libraries.{sizes, rows_small}
use Rattle.dy_program_sizes.specs.Sizes.{AcceptedAreSmall}
use Rattle.dy_program_sizes.proofs.Coded.{has_code}

-- ---- the forms of pieces

join_sizes : (xs ys : List Form) → sizes (map (λ (form : Form). form.1) (xs ++ ys)) ≡ sizes (map (λ (form : Form). form.1) xs) + sizes (map (λ (form : Form). form.1) ys)
join_sizes [] ys = omega arith
join_sizes (x ∷ xs) ys = omega (arith, join_sizes xs ys)

-- a form has fewer nodes than four for each token, and no form has none
form_small : (fragments : List SeenFragment) (form : FormTree) (place : Place) → parsed fragments ≡ told_form form → (found : Option Construct)
    → sizes (map (λ (f : Form). f.1) (form_in place (form_reading form found))) ≤ 4 * tokens_of fragments - 1
form_small fragments form place is None = omega (arith, drafts_small form fragments (accepts fragments form is).0)
form_small fragments form place is (Some construct) = omega arith

told_small : (fragments : List SeenFragment) (place : Place) (told : Parsed) → parsed fragments ≡ told → sizes (map (λ (f : Form). f.1) (form_in place (told_reading told))) ≤ 4 * tokens_of fragments - 1
told_small fragments place no_form is = omega arith
told_small fragments place too_deep is = omega arith
told_small fragments place (told_form form) is = form_small fragments form place is (first_absent (in_form form))

abbrev tokens_in_pieces : List Piece → ℕ
tokens_in_pieces [] = 0
tokens_in_pieces (piece ∷ pieces) = tokens_of piece.fragments + tokens_in_pieces pieces

counted : (n : ℕ) (pieces : List Piece) → fold (λ count fragments. count + tokens_of fragments) n (map (λ (piece : Piece). piece.fragments) pieces) ≡ n + tokens_in_pieces pieces
counted n [] = omega arith
counted n (piece ∷ pieces) = omega (arith, counted (n + tokens_of piece.fragments) pieces)

forms_few : (pieces : List Piece) → sizes (map (λ (f : Form). f.1) (forms_of pieces)) ≤ 4 * tokens_in_pieces pieces - 1
forms_few [] = omega arith
forms_few (piece ∷ pieces) =
    omega (arith, join_sizes (form_in (place_of piece) (told_reading (parsed piece.fragments))) (forms_of pieces), told_small piece.fragments (place_of piece) (parsed piece.fragments) refl, forms_few pieces)

-- ---- an accepted library is that of pieces within the limit

record IsOfPieces (read : ReadLibrary) : Type 0 where
  pub pieces : List Piece
  pub within : AreWithin pieces
  pub heading : Heading
  pub out : Outside
  pub row : read.row ≡ library_from heading out (forms_of pieces)

never : {P : Type 0} (read : ReadLibrary) (fault : Fault) → accepted read ≡ refused fault → P
never read fault is = absurd cc

same_read : (read other : ReadLibrary) → accepted read ≡ accepted other → read ≡ other
same_read read other is = cc

module _ (library : List ℕ) (read : ReadLibrary) (modules : LibraryModules) (pieces : List Piece) (within : AreWithin pieces) where
  by_names : (r : Reading modules.table (place_by modules) (forms_of pieces)) (first : Option Fault) → JudgesNames library modules (forms_of pieces) r first (accepted read) → IsOfPieces read
  by_names r (Some fault) is = never read fault is
  by_names r None (other, reads, is) =
      record { pieces = pieces; within = within; heading = heading_in library modules; out = r.out; row = ap (λ (l : ReadLibrary). l.row) (same_read read other is) ∙ reads.row }

  by_forms : JudgesForms library modules (forms_of pieces) (accepted read) → IsOfPieces read
  by_forms (r, first, fine, judged) = by_names r first judged

  by_read : (first : Option Fault) → JudgesRead library modules first (forms_of pieces) (accepted read) → IsOfPieces read
  by_read (Some fault) is = never read fault is
  by_read None judged = by_forms judged

by_pieces : (library : List ℕ) (read : ReadLibrary) (modules : LibraryModules) (pieces : List Piece) → JudgesPieces library modules pieces (accepted read) → IsOfPieces read
by_pieces library read modules pieces (inl (fault, over, is)) = never read fault is
by_pieces library read modules pieces (inr (within, judged)) = by_read library read modules pieces within (first_refused pieces) judged

by_trees : (library : List ℕ) (read : ReadLibrary) (modules : LibraryModules) (trees : Trees) → JudgesTrees library modules trees (accepted read) → IsOfPieces read
by_trees library read modules (Err fault) is = never read fault is
by_trees library read modules (Ok all) judged = by_pieces library read modules (flat_map pieces_of all) judged

of_pieces : (compiled : Compiled) (library : List ℕ) (texts : List (List ℕ)) (read : ReadLibrary) → IsVerdict compiled library texts (accepted read) → IsOfPieces read
of_pieces compiled library texts read (inl (fault, refuses, is)) = never read fault is
of_pieces compiled library texts read (inr (sources, gives, inl (fault, refuses, is))) = never read fault is
of_pieces compiled library texts read (inr (sources, gives, inr (modules, given, (trees, grouped, judged)))) = by_trees library read modules trees judged

pieces_few : (read : ReadLibrary) → IsOfPieces read → nodes_of_library read.row < 2 ^ 26
pieces_few read of =
    let library = library_from of.heading of.out (forms_of of.pieces) in
    let nodes = library_nodes (rows_of of.out (forms_of of.pieces)) library (has_code of.heading of.out (forms_of of.pieces)) in
    let row = ap nodes_of_library of.row in
    let limit = of.within in
    omega (arith, row, nodes, rows_small of.out (forms_of of.pieces), forms_few of.pieces, counted 0 of.pieces, limit)

pub accepted_small : AcceptedAreSmall
accepted_small compiled library texts read judged =
    let few = pieces_few read (of_pieces compiled library texts read judged) in
    (few, units_small read.row few)
