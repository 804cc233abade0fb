-- A clause of a `for` with its variable in front.
use Rattle.std.proofs.Common.{◌≡◌, ◌≤◌, ℕ, Bool, List, [], ◌∷◌, ◌++◌, Option, Some, None, option_map, option_and_then, refl, sym, ap, ◌∙◌, arith}
use Rattle.dy_tree.specs.Fragments.{SeenFragment, seen_fragments}
use Rattle.dy_tree.specs.declared.splitters.Splitting.TheVariants as splittings
use Rattle.dy_rules.specs.Types.{VariableTree, binds_plainly}
use Rattle.dy_rules.specs.Cutting.{Piece, fragments_in}
use Rattle.dy_rules.specs.Fragments.{items_of}
use Rattle.dy_rules.specs.Loops.{clause_behind, clause_with, clause_if, clause_pieces}
use Rattle.dy_rules.specs.TypeReading as reading
use Rattle.dy_rules.proofs.Lists.{fragments_back, some_one}
use Rattle.dy_rules.proofs.FragmentsSound.{items_sound}
use Rattle.dy_rules.proofs.TypeSound.{VariableIs, variable_front_sound}
use Rattle.dy_rules_depth.specs.Changes.{changed_for, changed_variable}
use Rattle.dy_rules_depth.specs.Capping.{capping}
use Rattle.dy_read_parts.specs.declared.pieces.Pieces.{Pieces as FoundPieces}
use Rattle.dy_read_parts.specs.Cut.{seen_pieces}
use Rattle.dy_read_shapes.specs.ClauseShapes.{IsFrontWithin, FrontReads}
use Rattle.dy_read_shapes.specs.LoopShapes.{parts_read}
use Rattle.dy_read_parts.specs.Nesting.{nesting}
use Rattle.dy_read_types.specs.VariableFronts.{read_variable, seen_front, capped_front}
use Rattle.dy_read_shapes.specs.declared.loop_shape.ClauseParts.{ClauseParts}
use Rattle.dy_read_types.specs.declared.variables.VariableFront.{VariableFront}

pub no_front : (others : List Piece) → FrontReads None others None
no_front others None e = refl
no_front others (Some found) e = absurd cc

module _ (front : VariableFront) (parts : ClauseParts) (others : List Piece) (reads : (variable : VariableTree) → parts_read (changed_variable capping variable) parts ≡ option_map (changed_for capping) (clause_behind variable (items_of (seen_fragments front.rest.now)) others)) where
  pub front_reads : (found : Option reading.VariableFront) → Some (seen_front front) ≡ option_map capped_front found → parts_read (read_variable front.variable) parts ≡ option_map (changed_for capping) (option_and_then (clause_with others) found)
  front_reads None e = absurd cc
  front_reads (Some found) e =
      let same : seen_front front ≡ capped_front found = some_one (seen_front front) (capped_front found) e in
      ap (λ (f : reading.VariableFront). parts_read f.variable parts) same ∙ reads found.variable
      ∙ ap (λ (f : reading.VariableFront). option_map (changed_for capping) (clause_behind found.variable f.rest others)) same

-- What stands behind the variable is a part of the list.

back_nesting : (before after : List SeenFragment) → nesting after ≤ nesting (before ++ after)
back_nesting [] after = omega arith
back_nesting (first ∷ rest) after = let h = back_nesting rest after in omega arith

found_within : (fragments : List SeenFragment) (front : VariableFront) (found : Option reading.VariableFront) → reading.variable_front (items_of fragments) ≡ found → Some (seen_front front) ≡ option_map capped_front found → nesting (seen_fragments front.rest.now) ≤ nesting fragments
found_within fragments front None e f = absurd cc
found_within fragments front (Some found) e f =
    let is : VariableIs (items_of fragments) found = variable_front_sound (items_of fragments) found (items_sound fragments) e in
    let rest : seen_fragments front.rest.now ≡ fragments_in found.rest = sym (fragments_back (seen_fragments front.rest.now)) ∙ ap (λ (x : reading.VariableFront). fragments_in x.rest) (some_one (seen_front front) (capped_front found) f) in
    let all : fragments ≡ is.before ++ seen_fragments front.rest.now = sym (fragments_back fragments) ∙ is.parts ∙ ap (λ (more : List SeenFragment). is.before ++ more) (sym rest) in
    rw (ap nesting all) (back_nesting is.before (seen_fragments front.rest.now))

pub front_within : (n : ℕ) (fragments : List SeenFragment) (front : Option VariableFront) → option_map seen_front front ≡ option_map capped_front (reading.variable_front (items_of fragments)) → nesting fragments ≤ n → IsFrontWithin n front
front_within n fragments None e le = tt
front_within n fragments (Some front) e le = let h = found_within fragments front (reading.variable_front (items_of fragments)) refl e in omega arith

-- the clause in pieces, where it is known whether a word splits it behind its variable
pub plainly_read : (plainly : Bool) (pieces : FoundPieces) (first : List SeenFragment) → seen_fragments pieces.first.now ≡ first → binds_plainly splittings.Steps first ≡ plainly
    → option_map (changed_for capping) (clause_if plainly (seen_pieces pieces)) ≡ option_map (changed_for capping) (clause_pieces (seen_pieces pieces))
plainly_read plainly pieces first same is =
    ap (λ (b : Bool). option_map (changed_for capping) (clause_if b (seen_pieces pieces))) (sym (ap (binds_plainly splittings.Steps) (fragments_back (seen_fragments pieces.first.now) ∙ same) ∙ is))
