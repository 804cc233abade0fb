-- Parameters and results within the limit.
use Rattle.std.proofs.Common.{◌≡◌, ◌≤◌, ℕ, Bool, List, [], ◌∷◌, Option, Some, None, option_map, option_and_then, refl, sym, ap, ◌∙◌, arith}
use Rattle.dy_rules.specs.Cutting.{Item}
use Rattle.dy_rules.specs.Forms.{no_defaults}
use Rattle.dy_rules.specs.Signatures.{ResultsFront, results_front}
use Rattle.dy_rules.specs.Trees.{Listed, Parameters}
use Rattle.dy_rules_depth.specs.Changes.{changed_keys_tree}
use Rattle.dy_rules_depth.specs.Capping.{capping}
use Rattle.dy_rules_depth.proofs.FormsSame.{defaults_kept}
use Rattle.dy_rules_depth.proofs.Options.{option_twice}
use Rattle.dy_rules_depth.proofs.Rows.{row_parameters}
use Rattle.dy_rules_depth.proofs.Twice.{keys_tree_twice}
use Rattle.dy_read_statements.specs.declared.signature_front.SignatureFront.{SignatureFront}
use Rattle.dy_read_shapes.specs.ListHeads.{capped_listed}
use Rattle.dy_read_types.specs.Results.{capped_front}
use Rattle.dy_read_bodies.specs.SignatureFronts.{Signature, signature_of, signature_listed, signature_behind, capped_signature, IsRestWithin}

signature_on : (found : Listed) (front : ResultsFront) → signature_of (capped_listed found) (capped_front front) ≡ capped_signature (signature_of found front)
signature_on found front =
    ap (λ (parts : Parameters). record { parts = parts; is_plain = no_defaults (capped_listed found).keys; rest = front.rest }) (sym (row_parameters capping found front.results))
    ∙ ap (λ (is_plain : Bool). record { parts = (capped_signature (signature_of found front)).parts; is_plain = is_plain; rest = front.rest })
    (defaults_kept (capped_listed found).keys found.keys (option_twice (changed_keys_tree capping) keys_tree_twice found.keys))

results_on : (found : Listed) (front : Option ResultsFront) → option_map (signature_of (capped_listed found)) (option_map capped_front front) ≡ option_map capped_signature (option_map (signature_of found) front)
results_on found None = refl
results_on found (Some front) = ap (λ (signature : Signature). Some signature) (signature_on found front)

pub signature_changed : (rest : List Item) (found : Option Listed) → option_and_then (signature_behind rest) (option_map capped_listed found) ≡ option_map capped_signature (option_and_then (signature_listed rest) found)
signature_changed rest None = refl
signature_changed rest (Some found) = results_on found (results_front rest)

pub rest_weaker : (n m : ℕ) (found : Option SignatureFront) → n ≤ m → IsRestWithin n found → IsRestWithin m found
rest_weaker n m None e h = tt
rest_weaker n m (Some front) e h = omega arith
