-- Parameters and results in front, and what stands behind them.
use Rattle.std.specs.Prelude.{◌≡◌, ◌≤◌, ℕ, max, ⊤, Bool, List, Option, Some, None, option_map}
use Rattle.std.specs.Prelude.{option_and_then}
use Rattle.dy_tree.specs.Fragments.{seen_fragments}
use Rattle.dy_rules.specs.Trees.{Listed, Parameters, parameters_of}
use Rattle.dy_rules.specs.Cutting.{Item, Front, headed}
use Rattle.dy_rules.specs.Signatures.{ResultsFront, results_front}
use Rattle.dy_rules.specs.Fragments.{items_of}
use Rattle.dy_rules.specs.Forms.{no_defaults}
use Rattle.dy_rules.specs.Depth.{parameters_depth}
use Rattle.dy_rules_depth.specs.Changes.{changed_parameters}
use Rattle.dy_rules_depth.specs.Capping.{capping}
use Rattle.dy_read_statements.specs.declared.signature_front.SignatureFront.{SignatureFront}
use Rattle.dy_read_parts.specs.Nesting.{nesting}
use Rattle.dy_read_arms.specs.ReadBodies.{read_parameters}
use Rattle.dy_read_types.specs.Results.{capped_front}

pub record Signature : Type 0 where
  pub parts : Parameters
  pub is_plain : Bool
  pub rest : List Item

abbrev pub signature_of : Listed → ResultsFront → Signature
signature_of found front =
    record {
      parts = parameters_of found front.results;
      is_plain = no_defaults found.keys;
      rest = front.rest;
    }

abbrev pub signature_listed : List Item → Listed → Option Signature
signature_listed rest found = option_map (signature_of found) (results_front rest)

abbrev pub signature_headed : Front → Option Signature
signature_headed front = option_and_then (signature_listed front.rest) front.first.found.listed

-- a list of parameters between brackets, and its results
abbrev pub signature_items : List Item → Option Signature
signature_items items = option_and_then signature_headed (headed items)

abbrev pub seen_signature : SignatureFront → Signature
seen_signature front = record {
  parts = read_parameters front.parameters;
  is_plain = front.is_plain;
  rest = items_of (seen_fragments front.rest.now);
}

abbrev pub capped_signature : Signature → Signature
capped_signature front = record
    { parts = changed_parameters capping front.parts; is_plain = front.is_plain; rest = front.rest }

abbrev pub SignatureDepth : ℕ → ℕ → Option SignatureFront → Type 0
SignatureDepth old new None = ⊤
SignatureDepth old new (Some front) =
    new ≡ max old (parameters_depth (read_parameters front.parameters))

-- the results of parameters that were read within the limit
abbrev pub signature_behind : List Item → Listed → Option Signature
signature_behind rest found =
    option_map (signature_of found) (option_map capped_front (results_front rest))

-- what stands behind them is nested at most so deep
abbrev pub IsRestWithin : ℕ → Option SignatureFront → Type 0
IsRestWithin n None = ⊤
IsRestWithin n (Some front) = nesting (seen_fragments front.rest.now) ≤ n
