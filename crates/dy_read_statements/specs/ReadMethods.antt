-- The methods that were read, in their parts.
use Rattle.std.specs.Prelude.{◌≡◌, ℕ, max, ⊤, List, map, Option, Some, None}
use Rattle.dy_tree.specs.declared.token.Token.{Token}
use Rattle.dy_rules.specs.Trees.{Parameters, ItemTree, LocalMethod, local_method, parameters_of}
use Rattle.dy_rules.specs.Trees.{body_of}
use Rattle.dy_rules.specs.Cutting.{MethodFound, NamedFound}
use Rattle.dy_rules.specs.Depth.{parameters_depth, body_depth}
use Rattle.dy_rules_depth.specs.Changes.{changed_parameters, changed_item}
use Rattle.dy_rules_depth.specs.Capping.{capping}
use Rattle.dy_read_statements.specs.declared.method_read.MethodRead.{MethodRead}
use Rattle.dy_read_statements.specs.declared.method_read.NamedRead.{NamedRead}
use Rattle.dy_read_arms.specs.ReadBodies.{read_parameters, read_items}

pub record MethodParts : Type 0 where
  pub signature : Parameters
  pub trees : List ItemTree

pub record NamedParts : Type 0 where
  pub token : Token
  pub method : MethodParts

abbrev pub parts_of : MethodFound → MethodParts
parts_of method = record {
  signature = parameters_of method.found method.results;
  trees = method.trees;
}

abbrev pub named_parts : NamedFound → NamedParts
named_parts named = record { token = named.token; method = parts_of named.method }

abbrev pub capped_parts : MethodParts → MethodParts
capped_parts method = record {
  signature = changed_parameters capping method.signature;
  trees = map (changed_item capping) method.trees;
}

abbrev pub capped_named : NamedParts → NamedParts
capped_named named = record { token = named.token; method = capped_parts named.method }

abbrev pub read_parts : MethodRead → MethodParts
read_parts method = record
    { signature = read_parameters method.parameters; trees = read_items method.body }

abbrev pub read_named : NamedRead → NamedParts
read_named named = record { token = named.name; method = read_parts named.method }

abbrev pub parts_depth : MethodParts → ℕ
parts_depth method = max (parameters_depth method.signature) (body_depth (body_of method.trees))

abbrev pub MethodReadDepth : ℕ → ℕ → Option MethodRead → Type 0
MethodReadDepth old new None = ⊤
MethodReadDepth old new (Some method) = new ≡ max old (parts_depth (read_parts method))

abbrev pub NamedDepth : ℕ → ℕ → Option NamedRead → Type 0
NamedDepth old new None = ⊤
NamedDepth old new (Some named) = new ≡ max old (parts_depth (read_parts named.method))

-- as a local method
abbrev pub method_of_parts : Token → NamedParts → LocalMethod
method_of_parts word named =
    local_method word named.token named.method.signature (body_of named.method.trees)
