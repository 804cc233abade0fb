-- The parameters in front of `#key`, as the reader gives them.
use Rattle.std.specs.Prelude.{◌≡◌, ℕ, max, ⊤, List, [], ◌∷◌, map, Option, Some, None, option_map}
use Rattle.std.specs.Borrow.{Bor}
use Rattle.dy_tree.specs.declared.fragment.Fragment.{Fragment}
use Rattle.dy_tree.specs.declared.token.Token.{Token}
use Rattle.dy_tree.specs.declared.variables.Required.{Required}
use Rattle.dy_tree.specs.Fragments.{seen_fragments}
use Rattle.dy_rules.specs.Depth.{required_depth}
use Rattle.dy_rules.specs.Signatures.{no_list, after_next, after_rest, after_required}
use Rattle.dy_rules.specs.Trees.{Listed}
use Rattle.dy_rules.specs.Types.{RequiredTree}
use Rattle.dy_rules_depth.specs.Changes.{changed_listed}
use Rattle.dy_rules_depth.specs.Capping.{capping}
use Rattle.dy_read_shapes.specs.declared.list_heads.ListHeads.{ListHeads}
use Rattle.dy_read_shapes.specs.declared.list_heads.ListFront.{ListFront}
use Rattle.dy_read_shapes.specs.ListParts.{keys_listed}
use Rattle.dy_read_parts.specs.Pieces.{IsWithin}
use Rattle.dy_read_shapes.specs.ReadRequired.{read_required}

abbrev pub capped_listed : Listed → Listed
capped_listed found = changed_listed capping found

abbrev pub read_each_required : List Required → List RequiredTree
read_each_required forms = map read_required forms

-- parameters in front of others

abbrev pub rest_each : Option Token → Option Listed → Option Listed
rest_each None found = found
rest_each (Some token) found = after_rest found token

abbrev pub next_each : Option Token → Option Listed → Option Listed
next_each None found = found
next_each (Some token) found = after_next found token

abbrev pub required_each : List RequiredTree → Option Listed → Option Listed
required_each [] found = found
required_each (required ∷ others) found = after_required (required_each others found) required

abbrev pub each_before : List RequiredTree → Option Token → Option Token → Option Listed
    → Option Listed
each_before required next rest found =
    required_each required (next_each next (rest_each rest found))

abbrev pub heads_before : ListHeads → Option Listed → Option Listed
heads_before heads found =
    each_before (read_each_required heads.required.items) heads.next heads.rest found

abbrev pub heads_read : Option ListHeads → Option Listed → Option Listed
heads_read None found = None
heads_read (Some heads) found = heads_before heads found

-- what stands behind them
abbrev pub keys_left : Option (Bor (List Fragment)) → Option Listed
keys_left None = Some no_list
keys_left (Some slice) = keys_listed (seen_fragments slice.now)

abbrev pub heads_found : Option ListFront → Option Listed
heads_found None = None
heads_found (Some front) =
    heads_before front.heads (option_map capped_listed (keys_left front.keys))

-- how deep they are with what was read before
abbrev pub HeadsDepth : ℕ → ℕ → Option ListHeads → Type 0
HeadsDepth old new None = ⊤
HeadsDepth old new (Some heads) =
    new ≡ max old (required_depth (read_each_required heads.required.items))

abbrev pub FrontDepth : ℕ → ℕ → Option ListFront → Type 0
FrontDepth old new None = ⊤
FrontDepth old new (Some front) =
    new ≡ max old (required_depth (read_each_required front.heads.required.items))

-- what stands behind `#key` is nested at most so deep
abbrev pub IsFrontWithin : ℕ → Option ListFront → Type 0
IsFrontWithin n None = ⊤
IsFrontWithin n (Some front) = IsWithin n front.keys
