-- Types, parameters and results, by what is outside.
use Rattle.std.specs.Prelude.{ℕ, ◌+◌, List, [], ◌∷◌, map, Option, Some, None, Result, Ok, Err}
use Rattle.std.specs.Option.{option_map, is_some}
use Rattle.dy_base.specs.Folding.{folded}
use Rattle.dy_base.specs.declared.fault.Fault.{Fault}
use Rattle.dy_tree.specs.declared.token.Token.{Token}
use Rattle.dy_term.specs.declared.types.DyType.{DyType}
use Rattle.dy_term.specs.declared.types.Params.{Params}
use Rattle.dy_term.specs.declared.types.Results.{Results}
use Rattle.dy_term.specs.Types.{CoreType, CoreKey, CoreParams, CoreResults}
use Rattle.dy_names.specs.Naming.{Locals}
use Rattle.dy_names.specs.Outside.{Outside}
use Rattle.dy_binding.specs.declared.progress.Progress.{Progress}
use Rattle.dy_binding.specs.Reads.{Reads, told}

-- the type of one with a fault is never given to anyone
abbrev pub type_or : Result DyType Fault → DyType
type_or (Ok type) = type
type_or (Err fault) = record { members = [] }

abbrev pub told_of : Result DyType Fault → Progress → Progress
told_of (Ok type) p = p
told_of (Err fault) p = told fault p

module _ (out : Outside) where
  abbrev pub read_type : CoreType → Reads DyType
  read_type declared locals p =
      let t = out.type locals declared in
      (type_or t, told_of t p)

  -- types one after the other
  abbrev pub read_types : List CoreType → Reads (List DyType)
  read_types [] locals p = ([], p)
  read_types (declared ∷ rest) locals p =
      let t = read_type declared locals p in
      let r = read_types rest locals t.1 in
      (t.0 ∷ r.0, r.1)

  abbrev pub read_some : Option CoreType → Reads (Option DyType)
  read_some None locals p = (None, p)
  read_some (Some declared) locals p =
      let t = read_type declared locals p in
      (Some t.0, t.1)

  -- types of locals, which have the numbers from one on
  abbrev pub read_numbered : {A : Type 0} → List (A × CoreType) → ℕ → Reads (List (ℕ × DyType))
  read_numbered [] n locals p = ([], p)
  read_numbered (typed ∷ rest) n locals p =
      let t = read_type typed.1 locals p in
      let r = read_numbered rest (n + 1) locals t.1 in
      ((n, t.0) ∷ r.0, r.1)

  abbrev pub read_results : CoreResults → Reads Results
  read_results results locals p =
      let r = read_types results.required locals p in
      let f = read_some results.rest locals r.1 in
      (record { required = r.0; rest = f.0 }, f.1)

  -- the locals and the types of keyword parameters, where these locals are in force
  abbrev pub key_types : Locals → List CoreKey → List (Token × Result DyType Fault)
  key_types locals keys = map (λ k. (k.variable, out.type locals k.declared)) keys

abbrev pub key_list : Option (List CoreKey) → List CoreKey
key_list None = []
key_list (Some keys) = keys

-- the shape of a parameter list with these types
abbrev pub shape_of : CoreParams → List DyType → Params
shape_of params types =
    record {
      required = types;
      rest = is_some params.rest;
      keys = option_map (λ keys. map (λ k. folded k.keyword.text) keys) params.keys;
      all_keys = params.all_keys;
    }
