use Rattle.std.proofs.Common.{◌≡◌, Option, Some, ◌∷◌, ◌++◌, [], codes, option_map, sym, ap, subst, ◌∙◌}
use Rattle.std.proofs.lemmas.List.{map-append}
use Rattle.std.proofs.lemmas.Result.{IfOk-weaker}
use Rattle.dy_tree.specs.declared.token.Token.{Token}
use Rattle.dy_tree.specs.declared.variables.Variable.{Variable}
use Rattle.dy_tree.specs.declared.variables.Variables.{Variables}
use Rattle.dy_tree.specs.Fragments.{seen_fragment, seen_fragments}
use Rattle.dy_rules.specs.Arguments.{is_comma_fragment}
use Rattle.dy_rules.specs.Fragments.{items_of}
use Rattle.dy_rules.specs.TypeReading.{marked, variable_items, name_items, bind_items}
use Rattle.dy_read_types.specs.VariableFronts.{read_variable, read_variables, capped_variable, VariableDepth}
use Rattle.dy_read_types.specs.Targets.{read_bound, capped_bound}
use Rattle.dy_read_types.proofs.Endings.{ending_read, ending_ends}
use Rattle.dy_read_types.proofs.VariableParts.{deeper}
use Rattle.dy_read_types.proofs.targets.bind_items.Goals as goal

pub loop-division-preserved : goal.loop-division-preserved
loop-division-preserved c =
    let same = λ (token : Token). token in
    let list = seen_fragments c.loop-division.rest.now in
    let first = items_of (seen_fragments c.in-Some.division.piece.now) in
    let some : Some (read_variable c.in-Some-2.variable) ≡ option_map capped_variable (variable_items first) = ap (option_map read_variable) (sym c.in-Some-2.is) ∙ c.in_ok-variable.ensures.found in
    let pushed : read_variables c.push.new.self.items ≡ read_variables c.loop-division.variables.items ++ read_variable c.in-Some-2.variable ∷ [] = ap read_variables c.in_ok-push-in-Some-2.ensures.items ∙ map-append read_variable c.loop-division.variables.items (c.in-Some-2.variable ∷ []) in
    let more : VariableDepth c.loop-division.depth c.variable_items.new.depth (Some c.in-Some-2.variable) = subst (λ (found : Option Variable). VariableDepth c.loop-division.depth c.variable_items.new.depth found) c.in-Some-2.is c.in_ok-variable.ensures.depth in
    record {
      read =
          c.loop-division.invariant.read
          ∙ ending_read capped_variable same is_comma_fragment (marked (codes "#rest")) variable_items name_items (read_variables c.loop-division.variables.items) (read_variables c.push.new.self.items) (read_variable c.in-Some-2.variable) list first
          (seen_fragment c.in-Some.division.separator.now) (seen_fragments c.in-Some.division.behind.now) c.in-Some.ensures.pieces some pushed;
      depth = deeper c.args.depth.now c.loop-division.depth c.variable_items.new.depth c.loop-division.variables.items c.push.new.self.items c.in-Some-2.variable c.in_ok-push-in-Some-2.ensures.items c.loop-division.invariant.depth more;
    }

pub returns-clause-found : goal.returns-clause-found
returns-clause-found c =
    let same = λ (token : Token). token in
    let from =
    sym (c.loop-division.invariant.read
    ∙ ending_ends capped_variable same is_comma_fragment (marked (codes "#rest")) variable_items name_items (read_variables c.loop-division.variables.items) (seen_fragments c.loop-division.rest.now) c.in_default.ensures.pieces)
    in
    IfOk-weaker c.last_bound.result _ (λ (found : Option Variables). option_map read_bound found ≡ option_map capped_bound (bind_items (items_of (seen_fragments c.args.fragments.now)))) (λ found e. e ∙ from) c.last_bound.ensures.found
