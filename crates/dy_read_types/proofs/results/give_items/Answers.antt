use Rattle.std.proofs.Common.{◌≡◌, Option, Some, ◌∷◌, ◌++◌, [], codes, option_map, sym, ap, subst, ◌∙◌}
use Rattle.std.proofs.lemmas.List.{map-append}
use Rattle.std.proofs.lemmas.Result.{IfOk-weaker}
use Rattle.dy_rules.specs.Signatures.{rest_variable, give_items}
use Rattle.dy_tree.specs.declared.variables.Variable.{Variable}
use Rattle.dy_read_types.specs.declared.results.Given.{Given}
use Rattle.dy_tree.specs.Fragments.{seen_fragment, seen_fragments}
use Rattle.dy_rules.specs.Arguments.{is_comma_fragment}
use Rattle.dy_rules.specs.Fragments.{items_of}
use Rattle.dy_rules.specs.TypeReading.{marked, variable_items}
use Rattle.dy_read_types.specs.VariableFronts.{read_variable, read_variables, capped_variable, VariableDepth}
use Rattle.dy_read_types.specs.Results.{read_given, capped_given}
use Rattle.dy_read_types.proofs.Endings.{ending_read, ending_ends}
use Rattle.dy_read_types.proofs.VariableParts.{deeper}
use Rattle.dy_read_types.proofs.results.give_items.Goals as goal

pub loop-division-preserved : goal.loop-division-preserved
loop-division-preserved c =
    let list = seen_fragments c.loop-division.rest.now in
    let first = items_of (seen_fragments c.in-Some.division.piece.now) in
    let some : Some (read_variable c.in-Some-2.variable) ≡ option_map capped_variable (variable_items first) = ap (option_map read_variable) (sym c.in-Some-2.is) ∙ c.in_ok-variable.ensures.found in
    let pushed : read_variables c.push.new.self.items ≡ read_variables c.loop-division.variables.items ++ read_variable c.in-Some-2.variable ∷ [] = ap read_variables c.in_ok-push-in-Some-2.ensures.items ∙ map-append read_variable c.loop-division.variables.items (c.in-Some-2.variable ∷ []) in
    let more : VariableDepth c.loop-division.depth c.variable_items.new.depth (Some c.in-Some-2.variable) = subst (λ (found : Option Variable). VariableDepth c.loop-division.depth c.variable_items.new.depth found) c.in-Some-2.is c.in_ok-variable.ensures.depth in
    record {
      read =
          c.loop-division.invariant.read
          ∙ ending_read capped_variable capped_variable is_comma_fragment (marked (codes "#rest")) variable_items rest_variable (read_variables c.loop-division.variables.items) (read_variables c.push.new.self.items) (read_variable c.in-Some-2.variable) list first
          (seen_fragment c.in-Some.division.separator.now) (seen_fragments c.in-Some.division.behind.now) c.in-Some.ensures.pieces some pushed;
      depth = deeper c.args.depth.now c.loop-division.depth c.variable_items.new.depth c.loop-division.variables.items c.push.new.self.items c.in-Some-2.variable c.in_ok-push-in-Some-2.ensures.items c.loop-division.invariant.depth more;
    }

pub returns-clause-found : goal.returns-clause-found
returns-clause-found c =
    let from =
    sym (c.loop-division.invariant.read
    ∙ ending_ends capped_variable capped_variable is_comma_fragment (marked (codes "#rest")) variable_items rest_variable (read_variables c.loop-division.variables.items) (seen_fragments c.loop-division.rest.now) c.in_default.ensures.pieces)
    in
    IfOk-weaker c.last_given.result _ (λ (found : Option Given). option_map read_given found ≡ option_map capped_given (give_items (items_of (seen_fragments c.args.fragments.now)))) (λ found e. e ∙ from) c.last_given.ensures.found
