use Rattle.std.proofs.Common.{◌≡◌, [], ◌∷◌, ◌++◌, Option, Some, None, option_map, codes, sym, ap, subst, ◌∙◌, arith}
use Rattle.std.proofs.lemmas.List.{map-append}
use Rattle.dy_tree.specs.declared.variables.Variable.{Variable}
use Rattle.dy_tree.specs.Fragments.{seen_fragments}
use Rattle.dy_rules.specs.Fragments.{items_of}
use Rattle.dy_rules.specs.Signatures.{rest_variable}
use Rattle.dy_rules.specs.TypeReading.{marked, variable_items}
use Rattle.dy_read_types.specs.VariableFronts.{read_variable, read_variables, capped_variable, VariableDepth}
use Rattle.dy_read_types.proofs.Endings.{last_read, last_fails}
use Rattle.dy_read_types.proofs.VariableParts.{deeper}
use Rattle.dy_read_types.proofs.results.last_given.Goals as goal

pub returns-in_ok-push-in-Some-2-clause-found : goal.returns-in_ok-push-in-Some-2-clause-found
returns-in_ok-push-in-Some-2-clause-found c =
    let fragments = seen_fragments c.args.fragments.now in
    let some : Some (read_variable c.in-Some-2.variable) ≡ option_map capped_variable (variable_items (items_of fragments)) = ap (option_map read_variable) (sym c.in-Some-2.is) ∙ c.in_ok-variable-2.ensures.found in
    let pushed : read_variables c.push.new.self.items ≡ read_variables c.args.variables.items ++ read_variable c.in-Some-2.variable ∷ [] = ap read_variables c.in_ok-push-in-Some-2.ensures.items ∙ map-append read_variable c.args.variables.items (c.in-Some-2.variable ∷ []) in
    last_read capped_variable capped_variable (marked (codes "#rest")) variable_items rest_variable (read_variables c.args.variables.items) (read_variables c.push.new.self.items) (read_variable c.in-Some-2.variable) fragments c.if-marked.ensures some pushed

pub returns-in-None-2-clause-found : goal.returns-in-None-2-clause-found
returns-in-None-2-clause-found c =
    let fragments = seen_fragments c.args.fragments.now in
    let none : None ≡ option_map capped_variable (variable_items (items_of fragments)) = ap (option_map read_variable) (sym c.in-None-2.is) ∙ c.in_ok-variable-2.ensures.found in
    last_fails capped_variable capped_variable (marked (codes "#rest")) variable_items rest_variable (read_variables c.args.variables.items) fragments c.if-marked.ensures none

pub returns-in_ok-push-in-Some-2-clause-depth : goal.returns-in_ok-push-in-Some-2-clause-depth
returns-in_ok-push-in-Some-2-clause-depth c outer e =
    let more : VariableDepth c.args.depth.now c.variable_items.new.depth (Some c.in-Some-2.variable) = subst (λ (found : Option Variable). VariableDepth c.args.depth.now c.variable_items.new.depth found) c.in-Some-2.is c.in_ok-variable-2.ensures.depth in
    let deep = deeper outer c.args.depth.now c.variable_items.new.depth c.args.variables.items c.push.new.self.items c.in-Some-2.variable c.in_ok-push-in-Some-2.ensures.items e more in
    omega arith
