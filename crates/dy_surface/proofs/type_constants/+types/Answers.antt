use Rattle.std.proofs.Common.{◌≡◌, ◌<◌, ◌+◌, ◌++◌, ◌∷◌, List, [], length, map, drop, sym, ap, ◌∙◌, arith}
use Rattle.std.specs.Prelude.{Option, Some, None, option_map}
use Rattle.std.proofs.lemmas.List.{map-append}
use Rattle.std.proofs.lemmas.Result.{IfOk-weaker}
use Rattle.dy_tree.specs.declared.expression.Expression.{Expression}
use Rattle.dy_term.specs.declared.draft.DraftType.{DraftType}
use Rattle.dy_term.specs.Types.{CoreType, seen_type}
use Rattle.dy_rules.specs.SeenForms.{seen_tree, seen_argument}
use Rattle.dy_desugar.specs.Table.{name_in}
use Rattle.dy_rules.specs.Trees.{arguments_of}
use Rattle.dy_surface.specs.TypeConstants.{type_in, types_in}
use Rattle.dy_surface.proofs.Calls.{at_named, at_unnamed}
use Rattle.dy_surface.proofs.Statements.{no_type}
use Rattle.dy_surface.proofs.Steps.{type_found}
use Rattle.dy_surface.proofs.type_constants.+types.Goals as goal

pub type_in-returns-in-Some : goal.type_in-returns-in-Some
type_in-returns-in-Some t c =
    let named : name_in (seen_tree c.in-Call.function.value) ≡ Some c.in-Some.word.now = sym (c.in-Some.ensures ∙ ap (λ (tree : Expression). name_in (seen_tree tree)) c.deref.ensures) in
    let from = ap (λ (tree : Expression). type_in (seen_tree tree)) c.in-Call.is ∙ at_named c.in-Call.function c.in-Call.arguments c.in-Some.word.now named in
    IfOk-weaker c.form_type.result _ (λ (found : Option DraftType). option_map seen_type found ≡ type_in (seen_tree c.args.expression.now)) (λ found is. is ∙ sym from) c.form_type.ensures

pub type_in-returns-in-None : goal.type_in-returns-in-None
type_in-returns-in-None t c =
    let none : name_in (seen_tree c.in-Call.function.value) ≡ None = sym (c.in-None.ensures ∙ ap (λ (tree : Expression). name_in (seen_tree tree)) c.deref.ensures) in
    sym (ap (λ (tree : Expression). type_in (seen_tree tree)) c.in-Call.is ∙ at_unnamed c.in-Call.function c.in-Call.arguments none)

pub type_in-returns-in_default : goal.type_in-returns-in_default
type_in-returns-in_default t c = no_type c.args.expression.now c.in_default.not-Call c.in_default.not-Name

pub types_in-loop-argument-preserved : goal.types_in-loop-argument-preserved
types_in-loop-argument-preserved t c =
    let items = c.deref-argument-items.result.now in
    let before = map seen_type c.loop-argument.types.items in
    let lt : c.loop-argument.argument-index < length items = omega arith in
    let found = sym c.in_ok-found.ensures ∙ ap (option_map seen_type) c.in-Some.is in
    let more = ap (map seen_type) c.in_ok-push-in-Some.ensures.items ∙ map-append seen_type c.loop-argument.types.items (c.in-Some.found ∷ []) in
    let rest = types_in (arguments_of (map seen_argument (drop (c.loop-argument.argument-index + 1) items))) in
    ap (λ (front : List CoreType). option_map (λ others. front ++ others) rest) more
    ∙ type_found before items c.loop-argument.argument-index c.argument-item.result (seen_type c.in-Some.found) (types_in (arguments_of (map seen_argument items))) lt c.argument-item.is found c.loop-argument.invariant
