-- Each construct that has come runs.
use Rattle.std.proofs.Common.{◌≡◌, Bool, true, false, List, [], ◌∷◌, Some, None, refl, if◌then◌else◌}
use Rattle.std.specs.Option.{option_or}
use Rattle.std.specs.List.{list_all}
use Rattle.dy_construct_parts.specs.declared.construct.Construct.{Construct}
use Rattle.dy_construct_parts.specs.declared.construct.Construct.TheVariants as constructs
use Rattle.dy_construct_parts.specs.Table.{has_come, absent, first_absent}
use Rattle.dy_scoped_rows.proofs.terms.Facts.{no_fault, untrue, and_true}
use Rattle.dy_lowered_forms.specs.Table.{runs}

come_runs : (construct : Construct) → has_come construct ≡ true → runs construct ≡ true
unfolding has_come
come_runs constructs.PrintingCall is = refl
come_runs constructs.OtherDirectives is = refl
come_runs constructs.ExpressionForm is = refl
come_runs constructs.ClassDefinition is = untrue is
come_runs constructs.ConstantDefinition is = refl
come_runs constructs.VariableDefinition is = refl
come_runs constructs.GenericDefinition is = untrue is
come_runs constructs.MethodDefinition is = refl
come_runs constructs.FunctionDefinition is = refl
come_runs constructs.DomainDefinition is = untrue is
come_runs constructs.MacroDefinition is = untrue is
come_runs constructs.Open is = untrue is
come_runs constructs.Sealed is = untrue is
come_runs constructs.Abstract is = untrue is
come_runs constructs.Concrete is = untrue is
come_runs constructs.Primary is = untrue is
come_runs constructs.Free is = untrue is
come_runs constructs.Inlining is = refl
come_runs constructs.OtherAdjective is = untrue is
come_runs constructs.Slot is = untrue is
come_runs constructs.ConstantSlot is = untrue is
come_runs constructs.SlotAllocation is = untrue is
come_runs constructs.TypedSlot is = untrue is
come_runs constructs.InitialValue is = untrue is
come_runs constructs.InitFunction is = untrue is
come_runs constructs.InitKeyword is = untrue is
come_runs constructs.RequiredInitKeyword is = untrue is
come_runs constructs.NamedSetter is = untrue is
come_runs constructs.NoParameter is = refl
come_runs constructs.RequiredParameter is = refl
come_runs constructs.SeveralParameters is = refl
come_runs constructs.TypedParameter is = untrue is
come_runs constructs.SingletonParameter is = untrue is
come_runs constructs.NextParameter is = untrue is
come_runs constructs.RestParameter is = untrue is
come_runs constructs.KeyParameters is = untrue is
come_runs constructs.NamedKeyword is = untrue is
come_runs constructs.TypedKey is = untrue is
come_runs constructs.KeyDefault is = untrue is
come_runs constructs.AllKeys is = untrue is
come_runs constructs.Results is = refl
come_runs constructs.TypedResult is = untrue is
come_runs constructs.RestResult is = untrue is
come_runs constructs.NamedType is = untrue is
come_runs constructs.SingletonType is = untrue is
come_runs constructs.UnionType is = untrue is
come_runs constructs.LimitedType is = untrue is
come_runs constructs.EmptyBody is = refl
come_runs constructs.SeveralItems is = refl
come_runs constructs.Let is = refl
come_runs constructs.SeveralVariables is = refl
come_runs constructs.RestVariable is = untrue is
come_runs constructs.TypedVariable is = untrue is
come_runs constructs.LetHandler is = untrue is
come_runs constructs.LocalMethods is = refl
come_runs constructs.Assignment is = refl
come_runs constructs.Addition is = refl
come_runs constructs.Subtraction is = refl
come_runs constructs.Multiplication is = refl
come_runs constructs.Division is = untrue is
come_runs constructs.Power is = untrue is
come_runs constructs.And is = refl
come_runs constructs.Or is = refl
come_runs constructs.Equal is = untrue is
come_runs constructs.Identical is = refl
come_runs constructs.Less is = refl
come_runs constructs.Greater is = refl
come_runs constructs.AtMost is = refl
come_runs constructs.AtLeast is = refl
come_runs constructs.Unequal is = untrue is
come_runs constructs.NotIdentical is = refl
come_runs constructs.ComparisonValue is = refl
come_runs constructs.Negation is = refl
come_runs constructs.Not is = refl
come_runs constructs.OtherOperator is = untrue is
come_runs constructs.Call is = refl
come_runs constructs.ComputedCall is = refl
come_runs constructs.NoArgument is = refl
come_runs constructs.SeveralArguments is = refl
come_runs constructs.KeywordArgument is = untrue is
come_runs constructs.Element is = untrue is
come_runs constructs.Member is = refl
come_runs constructs.Name is = refl
come_runs constructs.NextMethod is = untrue is
come_runs constructs.Integer is = refl
come_runs constructs.Character is = untrue is
come_runs constructs.String is = refl
come_runs constructs.Boolean is = refl
come_runs constructs.Symbol is = untrue is
come_runs constructs.List is = untrue is
come_runs constructs.DottedTail is = untrue is
come_runs constructs.Vector is = untrue is
come_runs constructs.Begin is = refl
come_runs constructs.AnonymousMethod is = refl
come_runs constructs.If is = refl
come_runs constructs.Elseif is = refl
come_runs constructs.NoElse is = refl
come_runs constructs.OtherTest is = refl
come_runs constructs.Unless is = refl
come_runs constructs.While is = refl
come_runs constructs.Until is = refl
come_runs constructs.Case is = refl
come_runs constructs.Select is = refl
come_runs constructs.SelectTest is = refl
come_runs constructs.Otherwise is = refl
come_runs constructs.Block is = untrue is
come_runs constructs.BlockExit is = untrue is
come_runs constructs.Afterwards is = untrue is
come_runs constructs.Cleanup is = untrue is
come_runs constructs.ExceptionClause is = untrue is
come_runs constructs.For is = refl
come_runs constructs.ThenClause is = refl
come_runs constructs.InClause is = untrue is
come_runs constructs.FromClause is = refl
come_runs constructs.Limit is = refl
come_runs constructs.Step is = refl
come_runs constructs.Stop is = refl
come_runs constructs.Finally is = refl

run_first : (x : Construct) (found : List Construct) (b : Bool) → has_come x ≡ b → option_or (if b then None else Some x) (first_absent found) ≡ None
    → (first_absent found ≡ None → list_all runs found ≡ true) → list_all runs (x ∷ found) ≡ true
run_first x found true come none more = and_true (runs x) (list_all runs found) (come_runs x come) (more none)
run_first x found false come none more = absurd (no_fault x none)

-- where none is absent, all run
pub all_run : (found : List Construct) → first_absent found ≡ None → list_all runs found ≡ true
unfolding absent
all_run [] is = refl
all_run (x ∷ found) is = run_first x found (has_come x) refl is (all_run found)
