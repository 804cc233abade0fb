-- Which constructs run where the machine runs lowered code. It is to be the table of
-- `dy_construct_parts`.
use Rattle.std.specs.Prelude.{Bool, true, false}
use Rattle.dy_construct_parts.specs.declared.construct.Construct.{Construct}
use Rattle.dy_construct_parts.specs.declared.construct.Construct.TheVariants as constructs

abbrev pub runs : Construct → Bool
-- forms
runs constructs.PrintingCall = true
runs constructs.OtherDirectives = true
runs constructs.ExpressionForm = true
runs constructs.ConstantDefinition = true
runs constructs.VariableDefinition = true
runs constructs.MethodDefinition = true
runs constructs.FunctionDefinition = true
runs constructs.Inlining = true
-- parameters
runs constructs.NoParameter = true
runs constructs.RequiredParameter = true
runs constructs.SeveralParameters = true
runs constructs.Results = true
-- parts of bodies
runs constructs.EmptyBody = true
runs constructs.SeveralItems = true
runs constructs.Let = true
runs constructs.SeveralVariables = true
runs constructs.LocalMethods = true
-- expressions
runs constructs.Assignment = true
runs constructs.Addition = true
runs constructs.Subtraction = true
runs constructs.Multiplication = true
runs constructs.And = true
runs constructs.Or = true
runs constructs.Identical = true
runs constructs.Less = true
runs constructs.Greater = true
runs constructs.AtMost = true
runs constructs.AtLeast = true
runs constructs.NotIdentical = true
runs constructs.ComparisonValue = true
runs constructs.Negation = true
runs constructs.Not = true
runs constructs.Call = true
runs constructs.ComputedCall = true
runs constructs.NoArgument = true
runs constructs.SeveralArguments = true
runs constructs.Member = true
runs constructs.Name = true
runs constructs.Integer = true
runs constructs.String = true
runs constructs.Boolean = true
-- statements
runs constructs.Begin = true
runs constructs.AnonymousMethod = true
runs constructs.If = true
runs constructs.Elseif = true
runs constructs.NoElse = true
runs constructs.OtherTest = true
runs constructs.Unless = true
runs constructs.While = true
runs constructs.Until = true
runs constructs.Case = true
runs constructs.Select = true
runs constructs.SelectTest = true
runs constructs.Otherwise = true
runs constructs.For = true
runs constructs.ThenClause = true
runs constructs.FromClause = true
runs constructs.Limit = true
runs constructs.Step = true
runs constructs.Stop = true
runs constructs.Finally = true
runs _ = false
