-- Which constructs of the language run today (own).
use Rattle.std.specs.Prelude.{ℕ, Bool, true, false, ◌==◌, List, [], ◌∷◌, Option, Some, None}
use Rattle.std.specs.Prelude.{if◌then◌else◌}
use Rattle.std.specs.Option.{option_or}
use Rattle.dy_construct_parts.specs.declared.construct.Construct.{Construct}
use Rattle.dy_construct_parts.specs.declared.construct.Construct.TheVariants as constructs

-- The table: a construct that runs has a line.
unfoldable pub has_come : Construct → Bool
-- forms
has_come constructs.PrintingCall = true
has_come constructs.OtherDirectives = true
has_come constructs.ExpressionForm = true
has_come constructs.ConstantDefinition = true
has_come constructs.VariableDefinition = true
has_come constructs.MethodDefinition = true
has_come constructs.FunctionDefinition = true
has_come constructs.Inlining = true
-- parameters
has_come constructs.NoParameter = true
has_come constructs.RequiredParameter = true
has_come constructs.SeveralParameters = true
has_come constructs.Results = true
-- parts of bodies
has_come constructs.EmptyBody = true
has_come constructs.SeveralItems = true
has_come constructs.Let = true
has_come constructs.SeveralVariables = true
has_come constructs.LocalMethods = true
-- expressions
has_come constructs.Assignment = true
has_come constructs.Addition = true
has_come constructs.Subtraction = true
has_come constructs.Multiplication = true
has_come constructs.And = true
has_come constructs.Or = true
has_come constructs.Identical = true
has_come constructs.Less = true
has_come constructs.Greater = true
has_come constructs.AtMost = true
has_come constructs.AtLeast = true
has_come constructs.NotIdentical = true
has_come constructs.ComparisonValue = true
has_come constructs.Negation = true
has_come constructs.Not = true
has_come constructs.Call = true
has_come constructs.ComputedCall = true
has_come constructs.NoArgument = true
has_come constructs.SeveralArguments = true
has_come constructs.Member = true
has_come constructs.Name = true
has_come constructs.Integer = true
has_come constructs.String = true
has_come constructs.Boolean = true
-- statements
has_come constructs.Begin = true
has_come constructs.AnonymousMethod = true
has_come constructs.If = true
has_come constructs.Elseif = true
has_come constructs.NoElse = true
has_come constructs.OtherTest = true
has_come constructs.Unless = true
has_come constructs.While = true
has_come constructs.Until = true
has_come constructs.Case = true
has_come constructs.Select = true
has_come constructs.SelectTest = true
has_come constructs.Otherwise = true
has_come constructs.For = true
has_come constructs.ThenClause = true
has_come constructs.FromClause = true
has_come constructs.Limit = true
has_come constructs.Step = true
has_come constructs.Stop = true
has_come constructs.Finally = true
has_come _ = false

-- a construct, if it has not come
unfoldable pub absent : Construct → Option Construct
absent construct = if has_come construct then None else Some construct

-- the first of them that has not come
abbrev pub first_absent : List Construct → Option Construct
first_absent [] = None
first_absent (construct ∷ others) = option_or (absent construct) (first_absent others)

-- what a count other than 1 is
abbrev pub by_count : Construct → Construct → ℕ → List Construct
by_count none several count =
    if count == 0 then none ∷ [] else if count == 1 then [] else several ∷ []

abbrev pub where_true : Construct → Bool → List Construct
where_true construct stands = if stands then construct ∷ [] else []

-- what stands there, if something does
abbrev pub where_given : {X : Type 0} → Construct → Option X → List Construct
where_given construct None = []
where_given construct (Some x) = construct ∷ []
