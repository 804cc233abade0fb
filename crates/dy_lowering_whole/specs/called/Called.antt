-- Terms whose code calls generic functions that are there.
use Rattle.std.specs.Prelude.{◌≡◌, ℕ, Some, IsSome}
use Rattle.dy_base.specs.declared.ids.BindingId.{BindingId}
use Rattle.dy_base.specs.declared.ids.What.TheVariants as whats
use Rattle.dy_tree.specs.declared.token.Token.{Token}
use Rattle.dy_term.specs.declared.term.Term.{Term}
use Rattle.dy_term.specs.declared.term.Lambda.{Lambda}
use Rattle.dy_term.specs.Drafts.{Core, CoreLambda}
use Rattle.dy_names.specs.declared.denotation.Denotation.{Denotation}
use Rattle.dy_names.specs.Naming.{Locals}
use Rattle.dy_names.specs.Outside.{Outside}
use Rattle.dy_binding.specs.declared.progress.Progress.{Progress}
use Rattle.dy_resolution.specs.Terms.{core_term, core_lambda}
use Rattle.dy_code.specs.declared.unit.Linked.{Linked}
use Rattle.dy_code.specs.Programs.{generic_row}
use Rattle.dy_code.specs.Validity.{Every}
use Rattle.dy_meaning.specs.Lambdas.{lambdas_in, lambdas_within}
use Rattle.dy_meaning.specs.Layouts.{Layout}
use Rattle.dy_lowered.specs.Bodies.{lambda_body}
use Rattle.dy_lowered.specs.Terms.{code_of}
use Rattle.dy_lowering_whole.specs.valid.Valid.{FlatFound}

-- Each generic function that the body of a lambda calls is there, whatever the number of the first
-- closure inside of it.
abbrev pub CallsKnown : Linked → Lambda → Type 0
CallsKnown linked lambda = (number : ℕ)
    → Every (FlatFound linked) (lambda_body lambda number).code

-- so in a term, wherever it stands, and in the lambdas inside of it
pub record TermKnown (linked : Linked) (term : Term) : Type 0 where
  pub code : (layout : Layout) (number : ℕ)
      → Every (FlatFound linked) (code_of layout term number)
  pub inner : Every (CallsKnown linked) (lambdas_in term)

-- and in a lambda, and those inside of it
abbrev pub LambdaKnown : Linked → Lambda → Type 0
LambdaKnown linked lambda =
    CallsKnown linked lambda × Every (CallsKnown linked) (lambdas_within lambda)

-- each name of a generic function is of one that is there
abbrev pub NamesKnown : Linked → Outside → Type 0
NamesKnown linked out = (token : Token) (owner : BindingId) → out.owner token ≡ Some owner
    → owner.what ≡ whats.Generic → IsSome (generic_row linked (record { 0 = owner.at }))

-- Where names are such, what is read of every draft calls what is there.
abbrev pub TermsCallKnown : Type 0
TermsCallKnown = (linked : Linked) (out : Outside) → NamesKnown linked out
    → (draft : Core) (locals : Locals) (p : Progress)
    → TermKnown linked (core_term out draft locals p).0

abbrev pub LambdasCallKnown : Type 0
LambdasCallKnown = (linked : Linked) (out : Outside) → NamesKnown linked out
    → (draft : CoreLambda) (next : Denotation) (locals : Locals) (p : Progress)
    → LambdaKnown linked (core_lambda out draft next locals p).0
