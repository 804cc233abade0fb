-- That what the front end reads is in scope.
use Rattle.std.specs.Prelude.{◌≡◌, ◌<◌, ℕ, true, [], ◌∷◌, None}
use Rattle.dy_term.specs.Drafts.{Core, CoreLambda}
use Rattle.dy_names.specs.declared.denotation.Denotation.{Denotation}
use Rattle.dy_names.specs.declared.denotation.Denotation.TheVariants as stands
use Rattle.dy_names.specs.Naming.{Locals}
use Rattle.dy_names.specs.Outside.{Outside}
use Rattle.dy_binding.specs.declared.progress.Progress.{Progress}
use Rattle.dy_resolution.specs.Terms.{core_term, core_lambda}
use Rattle.dy_meaning.specs.Numbers.{numbers_in}
use Rattle.dy_lowering_whole.specs.valid.Scoped.{is_scoped, is_lambda_scoped}
use Rattle.dy_lowering_whole.specs.Lowered.{is_lowered, is_lambda_lowered}

-- What a name stands for, where it is a local, has a number below this one.
abbrev pub Below : ℕ → Denotation → Type 0
Below n (stands.Local k) = k < n
Below n stands.NextMethod = Unit {0}
Below n stands.NoMethod = Unit {0}

-- so for all locals in force
abbrev pub AreBelow : ℕ → Locals → Type 0
AreBelow n [] = Unit {0}
AreBelow n (local ∷ locals) = Below n local.1 × AreBelow n locals

-- A term that runs by itself: where nothing is wrong with its draft, it is in scope of a body with
-- as many locals as it has numbers.
abbrev pub TermsInScope : Outside → Type 0
TermsInScope out = (draft : Core) (p : Progress) → p.next ≡ 0 →
    let read = core_term out draft [] p in
    read.1.first ≡ None → is_lowered read.0 ≡ true
    → is_scoped read.0 0 (numbers_in read.0) ≡ true

-- the lambda of a row, around which no names stand for locals
abbrev pub LambdasInScope : Outside → Type 0
LambdasInScope out = (draft : CoreLambda) (next : Denotation) (locals : Locals) (p : Progress)
    → p.next ≡ 0 → Below 0 next → AreBelow 0 locals →
    let read = core_lambda out draft next locals p in
    read.1.first ≡ None → is_lambda_lowered read.0 ≡ true
    → is_lambda_scoped read.0 0 0 ≡ true
