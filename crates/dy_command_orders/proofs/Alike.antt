-- Commands over libraries that are alike come to the same.
use Rattle.std.proofs.Common.{◌≡◌, ◌⊎◌, ◌↔◌, inl, inr, ℕ, List, Option, Some, None, Result, Ok, Err, refl, sym, ap, ◌∙◌, subst}
use Rattle.dy_base.specs.Folding.{folded}
use Rattle.dy_io.specs.Files.{FileMap}
use Rattle.dy_views.specs.Views.{Name, number_of}
use Rattle.dy_libraries.specs.declared.libraries.Libraries.{Libraries}
use Rattle.dy_libraries.specs.Commands.{built_in}
use Rattle.dy_sources.specs.declared.refused.Refused.{Refused}
use Rattle.dy_sources.specs.Refusals.{unknown_main}
use Rattle.dy_sources.specs.Libraries.{AreRead}
use Rattle.dy_sources.proofs.Chains.{answers_are_one}
use Rattle.dy_orders.specs.Orders.{HasAlike, AreAlike, reordered}
use Rattle.dy_orders.proofs.Ordering.{orders_are_alike}
use Rattle.dy_build.specs.Words.{Word, Command, build, check, lids_of}
use Rattle.dy_build.specs.Outcome.{Report, main_of, Runs, Does, Answers, ComesTo}
use Rattle.dy_command_orders.specs.Commands.{ComeToTheSame, BuildsAreAlike, ChecksAreAlike}

-- a name that no library of the one has none of the other has
no_name : (one other : Libraries) → HasAlike other one → (name : Name) → number_of one.compiled.exports name ≡ None → (o : Option ℕ) → number_of other.compiled.exports name ≡ o → o ≡ None
no_name one other back name none None is = refl
no_name one other back name none (Some place) is = let (number, at, same) = back name place is in absurd (never number (sym none ∙ at))
  where
    never : (number : ℕ) → None ≡ Some number → ⊥
    never number e = cc

runs_alike : (one other : Libraries) → HasAlike one other → HasAlike other one → (fuel : ℕ) (main : Word) (report : Report) → Runs fuel (Some main) one report → Runs fuel (Some main) other report
runs_alike one other alike back fuel main report (inl (program, (number, at, is), reports)) =
    let (place, there, same) = alike (folded main) number at in
    inl (program, (place, there, is ∙ same), reports)
runs_alike one other alike back fuel main report (inr (why, (name, is, none, told), says)) =
    inr (why, (main, refl, no_name one other back (folded main) (name_none name is none) (number_of other.compiled.exports (folded main)) refl, told_main name is told), says)
  where
    same_name : (name : Word) → (◌≡◌ {A = Option Word} (Some main) (Some name)) → name ≡ main
    same_name name e = cc

    name_none : (name : Word) → (◌≡◌ {A = Option Word} (Some main) (Some name)) → main_of one (Some main) ≡ None → number_of one.compiled.exports (folded main) ≡ None
    name_none name e none = none

    told_main : (name : Word) → (◌≡◌ {A = Option Word} (Some main) (Some name)) → why ≡ unknown_main name → why ≡ unknown_main main
    told_main name e told = told ∙ ap unknown_main (same_name name e)

-- what a command comes to is over the libraries that are read
module _ (files : FileMap) (lids : List (List ℕ)) (libraries : Libraries) (are : AreRead files built_in lids (Ok libraries)) where
  over : (command : Command) (report : Report) → lids_of command ≡ lids → ComesTo (Some command) files report → Does command libraries report
  over command report same (read, is, answers) =
      let one : read ≡ Ok libraries = answers_are_one files built_in lids read (Ok libraries) (subst (λ (l : List (List ℕ)). AreRead files built_in l read) same is) are in
      subst (λ (r : Result Libraries Refused). Answers command r report) one answers

  under : (command : Command) (report : Report) → lids_of command ≡ lids → Does command libraries report → ComesTo (Some command) files report
  under command report same does = (Ok libraries, subst (λ (l : List (List ℕ)). AreRead files built_in l (Ok libraries)) (sym same) are, does)

pub builds_are_alike : BuildsAreAlike
builds_are_alike files lids libraries order are is admissible fuel main report =
    let (others, read, (alike, back)) = orders_are_alike files lids libraries order are is admissible in
    let here = build fuel (Some main) lids in
    let there = build fuel (Some main) (reordered lids order) in (
      (λ comes. under files (reordered lids order) others read there report refl (runs_alike libraries others alike back fuel main report (over files lids libraries are here report refl comes))),
      (λ comes. under files lids libraries are here report refl (runs_alike others libraries back alike fuel main report (over files (reordered lids order) others read there report refl comes))),
    )

pub checks_are_alike : ChecksAreAlike
checks_are_alike files lids libraries order are is admissible report =
    let (others, read, alike) = orders_are_alike files lids libraries order are is admissible in (
      (λ comes. under files (reordered lids order) others read (check (reordered lids order)) report refl (over files lids libraries are (check lids) report refl comes)),
      (λ comes. under files lids libraries are (check lids) report refl (over files (reordered lids order) others read (check (reordered lids order)) report refl comes)),
    )
