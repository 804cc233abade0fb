use Rattle.std.proofs.Common.{rules, tests, ℕ, ◌<◌, ◌↔◌, Any, All, IsTrue, Bool, List, length}
use Rattle.std.specs.Bool.{MatchBool}
use Rattle.std.specs.List.{AllWithin, HoldsAt}
use Rattle.std.proofs.lemmas.Bool.Decides.{when_true}
use Rattle.std.proofs.lemmas.Iterator.{cases_from_all, YieldsList-from_slice}
use Rattle.std.proofs.lemmas.Iterator.Search.{true_from_All}
use Rattle.std.proofs.lemmas.List.Elements.{All-from_all_within}
use Rattle.dy_term.specs.declared.types.Member.{Member}
use Rattle.dy_types.specs.Members.{IsBelow}
use Rattle.dy_types.proofs.types.subtype.Goals as goal

told : (P : Member → Type 0) (xs : List Member) (r : Bool) → MatchBool r (AllWithin P xs 0 (length xs)) ((k : ℕ) × (k < length xs) × HoldsAt (λ x. P x → ⊥) xs k) → IsTrue r ↔ All P xs
told P xs r h = (
  λ t. All-from_all_within P xs (when_true (AllWithin P xs 0 (length xs)) ((k : ℕ) × (k < length xs) × HoldsAt (λ x. P x → ⊥) xs k) t h),
  λ all. true_from_All P (λ x. P x → ⊥) r xs (λ x p q. q p) h all,
)

pub returns : goal.returns
returns c =
    let P : Member → Type 0 = λ m. Any (IsBelow c.args.program.now m) c.args.b.now.members in
    told P c.args.a.now.members _
    (cases_from_all _ _ _ P (λ m. P m → ⊥) c.all.ensures.ran (YieldsList-from_slice c.args.a.now.members cc) (λ x q k. search (rules, tests)) (λ x q k. search (rules, tests)))
