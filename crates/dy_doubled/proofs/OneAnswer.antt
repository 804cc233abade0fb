-- Forms have one answer.
use Rattle.std.proofs.Common.{◌≡◌, ◌≢◌, Result, Ok, Err, refl, sym, ap, ◌∙◌}
use Rattle.dy_base.specs.declared.fault.Place.{Place}
use Rattle.dy_base.specs.declared.fault.Refusal.{Refusal}
use Rattle.dy_base.specs.declared.fault.Refusal.TheVariants.{Fault, Memory}
use Rattle.dy_doubled.specs.declared.doubled.TakenNames.{TakenNames}
use Rattle.dy_doubled.specs.Doubled.{redefined_in, IsRead, IsSyntax, AnswersAreOne}

read_once : (r : TakenNames) (a b : Result TakenNames Refusal) → IsRead r a → IsRead r b → (a ≢ Err Memory) → (b ≢ Err Memory) → a ≡ b
read_once r (Ok s) (Ok t) p q m n = ap Ok (p ∙ sym q)
read_once r (Ok s) (Err (Fault f)) p q m n = absurd q
read_once r (Ok s) (Err Memory) p q m n = absurd (n refl)
read_once r (Err (Fault f)) b p q m n = absurd p
read_once r (Err Memory) b p q m n = absurd (m refl)

syntax_once : (place : Place) (a b : Result TakenNames Refusal) → IsSyntax place a → IsSyntax place b → (a ≢ Err Memory) → (b ≢ Err Memory) → a ≡ b
syntax_once place (Ok t) b p q m n = absurd p
syntax_once place (Err Memory) b p q m n = absurd (m refl)
syntax_once place (Err (Fault f)) (Ok t) p q m n = absurd q
syntax_once place (Err (Fault f)) (Err Memory) p q m n = absurd (n refl)
syntax_once place (Err (Fault f)) (Err (Fault h)) p q m n = ap (λ x. Err (Fault x)) (p ∙ sym q)

pub one_answer : AnswersAreOne
one_answer library (Ok forms) used given a b p q m n = read_once (redefined_in library forms used given) a b p q m n
one_answer library (Err place) used given a b p q m n = syntax_once place a b p q m n
