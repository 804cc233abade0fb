-- What was sent in two parts.
use Rattle.std.proofs.Common.{◌≡◌, ℕ, ◌+◌, ◌≤◌, List, [], ◌++◌, length, take, drop, Option, Some, None, refl, sym, ap, subst, ◌∙◌, append_assoc, length-append, arith}
use Rattle.std.specs.Io.KnownBytes.{Appends}
use Rattle.std.proofs.lemmas.List.{append-nil, take_all, take_at, take-append-drop}
use Rattle.dy_io.specs.Sinks.{AppendsFront}

pub appends_front : (old new : Option (List ℕ)) (bytes : List ℕ) → Appends old new bytes → AppendsFront old new bytes
appends_front old new bytes h = (length bytes, omega arith, subst (Appends old new) (sym (take_all (length bytes) bytes (omega arith))) h)

pub appends_nothing : (held : Option (List ℕ)) → Appends held held []
appends_nothing None = tt
appends_nothing (Some bytes) = sym (append-nil bytes)

pub nothing_front : (held : Option (List ℕ)) (bytes : List ℕ) → AppendsFront held held bytes
nothing_front held bytes = (0, omega arith, appends_nothing held)

-- first some bytes, and then others
pub appends_twice : (a b c : Option (List ℕ)) (bs cs : List ℕ) → Appends a b bs → Appends b c cs
    → Appends a c (bs ++ cs)
appends_twice None b c bs cs p q = tt
appends_twice (Some x) None c bs cs p q = absurd p
appends_twice (Some x) (Some y) None bs cs p q = absurd q
appends_twice (Some x) (Some y) (Some z) bs cs p q = q ∙ ap (λ l. l ++ cs) p ∙ append_assoc x bs cs

front_of_all : (old new : Option (List ℕ)) (sent others whole : List ℕ) → whole ≡ sent ++ others
    → Appends old new sent → AppendsFront old new whole
front_of_all old new sent others whole is h = (
  length sent,
  omega (arith, ap length is, length-append sent others),
  subst (Appends old new) (sym (ap (λ (x : List ℕ). take (length sent) x) is
      ∙ take_at sent others (length sent) refl)) h,
)

-- all of the first bytes, and a front of the others
pub front_twice : (a b c : Option (List ℕ)) (bs cs : List ℕ) → Appends a b bs → AppendsFront b c cs
    → AppendsFront a c (bs ++ cs)
front_twice a b c bs cs p (n, within, part) =
    front_of_all a c (bs ++ take n cs) (drop n cs) (bs ++ cs)
    (ap (λ (x : List ℕ). bs ++ x) (sym (take-append-drop n cs)) ∙ sym (append_assoc bs (take n cs) (drop n cs)))
    (appends_twice a b c bs (take n cs) p part)

-- a front of the first bytes alone
pub front_more : (a b : Option (List ℕ)) (bs cs : List ℕ) → AppendsFront a b bs
    → AppendsFront a b (bs ++ cs)
front_more a b bs cs (n, within, part) =
    front_of_all a b (take n bs) (drop n bs ++ cs) (bs ++ cs)
    (ap (λ (x : List ℕ). x ++ cs) (sym (take-append-drop n bs)) ∙ append_assoc (take n bs) (drop n bs) cs)
    part
