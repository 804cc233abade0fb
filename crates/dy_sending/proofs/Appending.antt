-- What is sent of texts, one behind the other.
use Rattle.std.proofs.Common.{◌≡◌, ℕ, ◌+◌, ◌<◌, ◌≤◌, List, ◌∷◌, ◌++◌, length, take, drop, get_or}
use Rattle.std.proofs.Common.{Option, Some, None, refl, sym, ap, subst, ◌∙◌, append_assoc, arith}
use Rattle.std.proofs.Common.{length-append}
use Rattle.std.specs.List.{concat}
use Rattle.std.specs.Io.KnownBytes.{Appends}
use Rattle.std.proofs.lemmas.List.{append-nil, drop_all, drop_more, take_at, take-append-drop}
use Rattle.dy_io.specs.Sinks.{AppendsFront}

begins : {X : Type 0} (xs : List X) (i : ℕ) (x : X) → i < length xs → x ≡ get_or xs i x
    → drop i xs ≡ x ∷ drop (i + 1) xs
begins {X = X} xs i x within read =
    drop_more xs i x within ∙ ap (λ (y : X). y ∷ drop (i + 1) xs) (sym read)

-- what was sent before, and a front of a piece, are a front of all
appends_twice : (a b c : Option (List ℕ)) (bs cs : List ℕ) → Appends a b bs → Appends b c cs
    → Appends a c (bs ++ cs)
appends_twice None b c bs cs p q = tt
appends_twice (Some x) None c bs cs p q = absurd p
appends_twice (Some x) (Some y) None bs cs p q = absurd q
appends_twice (Some x) (Some y) (Some z) bs cs p q = q ∙ ap (λ l. l ++ cs) p ∙ append_assoc x bs cs

front_of_all : (old new : Option (List ℕ)) (sent others whole : List ℕ) → whole ≡ sent ++ others
    → Appends old new sent → AppendsFront old new whole
front_of_all old new sent others whole is h = (
  length sent,
  omega (arith, ap length is, length-append sent others),
  subst (Appends old new) (sym (ap (λ (x : List ℕ). take (length sent) x) is
      ∙ take_at sent others (length sent) refl)) h,
)

-- the pieces from one on
pieces_at : (pieces : List (List ℕ)) (i : ℕ) (piece : List ℕ) → i < length pieces
    → piece ≡ get_or pieces i piece → (before whole : List ℕ)
    → whole ≡ before ++ concat (drop i pieces)
    → whole ≡ (before ++ piece) ++ concat (drop (i + 1) pieces)
pieces_at pieces i piece l e before whole is =
    is ∙ ap (λ (ps : List (List ℕ)). before ++ concat ps) (begins pieces i piece l e)
    ∙ sym (append_assoc before piece (concat (drop (i + 1) pieces)))

pub piece_sent : (pieces : List (List ℕ)) (i : ℕ) (piece : List ℕ) → i < length pieces
    → piece ≡ get_or pieces i piece → (before whole : List ℕ) (old middle new : Option (List ℕ))
    → whole ≡ before ++ concat (drop i pieces) → Appends old middle before
    → Appends middle new piece
    → (now : List ℕ) × Appends old new now × (whole ≡ now ++ concat (drop (i + 1) pieces))
piece_sent pieces i piece l e before whole old middle new is sent more = (
  before ++ piece,
  appends_twice old middle new before piece sent more,
  pieces_at pieces i piece l e before whole is,
)

pub piece_front : (pieces : List (List ℕ)) (i : ℕ) (piece : List ℕ) → i < length pieces
    → piece ≡ get_or pieces i piece → (before whole : List ℕ) (old middle new : Option (List ℕ))
    → whole ≡ before ++ concat (drop i pieces) → Appends old middle before
    → AppendsFront middle new piece → AppendsFront old new whole
piece_front pieces i piece l e before whole old middle new is sent (k, within, part) =
    let rest = concat (drop (i + 1) pieces) in
    let cut : (before ++ piece) ++ rest ≡ (before ++ take k piece) ++ (drop k piece ++ rest) =
    ap (λ (x : List ℕ). (before ++ x) ++ rest) (sym (take-append-drop k piece))
    ∙ ap (λ (x : List ℕ). x ++ rest) (sym (append_assoc before (take k piece) (drop k piece)))
    ∙ append_assoc (before ++ take k piece) (drop k piece) rest in
    front_of_all old new (before ++ take k piece) (drop k piece ++ rest) whole
    (pieces_at pieces i piece l e before whole is ∙ cut)
    (appends_twice old middle new before (take k piece) sent part)

pub all_sent : (pieces : List (List ℕ)) (i : ℕ) (before whole : List ℕ) (old new : Option (List ℕ))
    → length pieces ≤ i → whole ≡ before ++ concat (drop i pieces) → Appends old new before
    → Appends old new whole
all_sent pieces i before whole old new past is sent =
    subst (Appends old new) (sym (is
    ∙ ap (λ (ps : List (List ℕ)). before ++ concat ps) (drop_all i pieces past)
    ∙ append-nil before)) sent
