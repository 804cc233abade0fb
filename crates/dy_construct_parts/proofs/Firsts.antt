-- The first construct that has not come, of lists that are put together.
use Rattle.std.proofs.Common.{◌≡◌, ℕ, ◌+◌, ◌<◌, List, [], ◌∷◌, ◌++◌, length, get_or, map, take, flat_map, append_assoc, refl, sym, ap, ◌∙◌}
use Rattle.std.proofs.lemmas.List.{append-nil, map_more, take_more}
use Rattle.std.specs.Prelude.{Option, Some, None}
use Rattle.std.specs.Option.{option_or}
use Rattle.dy_construct_parts.specs.declared.construct.Construct.{Construct}
use Rattle.dy_construct_parts.specs.Table.{absent, first_absent}

pub or_assoc : (a b c : Option Construct) → option_or (option_or a b) c ≡ option_or a (option_or b c)
or_assoc None b c = refl
or_assoc (Some found) b c = refl

pub or_none : (a : Option Construct) → option_or a None ≡ a
or_none None = refl
or_none (Some found) = refl

pub or_same : (a a' b b' : Option Construct) → a ≡ a' → b ≡ b' → option_or a b ≡ option_or a' b'
or_same a a' b b' e f = ap (λ (one : Option Construct). option_or one b) e ∙ ap (λ (one : Option Construct). option_or a' one) f

pub absent_append : (xs ys : List Construct) → first_absent (xs ++ ys) ≡ option_or (first_absent xs) (first_absent ys)
absent_append [] ys = refl
absent_append (x ∷ xs) ys = ap (λ (found : Option Construct). option_or (absent x) found) (absent_append xs ys) ∙ sym (or_assoc (absent x) (first_absent xs) (first_absent ys))

-- a part more, behind others
pub and_part : (before part found : Option Construct) (xs ys : List Construct) → before ≡ first_absent xs → part ≡ first_absent ys → found ≡ option_or before part → found ≡ first_absent (xs ++ ys)
and_part before part found xs ys e f g = g ∙ or_same before (first_absent xs) part (first_absent ys) e f ∙ sym (absent_append xs ys)

-- a construct, and what its parts hold
pub parts_1 : (own a found : Option Construct) (x : Construct) (ps : List Construct) → own ≡ absent x → a ≡ first_absent ps → found ≡ option_or own a → found ≡ first_absent (x ∷ ps)
parts_1 own a found x ps e f g = g ∙ or_same own (absent x) a (first_absent ps) e f

pub parts_2 : (own a b one two : Option Construct) (x : Construct) (ps qs : List Construct) → own ≡ absent x → a ≡ first_absent ps → one ≡ option_or own a → b ≡ first_absent qs → two ≡ option_or one b → two ≡ first_absent (x ∷ (ps ++ qs))
parts_2 own a b one two x ps qs e f g h k = and_part one b two (x ∷ ps) qs (parts_1 own a one x ps e f g) h k

pub parts_3 : (own a b c one two three : Option Construct) (x : Construct) (ps qs rs : List Construct) → own ≡ absent x → a ≡ first_absent ps → one ≡ option_or own a → b ≡ first_absent qs → two ≡ option_or one b
    → c ≡ first_absent rs → three ≡ option_or two c → three ≡ first_absent (x ∷ (ps ++ qs ++ rs))
parts_3 own a b c one two three x ps qs rs e f g h k m n =
    and_part two c three (x ∷ (ps ++ qs)) rs (parts_2 own a b one two x ps qs e f g h k) m n

pub parts_4 : (own a b c d one two three four : Option Construct) (x : Construct) (ps qs rs ss : List Construct) → own ≡ absent x → a ≡ first_absent ps → one ≡ option_or own a → b ≡ first_absent qs → two ≡ option_or one b
    → c ≡ first_absent rs → three ≡ option_or two c → d ≡ first_absent ss → four ≡ option_or three d → four ≡ first_absent (x ∷ (ps ++ qs ++ rs ++ ss))
parts_4 own a b c d one two three four x ps qs rs ss e f g h k m n p q =
    and_part three d four (x ∷ (ps ++ qs ++ rs)) ss (parts_3 own a b c one two three x ps qs rs e f g h k m n) p q

-- lists of parts without a construct in front
pub lists_3 : (a b c two three : Option Construct) (ps qs rs : List Construct) → a ≡ first_absent ps → b ≡ first_absent qs → two ≡ option_or a b → c ≡ first_absent rs → three ≡ option_or two c → three ≡ first_absent (ps ++ qs ++ rs)
lists_3 a b c two three ps qs rs f h k m n =
    and_part two c three (ps ++ qs) rs (and_part a b two ps qs f h k) m n

pub lists_5 : (a b c d e two three four five : Option Construct) (ps qs rs ss ts : List Construct) → a ≡ first_absent ps → b ≡ first_absent qs → two ≡ option_or a b → c ≡ first_absent rs → three ≡ option_or two c
    → d ≡ first_absent ss → four ≡ option_or three d → e ≡ first_absent ts → five ≡ option_or four e → five ≡ first_absent (ps ++ qs ++ rs ++ ss ++ ts)
lists_5 a b c d e two three four five ps qs rs ss ts f h k m n p q r s =
    and_part four e five (ps ++ qs ++ rs ++ ss) ts (and_part three d four (ps ++ qs ++ rs) ss (lists_3 a b c two three ps qs rs f h k m n) p q) r s

flat_map_push : {X : Type 0} (f : X → List Construct) (xs : List X) (x : X) → flat_map f (xs ++ x ∷ []) ≡ flat_map f xs ++ f x
flat_map_push f [] x = append-nil (f x)
flat_map_push f (y ∷ ys) x = ap (λ (rest : List Construct). f y ++ rest) (flat_map_push f ys x) ∙ sym (append_assoc (f y) (flat_map f ys) (f x))

-- a loop over parts: one part more
pub found_step : {X : Type 0} (f : X → List Construct) (xs : List X) (i : ℕ) (x : X) → i < length xs → x ≡ get_or xs i x → (before one found : Option Construct)
    → before ≡ first_absent (flat_map f (take i xs)) → one ≡ first_absent (f x) → found ≡ option_or before one → found ≡ first_absent (flat_map f (take (i + 1) xs))
found_step f xs i x lt is before one found e g h =
    let more : flat_map f (take (i + 1) xs) ≡ flat_map f (take i xs) ++ f x =
    ap (flat_map f) (take_more xs i x lt) ∙ flat_map_push f (take i xs) (get_or xs i x) ∙ ap (λ y. flat_map f (take i xs) ++ f y) (sym is) in
    and_part before one found (flat_map f (take i xs)) (f x) e g h ∙ sym (ap first_absent more)

-- the same of parts that are seen ps others
pub seen_step : {X Y : Type 0} (f : Y → List Construct) (seen : X → Y) (xs : List X) (i : ℕ) (x : X) → i < length xs → x ≡ get_or xs i x → (before one found : Option Construct)
    → before ≡ first_absent (flat_map f (map seen (take i xs))) → one ≡ first_absent (f (seen x)) → found ≡ option_or before one → found ≡ first_absent (flat_map f (map seen (take (i + 1) xs)))
seen_step f seen xs i x lt is before one found e g h =
    let more : flat_map f (map seen (take (i + 1) xs)) ≡ flat_map f (map seen (take i xs)) ++ f (seen x) =
    ap (flat_map f) (map_more seen xs i x lt) ∙ flat_map_push f (map seen (take i xs)) (seen (get_or xs i x)) ∙ ap (λ y. flat_map f (map seen (take i xs)) ++ f (seen y)) (sym is) in
    and_part before one found (flat_map f (map seen (take i xs))) (f (seen x)) e g h ∙ sym (ap first_absent more)

-- the same of parts that are one construct each
pub single_step : {X : Type 0} (f : X → Construct) (xs : List X) (i : ℕ) (x : X) → i < length xs → x ≡ get_or xs i x → (before one found : Option Construct)
    → before ≡ first_absent (map f (take i xs)) → one ≡ absent (f x) → found ≡ option_or before one → found ≡ first_absent (map f (take (i + 1) xs))
single_step f xs i x lt is before one found e g h =
    let more : map f (take (i + 1) xs) ≡ map f (take i xs) ++ f x ∷ [] = map_more f xs i x lt ∙ ap (λ y. map f (take i xs) ++ f y ∷ []) (sym is) in
    and_part before one found (map f (take i xs)) (f x ∷ []) e (g ∙ sym (or_none (absent (f x)))) h ∙ sym (ap first_absent more)
