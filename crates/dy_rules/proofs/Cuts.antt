-- Items that are cut at separators, and what the pieces stand for.
use Rattle.std.proofs.Common.{◌≡◌, Bool, true, false, not, ◌&&◌, List, [], ◌∷◌, ◌++◌, Option, Some, None, option_map, refl, sym, ap, subst, ◌∙◌}
use Rattle.std.proofs.lemmas.List.{append-nil}
use Rattle.dy_tree.specs.Fragments.{SeenFragment}
use Rattle.dy_rules.specs.Cutting.{Item, Piece, Pieces, is_let, cut, cut_if, with_others, each, each_other, fragments_in, Ending, only_part, only_last, with_part, ending_at, ending_from, ending, Sides, with_before, sides_at, first_cut}
use Rattle.dy_rules.specs.Fragments.{item_of, items_of}
use Rattle.dy_rules.proofs.Lists.{some_one, map_some}
use Rattle.dy_rules.proofs.Sound.{ItemSound, ItemsSound}

abbrev Fragments : Type 0
Fragments = List SeenFragment

-- No separator stands in these fragments, and no `let` at their end. The first of them may stand behind a `let`.
abbrev pub Closed : (SeenFragment → Bool) → Bool → Fragments → Type 0
Closed separates bound [] = bound ≡ false
Closed separates bound (first ∷ rest) = ((not bound && separates first) ≡ false) × Closed separates (is_let first) rest

abbrev pub ended : List Item → Pieces
ended items = record { first = items; others = [] }

abbrev pub joined : List Item → SeenFragment → Pieces → Pieces
joined items separator behind = record { first = items; others = record { separator = separator; items = behind.first } ∷ behind.others }

pub cut_end : (separates : SeenFragment → Bool) (bound : Bool) (fragments : Fragments) → Closed separates bound fragments → cut separates bound (items_of fragments) ≡ ended (items_of fragments)
cut_end separates bound [] h = refl
cut_end separates bound (first ∷ rest) (plainly, h) = rw (plainly, cut_end separates (is_let first) rest h) refl

pub cut_on : (separates : SeenFragment → Bool) (bound : Bool) (before : Fragments) (separator : SeenFragment) (after : List Item) → Closed separates bound before → separates separator ≡ true
    → cut separates bound (items_of before ++ item_of separator ∷ after) ≡ joined (items_of before) separator (cut separates false after)
cut_on separates bound [] separator after h is = rw (h, is) refl
cut_on separates bound (first ∷ rest) separator after (plainly, h) is = rw (plainly, cut_on separates (is_let first) rest separator after h is) refl

-- what stands in front of the first separator is cut as it is
pub cut_front : (separates : SeenFragment → Bool) (bound : Bool) (front : Fragments) (rest : List Item) → Closed separates bound front
    → cut separates bound (items_of front ++ rest) ≡ record { first = items_of front ++ (cut separates false rest).first; others = (cut separates false rest).others }
cut_front separates bound [] rest h = rw h refl
cut_front separates bound (first ∷ front) rest (plainly, h) = rw (plainly, cut_front separates (is_let first) front rest h) refl

pub closed_on : (separates : SeenFragment → Bool) (bound : Bool) (before : Fragments) (separator : SeenFragment) (after : Fragments) → Closed separates bound before → separates separator ≡ false → is_let separator ≡ false → Closed separates false after
    → Closed separates bound (before ++ separator ∷ after)
closed_on separates bound [] separator after h is free k = (rw (h, is) refl, rw free k)
closed_on separates bound (first ∷ rest) separator after (e, h) is free k = (e, closed_on separates (is_let first) rest separator after h is free k)

-- the fragments of pieces
abbrev pub behind_in : List Piece → Fragments
behind_in [] = []
behind_in (piece ∷ others) = piece.separator ∷ (fragments_in piece.items ++ behind_in others)

abbrev pub pieces_in : Pieces → Fragments
pieces_in pieces = fragments_in pieces.first ++ behind_in pieces.others

abbrev pub Separates : (SeenFragment → Bool) → List Piece → Type 0
Separates separates [] = Unit {0}
Separates separates (piece ∷ others) = (separates piece.separator ≡ true) × ItemsSound piece.items × Separates separates others

-- what is known of pieces
pub record IsCut (separates : SeenFragment → Bool) (fragments : Fragments) (pieces : Pieces) : Type 0 where
  pub same : pieces_in pieces ≡ fragments
  pub first_sound : ItemsSound pieces.first
  pub others_sound : Separates separates pieces.others

is_cut_if : (separates : SeenFragment → Bool) (bound splits : Bool) (item : Item) (rest : List Item) (behind_it with_it : Pieces) → (not bound && separates item.fragment) ≡ splits → ItemSound item
    → IsCut separates (fragments_in rest) behind_it → IsCut separates (fragments_in rest) with_it → IsCut separates (item.fragment ∷ fragments_in rest) (cut_if splits item behind_it with_it)
is_cut_if separates true true item rest behind_it with_it is h b w = absurd cc
is_cut_if separates false true item rest behind_it with_it is h b w = record { same = ap (λ (fs : Fragments). item.fragment ∷ fs) b.same; first_sound = tt; others_sound = (is, b.first_sound, b.others_sound) }
is_cut_if separates bound false item rest behind_it with_it is h b w = record { same = ap (λ (fs : Fragments). item.fragment ∷ fs) w.same; first_sound = (h, w.first_sound); others_sound = w.others_sound }

pub cut_sound : (separates : SeenFragment → Bool) (bound : Bool) (items : List Item) → ItemsSound items → IsCut separates (fragments_in items) (cut separates bound items)
cut_sound separates bound [] h = record { same = refl; first_sound = tt; others_sound = tt }
cut_sound separates bound (item ∷ rest) (h, k) =
    is_cut_if separates bound (not bound && separates item.fragment) item rest (cut separates false rest) (cut separates (is_let item.fragment) rest) refl h (cut_sound separates false rest k) (cut_sound separates (is_let item.fragment) rest k)

-- what is known of a production of one part and a separator after the other
pub record Row {A : Type 0} (separates : SeenFragment → Bool) (read : List Item → Option A) (One : A → Fragments → Type 0) (Many : List A → Fragments → Type 0) : Type 0 where
  pub last : (a : A) (fragments : Fragments) → One a fragments → Many (a ∷ []) fragments
  pub more : (a : A) (others : List A) (separator : SeenFragment) (before after : Fragments) → separates separator ≡ true → One a before → Many others after → Many (a ∷ others) (before ++ separator ∷ after)
  pub reads_one : (items : List Item) (a : A) → ItemsSound items → read items ≡ Some a → One a (fragments_in items)

pub with_both : {A : Type 0} (first : Option A) (others : Option (List A)) (all : List A) → with_others first others ≡ Some all → (a : A) × (more : List A) × (first ≡ Some a) × (others ≡ Some more) × (all ≡ a ∷ more)
with_both None others all e = absurd cc
with_both (Some a) None all e = absurd cc
with_both (Some a) (Some more) all e = (a, more, refl, refl, sym (some_one (a ∷ more) all e))

pub each_sound : {A : Type 0} (separates : SeenFragment → Bool) (read : List Item → Option A) (One : A → Fragments → Type 0) (Many : List A → Fragments → Type 0) → Row separates read One Many
    → (first : List Item) (others : List Piece) (all : List A) → ItemsSound first → Separates separates others → with_others (read first) (each_other read others) ≡ Some all → Many all (fragments_in first ++ behind_in others)
each_sound separates read One Many row first [] all h k e =
    let (a, more, is, rest, same) = with_both (read first) (Some []) all e in
    let none : [] ≡ more = some_one [] more rest in
    subst (λ (list : List _). Many list (fragments_in first ++ [])) (sym (same ∙ ap (λ (list : List _). a ∷ list) (sym none)))
    (subst (Many (a ∷ [])) (sym (append-nil (fragments_in first))) (row.last a (fragments_in first) (row.reads_one first a h is)))
each_sound separates read One Many row first (piece ∷ others) all h (separating, k, m) e =
    let (a, more, is, rest, same) = with_both (read first) (with_others (read piece.items) (each_other read others)) all e in
    subst (λ (list : List _). Many list (fragments_in first ++ piece.separator ∷ (fragments_in piece.items ++ behind_in others))) (sym same)
    (row.more a more piece.separator (fragments_in first) (fragments_in piece.items ++ behind_in others) separating (row.reads_one first a h is) (each_sound separates read One Many row piece.items others more k m rest))

-- the same of items that are cut
pub row_sound : {A : Type 0} (separates : SeenFragment → Bool) (read : List Item → Option A) (One : A → Fragments → Type 0) (Many : List A → Fragments → Type 0) → Row separates read One Many
    → (items : List Item) (all : List A) → ItemsSound items → each read (cut separates false items) ≡ Some all → Many all (fragments_in items)
row_sound separates read One Many row items all h e =
    let c = cut_sound separates false items h in
    subst (Many all) c.same (each_sound separates read One Many row (cut separates false items).first (cut separates false items).others all c.first_sound c.others_sound e)

-- what is known of a production of parts, of which the last may be of another sort
pub record EndRow {A B : Type 0} (separates : SeenFragment → Bool) (is_last : List Item → Bool) (read : List Item → Option A) (read_last : List Item → Option B) (One : A → Fragments → Type 0) (Last : B → Fragments → Type 0) (Many : List A → Option B → Fragments → Type 0) : Type 0 where
  pub only : (a : A) (fragments : Fragments) → One a fragments → Many (a ∷ []) None fragments
  pub ends : (b : B) (fragments : Fragments) → Last b fragments → Many [] (Some b) fragments
  pub more : (a : A) (others : List A) (last : Option B) (separator : SeenFragment) (before after : Fragments) → separates separator ≡ true → One a before → Many others last after → Many (a ∷ others) last (before ++ separator ∷ after)
  pub reads_one : (items : List Item) (a : A) → ItemsSound items → read items ≡ Some a → One a (fragments_in items)
  pub reads_last : (items : List Item) (b : B) → ItemsSound items → is_last items ≡ true → read_last items ≡ Some b → Last b (fragments_in items)

with_part_some : {A B : Type 0} (first : Option A) (others : Option (Ending A B)) (all : Ending A B) → with_part first others ≡ Some all → (a : A) × (rest : Ending A B) × (first ≡ Some a) × (others ≡ Some rest) × (all ≡ record { parts = a ∷ rest.parts; last = rest.last })
with_part_some None others all e = absurd cc
with_part_some (Some a) None all e = absurd cc
with_part_some (Some a) (Some rest) all e = (a, rest, refl, refl, sym (some_one _ all e))

ending_at_sound : {A B : Type 0} (is : Bool) (part : Option A) (last : Option B) (all : Ending A B) (Result : List A → Option B → Type 0) → (is ≡ false → (a : A) → part ≡ Some a → Result (a ∷ []) None) → (is ≡ true → (b : B) → last ≡ Some b → Result [] (Some b))
    → ending_at is part last ≡ Some all → Result all.parts all.last
ending_at_sound true part last all Result one_part ends e = let (b, is, same) = map_some only_last last all e in rw same (ends refl b is)
ending_at_sound false part last all Result one_part ends e = let (a, is, same) = map_some only_part part all e in rw same (one_part refl a is)

pub ending_sound : {A B : Type 0} (separates : SeenFragment → Bool) (is_last : List Item → Bool) (read : List Item → Option A) (read_last : List Item → Option B) (One : A → Fragments → Type 0) (Last : B → Fragments → Type 0) (Many : List A → Option B → Fragments → Type 0)
    → EndRow separates is_last read read_last One Last Many → (first : List Item) (others : List Piece) (all : Ending A B) → ItemsSound first → Separates separates others
    → ending_from is_last read read_last first others ≡ Some all → Many all.parts all.last (fragments_in first ++ behind_in others)
ending_sound separates is_last read read_last One Last Many row first [] all h k e =
    ending_at_sound (is_last first) (read first) (read_last first) all (λ parts last. Many parts last (fragments_in first ++ []))
    (λ no a is. subst (Many (a ∷ []) None) (sym (append-nil (fragments_in first))) (row.only a (fragments_in first) (row.reads_one first a h is)))
    (λ yes b is. subst (Many [] (Some b)) (sym (append-nil (fragments_in first))) (row.ends b (fragments_in first) (row.reads_last first b h yes is))) e
ending_sound separates is_last read read_last One Last Many row first (piece ∷ others) all h (separating, k, m) e =
    let (a, rest, is, more, same) = with_part_some (read first) (ending_from is_last read read_last piece.items others) all e in
    rw same
    (row.more a rest.parts rest.last piece.separator (fragments_in first) (fragments_in piece.items ++ behind_in others) separating (row.reads_one first a h is)
    (ending_sound separates is_last read read_last One Last Many row piece.items others rest k m more))

-- the same of items that are cut
pub end_row_sound : {A B : Type 0} (separates : SeenFragment → Bool) (is_last : List Item → Bool) (read : List Item → Option A) (read_last : List Item → Option B) (One : A → Fragments → Type 0) (Last : B → Fragments → Type 0) (Many : List A → Option B → Fragments → Type 0)
    → EndRow separates is_last read read_last One Last Many → (items : List Item) (all : Ending A B) → ItemsSound items → ending is_last read read_last (cut separates false items) ≡ Some all → Many all.parts all.last (fragments_in items)
end_row_sound separates is_last read read_last One Last Many row items all h e =
    let c = cut_sound separates false items h in
    subst (Many all.parts all.last) c.same (ending_sound separates is_last read read_last One Last Many row (cut separates false items).first (cut separates false items).others all c.first_sound c.others_sound e)

-- what is known of both sides of the first separator
pub record AreSides (separates : SeenFragment → Bool) (fragments : Fragments) (sides : Sides) : Type 0 where
  pub separator : SeenFragment
  pub is : separates separator ≡ true
  pub parts : fragments ≡ fragments_in sides.before ++ separator ∷ fragments_in sides.after
  pub before_sound : ItemsSound sides.before
  pub after_sound : ItemsSound sides.after

sides_at_sound : (separates : SeenFragment → Bool) (is : Bool) (item : Item) (rest : List Item) (found : Option Sides) (sides : Sides) → separates item.fragment ≡ is → ItemSound item → ItemsSound rest
    → ((inner : Sides) → found ≡ Some inner → AreSides separates (fragments_in rest) inner) → sides_at is item rest found ≡ Some sides → AreSides separates (item.fragment ∷ fragments_in rest) sides
sides_at_sound separates true item rest found sides is h k more e = rw (← some_one _ _ e) (record { separator = item.fragment; is = is; parts = refl; before_sound = tt; after_sound = k })
sides_at_sound separates false item rest None sides is h k more e = absurd cc
sides_at_sound separates false item rest (Some inner) sides is h k more e =
    let s = more inner refl in
    rw (← some_one _ _ e) (record { separator = s.separator; is = s.is; parts = ap (λ (fs : Fragments). item.fragment ∷ fs) s.parts; before_sound = (h, s.before_sound); after_sound = s.after_sound })

pub first_cut_sound : (separates : SeenFragment → Bool) (items : List Item) (sides : Sides) → ItemsSound items → first_cut separates items ≡ Some sides → AreSides separates (fragments_in items) sides
first_cut_sound separates [] sides h e = absurd cc
first_cut_sound separates (item ∷ rest) sides (h, k) e = sides_at_sound separates (separates item.fragment) item rest (first_cut separates rest) sides refl h k (λ inner f. first_cut_sound separates rest inner k f) e

-- no separator stands in these fragments
abbrev pub Never : (SeenFragment → Bool) → Fragments → Type 0
Never separates [] = Unit {0}
Never separates (first ∷ rest) = (separates first ≡ false) × Never separates rest

pub first_cut_on : (separates : SeenFragment → Bool) (before : Fragments) (separator : SeenFragment) (after : Fragments) → Never separates before → separates separator ≡ true
    → first_cut separates (items_of (before ++ separator ∷ after)) ≡ Some (record { before = items_of before; after = items_of after })
first_cut_on separates [] separator after h is = ap (λ (b : Bool). sides_at b (item_of separator) (items_of after) (first_cut separates (items_of after))) is
first_cut_on separates (first ∷ before) separator after (plainly, h) is =
    ap (λ (b : Bool). sides_at b (item_of first) (items_of (before ++ separator ∷ after)) (first_cut separates (items_of (before ++ separator ∷ after)))) plainly
    ∙ ap (option_map (with_before (item_of first))) (first_cut_on separates before separator after h is)
