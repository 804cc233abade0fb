-- Places behind some bytes, and behind one byte more.
use Rattle.std.proofs.Common.{◌≡◌, ℕ, ◌+◌, ◌<◌, Bool, true, false, cond, ◌||◌, List, [], ◌∷◌, ◌++◌, length, take, get_or, refl, ap, ◌∙◌, length-append}
use Rattle.std.specs.List.{list_any}
use Rattle.std.proofs.lemmas.List.Folds.{list_any-append}
use Rattle.std.proofs.lemmas.List.{take_at, take_more}
use Rattle.dy_sources.specs.Layout.{is_line_feed}
use Rattle.dy_sources.specs.Points.{last_line, point_behind, point_at}

or_true : (a b : Bool) → (a || (b || (true || false))) ≡ true
or_true true b = refl
or_true false true = refl
or_true false false = refl

or_false : (a : Bool) → (a || (false || false)) ≡ a
or_false true = refl
or_false false = refl

split_law : (b : Bool) (xs ys : List ℕ) (x : ℕ) → cond b (xs ++ x ∷ []) (ys ++ x ∷ []) ≡ cond b xs ys ++ x ∷ []
split_law true xs ys x = refl
split_law false xs ys x = refl

-- a line end
last_line_end : (xs : List ℕ) (x : ℕ) → is_line_feed x ≡ true → last_line (xs ++ x ∷ []) ≡ []
last_line_end [] x e = ap (λ (b : Bool). cond (b || false) [] (x ∷ [])) e
last_line_end (y ∷ ys) x e =
    ap (λ (b : Bool). cond (is_line_feed y || b) (last_line (ys ++ x ∷ [])) (y ∷ (ys ++ x ∷ []))) (list_any-append is_line_feed ys (x ∷ []))
    ∙ ap (λ (b : Bool). cond (is_line_feed y || (list_any is_line_feed ys || (b || false))) (last_line (ys ++ x ∷ [])) (y ∷ (ys ++ x ∷ []))) e
    ∙ ap (λ (b : Bool). cond b (last_line (ys ++ x ∷ [])) (y ∷ (ys ++ x ∷ []))) (or_true (is_line_feed y) (list_any is_line_feed ys))
    ∙ last_line_end ys x e

-- another byte
last_line_more : (xs : List ℕ) (x : ℕ) → is_line_feed x ≡ false → last_line (xs ++ x ∷ []) ≡ last_line xs ++ x ∷ []
last_line_more [] x e = ap (λ (b : Bool). cond (b || false) [] (x ∷ [])) e
last_line_more (y ∷ ys) x e =
    ap (λ (b : Bool). cond (is_line_feed y || b) (last_line (ys ++ x ∷ [])) (y ∷ (ys ++ x ∷ []))) (list_any-append is_line_feed ys (x ∷ []))
    ∙ ap (λ (b : Bool). cond (is_line_feed y || (list_any is_line_feed ys || (b || false))) (last_line (ys ++ x ∷ [])) (y ∷ (ys ++ x ∷ []))) e
    ∙ ap (λ (b : Bool). cond (is_line_feed y || b) (last_line (ys ++ x ∷ [])) (y ∷ (ys ++ x ∷ []))) (or_false (list_any is_line_feed ys))
    ∙ ap (λ (zs : List ℕ). cond (is_line_feed y || list_any is_line_feed ys) zs (y ∷ (ys ++ x ∷ []))) (last_line_more ys x e)
    ∙ split_law (is_line_feed y || list_any is_line_feed ys) (last_line ys) (y ∷ ys) x

pub column_after : (bytes : List ℕ) (i : ℕ) → i < length bytes → is_line_feed (get_or bytes i 0) ≡ true → length (last_line (take (i + 1) bytes)) ≡ 0
column_after bytes i lt e = ap (λ (bs : List ℕ). length (last_line bs)) (take_more bytes i 0 lt) ∙ ap length (last_line_end (take i bytes) (get_or bytes i 0) e)

pub column_more : (bytes : List ℕ) (i : ℕ) → i < length bytes → is_line_feed (get_or bytes i 0) ≡ false → length (last_line (take (i + 1) bytes)) ≡ length (last_line (take i bytes)) + 1
column_more bytes i lt e =
    ap (λ (bs : List ℕ). length (last_line bs)) (take_more bytes i 0 lt)
    ∙ ap length (last_line_more (take i bytes) (get_or bytes i 0) e)
    ∙ length-append (last_line (take i bytes)) (get_or bytes i 0 ∷ [])

-- a place is told by what stands before it
pub point_at-front : (front rest : List ℕ) → point_at (front ++ rest) (length front) ≡ point_behind front
point_at-front front rest = ap point_behind (take_at front rest (length front) refl)
