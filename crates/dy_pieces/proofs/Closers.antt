-- Where literals and comments end.
use Rattle.std.proofs.Common.{◌≡◌, ℕ, zero, suc, ◌+◌, ◌-◌, ◌↔◌, Bool, true, false, ◌&&◌, ◌||◌, if◌then◌else◌, List, [], ◌∷◌, length, Option, Some, None, refl, sym, ap, subst, ◌∙◌, arith}
use Rattle.std.proofs.lemmas.Bool.{eqb-true}
use Rattle.std.proofs.Math.Dec.{T, eqb, eqb_refl}
use Rattle.dy_pieces.specs.Scan.{plus, Turn, Goes, Stops, Fails, turned, scan, literal_end, comment_step, comment_end}
use Rattle.dy_pieces.specs.Enclosed.{Literal, closes, byte, escape, Comment, closed, leaves, enters, other, begins_mark}

abbrev size_of : ℕ → Option ℕ
size_of n = Some n

same_size : (m n : ℕ) → size_of m ≡ size_of n → m ≡ n
same_size m n e = cc

-- one byte less
one_less : (r : Option ℕ) (n : ℕ) → plus 1 r ≡ Some (suc n) → r ≡ Some n
one_less None n e = absurd cc
one_less (Some m) n e = let s : 1 + m ≡ suc n = same_size (1 + m) (suc n) e in let t : m ≡ n = omega arith in ap size_of t

is_empty : {A : Type 0} (bs : List A) → size_of 1 ≡ Some (suc (length bs)) → bs ≡ []
is_empty [] e = refl
is_empty (b ∷ bs) e = let s : 1 ≡ suc (suc (length bs)) = same_size 1 (suc (suc (length bs))) e in absurd (omega arith)

no_size : (n : ℕ) → None ≡ size_of n → ⊥
no_size n e = absurd cc

itself : (n : ℕ) → eqb n n ≡ true
itself n = holds (eqb n n) (eqb_refl n)
  where
    holds : (b : Bool) → T b → b ≡ true
    holds true t = refl
    holds false t = absurd t

one_size : (n : ℕ) → plus 1 (Some n) ≡ Some (suc n)
one_size n = let e : 1 + n ≡ suc n = omega arith in ap size_of e

two_sizes : (n : ℕ) → plus 1 (plus 1 (Some n)) ≡ Some (suc (suc n))
two_sizes n = let e : 1 + (1 + n) ≡ suc (suc n) = omega arith in ap size_of e

-- what a byte does in a literal, by what it is
abbrev turn_of : Bool → Bool → Bool → Turn Bool
turn_of ends quote slash = if ends then Fails else if quote then Stops else if slash then Goes true else Goes false

module _ (quote : ℕ) (line : eqb quote 10 ≡ false) (slash : eqb 92 quote ≡ false) where
  read_byte : (b : ℕ) (bs : List ℕ) (l q s : Bool) → eqb b 10 ≡ l → eqb b quote ≡ q → eqb b 92 ≡ s
      → (literal_end quote false bs ≡ Some (length bs) → Literal quote bs) → (literal_end quote true bs ≡ Some (length bs) → Literal quote (92 ∷ bs))
      → turned (turn_of l q s) (λ e. literal_end quote e bs) ≡ Some (suc (length bs)) → Literal quote (b ∷ bs)
  read_byte b bs true q s is_line is_quote is_slash plain escaped e = absurd (no_size _ e)
  read_byte b bs false true s is_line is_quote is_slash plain escaped e =
      closes (b ∷ bs) (ap (λ x. x ∷ bs) (eqb-true b quote is_quote) ∙ ap (λ xs. quote ∷ xs) (is_empty bs e))
  read_byte b bs false false true is_line is_quote is_slash plain escaped e =
      subst (λ x. Literal quote (x ∷ bs)) (sym (eqb-true b 92 is_slash)) (escaped (one_less _ _ e))
  read_byte b bs false false false is_line is_quote is_slash plain escaped e = byte b bs (b ∷ bs) is_line is_quote is_slash (plain (one_less _ _ e)) refl

  read_escape : (b : ℕ) (bs : List ℕ) (l : Bool) → eqb b 10 ≡ l → (literal_end quote false bs ≡ Some (length bs) → Literal quote bs)
      → turned (if l then Fails else Goes false) (λ e. literal_end quote e bs) ≡ Some (suc (length bs)) → Literal quote (92 ∷ b ∷ bs)
  read_escape b bs true is_line plain e = absurd (no_size _ e)
  read_escape b bs false is_line plain e = escape b bs (92 ∷ b ∷ bs) is_line (plain (one_less _ _ e)) refl

  mutual
    literal_read : (body : List ℕ) → literal_end quote false body ≡ Some (length body) → Literal quote body
    literal_read [] e = absurd (no_size _ e)
    literal_read (b ∷ bs) e = read_byte b bs _ _ _ refl refl refl (literal_read bs) (escape_read bs) e

    escape_read : (body : List ℕ) → literal_end quote true body ≡ Some (length body) → Literal quote (92 ∷ body)
    escape_read [] e = absurd (no_size _ e)
    escape_read (b ∷ bs) e = read_escape b bs _ refl (literal_read bs) e

  literal_ends : (body : List ℕ) → Literal quote body → literal_end quote false body ≡ Some (length body)
  literal_ends body (closes text is) = let same = itself quote in ap (λ bs. literal_end quote false bs) is ∙ rw (line, same) refl ∙ ap (λ (bs : List ℕ). size_of (length bs)) (sym is)
  literal_ends body (byte b rest text is_line is_quote is_slash below is) =
      let e = literal_ends rest below in
      ap (λ bs. literal_end quote false bs) is ∙ rw (is_line, is_quote, is_slash, e) (one_size (length rest)) ∙ ap (λ (bs : List ℕ). size_of (length bs)) (sym is)
  literal_ends body (escape b rest text is_line below is) =
      let e = literal_ends rest below in
      ap (λ bs. literal_end quote false bs) is ∙ rw (slash, is_line, e) (two_sizes (length rest)) ∙ ap (λ (bs : List ℕ). size_of (length bs)) (sym is)

  pub literal_law : (body : List ℕ) → (literal_end quote false body ≡ Some (length body)) ↔ Literal quote body
  literal_law body = (literal_read body, literal_ends body)

-- ---- comments

clash_byte : (b : ℕ) (rest bs : List ℕ) (x : ℕ) → eqb x b ≡ false → x ∷ bs ≡ b ∷ rest → ⊥
clash_byte b rest bs x differs e = let same : x ≡ b = cc in absurd (never same)
  where
    never : x ≡ b → ⊥
    never s = absurd (both (sym (itself x) ∙ ap (λ y. eqb x y) s ∙ differs))
      where
        both : true ≡ false → ⊥
        both e = absurd cc

not_one : (d : ℕ) → eqb (suc (suc d)) 1 ≡ false
not_one d = grind (arith)

before_that : (d : ℕ) → suc (suc d) - 1 ≡ suc d
before_that d = omega arith

-- a byte 0 in front is no part of a mark
stripped : (d : ℕ) (bs : List ℕ) → Comment d (0 ∷ bs) → Comment d bs
stripped d bs (closed text is) = absurd (clash_byte 42 (47 ∷ []) bs 0 refl is)
stripped d bs (leaves e rest text below is) = absurd (clash_byte 42 (47 ∷ rest) bs 0 refl is)
stripped d bs (enters e rest text below is) = absurd (clash_byte 47 (42 ∷ rest) bs 0 refl is)
stripped d bs (other e b rest text no_mark below is) = subst (Comment d) (sym (tail_of b rest bs is)) below
  where
    tail_of : (b : ℕ) (rest bs : List ℕ) → 0 ∷ bs ≡ b ∷ rest → bs ≡ rest
    tail_of b rest bs e = cc

abbrev left_turn : Bool → ℕ × ℕ → Turn (ℕ × ℕ)
left_turn last s = if last then Stops else Goes s

-- what a byte does in a comment, by whether a mark ends with it, and whether the comment is the only one that is open
abbrev after_mark : Bool → Bool → Bool → ℕ → ℕ → Turn (ℕ × ℕ)
after_mark ends_one begins_one last d b = if ends_one then left_turn last (d - 1, 0) else if begins_one then Goes (d + 1, 0) else Goes (d, b)

module _ (bs : List ℕ) (below : (d before : ℕ) → comment_end (suc d) before bs ≡ Some (length bs) → Comment (suc d) (before ∷ bs)) where
  left : (d : ℕ) → turned (left_turn (eqb (suc d) 1) (suc d - 1, 0)) (λ s. scan comment_step s bs) ≡ Some (suc (length bs)) → Comment (suc d) (42 ∷ 47 ∷ bs)
  left zero e = closed (42 ∷ 47 ∷ bs) (ap (λ (xs : List ℕ). 42 ∷ 47 ∷ xs) (is_empty bs e))
  left (suc d) e = leaves d bs (42 ∷ 47 ∷ bs) (stripped (suc d) bs (below d 0 (one_less _ _ (subst (λ t. turned t (λ s. scan comment_step s bs) ≡ Some (suc (length bs))) left_one e)))) refl
    where
      left_one : left_turn (eqb (suc (suc d)) 1) (suc (suc d) - 1, 0) ≡ Goes (suc d, 0)
      left_one = let last = not_one d in let fewer = before_that d in rw (last, fewer) refl

  marked : (d before b : ℕ) (x y : Bool) → (eqb before 42 && eqb b 47) ≡ x → (eqb before 47 && eqb b 42) ≡ y
      → turned (after_mark x y (eqb (suc d) 1) (suc d) b) (λ s. scan comment_step s bs) ≡ Some (suc (length bs)) → Comment (suc d) (before ∷ b ∷ bs)
  marked d before b true opens is_end is_begin e =
      subst (λ x. Comment (suc d) (x ∷ b ∷ bs)) (sym (eqb-true before 42 (first _ _ is_end)))
      (subst (λ y. Comment (suc d) (42 ∷ y ∷ bs)) (sym (eqb-true b 47 (second _ _ is_end))) (left d e))
    where
      first : (x y : Bool) → (x && y) ≡ true → x ≡ true
      first true y e = refl
      first false y e = e

      second : (x y : Bool) → (x && y) ≡ true → y ≡ true
      second true y e = e
      second false y e = absurd cc
  marked d before b false true is_end is_begin e =
      subst (λ x. Comment (suc d) (x ∷ b ∷ bs)) (sym (eqb-true before 47 (first _ _ is_begin)))
      (subst (λ y. Comment (suc d) (47 ∷ y ∷ bs)) (sym (eqb-true b 42 (second _ _ is_begin)))
      (enters (suc d) bs (47 ∷ 42 ∷ bs) (stripped (suc (suc d)) bs (below (suc d) 0 (subst (λ n. comment_end n 0 bs ≡ Some (length bs)) one_more (one_less _ _ e)))) refl))
    where
      one_more : suc d + 1 ≡ suc (suc d)
      one_more = omega arith

      first : (x y : Bool) → (x && y) ≡ true → x ≡ true
      first true y e = refl
      first false y e = e

      second : (x y : Bool) → (x && y) ≡ true → y ≡ true
      second true y e = e
      second false y e = absurd cc
  marked d before b false false is_end is_begin e = other (suc d) before (b ∷ bs) (before ∷ b ∷ bs) (rw (is_end, is_begin) refl) (below d b (one_less _ _ e)) refl

comment_read : (body : List ℕ) (d before : ℕ) → comment_end (suc d) before body ≡ Some (length body) → Comment (suc d) (before ∷ body)
comment_read [] d before e = absurd (no_size _ e)
comment_read (b ∷ bs) d before e = marked bs (comment_read bs) d before b _ _ refl refl e

-- a byte with which no mark begins is as good as none
as_fresh : (d b : ℕ) (rest : List ℕ) → begins_mark (b ∷ rest) ≡ false → comment_end d b rest ≡ comment_end d 0 rest
as_fresh d b [] no_mark = refl
as_fresh d b (r ∷ rs) no_mark = fresh _ _ refl refl
  where
    fresh : (x y : Bool) → (eqb b 42 && eqb r 47) ≡ x → (eqb b 47 && eqb r 42) ≡ y → comment_end d b (r ∷ rs) ≡ comment_end d 0 (r ∷ rs)
    fresh true y is_end is_begin = absurd (both (sym no_mark ∙ ap (λ t. t || (eqb b 47 && eqb r 42)) is_end))
      where
        both : false ≡ true → ⊥
        both e = absurd cc
    fresh false true is_end is_begin = absurd (both (sym no_mark ∙ ap (λ t. t || (eqb b 47 && eqb r 42)) is_end ∙ is_begin))
      where
        both : false ≡ true → ⊥
        both e = absurd cc
    fresh false false is_end is_begin = ap (λ t. turned (after_mark t (eqb b 47 && eqb r 42) (eqb d 1) d r) (λ s. scan comment_step s rs)) is_end
        ∙ ap (λ t. turned (after_mark false t (eqb d 1) d r) (λ s. scan comment_step s rs)) is_begin

comment_ends : (d : ℕ) (body : List ℕ) → Comment d body → comment_end d 0 body ≡ Some (length body)
comment_ends d body (closed text is) = ap (λ bs. comment_end 1 0 bs) is ∙ ap (λ (bs : List ℕ). size_of (length bs)) (sym is)
comment_ends d body (leaves e rest text below is) =
    let ends = comment_ends (suc e) rest below in
    let last = not_one e in
    let fewer = before_that e in
    ap (λ bs. comment_end (suc (suc e)) 0 bs) is ∙ rw (last, fewer, ends) (two_sizes (length rest)) ∙ ap (λ (bs : List ℕ). size_of (length bs)) (sym is)
comment_ends d body (enters e rest text below is) =
    let ends : comment_end (d + 1) 0 rest ≡ Some (length rest) = subst (λ n. comment_end n 0 rest ≡ Some (length rest)) one_more (comment_ends (suc d) rest below) in
    ap (λ bs. comment_end d 0 bs) is ∙ rw (ends) (two_sizes (length rest)) ∙ ap (λ (bs : List ℕ). size_of (length bs)) (sym is)
  where
    one_more : suc d ≡ d + 1
    one_more = omega arith
comment_ends d body (other e b rest text no_mark below is) =
    let ends = comment_ends d rest below in
    let fresh = as_fresh d b rest no_mark in
    ap (λ bs. comment_end d 0 bs) is ∙ rw (fresh, ends) (one_size (length rest)) ∙ ap (λ (bs : List ℕ). size_of (length bs)) (sym is)

pub comment_law : (body : List ℕ) → (comment_end 1 0 body ≡ Some (length body)) ↔ Comment 1 body
comment_law body = ((λ e. stripped 1 body (comment_read body 0 0 e)), comment_ends 1 body)
