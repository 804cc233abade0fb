-- The next piece is the longest front that has a form; else no piece begins there.
use Rattle.std.proofs.Common.{◌≡◌, ℕ, ◌<◌, ◌≤◌, inl, inr, false, List, [], ◌∷◌, ◌++◌, length, Ok, Err, refl, sym, ap, ◌∙◌, arith}
use Rattle.dy_base.specs.declared.kind.Kind.{Kind}
use Rattle.dy_pieces.specs.declared.class.Piece.{Piece}
use Rattle.dy_pieces.specs.declared.class.Class.{Class}
use Rattle.dy_pieces.specs.declared.class.Class.TheVariants.{Letter, Digit, Graphic, Joint, Sign, Slash, Hash, Question, Backslash, SingleQuote, DoubleQuote, Space, Other}
use Rattle.dy_pieces.specs.Bytes.{class_of}
use Rattle.dy_pieces.specs.Scan.{literal_end}
use Rattle.dy_pieces.specs.Pieces.{Found, name_len, piece_from, piece_at}
use Rattle.dy_pieces.specs.Forms.{IsForm, IsBroken, IsOpenComment, IsOpenLiteral, Begins, IsFault}
use Rattle.dy_pieces.proofs.Heads.{not_empty, Within, Answers, not_broken}
use Rattle.dy_pieces.proofs.Simple.{heads, digit_answers, space_answers, other_answers, character_answers, string_answers, slash_answers}
use Rattle.dy_pieces.proofs.Named.{letter_only, graphic_only, joint_only, sign_only, sign_answers, named_answers}
use Rattle.dy_pieces.proofs.Escaped.{escaped_answers}
use Rattle.dy_pieces.proofs.Variables.{question_answers}
use Rattle.dy_pieces.proofs.Hashes.{hash_answers}

not_hash : (b : ℕ) (c : Class) → class_of b ≡ c → (Hash ≡ c → ⊥) → b ≡ 35 → ⊥
not_hash b c is other e = other (sym (ap class_of e) ∙ is)

pub piece_answers : (b : ℕ) (bs : List ℕ) (c : Class) → class_of b ≡ c → Answers (piece_from c b bs) (b ∷ bs)
piece_answers b bs Letter is = named_answers b bs Letter is (not_hash b Letter is (λ e. absurd cc)) letter_only (not_broken Letter b bs is refl) (name_len (b ∷ bs)) refl refl
piece_answers b bs Graphic is = named_answers b bs Graphic is (not_hash b Graphic is (λ e. absurd cc)) graphic_only (not_broken Graphic b bs is refl) (name_len (b ∷ bs)) refl refl
piece_answers b bs Joint is = sign_answers b bs Joint is (not_hash b Joint is (λ e. absurd cc)) joint_only (not_broken Joint b bs is refl) (rw is refl) refl
piece_answers b bs Sign is = sign_answers b bs Sign is (not_hash b Sign is (λ e. absurd cc)) sign_only (not_broken Sign b bs is refl) (rw is refl) refl
piece_answers b bs Digit is = digit_answers b bs is
piece_answers b bs Slash is = slash_answers b bs is
piece_answers b bs Hash is = hash_answers b bs is
piece_answers b bs Question is = question_answers b bs is
piece_answers b bs Backslash is = escaped_answers b bs (name_len bs) is refl
piece_answers b bs SingleQuote is = character_answers b bs (literal_end 39 false bs) is refl
piece_answers b bs DoubleQuote is = string_answers b bs (literal_end 34 false bs) is refl
piece_answers b bs Space is = space_answers b bs is
piece_answers b bs Other is = other_answers b bs is

pub munch : (text : List ℕ) → 0 < length text → Answers (piece_at text) text
munch [] some = absurd (omega arith)
munch (b ∷ bs) some = piece_answers b bs (class_of b) refl

-- ---- and what begins is found

pub some_piece : (k : Piece) (piece rest : List ℕ) → IsForm k piece rest → 0 < length piece
some_piece k [] rest h = absurd (not_empty k rest h)
some_piece k (b ∷ bs) rest h = omega arith

pub some_text : (k : Piece) (piece rest : List ℕ) → IsForm k piece rest → 0 < length (piece ++ rest)
some_text k [] rest h = absurd (not_empty k rest h)
some_text k (b ∷ bs) rest h = omega arith

pub exact : (k : Piece) (piece rest : List ℕ) → Begins k piece rest → piece_at (piece ++ rest) ≡ Ok (k, length piece)
exact k piece rest h = go (piece_at (piece ++ rest)) (munch (piece ++ rest) (some_text k piece rest h.form))
  where
    same : (best : Piece) (n : ℕ) (p : List ℕ) → length p ≡ n → length p ≤ length piece → Within (length piece) n k best → (best ≡ k) × (n ≡ length piece)
    same best n p len below (inl less) = absurd (omega arith)
    same best n p len below (inr both) = (sym both.1, sym both.0)

    go : (r : Found) → Answers r (piece ++ rest) → r ≡ Ok (k, length piece)
    go (Ok (best, n)) answer =
        let below = h.longest best answer.piece answer.rest answer.parts answer.form in
        let both = same best n answer.piece answer.len below (answer.most k piece rest refl h.form) in
        rw (both.0, both.1) refl
    go (Err f) (inl broken) = absurd (h.sound f broken)
    go (Err f) (inr stuck) = absurd (stuck.1.none k piece rest refl h.form)

literal_comment : (text : List ℕ) → IsOpenComment text → IsOpenLiteral text → ⊥
literal_comment text (body, e, shut) (inl h) = let clash = heads 47 39 (42 ∷ body) h.0 (sym e ∙ h.1) in absurd (omega arith)
literal_comment text (body, e, shut) (inr (inl h)) = let clash = heads 47 34 (42 ∷ body) h.0 (sym e ∙ h.1) in absurd (omega arith)
literal_comment text (body, e, shut) (inr (inr h)) = let clash = heads 47 35 (42 ∷ body) (34 ∷ h.0) (sym e ∙ h.1) in absurd (omega arith)

broken_one : (f g : Kind) (text : List ℕ) → IsBroken f text → IsBroken g text → f ≡ g
broken_one f g text (inl h) (inl i) = h.0 ∙ sym i.0
broken_one f g text (inl h) (inr i) = absurd (literal_comment text h.1 i.1)
broken_one f g text (inr h) (inl i) = absurd (literal_comment text i.1 h.1)
broken_one f g text (inr h) (inr i) = h.0 ∙ sym i.0

fault_one : (f g : Kind) (text : List ℕ) → IsFault f text → IsFault g text → f ≡ g
fault_one f g text (inl h) (inl i) = broken_one f g text h i
fault_one f g text (inl h) (inr i) = absurd (i.1.sound f h)
fault_one f g text (inr h) (inl i) = absurd (h.1.sound g i)
fault_one f g text (inr h) (inr i) = h.0 ∙ sym i.0

pub fault_some : (f : Kind) (text : List ℕ) → IsFault f text → 0 < length text
fault_some f [] (inl (inl h)) = let e = h.1.1 in absurd cc
fault_some f [] (inl (inr (kind, inl h))) = let e = h.1 in absurd cc
fault_some f [] (inl (inr (kind, inr (inl h)))) = let e = h.1 in absurd cc
fault_some f [] (inl (inr (kind, inr (inr h)))) = let e = h.1 in absurd cc
fault_some f [] (inr h) = h.1.some
fault_some f (b ∷ bs) h = omega arith

abbrev failed : Kind → Found
failed f = Err f

pub exact_fault : (f : Kind) (text : List ℕ) → IsFault f text → piece_at text ≡ Err f
exact_fault f text h = go (piece_at text) (munch text (fault_some f text h)) h
  where
    go : (r : Found) → Answers r text → IsFault f text → r ≡ Err f
    go (Ok (best, n)) answer (inl broken) = absurd (answer.sound f broken)
    go (Ok (best, n)) answer (inr stuck) = absurd (stuck.1.none best answer.piece answer.rest answer.parts answer.form)
    go (Err g) answer fault = ap failed (fault_one g f text answer fault)
