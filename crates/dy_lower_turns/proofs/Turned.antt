-- Pieces of the code of a `for` that are put together from their end.
use Rattle.std.proofs.Common.{◌≡◌, ℕ, ◌+◌, ◌-◌, [], ◌∷◌, ◌++◌, length, sym, ap, ◌∙◌, arith, append_assoc, length-append}
use Rattle.dy_code.specs.Fetching as instr
use Rattle.dy_lowered.specs.Flat.{Flat, Plain, Code, past, past_if_false}

-- so far behind is what so many last instructions begin with
pub distance_is : (far exit : ℕ) (c : Code) → far + exit ≡ length c → length c - exit ≡ far
distance_is far exit c e = omega (arith, e)

-- and it is so much farther in front of more
pub farther : (far exit : ℕ) (more old c : Code) → far + exit ≡ length old → c ≡ more ++ old → length c - exit ≡ length more + far
farther far exit more old c e ec =
    let long = ap length ec ∙ length-append more old in
    omega (arith, e, long)

-- a clause that counts goes on
pub counting_on_made : (c0 c1 c2 c3 c4 c5 next test : Code) (before exit far : ℕ) → far + exit ≡ length c0 → c1 ≡ next ++ c0 → c2 ≡ past (length c1 - exit) ∷ c1
    → c3 ≡ Plain (instr.Values before) ∷ c2 → c4 ≡ past_if_false 2 ∷ c3 → c5 ≡ test ++ c4
    → c5 ≡ (test ++ (past_if_false 2 ∷ Plain (instr.Values before) ∷ past (length next + far) ∷ next)) ++ c0
counting_on_made c0 c1 c2 c3 c4 c5 next test before exit far e e1 e2 e3 e4 e5 =
    let over : length c1 - exit ≡ length next + far = farther far exit next c0 c1 e e1 in
    let s2 : c2 ≡ past (length next + far) ∷ (next ++ c0) = e2 ∙ (λ i. past (over i) ∷ e1 i) in
    let s4 : c4 ≡ past_if_false 2 ∷ Plain (instr.Values before) ∷ past (length next + far) ∷ (next ++ c0) =
    e4 ∙ ap (λ (c : Code). past_if_false 2 ∷ c) (e3 ∙ ap (λ (c : Code). Plain (instr.Values before) ∷ c) s2) in
    e5 ∙ ap (λ (c : Code). test ++ c) s4
    ∙ sym (append_assoc test (past_if_false 2 ∷ Plain (instr.Values before) ∷ past (length next + far) ∷ next) c0)

-- a turn of a fast loop begins
pub turn_made : (c0 c1 c2 c3 c4 c5 reads cells puts : Code) (flat : Flat) (testing : ℕ → Code) (exit far : ℕ) → far + exit ≡ length c0 → flat ∷ [] ≡ reads
    → c1 ≡ Plain instr.Push ∷ c0 → c2 ≡ flat ∷ c1 → c3 ≡ testing (length c2 - exit) ++ c2 → c4 ≡ cells ++ c3 → c5 ≡ puts ++ c4
    → c5 ≡ puts ++ (cells ++ (testing (length (reads ++ Plain instr.Push ∷ []) + far) ++ (reads ++ Plain instr.Push ∷ c0)))
turn_made c0 c1 c2 c3 c4 c5 reads cells puts flat testing exit far e er e1 e2 e3 e4 e5 =
    let front : Code = reads ++ Plain instr.Push ∷ [] in
    let s2 : c2 ≡ reads ++ Plain instr.Push ∷ c0 = e2 ∙ ap (λ (c : Code). flat ∷ c) e1 ∙ ap (λ (r : Code). r ++ Plain instr.Push ∷ c0) er in
    let t2 : c2 ≡ front ++ c0 = s2 ∙ sym (append_assoc reads (Plain instr.Push ∷ []) c0) in
    let over : length c2 - exit ≡ length front + far = farther far exit front c0 c2 e t2 in
    let s3 : c3 ≡ testing (length front + far) ++ (reads ++ Plain instr.Push ∷ c0) = e3 ∙ (λ i. testing (over i) ++ s2 i) in
    e5 ∙ ap (λ (c : Code). puts ++ c) (e4 ∙ ap (λ (c : Code). cells ++ c) s3)

regrouped : (x m a c d old : Code) → ((((x ++ m) ++ a) ++ c) ++ d) ++ old ≡ x ++ ((m ++ a) ++ (c ++ (d ++ old)))
regrouped x m a c d old = simp append_assoc

-- what is compared with the opposite of something and a number more, and denied
pub denied_made : (c0 c1 c2 c3 c4 x m a c d : Code) → c1 ≡ d ++ c0 → c2 ≡ c ++ c1 → c3 ≡ (m ++ a) ++ c2 → c4 ≡ x ++ c3 → c4 ≡ ((((x ++ m) ++ a) ++ c) ++ d) ++ c0
denied_made c0 c1 c2 c3 c4 x m a c d e1 e2 e3 e4 =
    e4 ∙ ap (λ (k : Code). x ++ k) (e3 ∙ ap (λ (k : Code). (m ++ a) ++ k) (e2 ∙ ap (λ (k : Code). c ++ k) e1)) ∙ sym (regrouped x m a c d c0)

regrouped_four : (x m a c old : Code) → (((x ++ m) ++ a) ++ c) ++ old ≡ x ++ ((m ++ a) ++ (c ++ old))
regrouped_four x m a c old = simp append_assoc

-- and not denied
pub opposed_made : (c0 c1 c2 c3 x m a c : Code) → c1 ≡ c ++ c0 → c2 ≡ (m ++ a) ++ c1 → c3 ≡ x ++ c2 → c3 ≡ (((x ++ m) ++ a) ++ c) ++ c0
opposed_made c0 c1 c2 c3 x m a c e1 e2 e3 =
    e3 ∙ ap (λ (k : Code). x ++ k) (e2 ∙ ap (λ (k : Code). (m ++ a) ++ k) e1) ∙ sym (regrouped_four x m a c c0)
