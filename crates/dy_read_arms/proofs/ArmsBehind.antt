-- What is put in front of arms that were read from the last one on.
use Rattle.std.proofs.Common.{Bool, ◌≡◌, ◌≤◌, ℕ, max, List, [], ◌∷◌, ◌++◌, reverse, map, Option, Some, None, refl, sym, ap, ◌∙◌, arith}
use Rattle.std.proofs.Math.Nat.{le-max_left, le-max_right, le_antisymm}
use Rattle.std.proofs.lemmas.List.{reverse-append}
use Rattle.std.specs.Global.{Vec}
use Rattle.dy_tree.specs.declared.expression.Arm.{Arm}
use Rattle.dy_tree.specs.declared.expression.Item.{Item}
use Rattle.dy_rules.specs.Choices.{Choices, choices_of, with_lead, arm_of}
use Rattle.dy_rules.specs.Depth.{item_depth, body_depth, tests_depth, arms_depth, otherwise_depth}
use Rattle.dy_rules.specs.Trees as trees
use Rattle.dy_rules.specs.Trees.{Tree, ItemTree, arms_of, body_of, tests_of}
use Rattle.dy_rules.proofs.Lists.{some_one}
use Rattle.dy_read_arms.specs.ReadArms.{read_tests, read_arm, first_depth, choices_depth, choices_behind, body_without, body_before, arm_read}
use Rattle.dy_read_arms.specs.ReadBodies.{read_item, read_items, read_last, read_list}
use Rattle.dy_read_arms.proofs.Maxima.{max_zero}

pub lead_more : (lead : List Item) (item : Item) → read_list (reverse (lead ++ item ∷ [])) ≡ read_item item ∷ read_list (reverse lead)
lead_more lead item = ap read_list (reverse-append lead (item ∷ []))

pub arms_more : (arms : List Arm) (form : Arm) → map read_arm (reverse (arms ++ form ∷ [])) ≡ read_arm form ∷ map read_arm (reverse arms)
arms_more arms form = ap (map read_arm) (reverse-append arms (form ∷ []))

pub lead_put : (lead : List Item) (arms : List Arm) (last : Option (Vec Item)) (item : Item) → choices_behind (lead ++ item ∷ []) arms last ≡ with_lead (choices_behind lead arms last) (read_item item)
lead_put lead arms last item = ap (λ (list : List ItemTree). choices_of list (map read_arm (reverse arms)) (read_last last)) (lead_more lead item)

pub lead_deep : (lead : List Item) (arms : List Arm) (last : Option (Vec Item)) (item : Item) (d n m : ℕ) → d ≡ choices_depth (choices_behind lead arms last) → n ≡ item_depth (read_item item) → m ≡ max d n → m ≡ choices_depth (choices_behind (lead ++ item ∷ []) arms last)
lead_deep lead arms last item d n m e f g = let deep = ap choices_depth (lead_put lead arms last item) in omega arith

without_deep : (lead body : List ItemTree) → Some body ≡ body_without lead → body_depth (body_of body) ≡ body_depth (body_of lead)
without_deep [] body e = rw (some_one body [] e) refl
without_deep (tree ∷ lead) body e = absurd cc

pub before_deep : (first : Option ItemTree) (lead body : List ItemTree) → Some body ≡ body_before lead first → body_depth (body_of body) ≡ max (first_depth first) (body_depth (body_of lead))
before_deep None lead body e = let same = without_deep lead body e in omega arith
before_deep (Some tree) lead body e = rw (some_one body (tree ∷ lead) e) refl

pub arm_put : (arms : List Arm) (last : Option (Vec Item)) (form : Arm) → choices_behind [] (arms ++ form ∷ []) last ≡ arm_of (read_tests form.tests) (map read_arm (reverse arms)) (read_last last) (read_items form.body)
arm_put arms last form = ap (λ (list : List trees.Arm). choices_of [] list (read_last last)) (arms_more arms form)

-- The deepest of several, put together in another order.

via : (x y z : ℕ) → x ≤ y → y ≤ z → x ≤ z
via x y z h g = omega arith

five_within : (l a o t f n : ℕ) → l ≤ n → a ≤ n → o ≤ n → t ≤ n → f ≤ n → max (max l (max a o)) (max t f) ≤ n
five_within l a o t f n hl ha ho ht hf = omega arith

four_within : (t b a o n : ℕ) → t ≤ n → b ≤ n → a ≤ n → o ≤ n → max (max (max t b) a) o ≤ n
four_within t b a o n ht hb ha ho = omega arith

both_within : (f l n : ℕ) → f ≤ n → l ≤ n → max f l ≤ n
both_within f l n hf hl = omega arith

arms_max : (l a o t f : ℕ) → max (max l (max a o)) (max t f) ≡ max (max (max t (max f l)) a) o
arms_max l a o t f =
    let b = max f l in
    let before = max l (max a o) in
    let put = max t f in
    let m = max before put in
    let n = max (max (max t b) a) o in
    let in_arm : max t b ≤ n = via _ _ _ (le-max_left (max t b) a) (le-max_left (max (max t b) a) o) in
    let in_body : b ≤ n = via _ _ _ (le-max_right t b) in_arm in
    let in_before : before ≤ m = le-max_left before put in
    let in_put : put ≤ m = le-max_right before put in
    let in_rest : max a o ≤ m = via _ _ _ (le-max_right l (max a o)) in_before in
    le_antisymm
    (five_within l a o t f n (via _ _ _ (le-max_right f l) in_body) (via _ _ _ (le-max_right (max t b) a) (le-max_left (max (max t b) a) o)) (le-max_right (max (max t b) a) o) (via _ _ _ (le-max_left t b) in_arm) (via _ _ _ (le-max_left f l) in_body))
    (four_within t b a o m (via _ _ _ (le-max_left t f) in_put) (both_within f l m (via _ _ _ (le-max_right t f) in_put) (via _ _ _ (le-max_left l (max a o)) in_before)) (via _ _ _ (le-max_left a o) in_rest) (via _ _ _ (le-max_right a o) in_rest))

pub arm_deep : (lead : List Item) (arms : List Arm) (last : Option (Vec Item)) (form : Arm) (first : Option ItemTree) (d n m : ℕ) → Some (read_items form.body) ≡ body_before (read_list (reverse lead)) first → d ≡ choices_depth (choices_behind lead arms last)
    → n ≡ max (tests_depth (tests_of (read_tests form.tests))) (first_depth first) → m ≡ max d n → m ≡ choices_depth (choices_behind [] (arms ++ form ∷ []) last)
arm_deep lead arms last form first d n m e f g h =
    let body = before_deep first (read_list (reverse lead)) (read_items form.body) e in
    let tests = tests_depth (tests_of (read_tests form.tests)) in
    let old = arms_depth (arms_of (map read_arm (reverse arms))) in
    let end = otherwise_depth (read_last last) in
    h ∙ ap (λ (x : ℕ). max x n) f ∙ ap (max (choices_depth (choices_behind lead arms last))) g
    ∙ arms_max (body_depth (body_of (read_list (reverse lead)))) old end tests (first_depth first)
    ∙ ap (λ (x : ℕ). max (max (max tests x) old) end) (sym body) ∙ max_zero (max (max (max tests (body_depth (body_of (read_items form.body)))) old) end) ∙ sym (ap choices_depth (arm_put arms last form))

-- of equal parts
pub arm_reads : (single : Bool) (rest : Choices) {tests other : Option (List Tree)} {first second : Option (Option ItemTree)} → tests ≡ other → first ≡ second → arm_read single rest tests first ≡ arm_read single rest other second
arm_reads single rest e f = cc (e, f)
