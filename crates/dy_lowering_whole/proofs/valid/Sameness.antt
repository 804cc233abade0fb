-- Two items that are the same are equal, and each is the same as itself.
use Rattle.std.proofs.Common.{◌≡◌, ℕ, ℤ, Bool, true, false, true≢false, ◌&&◌, nat_eq, List, [], ◌∷◌, map, Option, Some, None, refl, sym, ap, ◌∙◌, subst, arith, rules, eqb→eq}
use Rattle.std.specs.Option.{option_map}
use Rattle.std.specs.Str.{bytes_eq}
use Rattle.std.specs.Cmp.Lexicographic.{bytes_decides}
use Rattle.dy_base.specs.declared.ids.Ref.{Ref}
use Rattle.dy_base.specs.declared.ids.What.{What}
use Rattle.dy_base.specs.declared.ids.What.TheVariants as whats
use Rattle.dy_term.specs.declared.literal.Literal.{Literal, Literal-F, out-Literal, roll-Literal, out-roll-Literal, roll-out-Literal, map-Literal, ind-Literal, fold-roll-Literal}
use Rattle.dy_term.specs.declared.types.Member.{Member}
use Rattle.dy_term.specs.declared.types.Member.TheVariants.{Class, Single, SingleClass, Range}
use Rattle.dy_values.specs.Identity.{is_same_number, is_same_truth, is_same_row, is_same_what, is_same_binding}
use Rattle.dy_lowered.specs.Sameness.{are_same, is_same_option, all_pass, held_passes, passes, is_same_literal, is_same_member, is_same_type, is_same_params, is_same_results, is_same_method, is_same_bound}

pub both_true : (a b : Bool) → (a && b) ≡ true → (a ≡ true) × (b ≡ true)
both_true true b e = (refl, e)
both_true false b e = absurd (true≢false (sym e))

pub and_true : (a b : Bool) → a ≡ true → b ≡ true → (a && b) ≡ true
and_true a b e f = ap (λ x. x && b) e ∙ f

pub no : {A : Type 0} → false ≡ true → A
no e = absurd (true≢false (sym e))

pub is_eq : (j k : ℕ) → nat_eq j k ≡ true → j ≡ k
is_eq j k e = search (rules, eqb→eq)

pub eq_is : (j : ℕ) → nat_eq j j ≡ true
eq_is j = grind arith

-- a test of what is the same
pub record Tells {A : Type 0} (same : A → A → Bool) : Type 0 where
  pub equal : (x y : A) → same x y ≡ true → x ≡ y
  pub itself : (x : A) → same x x ≡ true

number_equal : (x y : ℤ) → is_same_number x y ≡ true → x ≡ y
number_equal x y e = grind arith

number_itself : (x : ℤ) → is_same_number x x ≡ true
number_itself x = grind arith

truth_equal : (x y : Bool) → is_same_truth x y ≡ true → x ≡ y
truth_equal true true e = refl
truth_equal true false e = no e
truth_equal false true e = no e
truth_equal false false e = refl

truth_itself : (x : Bool) → is_same_truth x x ≡ true
truth_itself true = refl
truth_itself false = refl

row_equal : (x y : Ref) → is_same_row x y ≡ true → x ≡ y
row_equal x y e =
    let p = both_true (nat_eq x.library y.library) (nat_eq x.row y.row) e in
    let l = is_eq x.library y.library p.0 in
    let r = is_eq x.row y.row p.1 in
    λ i. record { library = l i; row = r i }

row_itself : (x : Ref) → is_same_row x x ≡ true
row_itself x = and_true (nat_eq x.library x.library) (nat_eq x.row x.row) (eq_is x.library) (eq_is x.row)

what_equal : (x y : What) → is_same_what x y ≡ true → x ≡ y
what_equal whats.Class whats.Class e = refl
what_equal whats.Class whats.Generic e = no e
what_equal whats.Class whats.Variable e = no e
what_equal whats.Class whats.Constant e = no e
what_equal whats.Class whats.Function e = no e
what_equal whats.Class whats.Macro e = no e
what_equal whats.Generic whats.Class e = no e
what_equal whats.Generic whats.Generic e = refl
what_equal whats.Generic whats.Variable e = no e
what_equal whats.Generic whats.Constant e = no e
what_equal whats.Generic whats.Function e = no e
what_equal whats.Generic whats.Macro e = no e
what_equal whats.Variable whats.Class e = no e
what_equal whats.Variable whats.Generic e = no e
what_equal whats.Variable whats.Variable e = refl
what_equal whats.Variable whats.Constant e = no e
what_equal whats.Variable whats.Function e = no e
what_equal whats.Variable whats.Macro e = no e
what_equal whats.Constant whats.Class e = no e
what_equal whats.Constant whats.Generic e = no e
what_equal whats.Constant whats.Variable e = no e
what_equal whats.Constant whats.Constant e = refl
what_equal whats.Constant whats.Function e = no e
what_equal whats.Constant whats.Macro e = no e
what_equal whats.Function whats.Class e = no e
what_equal whats.Function whats.Generic e = no e
what_equal whats.Function whats.Variable e = no e
what_equal whats.Function whats.Constant e = no e
what_equal whats.Function whats.Function e = refl
what_equal whats.Function whats.Macro e = no e
what_equal whats.Macro whats.Class e = no e
what_equal whats.Macro whats.Generic e = no e
what_equal whats.Macro whats.Variable e = no e
what_equal whats.Macro whats.Constant e = no e
what_equal whats.Macro whats.Function e = no e
what_equal whats.Macro whats.Macro e = refl

what_itself : (x : What) → is_same_what x x ≡ true
what_itself whats.Class = refl
what_itself whats.Generic = refl
what_itself whats.Variable = refl
what_itself whats.Constant = refl
what_itself whats.Function = refl
what_itself whats.Macro = refl

pub tells_binding : Tells is_same_binding
tells_binding = record {
  equal = λ x y e.
      let p = both_true (is_same_what x.what y.what) (is_same_row x.at y.at) e in
      let w = what_equal x.what y.what p.0 in
      let r = row_equal x.at y.at p.1 in
      λ i. record { what = w i; at = r i };
  itself = λ x. and_true (is_same_what x.what x.what) (is_same_row x.at x.at) (what_itself x.what) (row_itself x.at);
}

-- lists and options of such items
module _ {A : Type 0} (same : A → A → Bool) (tells : Tells same) where
  lists_equal : (xs ys : List A) → are_same same xs ys ≡ true → xs ≡ ys
  lists_equal [] [] e = refl
  lists_equal [] (y ∷ ys) e = no e
  lists_equal (x ∷ xs) [] e = no e
  lists_equal (x ∷ xs) (y ∷ ys) e =
      let p = both_true (same x y) (are_same same xs ys) e in
      let h = tells.equal x y p.0 in
      let t = lists_equal xs ys p.1 in
      λ i. h i ∷ t i

  lists_itself : (xs : List A) → are_same same xs xs ≡ true
  lists_itself [] = refl
  lists_itself (x ∷ xs) = and_true (same x x) (are_same same xs xs) (tells.itself x) (lists_itself xs)

  pub tells_list : Tells (are_same same)
  tells_list = record { equal = lists_equal; itself = lists_itself }

  options_equal : (x y : Option A) → is_same_option same x y ≡ true → x ≡ y
  options_equal None None e = refl
  options_equal None (Some y) e = no e
  options_equal (Some x) None e = no e
  options_equal (Some x) (Some y) e = ap Some (tells.equal x y e)

  options_itself : (x : Option A) → is_same_option same x x ≡ true
  options_itself None = refl
  options_itself (Some x) = tells.itself x

  pub tells_option : Tells (is_same_option same)
  tells_option = record { equal = options_equal; itself = options_itself }

tells_bytes : Tells bytes_eq
tells_bytes = record { equal = λ x y e. (bytes_decides x y).0 e; itself = λ x. (bytes_decides x x).1 refl }

-- literals
literal_is : (x : Literal-F Literal) → is_same_literal (roll-Literal x) ≡ (λ y. passes (map-Literal _ _ is_same_literal x) (out-Literal y))
literal_is = fold-roll-Literal _ _

abbrev Equal : Literal → Type 0
Equal x = (y : Literal) → is_same_literal x y ≡ true → x ≡ y

abbrev Known : Type 0
Known = (x : Literal) × Equal x

abbrev known : Known → Literal
known e = e.0

all_equal : (ys : List Known) (zs : List Literal) → all_pass (map is_same_literal (map known ys)) zs ≡ true → map known ys ≡ zs
all_equal [] [] e = refl
all_equal [] (z ∷ zs) e = no e
all_equal (y ∷ ys) [] e = no e
all_equal (y ∷ ys) (z ∷ zs) e =
    let p = both_true (is_same_literal y.0 z) (all_pass (map is_same_literal (map known ys)) zs) e in
    let h = y.1 z p.0 in
    let t = all_equal ys zs p.1 in
    λ i. h i ∷ t i

held_equal : (y : Option Known) (z : Option Literal) → held_passes (option_map is_same_literal (option_map known y)) z ≡ true → option_map known y ≡ z
held_equal None None e = refl
held_equal None (Some z) e = no e
held_equal (Some y) None e = no e
held_equal (Some y) (Some z) e = ap Some (y.1 z e)

list_equal : (ys : List Known) (zs : List Literal) (last : Option Known) (tail : Option Literal) → (all_pass (map is_same_literal (map known ys)) zs && held_passes (option_map is_same_literal (option_map known last)) tail) ≡ true
    → Literal-F.List (map known ys) (option_map known last) ≡ Literal-F.List zs tail
list_equal ys zs last tail e =
    let p = both_true (all_pass (map is_same_literal (map known ys)) zs) (held_passes (option_map is_same_literal (option_map known last)) tail) e in
    let h = all_equal ys zs p.0 in
    let t = held_equal last tail p.1 in
    λ i. Literal-F.List (h i) (t i)

layer_equal : (y : Literal-F Known) (z : Literal-F Literal) → passes (map-Literal _ _ is_same_literal (map-Literal _ _ known y)) z ≡ true → map-Literal _ _ known y ≡ z
layer_equal (Literal-F.Int a) (Literal-F.Int b) e = ap Literal-F.Int (number_equal a b e)
layer_equal (Literal-F.Int a) _ e = no e
layer_equal (Literal-F.Char a) (Literal-F.Char b) e = ap Literal-F.Char (is_eq a b e)
layer_equal (Literal-F.Char a) _ e = no e
layer_equal (Literal-F.Bool a) (Literal-F.Bool b) e = ap Literal-F.Bool (truth_equal a b e)
layer_equal (Literal-F.Bool a) _ e = no e
layer_equal (Literal-F.Symbol a) (Literal-F.Symbol b) e = ap Literal-F.Symbol ((bytes_decides a b).0 e)
layer_equal (Literal-F.Symbol a) _ e = no e
layer_equal Literal-F.Nil Literal-F.Nil e = refl
layer_equal Literal-F.Nil _ e = no e
layer_equal (Literal-F.Str a) (Literal-F.Str b) e = ap Literal-F.Str ((bytes_decides a b).0 e)
layer_equal (Literal-F.Str a) _ e = no e
layer_equal (Literal-F.List ys None) (Literal-F.List zs tail) e = list_equal ys zs None tail e
layer_equal (Literal-F.List ys (Some y)) (Literal-F.List zs tail) e = list_equal ys zs (Some y) tail e
layer_equal (Literal-F.List ys last) _ e = no e
layer_equal (Literal-F.Vector ys) (Literal-F.Vector zs) e = ap Literal-F.Vector (all_equal ys zs e)
layer_equal (Literal-F.Vector ys) _ e = no e

literal_equal : (x : Literal) → Equal x
literal_equal = ind-Literal Equal (λ x y q. subst (λ z. Equal (roll-Literal z)) q (equal_at y))
  where
    equal_at : (y : Literal-F Known) → Equal (roll-Literal (map-Literal _ _ known y))
    equal_at y other e =
        ap roll-Literal (layer_equal y (out-Literal other) (ap (λ (test : Literal → Bool). test other) (sym (literal_is (map-Literal _ _ known y))) ∙ e)) ∙ roll-out-Literal other

abbrev Itself : Literal → Type 0
Itself x = is_same_literal x x ≡ true

abbrev Own : Type 0
Own = (x : Literal) × Itself x

abbrev own : Own → Literal
own e = e.0

all_itself : (ys : List Own) → all_pass (map is_same_literal (map own ys)) (map own ys) ≡ true
all_itself [] = refl
all_itself (y ∷ ys) = and_true (is_same_literal y.0 y.0) (all_pass (map is_same_literal (map own ys)) (map own ys)) y.1 (all_itself ys)

held_itself : (y : Option Own) → held_passes (option_map is_same_literal (option_map own y)) (option_map own y) ≡ true
held_itself None = refl
held_itself (Some y) = y.1

list_itself : (ys : List Own) (last : Option Own) → (all_pass (map is_same_literal (map own ys)) (map own ys) && held_passes (option_map is_same_literal (option_map own last)) (option_map own last)) ≡ true
list_itself ys last =
    and_true (all_pass (map is_same_literal (map own ys)) (map own ys)) (held_passes (option_map is_same_literal (option_map own last)) (option_map own last)) (all_itself ys) (held_itself last)

layer_itself : (y : Literal-F Own) → passes (map-Literal _ _ is_same_literal (map-Literal _ _ own y)) (map-Literal _ _ own y) ≡ true
layer_itself (Literal-F.Int a) = number_itself a
layer_itself (Literal-F.Char a) = eq_is a
layer_itself (Literal-F.Bool a) = truth_itself a
layer_itself (Literal-F.Symbol a) = (bytes_decides a a).1 refl
layer_itself Literal-F.Nil = refl
layer_itself (Literal-F.Str a) = (bytes_decides a a).1 refl
layer_itself (Literal-F.List ys None) = list_itself ys None
layer_itself (Literal-F.List ys (Some y)) = list_itself ys (Some y)
layer_itself (Literal-F.Vector ys) = all_itself ys

literal_itself : (x : Literal) → Itself x
literal_itself = ind-Literal Itself (λ x y q. subst (λ z. Itself (roll-Literal z)) q (itself_at y))
  where
    itself_at : (y : Literal-F Own) → Itself (roll-Literal (map-Literal _ _ own y))
    itself_at y =
        let x = map-Literal _ _ own y in
        ap (λ (test : Literal → Bool). test (roll-Literal x)) (literal_is x) ∙ ap (λ (z : Literal-F Literal). passes (map-Literal _ _ is_same_literal x) z) (out-roll-Literal x) ∙ layer_itself y

pub tells_literal : Tells is_same_literal
tells_literal = record { equal = literal_equal; itself = literal_itself }

-- types, parameters, results and bound lists
member_equal : (x y : Member) → is_same_member x y ≡ true → x ≡ y
member_equal (Class a) (Class b) e = let r = row_equal a.0 b.0 e in λ i. Class (record { 0 = r i })
member_equal (Class a) _ e = no e
member_equal (Single a) (Single b) e = ap Single (literal_equal a b e)
member_equal (Single a) _ e = no e
member_equal (SingleClass a) (SingleClass b) e = let r = row_equal a.0 b.0 e in λ i. SingleClass (record { 0 = r i })
member_equal (SingleClass a) _ e = no e
member_equal (Range a b) (Range c d) e =
    let p = both_true (is_same_number a c) (is_same_number b d) e in
    let l = number_equal a c p.0 in
    let r = number_equal b d p.1 in
    λ i. Range (l i) (r i)
member_equal (Range a b) _ e = no e

member_itself : (x : Member) → is_same_member x x ≡ true
member_itself (Class a) = row_itself a.0
member_itself (Single a) = literal_itself a
member_itself (SingleClass a) = row_itself a.0
member_itself (Range a b) = and_true (is_same_number a a) (is_same_number b b) (number_itself a) (number_itself b)

tells_members : Tells (are_same is_same_member)
tells_members = tells_list is_same_member (record { equal = member_equal; itself = member_itself })

pub tells_type : Tells is_same_type
tells_type = record {
  equal = λ x y e. let h = tells_members.equal x.members y.members e in λ i. record { members = h i };
  itself = λ x. tells_members.itself x.members;
}

tells_types : Tells (are_same is_same_type)
tells_types = tells_list is_same_type tells_type

tells_keys : Tells (is_same_option (are_same bytes_eq))
tells_keys = tells_option (are_same bytes_eq) (tells_list bytes_eq tells_bytes)

pub tells_params : Tells is_same_params
tells_params = record {
  equal = λ x y e.
      let p = both_true (are_same is_same_type x.required y.required) (is_same_truth x.rest y.rest && (is_same_option (are_same bytes_eq) x.keys y.keys && is_same_truth x.all_keys y.all_keys)) e in
      let q = both_true (is_same_truth x.rest y.rest) (is_same_option (are_same bytes_eq) x.keys y.keys && is_same_truth x.all_keys y.all_keys) p.1 in
      let r = both_true (is_same_option (are_same bytes_eq) x.keys y.keys) (is_same_truth x.all_keys y.all_keys) q.1 in
      let a = tells_types.equal x.required y.required p.0 in
      let b = truth_equal x.rest y.rest q.0 in
      let c = tells_keys.equal x.keys y.keys r.0 in
      let d = truth_equal x.all_keys y.all_keys r.1 in
      λ i. record { required = a i; rest = b i; keys = c i; all_keys = d i };
  itself = λ x.
      and_true (are_same is_same_type x.required x.required) (is_same_truth x.rest x.rest && (is_same_option (are_same bytes_eq) x.keys x.keys && is_same_truth x.all_keys x.all_keys)) (tells_types.itself x.required)
      (and_true (is_same_truth x.rest x.rest) (is_same_option (are_same bytes_eq) x.keys x.keys && is_same_truth x.all_keys x.all_keys) (truth_itself x.rest)
      (and_true (is_same_option (are_same bytes_eq) x.keys x.keys) (is_same_truth x.all_keys x.all_keys) (tells_keys.itself x.keys) (truth_itself x.all_keys)));
}

tells_further : Tells (is_same_option is_same_type)
tells_further = tells_option is_same_type tells_type

pub tells_results : Tells is_same_results
tells_results = record {
  equal = λ x y e.
      let p = both_true (are_same is_same_type x.required y.required) (is_same_option is_same_type x.rest y.rest) e in
      let a = tells_types.equal x.required y.required p.0 in
      let b = tells_further.equal x.rest y.rest p.1 in
      λ i. record { required = a i; rest = b i };
  itself = λ x. and_true (are_same is_same_type x.required x.required) (is_same_option is_same_type x.rest x.rest) (tells_types.itself x.required) (tells_further.itself x.rest);
}

tells_method : Tells is_same_method
tells_method = record { equal = λ x y e. let r = row_equal x.0 y.0 e in λ i. record { 0 = r i }; itself = λ x. row_itself x.0 }

tells_methods : Tells (are_same is_same_method)
tells_methods = tells_list is_same_method tells_method

pub tells_bound : Tells is_same_bound
tells_bound = record {
  equal = λ x y e.
      let p = both_true (are_same is_same_method x.0 y.0) (are_same is_same_method x.1 y.1) e in
      let a = tells_methods.equal x.0 y.0 p.0 in
      let b = tells_methods.equal x.1 y.1 p.1 in
      λ i. (a i, b i);
  itself = λ x. and_true (are_same is_same_method x.0 x.0) (are_same is_same_method x.1 x.1) (tells_methods.itself x.0) (tells_methods.itself x.1);
}
