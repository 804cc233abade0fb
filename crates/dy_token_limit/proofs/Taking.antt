-- Tokens that are taken one fragment after the other.
use Rattle.std.proofs.Common.{◌≡◌, ◌⊎◌, ℕ, ◌+◌, ◌<◌, ◌≤◌, List, [], ◌∷◌, length, map, take, get_or, Option, Some, None, rules, refl, sym, ap, subst, ◌∙◌, inl, inr, arith}
use Rattle.std.specs.Prelude.{sum_by}
use Rattle.std.specs.Global.{Vec}
use Rattle.std.proofs.lemmas.Bool.{cases_lt}
use Rattle.std.proofs.lemmas.List.{get_or-map, length-map, take-take, take_all}
use Rattle.std.proofs.lemmas.List.Sums.{sum_by_more, sum_by-take-le}
use Rattle.dy_tree.specs.declared.token.Token.{Token}
use Rattle.dy_tree.specs.declared.fragment.Fragment.{Fragment, Group}
use Rattle.dy_tree.specs.declared.fragment.Fragment.TheViews.{the_lemmas}
use Rattle.dy_tree.specs.Fragments.{SeenFragment, group, pack, seen_fragment, seen_fragments}
use Rattle.dy_tree.proofs.Rows.{inner_packs}
use Rattle.dy_token_limit.specs.Tokens.{tokens_in, tokens_within, tokens_of}
use Rattle.dy_token_limit.specs.Limit.{Form, tokens_of_first, IsOver, Leaves, OverIsOne}

-- ---- of a group

packed_tokens : (fragments : List SeenFragment) → tokens_within (pack fragments) ≡ tokens_of fragments
packed_tokens [] = refl
packed_tokens (first ∷ rest) = ap (λ (n : ℕ). tokens_in first + n) (packed_tokens rest)

packed : (opener : Token) (inner : Vec Fragment) (closer : Token) → seen_fragment (Group opener inner closer) ≡ group opener (pack (seen_fragments inner.items)) closer
packed opener inner closer = search (rules, the_lemmas, inner_packs)

group_tokens : (opener : Token) (inner : Vec Fragment) (closer : Token) → tokens_in (seen_fragment (Group opener inner closer)) ≡ 2 + tokens_of (seen_fragments inner.items)
group_tokens opener inner closer = ap tokens_in (packed opener inner closer) ∙ ap (λ (n : ℕ). 2 + n) (packed_tokens (seen_fragments inner.items))

-- its opener and closer are taken first
behind_two : (most left count : ℕ) (result : Option ℕ) → 2 ≤ most → 2 + left ≡ most → Leaves left count result → Leaves most (2 + count) result
behind_two most left count (Some rest) there taken is = omega (arith, taken, is)
behind_two most left count None there taken is = omega (arith, taken, is)

pub group_leaves : (fragment : Fragment) (opener : Token) (inner : Vec Fragment) (closer : Token) (items : List Fragment) (most left : ℕ) (result : Option ℕ) → fragment ≡ Group opener inner closer → items ≡ inner.items
    → 2 ≤ most → 2 + left ≡ most → Leaves left (tokens_of (seen_fragments items)) result → Leaves most (tokens_in (seen_fragment fragment)) result
group_leaves fragment opener inner closer items most left result is same there taken leaves =
    subst (λ (count : ℕ). Leaves most count result) (sym (ap (λ (f : Fragment). tokens_in (seen_fragment f)) is ∙ group_tokens opener inner closer))
    (behind_two most left (tokens_of (seen_fragments inner.items)) result there taken (subst (λ (xs : List Fragment). Leaves left (tokens_of (seen_fragments xs)) result) same leaves))

-- ---- of forms, one behind the other

first_less : (forms : List Form) (a b : ℕ) → a ≤ b → tokens_of_first a forms ≤ tokens_of_first b forms
first_less forms a b l = subst (λ (xs : List Form). sum_by tokens_of xs ≤ tokens_of_first b forms) (take-take a b forms l) (sum_by-take-le tokens_of (take b forms) a)

next_tokens : {X : Type 0} (seen : X → Form) (held : List X) (n : ℕ) (form : X) → n < length held → form ≡ get_or held n form → tokens_of_first (n + 1) (map seen held) ≡ tokens_of_first n (map seen held) + tokens_of (seen form)
next_tokens seen held n form l is =
    sum_by_more tokens_of (map seen held) n (seen form) (subst (λ (count : ℕ). n < count) (sym (length-map held seen)) l)
    ∙ ap (λ (f : Form). tokens_of_first n (map seen held) + tokens_of f) (get_or-map seen held n form (seen form) l ∙ ap seen (sym is))

-- where one more fits
pub form_fits : {X : Type 0} (seen : X → Form) (held : List X) (n : ℕ) (form : X) (most left rest : ℕ) → n < length held → form ≡ get_or held n form → tokens_of_first n (map seen held) + left ≡ most
    → Leaves left (tokens_of (seen form)) (Some rest) → tokens_of_first (n + 1) (map seen held) + rest ≡ most
form_fits seen held n form most left rest l is before leaves = omega (arith, next_tokens seen held n form l is, before, leaves)

-- where it does not
pub form_over : {X : Type 0} (seen : X → Form) (held : List X) (n : ℕ) (form : X) (most left : ℕ) → n < length held → form ≡ get_or held n form → tokens_of_first n (map seen held) + left ≡ most
    → Leaves left (tokens_of (seen form)) None → IsOver most (map seen held) n
form_over seen held n form most left l is before leaves = record {
  there = subst (λ (count : ℕ). n < count) (sym (length-map held seen)) l;
  over = omega (arith, next_tokens seen held n form l is, before, leaves);
  first = λ other over. go other over (cases_lt other n);
}
  where
    go : (other : ℕ) → most < tokens_of_first (other + 1) (map seen held) → (other < n) ⊎ (n ≤ other) → n ≤ other
    go other over (inl less) = absurd (omega (arith, over, before, first_less (map seen held) (other + 1) n (omega (arith, less))))
    go other over (inr least) = least

-- where all did
pub all_fit : (forms : List Form) (n most left : ℕ) → length forms ≤ n → tokens_of_first n forms + left ≡ most → sum_by tokens_of forms ≤ most
all_fit forms n most left past before = omega (arith, before, ap (λ (xs : List Form). sum_by tokens_of xs) (take_all n forms past))

-- ---- one answer

never_over : (most : ℕ) (forms : List Form) (n : ℕ) → IsOver most forms n → sum_by tokens_of forms ≤ most → ⊥
never_over most forms n is within = let over = is.over in omega (arith, over, within, sum_by-take-le tokens_of forms (n + 1))

pub first_once : OverIsOne
first_once most forms (Some a) (Some b) x y = ap Some (let l = x.first b y.over in let m = y.first a x.over in omega arith)
first_once most forms (Some a) None x y = absurd (never_over most forms a x y)
first_once most forms None (Some b) x y = absurd (never_over most forms b y x)
first_once most forms None None x y = refl
