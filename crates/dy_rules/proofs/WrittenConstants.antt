-- What literals, lists and vectors are written as stands for them.
use Rattle.std.proofs.Common.{◌≡◌, Bool, true, false, cond, List, [], ◌∷◌, ◌++◌, Some, None, codes, refl, sym, ap, subst, ◌∙◌, append_assoc}
use Rattle.std.proofs.lemmas.List.{append-nil}
use Rattle.dy_tree.specs.declared.token.TokenKind.TheVariants as kinds
use Rattle.dy_tree.specs.declared.token.Token.{Token}
use Rattle.dy_tree.specs.declared.types.LiteralForm.{LiteralForm}
use Rattle.dy_tree.specs.Fragments.{SeenFragment, one, row, pack}
use Rattle.dy_tree.specs.declared.roles.Role.{Role}
use Rattle.dy_tree.specs.declared.roles.Role.TheVariants as roles
use Rattle.dy_tree.specs.declared.brackets.Keyword.{Keyword}
use Rattle.dy_tree.specs.declared.brackets.Bracket.{Bracket}
use Rattle.dy_tree.specs.declared.brackets.Bracket.TheVariants as brackets
use Rattle.dy_tree.specs.Spelling.{is_sign, is_word}
use Rattle.dy_rules.specs.ConstantTrees.{Constant, constants_of, tail_of}
use Rattle.dy_rules.specs.Roles.{role_of, begun_by, closed_by}
use Rattle.dy_rules.specs.Marks.{made, mark, comma_mark, dot_mark, written_literal}
use Rattle.dy_rules.specs.Writing.{written_constant, written_items, rest_of_items, written_tail}
use Rattle.dy_rules.specs.Constants.{token_literal, IsLiteral, one_token, negative_integer, ConstantSort, constant, some_constants, in_list, in_vector, IsConstant, literal_constant, list_constant, vector_constant, one_constant, more_constants, empty_list, proper_list, improper_list, empty_vector, full_vector}
use Rattle.dy_rules.proofs.Lists.{row_pack, some_one}

abbrev Fragments : Type 0
Fragments = List SeenFragment

pub list_closed : (kind : Bracket) (closer : Token) → closed_by kind closer ≡ brackets.SharpRound → closed_by kind (mark (codes ")")) ≡ brackets.SharpRound
list_closed brackets.Round closer e = absurd (other_end (is_sign (codes ")") closer) e)
  where
    other_end : (b : Bool) → cond b brackets.Round brackets.Special ≡ brackets.SharpRound → ⊥
    other_end true f = cc
    other_end false f = cc
list_closed brackets.Square closer e = absurd (other_end (is_sign (codes "]") closer) e)
  where
    other_end : (b : Bool) → cond b brackets.Square brackets.Special ≡ brackets.SharpRound → ⊥
    other_end true f = cc
    other_end false f = cc
list_closed brackets.Hidden closer e = absurd (other_end (is_sign [] closer) e)
  where
    other_end : (b : Bool) → cond b brackets.Hidden brackets.Special ≡ brackets.SharpRound → ⊥
    other_end true f = cc
    other_end false f = cc
list_closed brackets.SharpSquare closer e = absurd (other_end (is_sign (codes "]") closer) e)
  where
    other_end : (b : Bool) → cond b brackets.SharpSquare brackets.Special ≡ brackets.SharpRound → ⊥
    other_end true f = cc
    other_end false f = cc
list_closed (brackets.Statement kind) closer e = absurd (other_end (is_word (codes "end") closer) e)
  where
    other_end : (b : Bool) → cond b (brackets.Statement kind) brackets.Special ≡ brackets.SharpRound → ⊥
    other_end true f = cc
    other_end false f = cc
list_closed brackets.SharpRound closer e = refl
list_closed brackets.Special closer e = absurd cc

pub vector_closed : (kind : Bracket) (closer : Token) → closed_by kind closer ≡ brackets.SharpSquare → closed_by kind (mark (codes "]")) ≡ brackets.SharpSquare
vector_closed brackets.Round closer e = absurd (other_end (is_sign (codes ")") closer) e)
  where
    other_end : (b : Bool) → cond b brackets.Round brackets.Special ≡ brackets.SharpSquare → ⊥
    other_end true f = cc
    other_end false f = cc
vector_closed brackets.Square closer e = absurd (other_end (is_sign (codes "]") closer) e)
  where
    other_end : (b : Bool) → cond b brackets.Square brackets.Special ≡ brackets.SharpSquare → ⊥
    other_end true f = cc
    other_end false f = cc
vector_closed brackets.Hidden closer e = absurd (other_end (is_sign [] closer) e)
  where
    other_end : (b : Bool) → cond b brackets.Hidden brackets.Special ≡ brackets.SharpSquare → ⊥
    other_end true f = cc
    other_end false f = cc
vector_closed brackets.SharpRound closer e = absurd (other_end (is_sign (codes ")") closer) e)
  where
    other_end : (b : Bool) → cond b brackets.SharpRound brackets.Special ≡ brackets.SharpSquare → ⊥
    other_end true f = cc
    other_end false f = cc
vector_closed (brackets.Statement kind) closer e = absurd (other_end (is_word (codes "end") closer) e)
  where
    other_end : (b : Bool) → cond b (brackets.Statement kind) brackets.Special ≡ brackets.SharpSquare → ⊥
    other_end true f = cc
    other_end false f = cc
vector_closed brackets.SharpSquare closer e = refl
vector_closed brackets.Special closer e = absurd cc

pub square_closed : (kind : Bracket) (closer : Token) → closed_by kind closer ≡ brackets.Square → closed_by kind (mark (codes "]")) ≡ brackets.Square
square_closed brackets.Round closer e = absurd (other_end (is_sign (codes ")") closer) e)
  where
    other_end : (b : Bool) → cond b brackets.Round brackets.Special ≡ brackets.Square → ⊥
    other_end true f = cc
    other_end false f = cc
square_closed brackets.Square closer e = refl
square_closed brackets.Hidden closer e = absurd (other_end (is_sign [] closer) e)
  where
    other_end : (b : Bool) → cond b brackets.Hidden brackets.Special ≡ brackets.Square → ⊥
    other_end true f = cc
    other_end false f = cc
square_closed brackets.SharpRound closer e = absurd (other_end (is_sign (codes ")") closer) e)
  where
    other_end : (b : Bool) → cond b brackets.SharpRound brackets.Special ≡ brackets.Square → ⊥
    other_end true f = cc
    other_end false f = cc
square_closed brackets.SharpSquare closer e = absurd (other_end (is_sign (codes "]") closer) e)
  where
    other_end : (b : Bool) → cond b brackets.SharpSquare brackets.Special ≡ brackets.Square → ⊥
    other_end true f = cc
    other_end false f = cc
square_closed (brackets.Statement kind) closer e = absurd (other_end (is_word (codes "end") closer) e)
  where
    other_end : (b : Bool) → cond b (brackets.Statement kind) brackets.Special ≡ brackets.Square → ⊥
    other_end true f = cc
    other_end false f = cc
square_closed brackets.Special closer e = absurd cc

pub statement_closed : (bracket : Bracket) (closer : Token) (kind : Keyword) → closed_by bracket closer ≡ brackets.Statement kind → closed_by bracket (made kinds.Name (codes "end")) ≡ brackets.Statement kind
statement_closed brackets.Round closer kind e = absurd (other_end (is_sign (codes ")") closer) e)
  where
    other_end : (b : Bool) → cond b brackets.Round brackets.Special ≡ brackets.Statement kind → ⊥
    other_end true f = cc
    other_end false f = cc
statement_closed brackets.Square closer kind e = absurd (other_end (is_sign (codes "]") closer) e)
  where
    other_end : (b : Bool) → cond b brackets.Square brackets.Special ≡ brackets.Statement kind → ⊥
    other_end true f = cc
    other_end false f = cc
statement_closed brackets.Hidden closer kind e = absurd (other_end (is_sign [] closer) e)
  where
    other_end : (b : Bool) → cond b brackets.Hidden brackets.Special ≡ brackets.Statement kind → ⊥
    other_end true f = cc
    other_end false f = cc
statement_closed brackets.SharpRound closer kind e = absurd (other_end (is_sign (codes ")") closer) e)
  where
    other_end : (b : Bool) → cond b brackets.SharpRound brackets.Special ≡ brackets.Statement kind → ⊥
    other_end true f = cc
    other_end false f = cc
statement_closed brackets.SharpSquare closer kind e = absurd (other_end (is_sign (codes "]") closer) e)
  where
    other_end : (b : Bool) → cond b brackets.SharpSquare brackets.Special ≡ brackets.Statement kind → ⊥
    other_end true f = cc
    other_end false f = cc
statement_closed (brackets.Statement found) closer kind e = same (is_word (codes "end") closer) e
  where
    same : (b : Bool) → cond b (brackets.Statement found) brackets.Special ≡ brackets.Statement kind → brackets.Statement found ≡ brackets.Statement kind
    same true f = f
    same false f = absurd cc
statement_closed brackets.Special closer kind e = absurd cc

literal_same : (role : Role) (token : Token) (form : LiteralForm) → token_literal role token ≡ Some form → written_literal form ≡ one token ∷ []
literal_same roles.Integer token form e = ap written_literal (sym (some_one _ _ e))
literal_same roles.Character token form e = ap written_literal (sym (some_one _ _ e))
literal_same roles.Text token form e = ap written_literal (sym (some_one _ _ e))
literal_same roles.Boolean token form e = ap written_literal (sym (some_one _ _ e))
literal_same roles.Symbol token form e = ap written_literal (sym (some_one _ _ e))
literal_same role token form e = absurd cc

pub literal_written : (form : LiteralForm) (fragments : Fragments) → IsLiteral form fragments → IsLiteral form (written_literal form)
literal_written form fragments (one_token token found e) = subst (IsLiteral form) (sym (literal_same (role_of token) token form e)) (one_token token form e)
literal_written form fragments (negative_integer sign digits is_minus is) = negative_integer sign digits is_minus is

abbrev SomeConstants : List Constant → Type 0
SomeConstants items = ((first : Constant) × (others : List Constant) × (items ≡ first ∷ others)) × IsConstant (some_constants items) (written_items (constants_of items))

abbrev WrittenConstant : ConstantSort → Type 0
WrittenConstant (constant item) = IsConstant (constant item) (written_constant item)
WrittenConstant (some_constants items) = SomeConstants items
WrittenConstant (in_list items last) = IsConstant (in_list items last) (written_items (constants_of items) ++ written_tail (tail_of last))
WrittenConstant (in_vector items) = IsConstant (in_vector items) (written_items (constants_of items))

items_rest : (others : List Constant) (last : Constant) → rest_of_items (constants_of (others ++ last ∷ [])) ≡ rest_of_items (constants_of others) ++ comma_mark ∷ written_constant last
items_rest [] last = ap (λ (fs : Fragments). comma_mark ∷ fs) (append-nil (written_constant last))
items_rest (first ∷ others) last =
    ap (λ (fs : Fragments). comma_mark ∷ fs) (ap (λ (fs : Fragments). written_constant first ++ fs) (items_rest others last) ∙ sym (append_assoc (written_constant first) (rest_of_items (constants_of others)) (comma_mark ∷ written_constant last)))

items_more : (items : List Constant) (first : Constant) (others : List Constant) (last : Constant) → items ≡ first ∷ others
    → written_items (constants_of (items ++ last ∷ [])) ≡ written_items (constants_of items) ++ comma_mark ∷ written_constant last
items_more items first others last e =
    rw e (ap (λ (fs : Fragments). written_constant first ++ fs) (items_rest others last) ∙ sym (append_assoc (written_constant first) (rest_of_items (constants_of others)) (comma_mark ∷ written_constant last)))

pub constant_writes : (sort : ConstantSort) (fragments : Fragments) → IsConstant sort fragments → WrittenConstant sort
constant_writes sort fragments (literal_constant form all h) = literal_constant form (written_literal form) (literal_written form all h)
constant_writes sort fragments (list_constant items last opener inner closer is h) =
    list_constant items last opener (pack (written_items (constants_of items) ++ written_tail (tail_of last))) (mark (codes ")")) (list_closed (begun_by opener) closer is)
    (subst (IsConstant (in_list items last)) (sym (row_pack (written_items (constants_of items) ++ written_tail (tail_of last)))) (constant_writes (in_list items last) (row inner) h))
constant_writes sort fragments (vector_constant items opener inner closer is h) =
    vector_constant items opener (pack (written_items (constants_of items))) (mark (codes "]")) (vector_closed (begun_by opener) closer is)
    (subst (IsConstant (in_vector items)) (sym (row_pack (written_items (constants_of items)))) (constant_writes (in_vector items) (row inner) h))
constant_writes sort fragments (one_constant item all h) =
    ((item, [], refl), one_constant item (written_constant item ++ []) (subst (IsConstant (constant item)) (sym (append-nil (written_constant item))) (constant_writes (constant item) all h)))
constant_writes sort fragments (more_constants items item separator before after all parts is h k) =
    let ((first, others, some), p) = constant_writes (some_constants items) before h in
    let l = constant_writes (constant item) after k in (
      (first, others ++ item ∷ [], ap (λ (more : List Constant). more ++ item ∷ []) some),
      subst (IsConstant (some_constants (items ++ item ∷ []))) (sym (items_more items first others item some))
          (more_constants items item (mark (codes ",")) (written_items (constants_of items)) (written_constant item) (written_items (constants_of items) ++ comma_mark ∷ written_constant item) refl refl p l),
    )
constant_writes sort fragments empty_list = empty_list
constant_writes sort fragments (proper_list items all h) =
    subst (IsConstant (in_list items None)) (sym (append-nil (written_items (constants_of items)))) (proper_list items (written_items (constants_of items)) (constant_writes (some_constants items) all h).1)
constant_writes sort fragments (improper_list items last point before after all parts is h k) =
    improper_list items last (mark (codes ".")) (written_items (constants_of items)) (written_constant last) (written_items (constants_of items) ++ dot_mark ∷ written_constant last) refl refl
    (constant_writes (some_constants items) before h).1 (constant_writes (constant last) after k)
constant_writes sort fragments empty_vector = empty_vector
constant_writes sort fragments (full_vector items all h) = full_vector items (written_items (constants_of items)) (constant_writes (some_constants items) all h).1
