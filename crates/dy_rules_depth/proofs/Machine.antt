-- The reader of expressions gives the same to the limit, whatever stands in the place of trees that are too deep: token by token.
use Rattle.std.proofs.Common.{◌≡◌, ℕ, suc, nat_lt, Bool, true, false, List, map, Option, Some, option_map, refl, sym, ap, ◌∙◌}
use Rattle.dy_tree.specs.declared.token.Token.{Token}
use Rattle.dy_tree.specs.declared.roles.Role.{Role}
use Rattle.dy_tree.specs.declared.roles.Role.TheVariants as roles
use Rattle.dy_tree.specs.declared.roles.Precedence.{Precedence}
use Rattle.dy_tree.specs.declared.roles.Precedence.TheVariants as precedences
use Rattle.dy_tree.specs.declared.brackets.Bracket.{Bracket}
use Rattle.dy_tree.specs.declared.brackets.Bracket.TheVariants as brackets
use Rattle.dy_tree.specs.declared.splitters.Splitting.{Splitting}
use Rattle.dy_rules.specs.Operators.{below}
use Rattle.dy_rules.specs.Trees.{Tree, assignment, operation, unary, literal, Argument, arguments_of}
use Rattle.dy_rules.specs.Roles.{role_of, splits, positive}
use Rattle.dy_rules.specs.Reading.{Outer, whole, operated, under, assigned, Part, State, wants, counted, has, dotted, reduced, finished, under_sign, integer_part, settled, name_if, at_operand, operates, assigns_to, behind, member_if, behind_dot, at_token, in_brackets, indexed, called, group_behind, group_at_operand, at_group, finished_part, tree_of}
use Rattle.dy_rules_depth.specs.Changes.{changed_argument}
use Rattle.dy_rules_depth.specs.ReaderChanges.{changed_outer, changed_part, changed_state}
use Rattle.dy_rules_depth.specs.Capping.{capped, capping}
use Rattle.dy_rules_depth.proofs.Options.{lifted, if_same, map_same}
use Rattle.dy_rules_depth.proofs.Twice.{tree_twice, outer_twice}
use Rattle.dy_rules_depth.proofs.SameNodes.{same_assignment, same_operation, same_unary, same_call, same_element, same_member}
use Rattle.dy_rules_depth.proofs.Rows.{arguments_changed}

-- a part with what it will be a part of

pub reduced_on : (height : ℕ) (tree other : Tree) (outer : Outer) → capped tree ≡ capped other → changed_part capping (reduced height tree (changed_outer capping outer)) ≡ changed_part capping (reduced height other outer)
reduced_on height tree other whole e = cc
reduced_on height tree other (operated precedence left sign outer) e =
    if_same (changed_part capping) (nat_lt (below precedence) height)
    (reduced height (operation precedence (capped left) sign tree) (changed_outer capping outer)) (tree, operated precedence (capped left) sign (changed_outer capping outer))
    (reduced height (operation precedence left sign other) outer) (other, operated precedence left sign outer)
    (reduced_on height (operation precedence (capped left) sign tree) (operation precedence left sign other) outer (same_operation precedence (capped left) left sign tree other (tree_twice left) e))
    (cc (tree_twice left, outer_twice outer))
reduced_on height tree other (under sign outer) e = reduced_on height (unary sign tree) (unary sign other) outer (same_unary sign tree other e)
reduced_on height tree other (assigned place outer) e = cc (tree_twice place, outer_twice outer)

pub reduced_same : (height : ℕ) (part other : Part) → changed_part capping part ≡ changed_part capping other → changed_part capping (reduced height part.0 part.1) ≡ changed_part capping (reduced height other.0 other.1)
reduced_same height part other e =
    sym (reduced_on height part.0 part.0 part.1 refl) ∙ ap (λ (outer : Outer). changed_part capping (reduced height part.0 outer)) (ap (λ (p : Part). p.1) e) ∙ reduced_on height part.0 other.0 other.1 (ap (λ (p : Part). p.0) e)

pub finished_on : (tree other : Tree) (outer : Outer) → capped tree ≡ capped other → capped (finished tree (changed_outer capping outer)) ≡ capped (finished other outer)
finished_on tree other whole e = e
finished_on tree other (operated precedence left sign outer) e = finished_on (operation precedence (capped left) sign tree) (operation precedence left sign other) outer (same_operation precedence (capped left) left sign tree other (tree_twice left) e)
finished_on tree other (under sign outer) e = finished_on (unary sign tree) (unary sign other) outer (same_unary sign tree other e)
finished_on tree other (assigned place outer) e = finished_on (assignment (capped place) tree) (assignment place other) outer (same_assignment (capped place) place tree other (tree_twice place) e)

pub finished_same : (part other : Part) → changed_part capping part ≡ changed_part capping other → capped (finished_part part) ≡ capped (finished_part other)
finished_same part other e =
    sym (finished_on part.0 part.0 part.1 refl) ∙ ap (λ (outer : Outer). capped (finished part.0 outer)) (ap (λ (p : Part). p.1) e) ∙ finished_on part.0 other.0 other.1 (ap (λ (p : Part). p.0) e)

under_sign_on : (role : Role) (sign digits : Token) (outer : Outer) → changed_part capping (under_sign role sign digits (changed_outer capping outer)) ≡ changed_part capping (under_sign role sign digits outer)
under_sign_on roles.Minus sign digits outer = cc (outer_twice outer)
under_sign_on role sign digits outer = cc (outer_twice outer)

pub integer_on : (digits : Token) (outer : Outer) → changed_part capping (integer_part digits (changed_outer capping outer)) ≡ changed_part capping (integer_part digits outer)
integer_on digits whole = refl
integer_on digits (operated precedence left sign outer) = cc (tree_twice left, outer_twice outer)
integer_on digits (under sign outer) = under_sign_on (role_of sign) sign digits outer
integer_on digits (assigned place outer) = cc (tree_twice place, outer_twice outer)

pub settled_on : (state : State) → option_map (changed_part capping) (settled (changed_state capping state)) ≡ option_map (changed_part capping) (settled state)
settled_on (wants outer) = refl
settled_on (counted digits outer) = ap Some (integer_on digits outer)
settled_on (has tree outer) = cc (tree_twice tree, outer_twice outer)
settled_on (dotted tree outer) = refl

pub settled_same : (state other : State) → changed_state capping state ≡ changed_state capping other → option_map (changed_part capping) (settled state) ≡ option_map (changed_part capping) (settled other)
settled_same state other e = lifted (changed_state capping) (option_map (changed_part capping)) settled settled_on state other e

pub tree_same : (state other : State) → changed_state capping state ≡ changed_state capping other → option_map capped (tree_of state) ≡ option_map capped (tree_of other)
tree_same state other e = map_same (changed_part capping) capped finished_part finished_part (settled state) (settled other) finished_same (settled_same state other e)

-- a token

pub name_same : (is : Bool) (token : Token) (outer other : Outer) → changed_outer capping outer ≡ changed_outer capping other → option_map (changed_state capping) (name_if is token outer) ≡ option_map (changed_state capping) (name_if is token other)
name_same true token outer other e = refl
name_same false token outer other e = cc

pub operand_same : (words : Splitting) (outer other : Outer) (token : Token) (role : Role) → changed_outer capping outer ≡ changed_outer capping other
    → option_map (changed_state capping) (at_operand words outer token role) ≡ option_map (changed_state capping) (at_operand words other token role)
operand_same words outer other token roles.Named e = name_same (splits words token) token outer other e
operand_same words outer other token role e = cc

pub operates_same : (precedence : Precedence) (sign : Token) (part other : Part) → changed_part capping part ≡ changed_part capping other → changed_state capping (operates precedence sign part) ≡ changed_state capping (operates precedence sign other)
operates_same precedence sign part other e = ap (λ (p : Part). wants (operated precedence p.0 sign p.1)) e

pub assigns_same : (part other : Part) → changed_part capping part ≡ changed_part capping other → changed_state capping (assigns_to part) ≡ changed_state capping (assigns_to other)
assigns_same part other e = ap (λ (p : Part). wants (assigned p.0 p.1)) e

pub behind_same : (alone other part rest : Part) (token : Token) (role : Role) → changed_part capping alone ≡ changed_part capping other → changed_part capping part ≡ changed_part capping rest
    → option_map (changed_state capping) (behind alone part token role) ≡ option_map (changed_state capping) (behind other rest token role)
behind_same alone other part rest token (roles.Operator precedence) e f =
    ap Some (operates_same precedence token (reduced (suc (below precedence)) part.0 part.1) (reduced (suc (below precedence)) rest.0 rest.1) (reduced_same (suc (below precedence)) part rest f))
behind_same alone other part rest token roles.Minus e f = ap Some (operates_same precedences.Sum token (reduced (suc (below precedences.Sum)) part.0 part.1) (reduced (suc (below precedences.Sum)) rest.0 rest.1) (reduced_same (suc (below precedences.Sum)) part rest f))
behind_same alone other part rest token roles.Assigns e f = ap Some (assigns_same (reduced 5 part.0 part.1) (reduced 5 rest.0 rest.1) (reduced_same 5 part rest f))
behind_same alone other part rest token roles.Dot e f = ap (λ (p : Part). Some (dotted p.0 p.1)) e
behind_same alone other part rest token role e f = refl

pub member_same : (is : Bool) (tree other : Tree) (outer rest : Outer) (token : Token) → capped tree ≡ capped other → changed_outer capping outer ≡ changed_outer capping rest
    → option_map (changed_state capping) (member_if is tree outer token) ≡ option_map (changed_state capping) (member_if is other rest token)
member_same true tree other outer rest token e f = refl
member_same false tree other outer rest token e f = cc (same_member tree other token e)

pub dot_same : (words : Splitting) (tree other : Tree) (outer rest : Outer) (token : Token) (role : Role) → capped tree ≡ capped other → changed_outer capping outer ≡ changed_outer capping rest
    → option_map (changed_state capping) (behind_dot words tree outer token role) ≡ option_map (changed_state capping) (behind_dot words other rest token role)
dot_same words tree other outer rest token roles.Named e f = member_same (splits words token) tree other outer rest token e f
dot_same words tree other outer rest token role e f = refl

has_twice : (tree : Tree) (outer : Outer) → changed_part capping (capped tree, changed_outer capping outer) ≡ changed_part capping (tree, outer)
has_twice tree outer = cc (tree_twice tree, outer_twice outer)

pub token_on : (words : Splitting) (token : Token) (state : State) → option_map (changed_state capping) (at_token words (changed_state capping state) token) ≡ option_map (changed_state capping) (at_token words state token)
token_on words token (wants outer) = operand_same words (changed_outer capping outer) outer token (role_of token) (outer_twice outer)
token_on words token (counted digits outer) =
    behind_same (literal (positive digits), changed_outer capping outer) (literal (positive digits), outer) (integer_part digits (changed_outer capping outer)) (integer_part digits outer) token (role_of token) (cc (outer_twice outer)) (integer_on digits outer)
token_on words token (has tree outer) =
    behind_same (capped tree, changed_outer capping outer) (tree, outer) (capped tree, changed_outer capping outer) (tree, outer) token (role_of token) (has_twice tree outer) (has_twice tree outer)
token_on words token (dotted tree outer) = dot_same words (capped tree) tree (changed_outer capping outer) outer token (role_of token) (tree_twice tree) (outer_twice outer)

pub token_same : (words : Splitting) (state other : State) (token : Token) → changed_state capping state ≡ changed_state capping other
    → option_map (changed_state capping) (at_token words state token) ≡ option_map (changed_state capping) (at_token words other token)
token_same words state other token e = lifted (changed_state capping) (option_map (changed_state capping)) (λ s. at_token words s token) (token_on words token) state other e

-- a group

pub brackets_same : (outer rest : Outer) → changed_outer capping outer ≡ changed_outer capping rest → (tree other : Tree) → capped tree ≡ capped other → changed_state capping (in_brackets outer tree) ≡ changed_state capping (in_brackets rest other)
brackets_same outer rest e tree other f = cc

pub indexed_same : (part rest : Part) (opener : Token) → changed_part capping part ≡ changed_part capping rest → (tree other : Tree) → capped tree ≡ capped other → changed_state capping (indexed part opener tree) ≡ changed_state capping (indexed rest opener other)
indexed_same part rest opener e tree other f =
    let first : capped part.0 ≡ capped rest.0 = ap (λ (p : Part). p.0) e in
    let second : changed_outer capping part.1 ≡ changed_outer capping rest.1 = ap (λ (p : Part). p.1) e in
    cc (same_element part.0 rest.0 opener tree other first f)

pub called_same : (part rest : Part) → changed_part capping part ≡ changed_part capping rest → (passed others : List Argument) → map (changed_argument capping) passed ≡ map (changed_argument capping) others
    → changed_state capping (called part passed) ≡ changed_state capping (called rest others)
called_same part rest e passed others f =
    let first : capped part.0 ≡ capped rest.0 = ap (λ (p : Part). p.0) e in
    let second : changed_outer capping part.1 ≡ changed_outer capping rest.1 = ap (λ (p : Part). p.1) e in
    cc (same_call part.0 rest.0 (arguments_of passed) (arguments_of others) first (arguments_changed passed others f))

abbrev pub SamePassed : Option (List Argument) → Option (List Argument) → Type 0
SamePassed passed others = option_map (map (changed_argument capping)) passed ≡ option_map (map (changed_argument capping)) others

pub group_behind_same : (part rest : Part) (opener : Token) (bracket : Bracket) (tree other : Option Tree) (passed others : Option (List Argument)) → changed_part capping part ≡ changed_part capping rest → option_map capped tree ≡ option_map capped other → SamePassed passed others
    → option_map (changed_state capping) (group_behind part opener bracket tree passed) ≡ option_map (changed_state capping) (group_behind rest opener bracket other others)
group_behind_same part rest opener brackets.Round tree other passed others e f g = map_same (map (changed_argument capping)) (changed_state capping) (called part) (called rest) passed others (called_same part rest e) g
group_behind_same part rest opener brackets.Square tree other passed others e f g = map_same capped (changed_state capping) (indexed part opener) (indexed rest opener) tree other (indexed_same part rest opener e) f
group_behind_same part rest opener bracket tree other passed others e f g = refl

pub group_at_operand_same : (outer rest : Outer) (bracket : Bracket) (tree other : Option Tree) → changed_outer capping outer ≡ changed_outer capping rest → option_map capped tree ≡ option_map capped other
    → option_map (changed_state capping) (group_at_operand outer bracket tree) ≡ option_map (changed_state capping) (group_at_operand rest bracket other)
group_at_operand_same outer rest bracket tree other e f = go bracket
  where
    inner : option_map (changed_state capping) (option_map (in_brackets outer) tree) ≡ option_map (changed_state capping) (option_map (in_brackets rest) other)
    inner = map_same capped (changed_state capping) (in_brackets outer) (in_brackets rest) tree other (brackets_same outer rest e) f

    go : (kind : Bracket) → option_map (changed_state capping) (group_at_operand outer kind tree) ≡ option_map (changed_state capping) (group_at_operand rest kind other)
    go brackets.Round = inner
    go brackets.Hidden = inner
    go brackets.SharpRound = inner
    go brackets.SharpSquare = inner
    go (brackets.Statement kind) = inner
    go kind = refl

pub group_on : (state : State) (opener : Token) (bracket : Bracket) (tree other : Option Tree) (passed others : Option (List Argument)) → option_map capped tree ≡ option_map capped other → SamePassed passed others
    → option_map (changed_state capping) (at_group (changed_state capping state) opener bracket tree passed) ≡ option_map (changed_state capping) (at_group state opener bracket other others)
group_on (wants outer) opener bracket tree other passed others e f = group_at_operand_same (changed_outer capping outer) outer bracket tree other (outer_twice outer) e
group_on (counted digits outer) opener bracket tree other passed others e f =
    group_behind_same (literal (positive digits), changed_outer capping outer) (literal (positive digits), outer) opener bracket tree other passed others (cc (outer_twice outer)) e f
group_on (has left outer) opener bracket tree other passed others e f = group_behind_same (capped left, changed_outer capping outer) (left, outer) opener bracket tree other passed others (has_twice left outer) e f
group_on (dotted left outer) opener bracket tree other passed others e f = refl

pub group_same : (state rest : State) (opener : Token) (bracket : Bracket) (tree other : Option Tree) (passed others : Option (List Argument)) → changed_state capping state ≡ changed_state capping rest → option_map capped tree ≡ option_map capped other → SamePassed passed others
    → option_map (changed_state capping) (at_group state opener bracket tree passed) ≡ option_map (changed_state capping) (at_group rest opener bracket other others)
group_same state rest opener bracket tree other passed others e f g =
    sym (group_on state opener bracket tree tree passed passed refl refl) ∙ ap (λ (s : State). option_map (changed_state capping) (at_group s opener bracket tree passed)) e ∙ group_on rest opener bracket tree other passed others f g
