-- The machine that reads one expression.
use Rattle.std.proofs.Common.{◌≡◌, false, List, Option, refl, ap, ◌∙◌}
use Rattle.dy_tree.specs.declared.token.Token.{Token}
use Rattle.dy_tree.specs.declared.token.TokenKind.{TokenKind}
use Rattle.dy_tree.specs.declared.token.TokenKind.TheVariants as kinds
use Rattle.dy_tree.specs.declared.roles.Role.{Role}
use Rattle.dy_tree.specs.declared.roles.Role.TheVariants as roles
use Rattle.dy_tree.specs.declared.roles.Precedence.{Precedence}
use Rattle.dy_tree.specs.declared.brackets.Bracket.{Bracket}
use Rattle.dy_tree.specs.declared.brackets.Bracket.TheVariants as brackets
use Rattle.dy_rules.specs.Trees.{Tree, Argument, literal}
use Rattle.dy_rules.specs.Roles.{role_of, role_by, positive}
use Rattle.dy_rules.specs.Reading as reading
use Rattle.dy_rules.specs.Reading.{Outer, Part, wants, counted, has, dotted, operated, assigned, operates, assigns_to, behind, at_token, at_group, group_behind, group_at_operand, called, indexed, reduced, integer_part}
use Rattle.dy_rules_depth.specs.ReaderChanges.{changed_outer, changed_part, changed_state}
use Rattle.dy_rules_depth.specs.Capping.{capped, capping, is_absent, is_absent_kind}
use Rattle.dy_rules_depth.proofs.Twice.{tree_twice, outer_twice}
use Rattle.dy_read_outers.proofs.Stacks.{grown_kept}
use Rattle.dy_read_operators.specs.declared.state.State.{State}
use Rattle.dy_read_operators.specs.declared.state.State.TheVariants as states
use Rattle.dy_read_operators.specs.Machines.{seen_state, integer_for, need_at_operand, need_behind, need_of, tree_if, passed_if}

-- what the machine holds is within the limit

pub state_kept : (state : State) (outer : Outer) → changed_outer capping outer ≡ outer → seen_state state outer ≡ changed_state capping (seen_state state outer)
state_kept states.Wants outer e = cc
state_kept (states.Counted digits) outer e = cc
state_kept (states.Has tree) outer e = cc (grown_kept tree)
state_kept (states.Dotted tree) outer e = cc (grown_kept tree)

-- a name is no leaf that stands for a tree that is too deep

present_kind : (kind : TokenKind) (token : Token) → role_by kind token ≡ roles.Named → is_absent_kind kind ≡ false
present_kind kinds.PatternVar token e = absurd cc
present_kind kind token e = refl

pub named_present : (token : Token) → role_of token ≡ roles.Named → is_absent token ≡ false
named_present token e = present_kind token.kind token e

-- a token behind an operand

pub operates_made : (precedence : Precedence) (sign : Token) (part : Part) (left : Tree) (rest next : Outer) → (left, rest) ≡ changed_part capping part → next ≡ operated precedence left sign rest
    → changed_state capping (wants next) ≡ changed_state capping (operates precedence sign part)
operates_made precedence sign part left rest next e f =
    ap (λ (outer : Outer). changed_state capping (wants outer)) f ∙ ap (λ (p : Part). changed_state capping (wants (operated precedence p.0 sign p.1))) e
    ∙ ap wants (cc (tree_twice part.0, outer_twice part.1))

pub assigns_made : (part : Part) (place : Tree) (rest next : Outer) → (place, rest) ≡ changed_part capping part → next ≡ assigned place rest → changed_state capping (wants next) ≡ changed_state capping (assigns_to part)
assigns_made part place rest next e f =
    ap (λ (outer : Outer). changed_state capping (wants outer)) f ∙ ap (λ (p : Part). changed_state capping (wants (assigned p.0 p.1))) e ∙ ap wants (cc (tree_twice part.0, outer_twice part.1))

pub has_made : (grown node : Tree) (outer : Outer) → grown ≡ capped node → changed_state capping (has grown outer) ≡ changed_state capping (has node outer)
has_made grown node outer e = ap (λ (tree : Tree). has tree (changed_outer capping outer)) (ap capped e ∙ tree_twice node)

pub behind_integer : (digits : Token) (outer : Outer) (token : Token) (role : Role) → behind (literal (positive digits), outer) (integer_part digits outer) token role ≡ behind (integer_for role digits outer) (integer_for role digits outer) token role
behind_integer digits outer token roles.Dot = refl
behind_integer digits outer token role = refl

-- Which inside of a group is looked at, is all of it that matters.

need_at_operand_is : (outer : Outer) (bracket : Bracket) (tree : Option Tree) → group_at_operand outer bracket tree ≡ group_at_operand outer bracket (tree_if (need_at_operand bracket) tree)
need_at_operand_is outer brackets.Round tree = refl
need_at_operand_is outer brackets.Hidden tree = refl
need_at_operand_is outer brackets.SharpRound tree = refl
need_at_operand_is outer brackets.SharpSquare tree = refl
need_at_operand_is outer (brackets.Statement kind) tree = refl
need_at_operand_is outer bracket tree = refl

need_behind_is : (part : Part) (opener : Token) (bracket : Bracket) (tree : Option Tree) (passed : Option (List Argument)) → group_behind part opener bracket tree passed ≡ group_behind part opener bracket (tree_if (need_behind bracket) tree) (passed_if (need_behind bracket) passed)
need_behind_is part opener brackets.Round tree passed = refl
need_behind_is part opener brackets.Square tree passed = refl
need_behind_is part opener bracket tree passed = refl

pub need_is : (state : reading.State) (opener : Token) (bracket : Bracket) (tree : Option Tree) (passed : Option (List Argument)) → at_group state opener bracket tree passed ≡ at_group state opener bracket (tree_if (need_of state bracket) tree) (passed_if (need_of state bracket) passed)
need_is (wants outer) opener bracket tree passed = need_at_operand_is outer bracket tree
need_is (counted digits outer) opener bracket tree passed = need_behind_is (literal (positive digits), outer) opener bracket tree passed
need_is (has left outer) opener bracket tree passed = need_behind_is (left, outer) opener bracket tree passed
need_is (dotted left outer) opener bracket tree passed = refl
