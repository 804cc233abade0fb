-- Names and symbols that stand where nothing else may.
use Rattle.std.proofs.Common.{◌≡◌, true, List, [], ◌∷◌, ◌++◌, Option, Some, option_map, option_and_then, refl, sym}
use Rattle.dy_tree.specs.declared.token.Token.{Token}
use Rattle.dy_tree.specs.Fragments.{SeenFragment, one, group}
use Rattle.dy_tree.specs.declared.roles.Role.{Role}
use Rattle.dy_tree.specs.declared.roles.Role.TheVariants as roles
use Rattle.dy_rules.specs.Arguments.{is_comma, is_comma_fragment}
use Rattle.dy_rules.specs.Blocks.{exit_token, exit_in}
use Rattle.dy_rules.specs.Definitions.{is_setter}
use Rattle.dy_rules.specs.FormReading.{with_name, names_behind, names_in, setter_if, setter_in, symbol_of, symbol_in}
use Rattle.dy_rules.specs.Forms.{SlotOption}
use Rattle.dy_rules.specs.Roles.{role_of}
use Rattle.dy_rules.specs.TypeReading.{named_token, name_in}
use Rattle.dy_rules.proofs.Lists.{some_one}
use Rattle.dy_read_words.specs.Alone.{token_alone}
use Rattle.dy_read_parts.specs.Names.{name_at}
use Rattle.dy_read_parts.specs.Pieces.{read_before}
use Rattle.dy_read_parts.proofs.PieceRows.{read_more}

abbrev symbol_token : Token → Option Token
symbol_token token = symbol_of (role_of token) token

pub symbol_alone : (fragments : List SeenFragment) → symbol_in fragments ≡ option_and_then symbol_token (token_alone fragments)
symbol_alone [] = refl
symbol_alone (one token ∷ []) = refl
symbol_alone (one token ∷ second ∷ rest) = refl
symbol_alone (group opener inner closer ∷ []) = refl
symbol_alone (group opener inner closer ∷ second ∷ rest) = refl

abbrev setter_token : Token → Option SlotOption
setter_token token = setter_if (is_setter token) token

pub setter_alone : (fragments : List SeenFragment) → setter_in fragments ≡ option_and_then setter_token (token_alone fragments)
setter_alone [] = refl
setter_alone (one token ∷ []) = refl
setter_alone (one token ∷ second ∷ rest) = refl
setter_alone (group opener inner closer ∷ []) = refl
setter_alone (group opener inner closer ∷ second ∷ rest) = refl

exit_name : (role : Role) (token : Token) → exit_token role token ≡ option_map Some (named_token role token)
exit_name roles.Named token = refl
exit_name role token = refl

pub exit_alone : (only : SeenFragment) → exit_in (only ∷ []) ≡ option_map Some (name_at only)
exit_alone (one token) = exit_name (role_of token) token
exit_alone (group opener inner closer) = refl

pub name_behind : (mark : Token) (second : SeenFragment) → name_in (one mark ∷ second ∷ []) ≡ name_at second
name_behind mark (one token) = refl
name_behind mark (group opener inner closer) = refl

names_more : (role : Role) (token name : Token) (others : Option (List Token)) → Some name ≡ named_token role token → with_name role token others ≡ option_map (λ names. name ∷ names) others
names_more roles.Named token name others e = rw (some_one name token e) refl
names_more role token name others e = absurd cc

-- a name and a comma more
pub more_names : (before after : List Token) (first : SeenFragment) (name : Token) (separator : SeenFragment) (rest : List SeenFragment) → Some name ≡ name_at first → after ≡ before ++ name ∷ [] → true ≡ is_comma_fragment separator
    → read_before before (names_in (first ∷ separator ∷ rest)) ≡ read_before after (names_in rest)
more_names before after (one token) name (one separator) rest e more is = rw (names_more (role_of token) token name (names_behind (is_comma (role_of separator)) (names_in rest)) e, sym is, more) (read_more before name (names_in rest))
more_names before after (one token) name (group opener inner closer) rest e more is = absurd cc
more_names before after (group opener inner closer) name separator rest e more is = absurd cc
