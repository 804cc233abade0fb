-- What a form is written as stands for it.
use Rattle.std.proofs.Common.{◌≡◌, List, [], ◌∷◌, ◌++◌, map, codes, refl, sym, subst}
use Rattle.dy_tree.specs.declared.token.TokenKind.TheVariants as kinds
use Rattle.dy_tree.specs.declared.token.Token.{Token}
use Rattle.dy_tree.specs.Fragments.{SeenFragment, one, row, pack}
use Rattle.dy_tree.specs.declared.roles.Role.TheVariants as roles
use Rattle.dy_tree.specs.declared.brackets.Keyword.TheVariants as keywords
use Rattle.dy_tree.specs.declared.splitters.Splitting.TheVariants as splittings
use Rattle.dy_rules.specs.Trees.{Tree, body_of, parameters_of}
use Rattle.dy_rules.specs.Roles.{begun_by, role_of}
use Rattle.dy_rules.specs.Types.{some_types, IsType, types_of}
use Rattle.dy_rules.specs.Productions.{Derives, expression, initial, brackets, signature}
use Rattle.dy_rules.specs.Marks.{made, mark, in_round, word_mark, semicolon_mark}
use Rattle.dy_rules.specs.TypeWriting.{written_variable, written_target, written_types, written_results}
use Rattle.dy_rules.specs.Writing.{written, written_initial, written_body, written_signature}
use Rattle.dy_rules.specs.Forms.{AreNames, one_name, more_names, SlotOption, IsOption, by_keyword, by_required_keyword, by_value, by_init_function, by_setter, AreOptions, no_option, option_and, SlotTree, IsSlot, a_slot, AreSlots, no_slot, slot_and, FormTree, IsForm, by_expression, by_class, by_method, by_function, by_constant, by_variable, by_generic, by_domain}
use Rattle.dy_rules.specs.FormWriting.{written_names, written_option, written_options, written_slot, written_slots, written_form}
use Rattle.dy_rules.proofs.Lists.{row_pack}
use Rattle.dy_rules.proofs.WrittenConstants.{statement_closed}
use Rattle.dy_rules.proofs.TypeWritten.{types_write, variable_writes, target_writes, results_write}
use Rattle.dy_rules.proofs.Written.{writes, written_listed}

abbrev Fragments : Type 0
Fragments = List SeenFragment

names_write : (names : List Token) (fragments : Fragments) → AreNames names fragments → AreNames names (written_names names)
names_write names fragments (one_name token is) = one_name token is
names_write names fragments (more_names token separator others after is role h) = more_of token others after is h (names_write others after h)
  where
    more_of : (token : Token) (others : List Token) (after : Fragments) → role_of token ≡ roles.Named → AreNames others after → AreNames others (written_names others) → AreNames (token ∷ others) (written_names (token ∷ others))
    more_of token others after e (one_name second f) k = more_names token (mark (codes ",")) (second ∷ []) (one second ∷ []) e refl k
    more_of token others after e (more_names second sign rest behind f g m) k = more_names token (mark (codes ",")) (second ∷ rest) (written_names (second ∷ rest)) e refl k

value_writes : (tree : Tree) (fragments : Fragments) → Derives splittings.Nothing (expression tree) fragments → Derives splittings.Nothing (expression tree) (written tree)
value_writes tree fragments h = (writes splittings.Nothing (expression tree) fragments h).whole_is splittings.Nothing

option_writes : (option : SlotOption) (fragments : Fragments) → IsOption option fragments → IsOption option (written_option option)
option_writes option fragments (by_keyword word token is role) = by_keyword (made kinds.Symbol (codes "init-keyword")) token refl role
option_writes option fragments (by_required_keyword word token is role) = by_required_keyword (made kinds.Symbol (codes "required-init-keyword")) token refl role
option_writes option fragments (by_value word tree after is h) = by_value (made kinds.Symbol (codes "init-value")) tree (written tree) refl (value_writes tree after h)
option_writes option fragments (by_init_function word tree after is h) = by_init_function (made kinds.Symbol (codes "init-function")) tree (written tree) refl (value_writes tree after h)
option_writes option fragments (by_setter word token is sets) = by_setter (made kinds.Symbol (codes "setter")) token refl sets

options_write : (options : List SlotOption) (fragments : Fragments) → AreOptions options fragments → AreOptions options (written_options options)
options_write options fragments no_option = no_option
options_write options fragments (option_and separator first others before after all parts is h k) = option_and (mark (codes ",")) first others (written_option first) (written_options others) _ refl refl (option_writes first before h) (options_write others after k)

slot_writes : (slot : SlotTree) (fragments : Fragments) → IsSlot slot fragments → IsSlot slot (written_slot slot)
slot_writes slot fragments (a_slot it word before middle after all parts suits is v d o consistent) =
    a_slot it (made kinds.Name (codes "slot")) (written_variable it.variable) (written_initial it.default) (written_options it.options) _ refl suits refl (variable_writes it.variable before v) (writes splittings.Nothing (initial it.default) middle d) (options_write it.options after o) consistent

slots_write : (slots : List SlotTree) (fragments : Fragments) → AreSlots slots fragments → AreSlots slots (written_slots slots)
slots_write slots fragments no_slot = no_slot
slots_write slots fragments (slot_and first others separator before after all parts is h k) = slot_and first others (mark (codes ";")) (written_slot first) (written_slots others) _ refl refl (slot_writes first before h) (slots_write others after k)

pub form_writes : (form : FormTree) (fragments : Fragments) → IsForm form fragments → IsForm form (written_form form)
form_writes form fragments (by_expression tree all h) = by_expression tree (written tree) (value_writes tree fragments h)
form_writes form fragments (by_class define closer word token adjectives superclasses slots inner left within right after is parts class suits role is_round names s) =
    let inside : Fragments = map one adjectives ++ word_mark (codes "class") ∷ one token ∷ in_round (written_names superclasses) ∷ written_slots slots in
    by_class define (made kinds.Name (codes "end")) (made kinds.Name (codes "class")) token adjectives superclasses slots (pack inside) (mark (codes "(")) (pack (written_names superclasses)) (mark (codes ")")) (written_slots slots) (statement_closed (begun_by define) closer keywords.Define is) (row_pack inside) refl suits role refl
    (subst (AreNames superclasses) (sym (row_pack (written_names superclasses))) (names_write superclasses (row within) names)) (slots_write slots after s)
form_writes form fragments (by_method define closer word token adjectives found results trees inner after is parts method suits role h) =
    let rest : Fragments = written_signature (parameters_of found results) ++ semicolon_mark ∷ written_body (body_of trees) in
    let inside : Fragments = map one adjectives ++ one word ∷ one token ∷ rest in
    by_method define (made kinds.Name (codes "end")) word token adjectives found results trees (pack inside) rest (statement_closed (begun_by define) closer keywords.Define is) (row_pack inside) method suits role (writes splittings.Nothing (signature found results trees) after h)
form_writes form fragments (by_function define closer word token adjectives found results trees inner after is parts function suits role h) =
    let rest : Fragments = written_signature (parameters_of found results) ++ semicolon_mark ∷ written_body (body_of trees) in
    let inside : Fragments = map one adjectives ++ word_mark (codes "function") ∷ one token ∷ rest in
    by_function define (made kinds.Name (codes "end")) (made kinds.Name (codes "function")) token adjectives found results trees (pack inside) rest (statement_closed (begun_by define) closer keywords.Define is) (row_pack inside) refl suits role (writes splittings.Nothing (signature found results trees) after h)
form_writes form fragments (by_constant define word equals target assigned before after all parts role constant is t h) =
    by_constant define (made kinds.Name (codes "constant")) (made kinds.Operator (codes "=")) target assigned (written_target target) (written assigned) _ refl role refl refl (target_writes target before t) (value_writes assigned after h)
form_writes form fragments (by_variable define word equals target assigned before after all parts role variable is t h) =
    by_variable define (made kinds.Name (codes "variable")) (made kinds.Operator (codes "=")) target assigned (written_target target) (written assigned) _ refl role refl refl (target_writes target before t) (value_writes assigned after h)
form_writes form fragments (by_generic define word token adjectives found results left within right given all parts role generic suits named_role is_round plain_keys h r) =
    by_generic define (made kinds.Name (codes "generic")) token adjectives found results (mark (codes "(")) (pack (written_listed found)) (mark (codes ")")) (written_results results) _ refl role refl suits named_role refl plain_keys
    (subst (Derives splittings.Nothing (brackets found)) (sym (row_pack (written_listed found))) (writes splittings.Nothing (brackets found) (row within) h)) (results_write results given r)
form_writes form fragments (by_domain define adjective word token left within right types role sealed domain named_role is_round h) =
    by_domain define (made kinds.Name (codes "sealed")) (made kinds.Name (codes "domain")) token (mark (codes "(")) (pack (written_types (types_of types))) (mark (codes ")")) types role refl refl named_role refl
    (subst (IsType (some_types types)) (sym (row_pack (written_types (types_of types)))) (types_write types (row within) h))
