-- Forms are read with names in lower case.
use Rattle.std.proofs.Common.{◌≡◌, Bool, true, false, cond, List, [], ◌∷◌, Option, Some, None, Result, Ok, Err, option_map, codes, subst}
use Rattle.std.specs.List.{AllByRecursion}
use Rattle.std.specs.Prelude.{◌&&◌}
use Rattle.dy_base.specs.Folding.{folded}
use Rattle.dy_base.proofs.Letters.{folded-twice}
use Rattle.dy_base.specs.declared.fault.Place.{Place}
use Rattle.dy_tree.specs.declared.token.Token.{Token}
use Rattle.dy_tree.specs.Spelling.{is_spelled, is_word, is_sign}
use Rattle.dy_tree.specs.Fragments.{SeenFragment, one, group, row}
use Rattle.dy_rules.specs.Roles.{role_of}
use Rattle.dy_module_forms.specs.declared.written.Member.{Member}
use Rattle.dy_module_forms.specs.declared.written.UseOption.{UseOption}
use Rattle.dy_module_forms.specs.declared.written.UseOption.TheVariants.{Import, Exclude, Rename, Prefix, Export}
use Rattle.dy_module_forms.specs.declared.written.Kind.{Kind}
use Rattle.dy_module_forms.specs.declared.written.Clause.{Clause}
use Rattle.dy_module_forms.specs.declared.written.Clause.TheVariants as clauses
use Rattle.dy_module_forms.specs.declared.written.Placed.{Placed}
use Rattle.dy_module_forms.specs.declared.written.Form.{Form}
use Rattle.dy_module_forms.specs.Cuts.{is_mark, parts, ended, with_read, each, pieces}
use Rattle.dy_module_forms.specs.Clauses.{is_named, name_of, name_alone, names_of, plain, renamed, member_of, members_in, set_of, is_all, all_or_set, is_text, text_of, import_of, exclude_of, rename_of, prefix_of, export_of, option_named, is_symbol, option_behind, option_of, are_once, use_with, use_parts, use_of, may_create, clause_with, placed, clause_behind, clause_of, clauses_of}
use Rattle.dy_module_forms.specs.Forms.{form_with, kind_of, form_of_kind, form_in, form_of, piece_form, piece_place, with_form, forms_in}
use Rattle.dy_modules.specs.Clauses.{Name}
use Rattle.dy_folded_names.specs.Folded.{IsLower, AreLower, MemberIsLower, MembersAreLower, SetIsLower, OptionIsLower, ClauseIsLower, FormIsLower, FormsAreLower}

-- what holds of something if it is read
abbrev IfRead : {A : Type 0} → (A → Type 0) → Option A → Type 0
IfRead P None = Unit {0}
IfRead P (Some a) = P a

if_cond : {A : Type 0} (P : A → Type 0) (b : Bool) (x y : Option A) → IfRead P x → IfRead P y → IfRead P (cond b x y)
if_cond P true x y h k = h
if_cond P false x y h k = k

if_mapped : {A B : Type 0} (P : A → Type 0) (Q : B → Type 0) (f : A → B) → ((a : A) → P a → Q (f a)) → (o : Option A) → IfRead P o → IfRead Q (option_map f o)
if_mapped P Q f keeps None h = tt
if_mapped P Q f keeps (Some a) h = keeps a h

anything : {A : Type 0} (o : Option A) → IfRead (λ (a : A). Unit {0}) o
anything None = tt
anything (Some a) = tt

module _ {A : Type 0} (P : A → Type 0) where
  with_one : (o : Option A) (others : Option (List A)) → IfRead P o → IfRead (AllByRecursion P) others → IfRead (AllByRecursion P) (with_read o others)
  with_one None others h all = tt
  with_one (Some a) None h all = tt
  with_one (Some a) (Some others) h all = (h, all)

  module _ (read : List SeenFragment → Option A) (reads : (fragments : List SeenFragment) → IfRead P (read fragments)) where
    each_read : (list : List (List SeenFragment)) → IfRead (AllByRecursion P) (each read list)
    each_read [] = tt
    each_read (part ∷ others) = with_one (read part) (each read others) (reads part) (each_read others)

    members_read : (fragments : List SeenFragment) → IfRead (AllByRecursion P) (members_in read fragments)
    members_read [] = tt
    members_read (first ∷ rest) = each_read (parts (codes ",") (first ∷ rest))

    set_read : (value : SeenFragment) → IfRead (AllByRecursion P) (set_of read value)
    set_read (one token) = tt
    set_read (group opener inner closer) = if_cond (AllByRecursion P) (is_sign (codes "{") opener) (members_in read (row inner)) None (members_read (row inner)) tt

-- names
name_read : (fragment : SeenFragment) → IfRead IsLower (name_of fragment)
name_read (one token) = if_cond IsLower (is_named (role_of token)) (Some (folded token.text)) None (folded-twice token.text) tt
name_read (group opener inner closer) = tt

alone_read : (fragments : List SeenFragment) → IfRead IsLower (name_alone fragments)
alone_read [] = tt
alone_read (only ∷ []) = name_read only
alone_read (first ∷ second ∷ rest) = tt

names_read : (fragments : List SeenFragment) → IfRead AreLower (names_of fragments)
names_read fragments = each_read IsLower name_alone alone_read (parts (codes ",") fragments)

renamed_read : (name new : Option Name) → IfRead IsLower name → IfRead IsLower new → IfRead MemberIsLower (renamed name new)
renamed_read None new h k = tt
renamed_read (Some name) None h k = tt
renamed_read (Some name) (Some new) h k = (h, k)

member_read : (fragments : List SeenFragment) → IfRead MemberIsLower (member_of fragments)
member_read [] = tt
member_read (only ∷ []) = if_mapped IsLower MemberIsLower plain (λ name h. (h, tt)) (name_of only) (name_read only)
member_read (first ∷ second ∷ []) = tt
member_read (name ∷ arrow ∷ new ∷ []) =
    if_cond MemberIsLower (is_mark (codes "=>") arrow) (renamed (name_of name) (name_of new)) None (renamed_read (name_of name) (name_of new) (name_read name) (name_read new)) tt
member_read (first ∷ second ∷ third ∷ fourth ∷ rest) = tt

text_read : (fragment : SeenFragment) → IfRead IsLower (text_of fragment)
text_read (one token) = if_cond IsLower (is_text (role_of token)) (Some (folded token.text)) None (folded-twice token.text) tt
text_read (group opener inner closer) = tt

-- options
import_read : (value : SeenFragment) → IfRead OptionIsLower (import_of value)
import_read value =
    if_mapped SetIsLower OptionIsLower Import (λ set h. h) (all_or_set member_of value)
    (if_cond SetIsLower (is_all value) (Some None) (option_map Some (set_of member_of value)) tt
    (if_mapped MembersAreLower SetIsLower Some (λ members h. h) (set_of member_of value) (set_read MemberIsLower member_of member_read value)))

exclude_read : (value : SeenFragment) → IfRead OptionIsLower (exclude_of value)
exclude_read value = if_mapped (λ (names : List Name). Unit {0}) OptionIsLower Exclude (λ names h. tt) (set_of name_alone value) (anything (set_of name_alone value))

rename_read : (value : SeenFragment) → IfRead OptionIsLower (rename_of value)
rename_read value = if_mapped MembersAreLower OptionIsLower Rename (λ members h. h) (set_of member_of value) (set_read MemberIsLower member_of member_read value)

prefix_read : (value : SeenFragment) → IfRead OptionIsLower (prefix_of value)
prefix_read value = if_mapped IsLower OptionIsLower Prefix (λ text h. h) (text_of value) (text_read value)

export_read : (value : SeenFragment) → IfRead OptionIsLower (export_of value)
export_read value = if_mapped (λ (set : Option (List Name)). Unit {0}) OptionIsLower Export (λ set h. tt) (all_or_set name_alone value) (anything (all_or_set name_alone value))

named_read : (word : Token) (value : SeenFragment) → IfRead OptionIsLower (option_named word value)
named_read word value =
    let exports = cond (is_spelled (codes "export") word) (export_of value) None in
    let prefixes = cond (is_spelled (codes "prefix") word) (prefix_of value) exports in
    let renames = cond (is_spelled (codes "rename") word) (rename_of value) prefixes in
    let excludes = cond (is_spelled (codes "exclude") word) (exclude_of value) renames in
    if_cond OptionIsLower (is_spelled (codes "import") word) (import_of value) excludes (import_read value)
    (if_cond OptionIsLower (is_spelled (codes "exclude") word) (exclude_of value) renames (exclude_read value)
    (if_cond OptionIsLower (is_spelled (codes "rename") word) (rename_of value) prefixes (rename_read value)
    (if_cond OptionIsLower (is_spelled (codes "prefix") word) (prefix_of value) exports (prefix_read value)
    (if_cond OptionIsLower (is_spelled (codes "export") word) (export_of value) None (export_read value) tt))))

behind_read : (word value : SeenFragment) → IfRead OptionIsLower (option_behind word value)
behind_read (one word) value = if_cond OptionIsLower (is_symbol (role_of word)) (option_named word value) None (named_read word value) tt
behind_read (group opener inner closer) value = tt

option_read : (fragments : List SeenFragment) → IfRead OptionIsLower (option_of fragments)
option_read [] = tt
option_read (word ∷ []) = tt
option_read (word ∷ value ∷ []) = behind_read word value
option_read (first ∷ second ∷ third ∷ rest) = tt

-- clauses
use_read : (name : Option Name) (options : Option (List UseOption)) → IfRead (AllByRecursion OptionIsLower) options → IfRead ClauseIsLower (use_with name options)
use_read None options all = tt
use_read (Some name) None all = tt
use_read (Some name) (Some options) all = if_cond ClauseIsLower (are_once options) (Some (clauses.Use name options)) None all tt

use_parts_read : (list : List (List SeenFragment)) → IfRead ClauseIsLower (use_parts list)
use_parts_read [] = tt
use_parts_read (first ∷ others) = use_read (name_alone first) (each option_of others) (each_read OptionIsLower option_of option_read others)

clause_read : (kind : Kind) (word : Token) (rest : List SeenFragment) → IfRead ClauseIsLower (clause_with kind word rest)
clause_read kind word rest =
    let creates = cond (may_create kind && is_word (codes "create") word) (option_map clauses.Create (names_of rest)) None in
    let exports = cond (is_word (codes "export") word) (option_map clauses.Export (names_of rest)) creates in
    if_cond ClauseIsLower (is_word (codes "use") word) (use_of rest) exports (use_parts_read (parts (codes ",") rest))
    (if_cond ClauseIsLower (is_word (codes "export") word) (option_map clauses.Export (names_of rest)) creates (if_mapped AreLower ClauseIsLower clauses.Export (λ names h. h) (names_of rest) (names_read rest))
    (if_cond ClauseIsLower (may_create kind && is_word (codes "create") word) (option_map clauses.Create (names_of rest)) None
    (if_mapped AreLower ClauseIsLower clauses.Create (λ names h. h) (names_of rest) (names_read rest)) tt))

abbrev PlacedIsLower : Placed → Type 0
PlacedIsLower clause = ClauseIsLower clause.clause

clause_behind_read : (kind : Kind) (word : SeenFragment) (rest : List SeenFragment) → IfRead PlacedIsLower (clause_behind kind word rest)
clause_behind_read kind (one word) rest = if_mapped ClauseIsLower PlacedIsLower (placed word) (λ clause h. h) (clause_with kind word rest) (clause_read kind word rest)
clause_behind_read kind (group opener inner closer) rest = tt

placed_read : (kind : Kind) (fragments : List SeenFragment) → IfRead PlacedIsLower (clause_of kind fragments)
placed_read kind [] = tt
placed_read kind (word ∷ rest) = clause_behind_read kind word rest

clauses_read : (kind : Kind) (fragments : List SeenFragment) → IfRead (AllByRecursion PlacedIsLower) (clauses_of kind fragments)
clauses_read kind fragments = each_read PlacedIsLower (clause_of kind) (placed_read kind) (ended (parts (codes ";") fragments))

-- forms
with_read_clauses : (kind : Kind) (place : Place) (name : Option Name) (list : Option (List Placed)) → IfRead (AllByRecursion PlacedIsLower) list → IfRead FormIsLower (form_with kind place name list)
with_read_clauses kind place None list all = tt
with_read_clauses kind place (Some name) None all = tt
with_read_clauses kind place (Some name) (Some list) all = all

of_kind_read : (kind : Option Kind) (place : Place) (name : SeenFragment) (rest : List SeenFragment) → IfRead FormIsLower (form_of_kind kind place name rest)
of_kind_read None place name rest = tt
of_kind_read (Some kind) place name rest = with_read_clauses kind place (name_of name) (clauses_of kind rest) (clauses_read kind rest)

in_read : (place : Place) (fragments : List SeenFragment) → IfRead FormIsLower (form_in place fragments)
in_read place [] = tt
in_read place (word ∷ []) = tt
in_read place (word ∷ name ∷ rest) = of_kind_read (kind_of word) place name rest

form_read : (fragment : SeenFragment) → IfRead FormIsLower (form_of fragment)
form_read (one token) = tt
form_read (group opener inner closer) = if_cond FormIsLower (is_word (codes "define") opener) (form_in opener.place (row inner)) None (in_read opener.place (row inner)) tt

piece_read : (piece : List SeenFragment) → IfRead FormIsLower (piece_form piece)
piece_read [] = tt
piece_read (only ∷ []) = form_read only
piece_read (form ∷ mark ∷ []) = if_cond FormIsLower (is_mark (codes ";") mark) (form_of form) None (form_read form) tt
piece_read (first ∷ second ∷ third ∷ rest) = tt

abbrev IfForms : Result (List Form) Place → Type 0
IfForms (Ok forms) = AllByRecursion FormIsLower forms
IfForms (Err place) = Unit {0}

with_form_read : (place : Place) (form : Option Form) (others : Result (List Form) Place) → IfRead FormIsLower form → IfForms others → IfForms (with_form place form others)
with_form_read place None others h all = tt
with_form_read place (Some form) (Ok others) h all = (h, all)
with_form_read place (Some form) (Err other) h all = tt

forms_read : (list : List (List SeenFragment)) → IfForms (forms_in list)
forms_read [] = tt
forms_read (piece ∷ others) = with_form_read (piece_place piece) (piece_form piece) (forms_in others) (piece_read piece) (forms_read others)

pub forms_are_lower : FormsAreLower
forms_are_lower fragments forms e = subst IfForms e (forms_read (pieces fragments))
