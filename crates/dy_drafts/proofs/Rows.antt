-- What lists and unions of the source are in the core, as the lists that they hold.
use Rattle.std.proofs.Common.{◌≡◌, List, [], ◌∷◌, length, map, refl, ap, rules}
use Rattle.std.specs.Bool.{◌==◌}
use Rattle.std.specs.Prelude.{false, Option, Some, None, option_map}
use Rattle.std.specs.declared.vec.Vec.{Vec}
use Rattle.std.specs.declared.boxed.Box.{Box}
use Rattle.std.specs.declared.alloc.Global.{Global}
use Rattle.dy_tree.specs.declared.token.Token.{Token}
use Rattle.dy_tree.specs.declared.types.ConstantForm.{ConstantForm, Row_of-ConstantForm, end_of-ConstantForm, more_of-ConstantForm, items-the_row-ConstantForm, Held-ConstantForm-List-2, None' as NoTail', Some' as SomeTail', view-ConstantForm-List-2}
use Rattle.dy_tree.specs.declared.types.ConstantForm.TheViews.{the_lemmas as constant_lemmas}
use Rattle.dy_tree.specs.declared.types.ConstantForm.TheVariants as constants
use Rattle.dy_tree.specs.declared.types.TypeForm.{TypeForm, Row_of-TypeForm, end_of-TypeForm, more_of-TypeForm, items-the_row-TypeForm}
use Rattle.dy_tree.specs.declared.types.TypeForm.TheViews.{the_lemmas as type_lemmas}
use Rattle.dy_tree.specs.declared.types.TypeForm.TheVariants as types
use Rattle.dy_term.specs.declared.literal.Literal.{Literal}
use Rattle.dy_term.specs.declared.literal.Literal as core
use Rattle.dy_term.specs.Types.{CoreTypes, type_and, union, types_of}
use Rattle.dy_rules.specs.ConstantTrees as source
use Rattle.dy_rules.specs.SeenTypes.{seen_constant, seen_constants, seen_tail, seen_type, seen_types}
use Rattle.dy_drafts.specs.Shapes as shapes
use Rattle.dy_drafts.specs.Shapes.{constant_of, list_of, type_of}
use Rattle.dy_drafts.specs.Literals.{literal_in, literals_in, last_in}

constants_items : {m : _} (row : Row_of-ConstantForm m) → shapes.constants_of (seen_constants row) ≡ map literal_in (items-the_row-ConstantForm m row)
constants_items end_of-ConstantForm = refl
constants_items (more_of-ConstantForm first rest) = ap (λ (others : List Literal). constant_of (seen_constant first) ∷ others) (constants_items rest)

pub constants_listed : (forms : List ConstantForm) → literals_in forms ≡ map literal_in forms
constants_listed [] = refl
constants_listed (form ∷ forms) = ap (λ (others : List Literal). literal_in form ∷ others) (constants_listed forms)

tail_held : (held : Held-ConstantForm-List-2) → seen_tail held ≡ source.tail_of (option_map seen_constant (option_map (λ form. form.value) (view-ConstantForm-List-2 held)))
tail_held NoTail' = refl
tail_held (SomeTail' p value) = refl

pub at_list : (opener : Token) (items : Vec ConstantForm Global) (last : Option (Box ConstantForm Global)) → literal_in (constants.List opener items last)
    ≡ list_of (map literal_in items.items) (last_in (option_map (λ form. form.value) last))
at_list opener items last = search (rules, constant_lemmas, constants_items, tail_held)

pub at_vector : (opener : Token) (items : Vec ConstantForm Global) → literal_in (constants.Vector opener items) ≡ core.Vector (map literal_in items.items)
at_vector opener items = search (rules, constant_lemmas, constants_items)

types_items : {m : _} (row : Row_of-TypeForm m) → shapes.types_of (seen_types row) ≡ types_of (map (λ form. type_of (seen_type form)) (items-the_row-TypeForm m row))
types_items end_of-TypeForm = refl
types_items (more_of-TypeForm first rest) = ap (λ (others : CoreTypes). type_and (type_of (seen_type first)) others) (types_items rest)

pub at_union : (word : Token) (inner : Vec TypeForm Global) → type_of (seen_type (types.Union word inner)) ≡ union word (types_of (map (λ form. type_of (seen_type form)) inner.items))
at_union word inner = search (rules, type_lemmas, types_items)

-- a list with items is no empty one
pub some_list : (items : List Literal) (last : Option Literal) → ¬ (items ≡ []) → list_of items last ≡ core.List items last
some_list [] last some = absurd (some refl)
some_list (first ∷ rest) last some = refl
