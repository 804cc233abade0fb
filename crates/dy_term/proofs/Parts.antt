-- The parts of a draft, as the lists of them.
use Rattle.std.proofs.Common.{◌≡◌, List, ◌∷◌, map, refl, ap, rules}
use Rattle.dy_tree.specs.declared.token.Token.{Token}
use Rattle.dy_term.specs.declared.draft.DraftType.{Row_of-DraftType, end_of-DraftType, more_of-DraftType, items-the_row-DraftType}
use Rattle.dy_term.specs.declared.draft.DraftTerm.{DraftTerm, Row_of-DraftTerm, end_of-DraftTerm, more_of-DraftTerm, items-the_row-DraftTerm, Row_of-DraftTerm-Cond-0-2, end_of-DraftTerm-Cond-0-2, more_of-DraftTerm-Cond-0-2, items-the_row-DraftTerm-Cond-0-2, Row_of-DraftItem, end_of-DraftItem, more_of-DraftItem, items-the_row-DraftItem}
use Rattle.std.specs.declared.vec.Vec.{Vec}
use Rattle.std.specs.declared.boxed.Box.{Box}
use Rattle.std.specs.declared.alloc.Global.{Global}
use Rattle.dy_term.specs.declared.draft.DraftItem.{DraftItem}
use Rattle.dy_term.specs.declared.draft.DraftTerm.TheVariants.{Call, Cond, Body}
use Rattle.dy_term.specs.declared.draft.DraftForClause.TheViews.{the_lemmas}
use Rattle.dy_term.specs.Types.{CoreTypes, type_and, types_of, seen_type, seen_types}
use Rattle.dy_term.specs.Drafts.{call, cond, body, Core, Cores, core_and, cores_of, Choice, branch, choice_of, CoreItems, item_and, items_of, seen_term, seen_terms, seen_branches, seen_pair, seen_item, seen_items}

pub types_items : {m : _} (row : Row_of-DraftType m) → seen_types row ≡ types_of (map seen_type (items-the_row-DraftType m row))
types_items end_of-DraftType = refl
types_items (more_of-DraftType first rest) = ap (λ (others : CoreTypes). type_and (seen_type first) others) (types_items rest)

pub terms_items : {m : _} (row : Row_of-DraftTerm m) → seen_terms row ≡ cores_of (map seen_term (items-the_row-DraftTerm m row))
terms_items end_of-DraftTerm = refl
terms_items (more_of-DraftTerm first rest) = ap (λ (others : Cores). core_and (seen_term first) others) (terms_items rest)

pub branches_items : {m : _} (row : Row_of-DraftTerm-Cond-0-2 m) (last : Core) → seen_branches row last ≡ choice_of (map seen_pair (items-the_row-DraftTerm-Cond-0-2 m row)) last
branches_items end_of-DraftTerm-Cond-0-2 last = refl
branches_items (more_of-DraftTerm-Cond-0-2 test term rest) last = ap (λ (others : Choice). branch (seen_term test) (seen_term term) others) (branches_items rest last)

pub items_items : {m : _} (row : Row_of-DraftItem m) → seen_items row ≡ items_of (map seen_item (items-the_row-DraftItem m row))
items_items end_of-DraftItem = refl
items_items (more_of-DraftItem first rest) = ap (λ (others : CoreItems). item_and (seen_item first) others) (items_items rest)

pub seen_call : (function : Box DraftTerm Global) (terms : Vec DraftTerm Global) → seen_term (Call function terms) ≡ call (seen_term function.value) (cores_of (map seen_term terms.items))
seen_call function terms = search (rules, the_lemmas, terms_items)

pub seen_cond : (branches : Vec (DraftTerm × DraftTerm) Global) (last : Box DraftTerm Global) → seen_term (Cond branches last) ≡ cond (choice_of (map seen_pair branches.items) (seen_term last.value))
seen_cond branches last = search (rules, the_lemmas, branches_items)

pub seen_body : (items : Vec DraftItem Global) → seen_term (Body items) ≡ body (items_of (map seen_item items.items))
seen_body items = search (rules, the_lemmas, items_items)
