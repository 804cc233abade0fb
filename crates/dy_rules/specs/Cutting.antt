-- Fragments with what was read inside of them, and how they are cut at separators.
use Rattle.std.specs.Prelude.{Bool, true, false, not, ◌&&◌, List, [], ◌∷◌, Option, Some, None}
use Rattle.std.specs.Prelude.{option_map}
use Rattle.dy_tree.specs.Fragments.{SeenFragment, one, group}
use Rattle.dy_tree.specs.declared.token.Token.{Token}
use Rattle.dy_tree.specs.declared.roles.Role.{Role}
use Rattle.dy_tree.specs.declared.roles.Role.TheVariants as roles
use Rattle.dy_tree.specs.declared.brackets.Bracket.{Bracket}
use Rattle.dy_tree.specs.declared.brackets.Bracket.TheVariants as brackets
use Rattle.dy_tree.specs.declared.splitters.Splitting.{Splitting}
use Rattle.dy_tree.specs.declared.splitters.Splitter.{Splitter}
use Rattle.dy_tree.specs.declared.splitters.Splitter.TheVariants as splitters
use Rattle.dy_rules.specs.Trees.{Tree, Argument, ForClause, StopTree, Listed, ItemTree}
use Rattle.dy_rules.specs.Roles.{role_of, splits, bracket_of, splitter_of}
use Rattle.dy_rules.specs.Types.{TypeTree, Bound, VariableTree, ResultTree, is_arrow_role}

-- the class and the bounds of a limited type
pub record Limits : Type 0 where
  pub class : Token
  pub bounds : List Bound

-- parts in a row, of which the last may be of another sort
pub record Ending (A B : Type 0) : Type 0 where
  pub parts : List A
  pub last : Option B

-- the value of a select, and what it is compared by
pub record Head : Type 0 where
  pub selected : Tree
  pub test : Option Tree

-- the parameters and the body of a method
pub record MethodFound : Type 0 where
  pub found : Listed
  pub results : Option ResultTree
  pub trees : List ItemTree

pub record NamedFound : Type 0 where
  pub token : Token
  pub method : MethodFound

-- the condition that a clause of a block catches
pub record Caught : Type 0 where
  pub variable : Option Token
  pub condition : TypeTree

-- what was read inside of a group, in each way
pub record Found : Type 0 where
  -- the tree that the group stands for, as a leaf or as an index
  pub tree : Option Tree
  pub passed : Option (List Argument)
  pub types : Option (List TypeTree)
  pub limits : Option Limits
  pub bound : Option (Ending VariableTree Token)
  pub head : Option Head
  pub caught : Option Caught
  pub given : Option (Ending VariableTree VariableTree)
  pub listed : Option Listed
  -- what stands between a word and its `end`, after a name or without one
  pub method : Option MethodFound
  pub named_method : Option NamedFound
  pub clauses : Option (Ending ForClause StopTree)

pub record Item : Type 0 where
  pub fragment : SeenFragment
  pub found : Found

-- items behind a separator
pub record Piece : Type 0 where
  pub separator : SeenFragment
  pub items : List Item

pub record Pieces : Type 0 where
  pub first : List Item
  pub others : List Piece

abbrev pub is_semicolon_role : Role → Bool
is_semicolon_role roles.Semicolon = true
is_semicolon_role _ = false

abbrev pub is_semicolon : SeenFragment → Bool
is_semicolon (one token) = is_semicolon_role (role_of token)
is_semicolon (group opener inner closer) = false

abbrev pub is_arrow : SeenFragment → Bool
is_arrow (one token) = is_arrow_role (role_of token)
is_arrow (group opener inner closer) = false

abbrev pub is_let_role : Role → Bool
is_let_role roles.Lets = true
is_let_role _ = false

abbrev pub is_let : SeenFragment → Bool
is_let (one token) = is_let_role (role_of token)
is_let (group opener inner closer) = false

-- a word that splits the statement
abbrev pub is_splitter : Splitting → SeenFragment → Bool
is_splitter words (one token) = splits words token
is_splitter words (group opener inner closer) = false

abbrev pub cut_if : Bool → Item → Pieces → Pieces → Pieces
cut_if true item behind_it with_it =
    record {
      first = [];
      others = record { separator = item.fragment; items = behind_it.first } ∷ behind_it.others;
    }
cut_if false item behind_it with_it =
    record { first = item ∷ with_it.first; others = with_it.others }

-- Items cut at each separator. What stands right behind a `let` is none, and the first item may
-- stand there.
abbrev pub cut : (SeenFragment → Bool) → Bool → List Item → Pieces
cut separates bound [] = record { first = []; others = [] }
cut separates bound (item ∷ rest) =
    cut_if (not bound && separates item.fragment) item (cut separates false rest)
    (cut separates (is_let item.fragment) rest)

abbrev pub with_others : {A : Type 0} → Option A → Option (List A) → Option (List A)
with_others None others = None
with_others (Some first) None = None
with_others (Some first) (Some others) = Some (first ∷ others)

abbrev pub each_other : {A : Type 0} → (List Item → Option A) → List Piece → Option (List A)
each_other read [] = Some []
each_other read (piece ∷ others) = with_others (read piece.items) (each_other read others)

-- what the pieces stand for, where each of them stands for something
abbrev pub each : {A : Type 0} → (List Item → Option A) → Pieces → Option (List A)
each read pieces = with_others (read pieces.first) (each_other read pieces.others)

-- without the last item
abbrev pub without_if : Bool → Item → List Item
without_if true last = []
without_if false last = last ∷ []

-- without a semicolon at the end
abbrev pub without_end : List Item → List Item
without_end [] = []
without_end (last ∷ []) = without_if (is_semicolon last.fragment) last
without_end (first ∷ second ∷ rest) = first ∷ without_end (second ∷ rest)

-- what stands on both sides of the first separator
pub record Sides : Type 0 where
  pub before : List Item
  pub after : List Item

abbrev pub with_before : Item → Sides → Sides
with_before item sides = record { before = item ∷ sides.before; after = sides.after }

abbrev pub sides_at : Bool → Item → List Item → Option Sides → Option Sides
sides_at true item rest found = Some (record { before = []; after = rest })
sides_at false item rest found = option_map (with_before item) found

abbrev pub first_cut : (SeenFragment → Bool) → List Item → Option Sides
first_cut separates [] = None
first_cut separates (item ∷ rest) =
    sides_at (separates item.fragment) item rest (first_cut separates rest)

-- the fragments of items
abbrev pub fragments_in : List Item → List SeenFragment
fragments_in [] = []
fragments_in (item ∷ rest) = item.fragment ∷ fragments_in rest

abbrev pub only_part : {A B : Type 0} → A → Ending A B
only_part part = record { parts = part ∷ []; last = None }

abbrev pub only_last : {A B : Type 0} → B → Ending A B
only_last last = record { parts = []; last = Some last }

abbrev pub with_part : {A B : Type 0} → Option A → Option (Ending A B) → Option (Ending A B)
with_part None others = None
with_part (Some part) None = None
with_part (Some part) (Some others) =
    Some (record { parts = part ∷ others.parts; last = others.last })

abbrev pub ending_at : {A B : Type 0} → Bool → Option A → Option B → Option (Ending A B)
ending_at true part last = option_map only_last last
ending_at false part last = option_map only_part part

-- Parts that the first test finds to be of the other sort stand at the end alone.
abbrev pub ending_from : {A B : Type 0} → (List Item → Bool) → (List Item → Option A)
    → (List Item → Option B) → List Item → List Piece → Option (Ending A B)
ending_from is_last read read_last first [] =
    ending_at (is_last first) (read first) (read_last first)
ending_from is_last read read_last first (piece ∷ others) =
    with_part (read first) (ending_from is_last read read_last piece.items others)

abbrev pub ending : {A B : Type 0} → (List Item → Bool) → (List Item → Option A)
    → (List Item → Option B) → Pieces → Option (Ending A B)
ending is_last read read_last pieces = ending_from is_last read read_last pieces.first pieces.others

-- the first item, and what stands behind it
pub record Front : Type 0 where
  pub first : Item
  pub rest : List Item

abbrev pub front_in : Bracket → Item → List Item → Option Front
front_in brackets.Round item rest = Some (record { first = item; rest = rest })
front_in _ item rest = None

abbrev pub front_at : SeenFragment → Item → List Item → Option Front
front_at (one token) item rest = None
front_at (group opener inner closer) item rest = front_in (bracket_of opener closer) item rest

-- round brackets, and what stands behind them
abbrev pub headed : List Item → Option Front
headed [] = None
headed (item ∷ rest) = front_at item.fragment item rest

-- the word that a piece stands behind
abbrev pub word_of : SeenFragment → Splitter
word_of (one token) = splitter_of token
word_of (group opener inner closer) = splitters.Absent
