-- What is read of fragments is the expression that they stand for, and only that.
use Rattle.std.proofs.Common.{◌≡◌, true, List, Option, Some, option_and_then, sym, ap, subst, ◌∙◌}
use Rattle.dy_tree.specs.Fragments.{SeenFragment, SeenFragments, row}
use Rattle.dy_tree.specs.declared.splitters.Splitting.{Splitting}
use Rattle.dy_tree.specs.declared.splitters.Splitting.TheVariants as splittings
use Rattle.dy_rules.specs.Trees.{Tree, Argument, ItemTree, body_of}
use Rattle.dy_rules.specs.Productions.{expression, arguments, a_body, Derives}
use Rattle.dy_rules.specs.Reading.{whole, tree_of, arguments_at_end, State, Passing, expression_items}
use Rattle.dy_rules.specs.Fragments.{items_of, expression_of, passed_of, body_of_fragments}
use Rattle.dy_rules.specs.Arguments.{is_single}
use Rattle.dy_rules.specs.Writing.{written, written_body}
use Rattle.dy_rules.proofs.Singles.{single_read}
use Rattle.dy_rules.proofs.Written.{writes}
use Rattle.dy_rules.specs.Cutting.{fragments_in}
use Rattle.dy_rules.proofs.Lists.{items_row, fragments_back, some_one}
use Rattle.dy_rules.proofs.Complete.{complete}
use Rattle.dy_rules.proofs.Sound.{InnerArguments, expression_sound, passed_sound}
use Rattle.dy_rules.proofs.BodySound.{body_sound}
use Rattle.dy_rules.proofs.FragmentsSound.{items_sound}

pub reads : (words : Splitting) (fragments : List SeenFragment) (tree : Tree) → expression_of words fragments ≡ Some tree → Derives words (expression tree) fragments
reads words fragments tree e = subst (Derives words (expression tree)) (fragments_back fragments) (expression_sound words (items_of fragments) tree (items_sound fragments) e)

pub reads_all : (words : Splitting) (fragments : List SeenFragment) (tree : Tree) → Derives words (expression tree) fragments → expression_of words fragments ≡ Some tree
reads_all words fragments tree h = let r = complete words (expression tree) fragments h whole tt in ap (λ (state : Option State). option_and_then tree_of state) r.read ∙ r.after

pub one_tree : (words : Splitting) (fragments : List SeenFragment) (tree other : Tree) → Derives words (expression tree) fragments → Derives words (expression other) fragments → tree ≡ other
one_tree words fragments tree other h k = some_one tree other (sym (reads_all words fragments tree h) ∙ reads_all words fragments other k)

pub reads_arguments : (fragments : List SeenFragment) (passed : List Argument) → passed_of fragments ≡ Some passed → Derives splittings.Nothing (arguments passed) fragments
reads_arguments fragments passed e =
    subst (Derives splittings.Nothing (arguments passed)) (fragments_back fragments) (subst (λ (o : Option (List Argument)). InnerArguments o (fragments_in (items_of fragments))) e (passed_sound (items_of fragments) (items_sound fragments)))

pub reads_all_arguments : (fragments : List SeenFragment) (passed : List Argument) → Derives splittings.Nothing (arguments passed) fragments → passed_of fragments ≡ Some passed
reads_all_arguments fragments passed h = let r = complete splittings.Nothing (arguments passed) fragments h in ap (λ (reader : Option Passing). option_and_then arguments_at_end reader) r.read ∙ r.after

pub one_arguments : (fragments : List SeenFragment) (passed others : List Argument) → Derives splittings.Nothing (arguments passed) fragments → Derives splittings.Nothing (arguments others) fragments → passed ≡ others
one_arguments fragments passed others h k = some_one passed others (sym (reads_all_arguments fragments passed h) ∙ reads_all_arguments fragments others k)

pub all_written : (words others : Splitting) (fragments : List SeenFragment) (tree : Tree) → Derives words (expression tree) fragments → Derives others (expression tree) (written tree)
all_written words others fragments tree h = (writes words (expression tree) fragments h).whole_is others

pub read_again : (words others : Splitting) (fragments : List SeenFragment) (tree : Tree) → expression_of words fragments ≡ Some tree → expression_of others (written tree) ≡ Some tree
read_again words others fragments tree e = reads_all others (written tree) tree (all_written words others fragments tree (reads words fragments tree e))

pub single_arguments : (inner : SeenFragments) (tree : Tree) → Derives splittings.Nothing (expression tree) (row inner) → is_single (row inner) ≡ true
single_arguments inner tree h = single_read inner tree (ap (expression_items splittings.Nothing) (items_row inner) ∙ reads_all splittings.Nothing (row inner) tree h)

pub reads_body : (words : Splitting) (fragments : List SeenFragment) (trees : List ItemTree) → body_of_fragments words fragments ≡ Some trees → Derives words (a_body trees) fragments
reads_body words fragments trees e = subst (Derives words (a_body trees)) (fragments_back fragments) (body_sound words (items_of fragments) trees (items_sound fragments) e)

pub reads_all_bodies : (words : Splitting) (fragments : List SeenFragment) (trees : List ItemTree) → Derives words (a_body trees) fragments → body_of_fragments words fragments ≡ Some trees
reads_all_bodies words fragments trees h = (complete words (a_body trees) fragments h).read

pub one_body : (words : Splitting) (fragments : List SeenFragment) (trees others : List ItemTree) → Derives words (a_body trees) fragments → Derives words (a_body others) fragments → trees ≡ others
one_body words fragments trees others h k = some_one trees others (sym (reads_all_bodies words fragments trees h) ∙ reads_all_bodies words fragments others k)

pub body_written : (words : Splitting) (fragments : List SeenFragment) (trees : List ItemTree) → Derives words (a_body trees) fragments → Derives words (a_body trees) (written_body (body_of trees))
body_written words fragments trees h = writes words (a_body trees) fragments h
