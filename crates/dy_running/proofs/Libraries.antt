-- Libraries one after the other, of which every part is lowered yet.
use Rattle.std.proofs.Common.{◌≡◌, Bool, true, ◌&&◌, List, [], ◌∷◌, ◌++◌, map, Some, refl, sym, ap, ◌∙◌}
use Rattle.std.specs.List.{list_all}
use Rattle.std.specs.Iterator.{Yields}
use Rattle.std.specs.Vec.Iter.{into_iter_items, into_iter_steps}
use Rattle.std.specs.declared.vec.IntoIter.{IntoIter}
use Rattle.std.proofs.lemmas.Bool.{and_parts}
use Rattle.dy_code.specs.declared.unit.Library.{Library}
use Rattle.dy_lowering_whole.specs.Lowered.{is_library_lowered, IsLowered}
use Rattle.dy_linked_rows.specs.Programs.{Viewed, places_of, row_in_program}
use Rattle.dy_linked_rows.proofs.Kept.{kinds_stay}
use Rattle.dy_running.specs.Runs.{viewed, program_of}

-- what the iterator of a vector has given is a front of its items
taken_front : {X A : Type 0} (s : IntoIter X A) (xs : List X) (t : IntoIter X A) → Yields into_iter_steps s xs t → into_iter_items s ≡ xs ++ into_iter_items t
taken_front s [] t y = ap into_iter_items y
taken_front s (x ∷ xs) t y = y.1.0 ∙ ap (λ ys. x ∷ ys) (taken_front y.0 xs t y.2)

-- where the next item stands among all
pub item_reached : {X A : Type 0} (all : List X) (s : IntoIter X A) (xs : List X) (t u : IntoIter X A) (item : X) → into_iter_items s ≡ all → Yields into_iter_steps s xs t → into_iter_steps t (Some item) u
    → all ≡ xs ++ item ∷ into_iter_items u
item_reached all s xs t u item began given step = sym began ∙ taken_front s xs t given ∙ ap (λ ys. xs ++ ys) step.0

-- what all of a list pass each passes
pub each_passes : {A : Type 0} (test : A → Bool) (xs : List A) (x : A) (ys : List A) → list_all test (xs ++ x ∷ ys) ≡ true → test x ≡ true
each_passes test [] x ys all = (and_parts (test x) (list_all test ys) all).0
each_passes test (y ∷ xs) x ys all = each_passes test xs x ys (and_parts (test y) (list_all test (xs ++ x ∷ ys)) all).1

abbrev pub is_lowered : Library → Bool
is_lowered library = is_library_lowered library.row

-- libraries are lowered in their views as they are in the program
module _ (all : List Viewed) where
  some_lowered : (some : List Library) → list_all is_library_lowered (map (row_in_program all) (map viewed some)) ≡ list_all is_lowered some
  some_lowered [] = refl
  some_lowered (library ∷ some) = λ j. kinds_stay (places_of all (viewed library)) library.row j && some_lowered some j

pub all_lowered : (libraries : List Library) → IsLowered (program_of libraries) → list_all is_lowered libraries ≡ true
all_lowered libraries lowered = sym (some_lowered (map viewed libraries) libraries) ∙ lowered
