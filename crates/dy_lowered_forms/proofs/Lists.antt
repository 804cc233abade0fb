-- Lists of constructs that all run.
use Rattle.std.proofs.Common.{◌≡◌, Bool, true, false, ◌&&◌, List, [], ◌∷◌, ◌++◌, refl, sym, ap, ◌∙◌}
use Rattle.std.specs.List.{list_all}
use Rattle.std.specs.Prelude.{if◌then◌else◌}
use Rattle.dy_construct_parts.specs.declared.construct.Construct.{Construct}
use Rattle.dy_scoped_rows.proofs.terms.Facts.{untrue, both_true, and_true}
use Rattle.dy_lowered_forms.specs.Table.{runs}

abbrev pub Run : List Construct → Type 0
Run constructs = list_all runs constructs ≡ true

pub first_runs : (construct : Construct) (others : List Construct) → Run (construct ∷ others) → runs construct ≡ true
first_runs construct others run = (both_true (runs construct) (list_all runs others) run).0

pub others_run : (construct : Construct) (others : List Construct) → Run (construct ∷ others) → Run others
others_run construct others run = (both_true (runs construct) (list_all runs others) run).1

pub apart : (some more : List Construct) → Run (some ++ more) → Run some × Run more
apart [] more run = (refl, run)
apart (construct ∷ some) more run =
    let h = both_true (runs construct) (list_all runs (some ++ more)) run in
    let rest = apart some more h.1 in
    (and_true (runs construct) (list_all runs some) h.0 rest.0, rest.1)

pub left : (some more : List Construct) → Run (some ++ more) → Run some
left some more run = (apart some more run).0

pub right : (some more : List Construct) → Run (some ++ more) → Run more
right some more run = (apart some more run).1

pub together : (some more : List Construct) → Run some → Run more → Run (some ++ more)
together [] more run rest = rest
together (construct ∷ some) more run rest =
    let h = both_true (runs construct) (list_all runs some) run in
    and_true (runs construct) (list_all runs (some ++ more)) h.0 (together some more h.1 rest)

-- of several lists, one behind the other
pub of_three : (a b c : List Construct) → Run (a ++ b ++ c) → Run a × Run b × Run c
of_three a b c run =
    let p = apart (a ++ b) c run in
    let q = apart a b p.0 in
    (q.0, q.1, p.1)

pub of_four : (a b c d : List Construct) → Run (a ++ b ++ c ++ d) → Run a × Run b × Run c × Run d
of_four a b c d run =
    let p = apart (a ++ b ++ c) d run in
    let q = of_three a b c p.0 in
    (q.0, q.1, q.2, p.1)

pub of_five : (a b c d e : List Construct) → Run (a ++ b ++ c ++ d ++ e) → Run a × Run b × Run c × Run d × Run e
of_five a b c d e run =
    let p = apart (a ++ b ++ c ++ d) e run in
    let q = of_four a b c d p.0 in
    (q.0, q.1, q.2, q.3, p.1)
