-- Rows that get their names, one after the other.
use Rattle.std.proofs.Common.{◌≡◌, ℕ, ◌+◌, ◌<◌, List, ◌∷◌, length, map, drop, get_or}
use Rattle.std.proofs.Common.{sym, ap, ◌∙◌}
use Rattle.std.specs.Str.{bytes_eq}
use Rattle.std.proofs.lemmas.List.{drop_more}
use Rattle.indexmap.specs.IndexMap.{insert_entry}
use Rattle.dy_base.specs.Tables.{NamedList}
use Rattle.dy_base.specs.declared.ids.BindingId.{BindingId}
use Rattle.dy_base.specs.declared.ids.What.{What}
use Rattle.dy_built_in_exports.specs.Names.{row_id, with_rows}

pub lists_next : {A : Type 0} (name : A → List ℕ) (library : ℕ) (what : What) (row next : ℕ)
    (rows : List A) (i : ℕ) (x : A) (text : List ℕ) → i < length rows → x ≡ get_or rows i x
    → text ≡ name x → next ≡ row + 1 → (old new : NamedList BindingId)
    → new ≡ insert_entry bytes_eq old text (row_id library what row)
    → with_rows library what row (map name (drop i rows)) old
    ≡ with_rows library what next (map name (drop (i + 1) rows)) new
lists_next name library what row next rows i x text l e te ne old new se =
    ap (λ ys. with_rows library what row (map name ys) old)
    (drop_more rows i x l ∙ ap (λ y. y ∷ drop (i + 1) rows) (sym e))
    ∙ (λ j. with_rows library what (sym ne j) (map name (drop (i + 1) rows))
    (insert_entry bytes_eq old (sym te j) (row_id library what row)))
    ∙ ap (λ l. with_rows library what next (map name (drop (i + 1) rows)) l) (sym se)
