-- Rows that own their names, one after the other.
use Rattle.std.proofs.Common.{◌≡◌, ℕ, ◌+◌, ◌<◌, cond, ◌&&◌, List, ◌∷◌, length, map, drop, get_or}
use Rattle.std.proofs.Common.{sym, ap, ◌∙◌}
use Rattle.std.specs.Prelude.{Some, nat_eq}
use Rattle.std.specs.Str.{bytes_eq}
use Rattle.std.proofs.lemmas.List.{drop_more}
use Rattle.dy_base.specs.declared.ids.What.{What}
use Rattle.dy_tree.specs.declared.token.Token.{Token}
use Rattle.dy_names.specs.Naming.{Table}
use Rattle.dy_library_rows.specs.Names.{owning}

pub owns_next : {A : Type 0} (name : A → List ℕ) (library : ℕ) (what : What) (row next at : ℕ)
    (rows : List A) (i : ℕ) (x : A) (text : List ℕ) → i < length rows → x ≡ get_or rows i x
    → text ≡ name x → at ≡ row → next ≡ row + 1 → (old new : Table)
    → ((n : Token) → new n ≡ cond (nat_eq 0 n.module && bytes_eq text n.text)
    (Some (record { what = what; at = record { library = library; row = at } })) (old n))
    → owning library what row (map name (drop i rows)) old
    ≡ owning library what next (map name (drop (i + 1) rows)) new
owns_next name library what row next at rows i x text l e te ae ne old new se =
    let one = λ (n : Token). se n ∙ (λ j. cond (nat_eq 0 n.module && bytes_eq (te j) n.text)
    (Some (record { what = what; at = record { library = library; row = ae j } })) (old n)) in
    ap (λ ys. owning library what row (map name ys) old)
    (drop_more rows i x l ∙ ap (λ y. y ∷ drop (i + 1) rows) (sym e))
    ∙ (λ j. owning library what (sym ne j) (map name (drop (i + 1) rows)) (λ n. sym (one n) j))
