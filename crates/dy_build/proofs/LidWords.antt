-- Words that name files.
use Rattle.std.proofs.Common.{◌≡◌, ◌==◌, Bool, false, List, [], ◌∷◌, length, map, String, string_bytes, sym}
use Rattle.std.specs.List.{list_all}
use Rattle.std.proofs.lemmas.List.Folds.{list_all-map}
use Rattle.dy_build.specs.Words.{is_file_word, are_lids}

pub some_lids : {Z : Type 0} (words : List (String Z)) → (length words == 0) ≡ false → list_all (λ word. is_file_word (string_bytes word)) words ≡ are_lids (map string_bytes words)
some_lids [] e = absurd cc
some_lids (word ∷ words) e = sym (list_all-map is_file_word string_bytes (word ∷ words))
