-- The words that the library `dylan` knows (DRM 4 and 9; DRM, appendix A).
use Rattle.std.specs.Prelude.{ℕ, List, [], ◌∷◌, ◌++◌, map, codes, None}
use Rattle.dy_tree.specs.declared.macros.MacroKind.{MacroKind}
use Rattle.dy_tree.specs.declared.macros.MacroKind.TheVariants.{Statement, Definition}
use Rattle.dy_tree.specs.declared.words.Word.{Word}
use Rattle.dy_tree.specs.declared.words.Words.{Words}

-- a built-in word
abbrev pub word : MacroKind → List ℕ → Word
word kind name = record { «module» = 0; name = name; kind = kind; at = None }

-- the words that begin statements
abbrev pub statements : List Word
statements =
    map (word Statement)
    (codes "begin" ∷ codes "block" ∷ codes "case" ∷ codes "for" ∷ codes "if" ∷ codes "method"
    ∷ codes "select" ∷ codes "unless" ∷ codes "until" ∷ codes "while" ∷ [])

-- the words that say what is defined
abbrev pub definitions : List Word
definitions =
    map (word Definition)
    (codes "class" ∷ codes "constant" ∷ codes "domain" ∷ codes "function" ∷ codes "generic"
    ∷ codes "library" ∷ codes "macro" ∷ codes "method" ∷ codes "module" ∷ codes "variable" ∷ [])

abbrev pub words : Words
words = record { items = statements ++ definitions }
