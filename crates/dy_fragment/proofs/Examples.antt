-- The definitions at examples, which they compute.
use Rattle.std.proofs.Common.{◌≡◌, List, [], ◌∷◌, Option, None, refl}
use Rattle.std.specs.Prelude.{ℕ, ℤ, pos, codes}
use Rattle.dy_tree.specs.declared.token.TokenKind.{TokenKind}
use Rattle.dy_tree.specs.declared.token.TokenKind.TheVariants.{Name, Punctuation}
use Rattle.dy_tree.specs.declared.token.Token.{Token}
use Rattle.dy_tree.specs.declared.macros.MacroKind.TheVariants.{Statement, Definition}
use Rattle.dy_tree.specs.declared.words.Words.{Words}
use Rattle.dy_tree.specs.Fragments.{one, group, pack}
use Rattle.dy_fragment.specs.Leaves.{StandFor, no_tree, token_then, group_then, no_token, statement, definition}

abbrev token : TokenKind → List ℕ → Token
token kind text = record { kind = kind; text = text; number = pos 0; place = record { file = 0; offset = 0 }; origin = 0; «module» = 0 }

abbrev name : List ℕ → Token
name text = token Name text

abbrev mark : List ℕ → Token
mark text = token Punctuation text

-- the words of these examples
abbrev words : Words
words = record {
  items = record { «module» = 0; name = codes "begin"; kind = Statement; at = None } ∷ record { «module» = 0; name = codes "method"; kind = Definition; at = None } ∷ [];
}

-- `begin x end begin`
statement_again : StandFor words
    (group (name (codes "begin")) (pack (one (name (codes "x")) ∷ [])) (name (codes "end")) ∷ [])
    (name (codes "begin") ∷ name (codes "x") ∷ name (codes "end") ∷ name (codes "begin") ∷ [])
statement_again =
    group_then (name (codes "begin")) (name (codes "end")) (one (name (codes "x")) ∷ []) [] (name (codes "x") ∷ []) (name (codes "begin") ∷ []) []
    (token_then (name (codes "x")) [] [] no_tree)
    (statement (name (codes "begin")) refl refl)
    no_tree

-- `define method f () end method f;`
definition_again : StandFor words
    (group (name (codes "define"))
    (pack (one (name (codes "method")) ∷ one (name (codes "f")) ∷ group (mark (codes "(")) (pack []) (mark (codes ")")) ∷ []))
    (name (codes "end"))
    ∷ one (mark (codes ";")) ∷ [])
    (name (codes "define") ∷ name (codes "method") ∷ name (codes "f") ∷ mark (codes "(") ∷ mark (codes ")") ∷ name (codes "end")
    ∷ name (codes "method") ∷ name (codes "f") ∷ mark (codes ";") ∷ [])
definition_again =
    group_then (name (codes "define")) (name (codes "end"))
    (one (name (codes "method")) ∷ one (name (codes "f")) ∷ group (mark (codes "(")) (pack []) (mark (codes ")")) ∷ [])
    (one (mark (codes ";")) ∷ []) (name (codes "method") ∷ name (codes "f") ∷ mark (codes "(") ∷ mark (codes ")") ∷ [])
    (name (codes "method") ∷ name (codes "f") ∷ []) (mark (codes ";") ∷ [])
    (token_then (name (codes "method")) _ _ (token_then (name (codes "f")) _ _ (group_then (mark (codes "(")) (mark (codes ")")) [] [] [] [] [] no_tree no_token no_tree)))
    (definition [] (name (codes "f") ∷ mark (codes "(") ∷ mark (codes ")") ∷ []) (name (codes "method")) (name (codes "method") ∷ []) (name (codes "f") ∷ []) refl refl refl refl refl refl)
    (token_then (mark (codes ";")) [] [] no_tree)
