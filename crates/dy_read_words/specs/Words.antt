-- Words of definitions, as the reader asks for them.
use Rattle.std.specs.Prelude.{Bool, false, ◌&&◌, List}
use Rattle.dy_tree.specs.declared.token.Token.{Token}
use Rattle.dy_tree.specs.declared.definition_words.DefineWord.{DefineWord}
use Rattle.dy_tree.specs.declared.definition_words.DefineWord.TheVariants as define_words
use Rattle.dy_rules.specs.Definitions.{is_open, is_sealed, is_abstract, is_concrete, is_primary}
use Rattle.dy_rules.specs.Definitions.{is_free, has}

-- whether a word is this adjective of a class
abbrev pub is_adjective : DefineWord → DefineWord → Bool
is_adjective define_words.Open word = is_open word
is_adjective define_words.Sealed word = is_sealed word
is_adjective define_words.Abstract word = is_abstract word
is_adjective define_words.Concrete word = is_concrete word
is_adjective define_words.Primary word = is_primary word
is_adjective define_words.Free word = is_free word
is_adjective _ word = false

abbrev pub has_both : DefineWord → DefineWord → List Token → Bool
has_both first second adjectives =
    has (is_adjective first) adjectives && has (is_adjective second) adjectives
