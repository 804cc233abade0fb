-- The words in front of a definition or a slot.
use Rattle.std.specs.Prelude.{Bool, List, ◌++◌}
use Rattle.dy_tree.specs.declared.token.Token.{Token}
use Rattle.dy_tree.specs.Fragments.{seen_fragments}
use Rattle.dy_rules.specs.Definitions.{is_definition_word, is_slot_word}
use Rattle.dy_rules.specs.Fragments.{items_of}
use Rattle.dy_rules.specs.FormReading.{WordsFront}
use Rattle.dy_read_parts.specs.declared.words.Wanted.{Wanted}
use Rattle.dy_read_parts.specs.declared.words.Wanted.TheVariants as wanted
use Rattle.dy_read_parts.specs.declared.words.WordsFront.{WordsFront as Found}

abbrev pub is_wanted : Wanted → Token → Bool
is_wanted wanted.Definition = is_definition_word
is_wanted wanted.Slot = is_slot_word

abbrev pub seen_words : Found → WordsFront
seen_words found = record {
  adjectives = found.adjectives.items;
  token = found.token.now;
  rest = items_of (seen_fragments found.rest.now);
}

-- with these adjectives before the others
abbrev pub with_words : List Token → WordsFront → WordsFront
with_words before front =
    record { adjectives = before ++ front.adjectives; token = front.token; rest = front.rest }
