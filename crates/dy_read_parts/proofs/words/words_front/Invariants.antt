use Rattle.std.proofs.Common.{◌≡◌, length, option_map}
use Rattle.dy_tree.specs.Fragments.{seen_fragments}
use Rattle.dy_rules.specs.Fragments.{items_of}
use Rattle.dy_rules.specs.FormReading.{words_front}
use Rattle.dy_read_parts.specs.WordsFront.{is_wanted, with_words}
use Rattle.dy_read_parts.proofs.words.words_front.Given as goal

abbrev pub invariant-loop-first : goal.invariant-loop-first
invariant-loop-first l = words_front (is_wanted l.wanted) (items_of (seen_fragments l.fragments)) ≡ option_map (with_words l.adjectives.items) (words_front (is_wanted l.wanted) (items_of (seen_fragments l.rest)))

abbrev pub decreases-loop-first : goal.decreases-loop-first
decreases-loop-first l = length l.rest
