use Rattle.dy_word_numbers.proofs.Forms.{drafts_wide}
use Rattle.dy_word_numbers.proofs.Plain.{words_plain}
use Rattle.dy_word_numbers.proofs.Tokens.{tokens_words, groups_wide}
use Rattle.dy_word_numbers.proofs.laws.word_laws.Goals as goal

pub returns : goal.returns
returns c = record {
  tokens = tokens_words;
  groups = groups_wide;
  drafts = drafts_wide;
  plain = words_plain;
}
