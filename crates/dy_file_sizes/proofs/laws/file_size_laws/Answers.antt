use Rattle.std.specs.Prelude.{[]}
use Rattle.dy_binding.specs.Reads.{none}
use Rattle.dy_file_sizes.proofs.Tokens.{tokens_few, groups_small}
use Rattle.dy_file_sizes.proofs.Forms.{drafts_small}
use Rattle.dy_file_sizes.proofs.Terms.{term_small}
use Rattle.dy_file_sizes.proofs.Rows.{draft_small}
use Rattle.dy_file_sizes.proofs.Libraries.{libraries_small, parts_small, files_small, largest_small}
use Rattle.dy_file_sizes.proofs.laws.file_size_laws.Goals as goal

pub returns : goal.returns
returns c = record {
  tokens = tokens_few;
  groups = groups_small;
  drafts = drafts_small;
  terms = term_small;
  rows = λ out draft. draft_small out draft [] none;
  libraries = libraries_small;
  parts = parts_small;
  files = files_small;
  largest = largest_small;
}
