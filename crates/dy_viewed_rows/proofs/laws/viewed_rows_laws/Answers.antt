use Rattle.dy_viewed_rows.proofs.Used.{own_is_last, used_are_within, next_mentions_are_in_view}
use Rattle.dy_viewed_rows.proofs.Read.{mentions_are_in_view, built_in_mention_none}
use Rattle.dy_viewed_rows.proofs.laws.viewed_rows_laws.Goals as goal

pub returns : goal.returns
returns c = record {
  mentions = mentions_are_in_view;
  last = own_is_last;
  used = used_are_within;
  next = next_mentions_are_in_view;
  built_in = built_in_mention_none;
}
