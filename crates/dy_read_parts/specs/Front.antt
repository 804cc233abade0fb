-- Brackets in front, with what was read inside of them.
use Rattle.dy_tree.specs.Fragments.{group, pack, seen_fragments}
use Rattle.dy_rules.specs.Cutting.{Front}
use Rattle.dy_rules.specs.Fragments.{found_of, items_of}
use Rattle.dy_read_parts.specs.declared.front.Front.{Front as Found}

abbrev pub seen_front : Found → Front
seen_front front =
    let inner = seen_fragments front.inner.now in
    record {
      first = record {
        fragment = group front.opener.now (pack inner) front.closer.now;
        found = found_of front.opener.now (pack inner) front.closer.now (items_of inner);
      };
      rest = items_of (seen_fragments front.rest.now);
    }
