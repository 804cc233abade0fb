use Rattle.std.proofs.Common.{length, ap, arith}
use Rattle.dy_sources.proofs.Reading.{short_texts, few_texts}
use Rattle.dy_sources.proofs.source.found_library.Goals as goal

pub room_library-requires-clause-short : goal.room_library-requires-clause-short
room_library-requires-clause-short g c =
    rw c.as_slice.ensures (short_texts c.in_ok-texts.texts (length c.as_slice-names.result.now) c.in_ok-texts.ensures.within)

pub room_library-requires-clause-few : goal.room_library-requires-clause-few
room_library-requires-clause-few g c =
    rw c.as_slice.ensures (few_texts c.in_ok-texts.texts (length c.as_slice-names.result.now) c.in_ok-texts.ensures.within (omega (arith, ap length c.as_slice-names.ensures, c.requires.few)))
