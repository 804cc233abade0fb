use Rattle.std.proofs.Common.{sym, ap, ◌∙◌}
use Rattle.dy_build.specs.Words.{is_fuel_word}
use Rattle.dy_build.proofs.FuelWords.{unread}
use Rattle.dy_build.proofs.words.fuel_of.Goals as goal

pub returns-in_default : goal.returns-in_default
returns-in_default c =
    unread c.args.word.now (sym (c.if-not-is_fuel_word.ensures ∙ ap is_fuel_word c.as_bytes.ensures.value)) c.in_default.ensures.value.0
