use Rattle.std.proofs.Common.{ap, ◌∙◌}
use Rattle.dy_base.specs.Folding.{folded}
use Rattle.dy_lower.proofs.unit.unit_of.Goals as goal

pub returns : goal.returns
returns c = λ view code.
    let name = c.in_ok-name.ensures.folded ∙ ap folded c.bytes.ensures.bytes ∙ c.bytes.ensures.folded in
    let library = c.args.library in
    λ i. record {
      name = name i;
      uses = library.uses;
      row = c.in_ok-bare_row.ensures i;
      exports = library.exports;
      macros = library.macros;
      code = code i;
    }
