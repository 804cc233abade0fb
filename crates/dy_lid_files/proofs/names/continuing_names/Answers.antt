use Rattle.std.proofs.Common.{ℕ, ◌+◌, List, refl, sym, ap, ◌∙◌, arith}
use Rattle.dy_lexer.specs.Headers.{Line}
use Rattle.dy_lid_files.specs.Names.{is_name, names_in, continuing}
use Rattle.dy_lid_files.proofs.Turns.{done}
use Rattle.dy_lid_files.proofs.Counting.{line_turn, line_stop, named, unnamed, not_continued}
use Rattle.dy_lid_files.proofs.names.continuing_names.Goals as goal
use Rattle.dy_lid_files.proofs.names.continuing_names.Goals.{then-is_name, else-is_name}

pub returns-then-is_empty_line-clause-names : goal.returns-then-is_empty_line-clause-names
returns-then-is_empty_line-clause-names c = λ at lines end body is.
    let (place, more, left, same) = c.loop-rest.invariant.left at lines end body is in
    let none = line_stop place c.loop-rest.rest.now c.line_of-line.result.now more end body c.line_of-line.ensures (sym c.is_empty_line.ensures ∙ c.if-is_empty_line.true) left in
    let no_more = ap (λ (ls : List Line). names_in (continuing ls)) none in
    omega arith

pub returns-then-not-is_continued-clause-names : goal.returns-then-not-is_continued-clause-names
returns-then-not-is_continued-clause-names c = λ at lines end body is.
    let (place, more, left, same) = c.loop-rest.invariant.left at lines end body is in
    let full = sym c.is_empty_line.ensures ∙ c.if-is_empty_line.false in
    let (behind, rest, parts) = line_turn place c.loop-rest.rest.now c.line_of-line.result.now _ _ more end body (omega arith) c.line_of-line.ensures refl refl full left in
    let last = not_continued (record { at = place; bytes = c.line_of-line.result.now }) behind (sym c.is_continued.ensures ∙ c.if-not-is_continued.true) in
    let no_more = ap (λ (ls : List Line). names_in (continuing ls)) parts in
    omega arith

pub loop-rest-preserved : goal.loop-rest-preserved
loop-rest-preserved c =
    let full = sym c.is_empty_line.ensures ∙ c.if-is_empty_line.false in
    let goes_on = sym c.is_continued.ensures ∙ c.if-not-is_continued.false in
    elim c.if-is_name.branch [
      | then-is_name w ↦ rw w.count-is (record {
        within = omega (arith, c.split_at.ensures.back_len, c.line_size.ensures.some);
        left = λ at lines end body is.
            let (place, more, left, same) = c.loop-rest.invariant.left at lines end body is in
            let (behind, rest, parts) = line_turn place c.loop-rest.rest.now c.line_of-line.result.now c.split_at.result.1.now c.line_size.result more end body (omega arith) c.line_of-line.ensures c.line_size.ensures.size c.split_at.ensures.back full left in
            let one = named (record { at = place; bytes = c.line_of-line.result.now }) behind goes_on (sym c.is_name.ensures ∙ w.if-is_name.true) in
            let all = ap (λ (ls : List Line). names_in (continuing ls)) parts in
            (place + c.line_size.result, behind, rest, omega arith);
      })
      | else-is_name w ↦ rw w.count-is (record {
        within = omega (arith, c.split_at.ensures.back_len);
        left = λ at lines end body is.
            let (place, more, left, same) = c.loop-rest.invariant.left at lines end body is in
            let (behind, rest, parts) = line_turn place c.loop-rest.rest.now c.line_of-line.result.now c.split_at.result.1.now c.line_size.result more end body (omega arith) c.line_of-line.ensures c.line_size.ensures.size c.split_at.ensures.back full left in
            let one = unnamed (record { at = place; bytes = c.line_of-line.result.now }) behind goes_on (sym c.is_name.ensures ∙ w.if-is_name.false) in
            let all = ap (λ (ls : List Line). names_in (continuing ls)) parts in
            (place + c.line_size.result, behind, rest, omega arith);
      })
    ]
