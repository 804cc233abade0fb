use Rattle.std.proofs.Common.{ℕ, ◌+◌, List, length, refl, sym, ap, ◌∙◌, arith}
use Rattle.dy_lexer.specs.Headers.{Line}
use Rattle.dy_lexer.proofs.HeaderLines.{some_lines}
use Rattle.dy_lid_files.specs.Names.{is_name, names_in, continuing, files_value}
use Rattle.dy_lid_files.proofs.Turns.{done}
use Rattle.dy_lid_files.proofs.Counting.{line_turn, line_stop, not_begun, begun_named, begun_unnamed}
use Rattle.dy_lid_files.proofs.names.named_files.Goals as goal

pub returns-then-is_empty_line : goal.returns-then-is_empty_line
returns-then-is_empty_line c =
    let (lines, end, body, is) = some_lines (length c.args.text.now) 0 c.args.text.now (omega arith) in
    let (place, more, left, same) = c.loop-rest.invariant 0 lines end body is in
    let none = line_stop place c.loop-rest.rest.now c.line_of-line.result.now more end body c.line_of-line.ensures (sym c.is_empty_line.ensures ∙ c.if-is_empty_line.true) left in
    (lines, end, body, is, sym (ap names_in same ∙ ap (λ (ls : List Line). names_in (files_value ls)) none))

pub returns-then-is_name : goal.returns-then-is_name
returns-then-is_name c =
    let (lines, end, body, is) = some_lines (length c.args.text.now) 0 c.args.text.now (omega arith) in
    let (place, more, left, same) = c.loop-rest.invariant 0 lines end body is in
    let full = sym c.is_empty_line.ensures ∙ c.if-is_empty_line.false in
    let (behind, rest, parts) = line_turn place c.loop-rest.rest.now c.line_of-line.result.now c.split_at.result.1.now c.line_size.result more end body (omega arith) c.line_of-line.ensures c.line_size.ensures.size c.split_at.ensures.back full left in
    let begins = sym c.begins_files.ensures.value ∙ c.if-begins_files.true in
    let named = sym (ap is_name c.split_at-then-begins_files.ensures.back) ∙ (sym c.is_name.ensures ∙ c.if-is_name.true) in
    let one = begun_named (record { at = place; bytes = c.line_of-line.result.now }) behind begins named in
    let all = ap (λ (ls : List Line). names_in (files_value ls)) parts in
    let more = c.continuing_names-more.ensures.names (place + c.line_size.result) behind end body rest in
    let whole = ap names_in same in
    (lines, end, body, is, omega arith)

pub returns-else-is_name : goal.returns-else-is_name
returns-else-is_name c =
    let (lines, end, body, is) = some_lines (length c.args.text.now) 0 c.args.text.now (omega arith) in
    let (place, more, left, same) = c.loop-rest.invariant 0 lines end body is in
    let full = sym c.is_empty_line.ensures ∙ c.if-is_empty_line.false in
    let (behind, rest, parts) = line_turn place c.loop-rest.rest.now c.line_of-line.result.now c.split_at.result.1.now c.line_size.result more end body (omega arith) c.line_of-line.ensures c.line_size.ensures.size c.split_at.ensures.back full left in
    let begins = sym c.begins_files.ensures.value ∙ c.if-begins_files.true in
    let unnamed = sym (ap is_name c.split_at-then-begins_files.ensures.back) ∙ (sym c.is_name.ensures ∙ c.if-is_name.false) in
    let one = begun_unnamed (record { at = place; bytes = c.line_of-line.result.now }) behind begins unnamed in
    let all = ap (λ (ls : List Line). names_in (files_value ls)) parts in
    let more = c.continuing_names-more.ensures.names (place + c.line_size.result) behind end body rest in
    let whole = ap names_in same in
    (lines, end, body, is, omega arith)

pub loop-rest-preserved : goal.loop-rest-preserved
loop-rest-preserved c = λ at lines end body is.
    let (place, more, left, same) = c.loop-rest.invariant at lines end body is in
    let full = sym c.is_empty_line.ensures ∙ c.if-is_empty_line.false in
    let (behind, rest, parts) = line_turn place c.loop-rest.rest.now c.line_of-line.result.now c.split_at.result.1.now c.line_size.result more end body (omega arith) c.line_of-line.ensures c.line_size.ensures.size c.split_at.ensures.back full left in
    let other = not_begun (record { at = place; bytes = c.line_of-line.result.now }) behind (sym c.begins_files.ensures.value ∙ c.if-begins_files.false) in
    (place + c.line_size.result, behind, rest, same ∙ ap files_value parts ∙ other)

pub returns : goal.returns
returns c =
    let (lines, end, body, is) = some_lines (length c.args.text.now) 0 c.args.text.now (omega arith) in
    let (place, more, left, same) = c.loop-rest.invariant 0 lines end body is in
    let none = done place c.loop-rest.rest.now more end body (omega arith) left in
    (lines, end, body, is, sym (ap names_in same ∙ ap (λ (ls : List Line). names_in (files_value ls)) none))
