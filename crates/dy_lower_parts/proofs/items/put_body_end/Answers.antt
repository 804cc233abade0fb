use Rattle.std.proofs.Common.{ℕ, false, ◌++◌, append_assoc, sym, ap, ◌∙◌}
use Rattle.dy_lowered.specs.Parts.{without_handlers}
use Rattle.dy_lower_parts.specs.Seen.{seen_code, ends_in_term, values_of_last, handlers_behind}
use Rattle.dy_lower_parts.proofs.items.put_body_end.Goals as goal

pub returns : goal.returns
returns c =
    let items = c.args.items.now in
    let old = seen_code c.args.code.now in
    c.in_ok-put_values.ensures ∙ (λ i. values_of_last (c.ends_in_term-ends.ensures i) ++ c.in_ok-put_unhandled.ensures i)
    ∙ ap (λ (n : ℕ). values_of_last (ends_in_term false items) ++ (without_handlers n ++ old)) c.in_ok-count.ensures
    ∙ sym (append_assoc (values_of_last (ends_in_term false items)) (without_handlers (handlers_behind 0 items)) old)
