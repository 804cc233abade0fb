-- How deep what comes next is nested.
use Rattle.std.proofs.Common.{◌≤◌, ℕ, arith}
use Rattle.dy_read_constants.specs.declared.list_next.ListNext.{ListNext}
use Rattle.dy_read_constants.specs.declared.list_next.ListNext.TheVariants as nexts
use Rattle.dy_read_constants.specs.ConstantLists.{IsNextWithin}

pub next_within_more : (m n : ℕ) (next : ListNext) → m ≤ n → IsNextWithin m next → IsNextWithin n next
next_within_more m n nexts.End le h = tt
next_within_more m n (nexts.Item fragments) le h = omega arith
next_within_more m n (nexts.Tail fragments) le h = omega arith
next_within_more m n nexts.Other le h = tt
