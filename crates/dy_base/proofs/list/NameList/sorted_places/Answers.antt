use Rattle.std.proofs.Common.{◌≡◌, subst, rules, length}
use Rattle.std.specs.Ordering.{is_lt}
use Rattle.std.specs.List.{range_with_len}
use Rattle.std.specs.List.Sorted.{IsPermutation}
use Rattle.std.specs.Cmp.Lexicographic.{nat_list_cmp_total}
use Rattle.std.proofs.lemmas.Fn.{always_returns_same}
use Rattle.std.proofs.lemmas.List.Sorted.{ranks_by}
use Rattle.dy_base.specs.Tables.{by_bytes, name_at}
use Rattle.dy_base.proofs.Places.{places_in_order}
use Rattle.dy_base.proofs.list.NameList.sorted_places.Goals as goal

-- the places stay those of the list, and their names do not fall
pub returns : goal.returns
returns g c =
    let list = c.args.self.now in
    let from : c.in_ok-places.places.items ≡ range_with_len 0 (length list) = search rules in
    let sorted = c.in_ok-sort_by.ensures.sorted (λ a b. is_lt (by_bytes (name_at list a) (name_at list b))) (ranks_by nat_list_cmp_total (name_at list))
    (always_returns_same _ _ _ (λ a r f k. search rules)) in
    places_in_order list c.sort_by.new.self.items c.len.ensures.distinct (subst (λ l. IsPermutation l c.sort_by.new.self.items) from c.sort_by.ensures.permutation) sorted
