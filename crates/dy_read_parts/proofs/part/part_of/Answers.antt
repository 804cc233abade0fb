use Rattle.std.proofs.Common.{rules, ◌≡◌, ◌<◌, refl, ap, sym, arith}
use Rattle.dy_tree.specs.declared.fragment.Fragment.TheViews.{the_lemmas}
use Rattle.dy_tree.specs.Fragments.{group, pack, row, seen_fragment, seen_fragments}
use Rattle.dy_tree.proofs.Rows.{inner_packs}
use Rattle.dy_rules.specs.Roles.{bracket_of}
use Rattle.dy_rules.proofs.Lists.{row_pack}
use Rattle.dy_read_parts.specs.Nesting.{group_nesting, inner_nesting, nesting}
use Rattle.dy_read_parts.specs.FragmentParts as spec
use Rattle.dy_read_parts.proofs.Nesting.{pack_nesting}
use Rattle.dy_read_parts.proofs.part.part_of.Goals as goal

pub returns-in-Group-clause-part : goal.returns-in-Group-clause-part
returns-in-Group-clause-part c =
    let from : seen_fragment c.args.fragment.now ≡ group c.in-Group.opener (pack (seen_fragments c.in-Group.inner.items)) c.in-Group.closer = rw c.in-Group.is (search (rules, the_lemmas, inner_packs)) in
    rw (from, row_pack (seen_fragments c.in-Group.inner.items), c.bracket_of.ensures, c.as_slice.ensures.value) refl

pub returns-in-Group-clause-shallower : goal.returns-in-Group-clause-shallower
returns-in-Group-clause-shallower c =
    let from : seen_fragment c.args.fragment.now ≡ group c.in-Group.opener (pack (seen_fragments c.in-Group.inner.items)) c.in-Group.closer = rw c.in-Group.is (search (rules, the_lemmas, inner_packs)) in
    let same = pack_nesting (seen_fragments c.in-Group.inner.items) in
    rw (from, c.as_slice.ensures.value) (omega arith)
