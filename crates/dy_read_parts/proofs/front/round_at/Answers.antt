use Rattle.std.proofs.Common.{◌≡◌, rules}
use Rattle.dy_tree.specs.Fragments.{seen_fragment, seen_fragments}
use Rattle.dy_tree.specs.declared.brackets.Bracket.TheVariants as brackets
use Rattle.dy_rules.specs.Roles.{bracket_of}
use Rattle.dy_read_parts.proofs.Fronts.{front_round, inside_shallower}
use Rattle.dy_read_parts.proofs.Groups.{seen_group}
use Rattle.dy_read_parts.proofs.front.round_at.Goals as goal

pub returns-in-Group-clause-front : goal.returns-in-Group-clause-front
returns-in-Group-clause-front c =
    let inner = c.as_slice.result.now in
    let is : bracket_of c.in-Group.opener c.in-Group.closer ≡ brackets.Round = search rules in
    let from = seen_group c.args.first.now c.in-Group.opener c.in-Group.inner c.in-Group.closer inner c.in-Group.is c.as_slice.ensures.value in
    front_round (seen_fragment c.args.first.now) c.in-Group.opener (seen_fragments inner) c.in-Group.closer (seen_fragments c.args.rest.now) from is

pub returns-in-Group-clause-nested : goal.returns-in-Group-clause-nested
returns-in-Group-clause-nested c =
    let inner = c.as_slice.result.now in
    let from = seen_group c.args.first.now c.in-Group.opener c.in-Group.inner c.in-Group.closer inner c.in-Group.is c.as_slice.ensures.value in
    inside_shallower (seen_fragment c.args.first.now) c.in-Group.opener (seen_fragments inner) c.in-Group.closer from
