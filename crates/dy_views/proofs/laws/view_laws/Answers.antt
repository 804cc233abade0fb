use Rattle.dy_views.proofs.Naming.{used_are_once}
use Rattle.dy_views.proofs.Standing.{views_are_parts, places_are_kept, places_stay_apart, dylan_stays_first, exports_stay}
use Rattle.dy_views.proofs.laws.view_laws.Goals as goal

pub returns-clause-once : goal.returns-clause-once
returns-clause-once c = used_are_once

pub returns-clause-parts : goal.returns-clause-parts
returns-clause-parts c = views_are_parts

pub returns-clause-kept : goal.returns-clause-kept
returns-clause-kept c = places_are_kept

pub returns-clause-apart : goal.returns-clause-apart
returns-clause-apart c = places_stay_apart

pub returns-clause-dylan : goal.returns-clause-dylan
returns-clause-dylan c = dylan_stays_first

pub returns-clause-exports : goal.returns-clause-exports
returns-clause-exports c = exports_stay
