-- The built-in plan of two phases meets the rules.
use Rattle.std.proofs.Common.{◌≡◌, None, refl}
use Rattle.tsb_types.specs.Lists.{run_from}
use Rattle.tsb_plan.specs.Objects.{objects}
use Rattle.tsb_plan.specs.Two.{two}
use Rattle.tsb_rules.specs.Rules.{first_broken, broken_by_rings, broken_by_phases, broken_by_parts, broken_by_extensions, broken_by_schedule, broken_by_overlaps}

pub two-meets : first_broken two ≡ None
unfolding two run_from objects first_broken broken_by_rings broken_by_phases broken_by_parts broken_by_extensions broken_by_schedule broken_by_overlaps
two-meets = refl
