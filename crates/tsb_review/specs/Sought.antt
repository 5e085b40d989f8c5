-- What phases are sought for, as data, so that one loop seeks them all. Each is a test of the advices.
use Rattle.std.specs.Prelude.{ℕ, Bool}
use Rattle.tsb_plan.specs.Plan.{Plan, is_concurrent}
use Rattle.tsb_review.specs.declared.sought.SoughtPhase.{SoughtPhase}
use Rattle.tsb_review.specs.declared.sought.SoughtPhase.TheVariants.{InConflict, Across, InRing, Rival, SplitFrom, Beside, Actuated, SoonReverting, ServedApart, Passed, LeftShort, EndingApart, Concurrent, DwellBeside, On, EnteringBeside, Partnered, Entering}
use Rattle.tsb_review.specs.Calls.{conflicts}
use Rattle.tsb_review.specs.Clearance.{is_across, reverts_soon}
use Rattle.tsb_review.specs.Coordination.{is_actuated, ends_apart_from}
use Rattle.tsb_rules.specs.PatternRules.{is_on}
use Rattle.tsb_review.specs.Entry.{enters, enters_beside, has_partners}
use Rattle.tsb_review.specs.Overlaps.{is_beside, is_split_from}
use Rattle.tsb_review.specs.Preempts.{dwells_beside}
use Rattle.tsb_review.specs.Service.{is_in_ring, is_rival, is_served_apart}
use Rattle.tsb_review.specs.Splits.{is_passed, is_left_short}

-- what a phase has to be
abbrev pub is_sought : SoughtPhase → Plan → ℕ → Bool
is_sought (InConflict p) plan = conflicts plan p
is_sought (Across p) plan = is_across plan p
is_sought (InRing r) plan = is_in_ring plan r
is_sought (Rival p) plan = is_rival plan p
is_sought (SplitFrom o p) plan = is_split_from plan o p
is_sought (Beside o p) plan = is_beside plan o p
is_sought (Actuated n) plan = is_actuated plan n
is_sought SoonReverting plan = reverts_soon plan
is_sought (ServedApart n p) plan = is_served_apart plan n p
is_sought (Passed n p late) plan = is_passed plan n p late
is_sought (LeftShort n p) plan = is_left_short plan n p
is_sought (EndingApart n p) plan = ends_apart_from plan n p
is_sought (Concurrent p) plan = is_concurrent plan p
is_sought (DwellBeside m p) plan = dwells_beside plan m p
is_sought (On r s) plan = is_on plan r s
is_sought (EnteringBeside r s) plan = enters_beside plan r s
is_sought Partnered plan = has_partners plan
is_sought Entering plan = enters plan
