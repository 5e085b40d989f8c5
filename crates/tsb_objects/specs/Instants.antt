-- Force-off instants: when within the cycle of a pattern a phase is forced off, so that its split ends with its red
-- clearance (fixed force-off, no transition after a change of pattern); late force-off and the permissive time, after
-- the instant; and pedestrian recycle, before it; and the offset at which the local counter is 0. Cycle, splits, split modes, coordinated phases and sequences are the
-- objects of NTCIP 1202 of these names; that the local counter is 0 where the coordinated split of ring 1 ends, late
-- force-off, the permissive time and pedestrian recycle are the profile's own. Times are in ticks, which are tenths of
-- a second.
use Rattle.std.specs.Prelude.{◌≡◌, ℕ, ◌+◌, ◌-◌, ◌%◌, ◌==◌, nat_le, nat_lt, Bool, false, not, ◌&&◌, ◌||◌, if◌then◌else◌, Option, Some, None, min, max}
use Rattle.tsb_types.specs.Lists.{first, or_else}
use Rattle.tsb_plan.specs.Plan.{Plan, phases, is_enabled, ring_of, walk, pedestrian_clear, recycles_walk, yellow_change, red_clear}
use Rattle.tsb_plan.specs.Parts.{cycle, offset, offset_reference, permissive_time, split_of, split_time, forces_late}
use Rattle.tsb_plan.specs.declared.plan.patterns.OffsetReference.{OffsetReference}
use Rattle.tsb_plan.specs.declared.plan.patterns.OffsetReference.TheVariants.{SplitEnd, FirstGreen, LastGreen, FirstYellow, LastYellow, FirstRed}
use Rattle.tsb_plan.specs.Running.{sequence_in_effect, is_coordinated_now}
use Rattle.tsb_rules.specs.PatternRules.{split_end}
use Rattle.tsb_objects.specs.declared.offsets.SplitMoment.{SplitMoment}
use Rattle.tsb_objects.specs.declared.offsets.SplitMoment.TheVariants.{GreenBegin, YellowBegin, RedBegin}

-- the residue of a - b, never negative, also where b is greater than a, or than m
abbrev pub residue_of_difference : ℕ → ℕ → ℕ → ℕ
residue_of_difference m a b = (a + (m - b % m)) % m

-- when the split of p ends in pattern n, counted from the begin of side 1's first split. K17: a pattern that is used
-- has a split table and a sequence.
abbrev pub end_in : Plan → ℕ → Option ℕ → ℕ → ℕ
end_in plan n None p = 0
end_in plan n (Some table) p = split_end plan (sequence_in_effect plan (Some n)) table p

-- by the split table that the pattern names, in tenths of a second
abbrev pub end_of : Plan → ℕ → ℕ → ℕ
end_of plan n p = end_in plan n (split_of plan n) p

-- The force-off instant of p, on the local counter: its split's end less that of the coordinated phase c, and less its
-- yellow change and red clearance, within the cycle. Local 0 is thus the end of the split of c.
abbrev pub instant_from : Plan → ℕ → ℕ → ℕ → ℕ
instant_from plan n c p =
    residue_of_difference (cycle plan n) (end_of plan n p) (end_of plan n c + yellow_change plan p + red_clear plan p)

-- it is the same from each of two phases whose splits end at one time
pub is_same_from_both : (plan : Plan) (n c d p : ℕ) →
    end_of plan n c ≡ end_of plan n d → instant_from plan n c p ≡ instant_from plan n d p
is_same_from_both plan n c d p e = cc

-- p is a coordinated phase of pattern n, and of ring r
abbrev pub is_coordinated_in : Plan → ℕ → ℕ → ℕ → Bool
is_coordinated_in plan n r p = is_coordinated_now plan (Some n) p && ring_of plan p == r

-- the first coordinated phase of ring r in pattern n. K20: where the ring has phases on the side of the coordinated
-- phases it has one, and only one
abbrev pub coordinated_in_ring : Plan → ℕ → ℕ → Option ℕ
coordinated_in_ring plan n r = first (is_coordinated_in plan n r) (phases plan)

-- the first coordinated phase of pattern n, of whichever ring
abbrev pub first_coordinated : Plan → ℕ → Option ℕ
first_coordinated plan n = first (is_coordinated_now plan (Some n)) (phases plan)

-- The coordinated phase that instants are counted from is that of ring 1, or the first where ring 1 has none. By K20 a
-- pattern that is used has one at least. Where it does not lead and lag any other gives the same, as the splits of all
-- its coordinated phases end at one time.
abbrev pub reference : Plan → ℕ → Option ℕ
reference plan n = or_else (coordinated_in_ring plan n 1) (first_coordinated plan n)

-- when within the cycle of pattern n the split of a phase ends; none where there is no phase
abbrev pub end_within : Plan → ℕ → Option ℕ → Option ℕ
end_within plan n None = None
end_within plan n (Some c) = Some (end_of plan n c % cycle plan n)

-- counted from coordinated phase c, in tenths of a second; none where the pattern has no coordinated phase
abbrev pub instant_by : Plan → ℕ → Option ℕ → ℕ → Option ℕ
instant_by plan n None p = None
instant_by plan n (Some c) p = Some (instant_from plan n c p)

-- the force-off instant of an enabled phase in a pattern that runs; no other phase has one
unfoldable pub force_off : Plan → Option ℕ → ℕ → Option ℕ
force_off plan None p = None
force_off plan (Some n) p = if is_enabled plan p then instant_by plan n (reference plan n) p else None

-- both are numbers, and the same
abbrev pub agree : Option ℕ → Option ℕ → Bool
agree None instant = false
agree (Some m) None = false
agree (Some m) (Some n) = m == n

-- ## Late force-off

-- the coordinated phase up to whose instant p is forced off late: that of the ring of p, or else the one that instants
-- are counted from
abbrev pub yields_to : Plan → ℕ → ℕ → Option ℕ
yields_to plan n p = or_else (coordinated_in_ring plan n (ring_of plan p)) (reference plan n)

-- the force-off instant of a phase, if there is one
abbrev pub instant_of : Plan → ℕ → Option ℕ → Option ℕ
instant_of plan n None = None
instant_of plan n (Some c) = force_off plan (Some n) c

-- the instant at which late force-off of p ends; none with coordForceMode 0, for a coordinated phase, and in free
-- operation
abbrev pub late_end : Plan → Option ℕ → ℕ → Option ℕ
late_end plan None p = None
late_end plan (Some n) p =
    if forces_late plan && not (is_coordinated_now plan (Some n) p) then instant_of plan n (yields_to plan n p)
    else None

-- In a cycle of m ticks the local counter l is from i on and below u, which may be past the end of the cycle: in this
-- cycle, or in the part of the last one's that goes on in this one
abbrev pub is_from_to : ℕ → ℕ → ℕ → ℕ → Bool
is_from_to m l i u = (nat_le i l && nat_lt l u) || nat_lt (l + m) u

-- an instant e, counted on past the end of the cycle where it comes before i
abbrev pub counted_on : ℕ → ℕ → ℕ → ℕ
counted_on m i e = if nat_lt e i then e + m else e

-- all are numbers, and the local counter is from the first instant on and has not come to the second, be it in this
-- cycle or in the next. Where both are one, it never is
abbrev pub is_late : ℕ → Option ℕ → Option ℕ → Option ℕ → Bool
is_late m None from to = false
is_late m (Some l) None to = false
is_late m (Some l) (Some i) None = false
is_late m (Some l) (Some i) (Some e) = is_from_to m l i (counted_on m i e)

-- of p in the pattern that runs
abbrev pub is_forced_late : Plan → Option ℕ → Option ℕ → ℕ → Bool
is_forced_late plan None local p = false
is_forced_late plan (Some n) local p =
    is_late (cycle plan n) local (force_off plan (Some n) p) (late_end plan (Some n) p)

-- ## The permissive time

-- for how long behind its instant p is forced off in pattern n: the permissive time of a coordinated phase, and 0 of
-- any other
abbrev pub yields_for : Plan → ℕ → ℕ → ℕ
yields_for plan n p = if is_coordinated_now plan (Some n) p then permissive_time plan n else 0

-- both are numbers, and the first is at most so long behind the second, in this cycle or from the last one on
abbrev pub is_behind : ℕ → ℕ → Option ℕ → Option ℕ → Bool
is_behind m time None instant = false
is_behind m time (Some l) None = false
is_behind m time (Some l) (Some i) = is_from_to m l i (i + time + 1)

-- p is forced off where the local counter is this: in its permissive time, which has one; with 0 none is
abbrev pub is_permitted : Plan → Option ℕ → Option ℕ → ℕ → Bool
is_permitted plan None local p = false
is_permitted plan (Some n) local p =
    nat_lt 0 (yields_for plan n p) && is_behind (cycle plan n) (yields_for plan n p) local (force_off plan (Some n) p)

-- the tick of the local counter after the permissive time of p, if it has one
abbrev pub permissive_end_from : ℕ → ℕ → Option ℕ → Option ℕ
permissive_end_from m time None = None
permissive_end_from m time (Some i) = if nat_lt 0 time then Some ((i + time + 1) % m) else None

-- on the local counter of pattern n; none in free operation, and for all but coordinated phases
abbrev pub permissive_end : Plan → Option ℕ → ℕ → Option ℕ
permissive_end plan None p = None
permissive_end plan (Some n) p = permissive_end_from (cycle plan n) (yields_for plan n p) (force_off plan (Some n) p)

-- ## Together

-- p is forced off where the local counter is this: at its instant, late, or in its permissive time
abbrev pub forces_off : Plan → Option ℕ → Option ℕ → ℕ → Bool
forces_off plan runs local p =
    agree local (force_off plan runs p) || (is_forced_late plan runs local p || is_permitted plan runs local p)

-- ## Pedestrian recycle

-- how long a walk of p with its pedestrian clearance lasts, in tenths of a second
abbrev pub walk_and_clearance : Plan → ℕ → ℕ
walk_and_clearance plan p = walk plan p + pedestrian_clear plan p

-- p has pedestrian recycle, and is a coordinated phase of the pattern that runs
abbrev pub may_recycle : Plan → Option ℕ → ℕ → Bool
may_recycle plan runs p = recycles_walk plan p && is_coordinated_now plan runs p

-- in a cycle of m ticks, both are numbers, and from the local counter to the instant there is that time
abbrev pub is_left : ℕ → ℕ → Option ℕ → Option ℕ → Bool
is_left m time None instant = false
is_left m time (Some l) None = false
is_left m time (Some l) (Some i) = nat_le time (residue_of_difference m i l)

-- p may walk again within its green where the local counter is this: it is a coordinated phase with pedestrian recycle
-- that is not forced off there, and what is left to its instant holds its walk and pedestrian clearance
abbrev pub recycles : Plan → Option ℕ → Option ℕ → ℕ → Bool
recycles plan None local p = false
recycles plan (Some n) local p =
    may_recycle plan (Some n) p &&
    (not (forces_off plan (Some n) local p) &&
    is_left (cycle plan n) (walk_and_clearance plan p) local (force_off plan (Some n) p))

-- the first tick of the local counter, in a cycle of m, from which that time is no longer left to an instant
abbrev pub recycle_end_from : ℕ → ℕ → Option ℕ → Option ℕ
recycle_end_from m time None = None
recycle_end_from m time (Some i) = Some ((residue_of_difference m i time + 1) % m)

-- of p on the local counter of pattern n, where it is a coordinated phase with pedestrian recycle; no other has one
abbrev pub recycle_end : Plan → Option ℕ → ℕ → Option ℕ
recycle_end plan None p = None
recycle_end plan (Some n) p =
    if may_recycle plan (Some n) p
    then recycle_end_from (cycle plan n) (walk_and_clearance plan p) (force_off plan (Some n) p)
    else None

-- ## Dwell

-- a tick before an instant in a cycle of m; 0 where there is none
abbrev pub tick_before : ℕ → Option ℕ → ℕ
tick_before m None = 0
tick_before m (Some i) = residue_of_difference m i 1

-- where the local counter of pattern n waits while it comes into step by dwell: a tick before the instant of the
-- coordinated phase that instants are counted from
abbrev pub waiting_point : Plan → ℕ → ℕ
waiting_point plan n = tick_before (cycle plan n) (instant_of plan n (reference plan n))

-- ## The offset

-- the split of p by a split table, in tenths of a second; 0 without a table
abbrev pub split_in : Plan → Option ℕ → ℕ → ℕ
split_in plan None p = 0
split_in plan (Some table) p = split_time plan table p

-- how long before the end of its split p comes to a moment of it in pattern n: the split is its green, its yellow change
-- and its red clearance
abbrev pub time_from : SplitMoment → Plan → ℕ → ℕ → ℕ
time_from GreenBegin plan n p = split_in plan (split_of plan n) p
time_from YellowBegin plan n p = yellow_change plan p + red_clear plan p
time_from RedBegin plan n p = red_clear plan p

-- when it comes to it, counted from the begin of side 1's first split
abbrev pub moment_of : SplitMoment → Plan → ℕ → ℕ → ℕ
moment_of moment plan n p = end_of plan n p - time_from moment plan n p

-- when a phase comes to it, if there is one
abbrev pub moment_in : SplitMoment → Plan → ℕ → Option ℕ → Option ℕ
moment_in moment plan n None = None
moment_in moment plan n (Some c) = Some (moment_of moment plan n c)

-- the lesser of two numbers, where both are there
abbrev pub lesser : Option ℕ → Option ℕ → Option ℕ
lesser None y = y
lesser (Some x) None = Some x
lesser (Some x) (Some y) = Some (min x y)

-- the greater of them
abbrev pub greater : Option ℕ → Option ℕ → Option ℕ
greater None y = y
greater (Some x) None = Some x
greater (Some x) (Some y) = Some (max x y)

-- when the coordinated phase of ring r comes to it
abbrev pub moment_in_ring : SplitMoment → Plan → ℕ → ℕ → Option ℕ
moment_in_ring moment plan n r = moment_in moment plan n (coordinated_in_ring plan n r)

-- when the first coordinated phase comes to it. K20: all are on one side, and a ring has one at most
abbrev pub first_moment : SplitMoment → Plan → ℕ → Option ℕ
first_moment moment plan n = lesser (moment_in_ring moment plan n 1) (moment_in_ring moment plan n 2)

-- when the last one does
abbrev pub last_moment : SplitMoment → Plan → ℕ → Option ℕ
last_moment moment plan n = greater (moment_in_ring moment plan n 1) (moment_in_ring moment plan n 2)

-- what offsets are counted to in pattern n, from the begin of side 1's first split; none where it is local 0
abbrev pub counted_to : OffsetReference → Plan → ℕ → Option ℕ
counted_to SplitEnd plan n = None
counted_to FirstGreen plan n = first_moment GreenBegin plan n
counted_to LastGreen plan n = last_moment GreenBegin plan n
counted_to FirstYellow plan n = first_moment YellowBegin plan n
counted_to LastYellow plan n = last_moment YellowBegin plan n
counted_to FirstRed plan n = first_moment RedBegin plan n

-- The offset at which local 0 comes, where the moment comes at the offset of the plan: later by the time from the moment
-- to the end of the coordinated split, within the cycle. Without a moment it is the offset of the plan.
abbrev pub offset_from : Plan → ℕ → Option ℕ → Option ℕ → ℕ
offset_from plan n None end = offset plan n
offset_from plan n (Some moment) None = offset plan n
offset_from plan n (Some moment) (Some end) = residue_of_difference (cycle plan n) (offset plan n + end) moment

-- how long after tick 0 the local counter of pattern n is first 0: the offset of the plan, counted to what
-- coordReference says; with 0 it is the offset of the plan
abbrev pub offset_in_effect : Plan → ℕ → ℕ
offset_in_effect plan n = offset_from plan n (counted_to (offset_reference plan) plan n) (end_within plan n (reference plan n))
