-- What coordination asks of the rings in a tick: the pattern that runs, its local counter in step, and by it hold,
-- force-off, pedestrian recycle and omit. Cycle, offset, splits, split modes, coordinated phases and sequences are the
-- objects of NTCIP 1202 of these names. That the local counter is 0 where the coordinated split of ring 1 ends, that a
-- phase is forced off in time for its split to end with its red clearance (fixed force-off), late force-off, the
-- permissive time, pedestrian recycle, and the orders, are the profile's own. How the counter comes into step is in
-- Correction.
--
-- `t` is the number of this tick, and `selected` the pattern that the operator selected, if any. Times are in ticks,
-- which are tenths of a second. All is found from these and the plan, so the only state beside how the counter comes
-- into step is which pattern is selected.
use Rattle.std.specs.Prelude.{ℕ, ◌+◌, ◌-◌, ◌%◌, ◌==◌, nat_le, Bool, ◌&&◌, ◌||◌, if◌then◌else◌, List, Option, Some, None}
use Rattle.tsb_objects.specs.tsb_types.declared.refusal.Refusal.{Refusal}
use Rattle.tsb_objects.specs.tsb_types.declared.refusal.Refusal.TheVariants.{NoSuchPattern}
use Rattle.tsb_objects.specs.tsb_plan.Plan.{Plan, sequence}
use Rattle.tsb_objects.specs.tsb_plan.Parts.{is_used, cycle, unless_zero}
use Rattle.tsb_objects.specs.tsb_plan.Running.{running, sequence_in_effect, is_coordinated_now, is_omitted_now}
pub use Rattle.tsb_objects.specs.Instants.{residue_of_difference, end_in, end_of, instant_from, is_same_from_both, coordinated_in_ring, first_coordinated, reference, instant_by, agree, yields_to, instant_of, late_end, is_from_to, counted_on, is_late, is_forced_late, yields_for, is_behind, is_permitted, permissive_end_from, permissive_end, forces_off, walk_and_clearance, may_recycle, is_left, recycles, recycle_end_from, recycle_end, offset_in_effect}
-- re-exported as well: the instant with which the local counter is compared
unfoldable pub use Rattle.tsb_objects.specs.Instants.{force_off}

-- ## The pattern that runs, and its local counter

-- the pattern that is selected at power-up, and after a reset: none, which is free operation
abbrev pub at_power_up : Option ℕ
at_power_up = None

-- the local counter of a pattern in step: t less the offset in effect, within the cycle. K17: the
-- offset is below the cycle, as is that in effect.
abbrev pub counter : Plan → ℕ → ℕ → ℕ
counter plan n t = (t + cycle plan n - offset_in_effect plan n) % cycle plan n

-- that of the pattern that runs; none in free operation
abbrev pub local_in : Plan → ℕ → Option ℕ → Option ℕ
local_in plan t None = None
local_in plan t (Some n) = Some (counter plan n t)

-- at tick t, in tenths of a second, of the pattern that is selected; none where that is not used
abbrev pub local : Plan → ℕ → Option ℕ → Option ℕ
local plan t selected = local_in plan t (running plan selected)

-- ## The orders, by the instants of the plan

-- the local counter is at the force-off instant of p in this tick
abbrev pub is_at_force_off : Plan → ℕ → Option ℕ → ℕ → Bool
is_at_force_off plan t selected p = agree (local plan t selected) (force_off plan (running plan selected) p)

-- the local counter is in the permissive time of p in this tick, which has one
abbrev pub is_in_permissive_time : Plan → ℕ → Option ℕ → ℕ → Bool
is_in_permissive_time plan t selected p = is_permitted plan (running plan selected) (local plan t selected) p

-- the permissive time of p has just ended in this tick: it is the first behind it
abbrev pub ends_permissive_time : Plan → ℕ → Option ℕ → ℕ → Bool
ends_permissive_time plan t selected p = agree (local plan t selected) (permissive_end plan (running plan selected) p)

-- force-off: it is at the instant, or p is forced off late in this tick, or it is in the permissive time
abbrev pub asks_force_off : Plan → ℕ → Option ℕ → ℕ → Bool
asks_force_off plan t selected p = forces_off plan (running plan selected) (local plan t selected) p

-- recycle: p may walk again within its green in this tick
abbrev pub asks_recycle : Plan → ℕ → Option ℕ → ℕ → Bool
asks_recycle plan t selected p = recycles plan (running plan selected) (local plan t selected) p

-- in this tick the walk and the pedestrian clearance of p have just ceased to fit up to its instant
abbrev pub ends_recycle : Plan → ℕ → Option ℕ → ℕ → Bool
ends_recycle plan t selected p = agree (local plan t selected) (recycle_end plan (running plan selected) p)

-- hold: p is a coordinated phase of the pattern that runs
abbrev pub asks_hold : Plan → Option ℕ → ℕ → Bool
asks_hold plan selected p = is_coordinated_now plan (running plan selected) p

-- omit: the split mode of p omits it in the pattern that runs
abbrev pub asks_omit : Plan → Option ℕ → ℕ → Bool
asks_omit plan selected p = is_omitted_now plan (running plan selected) p

-- the sequence in effect: that of the pattern that runs, or sequence 1 in free operation
abbrev pub sequence_now : Plan → Option ℕ → ℕ
sequence_now plan selected = sequence_in_effect plan (running plan selected)

-- what the sequence in effect has for ring r, place by place; 0 for no phase
abbrev pub serving_order : Plan → Option ℕ → ℕ → List ℕ
serving_order plan selected r = sequence plan (sequence_now plan selected) r

-- ## Selecting a pattern

-- a pattern is one of 1 to 16, and used: its cycle is not 0
abbrev pub is_pattern : Plan → ℕ → Bool
is_pattern plan n = (nat_le 1 n && nat_le n 16) && is_used plan n

-- refusal E9: the number is neither 0, which is free operation, nor that of a pattern
abbrev pub refusal : Plan → ℕ → Option Refusal
refusal plan n = if n == 0 || is_pattern plan n then None else Some NoSuchPattern

-- the pattern selected by an input that is not refused
abbrev pub selects : ℕ → Option ℕ
selects n = unless_zero n
