-- A worksheet of a plan: how long the entry of a preempt lasts at most, and what each pattern gives the phases that it
-- serves. Times are in tenths of a second, which are ticks. That no run has a longer entry is a law of tsb_laws.
use Rattle.std.specs.Prelude.{ℕ, ◌+◌, Bool, not, ◌&&◌, if◌then◌else◌, min, max, List, [], ◌∷◌, Option, Some, None}
use Rattle.std.specs.List.{list_all}
use Rattle.tsb_types.specs.Lists.{run_from}
use Rattle.tsb_plan.specs.Parts.{chooses_anew, enter_pedestrian_clear, includes_none, is_included, is_used, preempt_minimum_green, preempt_minimum_walk, trail_red, trail_yellow, trails}
use Rattle.tsb_plan.specs.Plan.{Plan, is_enabled, pedestrian_clear, phases, red_clear, red_revert, walk, yellow_change}
use Rattle.tsb_plan.specs.Running.{is_omitted_now}
use Rattle.tsb_rules.specs.Rules.{has_walk}
use Rattle.tsb_objects.specs.Instants.{force_off}
use Rattle.tsb_review.specs.Pedestrians.{pedestrian_time}
use Rattle.tsb_review.specs.Preempts.{has_dwell}
use Rattle.tsb_review.specs.Splits.{green_of_split, split_time_in}
use Rattle.tsb_review.specs.declared.worksheet.PhaseTime.{PhaseTime}
use Rattle.tsb_review.specs.declared.worksheet.PhaseTime.TheVariants.{Clearing, Pedestrians, Reverting, Waiting}
use Rattle.tsb_review.specs.declared.worksheet.SplitShare.{SplitShare}
use Rattle.tsb_review.specs.declared.worksheet.TheConstants.{GREEN_TICKS, RING_TICKS}

-- ## The entry of a preempt

-- the greatest that a time is for a phase of a list; 0 for none
abbrev pub greatest_of : (ℕ → ℕ) → List ℕ → ℕ
greatest_of time [] = 0
greatest_of time (p ∷ ps) = max (time p) (greatest_of time ps)

-- for all phases, enabled or not
unfoldable pub greatest : Plan → (ℕ → ℕ) → ℕ
greatest plan time = greatest_of time (phases plan)

-- the walk and the pedestrian clearance of p that preempt n leaves: of each the shorter of the phase's and the preempt's
abbrev pub pedestrians_left : Plan → ℕ → ℕ → ℕ
pedestrians_left plan n p =
    min (walk plan p) (preempt_minimum_walk plan n) + min (pedestrian_clear plan p) (enter_pedestrian_clear plan n)

-- the yellow and red clearance of overlap o's own, where it trails and includes p
abbrev pub held_by : Plan → ℕ → ℕ → ℕ
held_by plan p o = if trails plan o && is_included plan o p then trail_yellow plan o + trail_red plan o else 0

-- so long, at most, overlaps that trail hold p in clearance, once a preempt has ended their trailing greens
unfoldable pub held : Plan → ℕ → ℕ
held plan p = greatest_of (held_by plan p) (run_from 1 plan.counts.overlaps)

-- how long p clears, or may not start again, after the last green has ended: yellow change and red clearance, or a longer
-- red revert, or longer still where overlaps hold it
abbrev pub clearing : Plan → ℕ → ℕ
clearing plan p = max (max (yellow_change plan p + red_clear plan p) (red_revert plan p)) (held plan p)

-- how long p is waited for while a phase of the other ring may be green still: as that ends, late in the clearance of p,
-- an overlap that includes both begins to trail, and holds p so much longer
abbrev pub waited_for : Plan → ℕ → ℕ
waited_for plan p = max (max (yellow_change plan p + red_clear plan p) (held plan p) + held plan p) (red_revert plan p)

-- such a time of a phase
abbrev pub time_of : PhaseTime → Plan → ℕ → ℕ
time_of (Pedestrians n) plan = pedestrians_left plan n
time_of Clearing plan = clearing plan
time_of Waiting plan = waited_for plan
time_of Reverting plan = red_revert plan

-- a ring serves what it was committed to before: the pedestrians of a green clear, or an older commitment waits and has
-- its least green; then what is in service clears
abbrev pub longest_by_turn : Plan → ℕ → ℕ
longest_by_turn plan n =
    max (greatest plan (pedestrians_left plan n)) (greatest plan (waited_for plan) + preempt_minimum_green plan n + GREEN_TICKS)
    + greatest plan (clearing plan) + RING_TICKS

-- the preempt chooses anew: pedestrians clear, or a green has its least time, or what is wanted reverts; then what is in
-- service clears
abbrev pub longest_by_choice : Plan → ℕ → ℕ
longest_by_choice plan n =
    max (max (greatest plan (pedestrians_left plan n)) (preempt_minimum_green plan n + GREEN_TICKS)) (greatest plan (red_revert plan))
    + greatest plan (clearing plan) + RING_TICKS

-- no overlap includes one, so none lasts by a commitment
abbrev pub has_no_overlaps : Plan → Bool
has_no_overlaps plan = list_all (includes_none plan) (run_from 1 plan.counts.overlaps)

-- THE LONGEST ENTRY of preempt n: so long after its service began, at most, all phases of its first stage are Green. That
-- are its track phases, or its dwell phases where it has no others
abbrev pub longest_entry : Plan → ℕ → ℕ
longest_entry plan n = if chooses_anew plan n && has_no_overlaps plan then longest_by_choice plan n else longest_by_turn plan n

-- that of a preempt that is ever served
abbrev pub entry_of : Plan → ℕ → Option ℕ
entry_of plan n = if has_dwell plan n then Some (longest_entry plan n) else None

-- ## The shares of a pattern

-- the used pattern n serves p: it is enabled, and not omitted
abbrev pub has_share : Plan → ℕ → ℕ → Bool
has_share plan n p = is_used plan n && (is_enabled plan p && not (is_omitted_now plan (Some n) p))

-- walk and clearance of p, where it has a crossing
abbrev pub crossing_of : Plan → ℕ → Option ℕ
crossing_of plan p = if has_walk plan p then Some (pedestrian_time plan p) else None

-- what pattern n gives p: its split, the green that yellow change and red clearance leave of that, and its force-off
-- instant on the local counter; and what its crossing takes
abbrev pub share : Plan → ℕ → ℕ → SplitShare
share plan n p = record {
  split = split_time_in plan n p;
  green = green_of_split plan n p;
  force_off = force_off plan (Some n) p;
  crossing = crossing_of plan p;
}

-- where it serves p
abbrev pub share_of : Plan → ℕ → ℕ → Option SplitShare
share_of plan n p = if has_share plan n p then Some (share plan n p) else None
