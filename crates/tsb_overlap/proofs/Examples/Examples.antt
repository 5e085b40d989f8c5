-- What the definitions give, by computing, of plan `quad` with two overlaps of phase 2: overlap 1 is an arrow whose turn
-- is phase 1, with a delay of 2.0 s; overlap 2 trails for 5 s, with a yellow of 3.5 s and a red clearance of 1.5 s.
use Rattle.std.specs.Prelude.{◌≡◌, ℕ, ◌==◌, true, false, if◌then◌else◌, [], ◌∷◌, Some, None, refl}
use Rattle.tsb_cells.specs.declared.timer.Timer.TheVariants.{On}
use Rattle.tsb_objects.specs.tsb_types.declared.interval.Interval.{Interval}
use Rattle.tsb_objects.specs.tsb_types.declared.interval.Interval.TheVariants as intervals
use Rattle.tsb_objects.specs.tsb_types.declared.interval.PedestrianInterval.TheVariants as pedestrians
use Rattle.tsb_objects.specs.tsb_types.declared.lamp.Aspect.TheVariants as aspects
use Rattle.tsb_objects.specs.tsb_types.Lists.{run_from}
use Rattle.tsb_objects.specs.tsb_plan.declared.object.Object.TheVariants.{OverlapIncludedPhases, OverlapModifierPhases, OverlapType, OverlapArrowDelay, OverlapArrowPedestrian, OverlapTrailGreen, OverlapTrailYellow, OverlapTrailRed}
use Rattle.tsb_objects.specs.tsb_plan.Plan.{Plan, with_values}
use Rattle.tsb_objects.specs.tsb_plan.Quad.{quad}
use Rattle.tsb_heads.specs.Overlaps.{is_kept_green}
use Rattle.tsb_overlap.specs.declared.parts.OverlapInterval.{OverlapInterval}
use Rattle.tsb_overlap.specs.declared.parts.OverlapInterval.TheVariants.{Red, Green, TrailGreen, Flashing, Yellow, RedClear}
use Rattle.tsb_overlap.specs.Overlap.{Overlap, Given, standing, begun, yellow_of, run_on, settled, may_flash, is_held, next, trail_left}

unfoldable pub plan : Plan
plan = with_values quad
    ((OverlapIncludedPhases, 1, 2) ∷ (OverlapModifierPhases, 1, 1) ∷ (OverlapType, 1, 2) ∷ (OverlapArrowDelay, 1, 20) ∷ (OverlapArrowPedestrian, 1, 1) ∷
    (OverlapIncludedPhases, 2, 2) ∷ (OverlapTrailGreen, 2, 5) ∷ (OverlapTrailYellow, 2, 35) ∷ (OverlapTrailRed, 2, 15) ∷ [])

-- phase p is in this interval since n ticks, and was Green; 6 is Green too, nobody walks and no ring is committed
abbrev pub with_phase : ℕ → Interval → ℕ → Given
with_phase p i n = record {
  was_green = λ k. k == p;
  shown = record {
    interval = λ k. if k == p then i else (if k == 6 then intervals.Green else intervals.Red);
    pedestrian = λ k. pedestrians.DontWalk;
    commitment = λ r. None;
    light = λ o. aspects.Red;
    tripped = false;
  };
  timer = λ k. On n;
  preempted = false;
  omitted = λ o. false;
}

-- all overlaps are in this interval since n ticks
abbrev pub timed : OverlapInterval → ℕ → ℕ → Overlap
timed i n o = record { interval = i; timer = On n; phase = None }

-- ## The arrow

waits_for_its_delay : next plan (with_phase 2 intervals.Green 19) (λ o. standing Red) 1 ≡ standing Red
unfolding plan quad run_from next run_on settled may_flash
waits_for_its_delay = refl

pub flashes : next plan (with_phase 2 intervals.Green 20) (λ o. standing Red) 1 ≡ standing Flashing
unfolding plan quad run_from next run_on settled may_flash
flashes = refl

-- while the crosswalk of phase 2 clears
gives_way : next plan
    (record (with_phase 2 intervals.Green 50) { shown = record (with_phase 2 intervals.Green 50).shown { pedestrian = λ k. pedestrians.PedestrianClear } })
    (λ o. standing Flashing) 1 ≡ yellow_of 2
unfolding plan quad run_from next run_on settled may_flash
gives_way = refl

omitted : next plan (record (with_phase 2 intervals.Green 50) { omitted = λ o. o == 1 }) (λ o. standing Red) 1 ≡ standing Red
unfolding plan quad run_from next run_on settled may_flash
omitted = refl

-- its yellow is that of phase 2, which has ended
pub ends_in_yellow : next plan (with_phase 2 intervals.Yellow 0) (λ o. standing Flashing) 1 ≡ yellow_of 2
unfolding plan quad run_from next run_on settled may_flash
ends_in_yellow = refl

-- and lasts 3.0 s as that does
is_yellow_yet : next plan (with_phase 2 intervals.Yellow 28) (λ o. record { interval = Yellow; timer = On 28; phase = Some 2 }) 1
    ≡ record { interval = Yellow; timer = On 29; phase = Some 2 }
unfolding plan quad run_from next run_on settled may_flash
is_yellow_yet = refl

pub is_red_then : next plan (with_phase 2 intervals.RedClear 0) (λ o. record { interval = Yellow; timer = On 29; phase = Some 2 }) 1 ≡ standing Red
unfolding plan quad run_from next run_on settled may_flash
is_red_then = refl

pub is_green_with_its_turn : next plan (with_phase 1 intervals.Green 0) (λ o. standing Red) 1 ≡ standing Green
unfolding plan quad run_from next run_on settled may_flash
is_green_with_its_turn = refl

ends_with_its_turn : next plan (with_phase 1 intervals.Yellow 0) (λ o. standing Green) 1 ≡ yellow_of 1
unfolding plan quad run_from next run_on settled may_flash
ends_with_its_turn = refl

-- ## The overlap that trails

is_green : next plan (with_phase 2 intervals.Green 0) (λ o. standing Red) 2 ≡ standing Green
unfolding plan quad run_from next run_on settled is_kept_green
is_green = refl

trails : next plan (with_phase 2 intervals.Yellow 0) (λ o. standing Green) 2 ≡ begun TrailGreen
unfolding plan quad run_from next run_on settled is_kept_green
trails = refl

-- a preempt is in service
clears_at_once : next plan (record (with_phase 2 intervals.Yellow 0) { preempted = true }) (λ o. standing Green) 2 ≡ begun Yellow
unfolding plan quad run_from next run_on settled is_kept_green
clears_at_once = refl

pub trails_for_5_s : next plan (with_phase 2 intervals.RedClear 18) (timed TrailGreen 48) 2 ≡ timed TrailGreen 49 2
unfolding plan quad run_from next run_on settled is_kept_green
trails_for_5_s = refl

pub is_yellow_then : next plan (with_phase 2 intervals.RedClear 19) (timed TrailGreen 49) 2 ≡ begun Yellow
unfolding plan quad run_from next run_on settled is_kept_green
is_yellow_then = refl

pub is_clearing_then : next plan (with_phase 2 intervals.RedClear 54) (timed Yellow 34) 2 ≡ begun RedClear
unfolding plan quad run_from next run_on settled is_kept_green
is_clearing_then = refl

pub is_off_then : next plan (with_phase 2 intervals.RedClear 69) (timed RedClear 14) 2 ≡ standing Red
unfolding plan quad run_from next run_on settled is_kept_green
is_off_then = refl

-- phase 2 comes again
is_taken_back : next plan (with_phase 2 intervals.Green 0) (timed TrailGreen 10) 2 ≡ standing Green
unfolding plan quad run_from next run_on settled is_kept_green
is_taken_back = refl

goes_on_in_yellow : next plan (with_phase 2 intervals.Green 0) (timed Yellow 10) 2 ≡ timed Yellow 11 2
unfolding plan quad run_from next run_on settled is_kept_green
goes_on_in_yellow = refl

-- it holds phase 2 while it trails, in the tick of its last moment no more
pub holds_2 : is_held plan false (timed RedClear 13) 2 ≡ true
unfolding plan quad run_from is_held run_on
holds_2 = refl

lets_2_go : is_held plan false (timed RedClear 14) 2 ≡ false
unfolding plan quad run_from is_held run_on
lets_2_go = refl

-- after 1.0 s of its green: 4.0 s, 3.5 s and 1.5 s
pub is_left : trail_left plan false 2 (timed TrailGreen 10 2) TrailGreen ≡ 90
unfolding plan quad
is_left = refl
