-- One-line mistakes that break the laws of arrows and of overlaps that trail, each with an example in which it shows. The
-- plan is that of Examples.
use Rattle.std.specs.Prelude.{◌≡◌, ℕ, ◌==◌, Bool, true, false, not, ◌&&◌, if◌then◌else◌, refl}
use Rattle.std.specs.List.{list_any}
use Rattle.tsb_cells.specs.declared.timer.Timer.TheVariants.{On}
use Rattle.tsb_cells.specs.Timer.{has_reached}
use Rattle.tsb_objects.specs.tsb_types.declared.interval.Interval.TheVariants as intervals
use Rattle.tsb_objects.specs.tsb_types.Intervals.{is_green}
use Rattle.tsb_objects.specs.tsb_types.Lists.{run_from}
use Rattle.tsb_objects.specs.tsb_plan.Plan.{Plan, phases}
use Rattle.tsb_objects.specs.tsb_plan.Parts.{is_timed, trail_green}
use Rattle.tsb_objects.specs.tsb_plan.Quad.{quad}
use Rattle.tsb_heads.specs.Overlaps.{is_kept_green}
use Rattle.tsb_overlap.specs.declared.parts.OverlapInterval.TheVariants.{Red, Green, TrailGreen, Flashing, Yellow}
use Rattle.tsb_overlap.specs.Overlap.{Overlap, Given, standing, begun, is_turning, is_open_to, run_on, settled, trail_settled, next, lasts, may_flash}
use Rattle.tsb_overlap.proofs.Examples.Examples.{plan, with_phase, timed}

-- ## Arrows flash by permission: a look at the green of the turn, and not at its yellow

-- the turn, phase 1, is Yellow beside phase 2, as no run has it
abbrev pub beside_its_yellow : Given
beside_its_yellow = record (with_phase 2 intervals.Green 50) {
  shown = record (with_phase 2 intervals.Green 50).shown { interval = λ k. if k == 1 then intervals.Yellow else (if k == 2 then intervals.Green else intervals.Red) };
}

turns_yet : is_turning beside_its_yellow 1 ≡ true
turns_yet = refl

does_not_flash : next plan beside_its_yellow (λ o. standing Red) 1 ≡ standing Red
unfolding plan quad run_from next run_on settled may_flash
does_not_flash = refl

abbrev pub flashes_by_greens : Plan → Given → ℕ → ℕ → Bool
flashes_by_greens p given o t = not (is_green (given.shown.interval t)) && list_any (is_open_to p given o) (phases p)

would_flash : flashes_by_greens plan beside_its_yellow 1 1 ≡ true
unfolding plan quad run_from
would_flash = refl

-- ## Arrows are their turns: an arrow that is green as long as it was before

abbrev pub green_as_before : Overlap → Overlap
green_as_before x = x

turn_is_over : is_green ((with_phase 1 intervals.Yellow 0).shown.interval 1) ≡ false
turn_is_over = refl

would_stay_green : (green_as_before (standing Green)).interval ≡ Green
would_stay_green = refl

-- ## Lit overlaps end in yellow: an arrow that ceases to flash is red

abbrev pub dark_where_not : Bool → Overlap
dark_where_not flashes = if flashes then standing Flashing else standing Red

may_not_flash : may_flash plan (with_phase 2 intervals.Yellow 0) 1 1 ≡ false
unfolding plan quad run_from may_flash
may_not_flash = refl

would_be_red : (dark_where_not (may_flash plan (with_phase 2 intervals.Yellow 0) 1 1)).interval ≡ Red
unfolding plan quad run_from may_flash
would_be_red = refl

-- ## Trails last: a trailing green that ends with the red clearance of its phase

abbrev pub ends_with_its_phase : Bool → Overlap → Overlap
ends_with_its_phase over x = if over then begun Yellow else x

-- after 1.0 s
would_end : (ends_with_its_phase true (timed TrailGreen 10 2)).interval ≡ Yellow
would_end = refl

too_early : has_reached (On 10) (trail_green plan 2) ≡ false
unfolding plan quad
too_early = refl

-- ## Trails run out: what is left by the time of the trailing green alone

abbrev pub left_by_green : Plan → ℕ → Overlap → ℕ
left_by_green p o x = lasts (trail_green p o) x.timer

was_left : left_by_green plan 2 (timed TrailGreen 49 2) ≡ 1
unfolding plan quad
was_left = refl

-- in the tick in which the yellow begins
would_begin_anew : left_by_green plan 2 (begun Yellow) ≡ 50
unfolding plan quad
would_begin_anew = refl

-- ## Untimed overlaps stay: an overlap that is kept green whether it is timed or not

pub untimed_3 : is_timed plan 3 ≡ false
unfolding plan quad
untimed_3 = refl

stays_red : settled plan (with_phase 2 intervals.Green 0) 3 (standing Red) ≡ standing Red
unfolding plan quad settled
stays_red = refl

-- overlap 3 of a plan in which it includes phase 2, but does not trail, is that of overlap 2 here
would_be_green : trail_settled plan (with_phase 2 intervals.Green 0) 2 (standing Red) ≡ standing Green
unfolding plan quad run_from is_kept_green
would_be_green = refl
