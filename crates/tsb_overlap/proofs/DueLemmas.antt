-- Ticks that leave overlaps as they are: where no time runs out, what one leaves the next does.
use Rattle.std.proofs.Common.{◌≡◌, ◌≢◌, ℕ, ◌+◌, ◌-◌, ◌≤◌, ◌==◌, Bool, true, false, not, ◌&&◌, ◌||◌, if◌then◌else◌, List, Option, Some, None, refl, sym, ap, ◌∙◌, arith, inl, inr}
use Rattle.std.specs.List.{list_any}
use Rattle.std.proofs.lemmas.Bool.{cases_Bool}
use Rattle.std.proofs.lemmas.Bool.Decides.{eqb_tells}
use Rattle.tsb_cells.specs.declared.timer.Timer.{Timer}
use Rattle.tsb_cells.specs.declared.timer.Timer.TheVariants.{Off, On}
use Rattle.tsb_cells.specs.Timer.{timer_at, has_reached}
use Rattle.tsb_objects.specs.tsb_types.declared.flow.OverlapLights.{OverlapLights}
use Rattle.tsb_objects.specs.tsb_types.declared.limits.TheConstants.{OVERLAPS}
use Rattle.tsb_objects.specs.tsb_types.Flow.{interval_of}
use Rattle.tsb_objects.specs.tsb_types.Intervals.{is_green}
use Rattle.tsb_objects.proofs.tsb_types.ClipLemmas.{any-agree}
use Rattle.tsb_objects.specs.tsb_plan.Plan.{Plan, phases, yellow_change}
use Rattle.tsb_objects.specs.tsb_plan.Parts.{is_included, is_arrow, is_timed, trails, arrow_delay, heeds_pedestrians, trail_green, trail_yellow, trail_red}
use Rattle.tsb_heads.specs.Overlaps.{is_kept_green}
use Rattle.tsb_overlap.specs.declared.parts.OverlapInterval.{OverlapInterval}
use Rattle.tsb_overlap.specs.declared.parts.OverlapInterval.TheVariants.{Red, Green, TrailGreen, Flashing, Yellow, RedClear}
use Rattle.tsb_overlap.specs.declared.parts.Part.{Part}
use Rattle.tsb_overlap.specs.declared.surroundings.Surroundings.{Surroundings}
use Rattle.tsb_overlap.specs.Overlap.{Overlap, Given, standing, begun, as_read, run_on, trail_by, arrow_by, arrow_yellow_on, may_be_kept, left_alone, trail_settled, turn_of, is_turning, is_open_to, is_walked, may_flash, ended_flash, not_flashing, flashing_or, unturned, arrow_settled, settled, next}
use Rattle.tsb_overlap.specs.Cells.{part_in, overlap_of, overlap_in, omitted_in, IsBy}
use Rattle.tsb_overlap.specs.Parts.{IsStill}
use Rattle.tsb_overlap.specs.Promises.{AreStanding, AreQuiet}
use Rattle.tsb_overlap.specs.Reading.{given_by, since_in}
use Rattle.tsb_overlap.proofs.CellLemmas.{same-overlap, overlap_in-part, read-row, rows-later}
use Rattle.tsb_overlap.proofs.OwnLemmas.{untimed-runs, untimed-settles}

-- an overlap, field by field
abbrev of : OverlapInterval → Timer → Option ℕ → Overlap
of i timer phase = record { interval = i; timer = timer; phase = phase }

same-interval : (x y : Overlap) → x ≡ y → x.interval ≡ y.interval
same-interval x y e = ap (λ (z : Overlap). z.interval) e

-- ## Times that do not run out

off-zero : (now cell : ℕ) → timer_at now cell ≡ Off → cell ≡ 0
off-zero now cell e = elim (eqb_tells cell 0) [ inl zero ↦ zero.1 | inr on ↦ absurd (none (rw on.0 at e)) ]
  where
    none : On (now + 1 - cell) ≡ Off → ⊥
    none f = cc

-- an interval with no timer that a tick leaves, each leaves
standing-still : (j i : OverlapInterval) (cell : ℕ) (phase : Option ℕ) (now t : ℕ) → standing j ≡ of i (timer_at now cell) phase → standing j ≡ of i (timer_at t cell) phase
standing-still j i cell phase now t e =
    let zero : cell ≡ 0 = off-zero now cell (sym (ap (λ (z : Overlap). z.timer) e)) in
    same-overlap _ _ (same-interval _ _ e) (rw zero refl) (ap (λ (z : Overlap). z.phase) e)

and-same : (a b x y : Bool) → (a ≡ true → b ≡ true → x ≡ y) → (a && (b && x)) ≡ (a && (b && y))
and-same true true x y same = same refl refl
and-same true false x y same = refl
and-same false b x y same = refl

-- ## Arrows

module _ (plan : Plan) (o : ℕ) (cell : ℕ) (now t : ℕ) where
  arrow-runs : (phase : Option ℕ) (i : OverlapInterval) →
      ((p : ℕ) → i ≡ Yellow → phase ≡ Some p → has_reached (timer_at t cell) (yellow_change plan p) ≡ has_reached (timer_at now cell) (yellow_change plan p)) →
      arrow_by plan (of i (timer_at now cell) phase) i ≡ of i (timer_at now cell) phase →
      arrow_by plan (of i (timer_at t cell) phase) i ≡ of i (timer_at t cell) phase
  arrow-runs phase Red same e = refl
  arrow-runs phase Green same e = refl
  arrow-runs phase TrailGreen same e = refl
  arrow-runs phase Flashing same e = refl
  arrow-runs phase RedClear same e = refl
  arrow-runs None Yellow same e = refl
  arrow-runs (Some p) Yellow same e = rw (same p refl refl) (go (has_reached (timer_at now cell) (yellow_change plan p)) e)
    where
      go : (b : Bool) → (if b then standing Red else of Yellow (timer_at now cell) (Some p)) ≡ of Yellow (timer_at now cell) (Some p) →
          (if b then standing Red else of Yellow (timer_at t cell) (Some p)) ≡ of Yellow (timer_at t cell) (Some p)
      go true e = let is : Red ≡ Yellow = same-interval _ _ e in absurd cc
      go false e = refl

  module _ (one other : Given) (shown : one.shown ≡ other.shown) (was : one.was_green ≡ other.was_green) where
    not_flashing-stands : (turn : ℕ) (phase : Option ℕ) (i : OverlapInterval) → i ≢ Yellow → i ≢ Green →
        not_flashing plan one o turn i ≡ of i (timer_at now cell) phase → not_flashing plan other o turn i ≡ of i (timer_at t cell) phase
    not_flashing-stands turn phase Red not_yellow not_green e = standing-still Red Red cell phase now t e
    not_flashing-stands turn phase Green not_yellow not_green e = absurd (not_green refl)
    not_flashing-stands turn phase TrailGreen not_yellow not_green e = let is : Red ≡ TrailGreen = same-interval _ _ e in absurd cc
    not_flashing-stands turn phase Flashing not_yellow not_green e = absurd (ended turn _ (same-interval _ _ e))
      where
        ended : (turn : ℕ) (p : Option ℕ) → (ended_flash turn p).interval ≡ Flashing → ⊥
        ended turn None f = cc
        ended turn (Some p) f = cc
    not_flashing-stands turn phase Yellow not_yellow not_green e = absurd (not_yellow refl)
    not_flashing-stands turn phase RedClear not_yellow not_green e = let is : Red ≡ RedClear = same-interval _ _ e in absurd cc

    flashing-stands : (turn : ℕ) (phase : Option ℕ) (i : OverlapInterval) → i ≢ Yellow → i ≢ Green → may_flash plan other o turn ≡ may_flash plan one o turn →
        flashing_or plan one o turn (of i (timer_at now cell) phase) ≡ of i (timer_at now cell) phase →
        flashing_or plan other o turn (of i (timer_at t cell) phase) ≡ of i (timer_at t cell) phase
    flashing-stands turn phase i not_yellow not_green may e = rw may (go (may_flash plan one o turn) e)
      where
        go : (b : Bool) → (if b then standing Flashing else not_flashing plan one o turn i) ≡ of i (timer_at now cell) phase →
            (if b then standing Flashing else not_flashing plan other o turn i) ≡ of i (timer_at t cell) phase
        go true e = standing-still Flashing i cell phase now t e
        go false e = not_flashing-stands turn phase i not_yellow not_green e

    unturned-stands : (turn : ℕ) (phase : Option ℕ) (i : OverlapInterval) → (i ≢ Yellow → may_flash plan other o turn ≡ may_flash plan one o turn) →
        unturned plan one o turn (of i (timer_at now cell) phase) i ≡ of i (timer_at now cell) phase →
        unturned plan other o turn (of i (timer_at t cell) phase) i ≡ of i (timer_at t cell) phase
    unturned-stands turn phase Yellow may e = refl
    unturned-stands turn phase Green may e = let is : Yellow ≡ Green = same-interval _ _ e in absurd cc
    unturned-stands turn phase Red may e = flashing-stands turn phase Red (λ f. cc) (λ f. cc) (may (λ f. cc)) e
    unturned-stands turn phase TrailGreen may e = flashing-stands turn phase TrailGreen (λ f. cc) (λ f. cc) (may (λ f. cc)) e
    unturned-stands turn phase Flashing may e = flashing-stands turn phase Flashing (λ f. cc) (λ f. cc) (may (λ f. cc)) e
    unturned-stands turn phase RedClear may e = flashing-stands turn phase RedClear (λ f. cc) (λ f. cc) (may (λ f. cc)) e

    arrow-settles : (phase turn : Option ℕ) (i : OverlapInterval) → ((m : ℕ) → i ≢ Yellow → may_flash plan other o m ≡ may_flash plan one o m) →
        arrow_settled plan one o (of i (timer_at now cell) phase) turn ≡ of i (timer_at now cell) phase →
        arrow_settled plan other o (of i (timer_at t cell) phase) turn ≡ of i (timer_at t cell) phase
    arrow-settles phase None i may e = refl
    arrow-settles phase (Some m) i may e =
        rw (ap (λ s. is_green (s.interval m)) (sym shown)) (go (is_green (one.shown.interval m)) e)
      where
        go : (b : Bool) → (if b then standing Green else unturned plan one o m (of i (timer_at now cell) phase) i) ≡ of i (timer_at now cell) phase →
            (if b then standing Green else unturned plan other o m (of i (timer_at t cell) phase) i) ≡ of i (timer_at t cell) phase
        go true e = standing-still Green i cell phase now t e
        go false e = unturned-stands m phase i (may m) e

-- whether an arrow flashes, at two ticks at which the delay is over for the same phases
flash-same : (plan : Plan) (seen : Surroundings) (omitted : ℕ → Bool) (lights : OverlapLights) (o m now t : ℕ) → plan.phase_count ≤ 16 →
    ((p : ℕ) → 1 ≤ p → p ≤ 16 → is_included plan o p ≡ true → is_green (interval_of seen.intervals p) ≡ true →
    has_reached (timer_at t (since_in seen p)) (arrow_delay plan o) ≡ has_reached (timer_at now (since_in seen p)) (arrow_delay plan o)) →
    may_flash plan (given_by t seen omitted lights) o m ≡ may_flash plan (given_by now seen omitted lights) o m
unfolding may_flash
flash-same plan seen omitted lights o m now t count same =
    ap (λ (b : Bool). not (omitted o) && (not (is_turning (given_by now seen omitted lights) m)
    && (not (heeds_pedestrians plan o && list_any (is_walked plan (given_by now seen omitted lights) o) (phases plan)) && b)))
    (any-agree plan.phase_count (is_open_to plan (given_by t seen omitted lights) o) (is_open_to plan (given_by now seen omitted lights) o) count
    (λ p from to. and-same (is_included plan o p) (is_green (interval_of seen.intervals p)) _ _ (λ inside green. same p from to inside green)))

arrow-run_on : (plan : Plan) (preempted : Bool) (o : ℕ) (x : Overlap) → is_arrow plan o ≡ true → run_on plan preempted o x ≡ arrow_by plan x x.interval
unfolding run_on
arrow-run_on plan preempted o x arrow = rw arrow refl

arrow-settle : (plan : Plan) (given : Given) (o : ℕ) (x : Overlap) → is_arrow plan o ≡ true → settled plan given o x ≡ arrow_settled plan given o x (turn_of plan o)
unfolding settled
arrow-settle plan given o x arrow = rw arrow refl

pub trail-run_on : (plan : Plan) (preempted : Bool) (o : ℕ) (x : Overlap) → is_arrow plan o ≡ false → trails plan o ≡ true → run_on plan preempted o x ≡ trail_by plan o preempted x x.interval
unfolding run_on
trail-run_on plan preempted o x arrow trail = rw (arrow, trail) refl

trail-settle : (plan : Plan) (given : Given) (o : ℕ) (x : Overlap) → is_arrow plan o ≡ false → trails plan o ≡ true → settled plan given o x ≡ trail_settled plan given o x
unfolding settled
trail-settle plan given o x arrow trail = rw (arrow, trail) refl

pub arrow-still : (plan : Plan) (preempted : Bool) (omitted : ℕ → Bool) (lights : OverlapLights) (seen : Surroundings) (o : ℕ) (part : Part) (now t : ℕ) →
    plan.phase_count ≤ 16 → is_arrow plan o ≡ true →
    ((p : ℕ) → part.interval ≡ Yellow → part.phase ≡ Some p →
    has_reached (timer_at t part.timer) (yellow_change plan p) ≡ has_reached (timer_at now part.timer) (yellow_change plan p)) →
    (part.interval ≢ Yellow → (p : ℕ) → 1 ≤ p → p ≤ 16 → is_included plan o p ≡ true → is_green (interval_of seen.intervals p) ≡ true →
    has_reached (timer_at t (since_in seen p)) (arrow_delay plan o) ≡ has_reached (timer_at now (since_in seen p)) (arrow_delay plan o)) →
    IsStill plan preempted omitted lights seen o part now t
arrow-still plan preempted omitted lights seen o part now t count arrow yellow delays = record {
  runs = λ e.
      arrow-run_on plan preempted o (overlap_of t part) arrow
      ∙ arrow-runs plan o part.timer now t part.phase part.interval yellow (sym (arrow-run_on plan preempted o (overlap_of now part) arrow) ∙ e);
  settles = λ e.
      arrow-settle plan (given_by t seen omitted lights) o (overlap_of t part) arrow
      ∙ arrow-settles plan o part.timer now t (given_by now seen omitted lights) (given_by t seen omitted lights) refl refl part.phase (turn_of plan o) part.interval
      (λ m other. flash-same plan seen omitted lights o m now t count (delays other))
      (sym (arrow-settle plan (given_by now seen omitted lights) o (overlap_of now part) arrow) ∙ e);
}

-- ## Overlaps that trail

module _ (plan : Plan) (o : ℕ) (cell : ℕ) (phase : Option ℕ) (now t : ℕ) where
  -- at both ticks the timer has reached a time alike
  abbrev pub ReachedAlike : ℕ → Type 0
  ReachedAlike time = has_reached (timer_at t cell) time ≡ has_reached (timer_at now cell) time

  -- those of the interval
  abbrev pub TimesStay : OverlapInterval → Type 0
  TimesStay Red = Unit {0}
  TimesStay Green = Unit {0}
  TimesStay Flashing = Unit {0}
  TimesStay TrailGreen = ReachedAlike (trail_green plan o)
  TimesStay Yellow = ReachedAlike (trail_yellow plan o)
  TimesStay RedClear = ReachedAlike (trail_red plan o)

  -- an interval that is not timed has none
  pub other-times : (i : OverlapInterval) → i ≢ TrailGreen → i ≢ Yellow → i ≢ RedClear → TimesStay i
  other-times Red a b c = tt
  other-times Green a b c = tt
  other-times Flashing a b c = tt
  other-times TrailGreen a b c = absurd (a refl)
  other-times Yellow a b c = absurd (b refl)
  other-times RedClear a b c = absurd (c refl)

  trail-runs : (preempted : Bool) (i : OverlapInterval) → TimesStay i →
      trail_by plan o preempted (of i (timer_at now cell) phase) i ≡ of i (timer_at now cell) phase →
      trail_by plan o preempted (of i (timer_at t cell) phase) i ≡ of i (timer_at t cell) phase
  trail-runs preempted Red same e = refl
  trail-runs preempted Green same e = refl
  trail-runs preempted Flashing same e = refl
  trail-runs preempted TrailGreen same e = rw same (go (preempted || has_reached (timer_at now cell) (trail_green plan o)) e)
    where
      go : (b : Bool) → (if b then begun Yellow else of TrailGreen (timer_at now cell) phase) ≡ of TrailGreen (timer_at now cell) phase →
          (if b then begun Yellow else of TrailGreen (timer_at t cell) phase) ≡ of TrailGreen (timer_at t cell) phase
      go true e = let is : Yellow ≡ TrailGreen = same-interval _ _ e in absurd cc
      go false e = refl
  trail-runs preempted Yellow same e = rw same (go (has_reached (timer_at now cell) (trail_yellow plan o)) (trail_red plan o == 0) e)
    where
      go : (b none : Bool) → (if b then (if none then standing Red else begun RedClear) else of Yellow (timer_at now cell) phase) ≡ of Yellow (timer_at now cell) phase →
          (if b then (if none then standing Red else begun RedClear) else of Yellow (timer_at t cell) phase) ≡ of Yellow (timer_at t cell) phase
      go true true e = let is : Red ≡ Yellow = same-interval _ _ e in absurd cc
      go true false e = let is : RedClear ≡ Yellow = same-interval _ _ e in absurd cc
      go false none e = refl
  trail-runs preempted RedClear same e = rw same (go (has_reached (timer_at now cell) (trail_red plan o)) e)
    where
      go : (b : Bool) → (if b then standing Red else of RedClear (timer_at now cell) phase) ≡ of RedClear (timer_at now cell) phase →
          (if b then standing Red else of RedClear (timer_at t cell) phase) ≡ of RedClear (timer_at t cell) phase
      go true e = let is : Red ≡ RedClear = same-interval _ _ e in absurd cc
      go false e = refl

  left-stands : (one other : Given) (i : OverlapInterval) → left_alone one (of i (timer_at now cell) phase) i ≡ of i (timer_at now cell) phase →
      left_alone other (of i (timer_at t cell) phase) i ≡ of i (timer_at t cell) phase
  left-stands one other Red e = refl
  left-stands one other TrailGreen e = refl
  left-stands one other Flashing e = refl
  left-stands one other Yellow e = refl
  left-stands one other RedClear e = refl
  left-stands one other Green e = absurd (go one.preempted e)
    where
      go : (b : Bool) → (if b then begun Yellow else begun TrailGreen) ≡ of Green (timer_at now cell) phase → ⊥
      go true e = let is : Yellow ≡ Green = same-interval _ _ e in cc
      go false e = let is : TrailGreen ≡ Green = same-interval _ _ e in cc

  trail-settles : (one other : Given) (i : OverlapInterval) → is_kept_green plan other.shown o ≡ is_kept_green plan one.shown o →
      trail_settled plan one o (of i (timer_at now cell) phase) ≡ of i (timer_at now cell) phase →
      trail_settled plan other o (of i (timer_at t cell) phase) ≡ of i (timer_at t cell) phase
  trail-settles one other i same e = rw same (go (may_be_kept i && is_kept_green plan one.shown o) e)
    where
      go : (b : Bool) → (if b then standing Green else left_alone one (of i (timer_at now cell) phase) i) ≡ of i (timer_at now cell) phase →
          (if b then standing Green else left_alone other (of i (timer_at t cell) phase) i) ≡ of i (timer_at t cell) phase
      go true e = standing-still Green i cell phase now t e
      go false e = left-stands one other i e

pub trail-still : (plan : Plan) (preempted : Bool) (omitted : ℕ → Bool) (lights : OverlapLights) (seen : Surroundings) (o : ℕ) (part : Part) (now t : ℕ) →
    is_arrow plan o ≡ false → trails plan o ≡ true → TimesStay plan o part.timer part.phase now t part.interval →
    IsStill plan preempted omitted lights seen o part now t
trail-still plan preempted omitted lights seen o part now t arrow trail same = record {
  runs = λ e.
      trail-run_on plan preempted o (overlap_of t part) arrow trail
      ∙ trail-runs plan o part.timer part.phase now t preempted part.interval same (sym (trail-run_on plan preempted o (overlap_of now part) arrow trail) ∙ e);
  settles = λ e.
      trail-settle plan (given_by t seen omitted lights) o (overlap_of t part) arrow trail
      ∙ trail-settles plan o part.timer part.phase now t (given_by now seen omitted lights) (given_by t seen omitted lights) part.interval refl
      (sym (trail-settle plan (given_by now seen omitted lights) o (overlap_of now part) arrow trail) ∙ e);
}

-- ## What one tick leaves is over in none of its parts

-- red after its time is up, an overlap is not what it was
module _ (plan : Plan) (given : Given) (o : ℕ) (timer : Timer) (phase : Option ℕ) where
  arrow-part : (turn : Option ℕ) (i : OverlapInterval) → arrow_settled plan given o (arrow_by plan (of i timer phase) i) turn ≡ of i timer phase →
      arrow_by plan (of i timer phase) i ≡ of i timer phase
  arrow-part turn Red e = refl
  arrow-part turn Green e = refl
  arrow-part turn TrailGreen e = refl
  arrow-part turn Flashing e = refl
  arrow-part turn RedClear e = refl
  arrow-part turn Yellow e = by phase e
    where
      by : (p : Option ℕ) → arrow_settled plan given o (arrow_yellow_on plan (of Yellow timer p) p) turn ≡ of Yellow timer p →
          arrow_yellow_on plan (of Yellow timer p) p ≡ of Yellow timer p
      by None e = refl
      by (Some p) e = go (has_reached timer (yellow_change plan p)) e
        where
          go : (b : Bool) → arrow_settled plan given o (if b then standing Red else of Yellow timer (Some p)) turn ≡ of Yellow timer (Some p) →
              (if b then standing Red else of Yellow timer (Some p)) ≡ of Yellow timer (Some p)
          go true e = absurd (red-again turn e)
            where
              red-again : (turn : Option ℕ) → arrow_settled plan given o (standing Red) turn ≡ of Yellow timer (Some p) → ⊥
              red-again None e = let is : Red ≡ Yellow = same-interval _ _ e in cc
              red-again (Some m) e = pick (is_green (given.shown.interval m)) (may_flash plan given o m) e
                where
                  pick : (b c : Bool) → (if b then standing Green else (if c then standing Flashing else standing Red)) ≡ of Yellow timer (Some p) → ⊥
                  pick true c e = let is : Green ≡ Yellow = same-interval _ _ e in cc
                  pick false true e = let is : Flashing ≡ Yellow = same-interval _ _ e in cc
                  pick false false e = let is : Red ≡ Yellow = same-interval _ _ e in cc
          go false e = refl

  red-trail : (i : OverlapInterval) → i ≢ Red → i ≢ Green → trail_settled plan given o (standing Red) ≡ of i timer phase → ⊥
  red-trail i not_red not_green e = go (is_kept_green plan given.shown o) e
    where
      go : (b : Bool) → (if b then standing Green else standing Red) ≡ of i timer phase → ⊥
      go true e = not_green (sym (same-interval _ _ e))
      go false e = not_red (sym (same-interval _ _ e))

  trail-part : (preempted : Bool) (i : OverlapInterval) → trail_settled plan given o (trail_by plan o preempted (of i timer phase) i) ≡ of i timer phase →
      trail_by plan o preempted (of i timer phase) i ≡ of i timer phase
  trail-part preempted Red e = refl
  trail-part preempted Green e = refl
  trail-part preempted Flashing e = refl
  trail-part preempted TrailGreen e = go (preempted || has_reached timer (trail_green plan o)) e
    where
      go : (b : Bool) → trail_settled plan given o (if b then begun Yellow else of TrailGreen timer phase) ≡ of TrailGreen timer phase →
          (if b then begun Yellow else of TrailGreen timer phase) ≡ of TrailGreen timer phase
      go true e = let is : Yellow ≡ TrailGreen = same-interval _ _ e in absurd cc
      go false e = refl
  trail-part preempted Yellow e = go (has_reached timer (trail_yellow plan o)) (trail_red plan o == 0) e
    where
      go : (b none : Bool) → trail_settled plan given o (if b then (if none then standing Red else begun RedClear) else of Yellow timer phase) ≡ of Yellow timer phase →
          (if b then (if none then standing Red else begun RedClear) else of Yellow timer phase) ≡ of Yellow timer phase
      go true true e = absurd (red-trail Yellow (λ f. cc) (λ f. cc) e)
      go true false e = let is : RedClear ≡ Yellow = same-interval _ _ e in absurd cc
      go false none e = refl
  trail-part preempted RedClear e = go (has_reached timer (trail_red plan o)) e
    where
      go : (b : Bool) → trail_settled plan given o (if b then standing Red else of RedClear timer phase) ≡ of RedClear timer phase →
          (if b then standing Red else of RedClear timer phase) ≡ of RedClear timer phase
      go true e = absurd (red-trail RedClear (λ f. cc) (λ f. cc) e)
      go false e = refl

part-stays : (plan : Plan) (given : Given) (preempted : Bool) (o : ℕ) (x : Overlap) → is_timed plan o ≡ true → settled plan given o (run_on plan preempted o x) ≡ x →
    run_on plan preempted o x ≡ x
unfolding run_on settled
part-stays plan given preempted o x timed e = go (is_arrow plan o) (trails plan o) e
  where
    go : (arrow trail : Bool) →
        (if arrow then arrow_settled plan given o (if arrow then arrow_by plan x x.interval else (if trail then trail_by plan o preempted x x.interval else x)) (turn_of plan o)
        else (if trail then trail_settled plan given o (if arrow then arrow_by plan x x.interval else (if trail then trail_by plan o preempted x x.interval else x))
        else (if arrow then arrow_by plan x x.interval else (if trail then trail_by plan o preempted x x.interval else x)))) ≡ x →
        (if arrow then arrow_by plan x x.interval else (if trail then trail_by plan o preempted x x.interval else x)) ≡ x
    go true trail e = arrow-part plan given o x.timer x.phase (turn_of plan o) x.interval e
    go false true e = trail-part plan given o x.timer x.phase preempted x.interval e
    go false false e = e

-- ## Ticks that may be passed over

pub still-now : (plan : Plan) (preempted : Bool) (omitted : ℕ → Bool) (lights : OverlapLights) (seen : Surroundings) (o : ℕ) (part : Part) (now : ℕ) →
    IsStill plan preempted omitted lights seen o part now now
still-now plan preempted omitted lights seen o part now = record { runs = λ e. e; settles = λ e. e }

module _ (now t : ℕ) (seen : Surroundings) (plan : Plan) (row : List ℕ) (lights : OverlapLights) (begun : 1 ≤ now) (after : now ≤ t) (by : IsBy (now - 1) row)
    (still : (o : ℕ) → 1 ≤ o → o ≤ OVERLAPS → is_timed plan o ≡ true → IsStill plan seen.is_preempted (omitted_in row) lights seen o (part_in row o) now t)
    (stands : AreStanding now (given_by now seen (omitted_in row) lights) plan row) where
  then_by : IsBy (t - 1) row
  then_by = rows-later (now - 1) (t - 1) row (omega (arith, after)) by

  then_begun : 1 ≤ t
  then_begun = omega (arith, begun, after)

  whole : (o : ℕ) → 1 ≤ o → o ≤ OVERLAPS →
      settled plan (given_by now seen (omitted_in row) lights) o (run_on plan seen.is_preempted o (overlap_of now (part_in row o))) ≡ overlap_of now (part_in row o)
  unfolding next
  whole o from to =
      ap (λ (x : Overlap). settled plan (given_by now seen (omitted_in row) lights) o (run_on plan seen.is_preempted o x)) (read-row now row o begun by from to)
      ∙ stands o from to ∙ overlap_in-part now row o from to

  ran : (o : ℕ) → 1 ≤ o → o ≤ OVERLAPS → is_timed plan o ≡ true →
      run_on plan seen.is_preempted o (overlap_of now (part_in row o)) ≡ overlap_of now (part_in row o)
  ran o from to is = part-stays plan (given_by now seen (omitted_in row) lights) seen.is_preempted o (overlap_of now (part_in row o)) is (whole o from to)

  run-then : (o : ℕ) → 1 ≤ o → o ≤ OVERLAPS → run_on plan seen.is_preempted o (overlap_of t (part_in row o)) ≡ overlap_of t (part_in row o)
  run-then o from to = elim (cases_Bool (is_timed plan o)) [
    | inl is ↦ (still o from to is).runs (ran o from to is)
    | inr not ↦ untimed-runs plan seen.is_preempted o (overlap_of t (part_in row o)) not
  ]

  settle-then : (o : ℕ) → 1 ≤ o → o ≤ OVERLAPS → settled plan (given_by t seen (omitted_in row) lights) o (overlap_of t (part_in row o)) ≡ overlap_of t (part_in row o)
  settle-then o from to = elim (cases_Bool (is_timed plan o)) [
    | inl is ↦
        (still o from to is).settles (sym (ap (settled plan (given_by now seen (omitted_in row) lights) o) (ran o from to is)) ∙ whole o from to)
    | inr not ↦ untimed-settles plan (given_by t seen (omitted_in row) lights) o (overlap_of t (part_in row o)) not
  ]

  runs : (o : ℕ) → 1 ≤ o → o ≤ OVERLAPS → overlap_in t row o ≡ run_on plan seen.is_preempted o (as_read (overlap_in (t - 1) row o))
  runs o from to =
      overlap_in-part t row o from to ∙ sym (run-then o from to)
      ∙ ap (run_on plan seen.is_preempted o) (read-row t row o then_begun then_by from to)

  settles : (o : ℕ) → 1 ≤ o → o ≤ OVERLAPS → overlap_in t row o ≡ settled plan (given_by t seen (omitted_in row) lights) o (overlap_in t row o)
  settles o from to =
      overlap_in-part t row o from to ∙ sym (settle-then o from to)
      ∙ ap (settled plan (given_by t seen (omitted_in row) lights) o) (sym (overlap_in-part t row o from to))

  pub quiet-tick : AreQuiet t (given_by t seen (omitted_in row) lights) plan row
  quiet-tick = record { runs = runs; settles = settles }
