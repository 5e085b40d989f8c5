-- What a tick makes of an overlap that trails, case by case.
use Rattle.std.proofs.Common.{◌≡◌, ℕ, ◌==◌, true, false, ◌&&◌, ◌||◌, if◌then◌else◌, Option, refl, inl, inr, ◌⊎◌}
use Rattle.std.proofs.lemmas.Bool.{cases_Bool}
use Rattle.tsb_cells.specs.declared.timer.Timer.{Timer}
use Rattle.tsb_cells.specs.Timer.{advanced, has_reached}
use Rattle.tsb_objects.specs.tsb_plan.Plan.{Plan}
use Rattle.tsb_objects.specs.tsb_plan.Parts.{is_arrow, trails, trail_green, trail_yellow, trail_red}
use Rattle.tsb_heads.specs.Overlaps.{is_kept_green}
use Rattle.tsb_overlap.specs.declared.parts.OverlapInterval.{OverlapInterval}
use Rattle.tsb_overlap.specs.declared.parts.OverlapInterval.TheVariants.{Red, Green, TrailGreen, Flashing, Yellow, RedClear}
use Rattle.tsb_overlap.specs.Overlap.{Overlap, Given, standing, begun, as_read, trail_by, run_on, is_trailing, may_be_kept, left_alone, settled, next}

-- its yellow has passed
abbrev pub YellowHasPassed : Plan → ℕ → Overlap → Type 0
YellowHasPassed plan o x = has_reached (as_read x).timer (trail_yellow plan o) ≡ true

-- as the tick begins it is not off
abbrev pub Holds : Plan → Given → ℕ → Overlap → Type 0
Holds plan given o x = is_trailing (trail_by plan o given.preempted (as_read x) x.interval).interval ≡ true

-- what is off after a tick was not green
pub record EndsLate (plan : Plan) (o : ℕ) (x : Overlap) : Type 0 where
  pub green : x.interval ≡ Green → ⊥
  pub trailing : x.interval ≡ TrailGreen → ⊥
  pub yellow : x.interval ≡ Yellow → YellowHasPassed plan o x

pub data BecomesTrail (plan : Plan) (given : Given) (o : ℕ) (x y : Overlap) : Type 0 where
  stays_green : is_kept_green plan given.shown o ≡ true → y ≡ standing Green → BecomesTrail plan given o x y
  stops : EndsLate plan o x → y.interval ≡ Red → BecomesTrail plan given o x y
  begins : x.interval ≡ Green → is_kept_green plan given.shown o ≡ false → (y ≡ begun TrailGreen) ⊎ (y ≡ begun Yellow) → BecomesTrail plan given o x y
  goes_on : is_trailing x.interval ≡ true → Holds plan given o x → y ≡ as_read x → BecomesTrail plan given o x y
  yellow_begins : x.interval ≡ TrailGreen → Holds plan given o x → y ≡ begun Yellow → BecomesTrail plan given o x y
  red_begins : x.interval ≡ Yellow → YellowHasPassed plan o x → Holds plan given o x → y ≡ begun RedClear → BecomesTrail plan given o x y
  flashes : x.interval ≡ Flashing → BecomesTrail plan given o x y

module _ (plan : Plan) (given : Given) (o : ℕ) where
  kept_or : (x z : Overlap) → (is_kept_green plan given.shown o ≡ false → BecomesTrail plan given o x z) →
      BecomesTrail plan given o x (if is_kept_green plan given.shown o then standing Green else z)
  kept_or x z other =
      elim (cases_Bool (is_kept_green plan given.shown o)) [
        | inl e ↦ rw e (stays_green e refl)
        | inr e ↦ rw e (other e)
      ]

  abbrev run : Overlap → Overlap
  run x = trail_by plan o given.preempted (as_read x) x.interval

  abbrev settled_of : Overlap → Overlap
  settled_of z = if may_be_kept z.interval && is_kept_green plan given.shown o then standing Green else left_alone given z z.interval

  abbrev after : Overlap → Overlap
  after x = settled_of (run x)

  by_interval : (i : OverlapInterval) (timer : Timer) (phase : Option ℕ) →
      BecomesTrail plan given o (record { interval = i; timer = timer; phase = phase }) (after (record { interval = i; timer = timer; phase = phase }))
  by_interval Red timer phase =
      kept_or (record { interval = Red; timer = timer; phase = phase }) _
      (λ off. stops (record { green = λ h. cc; trailing = λ h. cc; yellow = λ h. absurd cc }) refl)
  by_interval Green timer phase =
      kept_or (record { interval = Green; timer = timer; phase = phase }) _ (λ off. ends off (cases_Bool given.preempted))
    where
      ends : is_kept_green plan given.shown o ≡ false → (given.preempted ≡ true) ⊎ (given.preempted ≡ false) →
          BecomesTrail plan given o (record { interval = Green; timer = timer; phase = phase }) (if given.preempted then begun Yellow else begun TrailGreen)
      ends off (inl e) = rw e (begins refl off (inr refl))
      ends off (inr e) = rw e (begins refl off (inl refl))
  by_interval TrailGreen timer phase =
      elim (cases_Bool (given.preempted || has_reached (advanced timer) (trail_green plan o))) [
        | inl e ↦ rw e (yellow_begins refl (rw e refl) refl)
        | inr e ↦ rw e (kept_or (record { interval = TrailGreen; timer = timer; phase = phase }) _ (λ off. goes_on refl (rw e refl) refl))
      ]
  by_interval Flashing timer phase = flashes refl
  by_interval Yellow timer phase =
      elim (cases_Bool (has_reached (advanced timer) (trail_yellow plan o))) [
        | inl e ↦ rw e (ended e (cases_Bool (trail_red plan o == 0)))
        | inr e ↦ rw e (goes_on refl (rw e refl) refl)
      ]
    where
      x : Overlap
      x = record { interval = Yellow; timer = timer; phase = phase }

      ended : has_reached (advanced timer) (trail_yellow plan o) ≡ true → ((trail_red plan o == 0) ≡ true) ⊎ ((trail_red plan o == 0) ≡ false) →
          BecomesTrail plan given o (record { interval = Yellow; timer = timer; phase = phase })
          (settled_of (if trail_red plan o == 0 then standing Red else begun RedClear))
      ended e (inl none) = rw none (kept_or x _ (λ off. stops (record { green = λ h. cc; trailing = λ h. cc; yellow = λ h. e }) refl))
      ended e (inr some) = rw some (red_begins refl e (rw (e, some) refl) refl)
  by_interval RedClear timer phase =
      elim (cases_Bool (has_reached (advanced timer) (trail_red plan o))) [
        | inl e ↦ rw e (kept_or (record { interval = RedClear; timer = timer; phase = phase }) _
            (λ off. stops (record { green = λ h. cc; trailing = λ h. cc; yellow = λ h. absurd cc }) refl))
        | inr e ↦ rw e (goes_on refl (rw e refl) refl)
      ]

pub trail_after : (plan : Plan) (given : Given) (f : ℕ → Overlap) (o : ℕ) → is_arrow plan o ≡ false → trails plan o ≡ true →
    BecomesTrail plan given o (f o) (next plan given f o)
unfolding next settled run_on
trail_after plan given f o normal trailing = rw (normal, trailing) (by_interval plan given o (f o).interval (f o).timer (f o).phase)
