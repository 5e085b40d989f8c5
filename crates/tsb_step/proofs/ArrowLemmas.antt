-- What a tick makes of an arrow, case by case.
use Rattle.std.proofs.Common.{◌≡◌, ℕ, Bool, true, false, ◌&&◌, if◌then◌else◌, Option, Some, None, refl, inl, inr}
use Rattle.std.proofs.lemmas.Bool.{cases_Bool}
use Rattle.tsb_cells.specs.declared.timer.Timer.{Timer}
use Rattle.tsb_cells.specs.Timer.{advanced, has_reached}
use Rattle.tsb_types.specs.Intervals.{is_green}
use Rattle.tsb_types.specs.Lists.{first}
use Rattle.tsb_objects.specs.tsb_plan.Plan.{Plan, phases, yellow_change}
use Rattle.tsb_objects.specs.tsb_plan.Parts.{is_arrow, is_included}
use Rattle.tsb_overlap.specs.declared.parts.OverlapInterval.{OverlapInterval}
use Rattle.tsb_overlap.specs.declared.parts.OverlapInterval.TheVariants.{Red, Green, TrailGreen, Flashing, Yellow, RedClear}
use Rattle.tsb_overlap.specs.Overlap.{Overlap, Given, standing, yellow_of, as_read, arrow_by, run_on, turn_of, may_flash, ended_flash, unturned, settled, next}

-- its yellow, if it is in it, has passed or has not
abbrev pub YellowIs : Plan → Overlap → Bool → Type 0
YellowIs plan x b = (q : ℕ) → x.phase ≡ Some q → has_reached (as_read x).timer (yellow_change plan q) ≡ b

-- what is red after a tick was not lit, or was yellow, and its yellow has passed
pub record EndsLate (plan : Plan) (x : Overlap) : Type 0 where
  pub green : x.interval ≡ Green → ⊥
  pub flashing : x.interval ≡ Flashing → ⊥
  pub yellow : x.interval ≡ Yellow → YellowIs plan x true

pub data BecomesArrow (plan : Plan) (given : Given) (o t : ℕ) (x y : Overlap) : Type 0 where
  turns : is_green (given.shown.interval t) ≡ true → y ≡ standing Green → BecomesArrow plan given o t x y
  flashes : is_green (given.shown.interval t) ≡ false → may_flash plan given o t ≡ true → y ≡ standing Flashing → BecomesArrow plan given o t x y
  stops : EndsLate plan x → y ≡ standing Red → BecomesArrow plan given o t x y
  ends_green : x.interval ≡ Green → is_green (given.shown.interval t) ≡ false → y ≡ yellow_of t → BecomesArrow plan given o t x y
  ends_flash : x.interval ≡ Flashing → is_green (given.shown.interval t) ≡ false →
      y ≡ ended_flash t (first (λ p. is_included plan o p && given.was_green p) (phases plan)) → BecomesArrow plan given o t x y
  goes_on : x.interval ≡ Yellow → YellowIs plan x false → y ≡ as_read x → BecomesArrow plan given o t x y

module _ (plan : Plan) (given : Given) (o t : ℕ) where
  -- where the turn is Green, and where it is not
  turned_or : (x z : Overlap) → (is_green (given.shown.interval t) ≡ false → BecomesArrow plan given o t x z) →
      BecomesArrow plan given o t x (if is_green (given.shown.interval t) then standing Green else z)
  turned_or x z other =
      elim (cases_Bool (is_green (given.shown.interval t))) [
        | inl e ↦ rw e (turns e refl)
        | inr e ↦ rw e (other e)
      ]

  flash_or : (x z : Overlap) → is_green (given.shown.interval t) ≡ false → BecomesArrow plan given o t x z →
      BecomesArrow plan given o t x (if may_flash plan given o t then standing Flashing else z)
  flash_or x z off other =
      elim (cases_Bool (may_flash plan given o t)) [
        | inl e ↦ rw e (flashes off e refl)
        | inr e ↦ rw e other
      ]

  -- what it is after the tick, of what it was
  abbrev after : Overlap → Overlap
  after x =
      if is_green (given.shown.interval t) then standing Green
      else unturned plan given o t (arrow_by plan (as_read x) x.interval) (arrow_by plan (as_read x) x.interval).interval

  unlit : (i : OverlapInterval) → i ≡ Red → (timer : Timer) (phase : Option ℕ) → EndsLate plan (record { interval = i; timer = timer; phase = phase })
  unlit Red e timer phase = record { green = λ h. cc; flashing = λ h. cc; yellow = λ h. absurd cc }
  unlit Green e timer phase = cc
  unlit TrailGreen e timer phase = cc
  unlit Flashing e timer phase = cc
  unlit Yellow e timer phase = cc
  unlit RedClear e timer phase = cc

  by_interval : (i : OverlapInterval) (timer : Timer) (phase : Option ℕ) →
      BecomesArrow plan given o t (record { interval = i; timer = timer; phase = phase }) (after (record { interval = i; timer = timer; phase = phase }))
  by_interval Red timer phase =
      turned_or (record { interval = Red; timer = timer; phase = phase }) _ (λ off. flash_or (record { interval = Red; timer = timer; phase = phase }) _ off
      (stops (unlit Red refl timer phase) refl))
  by_interval Green timer phase =
      turned_or (record { interval = Green; timer = timer; phase = phase }) _ (λ off. ends_green refl off refl)
  by_interval TrailGreen timer phase =
      turned_or (record { interval = TrailGreen; timer = timer; phase = phase }) _ (λ off. flash_or (record { interval = TrailGreen; timer = timer; phase = phase }) _ off
      (stops (record { green = λ h. cc; flashing = λ h. cc; yellow = λ h. absurd cc }) refl))
  by_interval Flashing timer phase =
      turned_or (record { interval = Flashing; timer = timer; phase = phase }) _ (λ off. flash_or (record { interval = Flashing; timer = timer; phase = phase }) _ off
      (ends_flash refl off refl))
  by_interval RedClear timer phase =
      turned_or (record { interval = RedClear; timer = timer; phase = phase }) _ (λ off. flash_or (record { interval = RedClear; timer = timer; phase = phase }) _ off
      (stops (record { green = λ h. cc; flashing = λ h. cc; yellow = λ h. absurd cc }) refl))
  by_interval Yellow timer None =
      turned_or (record { interval = Yellow; timer = timer; phase = None }) _ (λ off. goes_on refl (λ q h. absurd cc) refl)
  by_interval Yellow timer (Some p) =
      elim (cases_Bool (has_reached (advanced timer) (yellow_change plan p))) [
        | inl e ↦ rw e (turned_or x _ (λ off. flash_or x _ off (stops (record { green = λ h. cc; flashing = λ h. cc; yellow = λ h. own true e }) refl)))
        | inr e ↦ rw e (turned_or x _ (λ off. goes_on refl (own false e) refl))
      ]
    where
      x : Overlap
      x = record { interval = Yellow; timer = timer; phase = Some p }

      own : (b : Bool) → has_reached (advanced timer) (yellow_change plan p) ≡ b → YellowIs plan (record { interval = Yellow; timer = timer; phase = Some p }) b
      own b e q h = let same : p ≡ q = cc in rw (← same) e

pub arrow_after : (plan : Plan) (given : Given) (f : ℕ → Overlap) (o t : ℕ) → is_arrow plan o ≡ true → turn_of plan o ≡ Some t →
    BecomesArrow plan given o t (f o) (next plan given f o)
unfolding next settled run_on
arrow_after plan given f o t arrow turn = rw (arrow, turn) (by_interval plan given o t (f o).interval (f o).timer (f o).phase)
