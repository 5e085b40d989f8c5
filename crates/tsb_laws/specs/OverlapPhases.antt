-- Overlaps go with their phases: what the head of an overlap shows comes of a phase that it includes and that is in
-- service. It leaves green only as such a phase does, and with `overlapAcrossRings` not between two phases that follow
-- one another over the barrier. The laws here are contracts of functions in src/operation.rt, and proved there.
use Rattle.std.specs.Prelude.{◌≡◌, ℕ, true, false, not, ◌||◌, Some, None}
use Rattle.tsb_step.specs.tsb_types.declared.interval.Interval.TheVariants.{Green, Yellow}
use Rattle.tsb_step.specs.tsb_types.declared.lamp.Aspect.TheVariants as aspects
use Rattle.tsb_step.specs.tsb_types.declared.row.Row.{Row}
use Rattle.tsb_step.specs.tsb_types.Intervals.{is_yellow, is_red_clear, in_service}
use Rattle.tsb_step.specs.tsb_plan.Parts.{is_arrow, is_included, is_minus_green_yellow, is_timed, overlaps_across_rings, trails}
use Rattle.tsb_step.specs.tsb_plan.Plan.{is_concurrent}
use Rattle.tsb_step.specs.tsb_heads.Monitoring.{gives_way, has_right_of_way}
use Rattle.tsb_step.specs.tsb_heads.Overlaps.{is_kept_green}
use Rattle.tsb_step.specs.tsb_overlap.declared.parts.OverlapInterval.TheVariants as overlaps
use Rattle.tsb_step.specs.tsb_ring.Laws.{Agree}
use Rattle.tsb_step.specs.tsb_ring.Rings.{Ring, other, in_ring}
use Rattle.tsb_step.specs.declared.inputs.Input.TheVariants.{Tick}
use Rattle.tsb_step.specs.State.{State, interval}
use Rattle.tsb_step.specs.Signs.{display, shown}
use Rattle.tsb_step.specs.Step.{step}
use Rattle.tsb_step.specs.Laws.{OfEveryRun}

-- A phase that overlap o includes is in service. So each phase in service, and each with right of way, is that phase or
-- concurrent with it.
pub record GoesWithPhases (s : State) (o : ℕ) : Type 0 where
  pub phase : ℕ
  pub included : is_included s.plan o phase ≡ true
  pub serves : in_service (interval s phase) ≡ true
  pub together : (q : ℕ) → in_service (interval s q) ≡ true → Agree s.plan phase q
  pub ways : (q : ℕ) → has_right_of_way (display s) q ≡ true → Agree s.plan phase q

-- So it is after every run of each overlap whose head is green or yellow, and which is no arrow. Those have a law of their
-- own (Arrows).
abbrev pub OverlapsGoWithPhases : Type 0
OverlapsGoWithPhases = OfEveryRun (λ s. (o : ℕ) → is_arrow s.plan o ≡ false → gives_way ((display s).overlap o) ≡ true → GoesWithPhases s o)

-- a tick ends the green of a phase that overlap o includes
pub record EndsAGreen (s : State) (row : Row) (o : ℕ) : Type 0 where
  pub phase : ℕ
  pub included : is_included s.plan o phase ≡ true
  pub was : interval s phase ≡ Green
  pub now : interval (step s (Tick row)) phase ≡ Yellow

-- A tick that turns the head of a normal overlap from green to yellow is such a tick, where the overlap does not trail.
abbrev pub OverlapsEndWithAGreen : Type 0
OverlapsEndWithAGreen = OfEveryRun (λ s. (row : Row) (o : ℕ) → is_timed s.plan o ≡ false → is_minus_green_yellow s.plan o ≡ false →
    (display s).overlap o ≡ aspects.Green → (display (step s (Tick row))).overlap o ≡ aspects.Yellow → EndsAGreen s row o)

-- One in which an overlap begins to trail is such a tick too.
abbrev pub TrailsBeginWithAGreen : Type 0
TrailsBeginWithAGreen = OfEveryRun (λ s. (row : Row) (o : ℕ) → s.trip ≡ None → trails s.plan o ≡ true → (s.overlaps o).interval ≡ overlaps.Green →
    is_kept_green (step s (Tick row)).plan (shown (step s (Tick row))) o ≡ false → EndsAGreen s row o)

-- an included phase clears, its ring is committed, and the other ring to an included phase with which it is not
-- concurrent: both rings cross the barrier
pub record GoesOver (s : State) (o : ℕ) : Type 0 where
  pub option : overlaps_across_rings s.plan o ≡ true
  pub ring : Ring
  pub from : ℕ
  pub own : in_ring s.plan ring from ≡ true
  pub included : is_included s.plan o from ≡ true
  pub clears : (is_yellow (interval s from) || is_red_clear (interval s from)) ≡ true
  pub beside : ℕ
  pub commits : s.rings.commitment ring ≡ Some beside
  pub to : ℕ
  pub crosses : s.rings.commitment (other ring) ≡ Some to
  pub comes : is_included s.plan o to ≡ true
  pub apart : not (is_concurrent s.plan to from) ≡ true

-- the head of overlap o is green, and it is green after a tick too, which trips nothing
pub record StaysGreen (s : State) (o : ℕ) : Type 0 where
  pub green : (display s).overlap o ≡ aspects.Green
  pub later : (row : Row) → (step s (Tick row)).trip ≡ None → (display (step s (Tick row))).overlap o ≡ aspects.Green

-- So it is with a normal overlap that has `overlapAcrossRings`, from the commitments on until the other phase is Green, where
-- it does not trail. One that does may be in a yellow of its own then.
abbrev pub OverlapsLastAcrossRings : Type 0
OverlapsLastAcrossRings = OfEveryRun (λ s. (o : ℕ) → s.trip ≡ None → is_timed s.plan o ≡ false → is_minus_green_yellow s.plan o ≡ false → GoesOver s o → StaysGreen s o)
