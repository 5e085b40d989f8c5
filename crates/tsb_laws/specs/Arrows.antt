-- Arrows and overlaps that trail, in every run: when an arrow flashes, beside what it is green, how it turns red, and which
-- phases go with it. The laws here are the contracts of functions in src/arrows.rt, and proved there.
use Rattle.std.specs.Prelude.{◌≡◌, ℕ, List, ◌∷◌, true, false, None, Some, ◌⊎◌}
use Rattle.tsb_step.specs.tsb_types.declared.interval.Interval.TheVariants as intervals
use Rattle.tsb_step.specs.tsb_types.declared.lamp.Aspect.TheVariants as aspects
use Rattle.tsb_step.specs.tsb_types.Intervals.{in_service}
use Rattle.tsb_step.specs.tsb_plan.Parts.{is_arrow, is_included, is_modifier, is_timed}
use Rattle.tsb_step.specs.tsb_plan.Plan.{Plan}
use Rattle.tsb_step.specs.tsb_heads.Monitoring.{has_way}
use Rattle.tsb_step.specs.tsb_overlap.Overlap.{turn_of}
use Rattle.tsb_step.specs.tsb_ring.Laws.{Agree}
use Rattle.tsb_step.specs.tsb_ring.Rings.{Ring}
use Rattle.tsb_step.specs.declared.inputs.Input.{Input}
use Rattle.tsb_step.specs.State.{State, interval}
use Rattle.tsb_step.specs.Signs.{display}
use Rattle.tsb_step.specs.Step.{is_serving, verdict}
use Rattle.tsb_step.specs.Runs.{replay}
use Rattle.tsb_step.specs.Laws.{OfEveryRun}
use Rattle.tsb_step.specs.TimeLaws.{OfEveryUntrippedRun}
use Rattle.tsb_laws.specs.LitHeads.{is_lit, StaysOrClears}

-- a phase that arrow o includes is Green; its turn is Red, and next in no ring
pub record MayFlash (s : State) (o : ℕ) : Type 0 where
  pub phase : ℕ
  pub included : is_included s.plan o phase ≡ true
  pub green : interval s phase ≡ intervals.Green
  pub turn : (t : ℕ) → turn_of s.plan o ≡ Some t → interval s t ≡ intervals.Red
  pub next : (r : Ring) (t : ℕ) → turn_of s.plan o ≡ Some t → s.rings.commitment r ≡ Some t → ⊥

-- an arrow that flashes may do so
abbrev pub FlashesByPermission : State → Type 0
FlashesByPermission s = (o : ℕ) → is_arrow s.plan o ≡ true → (display s).overlap o ≡ aspects.FlashingYellow → MayFlash s o

-- So it is after every run.
abbrev pub ArrowsFlashByPermissions : Type 0
ArrowsFlashByPermissions = OfEveryRun FlashesByPermission

-- The turn of an arrow that is green is Green, and no phase that it includes is in service: never a green arrow beside an
-- opposing through.
pub record IsProtected (s : State) (o : ℕ) : Type 0 where
  pub turn : (t : ℕ) → turn_of s.plan o ≡ Some t → interval s t ≡ intervals.Green
  pub opposed : (p : ℕ) → is_included s.plan o p ≡ true → in_service (interval s p) ≡ false

-- so is each that is green
abbrev pub ProtectsGreenArrows : State → Type 0
ProtectsGreenArrows s = (o : ℕ) → is_arrow s.plan o ≡ true → (display s).overlap o ≡ aspects.Green → IsProtected s o

-- So it is after every run.
abbrev pub GreenArrowsAreProtected : Type 0
GreenArrowsAreProtected = OfEveryRun ProtectsGreenArrows

-- A phase that arrow o includes, or its turn, is in service. So each phase in service, and each with right of way, is that
-- phase or concurrent with it.
pub record ArrowGoesWithPhases (s : State) (o : ℕ) : Type 0 where
  pub phase : ℕ
  pub by : (is_included s.plan o phase ≡ true) ⊎ (is_modifier s.plan o phase ≡ true)
  pub serves : in_service (interval s phase) ≡ true
  pub together : (q : ℕ) → in_service (interval s q) ≡ true → Agree s.plan phase q
  pub ways : (q : ℕ) → has_way s.plan (display s) q ≡ true → Agree s.plan phase q

-- so does each that is lit
abbrev pub ShowsArrowsWithPhases : State → Type 0
ShowsArrowsWithPhases s = (o : ℕ) → is_arrow s.plan o ≡ true → is_lit ((display s).overlap o) ≡ true → ArrowGoesWithPhases s o

-- So it is after every run. Overlaps that trail are among those of `OverlapsGoWithPhases`.
abbrev pub ArrowsGoWithPhases : Type 0
ArrowsGoWithPhases = OfEveryRun ShowsArrowsWithPhases

-- an arrow, or an overlap that trails, is lit over an input of any kind that is taken; or it turns red in a tick and has shown
-- yellow for the last 30
abbrev pub ClearsTimedOverlaps : Plan → List Input → Type 0
ClearsTimedOverlaps plan is = (i : Input) (o : ℕ) → verdict (replay plan is) i ≡ None → (replay plan (i ∷ is)).trip ≡ None →
    is_timed (replay plan is).plan o ≡ true → is_lit ((display (replay plan is)).overlap o) ≡ true →
    (is_lit ((display (replay plan (i ∷ is))).overlap o) ≡ true) ⊎ StaysOrClears (λ s. (display s).overlap o) plan is i

-- So it is where the controller has not tripped.
abbrev pub TimedOverlapsClearInYellow : Type 0
TimedOverlapsClearInYellow = OfEveryUntrippedRun ClearsTimedOverlaps

-- where the rings do not serve, no overlap is lit
abbrev pub LeavesIdleUnlit : State → Type 0
LeavesIdleUnlit s = (o : ℕ) → s.trip ≡ None → is_serving s ≡ false → is_lit ((display s).overlap o) ≡ false

-- So it is after every run: a commit of the structure finds none that is lit.
abbrev pub IdleOverlapsAreUnlit : Type 0
IdleOverlapsAreUnlit = OfEveryRun LeavesIdleUnlit
