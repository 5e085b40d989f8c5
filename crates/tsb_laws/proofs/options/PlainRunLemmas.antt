-- A run in which the options are 0 is that of the controller without options. Proves `options_off_run_as_without`.
use Rattle.std.proofs.Common.{◌≡◌, ℕ, ◌+◌, Bool, true, false, if◌then◌else◌, List, [], ◌∷◌, Option, Some, is_some, option_map, refl, sym, ap, ap₂, subst, ◌∙◌}
use Rattle.tsb_step.specs.tsb_types.declared.lamp.Lamp.{Lamp}
use Rattle.tsb_step.specs.tsb_types.declared.row.Row.{Row}
use Rattle.tsb_step.specs.tsb_plan.Plan.{Plan}
use Rattle.tsb_step.specs.tsb_rules.declared.rules.Rule.{Rule}
use Rattle.tsb_step.specs.tsb_heads.declared.monitor.Trip.{Trip}
use Rattle.tsb_step.specs.tsb_heads.Displays.{flashing, laid_over}
use Rattle.tsb_step.specs.tsb_heads.Heads.{Heads}
use Rattle.tsb_step.specs.tsb_heads.Monitoring as monitor
use Rattle.tsb_step.specs.tsb_phase.Phase.{Phase, at_power_up}
use Rattle.tsb_step.specs.tsb_phase.Moves.{unforced}
use Rattle.tsb_step.specs.tsb_coord.declared.correction.Correction.{Correction}
use Rattle.tsb_step.specs.tsb_coord.Clock.{midnight_at, start_of}
use Rattle.tsb_step.specs.tsb_coord.Coordinated.{selects}
use Rattle.tsb_step.specs.tsb_coord.Correction.{clocked}
use Rattle.tsb_step.specs.tsb_transact.Calls as desk
use Rattle.tsb_step.specs.tsb_transact.Desk.{with_edits}
use Rattle.tsb_step.specs.declared.inputs.Input.{Input}
use Rattle.tsb_step.specs.declared.inputs.Input.TheVariants as inputs
use Rattle.tsb_step.specs.State.{State, restarted}
use Rattle.tsb_step.specs.Signs.{shown, display, field, local, watched}
use Rattle.tsb_step.specs.Step.{step, ticked, with_pattern, with_clock, with_lamp, with_desk}
use Rattle.tsb_step.specs.Runs.{replay}
use Rattle.tsb_step.specs.Tick as tick
use Rattle.tsb_laws.specs.Options.{OptionsOff}
use Rattle.tsb_laws.specs.PlainStep as plain
use Rattle.tsb_laws.specs.WithoutOptions.{HasEachAtZero, SetNoOption, ShowsTheSameWithoutOptions}
use Rattle.tsb_laws.proofs.operation.pattern.OptionsOffLemmas.{options-off}
use Rattle.tsb_laws.proofs.options.PlainPartLemmas.{IsStill, rules_agree, ordered_agrees, judges_agree}
use Rattle.tsb_laws.proofs.options.PlainTickLemmas.{AreStill, local_agrees, next_same}
use Rattle.tsb_laws.proofs.options.SilentLemmas.{IsSilent, edits_silent, run_silent}

-- ## What is shown, and the monitor

fields_agree : (s : State) → HasEachAtZero s.plan → field s ≡ plain.field s
unfolding field plain.field
fields_agree s off = ap (λ (h : Heads). laid_over s.lamp h) (ordered_agrees s.plan off (shown s))

displays_agree : (s : State) → HasEachAtZero s.plan → display s ≡ plain.display s
unfolding display plain.display
displays_agree s off = ap (λ (h : Heads). if is_some s.trip then flashing h else h) (ordered_agrees s.plan off (shown s))

watched_agree : (before after : State) → HasEachAtZero before.plan → HasEachAtZero after.plan → watched before after ≡ plain.watched before after
unfolding watched plain.watched
watched_agree before after old new =
    ap₂ (λ (x y : Heads). record after {
      trip = option_map (λ cause. record { cause = cause; tick = after.now }) (monitor.judge after.plan x y);
    }) (fields_agree before old) (fields_agree after new)
    ∙ ap (λ (t : Option Trip). record after { trip = option_map (λ cause. record { cause = cause; tick = after.now }) t })
    (judges_agree after.plan new (plain.field before) (plain.field after))

-- ## Each input

ticks_agree : (s : State) (row : Row) → HasEachAtZero s.plan → AreStill s → ticked row s ≡ plain.ticked row s
ticks_agree s row none still = go (is_some s.trip)
  where
    go : (b : Bool) → (if b then record s { now = s.now + 1 } else (if b then tick.next s row else watched s (tick.next s row)))
        ≡ (if b then record s { now = s.now + 1 } else plain.watched s (plain.next s row))
    go true = refl
    go false = ap (λ (t : State). watched s t) (next_same s row none still) ∙ watched_agree s (plain.next s row) none none

lamps_agree : (s : State) (lamp : Option Lamp) → HasEachAtZero s.plan → with_lamp lamp s ≡ plain.with_lamp lamp s
lamps_agree s lamp none = go (is_some s.trip)
  where
    go : (b : Bool) → (if b then record s { lamp = lamp } else watched s (record s { lamp = lamp }))
        ≡ (if b then record s { lamp = lamp } else plain.watched s (record s { lamp = lamp }))
    go true = refl
    go false = watched_agree s (record s { lamp = lamp }) none none

patterns_agree : (s : State) (n : ℕ) → OptionsOff s.plan → with_pattern n s ≡ plain.with_pattern n s
patterns_agree s n off =
    ap (λ (c : Correction). record (plain.with_pattern n s) { correction = c }) (off.begun (selects n) s.now (midnight_at s.start_moment s.now) (local s))

clocks_agree : (s : State) (m : ℕ) → OptionsOff s.plan → with_clock m s ≡ plain.with_clock m s
clocks_agree s m off =
    ap (λ (c : Correction). record (plain.with_clock m s) { correction = c })
    (off.begun s.pattern s.now (midnight_at (Some (start_of m s.now)) s.now) (local s))

step_agrees : (s : State) (i : Input) → HasEachAtZero s.plan → HasEachAtZero (with_edits s.plan s.desk.edits) → AreStill s →
    step s i ≡ plain.step s i
unfolding step plain.step
step_agrees s (inputs.Tick row) none edits still = ticks_agree s row none still
step_agrees s (inputs.Pattern n) none edits still = patterns_agree s n (options-off s.plan none.options)
step_agrees s (inputs.Clock m) none edits still = clocks_agree s m (options-off s.plan none.options)
step_agrees s (inputs.Fault lamp) none edits still = lamps_agree s lamp none
step_agrees s (inputs.Verify station) none edits still =
    ap (λ (r : Option Rule). with_desk (desk.after_check r s.desk) s) (rules_agree (with_edits s.plan s.desk.edits) edits)
step_agrees s i none edits still = refl

-- ## Runs without options keep no dynamic maximum

of_power_up : IsStill at_power_up
of_power_up = record { running_maximum = refl; last_ending = refl }

-- what a phase keeps of it is what it kept
as_still : (x y : Phase) → y.running_maximum ≡ x.running_maximum → y.last_ending ≡ x.last_ending → IsStill x → IsStill y
as_still x y running last still = record { running_maximum = running ∙ still.running_maximum; last_ending = last ∙ still.last_ending }

still_step : (s : State) (i : Input) → AreStill s → AreStill (plain.step s i)
unfolding plain.step plain.watched
still_step s (inputs.Tick row) still = go (is_some s.trip)
  where
    go : (b : Bool) → AreStill (if b then record s { now = s.now + 1 } else plain.watched s (plain.next s row))
    go true = record { phases = still.phases; overlaps = still.overlaps }
    go false = record {
      phases = λ p. as_still (s.phases p) ((plain.next s row).phases p) refl refl (still.phases p);
      overlaps = still.overlaps;
    }
still_step s (inputs.Pattern n) still = record {
  phases = λ p. as_still (s.phases p) (unforced (s.phases p)) refl refl (still.phases p);
  overlaps = still.overlaps;
}
still_step s (inputs.Fault lamp) still = go (is_some s.trip)
  where
    go : (b : Bool) → AreStill (if b then record s { lamp = lamp } else plain.watched s (record s { lamp = lamp }))
    go true = record { phases = still.phases; overlaps = still.overlaps }
    go false = record { phases = still.phases; overlaps = still.overlaps }
still_step s inputs.Reset still = go (is_some s.trip)
  where
    go : (b : Bool) → AreStill (if b then restarted s else s)
    go true = record { phases = λ p. of_power_up; overlaps = λ o. refl }
    go false = still
still_step s i still = record { phases = still.phases; overlaps = still.overlaps }

still_run : (plan : Plan) (is : List Input) → AreStill (plain.replay plan is)
still_run plan [] = record { phases = λ p. of_power_up; overlaps = λ o. refl }
still_run plan (i ∷ is) = still_step (plain.replay plan is) i (still_run plan is)

-- ## Runs

pub runs_agree : (plan : Plan) (is : List Input) → HasEachAtZero plan → SetNoOption is → replay plan is ≡ plain.replay plan is
runs_agree plan [] none sets = refl
runs_agree plan (i ∷ is) none sets =
    let before : IsSilent (replay plan is) = run_silent plan is none sets.1 in
    let same : replay plan is ≡ plain.replay plan is = runs_agree plan is none sets.1 in
    step_agrees (replay plan is) i before.plan
    (edits_silent (replay plan is).desk.edits (replay plan is).plan before.plan before.edits)
    (subst AreStill (sym same) (still_run plan is))
    ∙ ap (λ (s : State). plain.step s i) same

pub shows_agree : (plan : Plan) (is : List Input) → HasEachAtZero plan → SetNoOption is → ShowsTheSameWithoutOptions (replay plan is)
shows_agree plan is none sets =
    let s : State = replay plan is in
    let zero : HasEachAtZero s.plan = (run_silent plan is none sets).plan in
    let off : OptionsOff s.plan = options-off s.plan zero.options in
    record {
      heads = displays_agree s zero;
      lamps = fields_agree s zero;
      counter = off.counting s.pattern s.correction s.now ∙ local_agrees s.plan off (clocked s.plan s.pattern s.correction s.now) s.pattern;
      in_step = off.stepped s.pattern s.correction s.now;
    }
