-- The contracts of the public calls of `Controller`, clause by clause, over its rows: `old` before a call, `new` after
-- it.
use Rattle.std.specs.Prelude.{◌≡◌, ℕ, ◌-◌, Bool, Option, None, is_some, option_map}
use Rattle.tsb_step.specs.tsb_types.declared.lamp.Lamp.{Lamp}
use Rattle.tsb_step.specs.tsb_types.declared.row.Row.{Row}
use Rattle.tsb_step.specs.tsb_types.declared.stage.Stage.{Stage}
use Rattle.tsb_step.specs.tsb_types.declared.number_set.NumberSet.{NumberSet}
use Rattle.tsb_step.specs.tsb_types.Sets.{has_number}
use Rattle.tsb_step.specs.tsb_plan.Plan.{Plan}
use Rattle.tsb_objects.specs.declared.checked.Checked.{Checked}
use Rattle.tsb_objects.specs.Checked.{checked_plan}
use Rattle.tsb_ring.specs.Rings.{forgotten}
use Rattle.tsb_heads.specs.declared.display.Display.{Display}
use Rattle.tsb_heads.specs.declared.field.Field.{Field}
use Rattle.tsb_heads.specs.declared.monitor.Trip.{Trip}
use Rattle.tsb_heads.specs.Promises.{IsSame}
use Rattle.tsb_heads.specs.Reading.{heads_of, heads_of_field}
use Rattle.tsb_transact.specs.Desk.{Desk, closed}
use Rattle.tsb_step.specs.Cells.{clock_at}
use Rattle.tsb_step.specs.Signs.{display, field, local, stage}
use Rattle.tsb_step.specs.State.{start, restarted}
use Rattle.tsb_step.specs.Step.{ticked, with_pattern, with_clock, with_switch, with_lamp, is_serving}
use Rattle.tsb_step.specs.Tick.{next}
use Rattle.tsb_controller.specs.Rows.{Rows, Beside, AreBy, untripped, state_of}

-- `new`: the state is that of power-up
abbrev pub IsAtPowerUp : Rows → Type 0
IsAtPowerUp new = (plan : Plan) → state_of 0 (untripped plan closed None) new ≡ start plan

-- ## Ticks and the monitor

-- `tick(now, row, plan)`, clause `state`: whatever the desk and the lamp, the state is the next of the one that was
abbrev pub IsTicked : ℕ → Row → Plan → Rows → Rows → Type 0
IsTicked now row plan old new = (desk : Desk) (lamp : Option Lamp) →
    state_of now (untripped plan desk lamp) new ≡ next (state_of (now - 1) (untripped plan desk lamp) old) row

-- `display(tripped, plan)`: what the heads of the definitions show
abbrev pub ShowsDisplay : Plan → Bool → Rows → Display → Type 0
ShowsDisplay plan tripped rows result = (now : ℕ) (b : Beside) → b.plan ≡ plan → is_some b.trip ≡ tripped →
    IsSame (heads_of result) (display (state_of now b rows))

-- `field(lamp, plan)`: what the field of the definitions shows
abbrev pub ShowsField : Plan → Option Lamp → Rows → Field → Type 0
ShowsField plan lamp rows result = (now : ℕ) (desk : Desk) →
    IsSame (heads_of_field result) (field (state_of now (untripped plan desk lamp) rows))

-- beside rows of a controller that trips at tick number `now`, if there is a cause
abbrev pub tripping : ℕ → Option Trip → Plan → Desk → Option Lamp → Beside
tripping now found plan desk lamp =
    record (untripped plan desk lamp) { trip = option_map (λ cause. record { cause = cause; tick = now }) found }

-- `watched_tick(now, row, lamp, plan)`: the whole tick, with what the monitor finds
abbrev pub IsWatchedTick : ℕ → Row → Option Lamp → Plan → Rows → Rows → Option Trip → Type 0
IsWatchedTick now row lamp plan old new found = (desk : Desk) →
    state_of now (tripping now found plan desk lamp) new ≡ ticked row (state_of (now - 1) (untripped plan desk lamp) old)

-- `light(was, lamp, plan)`: the whole fault, with what the monitor finds, at whatever tick
abbrev pub IsLit : Option Lamp → Option Lamp → Plan → Rows → Option Trip → Type 0
IsLit was lamp plan rows found = (now : ℕ) (desk : Desk) →
    state_of now (tripping now found plan desk lamp) rows ≡ with_lamp lamp (state_of now (untripped plan desk was) rows)

-- ## Other inputs, with anything beside the rows, and all except the first at any tick

-- `set_pattern(n, now, plan)`, at that tick
abbrev pub IsSelected : ℕ → ℕ → Plan → Rows → Rows → Type 0
IsSelected n now plan old new = (b : Beside) → b.plan ≡ plan → state_of now b new ≡ with_pattern n (state_of now b old)

-- `set_clock(moment, now, plan)`, at that tick
abbrev pub IsClocked : ℕ → ℕ → Plan → Rows → Rows → Type 0
IsClocked moment now plan old new = (b : Beside) → b.plan ≡ plan → state_of now b new ≡ with_clock moment (state_of now b old)

-- `switch(n, on, plan)`
abbrev pub IsSwitched : ℕ → Bool → Rows → Rows → Type 0
IsSwitched n on old new = (now : ℕ) (b : Beside) → AreBy (clock_at now b.trip) old →
    state_of now b new ≡ with_switch n on (state_of now b old)

-- `omit(set)`: these arrows are omitted, and no other
abbrev pub IsOmitted : NumberSet → Rows → Rows → Type 0
IsOmitted set old new = (now : ℕ) (b : Beside) → state_of now b new ≡ record (state_of now b old) { omitted = has_number set }

-- `reset(now)`: the controller has not tripped, and no lamp is lit
abbrev pub IsRestarted : ℕ → Rows → Rows → Type 0
IsRestarted now old new = (b : Beside) → state_of now (untripped b.plan b.desk None) new ≡ restarted (state_of now b old)

-- `forget()`: as a commit of the structure asks
abbrev pub IsForgotten : Rows → Rows → Type 0
IsForgotten old new = (now : ℕ) (b : Beside) →
    state_of now b new ≡ record (state_of now b old) { rings = forgotten (state_of now b old).rings }

-- clause `by`: rows that the layers can hold at a tick stay such
abbrev pub KeepsBy : Rows → Rows → Type 0
KeepsBy old new = (now : ℕ) → AreBy now old → AreBy now new

-- ## Calls that answer, at any tick, with anything beside the rows

-- `is_serving()`: in every plan that is checked
abbrev pub TellsServing : Rows → Bool → Type 0
TellsServing rows result = (now : ℕ) (b : Beside) (checked : Checked) → b.plan ≡ checked_plan checked →
    result ≡ is_serving (state_of now b rows)

-- `is_preempted()`: a preempt is in service
abbrev pub TellsPreempted : Rows → Bool → Type 0
TellsPreempted rows result = (now : ℕ) (b : Beside) → result ≡ is_some (state_of now b rows).preempts.service

-- `omitted_arrows()`
abbrev pub TellsOmitted : Rows → NumberSet → Type 0
TellsOmitted rows result = (now : ℕ) (b : Beside) (o : ℕ) → has_number result o ≡ (state_of now b rows).omitted o

-- `stage()`
abbrev pub TellsStage : Rows → Option (ℕ × Stage) → Type 0
TellsStage rows result = (now : ℕ) (b : Beside) → result ≡ stage (state_of now b rows)

-- `local(now, plan)`: the local counter at tick number `now`, also of a controller that has tripped
abbrev pub TellsLocal : ℕ → Plan → Rows → Option ℕ → Type 0
TellsLocal now plan rows result = (b : Beside) → b.plan ≡ plan → result ≡ local (state_of now b rows)
