-- What the laws of runs say of one run: of its newest state, of the next input whatever that is, and of each stretch of
-- it up to that state. Times are in tenths of a second, which are ticks.
use Rattle.std.specs.Prelude.{◌≡◌, ◌≢◌, ℕ, suc, not, ◌+◌, ◌<◌, ◌≤◌, Bool, true, false, ◌||◌, List, ◌∷◌, ◌++◌, Some, None, ◌⊎◌}
use Rattle.tsb_step.specs.tsb_cells.declared.timer.Timer.TheVariants.{Off}
use Rattle.tsb_step.specs.tsb_types.declared.interval.Interval.TheVariants.{Green}
use Rattle.tsb_step.specs.tsb_types.declared.lamp.Aspect.TheVariants.{Red}
use Rattle.tsb_step.specs.tsb_types.declared.row.Row.{Row}
use Rattle.tsb_step.specs.tsb_types.declared.stage.Stage.{Stage}
use Rattle.tsb_step.specs.tsb_types.declared.stage.Stage.TheVariants.{Exit}
use Rattle.tsb_step.specs.tsb_types.Intervals.{is_green, is_yellow}
use Rattle.tsb_step.specs.tsb_plan.Parts.{is_anew, is_arrow, is_minus_green_yellow, track_green}
use Rattle.tsb_step.specs.tsb_plan.Plan.{Plan, is_enabled, side_of, walk, pedestrian_clear, red_revert}
use Rattle.tsb_step.specs.tsb_plan.Running.{pattern_maximum}
use Rattle.tsb_step.specs.tsb_heads.Monitoring.{conflict, gives_way}
use Rattle.tsb_step.specs.tsb_preempt.Service.{has_track}
use Rattle.tsb_step.specs.tsb_ring.Moves.{is_started}
use Rattle.tsb_step.specs.tsb_rules.Consistent.{IsPhase}
use Rattle.tsb_step.specs.tsb_ring.Rings.{Ring, other, in_ring}
use Rattle.tsb_step.specs.declared.inputs.Input.{Input}
use Rattle.tsb_step.specs.declared.inputs.Input.TheVariants.{Tick, Pattern}
use Rattle.tsb_step.specs.Backed.{AreBacked}
use Rattle.tsb_step.specs.ClearanceLaws.{EndsNow, ClearsInTime, IsForcedOff, IsOverInTime, split_end_from}
use Rattle.tsb_step.specs.tsb_coord.Laws.{IsCountedFrom}
use Rattle.tsb_step.specs.Laws.{IsConsistent, ServesTogether, WalksBesideGreen, StartsWaiting, ServesPreempt, is_unlit}
use Rattle.tsb_step.specs.Runs.{replay}
use Rattle.tsb_step.specs.Signs.{display, is_choosing, is_lasting, field, IsSafe, IsInStep}
use Rattle.tsb_step.specs.State.{State, interval}
use Rattle.tsb_step.specs.Step.{step, verdict}
use Rattle.tsb_step.specs.Tick.{service, must_end, runs, hold, forced, at_force_off, omitted, conflict as has_conflict, ready, moves, after_moves, next}
use Rattle.tsb_step.specs.TimeLaws.{held_for, is_tick, is_yellow_head, EndsInTime, HasHeld, IsSided, Rests, TellsTime, StandsOrStarts, ShowsTheSame}
use Rattle.tsb_step.specs.WaitLaws.{IsKeptNext}
use Rattle.tsb_laws.specs.AllRed.{HasBeenRed, HasBeenWanted}
use Rattle.tsb_laws.specs.Arrows.{ClearsTimedOverlaps, FlashesByPermission, LeavesIdleUnlit, ProtectsGreenArrows, ShowsArrowsWithPhases}
use Rattle.tsb_laws.specs.Cards.{PermitsWhatIsLit}
use Rattle.tsb_laws.specs.Commitments.{ServesEnabled, CommitsTo, wait, StartsWithin}
use Rattle.tsb_laws.specs.Coordination.{in_permissive_time, was_forced_off, OmitsHold}
use Rattle.tsb_laws.specs.CrossingGreens.{IsCalm}
use Rattle.tsb_laws.specs.Crossings.{BeginsCrossing, TakesAtMost, CompletesWithin}
use Rattle.tsb_laws.specs.GreenEnds.{HasFloated, EndsForAReason}
use Rattle.tsb_laws.specs.Intergreens.{AreApart, HasCleared, WalksBefore, HasWalked}
use Rattle.tsb_laws.specs.InStep.{selects_none, BeginsInStep, StaysInStep, HasComeSince, GoesOnFrom}
use Rattle.tsb_laws.specs.KeptCalls.{restarts, RunsOn, Remembers, HasTurnedGreen, HasBegunWalk}
use Rattle.tsb_laws.specs.LateGreens.{IsInLateSpan, IsLateGreen}
use Rattle.tsb_laws.specs.PatternEnds.{LacksOnlyItsEnd, HasWaitedInPattern, HasMaxedInPattern, IsInPermissiveTime}
use Rattle.tsb_laws.specs.LitHeads.{KeepsLitHeads, StaysOrClears}
use Rattle.tsb_laws.specs.OverlapPhases.{GoesWithPhases}
use Rattle.tsb_laws.specs.PlainStep as without_options
use Rattle.tsb_laws.specs.PreemptChoices.{HasChosen, ChoiceTakesAtMost, time_by_choice, time_to_chosen_dwell}
use Rattle.tsb_laws.specs.PreemptDwells.{BeginsService, is_served}
use Rattle.tsb_laws.specs.CalledStarts.{EntersByCall}
use Rattle.tsb_laws.specs.PreemptEntries.{EntersByPreempt}
use Rattle.tsb_laws.specs.PreemptStages.{is_in_stage, StageTakesAtMost, time_to_stage, ReachesWithin, time_to_dwell, ReachesDwell}
use Rattle.tsb_laws.specs.PreemptTurns.{GivesWay, EndsFrom}
use Rattle.tsb_laws.specs.RecycledWalks.{WalksAgain, RecyclesCalls, is_unheld, is_unforced, IsOverByForceOff}
use Rattle.tsb_laws.specs.RedReverts.{StartsAgain, HasReverted}
use Rattle.tsb_laws.specs.RunningMaximum.{maximum_of, IsBounded, MovesByAStep}
use Rattle.tsb_laws.specs.Stretches.{IsUntripped, has_held_since, NoneChooses, NoneTrails, largest, EndsGreen}
use Rattle.tsb_laws.specs.ServedCalls.{HasBeenPressed, IsDoneWithin, IsFullyConcurrent, HasWaited, TurnsTakeAtMost, IsToCome, time_to_come, is_outside, time_to_cross, time_to_serve, longest_initial}
use Rattle.tsb_laws.specs.UnwantedGreens.{WaitsFor}
use Rattle.tsb_laws.specs.WantedStarts.{MayStart, IsKeptBy}
use Rattle.tsb_laws.specs.WithoutOptions.{HasEachAtZero, SetNoOption, ShowsTheSameWithoutOptions}
use Rattle.tsb_laws.specs.CoordinatedGreens.{HasGoneOn, IsAwaited, ComesInCycle, is_pressed_in_pattern, IsForcedWithin, KeepsAtBarrier, is_out, is_called_in_pattern, TurnsInPattern, time_to_be_served}

-- ## Of a state, and of the next input

-- a green that ends in the first of the next ticks is followed by its yellow change and its red clearance, each in
-- full, and then its phase is over, where ticks alone come and nothing trips
abbrev pub ClearsGreens : State → Type 0
ClearsGreens s = (rows : ℕ → Row) (p : ℕ) → EndsNow s rows p → ClearsInTime s rows p

-- a coordinated phase that is forced off in the first of them is over at local zero, or within its permissive time of
-- it: each, and where the pattern leads and lags the one that instants are counted from
abbrev pub ClearsAtZero : State → Type 0
ClearsAtZero s = (rows : ℕ → Row) (n p : ℕ) → IsForcedOff s n p → IsCountedFrom s.plan n p → EndsNow s rows p → IsOverInTime s rows n p 0

-- and any at the end of its own split, or within its permissive time of it
abbrev pub ClearsWithItsSplit : State → Type 0
ClearsWithItsSplit s = (rows : ℕ → Row) (n p c : ℕ) → IsForcedOff s n p → IsCountedFrom s.plan n c → EndsNow s rows p →
    IsOverInTime s rows n p (split_end_from s.plan n c p)

-- unless the controller has tripped, the field, with a lamp that a fault has lit, is in no conflict
abbrev pub HasSafeField : State → Type 0
HasSafeField s = s.trip ≡ None → conflict s.plan (field s) ≡ None

-- unless the controller has tripped, or a preempt chooses anew, a commitment lasts over the next input, or its phase turns
-- Green by it
abbrev pub KeepsCommitments : State → Type 0
KeepsCommitments s = (i : Input) (r : Ring) (c : ℕ) → s.trip ≡ None → is_choosing (step s i) ≡ false →
    s.rings.commitment r ≡ Some c → StandsOrStarts s i r c

-- where one chooses anew in the next tick, it wants what rings are committed to after it, or an overlap lasts by that
abbrev pub WantsCommitments : State → Type 0
WantsCommitments s = (row : Row) (r : Ring) (c : ℕ) → s.trip ≡ None → is_anew s.plan (service s row) ≡ true →
    (step s (Tick row)).rings.commitment r ≡ Some c → (must_end s row c ≡ false) ⊎ (is_lasting (step s (Tick row)) ≡ true)

-- the next input, if it is taken, is no tick, and neither trips nor ends a trip, leaves each lit head
abbrev pub KeepsHeads : State → Type 0
KeepsHeads s = (i : Input) → is_tick i ≡ false → verdict s i ≡ None → (step s i).trip ≡ s.trip →
    KeepsLitHeads (display s) (display (step s i))

-- unless the controller has tripped, what calls in the next tick is remembered, or served in it
abbrev pub RemembersCalls : State → Type 0
RemembersCalls s = s.trip ≡ None → (row : Row) (p : ℕ) → Remembers s row p

-- the head of an overlap is green or yellow only beside a phase in service that it includes
abbrev pub ShowsOverlapsWithPhases : State → Type 0
ShowsOverlapsWithPhases s = (o : ℕ) → is_arrow s.plan o ≡ false → gives_way ((display s).overlap o) ≡ true → GoesWithPhases s o

-- the next input, if it is no tick, leaves the plan and resets no trip, leaves the maximum in use
abbrev pub LeavesMaximums : State → Type 0
LeavesMaximums s = (i : Input) (p : ℕ) → is_tick i ≡ false → (step s i).plan ≡ s.plan → restarts s i ≡ false →
    maximum_of (step s i) p ≡ maximum_of s p

-- ## Of a run, and of the next input

-- of a controller that has not tripped
abbrev pub Untripped : (Plan → List Input → Type 0) → Plan → List Input → Type 0
Untripped fact plan is = (replay plan is).trip ≡ None → fact plan is

-- what the next tick ends has held for its time by the plan in effect
abbrev pub EndsWhatHasHeld : Plan → List Input → Type 0
EndsWhatHasHeld plan is = (row : Row) (p : ℕ) → HasHeld plan is row p

-- the head of a phase that the next tick turns red has shown yellow for the last 30 ticks, that one included
abbrev pub TurnsRedFromYellow : Plan → List Input → Type 0
TurnsRedFromYellow plan is = (row : Row) (p : ℕ) → (display (replay plan is)).vehicle p ≢ Red →
    (display (replay plan (Tick row ∷ is))).vehicle p ≡ Red → 29 ≤ held_for (λ s. is_yellow_head ((display s).vehicle p)) plan is

-- so has the head of an overlap that is not of type minusGreenYellow
abbrev pub TurnsOverlapsRedFromYellow : Plan → List Input → Type 0
TurnsOverlapsRedFromYellow plan is = (row : Row) (o : ℕ) → is_minus_green_yellow (replay plan is).plan o ≡ false →
    (display (replay plan is)).overlap o ≢ Red → (display (replay plan (Tick row ∷ is))).overlap o ≡ Red →
    29 ≤ held_for (λ s. is_yellow_head ((display s).overlap o)) plan is

-- a lit head of a phase stays lit over the next input, or turns red by its yellow
abbrev pub ClearsLitPhases : Plan → List Input → Type 0
ClearsLitPhases plan is = (i : Input) (p : ℕ) → verdict (replay plan is) i ≡ None → (replay plan (i ∷ is)).trip ≡ None →
    gives_way ((display (replay plan is)).vehicle p) ≡ true → StaysOrClears (λ s. (display s).vehicle p) plan is i

-- so does that of an overlap that is neither of type minusGreenYellow nor an arrow
abbrev pub ClearsLitOverlaps : Plan → List Input → Type 0
ClearsLitOverlaps plan is = (i : Input) (o : ℕ) → verdict (replay plan is) i ≡ None → (replay plan (i ∷ is)).trip ≡ None →
    is_minus_green_yellow (replay plan is).plan o ≡ false → is_arrow (replay plan is).plan o ≡ false →
    gives_way ((display (replay plan is)).overlap o) ≡ true → StaysOrClears (λ s. (display s).overlap o) plan is i

-- a phase that the next tick starts has waited for its red revert, unless its red revert timer is Off
abbrev pub RevertsOrOff : Plan → List Input → Type 0
RevertsOrOff plan is = (row : Row) (p : ℕ) → is_started (moves (replay plan is) row) p ≡ true →
    (((replay plan is).phases p).red_revert ≡ Off)
    ⊎ (red_revert (replay plan is).plan p ≤ suc (held_for (λ s. not (is_green (interval s p) || is_yellow (interval s p))) plan is))

-- while a pattern runs and no preempt is in service, the next tick ends a coordinated green only by its force-off
abbrev pub EndsByForceOff : Plan → List Input → Type 0
EndsByForceOff plan is = (row : Row) (p : ℕ) → EndsGreen plan is row p → hold (replay plan is) p ≡ true →
    service (replay plan is) row ≡ None →
    ((at_force_off (replay plan is) p ≡ true) ⊎ (in_permissive_time (replay plan is) p ≡ true)) ⊎ (was_forced_off plan p is ≡ true)

-- without a preempt in service the next tick starts an omitted phase only by an older commitment
abbrev pub KeepsOmits : Plan → List Input → Type 0
KeepsOmits plan is = (row : Row) (q : ℕ) → omitted (replay plan is) q ≡ true → service (replay plan is) row ≡ None → OmitsHold plan is row q

-- a green that the next tick ends ends for a reason
abbrev pub EndsGreensForAReason : Plan → List Input → Type 0
EndsGreensForAReason plan is = (row : Row) (p : ℕ) → EndsGreen plan is row p → EndsForAReason plan p is row

-- with a preempt in service the next tick starts only what this wants, or what a ring was committed to
abbrev pub LetsInByPreempt : Plan → List Input → Type 0
LetsInByPreempt plan is = (row : Row) (n q : ℕ) → service (replay plan is) row ≡ Some n → EntersByPreempt plan is row q

-- with no preempt in service the next tick starts only what is called, or what a ring was committed to
abbrev pub LetsInByCall : Plan → List Input → Type 0
LetsInByCall plan is = (row : Row) (q : ℕ) → service (replay plan is) row ≡ None → EntersByCall plan is row q

-- a ready green that the preempt in service does not want ends in the next tick, or waits for the barrier
abbrev pub EndsUnwantedGreens : Plan → List Input → Type 0
EndsUnwantedGreens plan is = (row : Row) (n p : ℕ) → service (replay plan is) row ≡ Some n → must_end (replay plan is) row p ≡ true →
    ready (replay plan is) row p ≡ true → interval (replay plan is) p ≡ Green → interval (replay plan (Tick row ∷ is)) p ≡ Green →
    WaitsFor (replay plan is) row

-- a phase that it wants and that may start turns Green by the next tick, or is kept from it
abbrev pub StartsWantedPhases : Plan → List Input → Type 0
StartsWantedPhases plan is = (row : Row) (n : ℕ) (r : Ring) (p : ℕ) → service (replay plan is) row ≡ Some n →
    MayStart (replay plan is) row r p → (interval (replay plan (Tick row ∷ is)) p ≡ Green) ⊎ IsKeptBy (replay plan is) p

-- ## Of stretches of a run: what came before is `older` or `base`, and what came later is `later`

-- between a green that ended and the next tick, if that starts a phase which is not concurrent, lies the intergreen
abbrev pub HasIntergreens : Plan → List Input → Type 0
HasIntergreens plan is = (older later : List Input) (row next : Row) (p q : ℕ) → is ≡ later ++ (Tick row ∷ older) →
    AreApart plan older row p later next q → HasCleared plan older row p later next

-- and from the beginning of a walk its walk, its pedestrian clearance and the intergreen
abbrev pub ClearsWalks : Plan → List Input → Type 0
ClearsWalks plan is = (older later : List Input) (row next : Row) (p q : ℕ) → is ≡ later ++ (Tick row ∷ older) →
    WalksBefore plan older row p later next q → HasWalked plan older row p later next

-- between a yellow and the next tick, if that starts its phase again, lies the red revert
abbrev pub KeepsRedReverts : Plan → List Input → Type 0
KeepsRedReverts plan is = (base later : List Input) (row : Row) (p : ℕ) → is ≡ later ++ base → StartsAgain plan base later row p →
    HasReverted plan base later row p

-- a commitment that was made as a green ended is served in time
abbrev pub ServesCommitments : Plan → List Input → Type 0
ServesCommitments plan is = (older later : List Input) (row : Row) (p : ℕ) (r : Ring) (c : ℕ) → is ≡ later ++ (Tick row ∷ older) →
    IsUntripped plan (Tick row ∷ older) later → NoneChooses plan (Tick row ∷ older) later → NoneTrails plan (Tick row ∷ older) later → CommitsTo plan older row p r c →
    StartsWithin plan (Tick row ∷ older) c (wait plan (Tick row ∷ older) p c later) later

-- a crossing that began is completed in time
abbrev pub CompletesCrossings : Plan → List Input → Type 0
CompletesCrossings plan is = (older later : List Input) (row : Row) (d n : ℕ) → is ≡ later ++ (Tick row ∷ older) →
    IsUntripped plan (Tick row ∷ older) later → NoneChooses plan (Tick row ∷ older) later → NoneTrails plan (Tick row ∷ older) later → BeginsCrossing plan older row d →
    TakesAtMost plan (Tick row ∷ older) n later →
    CompletesWithin plan (Tick row ∷ older) d (suc n) later

-- all red ends in time, where some phase is wanted
abbrev pub EndsAllRed : Plan → List Input → Type 0
EndsAllRed plan is = (base later : List Input) (n : ℕ) → is ≡ later ++ base → IsUntripped plan base later →
    HasBeenRed plan base later → HasBeenWanted plan base later → ((p : ℕ) → largest (λ x. red_revert x p) plan base later ≤ n) →
    (replay plan is).now ≤ (replay plan base).now + n + 2

-- a preempt that stays in a stage has all phases of it Green in time
abbrev pub ReachesStages : Plan → List Input → Type 0
ReachesStages plan is = (base later : List Input) (n : ℕ) (stage : Stage) (g w c : ℕ) → is ≡ later ++ base → IsUntripped plan base later →
    has_held_since (λ s. is_in_stage n stage s.preempts.service) plan base later ≡ true → StageTakesAtMost plan base n g w c later →
    ReachesWithin plan base n stage (time_to_stage g w c) later

-- one that chooses anew has them so in a shorter time
abbrev pub ReachesChosenStages : Plan → List Input → Type 0
ReachesChosenStages plan is = (base later : List Input) (n : ℕ) (stage : Stage) (g w c v : ℕ) → is ≡ later ++ base → IsUntripped plan base later →
    HasChosen plan base later → has_held_since (λ s. is_in_stage n stage s.preempts.service) plan base later ≡ true →
    ChoiceTakesAtMost plan base n g w c v later → ReachesWithin plan base n stage (time_by_choice g w c v) later

-- and does not stay in its exit for longer
abbrev pub EndsExits : Plan → List Input → Type 0
EndsExits plan is = (base later : List Input) (n g w c : ℕ) → is ≡ later ++ base → IsUntripped plan base later →
    has_held_since (λ s. is_in_stage n Exit s.preempts.service) plan base later ≡ true → StageTakesAtMost plan base n g w c later →
    (replay plan (later ++ base)).now ≤ (replay plan base).now + time_to_stage g w c

-- one that stays in service before its exit has all of its dwell phases Green in time
abbrev pub ReachesDwells : Plan → List Input → Type 0
ReachesDwells plan is = (older later : List Input) (row : Row) (n g w c t limit : ℕ) → is ≡ later ++ (Tick row ∷ older) →
    IsUntripped plan (Tick row ∷ older) later → BeginsService plan older row n →
    has_held_since (λ s. is_served n s.preempts.service) plan (Tick row ∷ older) later ≡ true →
    StageTakesAtMost plan (Tick row ∷ older) n g w c later → largest (λ x. track_green x n) plan (Tick row ∷ older) later ≤ t →
    limit ≡ time_to_dwell (has_track (replay plan older).plan n) g w c t →
    ReachesDwell plan (Tick row ∷ older) n limit later
    ⊎ ((replay plan (later ++ (Tick row ∷ older))).now < (replay plan (Tick row ∷ older)).now + limit)

-- so does one that chooses anew, in a shorter time
abbrev pub ReachesChosenDwells : Plan → List Input → Type 0
ReachesChosenDwells plan is = (older later : List Input) (row : Row) (n g w c v t limit : ℕ) → is ≡ later ++ (Tick row ∷ older) →
    IsUntripped plan (Tick row ∷ older) later → BeginsService plan older row n → HasChosen plan (Tick row ∷ older) later →
    has_held_since (λ s. is_served n s.preempts.service) plan (Tick row ∷ older) later ≡ true →
    ChoiceTakesAtMost plan (Tick row ∷ older) n g w c v later → largest (λ x. track_green x n) plan (Tick row ∷ older) later ≤ t →
    limit ≡ time_to_chosen_dwell (has_track (replay plan older).plan n) g w c v t →
    ReachesDwell plan (Tick row ∷ older) n limit later
    ⊎ ((replay plan (later ++ (Tick row ∷ older))).now < (replay plan (Tick row ∷ older)).now + limit)

-- a vehicle call that was remembered still is, or its phase has turned Green since
abbrev pub KeepsVehicleCalls : Plan → List Input → Type 0
KeepsVehicleCalls plan is = (base later : List Input) (p : ℕ) → is ≡ later ++ base → RunsOn plan base later →
    (replay plan base).memories.vehicle p ≡ true →
    ((replay plan is).memories.vehicle p ≡ true) ⊎ HasTurnedGreen plan base p later

-- a pedestrian call that was remembered still is, or the walk of its phase has begun since
abbrev pub KeepsPedestrianCalls : Plan → List Input → Type 0
KeepsPedestrianCalls plan is = (base later : List Input) (p : ℕ) → is ≡ later ++ base → RunsOn plan base later →
    (replay plan base).memories.pedestrian p ≡ true →
    ((replay plan is).memories.pedestrian p ≡ true) ⊎ HasBegunWalk plan base p later

-- a green that has had a conflict for long enough, and has one in the next tick, is ready in it
abbrev pub ReadiesPressedGreens : Plan → List Input → Type 0
ReadiesPressedGreens plan is = (base later : List Input) (row : Row) (p n : ℕ) → is ≡ later ++ base → IsUntripped plan base later →
    HasBeenPressed plan p base (Tick row ∷ later) → IsDoneWithin plan base p n later → (replay plan base).now + n ≤ (replay plan is).now →
    ready (replay plan is) row p ≡ true

-- a called phase that was still to come in the order of its ring has not waited for longer than it may
abbrev pub BringsCalledPhases : Plan → List Input → Type 0
BringsCalledPhases plan is = (base later : List Input) (r : Ring) (q k h : ℕ) → is ≡ later ++ base → IsUntripped plan base later →
    IsFullyConcurrent (replay plan base).plan → TurnsTakeAtMost (replay plan base).plan k h → IsToCome (replay plan base) r q →
    HasWaited plan q base later → (replay plan is).now ≤ (replay plan base).now + time_to_come (replay plan base) r k h

-- while a phase of another side was called, no crossing has been away for longer than it may
abbrev pub BeginsCrossings : Plan → List Input → Type 0
BeginsCrossings plan is = (base later : List Input) (q k h : ℕ) → is ≡ later ++ base → IsUntripped plan base later →
    IsFullyConcurrent (replay plan base).plan → TurnsTakeAtMost (replay plan base).plan k h →
    side_of (replay plan base).plan q ≢ (replay plan base).rings.side → HasWaited plan q base later →
    has_held_since is_outside plan base later ≡ true → (replay plan is).now ≤ (replay plan base).now + time_to_cross (replay plan base) k h

-- a called phase has not waited for longer than it may, on whatever side it is
abbrev pub ServesCalledPhases : Plan → List Input → Type 0
ServesCalledPhases plan is = (base later : List Input) (r : Ring) (q k h : ℕ) → is ≡ later ++ base → IsUntripped plan base later →
    IsFullyConcurrent (replay plan base).plan → TurnsTakeAtMost (replay plan base).plan k h → in_ring (replay plan base).plan r q ≡ true →
    HasWaited plan q base later → (replay plan is).now ≤ (replay plan base).now + time_to_serve (replay plan base).plan r q k h

-- a green that has had a conflict for so long in a pattern, and is forced off, is ready in the next tick
abbrev pub ForcesGreensOff : Plan → List Input → Type 0
ForcesGreensOff plan is = (base later : List Input) (row : Row) (p n : ℕ) → is ≡ later ++ base → IsUntripped plan base later →
    HasGoneOn (is_pressed_in_pattern p) plan base (Tick row ∷ later) → IsForcedWithin (replay plan base) p n →
    (replay plan base).now + n ≤ (replay plan is).now → ready (replay plan is) row p ≡ true

-- a green that was late, and has had a conflict for so long, is ready in the next tick
abbrev pub ReadiesLateGreensInTime : Plan → List Input → Type 0
ReadiesLateGreensInTime plan is = (base later : List Input) (row : Row) (p n : ℕ) → is ≡ later ++ base → IsUntripped plan base later →
    HasGoneOn (is_pressed_in_pattern p) plan base (Tick row ∷ later) → IsInLateSpan (replay plan base) p →
    longest_initial (replay plan base).plan p ≤ n → walk (replay plan base).plan p + pedestrian_clear (replay plan base).plan p ≤ n →
    (replay plan base).now + n ≤ (replay plan is).now → ready (replay plan is) row p ≡ true

-- a green of a pattern that has waited for so long is ready in the next tick, where floating force-off has come to it
abbrev pub ReadiesFloatingGreensInTime : Plan → List Input → Type 0
ReadiesFloatingGreensInTime plan is = (base later : List Input) (row : Row) (p n : ℕ) → is ≡ later ++ base → IsUntripped plan base later →
    HasWaitedInPattern plan base later row p n → HasFloated plan p is → ready (replay plan is) row p ≡ true

-- where a maximum acts on it that is no longer
abbrev pub ReadiesMaximumGreensInTime : Plan → List Input → Type 0
ReadiesMaximumGreensInTime plan is = (base later : List Input) (row : Row) (p n m : ℕ) → is ≡ later ++ base → IsUntripped plan base later →
    HasWaitedInPattern plan base later row p n → pattern_maximum (replay plan base).plan (runs (replay plan base)) p ≡ Some m → m ≤ n →
    ready (replay plan is) row p ≡ true

-- and where it began to wait in its permissive time
abbrev pub ReadiesPermittedGreensInTime : Plan → List Input → Type 0
ReadiesPermittedGreensInTime plan is = (base later : List Input) (row : Row) (p n : ℕ) → is ≡ later ++ base → IsUntripped plan base later →
    HasWaitedInPattern plan base later row p n → IsInPermissiveTime (replay plan base) p → ready (replay plan is) row p ≡ true

-- while a pattern ran, a phase that stayed called has not waited for longer than it may, nor has a coordinated one
abbrev pub ServesInPatterns : (ℕ → State → Input → Bool) → Plan → List Input → Type 0
ServesInPatterns waits plan is = (base later : List Input) (k j h : ℕ) (r : Ring) (c : ℕ) → is ≡ later ++ base → IsUntripped plan base later →
    IsFullyConcurrent (replay plan base).plan → runs (replay plan base) ≡ Some k → IsInStep (replay plan base) → in_ring (replay plan base).plan r c ≡ true →
    TurnsInPattern (replay plan base).plan k j h → HasGoneOn (waits c) plan base later →
    (replay plan is).now ≤ (replay plan base).now + time_to_be_served (replay plan base) k j h r c

-- ## Of the pattern that runs, and of greens that may end

-- each of its coordinated phases that is not Green is called
abbrev pub AwaitsCoordinated : State → Type 0
AwaitsCoordinated s = (row : Row) (c : ℕ) → IsPhase s.plan c → hold s c ≡ true → is_green (interval s c) ≡ false → IsAwaited s row c

-- and while the local counter is in step each enabled phase has its force-off instant within a cycle
abbrev pub HasInstants : State → Type 0
HasInstants s = (k p : ℕ) → runs s ≡ Some k → IsInStep s → is_enabled s.plan p ≡ true → ComesInCycle s k p

-- a pattern that was selected in free operation, or with correction mode 0, is in step until another is selected
abbrev pub IsSelectedInStep : Plan → List Input → Type 0
IsSelectedInStep plan is = (older later : List Input) (n : ℕ) → is ≡ later ++ (Pattern n ∷ older) → BeginsInStep (replay plan older) →
    HasGoneOn selects_none plan (Pattern n ∷ older) later → IsInStep (replay plan is)

-- one that was selected is in step once its mode and its limit have had the time that they need
abbrev pub ComesIntoStep : Plan → List Input → Type 0
ComesIntoStep plan is = (older later : List Input) (n : ℕ) → is ≡ later ++ (Pattern n ∷ older) → HasComeSince plan older later n →
    IsInStep (replay plan is)

-- a green that is late, and that nothing else keeps, is ready in the next tick
abbrev pub ReadiesLateGreens : State → Type 0
ReadiesLateGreens s = (row : Row) (p : ℕ) → IsLateGreen s row p → ready s row p ≡ true

-- a green that lacks only its end is ready in the next tick where floating force-off has come to it
abbrev pub ReadiesFloatingGreens : Plan → List Input → Type 0
ReadiesFloatingGreens plan is = (row : Row) (p : ℕ) → LacksOnlyItsEnd (replay plan is) row p → HasFloated plan p is → ready (replay plan is) row p ≡ true

-- where its conflict has stood for the maximum that acts in the pattern
abbrev pub ReadiesMaximumGreens : State → Type 0
ReadiesMaximumGreens s = (row : Row) (p : ℕ) → LacksOnlyItsEnd s row p → HasMaxedInPattern s row p → ready s row p ≡ true

-- and where it is coordinated, and the next tick is in its permissive time
abbrev pub ReadiesPermittedGreens : State → Type 0
ReadiesPermittedGreens s = (row : Row) (p : ℕ) → LacksOnlyItsEnd s row p → IsInPermissiveTime s p → ready s row p ≡ true

-- what may walk again within its green does so in the next tick, and no other walk begins within a green
abbrev pub RecyclesWalks : Plan → List Input → Type 0
RecyclesWalks plan is = (row : Row) (p : ℕ) → RecyclesCalls (replay plan is) row p

-- a walk that began within a green is over in the tick in which its phase is next forced off
abbrev pub EndsRecycledWalks : Plan → List Input → Type 0
EndsRecycledWalks plan is = (older later : List Input) (row next : Row) (p : ℕ) → is ≡ later ++ (Tick row ∷ older) →
    IsUntripped plan (Tick row ∷ older) later → WalksAgain (replay plan older) row p → HasGoneOn (is_unforced p) plan (Tick row ∷ older) later →
    forced (replay plan is) p ≡ true → is_unheld (replay plan is) next p ≡ true → IsOverByForceOff (replay plan is) next p

-- a green that is ready and has a conflict ends by the next tick, or the other ring keeps it at the barrier
abbrev pub MakesWay : Plan → List Input → Type 0
MakesWay plan is = (row : Row) (r : Ring) (p : ℕ) → service (replay plan is) row ≡ None → IsFullyConcurrent (replay plan is).plan →
    in_ring (replay plan is).plan r p ≡ true → interval (replay plan is) p ≡ Green → ready (replay plan is) row p ≡ true →
    has_conflict (replay plan is) row p ≡ true →
    (interval (replay plan (Tick row ∷ is)) p ≢ Green) ⊎ KeepsAtBarrier (replay plan is) row (other r)

-- with options at 0, in the plan and in each edit, it is the state of the controller without options after these inputs
abbrev pub IsAsWithoutOptions : Plan → List Input → State → Type 0
IsAsWithoutOptions plan is s = HasEachAtZero plan → SetNoOption is → s ≡ without_options.replay plan is

-- and it shows what that controller shows
abbrev pub ShowsAsWithoutOptions : Plan → List Input → State → Type 0
ShowsAsWithoutOptions plan is s = HasEachAtZero plan → SetNoOption is → ShowsTheSameWithoutOptions s

-- ## All laws of runs, each by the name of its function

-- of the state s after the inputs `is` from power-up with `plan`
pub record KeepsLaws (plan : Plan) (is : List Input) (s : State) : Type 0 where
  -- tsb_step, laws
  pub plans_stay_consistent : IsConsistent s.plan
  pub displays_are_safe : IsSafe s
  pub displays_are_safe_together : ServesTogether s
  pub displays_are_safe_walks : WalksBesideGreen s
  pub starts_wait : StartsWaiting s
  pub preempts_have_phases : ServesPreempt s
  pub faults_alone_trip : is_unlit plan is ≡ true → (replay plan is).trip ≡ None
  -- tsb_step, clearance_laws
  pub greens_clear_in_time : ClearsGreens s
  pub coordinated_phases_clear_at_zero : ClearsAtZero s
  pub coordinated_phases_clear_at_zero_splits : ClearsWithItsSplit s
  -- tsb_step, time_laws
  pub timers_tell_time : Untripped (λ plan is. (p : ℕ) → TellsTime plan is p) plan is
  pub ticks_end_in_time : (row : Row) (p : ℕ) → EndsInTime s row p
  pub starts_after_red_revert : Untripped RevertsOrOff plan is
  pub phases_rest : (p : ℕ) → Rests (s.phases p)
  pub commitments_stand_in_runs : KeepsCommitments s
  pub commitments_are_wanted : WantsCommitments s
  pub giving_up_shows_nothing : (row : Row) → ShowsTheSame (after_moves s row) (next s row)
  pub fields_are_safe_unless_tripped : HasSafeField s
  pub phases_clear_in_yellow : Untripped TurnsRedFromYellow plan is
  pub overlaps_clear_in_yellow : Untripped TurnsOverlapsRedFromYellow plan is
  pub sides_are_served : IsSided s.plan (interval s) s.rings
  pub ended_have_held : Untripped EndsWhatHasHeld plan is
  -- tsb_step, wait_laws
  pub waits_keep_phases : IsKeptNext s
  -- tsb_step, overlap_laws
  pub overlaps_are_backed : AreBacked s
  -- safety
  pub intergreens_hold : HasIntergreens plan is
  pub intergreens_hold_walks : ClearsWalks plan is
  pub red_reverts_hold : KeepsRedReverts plan is
  pub enabled_are_served : ServesEnabled s
  pub commitments_are_served : ServesCommitments plan is
  pub crossings_complete : CompletesCrossings plan is
  pub coordinated_end_by_force_off : Untripped EndsByForceOff plan is
  pub omitted_are_not_served : Untripped KeepsOmits plan is
  pub all_red_ends : EndsAllRed plan is
  -- heads
  pub lit_heads_stay : KeepsHeads s
  pub lit_heads_clear_in_yellow : Untripped ClearsLitPhases plan is
  pub lit_heads_clear_in_yellow_overlaps : Untripped ClearsLitOverlaps plan is
  -- arrows
  pub arrows_flash_by_permissions : FlashesByPermission s
  pub green_arrows_are_protected : ProtectsGreenArrows s
  pub arrows_go_with_phases : ShowsArrowsWithPhases s
  pub timed_overlaps_clear_in_yellow : Untripped ClearsTimedOverlaps plan is
  pub idle_overlaps_are_unlit : LeavesIdleUnlit s
  pub cards_permit_what_is_lit : PermitsWhatIsLit s
  -- operation
  pub calls_are_kept_remembered : RemembersCalls s
  pub calls_are_kept_vehicles : KeepsVehicleCalls plan is
  pub calls_are_kept_pedestrians : KeepsPedestrianCalls plan is
  pub greens_end_for_a_reason : Untripped EndsGreensForAReason plan is
  pub overlaps_go_with_phases : ShowsOverlapsWithPhases s
  pub maximums_move_by_steps_bounded : (p : ℕ) → IsBounded s p
  pub maximums_move_by_steps : (row : Row) (p : ℕ) → MovesByAStep s row p
  pub maximums_move_by_steps_others : LeavesMaximums s
  pub preempts_give_way_turns : (i : Input) → GivesWay s i
  pub preempts_give_way_ends : (i : Input) → EndsFrom s i
  pub preempts_reach_their_stages : ReachesStages plan is
  pub preempts_reach_their_stages_exits : EndsExits plan is
  pub preempts_reach_dwell_in_time : ReachesDwells plan is
  pub preempts_that_choose_come_sooner : ReachesChosenStages plan is
  pub preempts_that_choose_come_sooner_dwells : ReachesChosenDwells plan is
  pub crossings_have_no_green : IsCalm s.plan (interval s) s.rings
  pub preempts_let_in_their_own : Untripped LetsInByPreempt plan is
  pub uncalled_phases_stay : Untripped LetsInByCall plan is
  pub unwanted_greens_end : Untripped EndsUnwantedGreens plan is
  pub wanted_phases_start : Untripped StartsWantedPhases plan is
  pub pressed_greens_may_end : ReadiesPressedGreens plan is
  pub called_phases_come : BringsCalledPhases plan is
  pub crossings_begin : BeginsCrossings plan is
  pub called_phases_are_served : ServesCalledPhases plan is
  pub coordination_goes_on_awaited : AwaitsCoordinated s
  pub coordination_goes_on_instants : HasInstants s
  pub coordination_goes_on_forced : ForcesGreensOff plan is
  pub coordination_goes_on_ends : Untripped MakesWay plan is
  pub counters_are_in_step_selected : IsSelectedInStep plan is
  pub counters_are_in_step_stays : StaysInStep s
  pub counters_are_in_step_comes : ComesIntoStep plan is
  pub selections_go_on : GoesOnFrom s
  pub late_greens_are_ready : ReadiesLateGreens s
  pub late_greens_are_ready_in_time : ReadiesLateGreensInTime plan is
  pub floating_greens_are_ready : Untripped ReadiesFloatingGreens plan is
  pub floating_greens_are_ready_in_time : ReadiesFloatingGreensInTime plan is
  pub maximums_end_greens_in_patterns : ReadiesMaximumGreens s
  pub maximums_end_greens_in_patterns_in_time : ReadiesMaximumGreensInTime plan is
  pub permissive_times_let_calls_in : ReadiesPermittedGreens s
  pub permissive_times_let_calls_in_in_time : ReadiesPermittedGreensInTime plan is
  pub recycled_calls_walk : Untripped RecyclesWalks plan is
  pub recycled_walks_end_in_time : EndsRecycledWalks plan is
  pub phases_are_served_in_patterns_called : ServesInPatterns is_called_in_pattern plan is
  pub phases_are_served_in_patterns_coordinated : ServesInPatterns is_out plan is
  -- options
  pub options_off_run_as_without : IsAsWithoutOptions plan is s
  pub options_off_run_as_without_shows : ShowsAsWithoutOptions plan is s
