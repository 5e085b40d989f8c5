-- A run from power-up that meets all premises of the law of greens that end, and mistakes that this law refuses.
use Rattle.std.proofs.Common.{◌≡◌, ℕ, ◌+◌, ◌≤◌, ◌==◌, Bool, true, false, if◌then◌else◌, List, [], ◌∷◌, ◌++◌, Option, Some, None, is_some, refl, sym, ap, arith, ◌∙◌}
use Rattle.tsb_step.specs.tsb_types.Sets.{all_off}
use Rattle.tsb_step.specs.tsb_types.declared.interval.Interval.{Interval}
use Rattle.tsb_step.specs.tsb_types.declared.interval.Interval.TheVariants.{Green, Yellow}
use Rattle.tsb_step.specs.tsb_types.declared.row.Row.{Row}
use Rattle.tsb_step.specs.tsb_plan.declared.object.Object.TheVariants.{PhaseMaxRecall, PhaseVariableInitial, PhaseAddedInitial, PhaseMaximumInitial}
use Rattle.tsb_step.specs.tsb_plan.Plan.{Plan, with_values}
use Rattle.tsb_step.specs.tsb_plan.Quad.{quad}
use Rattle.tsb_step.specs.tsb_phase.Phase.{held_of}
use Rattle.tsb_step.specs.tsb_phase.Green.{is_gapped}
use Rattle.tsb_step.specs.tsb_phase.Ready.{may_end}
use Rattle.tsb_step.specs.declared.inputs.Input.{Input}
use Rattle.tsb_step.specs.declared.inputs.Input.TheVariants.{Tick}
use Rattle.tsb_step.specs.State.{State, interval}
use Rattle.tsb_step.specs.Tick.{service, must_end, runs, hold, phases_given, phase_read, ready}
use Rattle.tsb_step.specs.Step.{step}
use Rattle.tsb_step.specs.Runs.{replay, AreTaken}
use Rattle.tsb_step.specs.Laws.{IsConsistent}
use Rattle.tsb_step.proofs.Examples.Scenes.{opened, vehicle, called, resting, dwelling}
use Rattle.tsb_laws.specs.Stretches.{EndsGreen}
use Rattle.tsb_laws.specs.GreenEnds.{has_no_output, has_conflict, in_ticks, ticks_in_green, maximum_acting, IsByMaximum, green_for}
use Rattle.tsb_laws.proofs.safety.Examples.CommitmentRuns.{brief, brief_known}
use Rattle.tsb_laws.proofs.safety.Examples.TickRuns.{ticks, all_taken, dark_then}
use Rattle.tsb_laws.proofs.operation.Examples.ServedRuns.{brisk, brisk_count, brisk_consistent, cars, run, run_taken, run_dark}
use Rattle.tsb_laws.proofs.operation.Examples.PatternWaitRuns.{round, round_count, round_consistent, round_taken, round_dark, so_far}
use Rattle.tsb_laws.proofs.operation.Examples.PreemptStageRuns.{engine, began, begun_engine}

-- ## A green that ends by its gap: 1 is on recall and may end in its second tick

abbrev before : List Input
before = Tick all_off ∷ []

taken : AreTaken brief before
unfolding opened brief
taken = (tt, refl)

dark : (replay brief before).trip ≡ None
unfolding opened brief
dark = refl

was_green : interval (replay brief before) 1 ≡ Green
unfolding opened brief
was_green = refl

ends : interval (replay brief (Tick all_off ∷ before)) 1 ≡ Yellow
unfolding opened brief
ends = refl

record GreenEnd (plan : Plan) (is : List Input) (row : Row) (p : ℕ) : Type 0 where
  consistent : IsConsistent plan
  few : plan.phase_count ≤ 16
  taken : AreTaken plan is
  untripped : (replay plan is).trip ≡ None
  ended : EndsGreen plan is row p

a_green_end : GreenEnd brief before all_off 1
a_green_end = record {
  consistent = brief_known.consistent;
  few = brief_known.few;
  taken = taken;
  untripped = dark;
  ended = record { was_green = was_green; ends = λ h. (let bad : Yellow ≡ Green = sym ends ∙ h in absurd cc) };
}

-- a green that ends in a tick is not Green after it
ends_so : (plan : Plan) (is : List Input) (row : Row) (p : ℕ) → interval (replay plan is) p ≡ Green → interval (replay plan (Tick row ∷ is)) p ≡ Yellow →
    EndsGreen plan is row p
ends_so plan is row p was yellow = record { was_green = was; ends = λ h. (let bad : Yellow ≡ Green = sym yellow ∙ h in absurd cc) }

-- ## A green that ends by its maximum: an output of 1 is on all the time, and it has had a conflict for 10 ticks

-- the interval of 1 now and a tick later, whether it has no output, the maximum that acts, and whether there is a conflict
abbrev Maximum : Type 0
Maximum = Interval × Interval × Bool × Option ℕ × Bool

abbrev at_maximum : State → Maximum
at_maximum s = (interval s 1, interval (step s (Tick cars)) 1, has_no_output 1 s cars, maximum_acting s 1, has_conflict 1 s cars)

at_10 : at_maximum (replay brisk (run 10)) ≡ (Green, Yellow, false, Some 10, true)
unfolding opened brisk
at_10 = refl

in_conflict_for_10 : ticks_in_green (in_ticks (has_conflict 1)) 1 brisk (run 10) ≡ 10
unfolding opened brisk
in_conflict_for_10 = refl

a_maximum_end : GreenEnd brisk (run 10) cars 1
a_maximum_end = record {
  consistent = brisk_consistent;
  few = (let count = brisk_count.0 in omega (arith, count));
  taken = run_taken 10 (omega arith);
  untripped = run_dark 10 (omega arith);
  ended = ends_so brisk (run 10) cars 1 (ap (λ (x : Maximum). x.0) at_10) (ap (λ (x : Maximum). x.1) at_10);
}

by_maximum : IsByMaximum brisk 1 (run 10) cars
by_maximum = record {
  maximum = 10;
  acts = ap (λ (x : Maximum). x.3) at_10;
  conflict = ap (λ (x : Maximum). x.4) at_10;
  long = (let at = in_conflict_for_10 in omega (arith, at));
}

-- ## Greens that end by their force-off: 2 is coordinated and ends in tick 21, 4 is not and ends in tick 60

-- no preempt is in service, and pattern 1 runs
record AtForceOff (p n : ℕ) (is_held : Bool) : Type 0 where
  was_green : interval (replay round (so_far n)) p ≡ Green
  ends : interval (replay round (Tick (vehicle 4) ∷ so_far n)) p ≡ Yellow
  quiet : service (replay round (so_far n)) (vehicle 4) ≡ None
  runs : runs (replay round (so_far n)) ≡ Some 1
  held : hold (replay round (so_far n)) p ≡ is_held

-- the same of a state, and whether the phase has no output
abbrev ForcedOff : Type 0
ForcedOff = Interval × Interval × Option ℕ × Option ℕ × Bool × Bool

abbrev forced_off : ℕ → State → ForcedOff
forced_off p s = (interval s p, interval (step s (Tick (vehicle 4))) p, service s (vehicle 4), runs s, hold s p, has_no_output p s (vehicle 4))

at_force_off : (p n : ℕ) (is_held no_output : Bool) → forced_off p (replay round (so_far n)) ≡ (Green, Yellow, None, Some 1, is_held, no_output) →
    AtForceOff p n is_held
at_force_off p n is_held no_output h = record {
  was_green = ap (λ (x : ForcedOff). x.0) h;
  ends = ap (λ (x : ForcedOff). x.1) h;
  quiet = ap (λ (x : ForcedOff). x.2) h;
  runs = ap (λ (x : ForcedOff). x.3) h;
  held = ap (λ (x : ForcedOff). x.4) h;
}

ends_2 : forced_off 2 (replay round (so_far 20)) ≡ (Green, Yellow, None, Some 1, true, true)
unfolding opened round
ends_2 = refl

coordinated_2 : AtForceOff 2 20 true
coordinated_2 = at_force_off 2 20 true true ends_2

-- an output of 4 is on, so that no gap ends it
has_output_4 : forced_off 4 (replay round (so_far 59)) ≡ (Green, Yellow, None, Some 1, false, false)
unfolding opened round
has_output_4 = refl

other_4 : AtForceOff 4 59 false
other_4 = at_force_off 4 59 false false has_output_4

a_forced_end : (p n : ℕ) (is_held : Bool) → n ≤ 200 → AtForceOff p n is_held → GreenEnd round (so_far n) (vehicle 4) p
a_forced_end p n is_held low it = record {
  consistent = round_consistent;
  few = (let count = round_count.0 in omega (arith, count));
  taken = round_taken n (omega (arith, low));
  untripped = round_dark n (omega (arith, low));
  ended = ends_so round (so_far n) (vehicle 4) p it.was_green it.ends;
}

a_coordinated_end : GreenEnd round (so_far 20) (vehicle 4) 2
a_coordinated_end = a_forced_end 2 20 true (omega arith) coordinated_2

another_end : GreenEnd round (so_far 59) (vehicle 4) 4
another_end = a_forced_end 4 59 false (omega arith) other_4

-- ## A green that a preempt ends: 2 is Green from tick 32 on, and ends in tick 42

abbrev served_first : List Input
served_first = ticks all_off 38 ++ began

-- the interval of 2 now and a tick later, the preempt in service, and whether 2 must end
abbrev Preempted : Type 0
Preempted = Interval × Interval × Option ℕ × Bool

abbrev preempted : State → Preempted
preempted s = (interval s 2, interval (step s (Tick all_off)) 2, service s all_off, must_end s all_off 2)

at_preempt : preempted (replay engine served_first) ≡ (Green, Yellow, Some 1, true)
unfolding opened engine
at_preempt = refl

lasted_10 : green_for engine 2 served_first ≡ 10
unfolding opened engine
lasted_10 = refl

a_preempted_end : GreenEnd engine served_first all_off 2
a_preempted_end = record {
  consistent = begun_engine.known.consistent;
  few = begun_engine.known.few;
  taken = all_taken engine all_off began 38 begun_engine.taken in_time;
  untripped = dark_then engine all_off began begun_engine.known.consistent begun_engine.taken begun_engine.unlit 38 in_time;
  ended = ends_so engine served_first all_off 2 (ap (λ (x : Preempted). x.0) at_preempt) (ap (λ (x : Preempted). x.1) at_preempt);
}
  where
    in_time : (replay engine began).now + 38 ≤ 1000
    in_time = let at = begun_engine.now in omega (arith, at)

-- ## A gap that ends a green before its added initial

-- 2 has counted 4 vehicles, of 20 ticks each, and has been Green for 59 ticks
unfoldable queued : Plan
queued = with_values quad ((PhaseVariableInitial, 2, 1) ∷ (PhaseAddedInitial, 2, 20) ∷ (PhaseMaximumInitial, 2, 10) ∷ [])

abbrev after_queue : State
after_queue = record resting { plan = queued; memories = record (called (1 ∷ [])) { count = λ p. if p == 2 then 4 else 0 } }

is_not_ready : ready after_queue all_off 2 ≡ false
unfolding opened queued
is_not_ready = refl

would_end : may_end queued (phases_given after_queue all_off) 2 (phase_read after_queue 2) ≡ true
unfolding opened queued
would_end = refl

-- ## A gap that ends a green on maximum recall

unfoldable recalled : Plan
recalled = with_values quad ((PhaseMaxRecall, 2, 1) ∷ [])

abbrev on_recall : State
on_recall = record resting { plan = recalled; memories = called (1 ∷ []) }

stays_green : ready on_recall all_off 2 ≡ false
unfolding opened recalled
stays_green = refl

would_gap_out : is_gapped recalled (phases_given on_recall all_off) 2 (held_of (phase_read on_recall 2)) ≡ true
unfolding opened recalled
would_gap_out = refl

-- ## A preempt that ends what it wants

is_wanted : must_end (dwelling 9) all_off 3 ≡ false
unfolding opened
is_wanted = refl

abbrev ends_every : State → Row → Bool
ends_every s row = is_some (service s row)

would_end_3 : ends_every (dwelling 9) all_off ≡ true
unfolding opened
would_end_3 = refl
