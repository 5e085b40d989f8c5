-- Runs from power-up in which a preempt is in its stages, and mistakes that the laws of these refuse.
use Rattle.std.proofs.Common.{◌≡◌, ◌∙◌, ℕ, suc, ◌+◌, ◌*◌, ◌≤◌, Bool, true, false, not, if◌then◌else◌, min, List, [], ◌∷◌, ◌++◌, Some, None, refl, sym, ap, arith}
use Rattle.tsb_step.specs.tsb_cells.declared.timer.Timer.TheVariants.{Off, On}
use Rattle.tsb_step.specs.tsb_types.Sets.{all_off, set_of_detectors}
use Rattle.tsb_step.specs.tsb_types.declared.interval.Interval.{Interval}
use Rattle.tsb_step.specs.tsb_types.declared.row.Row.{Row}
use Rattle.tsb_step.specs.tsb_types.declared.stage.Stage.{Stage}
use Rattle.tsb_step.specs.tsb_types.declared.stage.Stage.TheVariants.{Dwell, Exit}
use Rattle.tsb_step.specs.tsb_plan.declared.object.Object.{Object}
use Rattle.tsb_step.specs.tsb_plan.declared.object.Object.TheVariants.{PhaseEnabled, PhaseRing, PhaseSide, PhaseMinimumGreen, PhaseMaximum1, PhaseMaximum2, PhaseYellowChange, PhaseRedClear, PhaseRedRevert, UnitRedRevert, VehicleDetectorCallPhase, SequenceData, PreemptMinimumGreen, PreemptMinimumWalk, PreemptEnterPedClear, PreemptTrackGreen, PreemptDwellPhase, PreemptExitPhase}
use Rattle.tsb_step.specs.tsb_plan.Objects.{greatest}
use Rattle.tsb_step.specs.tsb_plan.Parts.{is_dwell_phase, preempt_minimum_green, track_green}
use Rattle.tsb_step.specs.tsb_plan.Plan.{Plan, all_counts, empty, with_values, yellow_change, red_clear, red_revert}
use Rattle.tsb_step.specs.tsb_plan.Quad.{quad}
use Rattle.tsb_step.specs.tsb_phase.Pedestrian.{walk_time, clearance_time}
use Rattle.tsb_step.specs.tsb_preempt.Service as preempt_service
use Rattle.tsb_step.specs.tsb_preempt.Service.{has_track, all_green}
use Rattle.tsb_step.specs.tsb_rules.Rules.{first_broken}
use Rattle.tsb_step.specs.tsb_ring.declared.want.Want.{Want}
use Rattle.tsb_step.specs.tsb_ring.declared.want.Want.TheVariants.{Cross, Rest, Stop}
use Rattle.tsb_step.specs.tsb_ring.Rings.{Ring1}
use Rattle.tsb_step.specs.tsb_ring.Wants.{is_targeted_elsewhere, want_of}
use Rattle.tsb_step.specs.declared.inputs.Input.{Input}
use Rattle.tsb_step.specs.declared.inputs.Input.TheVariants.{Tick, Switch}
use Rattle.tsb_step.specs.State.{State, interval}
use Rattle.tsb_step.specs.Tick.{rings_given}
use Rattle.tsb_step.specs.Runs.{replay, AreTaken}
use Rattle.tsb_step.specs.Laws.{IsConsistent, is_unlit}
use Rattle.tsb_step.proofs.Examples.Scenes.{opened, after, preempt, resting}
use Rattle.tsb_laws.specs.Stretches.{IsUntripped, has_held_since, has_no_trails, largest}
use Rattle.tsb_laws.specs.CoordinatedGreens.{HasGoneOn}
use Rattle.tsb_laws.specs.PreemptDwells.{BeginsService, is_served, has_arrived}
use Rattle.tsb_laws.specs.PreemptStages.{is_in_stage, serves_stage, StageTakesAtMost, time_to_dwell}
use Rattle.tsb_laws.proofs.safety.Examples.PlanFits.{Fits, consistent}
use Rattle.tsb_laws.proofs.safety.Examples.TickRuns.{ticks, largest_then, all_taken, none_trail, none_trips}
use Rattle.tsb_laws.proofs.safety.Examples.StretchRuns.{gone, goes_on, held_since, values_alone_fit}

-- ## Preempt 1 dwells with 4, across the barrier from 1 and 2, and leaves by 2: one ring, and small times

-- 2, 4 and the preempt have a minimum green of 10 ticks; a yellow lasts for 3 s, and there is no red clearance
abbrev pub engine_values : List (Object × ℕ × ℕ)
engine_values =
    (PhaseEnabled, 1, 1) ∷ (PhaseEnabled, 2, 1) ∷ (PhaseEnabled, 4, 1) ∷ (PhaseRing, 1, 1) ∷ (PhaseRing, 2, 1) ∷ (PhaseRing, 4, 1) ∷
    (PhaseSide, 1, 1) ∷ (PhaseSide, 2, 1) ∷ (PhaseSide, 4, 2) ∷ (PhaseMinimumGreen, 2, 1) ∷ (PhaseMinimumGreen, 4, 1) ∷
    (PhaseMaximum1, 1, 2) ∷ (PhaseMaximum1, 2, 2) ∷ (PhaseMaximum1, 4, 2) ∷ (PhaseMaximum2, 1, 2) ∷ (PhaseMaximum2, 2, 2) ∷ (PhaseMaximum2, 4, 2) ∷
    (PhaseYellowChange, 1, 30) ∷ (PhaseYellowChange, 2, 30) ∷ (PhaseYellowChange, 4, 30) ∷
    (VehicleDetectorCallPhase, 1, 1) ∷ (VehicleDetectorCallPhase, 2, 2) ∷ (VehicleDetectorCallPhase, 4, 4) ∷
    (SequenceData, 1, 1) ∷ (SequenceData, 2, 2) ∷ (SequenceData, 3, 4) ∷
    (PreemptDwellPhase, 1, 8) ∷ (PreemptExitPhase, 1, 2) ∷ (PreemptMinimumGreen, 1, 1) ∷ []

unfoldable pub engine : Plan
engine = with_values empty engine_values

-- the greatest of these times
abbrev pub limit : Object → ℕ
limit PreemptMinimumGreen = 1
limit PreemptMinimumWalk = 0
limit PreemptEnterPedClear = 0
limit PreemptTrackGreen = 0
limit PhaseYellowChange = 30
limit PhaseRedClear = 0
limit PhaseRedRevert = 0
limit UnitRedRevert = 0
limit o = greatest o

-- what is asked of it
pub record AnEngine (plan : Plan) : Type 0 where
  pub consistent : IsConsistent plan
  pub untrailed : has_no_trails plan ≡ true
  pub few : plan.phase_count ≤ 16
  pub fits : Fits limit plan.value

engine_count : (engine.phase_count ≡ 16) × (engine.counts ≡ all_counts)
unfolding engine
engine_count = (refl, refl)

engine_breaks_none : first_broken engine ≡ None
unfolding opened engine
engine_breaks_none = refl

engine_fits : Fits limit engine.value
unfolding engine
engine_fits = values_alone_fit limit engine_values refl

engine_untrailed : has_no_trails engine ≡ true
unfolding opened engine
engine_untrailed = refl

pub an_engine : AnEngine engine
an_engine = record {
  untrailed = engine_untrailed;
  consistent = consistent limit engine engine_count engine_breaks_none engine_fits;
  few = (let count = engine_count.0 in omega (arith, count));
  fits = engine_fits;
}

-- a run that is known as far as its newest input
pub record Begun (plan : Plan) (base : List Input) : Type 0 where
  pub known : AnEngine plan
  pub taken : AreTaken plan base
  pub unlit : is_unlit plan base ≡ true
  pub now : (replay plan base).now ≡ 3
  pub plan_is : (replay plan base).plan ≡ plan

module _ (plan : Plan) (base : List Input) (it : Begun plan base) (n : ℕ) (low : n ≤ 500) where
  in_time : (replay plan base).now + n ≤ 1000
  in_time = let at = it.now in omega (arith, at, low)

  pub taken_for : AreTaken plan (ticks all_off n ++ base)
  taken_for = all_taken plan all_off base n it.taken in_time

  pub untripped_for : IsUntripped plan base (ticks all_off n)
  untripped_for = none_trips plan all_off base it.known.consistent it.taken it.unlit n in_time

  -- no time of a plan in memory is longer
  pub most : (time : Plan → ℕ) (m : ℕ) → time plan ≤ m → largest time plan base (ticks all_off n) ≤ m
  most time m h = let same = largest_then plan all_off base time n in let own = ap time it.plan_is in omega (arith, same, own, h)

  fits : Fits limit plan.value
  fits = it.known.fits

  pub takes : StageTakesAtMost plan base 1 10 0 30 (ticks all_off n)
  takes = record {
    untrailed = none_trail plan all_off base n (ap has_no_trails it.plan_is ∙ it.known.untrailed);
    green = (let a : plan.value PreemptMinimumGreen 1 ≤ 1 = fits.bounded PreemptMinimumGreen 1 in most (λ x. preempt_minimum_green x 1) 10 (ten (plan.value PreemptMinimumGreen 1) a));
    walk = λ p. sum (largest (λ x. walk_time x p (Some 1)) plan base (ticks all_off n)) (largest (λ x. clearance_time x p (Some 1)) plan base (ticks all_off n)) 0 0
        (most (λ x. walk_time x p (Some 1)) 0 (walks p)) (most (λ x. clearance_time x p (Some 1)) 0 (clears p));
    clearance = λ p. sum (largest (λ x. yellow_change x p) plan base (ticks all_off n)) (largest (λ x. red_clear x p) plan base (ticks all_off n)) 30 0
        (most (λ x. yellow_change x p) 30 (fits.bounded PhaseYellowChange p)) (most (λ x. red_clear x p) 0 (fits.bounded PhaseRedClear p));
    revert = λ p. (let a = most (λ x. red_revert x p) 0 (reverts p) in omega (arith, a));
  }
    where
      ten : (a : ℕ) → a ≤ 1 → 10 * a ≤ 10
      ten a h = omega (arith, h)

      sum : (a b c d : ℕ) → a ≤ c → b ≤ d → a + b ≤ c + d
      sum a b c d h k = omega (arith, h, k)

      shortest : (a b : ℕ) → b ≤ 0 → min (10 * a) (10 * b) ≤ 0
      shortest a b h = omega (arith, h)

      walks : (p : ℕ) → walk_time plan p (Some 1) ≤ 0
      walks p = shortest _ (plan.value PreemptMinimumWalk 1) (fits.bounded PreemptMinimumWalk 1)

      clears : (p : ℕ) → clearance_time plan p (Some 1) ≤ 0
      clears p = shortest _ (plan.value PreemptEnterPedClear 1) (fits.bounded PreemptEnterPedClear 1)

      reverts : (p : ℕ) → red_revert plan p ≤ 0
      reverts p =
          let a : plan.value PhaseRedRevert p ≤ 0 = fits.bounded PhaseRedRevert p in
          let b : plan.value UnitRedRevert 1 ≤ 0 = fits.bounded UnitRedRevert 1 in omega (arith, a, b)

  pub tracks : largest (λ x. track_green x 1) plan base (ticks all_off n) ≤ 0
  tracks = (let a : plan.value PreemptTrackGreen 1 ≤ 0 = fits.bounded PreemptTrackGreen 1 in most (λ x. track_green x 1) 0 (none (plan.value PreemptTrackGreen 1) a))
    where
      none : (a : ℕ) → a ≤ 0 → 10 * a ≤ 0
      none a h = omega (arith, h)

-- ## It begins in tick 3, as 1 clears: ring 1 is committed to 2, which is Green from tick 32 on

-- a car at 1 and one at 2 have been there in tick 1
abbrev both : Row
both = record all_off { vehicles = set_of_detectors 3 }

abbrev pub asked : List Input
asked = Switch 1 true ∷ Tick all_off ∷ Tick both ∷ []

abbrev pub began : List Input
began = Tick all_off ∷ asked

pub begun_engine : Begun engine began
unfolding opened engine
begun_engine = record { known = an_engine; taken = ((((tt, refl), refl), refl), refl); unlit = refl; now = refl; plan_is = refl }

pub begins : BeginsService engine asked all_off 1
unfolding opened engine
begins = refl

no_track : has_track (replay engine asked).plan 1 ≡ false
unfolding opened engine
no_track = refl

-- it is in its dwell from then on, and 4 is Green after 69 ticks and not before
pub dwells_on : (gone (λ s i. is_in_stage 1 Dwell s.preempts.service) (replay engine began) (ticks all_off 70)).1 ≡ true
unfolding opened engine
dwells_on = refl

serves_on : (gone (λ s i. is_served 1 s.preempts.service) (replay engine began) (ticks all_off 70)).1 ≡ true
unfolding opened engine
serves_on = refl

waits_for_4 : (gone (λ s i. not (serves_stage 1 Dwell s)) (replay engine began) (ticks all_off 69)).1 ≡ true
unfolding opened engine
waits_for_4 = refl

serves_4 : serves_stage 1 Dwell (replay engine (ticks all_off 69 ++ began)) ≡ true
unfolding opened engine
serves_4 = refl

has_come : has_arrived 1 (replay engine (ticks all_off 69 ++ began)) ≡ true
unfolding opened engine
has_come = refl

record Stretch (plan : Plan) (base later : List Input) (n : ℕ) (stage : Stage) (g w c : ℕ) : Type 0 where
  consistent : IsConsistent plan
  few : plan.phase_count ≤ 16
  taken : AreTaken plan (later ++ base)
  untripped : IsUntripped plan base later
  held : has_held_since (λ s. is_in_stage n stage s.preempts.service) plan base later ≡ true
  times : StageTakesAtMost plan base n g w c later

-- a test of the state has held over n ticks, where it is computed for one more
pub held_for : (test : State → Bool) (plan : Plan) (base : List Input) (n : ℕ) → (gone (λ s i. test s) (replay plan base) (ticks all_off (suc n))).1 ≡ true →
    has_held_since test plan base (ticks all_off n) ≡ true
held_for test plan base n h = go (goes_on (λ s i. test s) plan base (ticks all_off (suc n)) h)
  where
    go : HasGoneOn (λ s i. test s) plan base (ticks all_off (suc n)) → has_held_since test plan base (ticks all_off n) ≡ true
    go all = held_since test plan base (ticks all_off n) all.1 all.0

a_stage : Stretch engine began (ticks all_off 69) 1 Dwell 10 0 30
a_stage = record {
  consistent = an_engine.consistent;
  few = an_engine.few;
  taken = taken_for engine began begun_engine 69 (omega arith);
  untripped = untripped_for engine began begun_engine 69 (omega arith);
  held = held_for (λ s. is_in_stage 1 Dwell s.preempts.service) engine began 69 dwells_on;
  times = takes engine began begun_engine 69 (omega arith);
}

record Service (plan : Plan) (is later : List Input) (row : Row) (n g w c t limit : ℕ) : Type 0 where
  consistent : IsConsistent plan
  few : plan.phase_count ≤ 16
  taken : AreTaken plan (later ++ (Tick row ∷ is))
  untripped : IsUntripped plan (Tick row ∷ is) later
  begins : BeginsService plan is row n
  held : has_held_since (λ s. is_served n s.preempts.service) plan (Tick row ∷ is) later ≡ true
  times : StageTakesAtMost plan (Tick row ∷ is) n g w c later
  green : largest (λ x. track_green x n) plan (Tick row ∷ is) later ≤ t
  due : limit ≡ time_to_dwell (has_track (replay plan is).plan n) g w c t

a_dwell : Service engine asked (ticks all_off 69) all_off 1 10 0 30 0 (time_to_dwell false 10 0 30 0)
a_dwell = record {
  consistent = an_engine.consistent;
  few = an_engine.few;
  taken = taken_for engine began begun_engine 69 (omega arith);
  untripped = untripped_for engine began begun_engine 69 (omega arith);
  begins = begins;
  held = held_for (λ s. is_served 1 s.preempts.service) engine began 69 serves_on;
  times = takes engine began begun_engine 69 (omega arith);
  green = tracks engine began begun_engine 69 (omega arith);
  due = sym (ap (λ (b : Bool). time_to_dwell b 10 0 30 0) no_track);
}

-- ## Its exit: switched on at power-up, it has 4 Green after tick 2; from tick 3 on it is in its exit, for which 4 has to end

abbrev pub left : List Input
left = Tick all_off ∷ Switch 1 false ∷ Tick all_off ∷ Tick all_off ∷ Switch 1 true ∷ []

pub begun_exit : Begun engine left
unfolding opened engine
begun_exit = record { known = an_engine; taken = (((((tt, refl), refl), refl), refl), refl); unlit = refl; now = refl; plan_is = refl }

-- it lasts for 39 ticks, and the next ends the service
leaves_on : (gone (λ s i. is_in_stage 1 Exit s.preempts.service) (replay engine left) (ticks all_off 40)).1 ≡ true
unfolding opened engine
leaves_on = refl

is_out : (replay engine (ticks all_off 40 ++ left)).preempts.service ≡ None
unfolding opened engine
is_out = refl

an_exit : Stretch engine left (ticks all_off 39) 1 Exit 10 0 30
an_exit = record {
  consistent = an_engine.consistent;
  few = an_engine.few;
  taken = taken_for engine left begun_exit 39 (omega arith);
  untripped = untripped_for engine left begun_exit 39 (omega arith);
  held = held_for (λ s. is_in_stage 1 Exit s.preempts.service) engine left 39 leaves_on;
  times = takes engine left begun_exit 39 (omega arith);
}

-- ## A preempt whose rings rest where it wants phases across the barrier: 2 and 6 are Green, and it wants 3 and 8

wants_to_cross : want_of quad resting.rings (rings_given resting (preempt 1)) Ring1 ≡ Some Cross
unfolding opened
wants_to_cross = refl

abbrev rests_here : Want
rests_here = if is_targeted_elsewhere quad resting.rings (is_dwell_phase quad 1) then Rest else Stop

-- so they would be Green for ever
would_rest : rests_here ≡ Rest
unfolding opened
would_rest = refl

-- ## An exit that the phases of the dwell end: the exit phases 2 and 6 are Green, the dwell phases are 3 and 8

unfoldable leads_back : Plan
leads_back = with_values quad ((PreemptExitPhase, 1, 34) ∷ [])

abbrev leaving : preempt_service.Service
leaving = record { preempt = 1; stage = Exit; timer = On 200; stage_timer = Off }

abbrev leaves : State
leaves = record resting { plan = leads_back; preempts = record (resting.preempts) { service = Some leaving } }

is_over : (after leaves all_off).preempts.service ≡ None
unfolding opened leads_back
is_over = refl

abbrev ends_by_dwell : Plan → (ℕ → Interval) → Bool
ends_by_dwell plan interval = all_green plan interval (is_dwell_phase plan 1)

would_stay : ends_by_dwell leads_back (interval leaves) ≡ false
unfolding opened leads_back
would_stay = refl
