-- Runs from power-up that meet all premises of the laws of walks that begin within a green, and mistakes that these
-- laws refuse.
use Rattle.std.proofs.Common.{◌≡◌, ℕ, zero, suc, ◌+◌, ◌-◌, ◌<◌, ◌≤◌, Bool, true, false, not, ◌&&◌, ◌||◌, if◌then◌else◌, List, [], ◌∷◌, ◌++◌, Option, Some, None, is_some, is_none, option_map, refl, sym, ap, arith, ◌∙◌}
use Rattle.std.proofs.lemmas.Bool.{and_from, true≢false, and_right, and_left}
use Rattle.tsb_step.specs.tsb_cells.Timer.{has_reached}
use Rattle.tsb_step.specs.tsb_cells.declared.timer.Timer.TheVariants.{On}
use Rattle.tsb_step.specs.tsb_types.Lists.{run_from}
use Rattle.tsb_step.proofs.tsb_types.FirstLemmas.{first-none}
use Rattle.tsb_step.proofs.tsb_types.SetLemmas.{names-zero}
use Rattle.tsb_step.specs.tsb_types.Sets.{all_off, has_number}
use Rattle.tsb_step.specs.tsb_types.declared.interval.Interval.TheVariants.{Green}
use Rattle.tsb_step.specs.tsb_types.declared.interval.PedestrianInterval.TheVariants.{DontWalk, Walk, PedestrianClear}
use Rattle.tsb_step.specs.tsb_types.declared.row.Row.{Row}
use Rattle.tsb_step.specs.tsb_plan.declared.object.Object.{Object}
use Rattle.tsb_step.specs.tsb_plan.declared.object.Object.TheVariants.{PhaseWalk, PhasePedestrianClear, PhaseRedClear, PatternOffsetTime, PhasePedestrianRecycle}
use Rattle.tsb_step.specs.tsb_plan.Objects.{greatest}
use Rattle.tsb_step.specs.tsb_plan.Parts.{cycle, preempt_delay}
use Rattle.tsb_step.specs.tsb_plan.Plan.{Plan, all_counts, walk, pedestrian_clear, rests_in_walk, with_values}
use Rattle.tsb_step.specs.tsb_plan.Quad.{quad}
use Rattle.tsb_step.specs.tsb_rules.Rules.{first_broken}
use Rattle.tsb_step.specs.tsb_coord.declared.correction.Correction.{Correction}
use Rattle.tsb_step.specs.tsb_coord.Coordinated.{local, force_off, asks_force_off, walk_and_clearance, is_left}
use Rattle.tsb_step.specs.tsb_coord.Correction.{in_step}
use Rattle.tsb_step.proofs.tsb_coord.ClockLemmas.{counts_from_tick_0}
use Rattle.tsb_step.proofs.tsb_coord.CorrectionLemmas.{always_in_step}
use Rattle.tsb_step.specs.tsb_phase.Pedestrian.{pedestrian_now}
use Rattle.tsb_step.specs.tsb_preempt.Preempts.{Preempts, delay_timer, still_spent, requests, requesting, if_may_begin, beginning, going_on, service_by}
use Rattle.tsb_step.specs.tsb_preempt.Preempts as preempts
use Rattle.tsb_step.specs.tsb_preempt.Service.{Service, service_as_read, has_dwell}
use Rattle.tsb_step.specs.declared.inputs.Input.{Input}
use Rattle.tsb_step.specs.declared.inputs.Input.TheVariants.{Tick, Pattern}
use Rattle.tsb_step.specs.State.{State, interval, pedestrian_part}
use Rattle.tsb_step.specs.Signs.{watched, IsInStep}
use Rattle.tsb_step.specs.Step.{step}
use Rattle.tsb_step.specs.Tick.{preempts_given, new_service, service, runs, hold, forced, recycle, conflict, pedestrian_call, phases_given, phase_read, next}
use Rattle.tsb_step.specs.Runs.{replay, AreTaken}
use Rattle.tsb_step.specs.Laws.{IsConsistent, is_unlit}
use Rattle.tsb_step.proofs.Examples.Scenes.{opened, button}
use Rattle.tsb_step.proofs.GoodLemmas.{good_run}
use Rattle.tsb_laws.specs.Stretches.{IsUntripped}
use Rattle.tsb_laws.specs.CoordinatedGreens.{HasGoneOn}
use Rattle.tsb_laws.specs.RecycledWalks.{WalksAgain, MayWalkAgain, is_unheld, is_unforced}
use Rattle.tsb_laws.proofs.operation.pattern.InStepLemmas.{clocked_in, forces_as}
use Rattle.tsb_laws.proofs.operation.recycle.RecycleTimeLemmas.{IsRecycled, recycled_so}
use Rattle.tsb_laws.proofs.operation.recycle.RecycledRunLemmas.{calls_are_recycled}
use Rattle.tsb_laws.proofs.safety.Examples.PlanFits.{Fits, values_fit, quad_fits, consistent}
use Rattle.tsb_laws.proofs.safety.Examples.TickRuns.{ticks, now_then, plan_then, pattern_then, correction_then, all_taken, dark_then, none_trips}

-- ## 2 is coordinated, and its button is pressed in tick 2: its walk takes 10 ticks, its clearance 10, and 20 are left

-- its instant is 762, and local 742 is the second tick of pattern 1
abbrev walk_values : List (Object × ℕ × ℕ)
walk_values = (PhasePedestrianRecycle, 2, 1) ∷ (PhaseWalk, 2, 1) ∷ (PhasePedestrianClear, 2, 1) ∷ []

abbrev walking_values : List (Object × ℕ × ℕ)
walking_values = (PatternOffsetTime, 1, 6) ∷ (PhaseRedClear, 2, 8) ∷ walk_values

unfoldable walking : Plan
walking = with_values quad walking_values

walking_fits : Fits greatest walking.value
unfolding walking
walking_fits = values_fit greatest walking_values quad refl (quad_fits greatest refl refl)

walking_count : (walking.phase_count ≡ 16) × (walking.counts ≡ all_counts)
unfolding quad walking
walking_count = (refl, refl)

walking_breaks_none : first_broken walking ≡ None
unfolding opened walking
walking_breaks_none = refl

walking_consistent : IsConsistent walking
walking_consistent = consistent greatest walking walking_count walking_breaks_none walking_fits

few : walking.phase_count ≤ 16
few = let count = walking_count.0 in omega (arith, count)

abbrev started : List Input
started = Tick all_off ∷ Pattern 1 ∷ []

abbrev base : List Input
base = Tick (button 2) ∷ started

base_taken : AreTaken walking base
unfolding opened walking
base_taken = (((tt, refl), refl), refl)

starts_dark : (replay walking started).trip ≡ None
unfolding opened walking
starts_dark = refl

may_recycle_2 : recycle (replay walking started) 2 ≡ true
unfolding opened walking
may_recycle_2 = refl

recycled_2 : IsRecycled (replay walking started) 2
recycled_2 = recycled_so (replay walking started) 2 (good_run walking started walking_consistent base_taken.0) may_recycle_2

-- all but that is computed
record Computed : Type 0 where
  recycles : (replay walking started).plan.value PhasePedestrianRecycle 2 ≡ 1
  coordinated : hold (replay walking started) 2 ≡ true
  green : interval (replay walking started) 2 ≡ Green
  dont_walk : pedestrian_part (replay walking started) 2 ≡ DontWalk
  called : pedestrian_call (replay walking started) (button 2) 2 ≡ true
  quiet : service (replay walking started) (button 2) ≡ None
  unforced : ((replay walking started).phases 2).forced ≡ false

computed : Computed
unfolding opened walking
computed = record { recycles = refl; coordinated = refl; green = refl; dont_walk = refl; called = refl; quiet = refl; unforced = refl }

may_2 : MayWalkAgain (replay walking started) (button 2) 2
may_2 = record {
  recycles = rw computed.recycles refl;
  coordinated = computed.coordinated;
  green = computed.green;
  dont_walk = computed.dont_walk;
  called = computed.called;
  quiet = computed.quiet;
  unforced = ap (λ (b : Bool). b && conflict (replay walking started) (button 2) 2) computed.unforced;
  in_step = recycled_2.in_step;
  fits = recycled_2.fits;
}

record ASecondWalk (plan : Plan) (is : List Input) (row : Row) (p : ℕ) : Type 0 where
  consistent : IsConsistent plan
  few : plan.phase_count ≤ 16
  taken : AreTaken plan is
  untripped : (replay plan is).trip ≡ None
  may : MayWalkAgain (replay plan is) row p

a_second_walk : ASecondWalk walking started (button 2) 2
a_second_walk = record { consistent = walking_consistent; few = few; taken = base_taken.0; untripped = starts_dark; may = may_2 }

-- ## And 20 ticks later it is forced off

-- no preempt has an input, and none is in service
record NoPreempt (w : Preempts) : Type 0 where
  switches : (n : ℕ) → w.switch n ≡ false
  served : w.service ≡ None

module _ (s : State) (it : NoPreempt s.preempts) where
  abbrev given : preempts.Given
  given = preempts_given s all_off

  abbrev read : Preempts
  read = preempts.as_read s.preempts

  none_asks : (n : ℕ) → given.row n ≡ false → requests s.plan given read n ≡ false
  none_asks n off =
      and_right (has_dwell s.plan n)
      ((given.row n || s.preempts.switch n) && (has_reached (delay_timer given read n) (preempt_delay s.plan n) && not (still_spent given read n)))
      (and_left (given.row n || s.preempts.switch n) (has_reached (delay_timer given read n) (preempt_delay s.plan n) && not (still_spent given read n))
      (rw (off, it.switches n) refl))

  none_begins : beginning s.plan given read ≡ None
  unfolding beginning requesting
  none_begins =
      ap (λ (o : Option ℕ). if_may_begin read.service o)
      (first-none (requests s.plan given read) (run_from 1 s.plan.counts.preempts) (λ n. none_asks n (and_right (preempts.is_preempt n) (has_number all_off.preempts n) (names-zero n))))

  none_is_served : new_service s all_off ≡ None
  unfolding new_service preempts.new_service
  none_is_served =
      ap (λ (o : Option ℕ). service_by s.plan given read o) none_begins
      ∙ ap (λ (o : Option Service). going_on s.plan given read (service_as_read o)) it.served

  none_served_then : (next s all_off).preempts.service ≡ None
  unfolding new_service
  none_served_then = none_is_served

  quiet_now : service s all_off ≡ None
  quiet_now = ap (λ (o : Option Service). option_map (λ x. x.preempt) o) none_is_served

-- the preempts after a tick of a controller that has not tripped
preempts_then : (s : State) (row : Row) → s.trip ≡ None → (step s (Tick row)).preempts ≡ (next s row).preempts
unfolding step watched
preempts_then s row dark = go (is_some s.trip) (ap is_some dark)
  where
    go : (b : Bool) → b ≡ false →
        (if b then record s { now = s.now + 1 } else (if b then next s row else watched s (next s row))).preempts ≡ (next s row).preempts
    go true h = absurd (true≢false h)
    go false h = refl

none_then : (s : State) → s.trip ≡ None → NoPreempt s.preempts → NoPreempt (step s (Tick all_off)).preempts
none_then s dark it = record {
  switches = λ n. ap (λ (w : Preempts). w.switch n) (preempts_then s all_off dark) ∙ it.switches n;
  served = ap (λ (w : Preempts). w.service) (preempts_then s all_off dark) ∙ none_served_then s it;
}

-- the run so many ticks later
abbrev after : ℕ → List Input
after k = ticks all_off k ++ base

record AtBase : Type 0 where
  unlit : is_unlit walking base ≡ true
  now_is : (replay walking base).now ≡ 2
  plan_is : (replay walking base).plan ≡ walking
  pattern_is : (replay walking base).pattern ≡ Some 1
  correction_is : (replay walking base).correction ≡ in_step
  no_preempt : NoPreempt (replay walking base).preempts

at_base : AtBase
unfolding opened walking
at_base = record {
  unlit = refl;
  now_is = refl;
  plan_is = refl;
  pattern_is = refl;
  correction_is = refl;
  no_preempt = record { switches = λ n. refl; served = refl };
}

in_time : (k : ℕ) → k ≤ 900 → (replay walking base).now + k ≤ 1000
in_time k low = let now = at_base.now_is in omega (arith, now, low)

taken_then : (k : ℕ) → k ≤ 900 → AreTaken walking (after k)
taken_then k low = all_taken walking all_off base k base_taken (in_time k low)

ticked : (k : ℕ) → (replay walking (after k)).now ≡ k + 2
ticked k = let now = at_base.now_is in let later = now_then walking all_off base k in omega (arith, now, later)

same_plan : (k : ℕ) → (replay walking (after k)).plan ≡ walking
same_plan k = plan_then walking all_off base k ∙ at_base.plan_is

run_dark : (k : ℕ) → k ≤ 900 → (replay walking (after k)).trip ≡ None
run_dark k low = dark_then walking all_off base walking_consistent base_taken at_base.unlit k (in_time k low)

no_preempt : (k : ℕ) → k ≤ 900 → NoPreempt (replay walking (after k)).preempts
no_preempt zero low = at_base.no_preempt
no_preempt (suc k) low = none_then (replay walking (after k)) (run_dark k (omega (arith, low))) (no_preempt k (omega (arith, low)))

untripped : (k : ℕ) → k ≤ 900 → IsUntripped walking base (ticks all_off k)
untripped k low = none_trips walking all_off base walking_consistent base_taken at_base.unlit k (in_time k low)

-- 2 does not rest in walk
rests_not : rests_in_walk walking 2 ≡ false
unfolding opened walking
rests_not = refl

unheld : (k : ℕ) → k ≤ 900 → is_unheld (replay walking (after k)) all_off 2 ≡ true
unheld k low =
    and_from (is_none (service (replay walking (after k)) all_off))
    (not (rests_in_walk (replay walking (after k)).plan 2 && not (conflict (replay walking (after k)) all_off 2)))
    (ap is_none (quiet_now (replay walking (after k)) (no_preempt k low)))
    (ap (λ (b : Bool). not (b && not (conflict (replay walking (after k)) all_off 2))) (ap (λ (x : Plan). rests_in_walk x 2) (same_plan k) ∙ rests_not))

steps_so : (k : ℕ) → IsInStep (replay walking (after k))
steps_so k = always_in_step s.plan s.pattern s.correction s.now (ap (λ (c : Correction). c.ahead) (correction_then walking all_off base k ∙ at_base.correction_is))
  where
    s : State
    s = replay walking (after k)

-- no clock is set
from_tick_0 : (k t : ℕ) → clocked_in (replay walking (after k)) t ≡ t
from_tick_0 k t =
    counts_from_tick_0 s.plan s.pattern s.correction 0 t
    (ap (λ (c : Correction). c.midnight) (correction_then walking all_off base k ∙ at_base.correction_is))
  where
    s : State
    s = replay walking (after k)

forced_is : (k : ℕ) → forced (replay walking (after k)) 2 ≡ asks_force_off walking (k + 3) (Some 1) 2
forced_is k =
    forces_as s (s.now + 1) 2 (steps_so k) (omega arith)
    ∙ ap (λ (t : ℕ). asks_force_off s.plan t s.pattern 2) (from_tick_0 k (s.now + 1))
    ∙ ap (λ (x : Plan). asks_force_off x (s.now + 1) s.pattern 2) (same_plan k)
    ∙ (ap (λ (o : Option ℕ). asks_force_off walking (s.now + 1) o 2) (pattern_then walking all_off base k ∙ at_base.pattern_is)
    ∙ ap (λ (t : ℕ). asks_force_off walking t (Some 1) 2) (let now = ticked k in omega (arith, now)))
  where
    s : State
    s = replay walking (after k)

-- the walk and the clearance of tick 2 fit
record AtStart : Type 0 where
  now_is : (replay walking started).now ≡ 1
  plan_is : (replay walking started).plan ≡ walking
  pattern_is : (replay walking started).pattern ≡ Some 1
  correction_is : (replay walking started).correction ≡ in_step
  both : walk walking 2 + pedestrian_clear walking 2 ≡ 20

at_start : AtStart
unfolding opened walking
at_start = record { now_is = refl; plan_is = refl; pattern_is = refl; correction_is = refl; both = refl }

not_forced : (t : ℕ) → 2 ≤ t → t ≤ 21 → asks_force_off walking t (Some 1) 2 ≡ false
not_forced t from to =
    sym (ap (λ (x : Plan). asks_force_off x t (replay walking started).pattern 2) at_start.plan_is ∙ ap (λ (o : Option ℕ). asks_force_off walking t o 2) at_start.pattern_is)
    ∙ (sym (ap (λ (u : ℕ). asks_force_off (replay walking started).plan u (replay walking started).pattern 2) by_ticks)
    ∙ (sym (forces_as (replay walking started) t 2 recycled_2.in_step later)
    ∙ recycled_2.fits t later
    (let now = at_start.now_is in
    let both = at_start.both in
    let same = ap (λ (x : Plan). walk x 2 + pedestrian_clear x 2) at_start.plan_is in
    omega (arith, now, both, same, to))))
  where
    by_ticks : clocked_in (replay walking started) t ≡ t
    by_ticks =
        counts_from_tick_0 (replay walking started).plan (replay walking started).pattern (replay walking started).correction 0 t
        (ap (λ (c : Correction). c.midnight) at_start.correction_is)

    later : (replay walking started).now < t
    later = let now = at_start.now_is in omega (arith, now, from)

unforced_for : (k : ℕ) → k ≤ 19 → HasGoneOn (is_unforced 2) walking base (ticks all_off k)
unforced_for zero low = tt
unforced_for (suc k) low = (
  unforced_for k (omega (arith, low)),
  and_from (is_unheld (replay walking (after k)) all_off 2) (not (forced (replay walking (after k)) 2)) (unheld k (omega (arith, low)))
      (ap not (forced_is k ∙ not_forced (k + 3) (omega arith) (omega (arith, low)))),
)

record AWalkInTime (plan : Plan) (is later : List Input) (row last : Row) (p : ℕ) : Type 0 where
  consistent : IsConsistent plan
  few : plan.phase_count ≤ 16
  taken : AreTaken plan (later ++ (Tick row ∷ is))
  untripped : IsUntripped plan (Tick row ∷ is) later
  walks : WalksAgain (replay plan is) row p
  unforced : HasGoneOn (is_unforced p) plan (Tick row ∷ is) later
  comes : forced (replay plan (later ++ (Tick row ∷ is))) p ≡ true
  unheld : is_unheld (replay plan (later ++ (Tick row ∷ is))) last p ≡ true

-- it is forced off in tick 22
comes_at_22 : asks_force_off walking 22 (Some 1) 2 ≡ true
unfolding opened walking
comes_at_22 = refl

a_walk_in_time : AWalkInTime walking started (ticks all_off 19) (button 2) all_off 2
a_walk_in_time = record {
  consistent = walking_consistent;
  few = few;
  taken = taken_then 19 (omega arith);
  untripped = untripped 19 (omega arith);
  walks = (calls_are_recycled walking started (button 2) 2 walking_consistent few base_taken.0 starts_dark).walks may_2;
  unforced = unforced_for 19 (omega arith);
  comes = forced_is 19 ∙ comes_at_22;
  unheld = unheld 19 (omega arith);
}

-- ## Mistakes

-- a time fits up to the force-off instant
abbrev fits_by : (Plan → ℕ → ℕ) → State → ℕ → Bool
fits_by time s p = is_left (cycle s.plan 1) (time s.plan p) (local s.plan (s.now + 1) s.pattern) (force_off s.plan (runs s) p)

abbrev by_both : State → ℕ → Bool
by_both s p = fits_by (λ plan q. walk_and_clearance plan q) s p

-- the walk alone has to fit
abbrev walk_alone : State → ℕ → Bool
walk_alone s p = fits_by (λ plan q. walk plan q) s p

-- in the same plan with local 752 in the second tick, 10 ticks are left
unfoldable short : Plan
short = with_values quad ((PatternOffsetTime, 1, 5) ∷ (PhaseRedClear, 2, 8) ∷ walk_values)

does_not_fit : by_both (replay short started) 2 ≡ false
unfolding opened short
does_not_fit = refl

would_fit : walk_alone (replay short started) 2 ≡ true
unfolding opened short
would_fit = refl

-- 10 ticks later, when it is forced off, such a walk has just ended
would_still_clear : pedestrian_now short (phases_given (replay short started) all_off) 2
    (record (phase_read (replay short started) 2) { pedestrian = Walk; pedestrian_timer = On 10 }) ≡ PedestrianClear
unfolding opened short
would_still_clear = refl

-- a tick more has to fit
abbrev tick_more : State → ℕ → Bool
tick_more s p = fits_by (λ plan q. walk_and_clearance plan q + 1) s p

fits : by_both (replay walking started) 2 ≡ true
unfolding opened walking
fits = refl

would_wait : tick_more (replay walking started) 2 ≡ false
unfolding opened walking
would_wait = refl

-- a tick less does
abbrev tick_less : State → ℕ → Bool
tick_less s p = fits_by (λ plan q. walk_and_clearance plan q - 1) s p

-- with a red clearance that is a tick longer 19 are left
unfoldable shorter : Plan
shorter = with_values quad ((PatternOffsetTime, 1, 6) ∷ (PhaseRedClear, 2, 9) ∷ walk_values)

lacks_a_tick : by_both (replay shorter started) 2 ≡ false
unfolding opened shorter
lacks_a_tick = refl

would_begin : tick_less (replay shorter started) 2 ≡ true
unfolding opened shorter
would_begin = refl

-- 19 ticks later, when it is forced off, its clearance lacks one
would_lack_one : pedestrian_now shorter (phases_given (replay shorter started) all_off) 2
    (record (phase_read (replay shorter started) 2) { pedestrian = PedestrianClear; pedestrian_timer = On 9 }) ≡ PedestrianClear
unfolding opened shorter
would_lack_one = refl
