-- A green of a pattern that has its initial time, its walk and its pedestrian clearance behind it is ready by floating
-- force-off, by a maximum that acts in the pattern, and within its permissive time. Proves `floating_greens_are_ready`,
-- `maximums_end_greens_in_patterns` and `permissive_times_let_calls_in`.
use Rattle.std.proofs.Common.{◌≡◌, ℕ, ◌+◌, ◌≤◌, nat_le, nat_lt, Bool, true, false, not, ◌&&◌, ◌||◌, if◌then◌else◌, List, ◌++◌, Option, Some, None, is_some, is_none, refl, sym, ap, arith, ◌∙◌, inl, inr, ◌⊎◌}
use Rattle.std.proofs.lemmas.Bool.{or_left, or_right, false≢true}
use Rattle.std.proofs.lemmas.Bool.Decides.{nat_tests}
use Rattle.tsb_step.specs.tsb_cells.declared.timer.Timer.{Timer}
use Rattle.tsb_step.specs.tsb_cells.declared.timer.Timer.TheVariants.{Off, On}
use Rattle.tsb_step.specs.tsb_cells.Timer.{advanced, started, has_reached}
use Rattle.tsb_step.specs.tsb_types.declared.row.Row.{Row}
use Rattle.tsb_step.specs.tsb_types.Intervals.{is_green, in_service}
use Rattle.tsb_step.specs.tsb_types.Sets.{is_phase}
use Rattle.tsb_step.specs.tsb_plan.Plan.{Plan}
use Rattle.tsb_step.specs.tsb_plan.Parts.{cycle, permissive_time, floats, is_coordinated}
use Rattle.tsb_step.specs.tsb_plan.Running.{running, split_in_effect, coordinates_in, is_coordinated_now, split_green, floating_in, maximum_by_mode, pattern_maximum, floating_time}
use Rattle.tsb_step.specs.tsb_coord.Coordinated.{local_in, force_off, agree, is_from_to, is_forced_late, is_permitted, forces_off, asks_force_off}
use Rattle.tsb_step.specs.tsb_coord.Correction.{counted_tick}
use Rattle.tsb_step.specs.tsb_phase.Phase.{Phase, Given, held_of}
use Rattle.tsb_step.specs.tsb_phase.Green.{conflict_timer, has_reached_some, acting_maximum, is_gapped, is_by_gap, has_maxed_out, floats_off, forced_latch}
use Rattle.tsb_step.specs.tsb_phase.Ready.{has_timed_out, may_end}
use Rattle.tsb_step.specs.declared.inputs.Input.{Input}
use Rattle.tsb_step.specs.State.{State, interval}
use Rattle.tsb_step.specs.Tick.{service, runs, hold, forced, conflict, phases_given, phase_read, ready}
use Rattle.tsb_step.specs.Runs.{replay, AreTaken}
use Rattle.tsb_step.specs.Laws.{IsConsistent}
use Rattle.tsb_step.specs.TimeLaws.{held_for}
use Rattle.tsb_step.proofs.GoodLemmas.{good_run}
use Rattle.tsb_step.proofs.TellLemmas.{is_in_green, timers_tell_time}
use Rattle.tsb_laws.specs.Stretches.{IsUntripped}
use Rattle.tsb_laws.specs.GreenEnds.{HasFloated}
use Rattle.tsb_laws.specs.PatternEnds.{LacksOnlyItsEnd, HasWaitedInPattern, HasMaxedInPattern, next_counter, IsInPermissiveTime}
use Rattle.tsb_laws.proofs.safety.StretchLemmas.{dark_now}
use Rattle.tsb_laws.proofs.safety.DueLemmas.{count_run}
use Rattle.tsb_laws.proofs.operation.green.PressedGreenLemmas.{reached_all}
use Rattle.tsb_laws.proofs.operation.green.PressedRunLemmas.{is_one}
use Rattle.tsb_laws.proofs.operation.pattern.InStepLemmas.{forced_by_counter}
use Rattle.tsb_laws.proofs.operation.pattern.CoordinatedForceLemmas.{ready_by_end, ready_by, ended_by_none, told_conflict, floats_now, latches, ready_at_once}
use Rattle.tsb_laws.proofs.operation.pattern.CoordinatedRunLemmas.{forced_may_end}
use Rattle.tsb_laws.proofs.operation.pattern.PatternPressLemmas.{IsSame, same_on, held_as, HasItBehind, has_it_behind}

one_of : (plan : Plan) (is : List Input) (p : ℕ) → IsConsistent plan → plan.phase_count ≤ 16 → AreTaken plan is → in_service (interval (replay plan is) p) ≡ true →
    is_phase p ≡ true
one_of plan is p ok few taken serves =
    is_one (replay plan is).plan p (let same = count_run plan is in omega (arith, same, few)) ((good_run plan is ok taken).rings.listed p serves)

-- ## Floating force-off

-- some pattern runs, where there is a floating time
floats_in_pattern : (plan : Plan) (o : Option ℕ) (p time : ℕ) → floating_time plan o p ≡ Some time → is_some o ≡ true
floats_in_pattern plan None p time h = absurd cc
floats_in_pattern plan (Some n) p time h = refl

floats_true : (plan : Plan) (is : List Input) (row : Row) (p : ℕ) → IsConsistent plan → AreTaken plan is → (replay plan is).trip ≡ None →
    is_green (interval (replay plan is) p) ≡ true → HasFloated plan p is →
    floats_off (replay plan is).plan (phases_given (replay plan is) row) p (held_of (phase_read (replay plan is) p)) ≡ true
unfolding phases_given
floats_true plan is row p ok taken dark green it =
    ap (λ (o : Option ℕ). has_reached_some (phase_read (replay plan is) p).timer o) it.floating
    ∙ (ap (λ (t : Timer). has_reached t it.time) (ap advanced told) ∙ reached)
  where
    told : ((replay plan is).phases p).timer ≡ On (held_for (λ s. is_green (interval s p)) plan is)
    told = (timers_tell_time plan is ok taken dark p).green (is_in_green (interval (replay plan is) p) green)

    reached : nat_le it.time (held_for (λ s. is_green (interval s p)) plan is + 1) ≡ true
    reached = let long = it.long in grind (arith, nat_tests, long)

module _ (s : State) (row : Row) (p : ℕ) (on : is_phase p ≡ true) (it : LacksOnlyItsEnd s row p) where
  ready_by_floating : is_some (runs s) ≡ true → floats_off s.plan (phases_given s row) p (held_of (phase_read s p)) ≡ true → ready s row p ≡ true
  ready_by_floating running floats =
      ready_by s.plan (phases_given s row) p (phase_read s p) (ap is_green it.green) it.dont_walk (ended_by_none s row p on it.conflict it.quiet) it.initial
      (latches s row p on it.conflict it.quiet running
      ∙ or_right (forced s p) (floats_now s row p on it.conflict it.quiet || (s.phases p).forced)
      (or_left (floats_now s row p on it.conflict it.quiet) (s.phases p).forced floats))

pub floating_is_ready : (plan : Plan) (is : List Input) (row : Row) (p : ℕ) → IsConsistent plan → plan.phase_count ≤ 16 →
    AreTaken plan is → (replay plan is).trip ≡ None → LacksOnlyItsEnd (replay plan is) row p → HasFloated plan p is → ready (replay plan is) row p ≡ true
floating_is_ready plan is row p ok few taken dark it floated =
    ready_by_floating (replay plan is) row p (one_of plan is p ok few taken (ap in_service it.green)) it
    (floats_in_pattern (replay plan is).plan (runs (replay plan is)) p floated.time floated.floating)
    (floats_true plan is row p ok taken dark (ap is_green it.green) floated)

-- nor is there one of a coordinated phase
floats_alone : (plan : Plan) (o : Option ℕ) (p time : ℕ) → floating_time plan o p ≡ Some time → is_coordinated_now plan o p ≡ false
floats_alone plan o p time h = go (split_in_effect plan o) h
  where
    go : (t : Option ℕ) → floating_in plan t p ≡ Some time → coordinates_in plan t p ≡ false
    go None k = absurd cc
    go (Some t) k = among (floats plan) (is_coordinated plan t p) refl k
      where
        among : (f c : Bool) → is_coordinated plan t p ≡ c → (if f && not c then Some (split_green plan t p) else None) ≡ Some time → is_coordinated plan t p ≡ false
        among true true e m = absurd cc
        among true false e m = e
        among false c e m = absurd cc

-- what has waited for long enough lacks only its end
lacks_only : (s : State) (row : Row) (p n : ℕ) → HasItBehind s row p n → LacksOnlyItsEnd s row p
lacks_only s row p n it = record { green = it.green; conflict = it.conflict; quiet = it.quiet; initial = it.initial; dont_walk = it.dont_walk }

pub floating_may_end : (plan : Plan) (base later : List Input) (row : Row) (p n : ℕ) → IsConsistent plan → plan.phase_count ≤ 16 →
    AreTaken plan (later ++ base) → IsUntripped plan base later → HasWaitedInPattern plan base later row p n →
    HasFloated plan p (later ++ base) → ready (replay plan (later ++ base)) row p ≡ true
floating_may_end plan base later row p n ok few taken dark waited floated =
    floating_is_ready plan (later ++ base) row p ok few taken (dark_now plan base later dark)
    (lacks_only (replay plan (later ++ base)) row p n (has_it_behind plan base later row p n ok few taken dark waited other)) floated
  where
    same : IsSame plan base later
    same = same_on plan base later p dark waited.pressed.0

    other : hold (replay plan base) p ≡ false
    other = sym (held_as plan base later p same) ∙ floats_alone (replay plan (later ++ base)).plan (runs (replay plan (later ++ base))) p floated.time floated.floating

-- ## Maximums in patterns

-- a maximum acts in patterns on phases that are not coordinated
not_coordinated : (plan : Plan) (o : Option ℕ) (p m : ℕ) → pattern_maximum plan o p ≡ Some m → is_coordinated_now plan o p ≡ false
not_coordinated plan o p m h = go (is_coordinated_now plan o p) refl h
  where
    go : (b : Bool) → is_coordinated_now plan o p ≡ b → (if b then None else maximum_by_mode plan p) ≡ Some m → is_coordinated_now plan o p ≡ false
    go true e k = absurd cc
    go false e k = e

acts_so : (plan : Plan) (o : Option ℕ) (p m : ℕ) (run : Option ℕ) → is_some o ≡ true → pattern_maximum plan o p ≡ Some m → acting_maximum plan o p run ≡ Some m
acts_so plan None p m run h e = absurd (false≢true h)
acts_so plan (Some n) p m run h e = e

or_middle : (a m f : Bool) → m ≡ true → (a || (m || f)) ≡ true
or_middle true m f h = refl
or_middle false true f h = refl
or_middle false false f h = absurd (false≢true h)

may_end_maxed : (plan : Plan) (given : Given) (p : ℕ) (w : Phase) → given.hold p ≡ false → has_maxed_out plan given p (held_of w) w.running_maximum ≡ true →
    may_end plan given p w ≡ true
may_end_maxed plan given p w other h =
    ap (λ (b : Bool). if b && is_none given.service then forced_latch plan given p (held_of w) else has_timed_out plan given p w) other
    ∙ or_middle (is_by_gap plan given p (is_gapped plan given p (held_of w))) (has_maxed_out plan given p (held_of w) w.running_maximum)
    (forced_latch plan given p (held_of w)) h

module _ (s : State) (row : Row) (p m : ℕ) (on : is_phase p ≡ true) (it : LacksOnlyItsEnd s row p) (some : is_some (runs s) ≡ true)
    (acts : pattern_maximum s.plan (runs s) p ≡ Some m) (long : has_reached (conflict_timer (phases_given s row) p (held_of (phase_read s p))) m ≡ true) where
  told_hold : (phases_given s row).hold p ≡ false
  unfolding phases_given
  told_hold = ap (λ (b : Bool). b && hold s p) on ∙ not_coordinated s.plan (runs s) p m acts

  acts_now : acting_maximum s.plan (phases_given s row).runs p (phase_read s p).running_maximum ≡ Some m
  unfolding phases_given
  acts_now = acts_so s.plan (runs s) p m (phase_read s p).running_maximum some acts

  has_maxed : has_maxed_out s.plan (phases_given s row) p (held_of (phase_read s p)) (phase_read s p).running_maximum ≡ true
  has_maxed = ap (λ (o : Option ℕ). has_reached_some (conflict_timer (phases_given s row) p (held_of (phase_read s p))) o) acts_now ∙ long

  ready_by_maximum : ready s row p ≡ true
  ready_by_maximum =
      ready_by_end s.plan (phases_given s row) p (phase_read s p) (ap is_green it.green) it.dont_walk (ended_by_none s row p on it.conflict it.quiet) it.initial
      (may_end_maxed s.plan (phases_given s row) p (phase_read s p) told_hold has_maxed)

pub maximum_is_ready : (plan : Plan) (is : List Input) (row : Row) (p : ℕ) → IsConsistent plan → plan.phase_count ≤ 16 →
    AreTaken plan is → LacksOnlyItsEnd (replay plan is) row p → HasMaxedInPattern (replay plan is) row p → ready (replay plan is) row p ≡ true
maximum_is_ready plan is row p ok few taken it maxed =
    ready_by_maximum (replay plan is) row p maxed.maximum (one_of plan is p ok few taken (ap in_service it.green)) it (ap is_some maxed.runs)
    (ap (λ (o : Option ℕ). pattern_maximum (replay plan is).plan o p) maxed.runs ∙ maxed.acts) maxed.long

pub maximum_may_end : (plan : Plan) (base later : List Input) (row : Row) (p n m : ℕ) → IsConsistent plan → plan.phase_count ≤ 16 →
    AreTaken plan (later ++ base) → IsUntripped plan base later → HasWaitedInPattern plan base later row p n →
    pattern_maximum (replay plan base).plan (runs (replay plan base)) p ≡ Some m → m ≤ n → ready (replay plan (later ++ base)) row p ≡ true
maximum_may_end plan base later row p n m ok few taken dark waited acts within =
    ready_by_maximum (replay plan (later ++ base)) row p m it.on (lacks_only (replay plan (later ++ base)) row p n it) it.running acts_now long
  where
    it : HasItBehind (replay plan (later ++ base)) row p n
    it = has_it_behind plan base later row p n ok few taken dark waited (not_coordinated (replay plan base).plan (runs (replay plan base)) p m acts)

    same : IsSame plan base later
    same = same_on plan base later p dark waited.pressed.0

    acts_now : pattern_maximum (replay plan (later ++ base)).plan (runs (replay plan (later ++ base))) p ≡ Some m
    acts_now =
        ap (λ (x : Plan). pattern_maximum x (running x (replay plan (later ++ base)).pattern) p) same.plan_is
        ∙ (ap (λ (o : Option ℕ). pattern_maximum (replay plan base).plan (running (replay plan base).plan o) p) same.pattern_is ∙ acts)

    long : has_reached (conflict_timer (phases_given (replay plan (later ++ base)) row) p (held_of (phase_read (replay plan (later ++ base)) p))) m ≡ true
    long =
        ap (λ (b : Bool). has_reached (if b then started (advanced ((replay plan (later ++ base)).phases p).conflict) else Off) m)
        (told_conflict (replay plan (later ++ base)) row p it.on it.conflict it.quiet)
        ∙ reached_all m n ((replay plan (later ++ base)).phases p).conflict within it.long

-- ## The permissive time

-- it is forced off in the next tick
forced_permitted : (s : State) (p : ℕ) → IsInPermissiveTime s p → forced s p ≡ true
forced_permitted s p it =
    forced_by_counter s.plan s.pattern s.correction (s.now + 1) p asked
  where
    behind : (m l i t : ℕ) → ((i ≤ l) × (l ≤ i + t)) ⊎ (l + m ≤ i + t) → is_from_to m l i (i + t + 1) ≡ true
    behind m l i t (inl both) =
        let from = both.0 in
        let to = both.1 in
        or_left (nat_le i l && nat_lt l (i + t + 1)) (nat_lt (l + m) (i + t + 1)) (grind (arith, nat_tests, from, to))
    behind m l i t (inr over) = or_right (nat_le i l && nat_lt l (i + t + 1)) (nat_lt (l + m) (i + t + 1)) (grind (arith, nat_tests, over))

    asked : asks_force_off s.plan (counted_tick s.plan s.pattern s.correction (s.now + 1)) s.pattern p ≡ true
    asked =
        let held : is_coordinated_now s.plan (Some it.number) p ≡ true = ap (λ (o : Option ℕ). is_coordinated_now s.plan o p) (sym it.runs) ∙ it.held in
        let some : nat_lt 0 (permissive_time s.plan it.number) ≡ true = (let over = it.some in grind (arith, nat_tests, over)) in
        let within : is_from_to (cycle s.plan it.number) (next_counter s it.number) it.instant (it.instant + permissive_time s.plan it.number + 1) ≡ true =
        behind (cycle s.plan it.number) (next_counter s it.number) it.instant (permissive_time s.plan it.number) it.within in
        let permitted : is_permitted s.plan (Some it.number) (Some (next_counter s it.number)) p ≡ true = rw (held, some, it.own) within in
        ap (λ (o : Option ℕ). forces_off s.plan o (local_in s.plan (counted_tick s.plan s.pattern s.correction (s.now + 1)) o) p) it.runs
        ∙ or_right (agree (Some (next_counter s it.number)) (force_off s.plan (Some it.number) p))
        (is_forced_late s.plan (Some it.number) (Some (next_counter s it.number)) p || is_permitted s.plan (Some it.number) (Some (next_counter s it.number)) p)
        (or_right (is_forced_late s.plan (Some it.number) (Some (next_counter s it.number)) p)
        (is_permitted s.plan (Some it.number) (Some (next_counter s it.number)) p) permitted)

pub permitted_is_ready : (plan : Plan) (is : List Input) (row : Row) (p : ℕ) → IsConsistent plan → plan.phase_count ≤ 16 →
    AreTaken plan is → LacksOnlyItsEnd (replay plan is) row p → IsInPermissiveTime (replay plan is) p → ready (replay plan is) row p ≡ true
permitted_is_ready plan is row p ok few taken it span =
    ready_at_once (replay plan is) row p ((replay plan is).now + 1) (one_of plan is p ok few taken (ap in_service it.green)) it.conflict (ap is_some span.runs) it.quiet
    (forced_permitted (replay plan is) p span) refl it.green it.initial it.dont_walk

pub permitted_may_end : (plan : Plan) (base later : List Input) (row : Row) (p n : ℕ) → IsConsistent plan → plan.phase_count ≤ 16 →
    AreTaken plan (later ++ base) → IsUntripped plan base later → HasWaitedInPattern plan base later row p n →
    IsInPermissiveTime (replay plan base) p → ready (replay plan (later ++ base)) row p ≡ true
permitted_may_end plan base later row p n ok few taken dark waited span =
    forced_may_end plan base later row p n ok few taken dark waited.pressed (record {
      tick = (replay plan base).now + 1;
      later = omega arith;
      soon = omega arith;
      forced = forced_permitted (replay plan base) p span;
      initial = waited.initial;
      walk = waited.walks;
    }) waited.long
