-- A coordinated phase of the pattern that runs is called in each tick in which it is not Green, so that each phase that
-- is not concurrent with it has a conflict. Proves the clause `awaited` of `coordination_goes_on`.
use Rattle.std.proofs.Common.{◌≡◌, ◌≢◌, ℕ, ◌==◌, Bool, true, false, not, ◌&&◌, ◌||◌, if◌then◌else◌, List, Option, Some, None, refl, sym, ap, ◌∙◌}
use Rattle.std.proofs.lemmas.Bool.{and_from, or_left, or_right, ne_eqb, true≢false, false≢true}
use Rattle.tsb_step.specs.tsb_types.declared.row.Row.{Row}
use Rattle.tsb_step.specs.tsb_types.Intervals.{is_green}
use Rattle.tsb_step.specs.tsb_types.Sets.{is_phase}
use Rattle.tsb_step.specs.tsb_plan.declared.object.Object.TheVariants.{SplitMode as SplitModeObject}
use Rattle.tsb_step.specs.tsb_plan.declared.plan.patterns.SplitMode.TheVariants.{NoMode, MinimumRecall, MaximumRecall, PedestrianRecall, MaximumAndPedestrianRecall, Omitted}
use Rattle.tsb_step.specs.tsb_plan.Parts.{is_used, leads_and_lags, split_index, is_coordinated, mode_of}
use Rattle.tsb_step.specs.tsb_plan.Plan.{Plan, phases, is_enabled, is_concurrent, has_minimum_recall}
use Rattle.tsb_step.specs.tsb_plan.Running.{running, mode_in, mode_in_effect, coordinates_in, is_coordinated_now, omits, recalls_minimum, is_omitted_now, is_on_minimum_recall, is_on_maximum_recall}
use Rattle.tsb_step.specs.tsb_rules.Consistent.{IsPhase, IsWhole, AreCoordinated}
use Rattle.tsb_step.specs.tsb_rules.Rules.{first_broken}
use Rattle.tsb_step.proofs.tsb_rules.ConsistentLemmas.{whole, coordinated}
use Rattle.tsb_step.specs.tsb_calls.Callable.{has_pedestrian_call, has_passing_call, is_recalled, is_called, is_free, is_callable_otherwise, is_softly_recalled, is_callable, has_conflict}
use Rattle.tsb_step.specs.declared.inputs.Input.{Input}
use Rattle.tsb_step.specs.State.{State, interval}
use Rattle.tsb_step.specs.Tick.{runs, hold, omitted, calls_given, set, callable, conflict}
use Rattle.tsb_step.specs.Runs.{replay, AreTaken}
use Rattle.tsb_step.specs.Laws.{IsConsistent}
use Rattle.tsb_step.specs.Good.{IsGood}
use Rattle.tsb_step.proofs.GivenLemmas.{phase_is_listed}
use Rattle.tsb_step.proofs.GoodLemmas.{good_run}
use Rattle.tsb_laws.specs.CoordinatedGreens.{IsAwaited}
use Rattle.tsb_laws.proofs.safety.SideSoughtLemmas.{found_some}

-- ## The pattern that runs

pub record IsRunning (plan : Plan) (pattern : Option ℕ) (k : ℕ) : Type 0 where
  pub selected : pattern ≡ Some k
  pub used : is_used plan k ≡ true

pub running_is : (plan : Plan) (selected : Option ℕ) (k : ℕ) → running plan selected ≡ Some k → IsRunning plan selected k
running_is plan None k h = absurd cc
running_is plan (Some n) k h = go (is_used plan n) refl h
  where
    go : (b : Bool) → is_used plan n ≡ b → (if b then Some n else None) ≡ Some k → IsRunning plan (Some n) k
    go false e m = absurd cc
    go true e m = let same : n ≡ k = cc in record { selected = m; used = ap (λ (x : ℕ). is_used plan x) (sym same) ∙ e }

-- its parts
pub runs_whole : (s : State) (k : ℕ) → IsGood s → runs s ≡ Some k → IsWhole s.plan k
runs_whole s k good h =
    let it : IsRunning s.plan s.pattern k = running_is s.plan s.pattern k h in
    let number = good.pattern k it.selected in
    whole s.plan good.plan.rules k number.from_one number.within it.used

-- some pattern runs, where a phase is coordinated
pub held_runs : (s : State) (c : ℕ) → hold s c ≡ true → (k : ℕ) × (runs s ≡ Some k)
held_runs s c h = go (runs s) refl h
  where
    go : (o : Option ℕ) → runs s ≡ o → is_coordinated_now s.plan o c ≡ true → (k : ℕ) × (runs s ≡ Some k)
    go None e m = absurd (false≢true m)
    go (Some k) e m = (k, e)

-- ## A coordinated phase

not_omitted : (v : ℕ) → (v == 5) ≡ false → omits (mode_of v) ≡ false
not_omitted v h = go (v == 1) (v == 2) (v == 3) (v == 4) (v == 5) h
  where
    go : (a b c d e : Bool) → e ≡ false →
        omits (if a then MinimumRecall else if b then MaximumRecall else if c then PedestrianRecall else
        if d then MaximumAndPedestrianRecall else if e then Omitted else NoMode) ≡ false
    go true b c d e m = refl
    go false true c d e m = refl
    go false false true d e m = refl
    go false false false true e m = refl
    go false false false false true m = absurd (true≢false m)
    go false false false false false m = refl

pub record IsServed (plan : Plan) (k c : ℕ) : Type 0 where
  pub enabled : is_enabled plan c ≡ true
  pub served : is_omitted_now plan (Some k) c ≡ false

pub coordinated_is : (plan : Plan) → first_broken plan ≡ None → (k c : ℕ) → IsWhole plan k → IsPhase plan c →
    is_coordinated_now plan (Some k) c ≡ true → IsServed plan k c
coordinated_is plan none k c parts phase on =
    let them : AreCoordinated plan (leads_and_lags plan k) parts.its_sequence parts.its_split =
    coordinated plan none k parts.its_sequence parts.its_split parts.in_use in
    let one : is_coordinated plan parts.its_split c ≡ true = ap (λ (o : Option ℕ). coordinates_in plan o c) (sym parts.in_use.split) ∙ on in
    record {
      enabled = them.enabled c phase one;
      served = ap (λ (o : Option ℕ). omits (mode_in plan o c)) parts.in_use.split
          ∙ not_omitted (plan.value SplitModeObject (split_index plan parts.its_split c)) (them.served c phase one);
    }

-- ## It is called

module _ (s : State) (row : Row) (c : ℕ) (good : IsGood s) (phase : IsPhase s.plan c) (held : hold s c ≡ true) (dark : is_green (interval s c) ≡ false) where
  its_pattern : (k : ℕ) × (runs s ≡ Some k)
  its_pattern = held_runs s c held

  served : IsServed s.plan its_pattern.0 c
  served =
      coordinated_is s.plan good.plan.rules its_pattern.0 c (runs_whole s its_pattern.0 good its_pattern.1) phase
      (ap (λ (o : Option ℕ). is_coordinated_now s.plan o c) (sym its_pattern.1) ∙ held)

  not_now : omitted s c ≡ false
  not_now = ap (λ (o : Option ℕ). is_omitted_now s.plan o c) its_pattern.1 ∙ served.served

  free : is_free s.plan (calls_given s row) c ≡ true
  free = rw (served.enabled, not_now, dark) (go (is_phase c))
    where
      go : (b : Bool) → (true && (not (b && false) && not false)) ≡ true
      go true = refl
      go false = refl

  recalled : is_recalled s.plan (calls_given s row) c ≡ true
  recalled =
      or_left (is_on_minimum_recall s.plan (runs s) c) (is_on_maximum_recall s.plan (runs s) c)
      (or_right (has_minimum_recall s.plan c || recalls_minimum (mode_in_effect s.plan (runs s) c)) (is_coordinated_now s.plan (runs s) c) held)

  is_called_now : is_called s.plan (calls_given s row) (set s row) c ≡ true
  is_called_now =
      or_right ((set s row).vehicle c) (has_pedestrian_call s.plan (calls_given s row) (set s row) c || (has_passing_call s.plan (calls_given s row) c || is_recalled s.plan (calls_given s row) c))
      (or_right (has_pedestrian_call s.plan (calls_given s row) (set s row) c) (has_passing_call s.plan (calls_given s row) c || is_recalled s.plan (calls_given s row) c)
      (or_right (has_passing_call s.plan (calls_given s row) c) (is_recalled s.plan (calls_given s row) c) recalled))

  called : callable s row c ≡ true
  unfolding is_callable
  called =
      or_left (is_callable_otherwise s.plan (calls_given s row) (set s row) c)
      (is_free s.plan (calls_given s row) c && is_softly_recalled s.plan (calls_given s row) (set s row) c)
      (and_from (is_free s.plan (calls_given s row) c) (is_called s.plan (calls_given s row) (set s row) c) free is_called_now)

  presses : (p : ℕ) → p ≢ c → is_concurrent s.plan p c ≡ false → conflict s row p ≡ true
  unfolding has_conflict
  presses p other apart =
      found_some (λ q. is_callable s.plan (calls_given s row) (set s row) q && (not (q == p) && not (is_concurrent s.plan p q))) (phases s.plan) c
      (phase_is_listed s.plan c phase) passes
    where
      passes : (is_callable s.plan (calls_given s row) (set s row) c && (not (c == p) && not (is_concurrent s.plan p c))) ≡ true
      passes = rw (called, ne_eqb c p (λ e. other (sym e)), apart) refl

  pub is_awaited : IsAwaited s row c
  is_awaited = record { called = called; presses = presses }

pub awaited : (plan : Plan) (is : List Input) (row : Row) (c : ℕ) → IsConsistent plan → AreTaken plan is →
    IsPhase (replay plan is).plan c → hold (replay plan is) c ≡ true → is_green (interval (replay plan is) c) ≡ false →
    IsAwaited (replay plan is) row c
awaited plan is row c ok taken phase held dark = is_awaited (replay plan is) row c (good_run plan is ok taken) phase held dark
