-- A called phase is Green in time in free operation, and a crossing of the barrier begins in time: along a run. Proves
-- `called_phases_are_served`, `called_phases_come` and `crossings_begin`.
use Rattle.std.proofs.Common.{◌≡◌, ◌≢◌, ℕ, ◌+◌, ◌≤◌, true, false, List, [], ◌∷◌, ◌++◌, None, is_some, refl, sym, ap, subst, ◌∙◌, inl, inr, arith}
use Rattle.std.proofs.lemmas.Bool.{and_parts, true≢false, false≢true}
use Rattle.tsb_step.specs.tsb_types.declared.row.Row.{Row}
use Rattle.tsb_step.specs.tsb_plan.Plan.{Plan, is_enabled, side_of}
use Rattle.tsb_step.specs.tsb_rules.Consistent.{IsPlaced}
use Rattle.tsb_step.proofs.tsb_rules.ConsistentLemmas.{placed}
use Rattle.tsb_step.specs.tsb_ring.Rings.{Ring, in_ring}
use Rattle.tsb_step.specs.declared.inputs.Input.{Input}
use Rattle.tsb_step.specs.declared.inputs.Input.TheVariants as inputs
use Rattle.tsb_step.specs.declared.inputs.Input.TheVariants.{Tick}
use Rattle.tsb_step.specs.State.{State}
use Rattle.tsb_step.specs.Tick.{callable, after_moves}
use Rattle.tsb_step.specs.Step.{step}
use Rattle.tsb_step.specs.Runs.{replay, AreTaken}
use Rattle.tsb_step.specs.Laws.{IsConsistent}
use Rattle.tsb_step.specs.TimeLaws.{is_tick}
use Rattle.tsb_step.proofs.ClearLemmas.{plan_stays}
use Rattle.tsb_step.proofs.GivenLemmas.{listed_is_phase, enabled_is_listed}
use Rattle.tsb_step.proofs.GoodLemmas.{good_run}
use Rattle.tsb_laws.specs.Stretches.{IsUntripped, has_held_since}
use Rattle.tsb_laws.specs.ServedCalls.{is_free, IsFullyConcurrent, is_waiting, HasWaited, longest_green, TurnsTakeAtMost, turn, times_on, place, still_to_come, IsToCome, time_to_come, is_outside, time_to_cross, time_to_serve}
use Rattle.tsb_laws.specs.CoordinatedGreens.{ClearsWithin}
use Rattle.tsb_laws.proofs.safety.StretchLemmas.{dark_now, taken_before}
use Rattle.tsb_laws.proofs.safety.AllRedLemmas.{ring_is}
use Rattle.tsb_laws.proofs.safety.DueLemmas.{count_run}
use Rattle.tsb_laws.proofs.operation.step.CalmLemmas.{calm_run}
use Rattle.tsb_laws.proofs.operation.green.PressedGreenLemmas.{free_parts}
use Rattle.tsb_laws.proofs.operation.green.PressedRunLemmas.{timed_run, clock_stays}
use Rattle.tsb_laws.proofs.operation.calls.RingPlaceLemmas.{view, IsAt, Stands, stands_at, stands_clearing, stands_now}
use Rattle.tsb_laws.proofs.operation.calls.FreeGreenLemmas.{LastsFreely, lasts_now, bounds_greens}
use Rattle.tsb_laws.proofs.operation.calls.WayStageLemmas.{Stage, coming}
use Rattle.tsb_laws.proofs.operation.calls.CourseLemmas.{lit_view, reset_view, AreBounded, Course, plan_is, on_or_still, comes_in, served_in, begins_in}

-- an input that is no tick and no commit leaves what is seen of free operation
view_stays : (s : State) (i : Input) (q : ℕ) → is_tick i ≡ false → is_waiting q s i ≡ true → s.trip ≡ None → view true (step s i) ≡ view true s
unfolding step
view_stays s (inputs.Tick row) q t w dark = absurd (true≢false t)
view_stays s (inputs.Commit station) q t w dark = absurd (false≢true w)
view_stays s (inputs.Fault lamp) q t w dark = lit_view true s lamp
view_stays s inputs.Reset q t w dark = reset_view true s dark
view_stays s i q t w dark = refl

module _ (plan : Plan) (base : List Input) (q k h : ℕ) (ok : IsConsistent plan) (few : plan.phase_count ≤ 16) (takes : TurnsTakeAtMost (replay plan base).plan k h) where
  abbrev longest : ℕ → ℕ
  longest p = longest_green (replay plan base).plan p

  abbrev Goes : List Input → Type 0
  Goes later = Course true longest LastsFreely q plan base later

  bounded : (is : List Input) → (replay plan is).plan ≡ (replay plan base).plan → AreBounded true longest LastsFreely q (view true (replay plan is))
  bounded is same p green =
      subst (λ (x : Plan). LastsFreely (view true (replay plan is)) p (longest_green x p)) same (lasts_now (view true (replay plan is)) p)

  -- a tick in which q is called
  in_tick : (row : Row) (later : List Input) → AreTaken plan (later ++ base) → (replay plan (later ++ base)).trip ≡ None → is_waiting q (replay plan (later ++ base)) (Tick row) ≡ true →
      Goes later → Goes (Tick row ∷ later)
  in_tick row later taken dark waits on = (
    on,
    record {
      called = both.0;
      quiet = (free_parts (replay plan (later ++ base)) row both.1).0;
      bounds = bounds_greens (replay plan (later ++ base)) row longest (good_run plan (later ++ base) ok taken) (let same = count_run plan (later ++ base) in omega (arith, same, few)) both.1
          (timed_run plan (later ++ base) ok taken dark) (λ p green. greens_then p);
      greens = bounded (Tick row ∷ (later ++ base)) same_plan;
    },
  )
    where
      both : (callable (replay plan (later ++ base)) row q ≡ true) × (is_free (replay plan (later ++ base)) row ≡ true)
      both = and_parts (callable (replay plan (later ++ base)) row q) (is_free (replay plan (later ++ base)) row) waits

      same_before : (replay plan (later ++ base)).plan ≡ (replay plan base).plan
      same_before = plan_is true longest LastsFreely q plan base later on

      same_plan : (replay plan (Tick row ∷ (later ++ base))).plan ≡ (replay plan base).plan
      same_plan = plan_stays (replay plan (later ++ base)) row ∙ same_before

      greens_then : (p : ℕ) → LastsFreely (view true (after_moves (replay plan (later ++ base)) row)) p (longest p)
      greens_then p =
          subst (λ (x : Plan). LastsFreely (view true (after_moves (replay plan (later ++ base)) row)) p (longest_green x p)) same_before
          (lasts_now (view true (after_moves (replay plan (later ++ base)) row)) p)

  course : (later : List Input) → AreTaken plan (later ++ base) → IsUntripped plan base later → HasWaited plan q base later → Goes later
  course [] taken dark waited = bounded base refl
  course (inputs.Tick row ∷ later) taken dark waited =
      in_tick row later taken.0 (dark_now plan base later dark.0) waited.1 (course later taken.0 dark.0 waited.0)
  course (i ∷ later) taken dark waited = (
    course later taken.0 dark.0 waited.0,
    record {
      seen = view_stays (replay plan (later ++ base)) i q refl waited.1 (dark_now plan base later dark.0);
      clock = clock_stays (replay plan (later ++ base)) i refl (dark_now plan base later dark.0);
    },
  )

  clears : ClearsWithin (replay plan base).plan k
  clears = record { untrailed = takes.untrailed; clearance = takes.clearance; revert = takes.revert }

  -- ## As a phase is still to come

  module _ (r : Ring) (taken : AreTaken plan base) (due : IsToCome (replay plan base) r q) where
    at_it : IsAt longest LastsFreely (view true (replay plan base)) r (place (replay plan base) r) (h + k + 1)
    at_it =
        go (stands_now longest LastsFreely true (replay plan base) r k h (good_run plan base ok taken) (calm_run plan base ok taken) takes.clearance takes.revert takes.green (bounded base refl) due.outside)
      where
        go : Stands longest LastsFreely true (replay plan base) r k h (good_run plan base ok taken) (calm_run plan base ok taken) takes.clearance takes.revert takes.green (bounded base refl) due.outside
            (place (replay plan base) r) → IsAt longest LastsFreely (view true (replay plan base)) r (place (replay plan base) r) (h + k + 1)
        go (stands_at it) = it
        go (stands_clearing p e own serves dark near) =
            let bad : is_some ((replay plan base).rings.commitment r) ≡ true = due.bound p own serves dark in absurd (false≢true (rw e at bad))

    coming_now : Stage longest LastsFreely k h r q (view true (replay plan base)) (time_to_come (replay plan base) r k h)
    coming_now =
        coming (place (replay plan base) r) (h + k + 1) at_it (sym due.beside) due.outside due.ahead
        (let same = ap (λ (d : ℕ). times_on (turn (replay plan base).plan k) (replay plan base).plan d (still_to_come (replay plan base) r)) due.beside in omega (arith, same))

-- where q is not enabled, no tick has come
module _ (plan : Plan) (base later : List Input) (q k h limit : ℕ) (ok : IsConsistent plan) (few : plan.phase_count ≤ 16) (taken : AreTaken plan (later ++ base)) (dark : IsUntripped plan base later)
    (takes : TurnsTakeAtMost (replay plan base).plan k h) (waited : HasWaited plan q base later) where
  in_time : (Course true (longest_green (replay plan base).plan) LastsFreely q plan base later → is_enabled (replay plan base).plan q ≡ true → (replay plan (later ++ base)).now ≤ (replay plan base).now + limit) →
      (replay plan (later ++ base)).now ≤ (replay plan base).now + limit
  in_time by =
      let on = course plan base q k h ok few takes later taken dark waited in
      elim (on_or_still true (longest_green (replay plan base).plan) LastsFreely q plan base later on) [ inl enabled ↦ by on enabled | inr same ↦ omega (arith, same) ]

pub comes_in_time : (plan : Plan) (base later : List Input) (r : Ring) (q k h : ℕ) → IsConsistent plan → plan.phase_count ≤ 16 →
    AreTaken plan (later ++ base) → IsUntripped plan base later → IsFullyConcurrent (replay plan base).plan →
    TurnsTakeAtMost (replay plan base).plan k h → IsToCome (replay plan base) r q → HasWaited plan q base later →
    (replay plan (later ++ base)).now ≤ (replay plan base).now + time_to_come (replay plan base) r k h
comes_in_time plan base later r q k h ok few taken dark full takes due waited =
    in_time plan base later q k h (time_to_come (replay plan base) r k h) ok few taken dark takes waited
    (λ on enabled. comes_in true (longest_green (replay plan base).plan) LastsFreely q plan base k h r ok few full (clears plan base q k h ok few takes) takes.green due.ringed enabled
    (time_to_come (replay plan base) r k h) (coming_now plan base q k h ok few takes r (taken_before plan base later taken) due) later taken dark on)

pub begins_in_time : (plan : Plan) (base later : List Input) (q k h : ℕ) → IsConsistent plan → plan.phase_count ≤ 16 →
    AreTaken plan (later ++ base) → IsUntripped plan base later → IsFullyConcurrent (replay plan base).plan →
    TurnsTakeAtMost (replay plan base).plan k h → side_of (replay plan base).plan q ≢ (replay plan base).rings.side →
    HasWaited plan q base later → has_held_since is_outside plan base later ≡ true →
    (replay plan (later ++ base)).now ≤ (replay plan base).now + time_to_cross (replay plan base) k h
begins_in_time plan base later q k h ok few taken dark full takes apart waited out =
    in_time plan base later q k h (time_to_cross (replay plan base) k h) ok few taken dark takes waited by
  where
    taken_base : AreTaken plan base
    taken_base = taken_before plan base later taken

    by : Course true (longest_green (replay plan base).plan) LastsFreely q plan base later → is_enabled (replay plan base).plan q ≡ true →
        (replay plan (later ++ base)).now ≤ (replay plan base).now + time_to_cross (replay plan base) k h
    by on enabled =
        let good = good_run plan base ok taken_base in
        let it : IsPlaced (replay plan base).plan q =
        placed (replay plan base).plan good.plan.rules q (listed_is_phase (replay plan base).plan q (enabled_is_listed (replay plan base).plan good.plan q enabled)) enabled in
        let ringed = ring_is (replay plan base).plan q it.ring_from it.ring_to in
        begins_in true (longest_green (replay plan base).plan) LastsFreely q plan base k h ringed.0 ok few full (clears plan base q k h ok few takes) takes.green ringed.1 enabled
        (λ same. apart (sym same)) taken_base (bounded plan base q k h ok few takes base refl) later taken dark on out

pub served_in_time : (plan : Plan) (base later : List Input) (r : Ring) (q k h : ℕ) → IsConsistent plan → plan.phase_count ≤ 16 →
    AreTaken plan (later ++ base) → IsUntripped plan base later → IsFullyConcurrent (replay plan base).plan →
    TurnsTakeAtMost (replay plan base).plan k h → in_ring (replay plan base).plan r q ≡ true → HasWaited plan q base later →
    (replay plan (later ++ base)).now ≤ (replay plan base).now + time_to_serve (replay plan base).plan r q k h
served_in_time plan base later r q k h ok few taken dark full takes own waited =
    in_time plan base later q k h (time_to_serve (replay plan base).plan r q k h) ok few taken dark takes waited
    (λ on enabled. served_in true (longest_green (replay plan base).plan) LastsFreely q plan base k h r ok few full (clears plan base q k h ok few takes) takes.green own enabled
    (taken_before plan base later taken) (bounded plan base q k h ok few takes base refl) later taken dark on)
