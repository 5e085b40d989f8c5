-- Along a run a called phase is Green in time, and a crossing of the barrier begins in time, by whatever bounds greens,
-- as long as plan and orders stay. For the laws that called phases are served, in free operation and in patterns.
use Rattle.std.proofs.Common.{◌≡◌, ◌≢◌, ℕ, ◌+◌, ◌-◌, ◌*◌, ◌≤◌, Bool, true, false, if◌then◌else◌, List, [], ◌∷◌, ◌++◌, Option, Some, None, is_some, is_none, refl, sym, ap, subst, ◌∙◌, inl, inr, ◌⊎◌, arith}
use Rattle.std.proofs.lemmas.Bool.{and_parts, true≢false, false≢true, false_from_ne_true}
use Rattle.tsb_step.specs.tsb_types.declared.interval.Interval.TheVariants.{Green}
use Rattle.tsb_step.specs.tsb_types.declared.lamp.Lamp.{Lamp}
use Rattle.tsb_step.specs.tsb_types.declared.row.Row.{Row}
use Rattle.tsb_step.specs.tsb_types.Intervals.{is_green}
use Rattle.tsb_step.specs.tsb_types.Lists.{later as later_in, or_else}
use Rattle.tsb_step.specs.tsb_plan.Plan.{Plan, is_enabled, side_of}
use Rattle.tsb_step.specs.tsb_rules.Consistent.{IsPlaced}
use Rattle.tsb_step.proofs.tsb_rules.ConsistentLemmas.{placed}
use Rattle.tsb_step.specs.tsb_ring.Rings.{Ring, Ring1, Ring2, in_ring}
use Rattle.tsb_step.specs.tsb_ring.Crossings.{begins, target_side}
use Rattle.tsb_step.specs.declared.inputs.Input.{Input}
use Rattle.tsb_step.specs.declared.inputs.Input.TheVariants as inputs
use Rattle.tsb_step.specs.declared.inputs.Input.TheVariants.{Tick}
use Rattle.tsb_step.specs.State.{State, restarted, interval}
use Rattle.tsb_step.specs.Tick.{service, callable, rings_given, next, after_moves}
use Rattle.tsb_step.specs.Signs.{watched}
use Rattle.tsb_step.specs.Step.{with_lamp, reset, step}
use Rattle.tsb_step.specs.Runs.{replay, AreTaken}
use Rattle.tsb_step.specs.Laws.{IsConsistent}
use Rattle.tsb_step.specs.Good.{IsGood}
use Rattle.tsb_step.proofs.ClearLemmas.{one_later, plan_stays}
use Rattle.tsb_step.proofs.GivenLemmas.{listed_is_phase, enabled_is_listed}
use Rattle.tsb_step.proofs.GiveUpLemmas.{keeps_all, gives_none_alone}
use Rattle.tsb_step.proofs.GoodLemmas.{good_run}
use Rattle.tsb_step.proofs.SideRunLemmas.{sided_run}
use Rattle.tsb_laws.specs.Stretches.{IsUntripped, has_held_since}
use Rattle.tsb_laws.specs.ServedCalls.{IsFullyConcurrent, times_on, place, is_outside, time_by_turns}
use Rattle.tsb_laws.specs.CoordinatedGreens.{ClearsWithin}
use Rattle.tsb_laws.proofs.safety.StretchLemmas.{dark_now}
use Rattle.tsb_laws.proofs.safety.DueLemmas.{count_run}
use Rattle.tsb_laws.proofs.safety.EnabledLemmas.{callable_no_green, enabled_run}
use Rattle.tsb_laws.proofs.operation.step.AcrossLemmas.{across_run, promised_red}
use Rattle.tsb_laws.proofs.operation.barrier.BarrierWishLemmas.{begun_crosses}
use Rattle.tsb_laws.proofs.operation.step.CalmLemmas.{calm_run}
use Rattle.tsb_laws.proofs.operation.green.PressedRunLemmas.{timed_run}
use Rattle.tsb_laws.proofs.operation.barrier.SideRangeLemmas.{AreSides, sides_run}
use Rattle.tsb_laws.proofs.operation.barrier.SideSumLemmas.{IsSide}
use Rattle.tsb_laws.proofs.operation.step.OpenTickLemmas.{callable_enabled, callable_told}
use Rattle.tsb_laws.proofs.operation.calls.RingPlaceLemmas.{View, view, order_of, IsNear, at_its_place}
use Rattle.tsb_laws.proofs.operation.calls.RingStepLemmas.{BoundsGreens}
use Rattle.tsb_laws.proofs.operation.barrier.SideTimeLemmas.{far_around}
use Rattle.tsb_laws.proofs.operation.calls.WayStageLemmas.{IsOver, over_in, Beyond, Stage, all_left, beyond_now, stage_now}
use Rattle.tsb_laws.proofs.operation.calls.WayTickLemmas.{LessFor, beyond_tick}
use Rattle.tsb_laws.proofs.operation.calls.WayCrossLemmas.{IsOnWay, further}

-- ## What inputs leave

module _ (free : Bool) where
  -- a tick leaves what the controller finds in it, apart from what the monitor judges
  pub view_next : (s : State) (row : Row) → s.trip ≡ None → view free (step s (Tick row)) ≡ view free (next s row)
  unfolding step watched
  view_next s row dark = go (is_some s.trip) (ap is_some dark)
    where
      go : (b : Bool) → b ≡ false → view free (if b then record s { now = s.now + 1 } else (if b then next s row else watched s (next s row))) ≡ view free (next s row)
      go true h = absurd (true≢false h)
      go false h = refl

  -- where no preempt is in service that is what its moves make
  pub view_then : (s : State) (row : Row) → s.trip ≡ None → service s row ≡ None → view free (step s (Tick row)) ≡ view free (after_moves s row)
  view_then s row dark quiet = view_next s row dark ∙ ap (λ (x : State). view free x) (keeps_all s row (gives_none_alone s row quiet))

  pub lit_view : (s : State) (lamp : Option Lamp) → view free (with_lamp lamp s) ≡ view free s
  unfolding watched
  lit_view s lamp = go (is_some s.trip)
    where
      go : (b : Bool) → view free (if b then record s { lamp = lamp } else watched s (record s { lamp = lamp })) ≡ view free s
      go true = refl
      go false = refl

  pub reset_view : (s : State) → s.trip ≡ None → view free (reset s) ≡ view free s
  reset_view s dark = go (is_some s.trip) (ap is_some dark)
    where
      go : (b : Bool) → b ≡ false → view free (if b then restarted s else s) ≡ view free s
      go true h = absurd (true≢false h)
      go false h = refl

-- ## The course of a run

module _ (free : Bool) (longest : ℕ → ℕ) (Lasts : View → ℕ → ℕ → Type 0) (c : ℕ) where
  -- each green lasts for its longest time at most
  abbrev pub AreBounded : View → Type 0
  AreBounded v = (p : ℕ) → (v.phases p).interval ≡ Green → Lasts v p (longest p)

  -- in a tick c is called, and no preempt is in service
  pub record IsServedTick (s : State) (row : Row) : Type 0 where
    pub called : callable s row c ≡ true
    pub quiet : service s row ≡ None
    pub bounds : BoundsGreens free longest Lasts s row
    pub greens : AreBounded (view free (step s (Tick row)))

  -- any other input leaves what is seen
  pub record IsPassed (s : State) (i : Input) : Type 0 where
    pub seen : view free (step s i) ≡ view free s
    pub clock : (step s i).now ≡ s.now

  abbrev pub Serves : State → Input → Type 0
  Serves s (inputs.Tick row) = IsServedTick s row
  Serves s i = IsPassed s i

  abbrev pub Course : Plan → List Input → List Input → Type 0
  Course plan base [] = AreBounded (view free (replay plan base))
  Course plan base (i ∷ later) = Course plan base later × Serves (replay plan (later ++ base)) i

  module _ (plan : Plan) (base : List Input) where
    -- the plan is that of the base
    pub plan_is : (later : List Input) → Course plan base later → (replay plan (later ++ base)).plan ≡ (replay plan base).plan
    plan_is [] on = refl
    plan_is (inputs.Tick row ∷ later) on = plan_stays (replay plan (later ++ base)) row ∙ plan_is later on.0
    plan_is (i ∷ later) on = ap (λ (v : View). v.plan) on.1.seen ∙ plan_is later on.0

    -- where c is not enabled, no tick has come
    pub on_or_still : (later : List Input) → Course plan base later →
        (is_enabled (replay plan base).plan c ≡ true) ⊎ ((replay plan (later ++ base)).now ≡ (replay plan base).now)
    on_or_still [] on = inr refl
    on_or_still (inputs.Tick row ∷ later) on =
        inl (ap (λ (x : Plan). is_enabled x c) (sym (plan_is later on.0)) ∙ callable_enabled (replay plan (later ++ base)) row c on.1.called)
    on_or_still (i ∷ later) on = elim (on_or_still later on.0) [ inl e ↦ inl e | inr same ↦ inr (on.1.clock ∙ same) ]

    bounded : (later : List Input) → Course plan base later → AreBounded (view free (replay plan (later ++ base)))
    bounded [] on = on
    bounded (inputs.Tick row ∷ later) on = on.1.greens
    bounded (i ∷ later) on = subst AreBounded (sym on.1.seen) (bounded later on.0)

    -- ## What a tick leaves a tick less of comes to its end in time

    module _ (Holds : List Input → Type 0) (before : (i : Input) (later : List Input) → Holds (i ∷ later) → Holds later) (Left : View → ℕ → Type 0)
        (lessens : (row : Row) (later : List Input) → AreTaken plan (Tick row ∷ (later ++ base)) → (replay plan (later ++ base)).trip ≡ None → Course plan base (Tick row ∷ later) →
        Holds (Tick row ∷ later) → (n : ℕ) → Left (view free (replay plan (later ++ base))) n → LessFor (λ m. Left (view free (after_moves (replay plan (later ++ base)) row)) m) n) where
      record InTime (limit : ℕ) (later : List Input) : Type 0 where
        left : ℕ
        stage : Left (view free (replay plan (later ++ base))) left
        in_time : (replay plan (later ++ base)).now + left ≤ (replay plan base).now + limit

      runs_down : (limit : ℕ) → Left (view free (replay plan base)) limit → (later : List Input) → AreTaken plan (later ++ base) → IsUntripped plan base later → Course plan base later → Holds later →
          InTime limit later
      runs_down limit first [] taken dark on holds = record { left = limit; stage = first; in_time = omega arith }
      runs_down limit first (inputs.Tick row ∷ later) taken dark on holds =
          let was : InTime limit later = runs_down limit first later taken.0 dark.0 on.0 (before (Tick row) later holds) in
          let less = lessens row later taken (dark_now plan base later dark.0) on holds was.left was.stage in
          record {
            left = was.left - 1;
            stage = subst (λ (v : View). Left v (was.left - 1)) (sym (view_then free (replay plan (later ++ base)) row (dark_now plan base later dark.0) on.1.quiet)) less.stage;
            in_time = (let some = less.some in let clock = one_later (replay plan (later ++ base)) row in let before_it = was.in_time in omega (arith, some, clock, before_it));
          }
      runs_down limit first (i ∷ later) taken dark on holds =
          let was : InTime limit later = runs_down limit first later taken.0 dark.0 on.0 (before i later holds) in
          record {
            left = was.left;
            stage = subst (λ (v : View). Left v was.left) (sym on.1.seen) was.stage;
            in_time = (let clock : (replay plan (i ∷ (later ++ base))).now ≡ (replay plan (later ++ base)).now = on.1.clock in let before_it = was.in_time in omega (arith, clock, before_it));
          }

      pub ends_in_time : (limit : ℕ) → Left (view free (replay plan base)) limit → (later : List Input) → AreTaken plan (later ++ base) → IsUntripped plan base later → Course plan base later → Holds later →
          (replay plan (later ++ base)).now ≤ (replay plan base).now + limit
      ends_in_time limit first later taken dark on holds =
          let it : InTime limit later = runs_down limit first later taken dark on holds in let all = it.in_time in omega (arith, all)

    -- ## Where all phases of one side go together

    module _ (k h : ℕ) (r : Ring) (ok : IsConsistent plan) (few : plan.phase_count ≤ 16) (full : IsFullyConcurrent (replay plan base).plan) (clears : ClearsWithin (replay plan base).plan k)
        (most : (p : ℕ) → longest p ≤ h) (own : in_ring (replay plan base).plan r c ≡ true) (enabled : is_enabled (replay plan base).plan c ≡ true) where
      few_now : (is : List Input) → (replay plan is).plan.phase_count ≤ 16
      few_now is = let same = count_run plan is in omega (arith, same, few)

      -- what holds of each state
      module _ (later : List Input) (taken : AreTaken plan (later ++ base)) (on : Course plan base later) where
        good : IsGood (replay plan (later ++ base))
        good = good_run plan (later ++ base) ok taken

        at_plan : (Q : Plan → Type 0) → Q (replay plan base).plan → Q (replay plan (later ++ base)).plan
        at_plan Q x = subst Q (sym (plan_is later on)) x

        enabled_now : is_enabled (replay plan (later ++ base)).plan c ≡ true
        enabled_now = at_plan (λ x. is_enabled x c ≡ true) enabled

        own_now : in_ring (replay plan (later ++ base)).plan r c ≡ true
        own_now = at_plan (λ x. in_ring x r c ≡ true) own

        clears_now : ClearsWithin (replay plan (later ++ base)).plan k
        clears_now = at_plan (λ x. ClearsWithin x k) clears

        over_now : IsOver k (view free (replay plan (later ++ base)))
        over_now =
            over_in free (replay plan (later ++ base)) k clears_now.clearance clears_now.revert
            (λ x q e. promised_red (replay plan (later ++ base)) x q (calm_run plan (later ++ base) ok taken) (sided_run plan (later ++ base) ok taken) (across_run plan (later ++ base) ok taken) e)

        places_now : (replay plan (later ++ base)).rings.crossing ≡ None → (x : Ring) →
            IsNear longest Lasts (view free (replay plan (later ++ base))) x (place (replay plan (later ++ base)) x) (h + 2 * k + 1)
        places_now out x =
            at_its_place longest Lasts free (replay plan (later ++ base)) x k h good (calm_run plan (later ++ base) ok taken) clears_now.clearance clears_now.revert most (bounded later on) out

        its_side : IsSide (replay plan (later ++ base)).plan.side_count (side_of (replay plan (later ++ base)).plan c)
        its_side =
            let it : IsPlaced (replay plan (later ++ base)).plan c =
            placed (replay plan (later ++ base)).plan good.plan.rules c
            (listed_is_phase (replay plan (later ++ base)).plan c (enabled_is_listed (replay plan (later ++ base)).plan good.plan c enabled_now)) enabled_now in
            record { from_one = it.side_from; within = it.side_to }

        sides_are : AreSides (replay plan (later ++ base)).plan.side_count (replay plan (later ++ base)).rings
        sides_are = let low = its_side.from_one in let high = its_side.within in sides_run plan (later ++ base) ok taken (omega (arith, low, high))

      -- a tick
      way : (row : Row) (later : List Input) → AreTaken plan (Tick row ∷ (later ++ base)) → (replay plan (later ++ base)).trip ≡ None → Course plan base (Tick row ∷ later) →
          IsOnWay free longest Lasts k h c (replay plan (later ++ base)) row
      way row later taken dark on = record {
        good = good later taken.0 on.0;
        few = few_now (later ++ base);
        calm = calm_run plan (later ++ base) ok taken.0;
        sided = sided_run plan (later ++ base) ok taken.0;
        on = enabled_run plan (later ++ base) ok taken.0;
        goes_across = across_run plan (later ++ base) ok taken.0;
        timed = timed_run plan (later ++ base) ok taken.0 dark;
        untrailed = (clears_now later taken.0 on.0).untrailed;
        when_open = λ outside. record {
          untrailed = (clears_now later taken.0 on.0).untrailed;
          good = good later taken.0 on.0;
          few = few_now (later ++ base);
          calm = calm_run plan (later ++ base) ok taken.0;
          sided = sided_run plan (later ++ base) ok taken.0;
          on = enabled_run plan (later ++ base) ok taken.0;
          timed = timed_run plan (later ++ base) ok taken.0 dark;
          full = at_plan later taken.0 on.0 IsFullyConcurrent full;
          quiet = on.1.quiet;
          outside = outside;
        };
        bounds = on.1.bounds;
        clears = (clears_now later taken.0 on.0).clearance;
        reverts = (clears_now later taken.0 on.0).revert;
        side = (sides_are later taken.0 on.0).side;
        its_side = its_side later taken.0 on.0;
        over = subst (λ (v : View). IsOver k v) seen (over_now (Tick row ∷ later) taken on);
        places = subst (λ (v : View). v.rings.crossing ≡ None → (x : Ring) → IsNear longest Lasts v x (or_else (v.rings.commitment x) (v.rings.last x)) (h + 2 * k + 1)) seen
            (places_now (Tick row ∷ later) taken on);
        greens = subst AreBounded seen on.1.greens;
      }
        where
          seen : view free (step (replay plan (later ++ base)) (Tick row)) ≡ view free (after_moves (replay plan (later ++ base)) row)
          seen = view_then free (replay plan (later ++ base)) row dark on.1.quiet

      -- ## A called phase is Green

      goes_further : (row : Row) (later : List Input) → AreTaken plan (Tick row ∷ (later ++ base)) → (replay plan (later ++ base)).trip ≡ None → Course plan base (Tick row ∷ later) → Unit {0} →
          (n : ℕ) → Stage longest Lasts k h r c (view free (replay plan (later ++ base))) n →
          LessFor (λ m. Stage longest Lasts k h r c (view free (after_moves (replay plan (later ++ base)) row)) m) n
      goes_further row later taken dark on holds n stage =
          further free longest Lasts k h r c (replay plan (later ++ base)) row (way row later taken dark on) (own_now later taken.0 on.0) (enabled_now later taken.0 on.0) on.1.called not_green n stage
        where
          not_green : is_green (interval (replay plan (later ++ base)) c) ≡ false
          not_green =
              callable_no_green (replay plan (later ++ base)) row c
              (callable_told (replay plan (later ++ base)) row c (few_now (later ++ base))
              (enabled_is_listed (replay plan (later ++ base)).plan (good later taken.0 on.0).plan c (enabled_now later taken.0 on.0)) on.1.called)

      -- from a stage that is reached
      pub comes_in : (limit : ℕ) → Stage longest Lasts k h r c (view free (replay plan base)) limit → (later : List Input) → AreTaken plan (later ++ base) → IsUntripped plan base later →
          Course plan base later → (replay plan (later ++ base)).now ≤ (replay plan base).now + limit
      comes_in limit first later taken dark on =
          ends_in_time (λ l. Unit {0}) (λ i l x. x) (λ v n. Stage longest Lasts k h r c v n) goes_further limit first later taken dark on tt

      -- from wherever the rings are
      pub served_in : AreTaken plan base → Course plan base [] → (later : List Input) → AreTaken plan (later ++ base) → IsUntripped plan base later → Course plan base later →
          (replay plan (later ++ base)).now
          ≤ (replay plan base).now + time_by_turns (replay plan base).plan (λ p. longest p + k + 2) (order_of (view free (replay plan base))) k h r c
      served_in taken_base at_base later taken dark on =
          let all = comes_in (all_left longest Lasts k h r c (view free (replay plan base))) stage later taken dark on in
          let around = far_around (λ p. longest p + k + 2) k (replay plan base).plan (side_of (replay plan base).plan c) in
          omega (arith, all, around)
        where
          stage : Stage longest Lasts k h r c (view free (replay plan base)) (all_left longest Lasts k h r c (view free (replay plan base)))
          stage =
              stage_now longest Lasts k h r c free (replay plan base) (good [] taken_base at_base) (sides_are [] taken_base at_base).side (sides_are [] taken_base at_base).crossing
              (its_side [] taken_base at_base) (over_now [] taken_base at_base) (λ x out. places_now [] taken_base at_base out x)

      -- ## A crossing begins

      outside_is : (s : State) → is_outside s ≡ true → s.rings.crossing ≡ None
      outside_is s h = go s.rings.crossing refl h
        where
          go : (o : Option ℕ) → s.rings.crossing ≡ o → is_none o ≡ true → s.rings.crossing ≡ None
          go None e f = e
          go (Some d) e f = absurd (false≢true f)

      abbrev StaysOutside : List Input → Type 0
      StaysOutside later = has_held_since is_outside plan base later ≡ true

      outside_now : (later : List Input) → StaysOutside later → (replay plan (later ++ base)).rings.crossing ≡ None
      outside_now [] h = outside_is (replay plan base) h
      outside_now (i ∷ later) h =
          outside_is (replay plan (i ∷ (later ++ base))) (and_parts (is_outside (replay plan (i ∷ (later ++ base)))) (has_held_since is_outside plan base later) h).0

      outside_before : (i : Input) (later : List Input) → StaysOutside (i ∷ later) → StaysOutside later
      outside_before i later h = (and_parts (is_outside (replay plan (i ∷ (later ++ base)))) (has_held_since is_outside plan base later) h).1

      module _ (d : ℕ) (far : d ≢ side_of (replay plan base).plan c) where
        goes_beyond : (row : Row) (later : List Input) → AreTaken plan (Tick row ∷ (later ++ base)) → (replay plan (later ++ base)).trip ≡ None → Course plan base (Tick row ∷ later) →
            StaysOutside (Tick row ∷ later) → (n : ℕ) → Beyond longest Lasts k h r c (view free (replay plan (later ++ base))) d n →
            LessFor (λ m. Beyond longest Lasts k h r c (view free (after_moves (replay plan (later ++ base)) row)) d m) n
        goes_beyond row later taken dark on out n was =
            let it = way row later taken dark on in
            beyond_tick free longest Lasts k h r c (replay plan (later ++ base)) row (it.when_open (outside_now later (outside_before (Tick row) later out))) it.bounds it.clears it.reverts
            (own_now later taken.0 on.0) (enabled_now later taken.0 on.0) on.1.called none d was.there (at_plan later taken.0 on.0 (λ x. d ≢ side_of x c) far) n was
          where
            none : begins (replay plan (later ++ base)).plan (replay plan (later ++ base)).rings (rings_given (replay plan (later ++ base)) row) ≡ false
            none =
                false_from_ne_true _ (λ b. (let some = begun_crosses (replay plan (later ++ base)).plan (replay plan (later ++ base)).rings (rings_given (replay plan (later ++ base)) row) b in
                let seen = ap (λ (v : View). v.rings.crossing) (view_then free (replay plan (later ++ base)) row dark on.1.quiet) in
                let bad : Some (target_side (replay plan (later ++ base)).plan (replay plan (later ++ base)).rings (rings_given (replay plan (later ++ base)) row)) ≡ None =
                sym some ∙ (sym seen ∙ outside_now (Tick row ∷ later) out) in absurd cc))

      pub begins_in : (replay plan base).rings.side ≢ side_of (replay plan base).plan c → AreTaken plan base → Course plan base [] → (later : List Input) → AreTaken plan (later ++ base) →
          IsUntripped plan base later → Course plan base later → has_held_since is_outside plan base later ≡ true →
          (replay plan (later ++ base)).now
          ≤ (replay plan base).now + (times_on (λ p. longest p + k + 2) (replay plan base).plan (replay plan base).rings.side
          (later_in (place (replay plan base) Ring1) (order_of (view free (replay plan base)) Ring1))
          + times_on (λ p. longest p + k + 2) (replay plan base).plan (replay plan base).rings.side
          (later_in (place (replay plan base) Ring2) (order_of (view free (replay plan base)) Ring2)) + 2 * (h + 2 * k + 1))
      begins_in far taken_base at_base later taken dark on out =
          ends_in_time StaysOutside outside_before (λ v n. Beyond longest Lasts k h r c v (replay plan base).rings.side n) (goes_beyond (replay plan base).rings.side far) _ first later taken dark on out
        where
          outside_base : (is : List Input) → StaysOutside is → (replay plan base).rings.crossing ≡ None
          outside_base [] h = outside_is (replay plan base) h
          outside_base (i ∷ is) h = outside_base is (outside_before i is h)

          first : Beyond longest Lasts k h r c (view free (replay plan base)) (replay plan base).rings.side
              (times_on (λ p. longest p + k + 2) (replay plan base).plan (replay plan base).rings.side
              (later_in (place (replay plan base) Ring1) (order_of (view free (replay plan base)) Ring1))
              + times_on (λ p. longest p + k + 2) (replay plan base).plan (replay plan base).rings.side
              (later_in (place (replay plan base) Ring2) (order_of (view free (replay plan base)) Ring2)) + 2 * (h + 2 * k + 1))
          first =
              beyond_now longest Lasts k h r c free (replay plan base) (good [] taken_base at_base) (sides_are [] taken_base at_base).side (sides_are [] taken_base at_base).crossing
              (its_side [] taken_base at_base) (over_now [] taken_base at_base) (λ x o. places_now [] taken_base at_base o x) (outside_base later out)
