-- A run from power-up that meets all premises of the law of walks: 2 walks for 10 ticks and clears for 10, computed as far as the
-- tick in which its green ends; 1, which is called meanwhile, starts within 40 ticks more.
use Rattle.std.proofs.Common.{◌≡◌, ℕ, ◌+◌, ◌≤◌, true, false, max, List, [], ◌∷◌, ◌++◌, Option, Some, None, refl, sym, ap, subst, arith, append_assoc, ◌∙◌}
use Rattle.tsb_step.specs.tsb_types.Sets.{all_off}
use Rattle.tsb_step.specs.tsb_types.declared.interval.Interval.{Interval}
use Rattle.tsb_step.specs.tsb_types.declared.interval.Interval.TheVariants.{Green, Yellow}
use Rattle.tsb_step.specs.tsb_types.declared.interval.PedestrianInterval.TheVariants.{DontWalk, Walk}
use Rattle.tsb_step.specs.tsb_types.declared.row.Row.{Row}
use Rattle.tsb_step.specs.tsb_plan.declared.object.Object.{Object}
use Rattle.tsb_step.specs.tsb_plan.declared.object.Object.TheVariants.{PhaseWalk, PhasePedestrianClear, PhasePedRecall, PhaseMinimumGreen, PhasePassage, PhaseMinimumGap, PreemptChoosesAnew}
use Rattle.tsb_step.specs.tsb_plan.Plan.{Plan, all_counts, is_concurrent, yellow_change, red_clear, red_revert, with_values}
use Rattle.tsb_step.specs.tsb_plan.Quad.{quad}
use Rattle.tsb_step.specs.tsb_rules.Rules.{first_broken}
use Rattle.tsb_step.specs.tsb_ring.Rings.{Ring1, in_ring}
use Rattle.tsb_step.specs.declared.inputs.Input.{Input}
use Rattle.tsb_step.specs.declared.inputs.Input.TheVariants.{Tick}
use Rattle.tsb_step.specs.State.{State, interval, pedestrian_part}
use Rattle.tsb_step.specs.Step.{step}
use Rattle.tsb_step.specs.Runs.{replay, AreTaken}
use Rattle.tsb_step.specs.Laws.{IsConsistent, is_unlit}
use Rattle.tsb_step.proofs.Examples.Scenes.{opened, vehicle}
use Rattle.tsb_laws.specs.Stretches.{has_no_trails, StartsGreen}
use Rattle.tsb_laws.specs.Intergreens.{WalksBefore}
use Rattle.tsb_laws.specs.Commitments.{CommitsTo}
use Rattle.tsb_laws.proofs.safety.Examples.PlanFits.{Fits, no_choice, values_fit, quad_fits, consistent}
use Rattle.tsb_laws.proofs.safety.Examples.TickRuns.{ticks, now_then, plan_then, all_taken, unlit_then, none_trips, none_trips_since}
use Rattle.tsb_laws.proofs.safety.Examples.CommitmentRuns.{IsKnown, Starts, starts_then}

abbrev strolling_values : List (Object × ℕ × ℕ)
strolling_values =
    (PhaseWalk, 2, 1) ∷ (PhasePedestrianClear, 2, 1) ∷ (PhasePedRecall, 2, 1) ∷
    (PhaseMinimumGreen, 2, 0) ∷ (PhasePassage, 2, 0) ∷ (PhaseMinimumGap, 2, 0) ∷ []

unfoldable strolling : Plan
strolling = with_values quad strolling_values

strolling_fits : Fits no_choice strolling.value
unfolding strolling
strolling_fits = values_fit no_choice strolling_values quad refl (quad_fits no_choice refl refl)

strolling_count : (strolling.phase_count ≡ 16) × (strolling.counts ≡ all_counts)
unfolding quad strolling
strolling_count = (refl, refl)

breaks_none : first_broken strolling ≡ None
unfolding opened strolling
breaks_none = refl

strolling_consistent : IsConsistent strolling
strolling_consistent = consistent no_choice strolling strolling_count breaks_none strolling_fits

-- ## The walk begins

abbrev walked : List Input
walked = Tick all_off ∷ []

taken_1 : AreTaken strolling walked
unfolding opened strolling
taken_1 = (tt, refl)

unlit_1 : is_unlit strolling walked ≡ true
unlit_1 = refl

ticked_1 : (replay strolling walked).now ≡ 1
unfolding opened strolling
ticked_1 = refl

no_walk : pedestrian_part (replay strolling []) 2 ≡ DontWalk
no_walk = refl

walks : pedestrian_part (replay strolling walked) 2 ≡ Walk
unfolding opened strolling
walks = refl

-- ## Its green ends 20 ticks later, with a commitment to 1

abbrev mid : List Input
mid = ticks (vehicle 1) 20

abbrev before_end : List Input
before_end = ticks (vehicle 1) 19 ++ walked

-- the interval of 2 before and after the tick that ends it, and what ring 1 is committed to and where it crosses to then
abbrev seen : State → Interval × Interval × Option ℕ × Option ℕ
seen s = (
  interval s 2,
  interval (step s (Tick (vehicle 1))) 2,
  (step s (Tick (vehicle 1))).rings.commitment Ring1,
  (step s (Tick (vehicle 1))).rings.crossing,
)

at_end : seen (replay strolling before_end) ≡ (Green, Yellow, Some 1, None)
unfolding opened strolling
at_end = refl

was_green : interval (replay strolling before_end) 2 ≡ Green
was_green = ap (λ (x : Interval × Interval × Option ℕ × Option ℕ). x.0) at_end

ends : interval (replay strolling (mid ++ walked)) 2 ≡ Yellow
ends = ap (λ (x : Interval × Interval × Option ℕ × Option ℕ). x.1) at_end

made : (replay strolling (mid ++ walked)).rings.commitment Ring1 ≡ Some 1
made = ap (λ (x : Interval × Interval × Option ℕ × Option ℕ). x.2) at_end

outside : (replay strolling (mid ++ walked)).rings.crossing ≡ None
outside = ap (λ (x : Interval × Interval × Option ℕ × Option ℕ). x.3) at_end

-- no tick changes the plan
ringed_1 : in_ring (replay strolling walked).plan Ring1 2 ≡ true
unfolding opened strolling
ringed_1 = refl

ringed : in_ring (replay strolling before_end).plan Ring1 2 ≡ true
ringed = ap (λ (x : Plan). in_ring x Ring1 2) (plan_then strolling (vehicle 1) walked 19) ∙ ringed_1

waits_40_at_first : max (yellow_change (replay strolling walked).plan 2 + red_clear (replay strolling walked).plan 2) (red_revert (replay strolling walked).plan 1) ≡ 40
unfolding opened strolling
waits_40_at_first = refl

waits_40 : max (yellow_change (replay strolling (mid ++ walked)).plan 2 + red_clear (replay strolling (mid ++ walked)).plan 2)
    (red_revert (replay strolling (mid ++ walked)).plan 1) ≡ 40
waits_40 = ap (λ (x : Plan). max (yellow_change x 2 + red_clear x 2) (red_revert x 1)) (plan_then strolling (vehicle 1) walked 20) ∙ waits_40_at_first

are_apart_1 : is_concurrent (replay strolling walked).plan 2 1 ≡ false
unfolding opened strolling
are_apart_1 = refl

are_apart : is_concurrent (replay strolling (mid ++ walked)).plan 2 1 ≡ false
are_apart = ap (λ (x : Plan). is_concurrent x 2 1) (plan_then strolling (vehicle 1) walked 20) ∙ are_apart_1

commits_to_1 : CommitsTo strolling before_end (vehicle 1) 2 Ring1 1
commits_to_1 = record {
  ended = record { was_green = was_green; ends = λ h. (let bad : Yellow ≡ Green = sym ends ∙ h in absurd cc) };
  ringed = ringed;
  made = made;
  outside = outside;
}

no_trails_in_it : has_no_trails strolling ≡ true
unfolding opened strolling
no_trails_in_it = refl

no_trails : has_no_trails (replay strolling (mid ++ walked)).plan ≡ true
no_trails = ap has_no_trails (plan_then strolling (vehicle 1) walked 20 ∙ plan_then strolling all_off [] 1) ∙ no_trails_in_it

known : IsKnown strolling (mid ++ walked)
known = record {
  consistent = strolling_consistent;
  few = (let count = strolling_count.0 in omega (arith, count));
  taken = all_taken strolling (vehicle 1) walked 20 taken_1 (let at = ticked_1 in omega (arith, at));
  unlit = unlit_then strolling (vehicle 1) walked 20 unlit_1;
  early = (let at = ticked_1 in let clock = now_then strolling (vehicle 1) walked 20 in omega (arith, at, clock));
  choice = λ n. (let same : (replay strolling (mid ++ walked)).plan.value PreemptChoosesAnew n ≡ strolling.value PreemptChoosesAnew n =
      ap (λ (x : Plan). x.value PreemptChoosesAnew n) (plan_then strolling (vehicle 1) walked 20 ∙ plan_then strolling all_off [] 1) in
      let most : strolling.value PreemptChoosesAnew n ≤ 0 = strolling_fits.bounded PreemptChoosesAnew n in omega (arith, same, most));
  untrailed = no_trails;
}

starts_1 : Starts strolling (mid ++ walked) all_off 1 40
starts_1 = starts_then strolling before_end all_off (vehicle 1) 2 Ring1 1 40 known commits_to_1 (let at = waits_40 in omega (arith, at)) (omega arith)

-- ## Walks are cleared

record WalkThenStart (plan : Plan) (is later : List Input) (row next : Row) (p q : ℕ) : Type 0 where
  consistent : IsConsistent plan
  taken : AreTaken plan (later ++ (Tick row ∷ is))
  walks : WalksBefore plan is row p later next q

in_time : (replay strolling (mid ++ walked)).now + starts_1.count ≤ 1000
in_time = let fewer = starts_1.fewer in let early = known.early in omega (arith, fewer, early)

joined : (ticks all_off starts_1.count ++ mid) ++ walked ≡ ticks all_off starts_1.count ++ (mid ++ walked)
joined = append_assoc (ticks all_off starts_1.count) mid walked

a_walk : WalkThenStart strolling [] (ticks all_off starts_1.count ++ mid) all_off starts_1.next 2 1
a_walk = record {
  consistent = strolling_consistent;
  taken = subst (λ (l : List Input). AreTaken strolling l) (sym joined) (all_taken strolling all_off (mid ++ walked) starts_1.count known.taken in_time);
  walks = record {
    no_walk = λ h. (let bad : DontWalk ≡ Walk = sym no_walk ∙ h in absurd cc);
    walks = walks;
    untripped = none_trips_since strolling all_off walked mid starts_1.count strolling_consistent known.taken known.unlit in_time
        (none_trips strolling (vehicle 1) walked strolling_consistent taken_1 unlit_1 20 (let at = ticked_1 in omega (arith, at)));
    started = subst (λ (l : List Input). StartsGreen strolling l starts_1.next 1) (sym joined) starts_1.started;
    apart = ap (λ (x : Plan). is_concurrent x 2 1)
        (ap (λ (l : List Input). (replay strolling l).plan) joined ∙ plan_then strolling all_off (mid ++ walked) starts_1.count)
        ∙ are_apart;
  };
}
