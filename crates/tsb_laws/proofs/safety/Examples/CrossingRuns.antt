-- A run from power-up that meets all premises of the laws of crossings and of enabled phases, as far as the crossing is completed.
use Rattle.std.proofs.Common.{◌≡◌, ℕ, ◌+◌, ◌≤◌, true, List, [], ◌∷◌, ◌++◌, Some, None, refl, ap, subst, inl, inr, arith, ◌∙◌}
use Rattle.tsb_step.specs.tsb_types.Sets.{all_off}
use Rattle.tsb_step.specs.tsb_types.declared.row.Row.{Row}
use Rattle.tsb_step.specs.tsb_types.Intervals.{in_service}
use Rattle.tsb_step.specs.tsb_plan.declared.object.Object.{Object}
use Rattle.tsb_step.specs.tsb_plan.declared.object.Object.TheVariants.{PhaseYellowChange, PhaseRedClear, PhaseRedRevert, UnitRedRevert, PhasePedRecall, PreemptMinimumGreen, PreemptMinimumWalk, PreemptEnterPedClear, PreemptChoosesAnew}
use Rattle.tsb_step.specs.tsb_plan.Objects.{greatest}
use Rattle.tsb_step.specs.tsb_plan.Plan.{Plan, all_counts, yellow_change, red_clear, red_revert, with_values}
use Rattle.tsb_step.specs.tsb_plan.Quad.{quad}
use Rattle.tsb_step.specs.tsb_rules.Rules.{first_broken}
use Rattle.tsb_step.specs.tsb_ring.Rings.{Ring, Ring1}
use Rattle.tsb_step.specs.declared.inputs.Input.{Input}
use Rattle.tsb_step.specs.declared.inputs.Input.TheVariants.{Tick, Switch}
use Rattle.tsb_step.specs.State.{start, interval}
use Rattle.tsb_step.specs.Step.{step}
use Rattle.tsb_step.specs.Runs.{replay, AreTaken}
use Rattle.tsb_step.specs.Laws.{IsConsistent, is_unlit}
use Rattle.tsb_step.proofs.ClearLemmas.{plan_stays}
use Rattle.tsb_step.proofs.Examples.Scenes.{opened}
use Rattle.tsb_laws.specs.Stretches.{IsUntripped, has_no_trails, NoneChooses, NoneTrails, largest, StartsGreen}
use Rattle.tsb_laws.specs.Crossings.{BeginsCrossing, TakesAtMost, CompletesWithin}
use Rattle.tsb_laws.proofs.safety.CrossingLemmas.{completes_in_time}
use Rattle.tsb_laws.proofs.safety.Examples.PlanFits.{Fits, values_fit, quad_fits, consistent}
use Rattle.tsb_laws.proofs.safety.Examples.TickRuns.{ticks, now_then, none_choose, none_trail, largest_then, all_taken, none_trips, AreTicks, older_ticks}
use Rattle.tsb_laws.proofs.safety.Examples.CommitmentRuns.{IsKnown}

-- ## A crossing that a preempt asks for in the second tick: it ends the walk of 2 and the greens of 2 and 6 at once

abbrev quick_values : List (Object × ℕ × ℕ)
quick_values = (PhasePedRecall, 2, 1) ∷ (PreemptMinimumGreen, 1, 0) ∷ (PreemptMinimumWalk, 1, 0) ∷ (PreemptEnterPedClear, 1, 0) ∷ []

unfoldable pub quick : Plan
quick = with_values quad quick_values

-- no phase has a longer clearance or red revert, and no preempt chooses anew
abbrev limit : Object → ℕ
limit PhaseYellowChange = 30
limit PhaseRedClear = 10
limit PhaseRedRevert = 0
limit UnitRedRevert = 20
limit PreemptChoosesAnew = 0
limit o = greatest o

quick_fits : Fits limit quick.value
unfolding quick
quick_fits = values_fit limit quick_values quad refl (quad_fits limit refl refl)

quick_count : (quick.phase_count ≡ 16) × (quick.counts ≡ all_counts)
unfolding quad quick
quick_count = (refl, refl)

breaks_none : first_broken quick ≡ None
unfolding opened quick
breaks_none = refl

abbrev pub walked : List Input
walked = Tick all_off ∷ []

abbrev pub crossed : List Input
crossed = Tick all_off ∷ Switch 1 true ∷ walked

pub taken : AreTaken quick crossed
unfolding opened quick
taken = (((tt, refl), refl), refl)

unlit : is_unlit quick crossed ≡ true
unlit = refl

ticked_2 : (replay quick crossed).now ≡ 2
unfolding opened quick
ticked_2 = refl

same_plan : (replay quick crossed).plan ≡ quick
unfolding step
same_plan = plan_stays (replay quick (Switch 1 true ∷ walked)) all_off ∙ plan_stays (start quick) all_off

no_trails : has_no_trails (replay quick crossed).plan ≡ true
unfolding opened quick
no_trails = refl

pub known : IsKnown quick crossed
known = record {
  consistent = consistent limit quick quick_count breaks_none quick_fits;
  few = (let count = quick_count.0 in omega (arith, count));
  taken = taken;
  unlit = unlit;
  early = (let now = ticked_2 in omega (arith, now));
  choice = λ n. (let same : (replay quick crossed).plan.value PreemptChoosesAnew n ≡ quick.value PreemptChoosesAnew n =
      ap (λ (x : Plan). x.value PreemptChoosesAnew n) same_plan in
      let most : quick.value PreemptChoosesAnew n ≤ 0 = quick_fits.bounded PreemptChoosesAnew n in omega (arith, same, most));
  untrailed = no_trails;
}

none_before : (replay quick (Switch 1 true ∷ walked)).rings.crossing ≡ None
unfolding opened quick
none_before = refl

begins : (replay quick crossed).rings.crossing ≡ Some 2
unfolding opened quick
begins = refl

begins_crossing : BeginsCrossing quick (Switch 1 true ∷ walked) all_off 2
begins_crossing = record { none_before = none_before; begins = begins }

takes_40 : (n : ℕ) → TakesAtMost quick crossed 40 (ticks all_off n)
takes_40 n = record {
  clearance = λ p h.
      (let y : largest (λ x. yellow_change x p) quick crossed (ticks all_off n) ≡ yellow_change quick p =
      largest_then quick all_off crossed (λ x. yellow_change x p) n ∙ ap (λ (x : Plan). yellow_change x p) same_plan in
      let z : largest (λ x. red_clear x p) quick crossed (ticks all_off n) ≡ red_clear quick p =
      largest_then quick all_off crossed (λ x. red_clear x p) n ∙ ap (λ (x : Plan). red_clear x p) same_plan in
      let a : quick.value PhaseYellowChange p ≤ 30 = quick_fits.bounded PhaseYellowChange p in
      let b : quick.value PhaseRedClear p ≤ 10 = quick_fits.bounded PhaseRedClear p in omega (arith, y, z, a, b));
  revert = λ r c e.
      (let v : largest (λ x. red_revert x c) quick crossed (ticks all_off n) ≡ red_revert quick c =
      largest_then quick all_off crossed (λ x. red_revert x c) n ∙ ap (λ (x : Plan). red_revert x c) same_plan in
      let a : quick.value PhaseRedRevert c ≤ 0 = quick_fits.bounded PhaseRedRevert c in
      let b : quick.value UnitRedRevert 1 ≤ 20 = quick_fits.bounded UnitRedRevert 1 in omega (arith, v, a, b));
}

-- ## Crossings complete

record Crossing (plan : Plan) (is later : List Input) (row : Row) (d n : ℕ) : Type 0 where
  consistent : IsConsistent plan
  few : plan.phase_count ≤ 16
  taken : AreTaken plan (later ++ (Tick row ∷ is))
  untripped : IsUntripped plan (Tick row ∷ is) later
  choice : NoneChooses plan (Tick row ∷ is) later
  untrailed : NoneTrails plan (Tick row ∷ is) later
  begins : BeginsCrossing plan is row d
  limit : TakesAtMost plan (Tick row ∷ is) n later

in_time : (n : ℕ) → n ≤ 500 → (replay quick crossed).now + n ≤ 1000
in_time n few = let now = ticked_2 in omega (arith, now, few)

a_crossing : Crossing quick (Switch 1 true ∷ walked) (ticks all_off 41) all_off 2 40
a_crossing = record {
  consistent = known.consistent;
  few = known.few;
  taken = all_taken quick all_off crossed 41 taken (in_time 41 (omega arith));
  untripped = none_trips quick all_off crossed known.consistent taken unlit 41 (in_time 41 (omega arith));
  choice = none_choose quick all_off crossed 41 known.choice;
  untrailed = none_trail quick all_off crossed 41 no_trails;
  begins = begins_crossing;
  limit = takes_40 41;
}

-- it is completed in one of these ticks, and starts 3
commits_to_3 : (replay quick crossed).rings.commitment Ring1 ≡ Some 3
unfolding opened quick
commits_to_3 = refl

record Starts3 : Type 0 where
  count : ℕ
  fewer : count + 1 ≤ 41
  next : Row
  started : StartsGreen quick (ticks all_off count ++ crossed) next 3

starts_3 : Starts3
starts_3 = go (completes_in_time quick (Switch 1 true ∷ walked) (ticks all_off 41) all_off 2 40 a_crossing.consistent a_crossing.few a_crossing.taken a_crossing.untripped a_crossing.choice a_crossing.untrailed a_crossing.begins a_crossing.limit)
  where
    go : CompletesWithin quick crossed 2 41 (ticks all_off 41) → Starts3
    go (inl h) =
        let it : AreTicks all_off 41 h.older = older_ticks all_off 41 h.newer h.older h.next h.parts in
        record {
          count = it.count;
          fewer = it.fewer;
          next = h.next;
          started = subst (λ (l : List Input). StartsGreen quick (l ++ crossed) h.next 3) it.same (h.started Ring1 3 commits_to_3);
        }
    go (inr h) = let clock = now_then quick all_off crossed 41 in absurd (omega (arith, clock, h))

-- ## Enabled phases are served

record Served (plan : Plan) (is : List Input) (p : ℕ) (r : Ring) (c : ℕ) : Type 0 where
  consistent : IsConsistent plan
  taken : AreTaken plan is
  serves : in_service (interval (replay plan is) p) ≡ true
  promised : (replay plan is).rings.commitment r ≡ Some c

serves_2 : in_service (interval (replay quick crossed) 2) ≡ true
unfolding opened quick
serves_2 = refl

a_service : Served quick crossed 2 Ring1 3
a_service = record { consistent = known.consistent; taken = taken; serves = serves_2; promised = commits_to_3 }
