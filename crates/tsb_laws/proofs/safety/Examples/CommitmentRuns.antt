-- Runs from power-up that meet all premises of a law at once, computed as far as the tick in which the green ends: from there on
-- 40 ticks more, of which the laws themselves tell what starts in them. Of intergreens and of commitments.
use Rattle.std.proofs.Common.{◌≡◌, ℕ, ◌+◌, ◌≤◌, true, false, max, List, [], ◌∷◌, ◌++◌, Some, None, refl, sym, ap, subst, inl, inr, arith, ◌∙◌}
use Rattle.tsb_step.specs.tsb_types.Sets.{all_off}
use Rattle.tsb_step.specs.tsb_types.declared.interval.Interval.TheVariants.{Green, Yellow}
use Rattle.tsb_step.specs.tsb_types.declared.row.Row.{Row}
use Rattle.tsb_step.specs.tsb_plan.declared.object.Object.{Object}
use Rattle.tsb_step.specs.tsb_plan.declared.object.Object.TheVariants.{PhaseMinRecall, PhasePedRecall, PhaseMinimumGreen, PhasePassage, PhaseMinimumGap, PreemptChoosesAnew}
use Rattle.tsb_step.specs.tsb_plan.Plan.{Plan, all_counts, is_concurrent, yellow_change, red_clear, red_revert, with_values}
use Rattle.tsb_step.specs.tsb_plan.Quad.{quad}
use Rattle.tsb_step.specs.tsb_rules.Rules.{first_broken}
use Rattle.tsb_step.specs.tsb_ring.Rings.{Ring, Ring1, in_ring}
use Rattle.tsb_step.specs.declared.inputs.Input.{Input}
use Rattle.tsb_step.specs.declared.inputs.Input.TheVariants.{Tick}
use Rattle.tsb_step.specs.State.{interval}
use Rattle.tsb_step.specs.Runs.{replay, AreTaken}
use Rattle.tsb_step.specs.Laws.{IsConsistent, is_unlit}
use Rattle.tsb_step.proofs.Examples.Scenes.{opened}
use Rattle.tsb_laws.specs.Stretches.{IsUntripped, has_no_trails, NoneChooses, NoneTrails, EndsGreen, StartsGreen}
use Rattle.tsb_laws.specs.Intergreens.{AreApart}
use Rattle.tsb_laws.specs.Commitments.{CommitsTo, wait, StartsWithin}
use Rattle.tsb_laws.proofs.safety.ServedLemmas.{are_served}
use Rattle.tsb_laws.proofs.safety.Examples.PlanFits.{Fits, no_choice, values_fit, quad_fits, consistent}
use Rattle.tsb_laws.proofs.safety.Examples.TickRuns.{ticks, now_then, plan_then, none_choose, none_trail, largest_then, all_taken, none_trips, AreTicks, older_ticks}

-- ## A run that is known as far as its newest input, and ticks after it

-- the plan breaks no rule, each input was taken, no lamp was lit, there is room for ticks, and no preempt chooses anew
pub record IsKnown (plan : Plan) (base : List Input) : Type 0 where
  pub consistent : IsConsistent plan
  pub few : plan.phase_count ≤ 16
  pub taken : AreTaken plan base
  pub unlit : is_unlit plan base ≡ true
  pub early : (replay plan base).now ≤ 100
  pub choice : (n : ℕ) → (replay plan base).plan.value PreemptChoosesAnew n ≤ 0
  pub untrailed : has_no_trails (replay plan base).plan ≡ true

-- c starts in the tick after so many
pub record Starts (plan : Plan) (base : List Input) (row : Row) (c n : ℕ) : Type 0 where
  pub count : ℕ
  pub fewer : count + 1 ≤ n
  pub next : Row
  pub started : StartsGreen plan (ticks row count ++ base) next c

-- a commitment that is made as a green ends starts in one of so many ticks as it may have to wait
pub starts_then : (plan : Plan) (is : List Input) (row last : Row) (p : ℕ) (r : Ring) (c n : ℕ) → IsKnown plan (Tick last ∷ is) → CommitsTo plan is last p r c →
    max (yellow_change (replay plan (Tick last ∷ is)).plan p + red_clear (replay plan (Tick last ∷ is)).plan p) (red_revert (replay plan (Tick last ∷ is)).plan c) ≤ n →
    n ≤ 500 → Starts plan (Tick last ∷ is) row c n
starts_then plan is row last p r c n known x most few =
    go (are_served plan is (ticks row n) last p r c known.consistent known.few (all_taken plan row (Tick last ∷ is) n known.taken in_time)
    (none_trips plan row (Tick last ∷ is) known.consistent known.taken known.unlit n in_time)
    (none_choose plan row (Tick last ∷ is) n known.choice) (none_trail plan row (Tick last ∷ is) n known.untrailed) x)
  where
    in_time : (replay plan (Tick last ∷ is)).now + n ≤ 1000
    in_time = let early = known.early in omega (arith, early, few)

    waits : wait plan (Tick last ∷ is) p c (ticks row n) ≤ n
    waits =
        let y = largest_then plan row (Tick last ∷ is) (λ x. yellow_change x p) n in
        let z = largest_then plan row (Tick last ∷ is) (λ x. red_clear x p) n in
        let v = largest_then plan row (Tick last ∷ is) (λ x. red_revert x c) n in
        rw (y, z, v) most

    go : StartsWithin plan (Tick last ∷ is) c (wait plan (Tick last ∷ is) p c (ticks row n)) (ticks row n) → Starts plan (Tick last ∷ is) row c n
    go (inl h) =
        let it : AreTicks row n h.older = older_ticks row n h.newer h.older h.next h.parts in
        record {
          count = it.count;
          fewer = it.fewer;
          next = h.next;
          started = subst (λ (l : List Input). StartsGreen plan (l ++ (Tick last ∷ is)) h.next c) it.same h.started;
        }
    go (inr h) = let clock = now_then plan row (Tick last ∷ is) n in absurd (omega (arith, clock, waits, h))

-- ## A green that ends at once: 1 is on recall and may end in the next tick, and 2 follows it

abbrev brief_values : List (Object × ℕ × ℕ)
brief_values =
    (PhaseMinRecall, 1, 1) ∷ (PhaseMinimumGreen, 1, 0) ∷ (PhasePassage, 1, 0) ∷ (PhaseMinimumGap, 1, 0) ∷ (PhasePedRecall, 2, 1) ∷ []

unfoldable pub brief : Plan
brief = with_values quad brief_values

brief_fits : Fits no_choice brief.value
unfolding brief
brief_fits = values_fit no_choice brief_values quad refl (quad_fits no_choice refl refl)

brief_count : (brief.phase_count ≡ 16) × (brief.counts ≡ all_counts)
unfolding quad brief
brief_count = (refl, refl)

breaks_none : first_broken brief ≡ None
unfolding opened brief
breaks_none = refl

abbrev pub ended : List Input
ended = Tick all_off ∷ Tick all_off ∷ []

taken : AreTaken brief ended
unfolding opened brief
taken = ((tt, refl), refl)

unlit : is_unlit brief ended ≡ true
unlit = refl

ticked_2 : (replay brief ended).now ≡ 2
unfolding opened brief
ticked_2 = refl

no_trails : has_no_trails (replay brief ended).plan ≡ true
unfolding opened brief
no_trails = refl

pub brief_known : IsKnown brief ended
brief_known = record {
  consistent = consistent no_choice brief brief_count breaks_none brief_fits;
  few = (let count = brief_count.0 in omega (arith, count));
  taken = taken;
  unlit = unlit;
  early = (let now = ticked_2 in omega (arith, now));
  choice = λ n. (let same : (replay brief ended).plan.value PreemptChoosesAnew n ≡ brief.value PreemptChoosesAnew n =
      ap (λ (x : Plan). x.value PreemptChoosesAnew n) (plan_then brief all_off [] 2) in
      let most : brief.value PreemptChoosesAnew n ≤ 0 = brief_fits.bounded PreemptChoosesAnew n in omega (arith, same, most));
  untrailed = no_trails;
}

was_green : interval (replay brief (Tick all_off ∷ [])) 1 ≡ Green
unfolding opened brief
was_green = refl

ends : interval (replay brief ended) 1 ≡ Yellow
unfolding opened brief
ends = refl

ringed : in_ring (replay brief (Tick all_off ∷ [])).plan Ring1 1 ≡ true
unfolding opened brief
ringed = refl

made : (replay brief ended).rings.commitment Ring1 ≡ Some 2
unfolding opened brief
made = refl

outside : (replay brief ended).rings.crossing ≡ None
unfolding opened brief
outside = refl

ends_1 : EndsGreen brief (Tick all_off ∷ []) all_off 1
ends_1 = record { was_green = was_green; ends = λ h. (let bad : Yellow ≡ Green = sym ends ∙ h in absurd cc) }

commits_to_2 : CommitsTo brief (Tick all_off ∷ []) all_off 1 Ring1 2
commits_to_2 = record { ended = ends_1; ringed = ringed; made = made; outside = outside }

waits_40 : max (yellow_change (replay brief ended).plan 1 + red_clear (replay brief ended).plan 1) (red_revert (replay brief ended).plan 2) ≡ 40
unfolding opened brief
waits_40 = refl

are_apart : is_concurrent (replay brief ended).plan 1 2 ≡ false
unfolding opened brief
are_apart = refl

-- it starts within 40 ticks
starts_2 : Starts brief ended all_off 2 40
starts_2 = starts_then brief (Tick all_off ∷ []) all_off all_off 1 Ring1 2 40 brief_known commits_to_2 (let at = waits_40 in omega (arith, at)) (omega arith)

in_time : (replay brief ended).now + starts_2.count ≤ 1000
in_time = let fewer = starts_2.fewer in let now = ticked_2 in omega (arith, fewer, now)

-- ## Commitments are served

record Commitment (plan : Plan) (is later : List Input) (row : Row) (p : ℕ) (r : Ring) (c : ℕ) : Type 0 where
  consistent : IsConsistent plan
  few : plan.phase_count ≤ 16
  taken : AreTaken plan (later ++ (Tick row ∷ is))
  untripped : IsUntripped plan (Tick row ∷ is) later
  choice : NoneChooses plan (Tick row ∷ is) later
  untrailed : NoneTrails plan (Tick row ∷ is) later
  commits : CommitsTo plan is row p r c

a_commitment : Commitment brief (Tick all_off ∷ []) (ticks all_off starts_2.count) all_off 1 Ring1 2
a_commitment = record {
  consistent = brief_known.consistent;
  few = brief_known.few;
  taken = all_taken brief all_off ended starts_2.count taken in_time;
  untripped = none_trips brief all_off ended brief_known.consistent taken unlit starts_2.count in_time;
  choice = none_choose brief all_off ended starts_2.count brief_known.choice;
  untrailed = none_trail brief all_off ended starts_2.count no_trails;
  commits = commits_to_2;
}

-- ## Intergreens hold

record Intergreen (plan : Plan) (is later : List Input) (row next : Row) (p q : ℕ) : Type 0 where
  consistent : IsConsistent plan
  taken : AreTaken plan (later ++ (Tick row ∷ is))
  apart : AreApart plan is row p later next q

an_intergreen : Intergreen brief (Tick all_off ∷ []) (ticks all_off starts_2.count) all_off starts_2.next 1 2
an_intergreen = record {
  consistent = brief_known.consistent;
  taken = all_taken brief all_off ended starts_2.count taken in_time;
  apart = record {
    ended = ends_1;
    untripped = none_trips brief all_off ended brief_known.consistent taken unlit starts_2.count in_time;
    started = starts_2.started;
    apart = ap (λ (x : Plan). is_concurrent x 1 2) (plan_then brief all_off ended starts_2.count) ∙ are_apart;
  };
}
