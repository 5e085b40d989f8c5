-- What the rings are given in a tick is what their safety asks for: concurrency goes both ways, sequences have a ring's phases
-- from among those of the plan, and the target of a preempt is pairwise concurrent.
use Rattle.std.proofs.Common.{◌≡◌, ℕ, ◌+◌, ◌≤◌, ◌<◌, ◌==◌, nat_le, Bool, true, false, if◌then◌else◌, Option, Some, None, refl, sym, inl, inr, arith, ◌∙◌}
use Rattle.std.proofs.lemmas.Bool.{cases_eq, cases_Bool, eqb-true, true≢false, and_parts}
use Rattle.std.proofs.lemmas.Bool.Decides.{nat_tests}
use Rattle.tsb_types.specs.declared.row.Row.{Row}
use Rattle.tsb_types.specs.Lists.{among}
use Rattle.tsb_types.proofs.RunLemmas.{among-run}
use Rattle.tsb_objects.specs.tsb_plan.declared.object.Object.TheVariants.{PhaseEnabled, PhaseRing}
use Rattle.tsb_objects.specs.tsb_plan.Parts.{is_used}
use Rattle.tsb_objects.specs.tsb_plan.Plan.{Plan, is_enabled, sequence}
use Rattle.tsb_objects.specs.tsb_plan.Running.{running, sequence_in_effect}
use Rattle.tsb_objects.specs.tsb_rules.Consistent.{IsPhase, IsWhole, ListsRing, ListsRings, AreCompatible}
use Rattle.tsb_objects.specs.tsb_rules.Rules.{first_broken}
use Rattle.tsb_objects.proofs.tsb_rules.ConsistentLemmas.{together, first_lists, whole, used_lists}
use Rattle.tsb_objects.proofs.tsb_rules.RuleLemmas.{Passes, some-run_from}
use Rattle.tsb_ring.specs.Rings.{Ring, Ring1, Ring2, number, in_ring}
use Rattle.tsb_ring.specs.Laws.{IsListed, IsSymmetric, IsPairwiseConcurrent, IsGiven}
use Rattle.tsb_coord.specs.Coordinated.{serving_order}
use Rattle.tsb_preempt.specs.Preempts.{wanted_by}
use Rattle.tsb_preempt.specs.Service.{Service, service_as_read, stage_phases}
use Rattle.tsb_step.specs.State.{State}
use Rattle.tsb_step.specs.Tables.{has_place}
use Rattle.tsb_step.specs.Tick.{preempts_given, preempts_read, new_service, target, rings_given}
use Rattle.tsb_step.specs.Laws.{IsConsistent}
use Rattle.tsb_step.specs.Good.{IsPatternNumber, IsInStage, IsGood}
use Rattle.tsb_step.proofs.ServiceLemmas.{served_after, compatible}

-- ## The plan's phases

pub listed_is_phase : (plan : Plan) (p : ℕ) → IsListed plan p → IsPhase plan p
listed_is_phase plan p h =
    let found : Passes (λ q. q == p) 1 plan.phase_count = some-run_from (λ q. q == p) 1 plan.phase_count h in
    let same : found.one ≡ p = eqb-true found.one p found.passes in
    let from : 1 ≤ found.one = found.from in
    let below : found.one < 1 + plan.phase_count = found.below in
    record { from_one = omega (arith, same, from); within = omega (arith, same, below) }

pub phase_is_listed : (plan : Plan) (p : ℕ) → IsPhase plan p → IsListed plan p
phase_is_listed plan p h =
    let from : 1 ≤ p = h.from_one in
    let within : p ≤ plan.phase_count = h.within in
    among-run p 1 plan.phase_count from (omega (arith, within))

-- an enabled phase is one of the plan's
pub enabled_is_listed : (plan : Plan) → IsConsistent plan → (p : ℕ) → is_enabled plan p ≡ true → IsListed plan p
enabled_is_listed plan ok p on =
    elim (cases_Bool (has_place plan PhaseEnabled p)) [
      | inl here ↦ phase_is_listed plan p (record {
        from_one = grind (arith, nat_tests, (and_parts (nat_le 1 p) (nat_le p plan.phase_count) here).0);
        within = grind (arith, nat_tests, (and_parts (nat_le 1 p) (nat_le p plan.phase_count) here).1);
      })
      | inr out ↦ (let none : plan.value PhaseEnabled p ≡ 0 = ok.placed PhaseEnabled p out in
          let off : is_enabled plan p ≡ false = rw none refl in absurd (true≢false (sym on ∙ off)))
    ]

-- phase 0 is of no ring
zero_in_no_ring : (plan : Plan) → IsConsistent plan → (r : Ring) (p : ℕ) → p ≡ 0 → in_ring plan r p ≡ true → ⊥
zero_in_no_ring plan ok r p zero_is own =
    let none : plan.value PhaseRing p ≡ 0 = rw zero_is (ok.placed PhaseRing 0 refl) in
    go r (rw none at own)
  where
    go : (x : Ring) → (0 == number x) ≡ true → ⊥
    go Ring1 e = cc
    go Ring2 e = cc

-- ## Concurrency

pub symmetric : (plan : Plan) → first_broken plan ≡ None → IsSymmetric plan
symmetric plan rules p q h k go = (together plan rules p q (listed_is_phase plan p h) (listed_is_phase plan q k) go).back

-- ## Sequences

-- the sequence in effect lists the rings
pub lists_now : (plan : Plan) → first_broken plan ≡ None → (selected : Option ℕ) → ((n : ℕ) → selected ≡ Some n → IsPatternNumber n) →
    ListsRings plan (sequence_in_effect plan (running plan selected))
lists_now plan rules None numbered = first_lists plan rules
lists_now plan rules (Some n) numbered = go (is_used plan n) refl
  where
    go : (b : Bool) → is_used plan n ≡ b → ListsRings plan (sequence_in_effect plan (if b then Some n else None))
    go false e = first_lists plan rules
    go true e =
        let it : IsPatternNumber n = numbered n refl in
        let w : IsWhole plan n = whole plan rules n it.from_one it.within e in
        let lists : ListsRings plan w.its_sequence = used_lists plan rules n w.its_sequence w.its_split w.in_use in
        rw w.in_use.sequence lists

pub lists_ring : (plan : Plan) (s : ℕ) (r : Ring) → ListsRings plan s → ListsRing plan (number r) (sequence plan s (number r))
lists_ring plan s Ring1 lists = lists.first
lists_ring plan s Ring2 lists = lists.second

sequenced : (plan : Plan) → IsConsistent plan → (selected : Option ℕ) → ((n : ℕ) → selected ≡ Some n → IsPatternNumber n) →
    (r : Ring) (p : ℕ) → in_ring plan r p ≡ true → among p (serving_order plan selected (number r)) ≡ true → IsListed plan p
sequenced plan ok selected numbered r p own here =
    let s : ℕ = sequence_in_effect plan (running plan selected) in
    let lists : ListsRing plan (number r) (sequence plan s (number r)) = lists_ring plan s r (lists_now plan ok.rules selected numbered) in
    enabled_is_listed plan ok p (lists.only_enabled p here (λ zero_is. zero_in_no_ring plan ok r p zero_is own))

-- ## Targets

compatible_pairwise : (plan : Plan) (list : ℕ → Bool) → AreCompatible plan list → IsPairwiseConcurrent plan (Some list)
compatible_pairwise plan list fits p q listed other h k =
    elim (cases_eq p q) [
      | inl same ↦ inl same
      | inr apart ↦ inr (fits.concurrent p q (listed_is_phase plan p listed) (listed_is_phase plan q other)
          (and_parts (is_enabled plan p) (list p) h).1 (and_parts (is_enabled plan q) (list q) k).1 apart)
    ]

pairwise_for : (plan : Plan) → first_broken plan ≡ None → (o : Option Service) → ((x : Service) → o ≡ Some x → IsInStage plan x) →
    IsPairwiseConcurrent plan (wanted_by plan o)
pairwise_for plan rules None fits = tt
pairwise_for plan rules (Some x) fits = compatible_pairwise plan (stage_phases plan x.preempt x.stage) (compatible plan x rules (fits x refl))

-- a service in the tick, from the one that was
read_service : (s : State) → IsGood s → (y : Service) → (preempts_read s).service ≡ Some y → IsInStage s.plan y
read_service s good y e = go s.preempts.service refl e
  where
    fits : (made : Service) → IsInStage s.plan made → Some made ≡ Some y → IsInStage s.plan y
    fits made h same = let here : made ≡ y = cc in rw (← here) h

    go : (o : Option Service) → s.preempts.service ≡ o → service_as_read o ≡ Some y → IsInStage s.plan y
    go None f k = cc
    go (Some x) f k = fits _ (record { preempt = (good.service x f).preempt; some = (good.service x f).some }) k

pub new_in_stage : (s : State) (row : Row) → IsGood s → (x : Service) → new_service s row ≡ Some x → IsInStage s.plan x
unfolding new_service
new_in_stage s row good x e =
    served_after s.plan (preempts_given s row) (preempts_read s) good.plan.rules (read_service s good) x e

pairwise : (s : State) (row : Row) → IsGood s → IsPairwiseConcurrent s.plan (target s row)
unfolding new_service
pairwise s row good =
    pairwise_for s.plan good.plan.rules (new_service s row) (λ x e. new_in_stage s row good x e)

-- ## All of it

pub given : (s : State) (row : Row) → IsGood s → IsGiven s.plan (rings_given s row)
unfolding rings_given
given s row good = record {
  sequenced = sequenced s.plan good.plan s.pattern good.pattern;
  pairwise = pairwise s row good;
}
