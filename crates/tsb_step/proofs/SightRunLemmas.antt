-- Inputs of every kind leave how an overlap is seen, while a phase is in service; and the phases that it includes are enabled.
use Rattle.std.proofs.Common.{◌≡◌, ℕ, ◌+◌, ◌≤◌, ◌<◌, ◌==◌, nat_le, true, false, not, ◌||◌, None, refl, ap, arith, inl, inr}
use Rattle.std.proofs.lemmas.Bool.{cases_Bool, and_parts, true≢false}
use Rattle.std.proofs.lemmas.Bool.Decides.{nat_tests}
use Rattle.tsb_types.specs.Intervals.{in_service}
use Rattle.tsb_objects.specs.tsb_plan.declared.object.Object.TheVariants.{OverlapIncludedPhases}
use Rattle.tsb_objects.specs.tsb_plan.Parts.{is_included}
use Rattle.tsb_objects.specs.tsb_plan.Plan.{Plan, phases, is_enabled}
use Rattle.tsb_objects.specs.tsb_rules.Rules.{included_phases_are_enabled, names_enabled}
use Rattle.tsb_objects.proofs.tsb_rules.ConsistentLemmas.{meets_parts}
use Rattle.tsb_objects.proofs.tsb_rules.RuleLemmas.{under, at-run_from, at-among}
use Rattle.tsb_phase.specs.Phase.{Phase}
use Rattle.tsb_step.specs.declared.inputs.Input.{Input}
use Rattle.tsb_step.specs.declared.inputs.Input.TheVariants as inputs
use Rattle.tsb_step.specs.State.{State, interval}
use Rattle.tsb_step.specs.Tables.{has_place}
use Rattle.tsb_step.specs.Step.{with_lamp, step, verdict}
use Rattle.tsb_step.specs.Laws.{IsConsistent}
use Rattle.tsb_step.specs.Good.{IsGood}
use Rattle.tsb_step.specs.TimeLaws.{is_tick, is_reset}
use Rattle.tsb_step.proofs.LeaveLemmas.{others_leave}
use Rattle.tsb_step.proofs.OverlapLemmas.{IsOf}
use Rattle.tsb_step.proofs.SightLemmas.{SameSight, plain, same_committed}
use Rattle.tsb_step.proofs.StandLemmas.{keeps_lit}
use Rattle.tsb_step.proofs.YellowLemmas.{leaves_structure, enabled_lit}

-- ## The included phases of an overlap are enabled

pub included_enabled : (plan : Plan) → IsConsistent plan → (o p : ℕ) → (plan.value OverlapIncludedPhases o == 0) ≡ false → IsOf plan o p →
    is_enabled plan p ≡ true
included_enabled plan ok o p filled of =
    let k14 : included_phases_are_enabled plan ≡ true = (meets_parts plan ok.rules).k14 in
    let own : names_enabled plan (plan.value OverlapIncludedPhases o) ≡ true =
    at-run_from (λ x. names_enabled plan (plan.value OverlapIncludedPhases x)) 1 plan.counts.overlaps o k14 placed.0 placed.1 in
    under (is_included plan o p) (is_enabled plan p)
    (at-among (λ q. not (is_included plan o q) || is_enabled plan q) p (phases plan) own of.listed) of.included
  where
    placed : (1 ≤ o) × (o < 1 + plan.counts.overlaps)
    placed =
        elim (cases_Bool (has_place plan OverlapIncludedPhases o)) [
          | inl here ↦ (let both = and_parts (nat_le 1 o) (nat_le o plan.counts.overlaps) here in (grind (arith, nat_tests, both.0), grind (arith, nat_tests, both.1)))
          | inr out ↦ (let none : plan.value OverlapIncludedPhases o ≡ 0 = ok.placed OverlapIncludedPhases o out in
              let bad : true ≡ false = rw none at filled in absurd (true≢false bad))
        ]

-- ## An input that is neither a tick nor a reset

committed_same : (s : State) (station p o : ℕ) → IsGood s → verdict s (inputs.Commit station) ≡ None → in_service (interval s p) ≡ true →
    SameSight s (step s (inputs.Commit station)) o
unfolding step
committed_same s station p o good taken serves = same_committed s o (leaves_structure s station p good taken serves)

pub same_sight : (s : State) (i : Input) (p o : ℕ) → is_tick i ≡ false → is_reset i ≡ false → IsGood s → verdict s i ≡ None →
    in_service (interval s p) ≡ true → SameSight s (step s i) o
unfolding step
same_sight s (inputs.Tick row) p o t r good taken serves = absurd (true≢false t)
same_sight s (inputs.Fault lamp) p o t r good taken serves =
    plain s (with_lamp lamp s) o (enabled_lit s lamp) (λ q. ap (λ (x : Phase). x.interval) (others_leave s (inputs.Fault lamp) q refl refl)) (keeps_lit s lamp)
same_sight s inputs.Reset p o t r good taken serves = absurd (true≢false r)
same_sight s (inputs.Commit station) p o t r good taken serves = committed_same s station p o good taken serves
same_sight s i p o t r good taken serves = plain s _ o refl (λ q. refl) refl
