-- Version 1 has none of the objects that are options, so a plan that says what a plan of version 1 says has each at 0.
use Rattle.std.proofs.Common.{arith}
use Rattle.tsb_step.specs.tsb_plan.declared.object.Object.TheVariants.{CoordForceMode, CoordMaximumMode, PatternPermissiveTime, PatternLeadLag, PhasePedestrianRecycle, CoordCorrectionMode, OverlapAcrossRings, PreemptChoosesAnew, CoordReference}
use Rattle.tsb_step.specs.tsb_plan.Plan.{Plan}
use Rattle.tsb_laws.specs.Options.{HasNoOptions}
use Rattle.tsb_laws.specs.Versions.{SaysTheSame}

pub no-options : (narrow wide : Plan) → SaysTheSame narrow wide → HasNoOptions wide
no-options narrow wide same = record {
  coord_force_mode = same.elsewhere CoordForceMode 1 (λ i has. absurd (grind (arith, has)));
  coord_maximum_mode = same.elsewhere CoordMaximumMode 1 (λ i has. absurd (grind (arith, has)));
  pattern_permissive_time = λ n. same.elsewhere PatternPermissiveTime n (λ i has. absurd (grind (arith, has)));
  pattern_lead_lag = λ n. same.elsewhere PatternLeadLag n (λ i has. absurd (grind (arith, has)));
  phase_pedestrian_recycle = λ p. same.elsewhere PhasePedestrianRecycle p (λ i has. absurd (grind (arith, has)));
  coord_correction_mode = same.elsewhere CoordCorrectionMode 1 (λ i has. absurd (grind (arith, has)));
  overlap_across_rings = λ o. same.elsewhere OverlapAcrossRings o (λ i has. absurd (grind (arith, has)));
  preempt_chooses_anew = λ n. same.elsewhere PreemptChoosesAnew n (λ i has. absurd (grind (arith, has)));
  coord_reference = same.elsewhere CoordReference 1 (λ i has. absurd (grind (arith, has)));
}
