-- What a plan gives of detectors, overlaps and preempts that it has not: nothing.
use Rattle.std.proofs.Common.{◌≡◌, ℕ, ◌+◌, ◌≤◌, nat_le, false, ◌&&◌, None, arith, ap}
use Rattle.std.proofs.lemmas.Bool.Decides.{nat_tests}
use Rattle.tsb_step.specs.tsb_plan.declared.object.Object.TheVariants.{VehicleDetectorCallPhase, PedestrianDetectorCallPhase, OverlapIncludedPhases, OverlapModifierPhases, OverlapTrailGreen, OverlapTrailYellow, OverlapType, PreemptTrackPhase, PreemptDwellPhase, PreemptExitPhase}
use Rattle.tsb_step.specs.tsb_plan.Parts.{unless_zero, call_phase, pedestrian_call_phase}
use Rattle.tsb_step.specs.tsb_plan.Plan.{Plan}
use Rattle.tsb_laws.specs.Sizes.{IsOfFewer}

beyond : (n most : ℕ) → 1 + most ≤ n → (nat_le 1 n && nat_le n most) ≡ false
beyond n most out = grind (arith, nat_tests, out)

module _ (plan : Plan) (few : IsOfFewer plan) where
  pub no_call : (d : ℕ) → 1 + plan.counts.vehicle_detectors ≤ d → call_phase plan d ≡ None
  no_call d out = ap unless_zero (few.placed VehicleDetectorCallPhase d (beyond d plan.counts.vehicle_detectors out))

  pub no_walk_call : (d : ℕ) → 1 + plan.counts.pedestrian_detectors ≤ d → pedestrian_call_phase plan d ≡ None
  no_walk_call d out = ap unless_zero (few.placed PedestrianDetectorCallPhase d (beyond d plan.counts.pedestrian_detectors out))

  pub none_included : (o : ℕ) → 1 + plan.counts.overlaps ≤ o → plan.value OverlapIncludedPhases o ≡ 0
  none_included o out = few.placed OverlapIncludedPhases o (beyond o plan.counts.overlaps out)

  pub no_modifiers : (o : ℕ) → 1 + plan.counts.overlaps ≤ o → plan.value OverlapModifierPhases o ≡ 0
  no_modifiers o out = few.placed OverlapModifierPhases o (beyond o plan.counts.overlaps out)

  pub no_type : (o : ℕ) → 1 + plan.counts.overlaps ≤ o → plan.value OverlapType o ≡ 0
  no_type o out = few.placed OverlapType o (beyond o plan.counts.overlaps out)

  pub no_trail_green : (o : ℕ) → 1 + plan.counts.overlaps ≤ o → plan.value OverlapTrailGreen o ≡ 0
  no_trail_green o out = few.placed OverlapTrailGreen o (beyond o plan.counts.overlaps out)

  pub no_trail_yellow : (o : ℕ) → 1 + plan.counts.overlaps ≤ o → plan.value OverlapTrailYellow o ≡ 0
  no_trail_yellow o out = few.placed OverlapTrailYellow o (beyond o plan.counts.overlaps out)

  pub no_track : (n : ℕ) → 1 + plan.counts.preempts ≤ n → plan.value PreemptTrackPhase n ≡ 0
  no_track n out = few.placed PreemptTrackPhase n (beyond n plan.counts.preempts out)

  pub no_dwell : (n : ℕ) → 1 + plan.counts.preempts ≤ n → plan.value PreemptDwellPhase n ≡ 0
  no_dwell n out = few.placed PreemptDwellPhase n (beyond n plan.counts.preempts out)

  pub no_exit : (n : ℕ) → 1 + plan.counts.preempts ≤ n → plan.value PreemptExitPhase n ≡ 0
  no_exit n out = few.placed PreemptExitPhase n (beyond n plan.counts.preempts out)
