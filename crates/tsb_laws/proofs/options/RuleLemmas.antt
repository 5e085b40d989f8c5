-- What rules and instants make of a plan does not see the options.
use Rattle.std.proofs.Common.{◌≡◌, ℕ, Bool, List, [], ◌∷◌, refl}
use Rattle.std.proofs.Math.Path.{fun_ext}
use Rattle.tsb_step.specs.tsb_plan.declared.object.Object.{Object}
use Rattle.tsb_step.specs.tsb_plan.Plan.{Plan}
use Rattle.tsb_step.specs.tsb_rules.SequenceRules.{rises}
use Rattle.tsb_step.specs.tsb_coord.Coordinated.{force_off}
use Rattle.tsb_step.specs.tsb_rules.PatternRules.{split_sum, side_sum, split_end, fills, coordinated_count, coordinated_agree}
use Rattle.tsb_step.specs.tsb_rules.Rules.{broken_by_phases, broken_by_rings, broken_by_schedule}
use Rattle.tsb_laws.proofs.options.DifferLemmas.{with_options}

module _ (plan : Plan) (v : Object → ℕ → ℕ) where
  pub rises-same : rises (with_options plan v) ≡ rises plan
  rises-same = fun_ext go
    where
      go : (ps : List ℕ) → rises (with_options plan v) ps ≡ rises plan ps
      go [] = refl
      go (p ∷ ps) = rw (go ps) refl

  pub split_sum-same : split_sum (with_options plan v) ≡ split_sum plan
  unfolding split_sum
  split_sum-same = refl

  pub side_sum-same : side_sum (with_options plan v) ≡ side_sum plan
  unfolding side_sum split_sum
  side_sum-same = refl

  pub split_end-same : split_end (with_options plan v) ≡ split_end plan
  unfolding split_end side_sum split_sum
  split_end-same = refl

  pub force_off-same : force_off (with_options plan v) ≡ force_off plan
  unfolding force_off split_end side_sum split_sum
  force_off-same = refl

  pub coordinated_count-same : coordinated_count (with_options plan v) ≡ coordinated_count plan
  unfolding coordinated_count
  coordinated_count-same = refl

  -- K19 of a pattern and a split table
  pub fills-same : (n t : ℕ) → fills (with_options plan v) n t ≡ fills plan n t
  unfolding side_sum split_sum
  fills-same n t = refl

  -- K20 of a sequence and a split table, where splits may end apart or not
  pub agree-same : (apart : Bool) (s t : ℕ) → coordinated_agree (with_options plan v) apart s t ≡ coordinated_agree plan apart s t
  unfolding coordinated_count split_end side_sum split_sum
  agree-same apart s t = refl

  pub broken_by_phases-same : broken_by_phases (with_options plan v) ≡ broken_by_phases plan
  unfolding broken_by_phases
  broken_by_phases-same = refl

  pub broken_by_schedule-same : broken_by_schedule (with_options plan v) ≡ broken_by_schedule plan
  unfolding broken_by_schedule
  broken_by_schedule-same = refl

  pub broken_by_rings-same : broken_by_rings (with_options plan v) ≡ broken_by_rings plan
  unfolding broken_by_rings
  broken_by_rings-same = rw rises-same refl
