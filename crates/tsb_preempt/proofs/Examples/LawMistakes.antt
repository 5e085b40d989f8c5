-- One-line mistakes that break the laws of what a preempt asks for, each with an example in which it shows. The plan is
-- that of Examples: preempt 1 has 2 and 6 in Track, 3 and 8 in Dwell.
use Rattle.std.specs.Prelude.{◌≡◌, ℕ, Bool, true, false, ◌||◌, [], ◌∷◌, map, Option, None, refl}
use Rattle.tsb_types.specs.declared.interval.Interval.TheVariants.{Green}
use Rattle.tsb_types.specs.declared.stage.Stage.{Stage}
use Rattle.tsb_types.specs.declared.stage.Stage.TheVariants.{Track}
use Rattle.tsb_types.specs.Lists.{run_from}
use Rattle.tsb_objects.specs.tsb_plan.Plan.{Plan, is_concurrent}
use Rattle.tsb_objects.specs.tsb_plan.Parts.{is_dwell_phase}
use Rattle.tsb_objects.specs.tsb_plan.Quad.{quad}
use Rattle.tsb_objects.specs.tsb_rules.PatternRules.{split_sum, side_sum, split_end, coordinated_count}
use Rattle.tsb_objects.specs.tsb_rules.Rules.{first_broken, broken_by_rings, broken_by_phases, broken_by_parts, broken_by_extensions, broken_by_schedule, broken_by_overlaps}
use Rattle.tsb_preempt.specs.Service.{all_green, stage_phases}
use Rattle.tsb_preempt.specs.Preempts.{Preempts, as_read, requesting, beginning, new_service, next, wanted_by, is_outside}
use Rattle.tsb_preempt.proofs.Examples.Examples.{plan, both, without_row, at_91}

-- ## Targets are compatible: in Track the phases of Dwell are wanted too

breaks_no_rule : first_broken plan ≡ None
unfolding plan quad run_from split_sum side_sum split_end coordinated_count first_broken broken_by_rings broken_by_phases broken_by_parts broken_by_extensions broken_by_schedule broken_by_overlaps
breaks_no_rule = refl

wants_2_and_6 : map (stage_phases plan 1 Track) (run_from 1 8)
    ≡ false ∷ true ∷ false ∷ false ∷ false ∷ true ∷ false ∷ false ∷ []
unfolding plan quad run_from
wants_2_and_6 = refl

abbrev pub phases_of_both : Plan → ℕ → Stage → ℕ → Bool
phases_of_both plan n stage p = stage_phases plan n stage p || is_dwell_phase plan n p

would_want : map (phases_of_both plan 1 Track) (2 ∷ 3 ∷ []) ≡ true ∷ true ∷ []
unfolding plan quad
would_want = refl

apart_2_3 : is_concurrent plan 2 3 ≡ false
unfolding plan quad
apart_2_3 = refl

-- ## Orders stay: they ask for the stage that was

abbrev pub wanted_before : Plan → Preempts → Option (ℕ → Bool)
wanted_before plan w = wanted_by plan w.service

-- Dwell begins in this tick (`dwell_begins` of Examples), and after it 2 has to end
ends_2_then : is_outside (wanted_by plan (next plan (without_row (both Green 2 6)) at_91).service) 2 ≡ true
unfolding plan quad run_from requesting beginning new_service all_green
ends_2_then = refl

would_spare_2 : is_outside (wanted_before plan (as_read at_91)) 2 ≡ false
unfolding plan quad
would_spare_2 = refl
