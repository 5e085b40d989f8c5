-- Two plans that differ in options, and a run of the controller without options with each: a station sets an option, and
-- pattern 2 is selected while pattern 1 runs. And mistakes that the laws refuse.
use Rattle.std.proofs.Common.{◌≡◌, ℕ, nat_lt, Bool, true, false, if◌then◌else◌, List, [], ◌∷◌, ◌++◌, Option, Some, None, refl, ap}
use Rattle.tsb_step.specs.tsb_types.Sets.{all_off}
use Rattle.tsb_step.specs.tsb_types.declared.interval.Interval.TheVariants.{Green}
use Rattle.tsb_step.specs.tsb_plan.declared.object.Object.{Object}
use Rattle.tsb_step.specs.tsb_plan.declared.object.Object.TheVariants.{PhaseDynamicMaxStep, OverlapModifierPhases, CoordMaximumMode, PatternPermissiveTime, CoordCorrectionMode, CoordCorrectionLimit}
use Rattle.tsb_step.specs.tsb_plan.Objects.{since}
use Rattle.tsb_step.specs.tsb_plan.Plan.{Plan, dynamic_maximum_step}
use Rattle.tsb_step.specs.tsb_plan.Quad.{quad}
use Rattle.tsb_step.specs.tsb_rules.declared.rules.Rule.{Rule}
use Rattle.tsb_step.specs.tsb_rules.declared.rules.Rule.TheVariants.{K23}
use Rattle.tsb_step.specs.tsb_rules.PatternRules.{permissive_times_end}
use Rattle.tsb_step.specs.tsb_rules.Rules.{unless}
use Rattle.tsb_step.specs.tsb_phase.DynamicMaximum.{is_dynamic}
use Rattle.tsb_step.specs.tsb_coord.declared.correction.Correction.{Correction}
use Rattle.tsb_step.specs.tsb_coord.Correction.{local_now}
use Rattle.tsb_step.specs.declared.inputs.Input.{Input}
use Rattle.tsb_step.specs.declared.inputs.Input.TheVariants.{Tick, Pattern, Begin, Set, Verify, Commit}
use Rattle.tsb_step.specs.State.{interval}
use Rattle.tsb_step.proofs.Examples.Scenes.{opened}
use Rattle.tsb_laws.specs.Differing.{DifferIn, with_others}
use Rattle.tsb_laws.specs.PlainParts as plain
use Rattle.tsb_laws.specs.PlainStep as plain_step
use Rattle.tsb_laws.specs.WithoutOptions.{is_of_options, is_of_version_1, HasEachAtZero, SetNoOption, SetNoOverlapOption}
use Rattle.tsb_laws.proofs.options.Examples.OffRuns.{opened_without, quad_at_zero}

-- a permissive time of a whole cycle, the short way with a limit of 20 percent, and each other option 1
abbrev options : Object → ℕ → ℕ
options PatternPermissiveTime i = 80
options CoordCorrectionMode i = 2
options CoordCorrectionLimit i = 20
options o i = 1

unfoldable optional : Plan
optional = with_others is_of_options quad options

-- the newest input first
abbrev changed : List Input
changed = Tick all_off ∷ Pattern 2 ∷ Tick all_off ∷ Pattern 1 ∷ Tick all_off ∷ []

-- a station sets this object first
abbrev set_and_changed : Object → ℕ → List Input
set_and_changed o n = changed ++ (Commit 1 ∷ Verify 1 ∷ Set 1 (record { object = o; index = 1 }) n ∷ Begin 1 ∷ [])

record ReadRun (x y : Plan) (is : List Input) : Type 0 where
  differ : DifferIn is_of_options x y
  sets : SetNoOverlapOption is

a_read : ReadRun quad optional (set_and_changed CoordMaximumMode 2)
unfolding optional
a_read = record {
  differ = record {
    phase_count = refl;
    side_count = refl;
    counts = refl;
    value = λ o i out. ap (λ (b : Bool). if b then options o i else quad.value o i) out;
  };
  sets = (tt, (tt, (tt, (tt, (tt, (tt, (tt, (refl, (tt, tt)))))))));
}

-- the option is set in it, and 2 is Green
is_set : (plain_step.replay quad (set_and_changed CoordMaximumMode 2)).plan.value CoordMaximumMode 1 ≡ 2
unfolding opened opened_without
is_set = refl

is_green_then : interval (plain_step.replay quad (set_and_changed CoordMaximumMode 2)) 2 ≡ Green
unfolding opened opened_without
is_green_then = refl

-- ## A rule K23 in the controller without options

abbrev first_broken_of_times : Plan → Option Rule
first_broken_of_times plan = unless (permissive_times_end plan) K23 (plain.first_broken plan)

breaks_none : plain.first_broken optional ≡ None
unfolding opened optional plain.first_broken plain.broken_by_parts
breaks_none = refl

would_break_k23 : first_broken_of_times optional ≡ Some K23
unfolding opened optional plain.first_broken plain.broken_by_parts
would_break_k23 = refl

-- ## A local counter that comes into step the short way, 12 ticks after a selection that was 100 ticks ahead. Its offset
-- is counted to the begin of green, 250 ticks before the end of the coordinated split

abbrev selected : Correction
selected = record { since = 0; ahead = 100; midnight = 0 }

abbrev by_correction : Plan → Option ℕ
by_correction plan = local_now plan (Some 1) selected 12

is_at_12 : plain.local optional 12 (Some 1) ≡ Some 12
unfolding opened optional
is_at_12 = refl

would_be_at_660 : by_correction optional ≡ Some 660
unfolding opened optional
would_be_at_660 = refl

-- ## A list of options that leaves one out

abbrev without_modifiers : Object → Bool
without_modifiers OverlapModifierPhases = false
without_modifiers o = is_of_options o

is_later : is_of_version_1 (since OverlapModifierPhases) ≡ false
is_later = refl

would_be_left_out : without_modifiers OverlapModifierPhases ≡ false
would_be_left_out = refl

-- ## Two plans that differ in what an option alone reads, and a maximum that is dynamic by its step alone

-- a step of 5 s without a limit of the dynamic maximum, and a correction limit of 20 percent without a correction mode
abbrev alone : Object → ℕ → ℕ
alone PhaseDynamicMaxStep i = 50
alone CoordCorrectionLimit i = 20
alone o i = 0

unfoldable stepping : Plan
stepping = with_others is_of_options quad alone

record AloneRun (x y : Plan) (is : List Input) : Type 0 where
  none : HasEachAtZero x
  other : HasEachAtZero y
  differ : DifferIn is_of_options x y
  sets : SetNoOption is
  leaves : SetNoOverlapOption is

read_alone : AloneRun quad stepping (set_and_changed PhaseDynamicMaxStep 30)
unfolding stepping
read_alone = record {
  none = quad_at_zero;
  other = record {
    options = record {
      coord_force_mode = refl;
      coord_maximum_mode = refl;
      pattern_permissive_time = λ n. refl;
      pattern_lead_lag = λ n. refl;
      phase_pedestrian_recycle = λ p. refl;
      coord_correction_mode = refl;
      overlap_across_rings = λ o. refl;
      preempt_chooses_anew = λ n. refl;
      coord_reference = refl;
    };
    phase_dynamic_max_limit = λ p. refl;
    overlap_type = λ o. refl;
    overlap_modifier_phases = λ o. refl;
    overlap_trail_green = λ o. refl;
    overlap_trail_yellow = λ o. refl;
  };
  differ = record {
    phase_count = refl;
    side_count = refl;
    counts = refl;
    value = λ o i out. ap (λ (b : Bool). if b then alone o i else quad.value o i) out;
  };
  sets = (tt, (tt, (tt, (tt, (tt, (tt, (tt, ((λ option. cc), (tt, tt)))))))));
  leaves = (tt, (tt, (tt, (tt, (tt, (tt, (tt, (refl, (tt, tt)))))))));
}

abbrev by_step : Plan → ℕ → Bool
by_step plan p = nat_lt 0 (dynamic_maximum_step plan p)

is_not_dynamic : is_dynamic stepping 2 ≡ false
unfolding stepping
is_not_dynamic = refl

would_be_dynamic : by_step stepping 2 ≡ true
unfolding stepping
would_be_dynamic = refl
