-- A run in which the options are 0, also where a station sets one of them to 0: pattern 2 is selected while pattern 1
-- runs. And a mistake that the law of such runs refuses.
use Rattle.std.proofs.Common.{◌≡◌, ℕ, ◌%◌, List, [], ◌∷◌, Option, Some, None, refl}
use Rattle.tsb_step.specs.tsb_types.Sets.{all_off}
use Rattle.tsb_step.specs.tsb_types.declared.interval.Interval.TheVariants.{Green}
use Rattle.tsb_step.specs.tsb_plan.declared.object.Object.TheVariants.{CoordForceMode}
use Rattle.tsb_step.specs.tsb_plan.Parts.{cycle}
use Rattle.tsb_step.specs.tsb_plan.Plan.{Plan}
use Rattle.tsb_step.specs.tsb_plan.Quad.{quad}
use Rattle.tsb_step.specs.tsb_coord.declared.correction.Correction.{Correction}
use Rattle.tsb_step.specs.tsb_coord.Coordinated.{counter, residue_of_difference}
use Rattle.tsb_step.specs.tsb_coord.Correction.{in_step, begun}
use Rattle.tsb_step.specs.declared.inputs.Input.{Input}
use Rattle.tsb_step.specs.declared.inputs.Input.TheVariants.{Tick, Pattern, Begin, Set, Verify, Commit}
use Rattle.tsb_step.specs.State.{State, interval}
use Rattle.tsb_step.specs.Signs.{local}
use Rattle.tsb_step.specs.Runs.{replay}
use Rattle.tsb_step.proofs.Examples.Scenes.{opened}
use Rattle.tsb_laws.specs.PlainParts as parts
use Rattle.tsb_laws.specs.PlainStep as plain
use Rattle.tsb_laws.specs.WithoutOptions.{HasEachAtZero, SetNoOption}
use Rattle.tsb_laws.proofs.operation.Examples.OptionMistakes.{quad_has_none}

-- what a computed example of the controller without options opens beside `opened`
unfoldable pub opened_without : Unit {0}
unfolding parts.broken_by_parts parts.conflict parts.conflict_of parts.first_broken parts.has_maxed_out parts.pedestrian_now parts.is_ready parts.is_kept_green plain.phases_given plain.rings_given plain.moves plain.display plain.field plain.watched plain.step
opened_without = tt

-- the newest input first
abbrev first_pattern : List Input
first_pattern = Tick all_off ∷ Pattern 1 ∷ Tick all_off ∷ []

abbrev second_pattern : List Input
second_pattern =
    Tick all_off ∷ Pattern 2 ∷ Commit 1 ∷ Verify 1 ∷ Set 1 (record { object = CoordForceMode; index = 1 }) 0 ∷ Begin 1 ∷ first_pattern

record OffRun (plan : Plan) (is : List Input) : Type 0 where
  none : HasEachAtZero plan
  sets : SetNoOption is

pub quad_at_zero : HasEachAtZero quad
unfolding quad
quad_at_zero = record {
  options = quad_has_none;
  phase_dynamic_max_limit = λ p. refl;
  overlap_type = λ o. refl;
  overlap_modifier_phases = λ o. refl;
  overlap_trail_green = λ o. refl;
  overlap_trail_yellow = λ o. refl;
}

an_off_run : OffRun quad second_pattern
an_off_run = record { none = quad_at_zero; sets = (tt, (tt, (tt, (tt, ((λ option. refl), (tt, (tt, (tt, (tt, tt))))))))) }

-- 2 is Green after it, and the second pattern runs, in both controllers
is_green_then : interval (replay quad second_pattern) 2 ≡ Green
unfolding opened
is_green_then = refl

is_green_without : interval (plain.replay quad second_pattern) 2 ≡ Green
unfolding opened opened_without
is_green_without = refl

runs_then : (replay quad second_pattern).pattern ≡ Some 2
unfolding opened
runs_then = refl

runs_without : (plain.replay quad second_pattern).pattern ≡ Some 2
unfolding opened opened_without
runs_without = refl

-- the local counter is in step in both
is_in_step_then : (replay quad (Pattern 2 ∷ first_pattern)).correction ≡ in_step
unfolding opened
is_in_step_then = refl

is_in_step_without : (plain.replay quad (Pattern 2 ∷ first_pattern)).correction ≡ in_step
unfolding opened opened_without
is_in_step_without = refl

-- a mistake: a controller without options in which the local counter goes on from where that of the old pattern stood
abbrev ahead_of : State → ℕ → Option ℕ → ℕ
ahead_of s n None = 0
ahead_of s n (Some l) = residue_of_difference (cycle s.plan n) (l % cycle s.plan n) (counter s.plan n s.now)

abbrev goes_on : State → ℕ → Correction
goes_on s n = begun s.now 0 (ahead_of s n (local s))

would_begin_ahead : goes_on (replay quad first_pattern) 2 ≡ record { since = 2; ahead = 790; midnight = 0 }
unfolding opened
would_begin_ahead = refl
