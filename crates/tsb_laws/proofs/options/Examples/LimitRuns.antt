-- Two plans that differ in the correction limit, and a run that meets the premises of its law: pattern 1 is selected while
-- pattern 2 runs, so that the local counter would have to come into step. And a mistake that the law refuses.
use Rattle.std.proofs.Common.{◌≡◌, ℕ, Bool, if◌then◌else◌, List, [], ◌∷◌, Some, refl, sym, ap, ◌∙◌}
use Rattle.tsb_step.specs.tsb_types.Sets.{all_off}
use Rattle.tsb_step.specs.tsb_types.declared.interval.Interval.TheVariants.{Green}
use Rattle.tsb_step.specs.tsb_plan.Parts.{cycle, correction_limit}
use Rattle.tsb_step.specs.tsb_plan.Plan.{Plan}
use Rattle.tsb_step.specs.tsb_plan.Quad.{quad}
use Rattle.tsb_step.specs.tsb_coord.declared.correction.Correction.{Correction}
use Rattle.tsb_step.specs.tsb_coord.Correction.{by_short_way, ahead_in}
use Rattle.tsb_step.specs.declared.inputs.Input.{Input}
use Rattle.tsb_step.specs.declared.inputs.Input.TheVariants.{Tick, Pattern}
use Rattle.tsb_step.specs.Runs.{replay}
use Rattle.tsb_step.specs.State.{interval}
use Rattle.tsb_step.proofs.Examples.Scenes.{opened}
use Rattle.tsb_laws.specs.Differing.{DifferIn, with_others}
use Rattle.tsb_laws.specs.CorrectionLimits.{is_limit, CorrectsAtOnce}

-- with a limit of 10 percent, and with one of 20
unfoldable ten : Plan
ten = with_others is_limit quad (λ o i. 10)

unfoldable twenty : Plan
twenty = with_others is_limit quad (λ o i. 20)

abbrev changed : List Input
changed = Tick all_off ∷ Pattern 1 ∷ Tick all_off ∷ Pattern 2 ∷ []

record LimitRun (x y : Plan) (is : List Input) : Type 0 where
  differ : DifferIn is_limit x y
  at_once : CorrectsAtOnce x is

a_run : LimitRun ten twenty changed
unfolding opened ten twenty
a_run = record {
  differ = record {
    phase_count = refl;
    side_count = refl;
    counts = refl;
    value = λ o i out. ap (λ (b : Bool). if b then 20 else quad.value o i) out ∙ sym (ap (λ (b : Bool). if b then 10 else quad.value o i) out);
  };
  at_once = ((((tt, refl), refl), refl), refl);
}

-- pattern 1 runs after it, and 2 is Green
runs_then : (replay twenty changed).pattern ≡ Some 1
unfolding opened twenty
runs_then = refl

is_green_then : interval (replay twenty changed) 2 ≡ Green
unfolding opened twenty
is_green_then = refl

-- 100 ticks after a selection that was 100 ticks ahead
abbrev selected : Correction
selected = record { since = 0; ahead = 100; midnight = 0 }

-- a mistake: the counter comes into step the short way, whatever the mode
abbrev whatever_the_mode : Plan → ℕ
whatever_the_mode plan = by_short_way (cycle plan 1) (correction_limit plan) selected.ahead 100

is_in_step_then : ahead_in twenty (Some 1) selected 100 ≡ 0
unfolding opened ten twenty
is_in_step_then = refl

would_be_91 : whatever_the_mode ten ≡ 91
unfolding opened ten twenty
would_be_91 = refl

would_be_84 : whatever_the_mode twenty ≡ 84
unfolding opened ten twenty
would_be_84 = refl
