-- What holds of two benches, as statements: with one plan of version 1, and whatever inputs within version 1's ranges,
-- both show the same. One has 8 phases, 2 sides, 16 vehicle detectors, 8 pedestrian detectors, 4 overlaps and 4
-- preempts, the other 16 and 4 with all of these.
--
-- All are proved, each as the contract of a function that does nothing (src/versions.rt).
use Rattle.std.specs.Prelude.{◌≡◌, ◌≢◌, ◌↔◌, ℕ, ◌<◌, true, false, List, map}
use Rattle.tsb_step.specs.tsb_plan.declared.object.Object.{Object}
use Rattle.tsb_step.specs.tsb_plan.declared.version.Version.TheVariants.{One}
use Rattle.tsb_step.specs.tsb_plan.Plan.{Plan, all_counts, empty, with_values, is_enabled}
use Rattle.tsb_step.specs.tsb_plan.Quad.{quad}
use Rattle.tsb_step.specs.tsb_plan.Two.{two}
use Rattle.tsb_step.specs.tsb_plan.Versions.{has_index_in, translated}
use Rattle.tsb_step.specs.tsb_rules.Rules.{first_broken}
use Rattle.tsb_step.specs.tsb_phase.Phase as phase
use Rattle.tsb_step.specs.declared.inputs.Input.{Input}
use Rattle.tsb_step.specs.Runs.{replay, AreTaken}
use Rattle.tsb_step.specs.Signs.{display, field, local, stage}
use Rattle.tsb_step.specs.Step.{verdict}
use Rattle.tsb_laws.specs.Sizes.{full, full_state}
use Rattle.tsb_laws.specs.Widened.{IsNarrow, widened, widened_input, IsWithin, AreWithin, widened_state}
use Rattle.tsb_laws.specs.BuiltIn.{narrow_empty, AreValues, widened_puts, narrow_two, narrow_quad}

-- ## The wide plan

-- a plan with as many of each thing as a plan in memory that says at each translated index what a plan of version 1
-- says, and nothing elsewhere
pub record SaysTheSame (narrow wide : Plan) : Type 0 where
  pub phase_count : wide.phase_count ≡ 16
  pub side_count : wide.side_count ≡ 4
  pub counts : wide.counts ≡ all_counts
  pub there : (o : Object) (i : ℕ) → has_index_in One o i ≡ true → wide.value o (translated One o i) ≡ narrow.value o i
  pub elsewhere : (o : Object) (k : ℕ) → ((i : ℕ) → has_index_in One o i ≡ true → translated One o i ≢ k) → wide.value o k ≡ 0

-- The wide plan is the one that says the same.
abbrev pub WidePlansSayTheSame : Type 0
WidePlansSayTheSame = (narrow wide : Plan) → IsNarrow narrow → SaysTheSame narrow wide ↔ (wide ≡ full (widened narrow))

-- It breaks the same rule first, or none as well.
abbrev pub BreakTheSameRule : Type 0
BreakTheSameRule = (narrow wide : Plan) → IsNarrow narrow → SaysTheSame narrow wide → first_broken wide ≡ first_broken narrow

-- Values of version 1 that are put in turn make a plan of version 1, and put at translated indices they make the wide
-- plan.
abbrev pub PutsMakeNarrowPlans : Type 0
PutsMakeNarrowPlans = (es : List (Object × ℕ × ℕ)) → AreValues es → IsNarrow (with_values narrow_empty es)

-- so it makes no difference whether indices are translated as values are put, or the plan is widened then
abbrev pub PutsMakeWidePlans : Type 0
PutsMakeWidePlans = (es : List (Object × ℕ × ℕ)) → AreValues es →
    with_values empty (widened_puts es) ≡ full (widened (with_values narrow_empty es))

-- So the built-in plans are the wide plans of these, which are of version 1.
pub record IsWideOf (narrow wide : Plan) : Type 0 where
  pub is_narrow : IsNarrow narrow
  pub is_wide : wide ≡ full (widened narrow)

-- of the built-in plan of two phases
abbrev pub TwoIsWide : Type 0
TwoIsWide = IsWideOf narrow_two two

-- of the built-in plan of eight phases in two rings
abbrev pub QuadIsWide : Type 0
QuadIsWide = IsWideOf narrow_quad quad

-- ## Runs

-- what is said of both benches after any list of inputs within version 1's ranges
abbrev pub OfBothBenches : (Plan → List Input → Plan → List Input → Type 0) → Type 0
OfBothBenches fact = (narrow wide : Plan) (is : List Input) → IsNarrow narrow → SaysTheSame narrow wide → AreWithin is →
    fact narrow is wide (map widened_input is)

-- All heads, of vehicles, of pedestrians and of overlaps, show the same.
abbrev pub HeadsAgree : Type 0
HeadsAgree = OfBothBenches (λ narrow is wide translations. display (replay wide translations) ≡ display (replay narrow is))

-- So do they in the field, with the lamp that a fault has lit.
abbrev pub FieldsAgree : Type 0
FieldsAgree = OfBothBenches (λ narrow is wide translations. field (replay wide translations) ≡ field (replay narrow is))

-- The whole states agree: plan and edits of the desk are translated, and all else is equal.
abbrev pub StatesAgree : Type 0
StatesAgree = OfBothBenches (λ narrow is wide translations. replay wide translations ≡ full_state (widened_state (replay narrow is)))

-- Local counters and the stages of preempts are the same.
abbrev pub CountersAgree : Type 0
CountersAgree = OfBothBenches (λ narrow is wide translations. local (replay wide translations) ≡ local (replay narrow is))

-- which preempt is in service, and in which stage
abbrev pub StagesAgree : Type 0
StagesAgree = OfBothBenches (λ narrow is wide translations. stage (replay wide translations) ≡ stage (replay narrow is))

-- An input that comes next is refused in both for one cause, or in neither; so one takes all inputs where the other
-- does.
abbrev pub RefusalsAgree : Type 0
RefusalsAgree = (i : Input) → IsWithin i → OfBothBenches (λ narrow is wide translations.
    verdict (replay wide translations) (widened_input i) ≡ verdict (replay narrow is) i)

-- a list of inputs is taken in one bench exactly where its translation is taken in the other
abbrev pub TakeTheSame : Type 0
TakeTheSame = OfBothBenches (λ narrow is wide translations. AreTaken narrow is ↔ AreTaken wide translations)

-- Phases beyond the eighth are not enabled, and stay as they were at power-up.
pub record RestsBeyond (plan : Plan) (is : List Input) (p : ℕ) : Type 0 where
  pub disabled : is_enabled (replay plan is).plan p ≡ false
  pub resting : (replay plan is).phases p ≡ phase.at_power_up

-- the same after any inputs within version 1's ranges
abbrev pub OthersRest : Type 0
OthersRest = (p : ℕ) → 8 < p → OfBothBenches (λ narrow is wide translations. RestsBeyond wide translations p)
