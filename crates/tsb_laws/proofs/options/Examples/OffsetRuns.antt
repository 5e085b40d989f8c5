-- Two plans that differ in what offsets are counted to, and a run of both: the offset of each pattern is 59 s to the
-- begin of green, and 4 s to local 0. Phase 2 is forced off in the same tick. And mistakes that the law refuses.
use Rattle.std.proofs.Common.{◌≡◌, ℕ, ◌*◌, true, false, List, [], ◌∷◌, Some, refl}
use Rattle.tsb_step.specs.tsb_types.Sets.{all_off}
use Rattle.tsb_step.specs.tsb_types.declared.interval.Interval.TheVariants.{Green}
use Rattle.tsb_step.specs.tsb_plan.declared.object.Object.{Object}
use Rattle.tsb_step.specs.tsb_plan.declared.object.Object.TheVariants.{PhaseRedClear, PatternCycleTime, PatternOffsetTime, PatternSplitNumber, PatternSequenceNumber, CoordReference}
use Rattle.tsb_step.specs.tsb_plan.Plan.{Plan, with_value}
use Rattle.tsb_step.specs.tsb_plan.Quad.{quad}
use Rattle.tsb_step.specs.tsb_rules.declared.rules.Rule.TheVariants.{K17, K19}
use Rattle.tsb_step.specs.tsb_rules.Rules.{first_broken}
use Rattle.tsb_step.specs.tsb_objects.Instants.{offset_in_effect}
use Rattle.tsb_step.specs.tsb_coord.OffsetLaws.{with_offsets}
use Rattle.tsb_step.specs.declared.inputs.Input.{Input}
use Rattle.tsb_step.specs.declared.inputs.Input.TheVariants.{Tick, Pattern}
use Rattle.tsb_step.specs.Runs.{replay}
use Rattle.tsb_step.specs.Signs.{local}
use Rattle.tsb_step.specs.State.{interval}
use Rattle.tsb_step.specs.Tick.{forced}
use Rattle.tsb_step.proofs.Examples.Scenes.{opened}
use Rattle.tsb_laws.specs.ConvertedOffsets.{is_of_offsets, CountAlike, ReadAlike, CommitNothing}
use Rattle.tsb_laws.specs.Differing.{DifferIn}

-- all patterns are alike, and count offsets to the first begin of green, which is 25 s before local 0
abbrev values : Object → ℕ → ℕ
values PhaseRedClear i = 7
values PatternCycleTime i = 80
values PatternOffsetTime i = 59
values PatternSplitNumber i = 1
values PatternSequenceNumber i = 1
values CoordReference i = 1
values o i = quad.value o i

unfoldable to_green : Plan
to_green = record quad { value = values }

-- 59 s and 25 s, round the cycle of 80 s
abbrev converted : ℕ → ℕ
converted n = 4

abbrev at_local_0 : Plan
at_local_0 = with_offsets to_green converted 0

abbrev selected : List Input
selected = Tick all_off ∷ Tick all_off ∷ Pattern 1 ∷ []

-- a run of both, each tick and the selection where local 0 comes at one time
record OffsetRun (x y : Plan) (is : List Input) : Type 0 where
  differ : DifferIn is_of_offsets x y
  read : ReadAlike x y is
  last : CountAlike (replay x is).plan (replay y is).plan

a_run : OffsetRun to_green at_local_0 selected
unfolding opened to_green
a_run = record {
  differ = record { phase_count = refl; side_count = refl; counts = refl; value = λ o i out. at o i out };
  read = (((tt, (λ n. refl)), (λ n. refl)), (λ n. refl));
  last = λ n. refl;
}
  where
    at : (o : Object) (i : ℕ) → is_of_offsets o ≡ false → at_local_0.value o i ≡ to_green.value o i
    at PatternOffsetTime i out = cc
    at CoordReference i out = cc
    at o i out = refl

record ConvertedRun (plan : Plan) (offsets : ℕ → ℕ) (is : List Input) : Type 0 where
  is_converted : (n : ℕ) → 10 * offsets n ≡ offset_in_effect plan n
  commits : CommitNothing is

converts : ConvertedRun to_green converted selected
unfolding opened to_green
converts = record { is_converted = λ n. refl; commits = (((tt, refl), refl), refl) }

-- phase 2 is Green then, and forced off in the next tick
is_green_then : interval (replay to_green selected) 2 ≡ Green
unfolding opened to_green
is_green_then = refl

is_forced_then : forced (replay to_green selected) 2 ≡ true
unfolding opened to_green
is_forced_then = refl

is_forced_too : forced (replay at_local_0 selected) 2 ≡ true
unfolding opened to_green
is_forced_too = refl

-- ## An offset that is counted to local 0, whatever coordReference says

abbrev as_it_is : Plan → Plan
as_it_is plan = with_value plan CoordReference 1 0

would_not_be_forced : forced (replay (as_it_is to_green) selected) 2 ≡ false
unfolding opened to_green
would_not_be_forced = refl

would_be_elsewhere : local (replay (as_it_is to_green) selected) ≡ Some 212
unfolding opened to_green
would_be_elsewhere = refl

-- ## A check that does not find the same: with a cycle of 50 s an offset of 59 s breaks K17, and one of 4 s does not

abbrev with_short_cycle : Plan → Plan
with_short_cycle plan = with_value plan PatternCycleTime 1 50

breaks_k17 : first_broken (with_short_cycle to_green) ≡ Some K17
unfolding opened to_green
breaks_k17 = refl

breaks_k19 : first_broken (with_short_cycle at_local_0) ≡ Some K19
unfolding opened to_green
breaks_k19 = refl
