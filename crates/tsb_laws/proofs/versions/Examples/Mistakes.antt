-- Mistakes, and by computing what comes of each: an index that is not translated, and inputs beyond version 1's ranges.
use Rattle.std.specs.Prelude.{◌≡◌, ℕ, true, false, List, [], ◌∷◌, Some, None, refl}
use Rattle.tsb_step.specs.tsb_types.Sets.{all_off}
use Rattle.tsb_step.specs.tsb_types.declared.lamp.Lamp.TheVariants as lamps
use Rattle.tsb_step.specs.tsb_types.declared.lamp.SignalColor.TheVariants as signals
use Rattle.tsb_step.specs.tsb_types.declared.refusal.Refusal.TheVariants.{NoSuchObject}
use Rattle.tsb_step.specs.tsb_plan.declared.object.Object.{Object}
use Rattle.tsb_step.specs.tsb_plan.declared.object.Object.TheVariants.{PhaseEnabled, PhaseMinRecall, PatternSplitNumber, SplitTime, SplitCoordPhase}
use Rattle.tsb_step.specs.tsb_plan.Plan.{Plan, is_enabled, with_value, with_values}
use Rattle.tsb_step.specs.tsb_plan.Quad.{quad}
use Rattle.tsb_step.specs.tsb_rules.declared.rules.Rule.TheVariants.{K18}
use Rattle.tsb_step.specs.tsb_rules.Rules.{first_broken}
use Rattle.tsb_step.specs.tsb_heads.declared.monitor.Trip.TheVariants.{Conflict}
use Rattle.tsb_step.specs.tsb_coord.Coordinated.{force_off, asks_hold}
use Rattle.tsb_step.specs.declared.inputs.Input.{Input}
use Rattle.tsb_step.specs.declared.inputs.Input.TheVariants.{Tick, Fault, Begin, Set}
use Rattle.tsb_step.specs.Step.{verdict}
use Rattle.tsb_step.specs.Runs.{replay}
use Rattle.tsb_laws.specs.BuiltIn.{narrow_quad, widened_puts}
use Rattle.tsb_laws.proofs.versions.Examples.Examples.{opened}

-- ## An index that is not translated

-- split table 2, in version 1 at indices 9 to 16, and pattern 1, which uses it
abbrev second_table : List (Object × ℕ × ℕ)
second_table =
    (SplitTime, 9, 15) ∷ (SplitTime, 10, 25) ∷ (SplitTime, 11, 15) ∷ (SplitTime, 12, 25) ∷
    (SplitTime, 13, 15) ∷ (SplitTime, 14, 25) ∷ (SplitTime, 15, 15) ∷ (SplitTime, 16, 25) ∷
    (SplitCoordPhase, 10, 1) ∷ (SplitCoordPhase, 14, 1) ∷ (PatternSplitNumber, 1, 2) ∷ []

unfoldable narrow_plan : Plan
unfolding opened
narrow_plan = with_values narrow_quad second_table

unfoldable wide_plan : Plan
unfolding opened
wide_plan = with_values quad (widened_puts second_table)

-- the same numbers, taken for phases 9 to 16 of table 1
unfoldable not_translated : Plan
unfolding opened
not_translated = with_values quad second_table

-- phase 2 is held, and is forced off 40 ticks before its split ends
narrow_holds : asks_hold narrow_plan (Some 1) 2 ≡ true
unfolding opened narrow_plan
narrow_holds = refl

wide_holds : asks_hold wide_plan (Some 1) 2 ≡ true
unfolding opened wide_plan
wide_holds = refl

narrow_forces : force_off narrow_plan (Some 1) 2 ≡ Some 760
unfolding opened narrow_plan
narrow_forces = refl

wide_forces : force_off wide_plan (Some 1) 2 ≡ Some 760
unfolding opened wide_plan
wide_forces = refl

-- but is not, where the indices are not translated
holds_none : asks_hold not_translated (Some 1) 2 ≡ false
unfolding opened not_translated
holds_none = refl

forces_none : force_off not_translated (Some 1) 2 ≡ None
unfolding opened not_translated
forces_none = refl

-- and splits then do not hold their phases
is_right : first_broken narrow_plan ≡ None
unfolding opened narrow_plan
is_right = refl

is_right_too : first_broken wide_plan ≡ None
unfolding opened wide_plan
is_right_too = refl

is_wrong : first_broken not_translated ≡ Some K18
unfolding opened not_translated
is_wrong = refl

-- ## Inputs beyond version 1's ranges

-- a lamp of phase 9, which the bench of 8 phases does not see, trips that of 16
abbrev lamp_of_9 : List Input
lamp_of_9 = Fault (Some (lamps.Phase 9 signals.Green)) ∷ Tick all_off ∷ []

is_not_seen : (replay narrow_quad lamp_of_9).trip ≡ None
unfolding opened
is_not_seen = refl

is_seen : (replay quad lamp_of_9).trip ≡ Some (record { cause = Conflict 2 9; tick = 1 })
unfolding opened
is_seen = refl

-- a value of phase 9, which version 1 has not, is refused there and taken here
abbrev set_9 : Input
set_9 = Set 1 (record { object = PhaseMinRecall; index = 9 }) 1

is_refused : verdict (replay narrow_quad (Begin 1 ∷ [])) set_9 ≡ Some NoSuchObject
unfolding opened
is_refused = refl

is_taken : verdict (replay quad (Begin 1 ∷ [])) set_9 ≡ None
unfolding opened
is_taken = refl

-- ## A wide plan that enables phase 9 too

unfoldable with_9 : Plan
with_9 = with_value quad PhaseEnabled 9 1

rests_9 : is_enabled (replay quad (Tick all_off ∷ [])).plan 9 ≡ false
unfolding opened
rests_9 = refl

would_be_enabled : is_enabled (replay with_9 (Tick all_off ∷ [])).plan 9 ≡ true
unfolding opened with_9
would_be_enabled = refl
