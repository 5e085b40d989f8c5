-- The runs that the laws of this crate are about: those of a plan such as the program holds, by inputs whose numbers
-- are of the program's types.
use Rattle.std.specs.Prelude.{◌≡◌, ℕ, ◌<◌, ◌≤◌, List, [], ◌∷◌}
use Rattle.tsb_step.specs.tsb_types.declared.clock_time.TheConstants.{FIRST_MOMENT, END_OF_DAYS}
use Rattle.tsb_step.specs.tsb_plan.declared.object.Object.{Object}
use Rattle.tsb_step.specs.tsb_plan.Objects.{greatest}
use Rattle.tsb_step.specs.tsb_plan.Plan.{Plan, all_counts}
use Rattle.tsb_step.specs.declared.inputs.Input.{Input}
use Rattle.tsb_step.specs.declared.inputs.Input.TheVariants.{Fault, Begin, Clock}
use Rattle.tsb_step.specs.Laws.{IsConsistent}
use Rattle.tsb_step.specs.MonitorLaws.{IsUpTo, IsLamp}
use Rattle.tsb_step.specs.Runs.{AreTaken}

-- a plan with as many of each thing as a plan in memory. It breaks no rule, gives nothing where it has no place, and no
-- value over the greatest of its object
pub record IsHeld (plan : Plan) : Type 0 where
  pub consistent : IsConsistent plan
  pub phases : plan.phase_count ≡ 16
  pub sides : plan.side_count ≡ 4
  pub counts : plan.counts ≡ all_counts
  pub bounded : (o : Object) (i : ℕ) → plan.value o i ≤ greatest o

-- a lamp is of phases 1 to 16 or of an overlap, and the station that begins is 1 to 4: the types of the program
-- say so. Where another number has to be in its range, an input that has it otherwise is refused
abbrev pub IsTyped : Input → Type 0
IsTyped (Fault lamp) = IsLamp lamp
IsTyped (Begin station) = IsUpTo 4 station
IsTyped (Clock m) = (FIRST_MOMENT ≤ m) × (m < END_OF_DAYS)
IsTyped i = Unit {0}

-- each input of a list is
abbrev pub AreTyped : List Input → Type 0
AreTyped [] = Unit {0}
AreTyped (i ∷ is) = IsTyped i × AreTyped is

-- a run from power-up; each of its inputs was taken
pub record IsRun (plan : Plan) (is : List Input) : Type 0 where
  pub plan_held : IsHeld plan
  pub taken : AreTaken plan is
  pub typed : AreTyped is
