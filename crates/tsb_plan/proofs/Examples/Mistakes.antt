-- Mistakes in the cells, the values and the indices of plans, each with an example that tells it from the definition.
use Rattle.std.specs.Prelude.{◌≡◌, ℕ, ◌+◌, ◌-◌, ◌*◌, ◌==◌, true, if◌then◌else◌, List, [], ◌∷◌, map, None, Ok, refl}
use Rattle.tsb_plan.specs.declared.object.Object.{Object}
use Rattle.tsb_plan.specs.declared.object.Object.TheVariants.{PhaseWalk, SplitTime, SplitMode, CoordCorrectionMode, CoordCorrectionLimit, ChannelControlType}
use Rattle.tsb_plan.specs.declared.object.ObjectId.{ObjectId}
use Rattle.tsb_plan.specs.declared.object.TheConstants.{PLAN_CELLS}
use Rattle.tsb_plan.specs.declared.plan.patterns.CorrectionMode.{CorrectionMode}
use Rattle.tsb_plan.specs.declared.plan.patterns.CorrectionMode.TheVariants.{AtOnce, Dwell, ShortWay, AddOnly}
use Rattle.tsb_plan.specs.declared.version.Version.{Version}
use Rattle.tsb_plan.specs.declared.version.Version.TheVariants.{One}
use Rattle.tsb_plan.specs.Objects.{objects, order, first_cell}
use Rattle.tsb_plan.specs.Parts.{correction_limit, correction_mode}
use Rattle.tsb_plan.specs.Plan.{Plan, empty, with_value, with_values}
use Rattle.tsb_plan.specs.PlanOf.{got, put_refusal}
use Rattle.tsb_plan.specs.Versions.{has_index_in, translated}

-- ## Each object has sixteen cells: phase 17 of the split times, which is phase 1 of table 2, shares one

abbrev pub cell_of_16 : Object → ℕ → ℕ
cell_of_16 o i = 16 * order o + (i - 1)

is_apart : first_cell SplitMode ≡ first_cell SplitTime + 128
unfolding first_cell objects
is_apart = refl

would_be_shared : cell_of_16 SplitTime 17 ≡ cell_of_16 SplitMode 1
would_be_shared = refl

-- ## The indices of an object count from 0: the last has no cell of the plan, and cell 0 is no one's

abbrev pub cell_from_0 : Object → ℕ → ℕ
cell_from_0 o i = first_cell o + i

is_last : first_cell ChannelControlType + (16 - 1) + 1 ≡ PLAN_CELLS
unfolding first_cell objects
is_last = refl

would_be_outside : cell_from_0 ChannelControlType 16 ≡ PLAN_CELLS
unfolding first_cell objects
would_be_outside = refl

-- ## A value is put at each index of its object

abbrev pub walk_of : ℕ → ObjectId
walk_of p = record { object = PhaseWalk; index = p }

abbrev pub with_all : Plan → Object → ℕ → ℕ → Plan
with_all plan o i v = record plan { value = λ p k. if order o == order p then v else plan.value p k }

takes_7 : put_refusal (walk_of 2) 7 ≡ None
takes_7 = refl

gives_7 : got (with_value empty PhaseWalk 2 7) (walk_of 2) ≡ Ok 7
gives_7 = refl

stays_0 : got (with_value empty PhaseWalk 2 7) (walk_of 3) ≡ Ok 0
stays_0 = refl

would_be_7 : got (with_all empty PhaseWalk 2 7) (walk_of 3) ≡ Ok 7
would_be_7 = refl

-- ## An index of version 1 stays as it is: phase 1 of table 2 becomes phase 9 of table 1

abbrev pub kept_as_it_is : Version → Object → ℕ → ℕ
kept_as_it_is v o i = i

has_9 : has_index_in One SplitTime 9 ≡ true
has_9 = refl

becomes_17 : translated One SplitTime 9 ≡ 17
becomes_17 = refl

would_stay_9 : kept_as_it_is One SplitTime 9 ≡ 9
would_stay_9 = refl

-- ## The local counter goes slower or faster without a limit as well: in steps of 0 ticks it would never be in step

-- this mode and this limit
abbrev pub correcting : ℕ → ℕ → Plan
correcting mode limit = with_values empty ((CoordCorrectionMode, 1, mode) ∷ (CoordCorrectionLimit, 1, limit) ∷ [])

-- modes 0 to 3 with that limit
abbrev pub modes_with : ℕ → List CorrectionMode
modes_with limit = map (λ mode. correction_mode (correcting mode limit)) (0 ∷ 1 ∷ 2 ∷ 3 ∷ [])

abbrev pub mode_alone : Plan → CorrectionMode
mode_alone plan =
    if plan.value CoordCorrectionMode 1 == 2 then ShortWay
    else (if plan.value CoordCorrectionMode 1 == 3 then AddOnly else AtOnce)

with_a_limit : modes_with 20 ≡ AtOnce ∷ Dwell ∷ ShortWay ∷ AddOnly ∷ []
with_a_limit = refl

-- dwell needs none
without_a_limit : modes_with 0 ≡ AtOnce ∷ Dwell ∷ AtOnce ∷ AtOnce ∷ []
without_a_limit = refl

is_no_limit : correction_limit (correcting 3 0) ≡ 0
is_no_limit = refl

would_add_nothing : mode_alone (correcting 3 0) ≡ AddOnly
would_add_nothing = refl
