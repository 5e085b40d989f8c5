-- What is read by an option alone does not matter while the options are 0; and the options and the objects of the
-- schedule are all that version 1 of plan texts does not have.
use Rattle.std.proofs.Common.{◌≡◌, not, ◌||◌, List, refl, sym, subst}
use Rattle.tsb_step.specs.tsb_plan.declared.object.Object.{Object}
use Rattle.tsb_step.specs.tsb_plan.declared.object.Object.TheVariants.{PhaseDynamicMaxStep}
use Rattle.tsb_step.specs.tsb_plan.Objects.{since}
use Rattle.tsb_step.specs.tsb_plan.Plan.{Plan}
use Rattle.tsb_step.specs.declared.inputs.Input.{Input}
use Rattle.tsb_step.specs.State.{State}
use Rattle.tsb_step.specs.Runs.{replay}
use Rattle.tsb_laws.specs.Differing.{DifferIn, IsSameBut}
use Rattle.tsb_laws.specs.PlainStep as plain
use Rattle.tsb_laws.specs.WithoutOptions.{is_of_options, is_of_schedule, is_of_card, is_of_version_1, HasEachAtZero, SetNoOption, SetNoOverlapOption}
use Rattle.tsb_laws.proofs.options.PlainRunLemmas.{runs_agree}
use Rattle.tsb_laws.proofs.options.ReadRunLemmas.{reads_none}

pub all_listed : (o : Object) → (is_of_options o || (is_of_schedule o || is_of_card o)) ≡ not (is_of_version_1 (since o))
all_listed PhaseDynamicMaxStep = refl
all_listed o = refl

pub alone_read : (x y : Plan) (is : List Input) → HasEachAtZero x → HasEachAtZero y → DifferIn is_of_options x y → SetNoOption is →
    SetNoOverlapOption is → IsSameBut is_of_options (replay x is) (replay y is)
alone_read x y is none other d sets out =
    subst (λ (s : State). IsSameBut is_of_options s (replay y is)) (sym (runs_agree x is none sets))
    (subst (λ (t : State). IsSameBut is_of_options (plain.replay x is) t) (sym (runs_agree y is other sets)) (reads_none x y is d out))
