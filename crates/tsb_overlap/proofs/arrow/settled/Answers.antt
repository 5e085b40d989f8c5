use Rattle.std.proofs.Common.{◌≡◌, ◌∙◌, ◌&&◌, ℕ, Bool, ap, sym}
use Rattle.tsb_objects.specs.tsb_types.Lists.{run_from}
use Rattle.tsb_objects.specs.tsb_types.Sets.{has}
use Rattle.tsb_objects.proofs.tsb_types.FirstLemmas.{first-same}
use Rattle.tsb_objects.specs.tsb_plan.Plan.{Plan}
use Rattle.tsb_objects.specs.tsb_plan.Parts.{is_included}
use Rattle.tsb_objects.specs.tsb_plan.PlanOf.{plan_of}
use Rattle.tsb_overlap.specs.Overlap.{Given}
use Rattle.tsb_overlap.specs.Reading.{given_by}
use Rattle.tsb_overlap.proofs.PartLemmas.{turned-part, unturned-part}
use Rattle.tsb_overlap.proofs.SeenLemmas.{greens}
use Rattle.tsb_overlap.proofs.arrow.settled.Goals as goal

pub returns-then-contains : goal.returns-then-contains
returns-then-contains c = λ omitted lights is.
    turned-part (plan_of c.args.plan.now) (given_by c.args.now c.args.seen.now omitted lights) c.args.o c.in-Some.turn c.args.now c.args.part.now c.standing.result
    (sym c.in-Some.ensures) (greens _ _ _ ∙ sym c.contains.ensures ∙ c.if-contains.true) (c.standing.ensures c.args.now)

pub returns : goal.returns
unfolding plan_of
returns c = λ omitted lights is.
    let plan : Plan = plan_of c.args.plan.now in
    let given : Given = given_by c.args.now c.args.seen.now omitted lights in
    let was : (p : ℕ) → has c.intersection.result p ≡ (is_included plan c.args.o p && has c.args.seen.now.was_green p) = λ p.
    c.intersection.ensures p ∙ ap (λ (b : Bool). b && has c.args.seen.now.was_green p) (c.included_phases.ensures p) in
    unturned-part plan given c.args.o c.in-Some.turn c.args.now c.args.part.now c.unturned.result (sym c.in-Some.ensures)
    (greens _ _ _ ∙ sym c.contains.ensures ∙ c.if-contains.false)
    (c.unturned.ensures plan given c.args.o (c.may_flash-flashes.ensures omitted lights is)
    (c.first-ended.ensures.found ∙ first-same (has c.intersection.result) (λ p. is_included plan c.args.o p && has c.args.seen.now.was_green p) (run_from 1 16) was))
