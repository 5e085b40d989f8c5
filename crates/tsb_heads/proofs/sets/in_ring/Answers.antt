use Rattle.std.proofs.Common.{ℕ, ◌==◌, ◌&&◌, Bool, ◌∙◌, ap}
use Rattle.tsb_objects.specs.tsb_types.Sets.{has}
use Rattle.tsb_objects.specs.tsb_plan.Plan.{ring_of}
use Rattle.tsb_objects.specs.Checked.{checked_plan}
use Rattle.tsb_heads.proofs.sets.in_ring.Goals as goal

pub returns : goal.returns
returns c = λ p.
    c.intersection.ensures p
    ∙ ap (λ (b : Bool). has c.args.set p && b) (c.ring.ensures p ∙ ap (λ (r : ℕ). ring_of (checked_plan c.args.plan.now) p == r) c.of.ensures)
