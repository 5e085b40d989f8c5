use Rattle.std.proofs.Common.{◌∙◌}
use Rattle.tsb_objects.specs.Checked.{checked_plan}
use Rattle.tsb_objects.specs.tsb_plan.Plan.{Plan}
use Rattle.tsb_ring.specs.Layer.{state_of}
use Rattle.tsb_ring.specs.Promises.{given_of}
use Rattle.tsb_ring.specs.Rings.{State, Given}
use Rattle.tsb_ring.proofs.HeedLemmas.{begins_found}
use Rattle.tsb_ring.proofs.rings.Rings.begins.Goals as goal

pub returns : goal.returns
returns c =
    let plan : Plan = checked_plan c.args.plan.now in
    let given : Given = given_of plan c.args.conditions.now in
    let s : State = state_of c.args.self.now in
    c.is_agreed.ensures
    ∙ rw (c.joins-first.ensures plan, c.joins-second.ensures plan, c.commitment.ensures, c.commitment-2.ensures, c.ring_1.ensures, c.ring_2.ensures)
    (begins_found plan s given c.args.one.now c.args.two.now c.requires.one c.requires.two)
