use Rattle.std.proofs.Common.{◌≡◌, ◌∙◌, ap, sym, refl, Bool, Some, None, if◌then◌else◌}
use Rattle.tsb_objects.specs.Checked.{checked_plan}
use Rattle.tsb_objects.specs.tsb_plan.Plan.{Plan}
use Rattle.tsb_ring.specs.Layer.{state_of}
use Rattle.tsb_ring.specs.Next.{ends}
use Rattle.tsb_ring.specs.Promises.{given_of}
use Rattle.tsb_ring.specs.Rings.{Ring, ring_numbered, State, Given, serving}
use Rattle.tsb_ring.proofs.HeedLemmas.{leaves_found}
use Rattle.tsb_ring.proofs.rings.Rings.ending.Goals as goal

pub returns-in-Some : goal.returns-in-Some
unfolding ends
returns-in-Some c =
    let plan : Plan = checked_plan c.args.plan.now in
    let given : Given = given_of plan c.args.conditions.now in
    let s : State = state_of c.args.self.now in
    let r : Ring = ring_numbered c.args.found.now.ring in
    let own : serving plan given r ≡ Some c.in-Some.p = sym c.requires.found.own ∙ c.in-Some.is in
    rw own (c.filtered.ensures ∙ ap (λ (b : Bool). if b then Some c.in-Some.p else None)
    (c.does_end.ensures ∙ rw (c.requires.outcome.begun, leaves_found plan s given r c.args.found.now c.in-Some.p c.requires.found own) refl))
